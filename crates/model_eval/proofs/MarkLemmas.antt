-- Places that are marked: one more, the arguments of one, and all parts in the end.
use Rattle.std.proofs.Common.{◌≡◌, ℕ, zero, suc, ◌+◌, ◌<◌, ◌≤◌, List, [], ◌∷◌, ◌++◌, length, get_or, set, take, replicate, All, max, Bool, true, false, inl, inr, subst, sym, ap, ◌∙◌, arith, refl}
use Rattle.std.proofs.lemmas.Bool.{cases_eq, cases_lt}
use Rattle.std.proofs.lemmas.Grind.{common_steps}
use Rattle.std.proofs.lemmas.List.Elements.{All-push, All-weaker}
use Rattle.std.proofs.lemmas.List.{length-set, length_push, get_or_append_left, get_or_push, get_or-set_same, get_or-set_other, get_or_past, length-replicate, get_or-replicate, take_more, get_or_default}
use Rattle.smt_meaning.specs.declared.terms.Head.{Head}
use Rattle.smt_meaning.specs.Term.{Tree, Trees, node, none, more, tree_at}
use Rattle.smt_meaning.specs.Nodes.{pick}
use Rattle.term_store.specs.Terms.{tree_with, AreDifferent}
use Rattle.model_eval.specs.Unfit.{IsPart, IsPartOfOne, IsPartOfAny}
use Rattle.model_eval.specs.Walk.{IsOneOf, IsArgument, is_marked, IsMarkedPlace, HasMarkedArguments, AreMarked, AreAdded}

-- ---- marks on a list of places

stays_marked : (marks : List Bool) (p i : ℕ) → is_marked marks i ≡ true → is_marked (set marks p true) i ≡ true
stays_marked marks p i h =
    elim (cases_eq i p) [
      | inr other ↦ get_or-set_other marks p i true false other ∙ h
      | inl same ↦
          elim (cases_lt p (length marks)) [
            | inl short ↦ subst (λ k. is_marked (set marks p true) k ≡ true) (sym same) (get_or-set_same marks p true false short)
            | inr long ↦ absurd (past (sym (get_or_past marks i false (omega arith)) ∙ h))
          ]
    ]
  where
    past : false ≡ true → ⊥
    past e = cc

pub added_none : (marks : List Bool) → AreAdded [] marks marks
added_none marks = record {
  size = refl;
  kept = λ i h. h;
  added = λ k d h. absurd (omega arith);
  others = λ i h. inl h;
}

added_push : (ps : List ℕ) (p : ℕ) (marks marks' : List Bool) → AreAdded ps marks marks' → p < length marks' → AreAdded (ps ++ p ∷ []) marks (set marks' p true)
added_push ps p marks marks' a short = record {
  size = length-set marks' p true ∙ a.size;
  kept = λ i h. stays_marked marks' p i (a.kept i h);
  added = λ k d h.
      elim (cases_lt k (length ps)) [
        | inl below ↦ rw (get_or_append_left ps (p ∷ []) d k below) (stays_marked marks' p (get_or ps k d) (a.added k d below))
        | inr above ↦ rw (get_or_push ps p d k (omega (arith, length_push ps p))) (get_or-set_same marks' p true false short)
      ];
  others = λ i h.
      elim (cases_eq i p) [
        | inl same ↦ inr (length ps, (omega (arith, length_push ps p)), (get_or_push ps p 0 (length ps) refl ∙ sym same))
        | inr other ↦
            elim (a.others i (sym (get_or-set_other marks' p i true false other) ∙ h)) [
              | inl before ↦ inl before
              | inr w ↦ inr (w.0, (omega (arith, length_push ps p)), (get_or_append_left ps (p ∷ []) 0 w.0 w.1 ∙ w.2))
            ]
      ];
}

pub added_more : (places : List ℕ) (i : ℕ) (marks marks' : List Bool) → AreAdded (take i places) marks marks' → i < length places → get_or places i 0 < length marks'
    → AreAdded (take (i + 1) places) marks (set marks' (get_or places i 0) true)
added_more places i marks marks' a short within =
    rw (take_more places i 0 short) (added_push (take i places) (get_or places i 0) marks marks' a within)

-- ---- parts and arguments

pub part_self : (t : Tree) → IsPart t t
part_self (node h ts) = inl refl

one_is_part : (s : Tree) (ts : Trees) → IsOneOf s ts → IsPartOfOne s ts
one_is_part s none h = h
one_is_part s (more t ts) h =
    elim h [ inl here ↦ inl (subst (λ x. IsPart s x) here (part_self s)) | inr later ↦ inr (one_is_part s ts later) ]

argument_is_part : (s t : Tree) → IsArgument s t → IsPart s t
argument_is_part s (node h ts) a = inr (one_is_part s ts a)

mutual
  -- an argument of a part is a part
  pub part_argument : (s t u : Tree) → IsArgument s t → IsPart t u → IsPart s u
  part_argument s t (node h ts) a p =
      elim p [
        | inl same ↦ subst (IsPart s) same (argument_is_part s t a)
        | inr inner ↦ inr (part_argument_of_one s t ts a inner)
      ]

  part_argument_of_one : (s t : Tree) (us : Trees) → IsArgument s t → IsPartOfOne t us → IsPartOfOne s us
  part_argument_of_one s t none a p = p
  part_argument_of_one s t (more u us) a p =
      elim p [ inl first ↦ inl (part_argument s t u a first) | inr later ↦ inr (part_argument_of_one s t us a later) ]

-- a tree that is picked stands at one of the places
picked : (trees : List Tree) (ps : List ℕ) (u : Tree) → IsOneOf u (pick trees ps) → (k : ℕ) × (k < length ps) × (tree_at trees (get_or ps k 0) ≡ u)
picked trees [] u h = absurd h
picked trees (p ∷ ps) u h =
    elim h [
      | inl here ↦ (0, (omega arith), sym here)
      | inr later ↦ (let w = picked trees ps u later in (suc w.0, (let less = w.1 in omega arith), w.2))
    ]

pub picks : (trees : List Tree) (ps : List ℕ) (k : ℕ) → k < length ps → IsOneOf (tree_at trees (get_or ps k 0)) (pick trees ps)
picks trees [] k h = absurd (omega arith)
picks trees (p ∷ ps) zero h = inl refl
picks trees (p ∷ ps) (suc k) h = inr (picks trees ps k (omega arith))

-- ---- the marks of a term's parts

-- the top of one more
pub top_more : (top : ℕ) (xs : List ℕ) (i : ℕ) → i < length xs → All (λ k. k < top) (take i xs) → All (λ k. k < max top (get_or xs i 0 + 1)) (take (i + 1) xs)
top_more top xs i short h =
    rw (take_more xs i 0 short)
    (All-push (λ k. k < max top (get_or xs i 0 + 1)) (take i xs) (get_or xs i 0)
    (All-weaker (λ k. k < top) (λ k. k < max top (get_or xs i 0 + 1)) (λ x l. omega (arith, l)) (take i xs) h) (omega arith))

-- the whole of a list has been passed
pub take_past : (i : ℕ) (xs : List ℕ) → length xs ≤ i → take i xs ≡ xs
take_past i xs l = grind (arith, common_steps)

pub marked_start : (trees : List Tree) (terms : List ℕ) (top : ℕ) (marks : List Bool) → AreAdded terms (replicate top false) marks → AreMarked trees terms top top marks
marked_start trees terms top marks added = record {
  size = added.size ∙ length-replicate top false;
  roots = added.added;
  parts = λ i h.
      elim (added.others i h) [
        | inl before ↦ absurd (past (sym (unmarked top i) ∙ before))
        | inr w ↦ (w.0, w.1, subst (λ k. IsPart (tree_at trees i) (tree_at trees k)) (sym w.2) (part_self (tree_at trees i)))
      ];
  closed = λ i above h. absurd (past (sym (get_or_past marks i false (subst (λ k. k ≤ i) (sym (added.size ∙ length-replicate top false)) above)) ∙ h));
}
  where
    past : false ≡ true → ⊥
    past e = cc

    unmarked : (n i : ℕ) → get_or (replicate n false) i false ≡ false
    unmarked n i = elim (cases_lt i n) [ inl less ↦ get_or-replicate n i false false less | inr more' ↦ get_or_past (replicate n false) i false (subst (λ k. k ≤ i) (sym (length-replicate n false)) more') ]

pub started : (trees : List Tree) (terms : List ℕ) (top : ℕ) (old mid new : List Bool) → old ≡ replicate top false → new ≡ mid → AreAdded terms old mid → AreMarked trees terms top top new
started trees terms top old mid new e f a = marked_start trees terms top new (subst (λ x. AreAdded terms x new) e (subst (λ x. AreAdded terms old x) (sym f) a))

-- marks below their own number
pub by_size : (trees : List Tree) (terms : List ℕ) (top : ℕ) (marks : List Bool) → AreMarked trees terms top top marks → AreMarked trees terms (length marks) (length marks) marks
by_size trees terms top marks m = subst (λ n. AreMarked trees terms n n marks) (sym m.size) m

still : (trees : List Tree) (marks marks' : List Bool) (i : ℕ) → ((k : ℕ) → is_marked marks k ≡ true → is_marked marks' k ≡ true)
    → HasMarkedArguments trees marks i → HasMarkedArguments trees marks' i
still trees marks marks' i kept h u a =
    (let w = h u a in (w.0, record { within = w.1.within; here = w.1.here; marked = kept w.0 w.1.marked }))

pub marked_node : (trees : List Tree) (terms : List ℕ) (top i bound : ℕ) (marks marks' : List Bool) (head : Head) (ps : List ℕ) → AreMarked trees terms top bound marks → bound ≡ i + 1 → i < length trees
    → is_marked marks i ≡ true → tree_at trees i ≡ tree_with trees head ps → All (λ k. k < i) ps → AreAdded ps marks marks' → AreMarked trees terms top i marks'
marked_node trees terms top i bound marks marks' head ps a e short here tree below added = record {
  size = added.size ∙ a.size;
  roots = λ k d h. added.kept (get_or terms k d) (a.roots k d h);
  parts = λ j h.
      elim (added.others j h) [
        | inl before ↦ a.parts j before
        | inr w ↦
            (let argument : IsArgument (tree_at trees j) (tree_at trees i) =
            subst (IsArgument (tree_at trees j)) (sym tree) (subst (λ k. IsOneOf (tree_at trees k) (pick trees ps)) w.2 (picks trees ps w.0 w.1)) in
            let part = a.parts i here in
            (part.0, part.1, part_argument (tree_at trees j) (tree_at trees i) (tree_at trees (get_or terms part.0 0)) argument part.2))
      ];
  closed = λ j above h.
      elim (cases_eq j i) [
        | inl same ↦
            subst (HasMarkedArguments trees marks') (sym same)
            (λ u argument.
            (let w = picked trees ps u (subst (IsArgument u) tree argument) in
            let less = below w.0 0 w.1 in
            (get_or ps w.0 0, record { within = omega arith; here = w.2; marked = added.added w.0 0 w.1 })))
        | inr other ↦
            elim (added.others j h) [
              | inl before ↦ still trees marks marks' j added.kept (a.closed j (omega arith) before)
              | inr w ↦ absurd (let less = below w.0 0 w.1 in omega arith)
            ]
      ];
}

pub unmarked_node : (trees : List Tree) (terms : List ℕ) (top i bound : ℕ) (marks : List Bool) → AreMarked trees terms top bound marks → bound ≡ i + 1 → is_marked marks i ≡ false → AreMarked trees terms top i marks
unmarked_node trees terms top i bound marks a e absent = record {
  size = a.size;
  roots = a.roots;
  parts = a.parts;
  closed = λ j above h.
      elim (cases_eq j i) [
        | inl same ↦ absurd (past (sym absent ∙ ap (is_marked marks) (sym same) ∙ h))
        | inr other ↦ a.closed j (omega arith) h
      ];
}
  where
    past : false ≡ true → ⊥
    past e = cc

-- ---- every part is marked

places_same : (ts : List Tree) (i j : ℕ) → AreDifferent ts → i < length ts → j < length ts → tree_at ts i ≡ tree_at ts j → i ≡ j
places_same ts i j different h k e =
    elim (cases_lt i j) [
      | inl less ↦ absurd (different i j less k e)
      | inr more' ↦ elim (cases_lt j i) [ inl less ↦ absurd (different j i less h (sym e)) | inr less ↦ omega arith ]
    ]

mutual
  found : (trees : List Tree) (marks : List Bool) (t : Tree) (i j : ℕ) → AreDifferent trees → ((k : ℕ) → is_marked marks k ≡ true → HasMarkedArguments trees marks k)
      → IsMarkedPlace trees marks t i → j < length trees → IsPart (tree_at trees j) t → is_marked marks j ≡ true
  found trees marks (node h ts) i j different closed at short p =
      elim p [
        | inl same ↦ subst (λ k. is_marked marks k ≡ true) (places_same trees i j different at.within short (at.here ∙ sym same)) at.marked
        | inr inner ↦
            found_in_one trees marks ts j different closed
            (λ u one. closed i at.marked u (subst (IsArgument u) (sym at.here) one)) short inner
      ]

  found_in_one : (trees : List Tree) (marks : List Bool) (ts : Trees) (j : ℕ) → AreDifferent trees → ((k : ℕ) → is_marked marks k ≡ true → HasMarkedArguments trees marks k)
      → ((u : Tree) → IsOneOf u ts → (k : ℕ) × IsMarkedPlace trees marks u k) → j < length trees → IsPartOfOne (tree_at trees j) ts → is_marked marks j ≡ true
  found_in_one trees marks none j different closed at short p = absurd p
  found_in_one trees marks (more t ts) j different closed at short p =
      elim p [
        | inl first ↦ (let w = at t (inl refl) in found trees marks t w.0 j different closed w.1 short first)
        | inr later ↦ found_in_one trees marks ts j different closed (λ u one. at u (inr one)) short later
      ]

pub part_is_marked : (trees : List Tree) (terms : List ℕ) (top j : ℕ) (marks : List Bool) → AreMarked trees terms top 0 marks → AreDifferent trees → All (λ k. k < length trees) terms → j < length trees
    → IsPartOfAny trees terms (tree_at trees j) → is_marked marks j ≡ true
part_is_marked trees terms top j marks a different within short p =
    let root = get_or terms p.0 0 in
    found trees marks (tree_at trees root) root j different (λ k h. a.closed k (omega arith) h) (record { within = within p.0 0 p.1; here = refl; marked = a.roots p.0 0 p.1 }) short p.2

-- the arguments of a marked place are marked
pub arguments_marked : (trees : List Tree) (marks : List Bool) (i : ℕ) (head : Head) (ps : List ℕ) → AreDifferent trees → HasMarkedArguments trees marks i → i < length trees
    → tree_at trees i ≡ tree_with trees head ps → All (λ k. k < i) ps → All (λ k. is_marked marks k ≡ true) ps
arguments_marked trees marks i head ps different closed short tree below k d h =
    let less : get_or ps k 0 < i = below k 0 h in
    let w = closed (tree_at trees (get_or ps k 0)) (subst (IsArgument (tree_at trees (get_or ps k 0))) (sym tree) (picks trees ps k h)) in
    let same : w.0 ≡ get_or ps k 0 = places_same trees w.0 (get_or ps k 0) different w.1.within (omega arith) w.1.here in
    subst (λ n. is_marked marks n ≡ true) (same ∙ get_or_default ps k 0 d h) w.1.marked
