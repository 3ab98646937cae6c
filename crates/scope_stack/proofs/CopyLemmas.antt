-- Copies of terms, and assertions that are made of them.
use Rattle.std.proofs.Common.{◌≡◌, ◌∙◌, refl, ap, ap₂, sym, subst, ℕ, zero, suc, ◌+◌, ◌-◌, ◌<◌, ◌≤◌, Bool, true, false, List, [], ◌∷◌, ◌++◌, map, take, drop, length, slice_index, ◌⊎◌, arith, All, inl, inr, IsTrue, Some}
use Rattle.std.specs.Prelude.{if◌then◌else◌}
use Rattle.std.proofs.lemmas.List.{take-map, length_push, get_or_push, map-append}
use Rattle.std.proofs.lemmas.List.Elements.{All-head, All-tail, All-nil, All-cons, All-get_or, All-from_get_or}
use Rattle.smt_meaning.specs.declared.values.Sort.{Sort}
use Rattle.smt_meaning.specs.declared.values.Sort.TheVariants.{Bool as Truths}
use Rattle.smt_meaning.specs.declared.terms.Operator.TheVariants.{False}
use Rattle.smt_meaning.specs.declared.terms.Head.{Head}
use Rattle.smt_meaning.specs.declared.terms.Head.TheVariants.{Theory}
use Rattle.smt_meaning.specs.Declaration.{Declaration}
use Rattle.smt_meaning.specs.Term.{Tree, Trees, node, none, more, tree_at}
use Rattle.smt_meaning.specs.Nodes.{pick}
use Rattle.smt_meaning.specs.TreeShape.{is_among, with_tree, is_linear}
use Rattle.smt_meaning.specs.Parts.{IsPart, IsPartOfOne, IsOneOf, IsArgument, StandsBelow, AreInOrder}
use Rattle.smt_meaning.specs.Signature.{tree_sort, HasNoIdTwice}
use Rattle.smt_meaning.specs.Stack.{Assertion as Asserted, Frame, signature_of, assertions_of}
use Rattle.smt_sorts.specs.Names.{Names}
use Rattle.smt_laws.specs.Numerals.{numerals_fit}
use Rattle.term_store.specs.Terms.{Terms, tree_with, AreDifferent, IsPlace}
use Rattle.term_store.proofs.NodeLemmas.{places_same}
use Rattle.term_store.proofs.PlaceLemmas.{among_at}
use Rattle.scope_stack.specs.declared.answers.Assertion.{Assertion}
use Rattle.scope_stack.specs.Pieces.{pieces, all_of}
use Rattle.scope_stack.specs.Inside.{asserted_by, frames_by, stack_by, IsWithin}
use Rattle.scope_stack.specs.Facts.{HasGivenSymbols, HaveGivenSymbols, IsKept}
use Rattle.scope_stack.specs.Shown.{IsLawful}
use Rattle.scope_stack.specs.Seen.{AreAssertions, IsSeen, IsFew, names_of, IsPartOf, AreAllAmong, AreCopies, AreMoved}
use Rattle.scope_stack.proofs.FrameLemmas.{tree_at-longer, shown_terms}
use Rattle.scope_stack.proofs.SeenLemmas.{names_back}
use Rattle.scope_stack.proofs.PieceLemmas.{all-pieces, length-pieces}

-- ---- one tree more

stands_last : (us : List Tree) (t : Tree) → tree_at (us ++ t ∷ []) (length us) ≡ t
stands_last us t = get_or_push us t _ (length us) refl

-- an argument of the new tree stands among those before
one_of_pick : (us : List Tree) (u : Tree) (is : List ℕ) → All (λ i. i < length us) is → IsOneOf u (pick us is) → StandsBelow us (length us) u
one_of_pick us u [] h k = absurd k
one_of_pick us u (i ∷ is) h (inl e) = let lt : i < length us = All-head (λ j. j < length us) i is h in (i, lt, lt, sym e)
one_of_pick us u (i ∷ is) h (inr k) = one_of_pick us u is (All-tail (λ j. j < length us) i is h) k

below_longer : (us : List Tree) (t u : Tree) (i : ℕ) → StandsBelow us i u → StandsBelow (us ++ t ∷ []) i u
below_longer us t u i s = (s.0, s.1, let long : length (us ++ t ∷ []) ≡ length us + 1 = length_push us t in let lt : s.0 < length us = s.2 in omega (arith, long, lt), tree_at-longer us (t ∷ []) s.0 s.2 ∙ s.3)

at_or_before : (i n : ℕ) → i < n + 1 → (i < n) ⊎ (i ≡ n)
at_or_before zero zero lt = inr refl
at_or_before zero (suc n) lt = inl (omega arith)
at_or_before (suc i) zero lt = absurd (omega (arith, lt))
at_or_before (suc i) (suc n) lt = further (at_or_before i n (omega (arith, lt)))
  where
    further : (i < n) ⊎ (i ≡ n) → (suc i < suc n) ⊎ (suc i ≡ suc n)
    further (inl l) = inl (omega (arith, l))
    further (inr e) = inr (ap suc e)

after_with : (us : List Tree) (h : Head) (is : List ℕ) → AreInOrder us → All (λ i. i < length us) is
    → (i : ℕ) (u : Tree) → (i < length us) ⊎ (i ≡ length us) → IsArgument u (tree_at (us ++ tree_with us h is ∷ []) i) → StandsBelow (us ++ tree_with us h is ∷ []) i u
after_with us h is order within i u (inl lt) k =
    below_longer us (tree_with us h is) u i (order.after_arguments i u lt (subst (IsArgument u) (tree_at-longer us (tree_with us h is ∷ []) i lt) k))
after_with us h is order within i u (inr e) k =
    let here : tree_at (us ++ tree_with us h is ∷ []) i ≡ tree_with us h is = ap (tree_at (us ++ tree_with us h is ∷ [])) e ∙ stands_last us (tree_with us h is) in
    subst (λ n. StandsBelow (us ++ tree_with us h is ∷ []) n u) (sym e)
    (below_longer us (tree_with us h is) u (length us) (one_of_pick us u is within (subst (IsArgument u) here k)))

-- where they are different, each stands after its arguments as before
order_after : (us : List Tree) (h : Head) (is : List ℕ) → AreInOrder us → All (λ i. i < length us) is → AreDifferent (us ++ tree_with us h is ∷ []) → AreInOrder (us ++ tree_with us h is ∷ [])
order_after us h is order within d =
    record {
      different = λ i j p q e. places_same (us ++ tree_with us h is ∷ []) i j d p q e;
      after_arguments = λ i u lt k.
          after_with us h is order within i u (at_or_before i (length us) (let long : length (us ++ tree_with us h is ∷ []) ≡ length us + 1 = length_push us (tree_with us h is) in omega (arith, long, lt))) k;
    }

-- ---- copies of arguments

pub pick_copies : (ts us : List Tree) (places js : List ℕ) → AreCopies ts us places → All (λ j. j < length us) js → pick us js ≡ pick ts (map (slice_index places) js)
pick_copies ts us places [] c among = refl
pick_copies ts us places (j ∷ js) c among =
    ap₂ more (c.copies j (All-head (λ k. k < length us) j js among)) (pick_copies ts us places js c (All-tail (λ k. k < length us) j js among))

-- ---- what all terms have

pub copies_among : (ts us : List Tree) (places : List ℕ) → AreCopies ts us places → All (λ i. i < length ts) places → AreAllAmong us ts
copies_among ts us places c within i lt =
    let few : length us ≤ length places = c.few in
    (slice_index places i, (All-get_or (λ j. j < length ts) places i 0 (omega (arith, lt, few)) within, c.copies i lt))

pub among_given : (n : ℕ) (ts us : List Tree) → AreAllAmong us ts → HaveGivenSymbols n ts → HaveGivenSymbols n us
among_given n ts us among given i lt = let a = among i lt in subst (HasGivenSymbols n) (sym a.1.1) (given a.0 a.1.0)

all_among : (P : Tree → Type 0) (ts us : List Tree) → AreAllAmong us ts → All P ts → All P us
all_among P ts us among all =
    All-from_get_or P us (node (Theory False) none)
    (λ i lt. let a = among i lt in subst P (sym a.1.1) (All-get_or P ts a.0 (node (Theory False) none) a.1.0 all))

-- ---- one copy more

copies_with : (ts us : List Tree) (t : Tree) (places : List ℕ) → AreCopies ts us places → length us < length places → tree_at ts (slice_index places (length us)) ≡ t → AreInOrder (us ++ t ∷ [])
    → AreCopies ts (us ++ t ∷ []) places
copies_with ts us t places c room same order =
    let long : length (us ++ t ∷ []) ≡ length us + 1 = length_push us t in
    record {
      few = omega (arith, long, room);
      copies = λ i lt. one i (at_or_before i (length us) (omega (arith, long, lt)));
      in_order = order;
    }
  where
    one : (i : ℕ) → (i < length us) ⊎ (i ≡ length us) → tree_at (us ++ t ∷ []) i ≡ tree_at ts (slice_index places i)
    one i (inl lt) = tree_at-longer us (t ∷ []) i lt ∙ c.copies i lt
    one i (inr e) = ap (tree_at (us ++ t ∷ [])) e ∙ stands_last us t ∙ sym same ∙ ap (λ n. tree_at ts (slice_index places n)) (sym e)

pub copied_next : (ts us vs : List Tree) (place : ℕ) (h : Head) (places is js : List ℕ) → AreCopies ts us places → length us < length places
    → tree_at ts (slice_index places (length us)) ≡ tree_with ts h is → map (slice_index places) js ≡ is → All (λ j. j < length us) js
    → vs ≡ with_tree us (tree_with us h js) → AreDifferent vs → IsPlace vs place (tree_with us h js) → place ≡ length us
    → AreCopies ts vs places
copied_next ts us vs place h places is js c room tree e among grown different at next =
    subst (λ ws. AreCopies ts ws places) (sym grown) (go (is_among new us) (subst AreDifferent grown different) (subst (λ ws. IsPlace ws place new) grown at))
  where
    new : Tree
    new = tree_with us h js

    same : tree_at ts (slice_index places (length us)) ≡ new
    same = tree ∙ ap (λ ks. tree_with ts h ks) (sym e) ∙ ap (node h) (sym (pick_copies ts us places js c among))

    go : (b : Bool) → AreDifferent (if b then us else us ++ new ∷ []) → IsPlace (if b then us else us ++ new ∷ []) place new → AreCopies ts (if b then us else us ++ new ∷ []) places
    go true d p = let lt : place < length us = p.0 in absurd (omega (arith, lt, next))
    go false d p = copies_with ts us new places c room same (order_after us h js c.in_order among d)

-- ---- assertions

map-drop : {X Y : Type 0} (f : X → Y) (n : ℕ) (xs : List X) → drop n (map f xs) ≡ map f (drop n xs)
map-drop f zero xs = refl
map-drop f (suc n) [] = refl
map-drop f (suc n) (x ∷ xs) = map-drop f n xs

frames_none : (ts us : List Tree) (dss : List (List Declaration)) → frames_by us dss [] ≡ frames_by ts dss []
frames_none ts us [] = refl
frames_none ts us (ds ∷ dss) = ap (λ r. record { declared = ds; asserted = [] } ∷ r) (frames_none ts us dss)

frames_moved : (ts us : List Tree) (dss : List (List Declaration)) (at : ℕ) (xs ys : List Assertion) (ss : List ℕ) → map (asserted_by us) ys ≡ map (asserted_by ts) xs
    → frames_by us dss (pieces at ys ss) ≡ frames_by ts dss (pieces at xs ss)
frames_moved ts us [] at xs ys ss e = refl
frames_moved ts us (ds ∷ dss) at xs ys [] e = ap₂ (λ zs r. record { declared = ds; asserted = zs } ∷ r) e (frames_none ts us dss)
frames_moved ts us (ds ∷ dss) at xs ys (s ∷ ss) e =
    ap₂ (λ zs r. record { declared = ds; asserted = zs } ∷ r)
    (sym (take-map (asserted_by us) (s - at) ys) ∙ ap (take (s - at)) e ∙ take-map (asserted_by ts) (s - at) xs)
    (frames_moved ts us dss s (drop (s - at) xs) (drop (s - at) ys) ss (sym (map-drop (asserted_by us) (s - at) ys) ∙ ap (drop (s - at)) e ∙ map-drop (asserted_by ts) (s - at) xs))

pub moved_pieces : (ts us : List Tree) (xs ys : List Assertion) (ss rs : List ℕ) → map (asserted_by us) ys ≡ map (asserted_by ts) xs → All (IsWithin us) ys → rs ≡ ss
    → AreMoved ts us (pieces 0 xs ss) (pieces 0 ys rs)
moved_pieces ts us xs ys ss rs e within same =
    rw same
    (record {
      as_many = length-pieces 0 ys ss ∙ sym (length-pieces 0 xs ss);
      within = subst (All (IsWithin us)) (sym (all-pieces 0 ys ss)) within;
      frames = λ dss. frames_moved ts us dss 0 xs ys ss e;
    })

pub moved_next : (ts us : List Tree) (xs ys : List Assertion) (x y : Assertion) → map (asserted_by us) ys ≡ map (asserted_by ts) xs → y.text ≡ x.text → tree_at us y.term ≡ tree_at ts x.term
    → map (asserted_by us) (ys ++ y ∷ []) ≡ map (asserted_by ts) (xs ++ x ∷ [])
moved_next ts us xs ys x y e text term =
    map-append (asserted_by us) ys (y ∷ []) ∙ ap₂ (λ bs (a : Asserted). bs ++ a ∷ []) e (ap₂ (λ b (c : Tree). record { text = b; term = c }) text term) ∙ sym (map-append (asserted_by ts) xs (x ∷ []))

-- ---- parts

mutual
  parts_stand : (us : List Tree) (t u : Tree) (i : ℕ) → AreInOrder us → i < length us → tree_at us i ≡ t → IsPart u t → IsTrue (is_among u us)
  parts_stand us (node h ts) u i order lt e (inl same) = (among_at u us i lt (e ∙ sym same))
  parts_stand us (node h ts) u i order lt e (inr k) = parts_of_all us ts u order (λ v one. let s = order.after_arguments i v lt (subst (IsArgument v) (sym e) one) in (s.0, s.2, s.3)) k

  parts_of_all : (us : List Tree) (ts : Trees) (u : Tree) → AreInOrder us → ((v : Tree) → IsOneOf v ts → (j : ℕ) × (j < length us) × (tree_at us j ≡ v)) → IsPartOfOne u ts → IsTrue (is_among u us)
  parts_of_all us none u order stand k = absurd k
  parts_of_all us (more t ts) u order stand (inl k) = let s = stand t (inl refl) in parts_stand us t u s.0 order s.1 s.2 k
  parts_of_all us (more t ts) u order stand (inr k) = parts_of_all us ts u order (λ v one. stand v (inr one)) k

all_parts : (us : List Tree) (xs : List Assertion) → AreInOrder us → All (IsWithin us) xs
    → All (λ (t : Tree). (u : Tree) → IsPart u t → IsTrue (is_among u us)) (map (λ (a : Assertion). tree_at us a.term) xs)
all_parts us [] order h = All-nil (λ (t : Tree). (u : Tree) → IsPart u t → IsTrue (is_among u us))
all_parts us (x ∷ xs) order h =
    All-cons (λ (t : Tree). (u : Tree) → IsPart u t → IsTrue (is_among u us)) (tree_at us x.term) (map (λ (a : Assertion). tree_at us a.term) xs)
    (λ u k. parts_stand us (tree_at us x.term) u x.term order (All-head (IsWithin us) x xs h) refl k) (all_parts us xs order (All-tail (IsWithin us) x xs h))

-- ---- a part of a stack

-- where declarations are global or not
module _ {global : Bool} where
  pub seen_of_few : (t : Names) (store few : Terms) (xss yss : List (List Assertion)) (rs : List Sort) (ls : List ℕ) → AreAssertions t store xss → IsLawful (stack_by global t store.trees xss)
      → IsFew t store.trees xss few yss rs ls → IsSeen global t few yss rs ls
  seen_of_few t store few xss yss rs ls h lawful f =
      let many : length yss ≡ length t.levels = f.moved.as_many ∙ h.as_many in
      let same : frames_by few.trees t.levels yss ≡ frames_by store.trees t.levels xss = f.moved.frames t.levels in
      record {
        stack = record { limit = f.limit; as_many = many; some = h.some; few = h.few; within = f.moved.within };
        lawful = record {
          no_id_twice = subst (λ (fs : List Frame). HasNoIdTwice (signature_of fs)) (sym same) lawful.no_id_twice;
          truths = subst (λ (fs : List Frame). All (λ (u : Tree). tree_sort (signature_of fs) u ≡ Some Truths) (assertions_of fs)) (sym same) lawful.truths;
          in_order = f.in_order;
          numerals = all_among (λ (u : Tree). IsTrue (numerals_fit u)) store.trees few.trees f.among lawful.numerals;
          linear = all_among (λ (u : Tree). IsTrue (is_linear u)) store.trees few.trees f.among lawful.linear;
          parts = subst (All (λ (u : Tree). (v : Tree) → IsPart v u → IsTrue (is_among v few.trees))) (shown_terms few.trees t.levels yss many) (all_parts few.trees (all_of yss) f.in_order f.moved.within);
        };
        facts = f.facts;
        levels = f.levels;
      }

  pub part_of_few : (t : Names) (store few : Terms) (xss yss : List (List Assertion)) (rs qs : List Sort) (ls ms : List ℕ) → IsKept global t store xss rs ls → IsFew t store.trees xss few yss qs ms
      → IsPartOf (stack_by global t few.trees yss) store xss rs ls
  part_of_few t store few xss yss rs qs ls ms h f =
      record {
        kept = subst (λ n. IsKept global n store xss rs ls) (sym (names_back global t few.trees yss)) h;
        frames = f.moved.frames t.levels ∙ ap (λ (n : Names). frames_by store.trees n.levels xss) (sym (names_back global t few.trees yss));
      }

  pub whole_of_few : (t : Names) (store few : Terms) (xss yss : List (List Assertion)) → stack_by global (names_of (stack_by global t few.trees yss)) store.trees xss ≡ stack_by global t store.trees xss
  whole_of_few t store few xss yss = ap (λ n. stack_by global n store.trees xss) (names_back global t few.trees yss)
