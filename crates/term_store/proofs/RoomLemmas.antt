-- Terms that are put behind others, and how many there are then.
use Rattle.std.proofs.Common.{◌≡◌, ◌⊎◌, inl, inr, ℕ, zero, suc, ◌+◌, ◌<◌, ◌≤◌, Bool, true, false, List, [], ◌∷◌, ◌++◌, length, map, take, drop, All, slice_index, ap, ap₂, sym, subst, ◌∙◌, refl, arith}
use Rattle.std.specs.Prelude.{IsFalse, if◌then◌else◌}
use Rattle.std.proofs.lemmas.List.{length-append, get_or_append_left, get_or_push, length_push, take_at, take-append-drop}
use Rattle.std.proofs.lemmas.List.Elements.{All-nil, All-cons, All-head, All-tail}
use Rattle.smt_meaning.specs.declared.terms.Head.{Head}
use Rattle.smt_meaning.specs.Term.{Tree, node, more, tree_at}
use Rattle.smt_meaning.specs.TreeShape.{is_among, with_tree, with_parts, with_all_parts}
use Rattle.smt_meaning.specs.Nodes.{pick}
use Rattle.smt_meaning.specs.Sorts.{with_all}
use Rattle.term_store.specs.Terms.{Terms, tree_with, IsPlace, IsFullFor, AreComplete}
use Rattle.term_store.specs.Room.{ArePlaces}
use Rattle.smt_laws.proofs.GrownTrees.{Grown, all_grown}
use Rattle.term_store.proofs.Joining.{with_all-push, with_all-append}

-- ---- longer lists

at_least : (ts us : List Tree) → Grown ts us → length ts ≤ length us
at_least ts us h = let e : length us ≡ length ts + length h.joined = ap length h.is ∙ length-append ts h.joined in omega (arith, e)

-- the list of before stands first
pub stands_first : (ts us : List Tree) → take (length ts) (with_all ts us) ≡ ts
stands_first ts us = let h : Grown ts (with_all ts us) = all_grown ts us in ap (take (length ts)) h.is ∙ take_at ts h.joined (length ts) refl

-- ---- places

place_longer : (ts us : List Tree) (i : ℕ) (t : Tree) → Grown ts us → IsPlace ts i t → IsPlace us i t
place_longer ts us i t h p =
    let e : length ts ≤ length us = at_least ts us h in
    (omega (arith, p.0, e), ap (λ xs. tree_at xs i) h.is ∙ get_or_append_left ts h.joined _ i p.0 ∙ p.1)

last_or_before : (n k : ℕ) → k < n + 1 → (k < n) ⊎ (n ≡ k)
last_or_before zero zero h = inr refl
last_or_before zero (suc k) h = absurd (omega arith)
last_or_before (suc n) zero h = inl (omega arith)
last_or_before (suc n) (suc k) h = elim (last_or_before n k (omega arith)) [ inl l ↦ inl (omega arith) | inr e ↦ inr (ap suc e) ]

pub places_more : (others : List Tree) (places now : List ℕ) (ts us : List Tree) (id p : ℕ) → length places ≡ id → now ≡ places ++ p ∷ [] → ArePlaces others places ts → Grown ts us → IsPlace us p (tree_at others id) → ArePlaces others now us
places_more others places now ts us id p n e a l h = subst (λ ps. ArePlaces others ps us) (sym e) each
  where
    each : ArePlaces others (places ++ p ∷ []) us
    each k lt =
        let m : length (places ++ p ∷ []) ≡ length places + 1 = length_push places p in
        elim (last_or_before (length places) k (omega (arith, m, lt))) [
          | inl before ↦
              subst (λ i. IsPlace us i (tree_at others k)) (sym (get_or_append_left places (p ∷ []) 0 k before)) (place_longer ts us (slice_index places k) (tree_at others k) l (a k before))
          | inr last ↦
              subst (λ i. IsPlace us i (tree_at others k)) (sym (get_or_push places p 0 k last)) (subst (λ j. IsPlace us p (tree_at others j)) (sym n ∙ last) h)
        ]

pub none_placed : (others ts : List Tree) → ArePlaces others [] ts
none_placed others ts k lt = absurd (omega arith)

-- the arguments at their places are the term's
pub arguments_same : (others : List Tree) (places : List ℕ) (ts : List Tree) (is : List ℕ) → ArePlaces others places ts → All (λ i. i < length places) is → pick ts (map (slice_index places) is) ≡ pick others is
arguments_same others places ts [] a h = refl
arguments_same others places ts (i ∷ is) a h =
    ap (λ t. more t (pick ts (map (slice_index places) is))) (a i (All-head (λ j. j < length places) i is h)).1
    ∙ ap (more (tree_at others i)) (arguments_same others places ts is a (All-tail (λ j. j < length places) i is h))

pub same_tree : (others : List Tree) (places : List ℕ) (ts : List Tree) (h : Head) (is : List ℕ) (id : ℕ) → ArePlaces others places ts → All (λ i. i < length places) is → tree_at others id ≡ tree_with others h is
    → tree_with ts h (map (slice_index places) is) ≡ tree_at others id
same_tree others places ts h is id a w e = ap (node h) (arguments_same others places ts is a w) ∙ sym e

pub all_placed : (places : List ℕ) (others ts : List Tree) (is : List ℕ) → ArePlaces others places ts → All (λ i. i < length places) is → All (λ i. i < length ts) (map (slice_index places) is)
all_placed places others ts [] a h = All-nil (λ i. i < length ts)
all_placed places others ts (i ∷ is) a h =
    All-cons (λ j. j < length ts) (slice_index places i) (map (slice_index places) is) (a i (All-head (λ j. j < length places) i is h)).0
    (all_placed places others ts is a (All-tail (λ j. j < length places) i is h))

-- ---- no room

pick_again : (ts : List Tree) (is : List ℕ) → AreComplete ts → All (λ i. i < length ts) is → with_all_parts ts (pick ts is) ≡ ts
pick_again ts [] c h = refl
pick_again ts (i ∷ is) c h =
    ap (λ xs. with_all_parts xs (pick ts is)) (c i (All-head (λ j. j < length ts) i is h)) ∙ pick_again ts is c (All-tail (λ j. j < length ts) i is h)

not_among : (t : Tree) (ts : List Tree) → IsFalse (is_among t ts) → with_tree ts t ≡ ts ++ t ∷ []
not_among t ts f = go (is_among t ts) f
  where
    go : (b : Bool) → IsFalse b → (if b then ts else ts ++ t ∷ []) ≡ ts ++ t ∷ []
    go true g = absurd cc
    go false g = refl

pub one_too_many : (store : Terms) (h : Head) (is : List ℕ) → AreComplete store.trees → All (λ i. i < length store.trees) is → IsFullFor store (tree_with store.trees h is)
    → store.limit < length (with_parts store.trees (tree_with store.trees h is))
one_too_many store h is c w f =
    let e : with_parts store.trees (tree_with store.trees h is) ≡ store.trees ++ tree_with store.trees h is ∷ [] =
    ap (λ xs. with_tree xs (tree_with store.trees h is)) (pick_again store.trees is c w) ∙ not_among (tree_with store.trees h is) store.trees f.1 in
    let n : length (with_parts store.trees (tree_with store.trees h is)) ≡ length store.trees + 1 = ap length e ∙ length_push store.trees (tree_with store.trees h is) in
    omega (arith, n, f.0)

-- ---- all terms

take_next : (us : List Tree) (i : ℕ) → i < length us → take (suc i) us ≡ take i us ++ tree_at us i ∷ []
take_next [] i h = absurd (omega arith)
take_next (u ∷ us) zero h = refl
take_next (u ∷ us) (suc i) h = ap (λ xs. u ∷ xs) (take_next us i (omega arith))

take_more : (us : List Tree) (i : ℕ) → i < length us → take (i + 1) us ≡ take i us ++ tree_at us i ∷ []
take_more us i h = let e : i + 1 ≡ suc i = omega arith in ap (λ k. take k us) e ∙ take_next us i h

pub next_put : (ts us now : List Tree) (i : ℕ) → i < length us → now ≡ with_parts (with_all ts (take i us)) (tree_at us i) → now ≡ with_all ts (take (i + 1) us)
next_put ts us now i h e = e ∙ sym (with_all-push ts (take i us) (tree_at us i)) ∙ ap (with_all ts) (sym (take_more us i h))

pub all_too_many : (ts us : List Tree) (i limit : ℕ) → i < length us → limit < length (with_parts (with_all ts (take i us)) (tree_at us i)) → limit < length (with_all ts us)
all_too_many ts us i limit h lt =
    let so : with_parts (with_all ts (take i us)) (tree_at us i) ≡ with_all ts (take (i + 1) us) = next_put ts us (with_parts (with_all ts (take i us)) (tree_at us i)) i h refl in
    let le : length (with_all ts (take (i + 1) us)) ≤ length (with_all (with_all ts (take (i + 1) us)) (drop (i + 1) us)) =
    at_least (with_all ts (take (i + 1) us)) (with_all (with_all ts (take (i + 1) us)) (drop (i + 1) us)) (all_grown (with_all ts (take (i + 1) us)) (drop (i + 1) us)) in
    let all : with_all (with_all ts (take (i + 1) us)) (drop (i + 1) us) ≡ with_all ts us =
    sym (with_all-append ts (take (i + 1) us) (drop (i + 1) us)) ∙ ap (with_all ts) (take-append-drop (i + 1) us) in
    let m : length (with_parts (with_all ts (take i us)) (tree_at us i)) ≡ length (with_all ts (take (i + 1) us)) = ap length so in
    let k : length (with_all (with_all ts (take (i + 1) us)) (drop (i + 1) us)) ≡ length (with_all ts us) = ap length all in
    omega (arith, lt, le, m, k)

pub first_so : (ts us now : List Tree) (i : ℕ) → now ≡ with_all ts (take i us) → take (length ts) now ≡ ts
first_so ts us now i e = ap (take (length ts)) e ∙ stands_first ts (take i us)

-- a store that grew, cut to its old length
pub cut_same : (old now : Terms) (count : ℕ) → count ≡ length old.trees → now.limit ≡ old.limit → take (length old.trees) now.trees ≡ old.trees → record { limit = now.limit; trees = take count now.trees } ≡ old
cut_same old now count n l k = ap₂ (λ (m : ℕ) ts. record { limit = m; trees = ts }) l (ap (λ m. take m now.trees) n ∙ k)
