-- The places of trees in a list of different trees.
use Rattle.std.proofs.Common.{◌≡◌, ℕ, zero, suc, ◌<◌, length, arith, List, [], ◌∷◌, ◌++◌, ap, sym, ◌∙◌, refl, Bool, true, false, ◌||◌}
use Rattle.std.specs.Prelude.{if◌then◌else◌}
use Rattle.std.proofs.lemmas.List.{length_push, get_or_push}
use Rattle.smt_meaning.specs.Term.{Tree, tree_at}
use Rattle.smt_meaning.specs.TreeShape.{tree_eq, is_among, place_of, with_tree}
use Rattle.smt_laws.proofs.SameTree.{found_again, tree_eq-self}
use Rattle.term_store.specs.Terms.{IsNew, AreDifferent}
use Rattle.term_store.proofs.NodeLemmas.{places_same, AreDifferent-push}

either : (a b : Bool) → b ≡ true → (a || b) ≡ true
either true b h = refl
either false b h = h

-- a tree at a place is among the trees
pub among_at : (t : Tree) (ts : List Tree) (i : ℕ) → i < length ts → tree_at ts i ≡ t → is_among t ts ≡ true
among_at t [] i h e = absurd (omega arith)
among_at t (u ∷ us) zero h e = ap (λ x. tree_eq t x || is_among t us) e ∙ ap (λ b. b || is_among t us) (tree_eq-self t)
among_at t (u ∷ us) (suc i) h e = either (tree_eq t u) (is_among t us) (among_at t us i (omega arith) e)

place_within : (t u : Tree) (us : List Tree) (b : Bool) → (is_among t us ≡ true → place_of t us < length us) → (b || is_among t us) ≡ true
    → (if b then 0 else suc (place_of t us)) < length (u ∷ us)
place_within t u us true rest k = omega arith
place_within t u us false rest k = let less : place_of t us < length us = rest k in omega arith

pub place_of-within : (t : Tree) (ts : List Tree) → is_among t ts ≡ true → place_of t ts < length ts
place_of-within t [] h = cc
place_of-within t (u ∷ us) h = place_within t u us (tree_eq t u) (place_of-within t us) h

-- among different trees, a tree's place is where it stands
pub place_of-is : (t : Tree) (ts : List Tree) (i : ℕ) → AreDifferent ts → i < length ts → tree_at ts i ≡ t → place_of t ts ≡ i
place_of-is t ts i different h e =
    let among : is_among t ts ≡ true = among_at t ts i h e in
    places_same ts (place_of t ts) i different (place_of-within t ts among) h (found_again t ts among ∙ sym e)

not_true : (b : Bool) → (b ≡ true → ⊥) → b ≡ false
not_true true h = absurd (h refl)
not_true false h = refl

pub new_not_among : (t : Tree) (ts : List Tree) → IsNew ts t → is_among t ts ≡ false
new_not_among t ts new = not_true (is_among t ts) (λ among. new (place_of t ts) (place_of-within t ts among) (found_again t ts among))

pub with_tree_old : (t : Tree) (ts : List Tree) (i : ℕ) → i < length ts → tree_at ts i ≡ t → with_tree ts t ≡ ts
with_tree_old t ts i h e = ap (λ b. if b then ts else (ts ++ t ∷ [])) (among_at t ts i h e)

pub with_tree_new : (t : Tree) (ts : List Tree) → IsNew ts t → with_tree ts t ≡ ts ++ t ∷ []
with_tree_new t ts new = ap (λ b. if b then ts else (ts ++ t ∷ [])) (new_not_among t ts new)

pub place_of-new : (t : Tree) (ts : List Tree) → AreDifferent ts → IsNew ts t → place_of t (ts ++ t ∷ []) ≡ length ts
place_of-new t ts different new =
    place_of-is t (ts ++ t ∷ []) (length ts) (AreDifferent-push ts t different new) (omega (arith, length_push ts t)) (get_or_push ts t _ (length ts) refl)
