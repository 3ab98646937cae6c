-- What divides, and quotients, by the places of stored terms.
use Rattle.std.proofs.Common.{◌≡◌, ◌≢◌, ℕ, zero, suc, ◌<◌, ℤ, pos, negsuc, eq-eqb, ne_eqb, List, [], ◌∷◌, length, ap, sym, subst, ◌∙◌, refl, Bool, true, false, not, ◌&&◌, nat_eq, All, arith}
use Rattle.std.proofs.lemmas.Bool.{eqb-true}
use Rattle.std.proofs.lemmas.List.Elements.{All-head, All-tail}
use Rattle.smt_meaning.specs.declared.terms.Head.{Head}
use Rattle.smt_meaning.specs.declared.terms.Head.TheVariants.{Numeral, Theory, Symbol, Place}
use Rattle.smt_meaning.specs.declared.terms.Operator.TheVariants.{Subtract, Divide}
use Rattle.smt_meaning.specs.Term.{Tree, Trees, node, none, more, tree_at, int_eq}
use Rattle.smt_meaning.specs.Nodes.{pick}
use Rattle.smt_meaning.specs.TreeShape.{is_divisor, quotient_tree, head_eq, tree_eq, trees_eq}
use Rattle.smt_laws.proofs.SameTree.{tree_eq-true, tree_eq-self}
use Rattle.term_store.specs.Terms.{AreDifferent}
use Rattle.term_store.proofs.NodeLemmas.{places_same}
use Rattle.term_store.specs.Divisors.{is_nonzero, are_two}

-- ---- a numeral or its negation

difference_of_more : (t u : Tree) (us : Trees) → is_divisor (node (Theory Subtract) (more t (more u us))) ≡ false
difference_of_more (node (Numeral n) none) u us = refl
difference_of_more (node (Numeral n) (more x xs)) u us = refl
difference_of_more (node (Theory o) ts) u us = refl
difference_of_more (node (Symbol f) ts) u us = refl
difference_of_more (node (Place k) ts) u us = refl

pub not_one : (ts : List Tree) (is : List ℕ) → length is ≢ 1 → false ≡ is_divisor (node (Theory Subtract) (pick ts is))
not_one ts [] h = refl
not_one ts (i ∷ []) h = absurd (h refl)
not_one ts (i ∷ j ∷ is) h = sym (difference_of_more (tree_at ts i) (tree_at ts j) (pick ts is))

-- ---- a quotient

place_eq : (ts : List Tree) (i j : ℕ) → AreDifferent ts → i < length ts → j < length ts → tree_eq (tree_at ts i) (tree_at ts j) ≡ nat_eq i j
place_eq ts i j different h k = go (tree_eq (tree_at ts i) (tree_at ts j)) (nat_eq i j) refl refl
  where
    go : (a b : Bool) → tree_eq (tree_at ts i) (tree_at ts j) ≡ a → nat_eq i j ≡ b → a ≡ b
    go true true p q = refl
    go false false p q = refl
    go true false p q = sym (eq-eqb i j (places_same ts i j different h k (tree_eq-true (tree_at ts i) (tree_at ts j) p))) ∙ q
    go false true p q = sym p ∙ subst (λ n. tree_eq (tree_at ts i) (tree_at ts n) ≡ true) (eqb-true i j q) (tree_eq-self (tree_at ts i))

and_false : (b : Bool) → (b && false) ≡ false
and_false true = refl
and_false false = refl

and_true : (b : Bool) → (b && true) ≡ b
and_true true = refl
and_true false = refl

arguments_eq : (ts : List Tree) (is : List ℕ) (m n : ℕ) → AreDifferent ts → All (λ i. i < length ts) is → m < length ts → n < length ts
    → trees_eq (pick ts is) (more (tree_at ts m) (more (tree_at ts n) none)) ≡ are_two is m n
arguments_eq ts [] m n different below h k = refl
arguments_eq ts (i ∷ []) m n different below h k = and_false (tree_eq (tree_at ts i) (tree_at ts m))
arguments_eq ts (i ∷ j ∷ []) m n different below h k =
    let rest = All-tail (λ i. i < length ts) i (j ∷ []) below in
    ap (λ b. tree_eq (tree_at ts i) (tree_at ts m) && b) (and_true (tree_eq (tree_at ts j) (tree_at ts n)) ∙ place_eq ts j n different (All-head (λ i. i < length ts) j [] rest) k)
    ∙ ap (λ b. b && nat_eq j n) (place_eq ts i m different (All-head (λ i. i < length ts) i (j ∷ []) below) h)
arguments_eq ts (i ∷ j ∷ l ∷ is) m n different below h k =
    ap (λ b. tree_eq (tree_at ts i) (tree_at ts m) && b) (and_false (tree_eq (tree_at ts j) (tree_at ts n))) ∙ and_false (tree_eq (tree_at ts i) (tree_at ts m))

pub quotient_at : (ts : List Tree) (q : ℕ) (h : Head) (is : List ℕ) (m n : ℕ) → AreDifferent ts → q < length ts → All (λ i. i < q) is → m < length ts → n < length ts → tree_at ts q ≡ node h (pick ts is)
    → tree_eq (tree_at ts q) (quotient_tree (tree_at ts m) (tree_at ts n)) ≡ (head_eq h (Theory Divide) && are_two is m n)
quotient_at ts q h is m n different within below l k e =
    ap (λ t. tree_eq t (quotient_tree (tree_at ts m) (tree_at ts n))) e ∙ ap (λ b. head_eq h (Theory Divide) && b) (arguments_eq ts is m n different (λ i d o. let b = below i d o in omega arith) l k)

-- ---- a numeral other than 0

not_zero : (n : ℤ) → n ≢ pos 0 → int_eq n (pos 0) ≡ false
not_zero (pos zero) h = absurd (h refl)
not_zero (pos (suc n)) h = ne_eqb (suc n) 0 (λ k. omega arith)
not_zero (negsuc n) h = refl

pub nonzero_at : (ts : List Tree) (t : Tree) (n : ℤ) (is : List ℕ) → t ≡ node (Numeral n) (pick ts is) → n ≢ pos 0 → nat_eq (length is) 0 ≡ is_nonzero t
nonzero_at ts t n [] e h = sym (ap is_nonzero e ∙ ap not (not_zero n h))
nonzero_at ts t n (i ∷ is) e h = ne_eqb (length (i ∷ is)) 0 (λ k. omega arith) ∙ sym (ap is_nonzero e)
