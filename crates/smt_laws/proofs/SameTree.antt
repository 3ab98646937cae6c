-- The test for equal trees, and the place where a tree is found again.
use Rattle.std.proofs.Common.{◌≡◌, suc, eq-eqb, List, [], ◌∷◌, ap, sym, subst, ◌∙◌, refl, Bool, true, false, ◌&&◌, ◌||◌, nat_eq}
use Rattle.std.specs.Prelude.{if◌then◌else◌}
use Rattle.std.proofs.lemmas.Bool.{eqb-true}
use Rattle.smt_meaning.specs.declared.terms.Operator.{Operator}
use Rattle.smt_meaning.specs.declared.terms.Head.{Head}
use Rattle.smt_meaning.specs.declared.terms.Head.TheVariants.{Numeral, Theory, Symbol, Place}
use Rattle.smt_meaning.specs.Term.{Tree, Trees, node, none, more, tree_at}
use Rattle.smt_meaning.specs.TreeCode.{operator_at, operator_back}
use Rattle.smt_meaning.specs.TreeShape.{operator_number, head_eq, tree_eq, trees_eq, is_among, place_of}
use Rattle.smt_laws.proofs.SameValue.{int_eq-true, int_eq-self}
pub use Rattle.smt_laws.proofs.Both.{and_left, and_right}
use Rattle.smt_laws.specs.TermLaws.{TreeEqualityDecides}

operator-true : (o p : Operator) → nat_eq (operator_number o) (operator_number p) ≡ true → o ≡ p
operator-true o p h = sym (operator_back o) ∙ ap operator_at (eqb-true (operator_number o) (operator_number p) h) ∙ operator_back p

head_eq-true : (h k : Head) → head_eq h k ≡ true → h ≡ k
head_eq-true (Numeral m) (Numeral n) e = ap Numeral (int_eq-true m n e)
head_eq-true (Theory o) (Theory p) e = ap Theory (operator-true o p e)
head_eq-true (Symbol f) (Symbol g) e = ap Symbol (eqb-true f g e)
head_eq-true (Place j) (Place k) e = ap Place (eqb-true j k e)
head_eq-true (Numeral m) (Theory p) e = cc
head_eq-true (Numeral m) (Symbol g) e = cc
head_eq-true (Numeral m) (Place k) e = cc
head_eq-true (Theory o) (Numeral n) e = cc
head_eq-true (Theory o) (Symbol g) e = cc
head_eq-true (Theory o) (Place k) e = cc
head_eq-true (Symbol f) (Numeral n) e = cc
head_eq-true (Symbol f) (Theory p) e = cc
head_eq-true (Symbol f) (Place k) e = cc
head_eq-true (Place j) (Numeral n) e = cc
head_eq-true (Place j) (Theory p) e = cc
head_eq-true (Place j) (Symbol g) e = cc

mutual
  pub tree_eq-true : (t u : Tree) → tree_eq t u ≡ true → t ≡ u
  tree_eq-true (node h ts) (node k us) e =
      ap (λ x. node x ts) (head_eq-true h k (and_left (head_eq h k) (trees_eq ts us) e)) ∙ ap (node k) (trees_eq-true ts us (and_right (head_eq h k) (trees_eq ts us) e))

  pub trees_eq-true : (ts us : Trees) → trees_eq ts us ≡ true → ts ≡ us
  trees_eq-true none none e = refl
  trees_eq-true (more t ts) (more u us) e =
      ap (λ x. more x ts) (tree_eq-true t u (and_left (tree_eq t u) (trees_eq ts us) e)) ∙ ap (more u) (trees_eq-true ts us (and_right (tree_eq t u) (trees_eq ts us) e))
  trees_eq-true none (more u us) e = cc
  trees_eq-true (more t ts) none e = cc

at_first : (t u : Tree) (us : List Tree) (b : Bool) → tree_eq t u ≡ b → (is_among t us ≡ true → tree_at us (place_of t us) ≡ t)
    → (b || is_among t us) ≡ true → tree_at (u ∷ us) (if b then 0 else suc (place_of t us)) ≡ t
at_first t u us true e rest k = sym (tree_eq-true t u e)
at_first t u us false e rest k = rest k

-- a tree of the list stands at its place
pub found_again : (t : Tree) (ts : List Tree) → is_among t ts ≡ true → tree_at ts (place_of t ts) ≡ t
found_again t [] h = cc
found_again t (u ∷ us) h = at_first t u us (tree_eq t u) refl (found_again t us) h

head_eq-self : (h : Head) → head_eq h h ≡ true
head_eq-self (Numeral n) = int_eq-self n
head_eq-self (Theory o) = eq-eqb (operator_number o) (operator_number o) refl
head_eq-self (Symbol f) = eq-eqb f f refl
head_eq-self (Place k) = eq-eqb k k refl

both : (a b : Bool) → a ≡ true → b ≡ true → (a && b) ≡ true
both true b p q = q
both false b p q = p

mutual
  pub tree_eq-self : (t : Tree) → tree_eq t t ≡ true
  tree_eq-self (node h ts) = both (head_eq h h) (trees_eq ts ts) (head_eq-self h) (trees_eq-self ts)

  trees_eq-self : (ts : Trees) → trees_eq ts ts ≡ true
  trees_eq-self none = refl
  trees_eq-self (more t ts) = both (tree_eq t t) (trees_eq ts ts) (tree_eq-self t) (trees_eq-self ts)

pub equality_decides : TreeEqualityDecides
equality_decides t u = (tree_eq-true t u, λ e. subst (λ x. tree_eq t x ≡ true) e (tree_eq-self t))
