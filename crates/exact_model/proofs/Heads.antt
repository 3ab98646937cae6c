-- What is given, and what operators make, at each place.
use Rattle.std.proofs.Common.{◌≡◌, ℕ, ◌+◌, ◌<◌, ◌≤◌, Bool, true, false, List, [], ◌∷◌, ◌++◌, length, refl, sym, ap, subst, ◌∙◌, inl, inr, arith}
use Rattle.std.specs.Prelude.{ℤ, ◌⊎◌, IsTrue}
use Rattle.std.proofs.lemmas.Bool.{cases_lt}
use Rattle.std.proofs.lemmas.List.{get_or_push, get_or_append_left}
use Rattle.smt_meaning.specs.declared.values.Value.{Value}
use Rattle.smt_meaning.specs.declared.values.Value.TheVariants.{Whole}
use Rattle.smt_meaning.specs.declared.terms.Operator.{Operator}
use Rattle.smt_meaning.specs.declared.terms.Operator.TheVariants.{Add, Subtract, Multiply}
use Rattle.smt_meaning.specs.declared.terms.Head.{Head}
use Rattle.smt_meaning.specs.declared.terms.Head.TheVariants.{Numeral, Theory, Symbol, Place}
use Rattle.smt_meaning.specs.Term.{Tree, Trees, node, tree_at, operate}
use Rattle.smt_meaning.specs.TreeShape.{place_of, is_arithmetic, at_most_one_varies, is_linear, are_linear}
use Rattle.smt_meaning.specs.Linear.{linear_form}
use Rattle.smt_meaning.specs.Ranges.{form_at}
use Rattle.smt_meaning.specs.CheckAtoms.{is_leaf_head}
use Rattle.smt_meaning.specs.Nodes.{pick}
use Rattle.smt_laws.proofs.SameTree.{and_left}
use Rattle.term_store.specs.Terms.{tree_with, AreDifferent}
use Rattle.term_store.proofs.PlaceLemmas.{place_of-is}
use Rattle.model_build.specs.declared.given.Given.{Given}
use Rattle.model_build.specs.declared.given.Given.TheVariants.{Unmarked}
use Rattle.model_build.specs.Given.{given_at}
use Rattle.model_build.specs.Building.{each, HasOperatorsValue}
use Rattle.exact_model.specs.Exact.{exact, exact_at, listed, number_at, given_there, AllGiven}
use Rattle.exact_model.specs.Sums.{number_of_place}
use Rattle.exact_model.specs.Operators.{all_exact, HasArguments, HasValueOf}
use Rattle.exact_model.proofs.Forms.{numeral_is, sum_is, difference_is, negation_is, product_is}

-- ---- exact values by heads

pub at_tree : (ts : List Tree) (vs : List Value) (p : ℕ) (t : Tree) → tree_at ts p ≡ t → exact_at ts vs p ≡ exact ts vs t
unfolding exact_at
at_tree ts vs p t e = ap (exact ts vs) e

pub leaf_by_head : (ts : List Tree) (vs : List Value) (h : Head) (us : Trees) → is_leaf_head h ≡ true → exact ts vs (node h us) ≡ listed vs (place_of (node h us) ts)
unfolding exact
leaf_by_head ts vs (Numeral n) us e = absurd cc
leaf_by_head ts vs (Theory Add) us e = absurd cc
leaf_by_head ts vs (Theory Subtract) us e = absurd cc
leaf_by_head ts vs (Theory Multiply) us e = absurd cc
leaf_by_head ts vs (Theory o) us e = refl
leaf_by_head ts vs (Symbol f) us e = refl
leaf_by_head ts vs (Place k) us e = refl

pub sum_by_head : (ts : List Tree) (vs : List Value) (h : Head) (us : Trees) → is_leaf_head h ≡ false → exact ts vs (node h us) ≡ Whole (form_at (number_at vs) (linear_form ts (node h us)))
unfolding exact
sum_by_head ts vs (Numeral n) us e = refl
sum_by_head ts vs (Theory Add) us e = refl
sum_by_head ts vs (Theory Subtract) us e = refl
sum_by_head ts vs (Theory Multiply) us e = refl
sum_by_head ts vs (Theory o) us e = absurd cc
sum_by_head ts vs (Symbol f) us e = absurd cc
sum_by_head ts vs (Place k) us e = absurd cc

pub leaf_value : (ts : List Tree) (vs : List Value) (p : ℕ) (h : Head) (is : List ℕ) → AreDifferent ts → p < length ts → tree_at ts p ≡ tree_with ts h is → is_leaf_head h ≡ true
    → exact_at ts vs p ≡ listed vs p
leaf_value ts vs p h is different less e leaf =
    at_tree ts vs p (tree_with ts h is) e ∙ leaf_by_head ts vs h (pick ts is) leaf ∙ ap (listed vs) (place_of-is (tree_with ts h is) ts p different less e)

pub sum_value : (ts : List Tree) (vs : List Value) (p : ℕ) (h : Head) (is : List ℕ) → tree_at ts p ≡ tree_with ts h is → is_leaf_head h ≡ false
    → exact_at ts vs p ≡ Whole (number_of_place ts vs p)
unfolding number_of_place
sum_value ts vs p h is e sum =
    at_tree ts vs p (tree_with ts h is) e ∙ sum_by_head ts vs h (pick ts is) sum ∙ ap (λ t. Whole (form_at (number_at vs) (linear_form ts t))) (sym e)

-- ---- what the next place is given

pub given_pushed : (ts : List Tree) (marks : List Bool) (vs : List Value) (k : ℕ) (gs : List Given) (g : Given) → length gs ≡ k → AllGiven ts marks vs k gs → g ≡ given_there ts marks vs k
    → AllGiven ts marks vs (k + 1) (gs ++ g ∷ [])
given_pushed ts marks vs k gs g size all here p less = by (cases_lt p k)
  where
    by : (p < k) ⊎ (k ≤ p) → given_at (gs ++ g ∷ []) p ≡ given_there ts marks vs p
    by (inl h) = get_or_append_left gs (g ∷ []) Unmarked p (omega arith) ∙ all p h
    by (inr h) = let e : p ≡ k = omega arith in get_or_push gs g Unmarked p (size ∙ sym e) ∙ here ∙ ap (given_there ts marks vs) (sym e)

-- ---- operators

all_are : (ts : List Tree) (vs : List Value) (is : List ℕ) → each (exact ts vs) (pick ts is) ≡ all_exact ts vs is
unfolding exact_at
all_are ts vs [] = refl
all_are ts vs (i ∷ is) = ap (λ xs. exact ts vs (tree_at ts i) ∷ xs) (all_are ts vs is)

pub numeral_has : (ts : List Tree) (vs : List Value) (p : ℕ) (n : ℤ) (is : List ℕ) → tree_at ts p ≡ tree_with ts (Numeral n) is → HasOperatorsValue (exact ts vs) (tree_at ts p)
numeral_has ts vs p n is e = subst (HasOperatorsValue (exact ts vs)) (sym e) (numeral_is ts vs n (pick ts is))

pub symbol_has : (ts : List Tree) (vs : List Value) (p f : ℕ) (is : List ℕ) → tree_at ts p ≡ tree_with ts (Symbol f) is → HasOperatorsValue (exact ts vs) (tree_at ts p)
symbol_has ts vs p f is e = subst (HasOperatorsValue (exact ts vs)) (sym e) tt

pub operator_has : (ts : List Tree) (vs : List Value) (p : ℕ) (o : Operator) (is : List ℕ) → tree_at ts p ≡ tree_with ts (Theory o) is → HasValueOf ts vs p o is
    → HasOperatorsValue (exact ts vs) (tree_at ts p)
operator_has ts vs p o is e h =
    subst (HasOperatorsValue (exact ts vs)) (sym e) (sym (at_tree ts vs p (tree_with ts (Theory o) is) e) ∙ h ∙ ap (operate o) (sym (all_are ts vs is)))

arithmetic_is : (ts : List Tree) (vs : List Value) (o : Operator) (is : List ℕ) → is_arithmetic o ≡ true → HasArguments o (length is) → is_linear (tree_with ts (Theory o) is) ≡ true
    → exact ts vs (tree_with ts (Theory o) is) ≡ operate o (each (exact ts vs) (pick ts is))
arithmetic_is ts vs Add [] a h l = absurd (omega (arith, h))
arithmetic_is ts vs Add (i ∷ []) a h l = absurd (omega (arith, h))
arithmetic_is ts vs Add (i ∷ j ∷ is) a h l = sum_is ts vs i j is
arithmetic_is ts vs Subtract [] a h l = absurd (omega (arith, h))
arithmetic_is ts vs Subtract (i ∷ []) a h l = negation_is ts vs i
arithmetic_is ts vs Subtract (i ∷ j ∷ is) a h l = difference_is ts vs i j is
arithmetic_is ts vs Multiply [] a h l = absurd (omega (arith, h))
arithmetic_is ts vs Multiply (i ∷ []) a h l = absurd (omega (arith, h))
arithmetic_is ts vs Multiply (i ∷ j ∷ is) a h l = product_is ts vs i j is (and_left (at_most_one_varies (pick ts (i ∷ j ∷ is))) (are_linear (pick ts (i ∷ j ∷ is))) l)
arithmetic_is ts vs _ is a h l = absurd cc

pub sum_has : (ts : List Tree) (vs : List Value) (p : ℕ) (o : Operator) (is : List ℕ) → tree_at ts p ≡ tree_with ts (Theory o) is → is_arithmetic o ≡ true → HasArguments o (length is)
    → IsTrue (is_linear (tree_at ts p)) → HasValueOf ts vs p o is
sum_has ts vs p o is e a h l =
    at_tree ts vs p (tree_with ts (Theory o) is) e ∙ arithmetic_is ts vs o is a h (ap is_linear (sym e) ∙ l) ∙ ap (operate o) (all_are ts vs is)
