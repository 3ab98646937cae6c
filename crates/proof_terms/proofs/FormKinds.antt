-- The parts of a term by its operator, and what they make of its value.
use Rattle.std.proofs.Common.{◌≡◌, ◌≢◌, ℕ, ◌<◌, ◌≤◌, get_or, Bool, true, false, not, ◌&&◌, ◌||◌, nat_le, nat_eq, List, [], ◌∷◌, map, Some, length, All, ap, sym, subst, ◌∙◌, refl, arith}
use Rattle.std.specs.Prelude.{if◌then◌else◌}
use Rattle.std.specs.List.{list_all, list_any}
use Rattle.std.proofs.lemmas.Bool.{eqb-true}
use Rattle.std.proofs.lemmas.Bool.Decides.{nat_tests}
use Rattle.std.proofs.lemmas.List.Elements.{All-nil, All-cons, All-head}
use Rattle.smt_meaning.specs.declared.values.Sort.{Sort}
use Rattle.smt_meaning.specs.declared.values.Sort.TheVariants.{Bool as Truths, Int as Ints}
use Rattle.smt_meaning.specs.declared.values.Value.{Value}
use Rattle.smt_meaning.specs.declared.values.Value.TheVariants.{Truth as IsTruth}
use Rattle.smt_meaning.specs.declared.terms.Operator.{Operator}
use Rattle.smt_meaning.specs.declared.terms.Operator.TheVariants.{True, False, Not, And, Or, Xor, Implies, Equal, Distinct, Ite, Add, Subtract, Multiply, AtMost, Less, AtLeast, Greater, Divide, Modulo, Absolute, Divisible}
use Rattle.smt_meaning.specs.declared.clauses.Atom.{Atom}
use Rattle.smt_meaning.specs.declared.clauses.Atom.TheVariants.{Truth, Same}
use Rattle.smt_meaning.specs.Declaration.{Declaration}
use Rattle.smt_meaning.specs.Term.{Tree, tree_at, truth_of, bool_eq, xor, implies, on_truths, fold_left, fold_right, chain_from, same_value, differ, with_each, pairwise, operate}
use Rattle.smt_meaning.specs.Signature.{if_so, all_of, all_the_same, operator_sort}
use Rattle.proof_meaning.specs.Proof.{term_sort, IsBoolAt, IsIntAt}
use Rattle.proof_meaning.specs.Rules.{HasParts, of_bools, of_equal, of_distinct, of_at_most, of_less, of_at_least, of_greater, IsOtherAt, along, not_above, below, turned, pairs, truths, every, no_one}
use Rattle.proof_terms.specs.declared.form_values.Connective.{Connective}
use Rattle.proof_terms.specs.declared.form_values.Connective.TheVariants as connective
use Rattle.proof_terms.specs.declared.form_parts.Relation.{Relation}
use Rattle.proof_terms.specs.declared.form_parts.Relation.TheVariants as relation
use Rattle.proof_terms.specs.FormValues.{itself, is_odd, implied_from, choice_of, connective_value}
use Rattle.proof_terms.specs.FormParts.{relation_atom, relation_fits, HasJust, IsOfBools, IsOfNeighbours, IsOfPairs, HasNoParts, IsKind}
use Rattle.proof_terms.specs.declared.form_parts.Kind.{Kind}
use Rattle.proof_terms.specs.Range.{neighbours_fit, neighbours_fit_from, bounds_fit}
use Rattle.proof_terms.proofs.FormLists.{xor_assoc, xor_false}
use Rattle.proof_terms.proofs.FormTerms.{IsSorted, IsChoice, HaveSort, bools, ints, count, one_sort, same_as_first, all_bools, all_others, choice, if_so_true}

-- ---- the value of an operator on truth values

abbrev values_at : (Atom → Bool) → List ℕ → List Bool
values_at v is = map v (map Truth is)

and_assoc : (a b c : Bool) → ((a && b) && c) ≡ (a && (b && c))
and_assoc true b c = refl
and_assoc false b c = refl

or_assoc : (a b c : Bool) → ((a || b) || c) ≡ (a || (b || c))
or_assoc true b c = refl
or_assoc false b c = refl

and_true : (a : Bool) → a ≡ (a && true)
and_true true = refl
and_true false = refl

or_false : (a : Bool) → a ≡ (a || false)
or_false true = refl
or_false false = refl

all_fold : (v : Atom → Bool) (a : Bool) (is : List ℕ) → fold_left (on_truths ◌&&◌) (IsTruth a) (truths v is) ≡ IsTruth (a && list_all itself (values_at v is))
all_fold v a [] = ap IsTruth (and_true a)
all_fold v a (i ∷ is) = all_fold v (a && v (Truth i)) is ∙ ap IsTruth (and_assoc a (v (Truth i)) (list_all itself (values_at v is)))

any_fold : (v : Atom → Bool) (a : Bool) (is : List ℕ) → fold_left (on_truths ◌||◌) (IsTruth a) (truths v is) ≡ IsTruth (a || list_any itself (values_at v is))
any_fold v a [] = ap IsTruth (or_false a)
any_fold v a (i ∷ is) = any_fold v (a || v (Truth i)) is ∙ ap IsTruth (or_assoc a (v (Truth i)) (list_any itself (values_at v is)))

odd_fold : (v : Atom → Bool) (a : Bool) (is : List ℕ) → fold_left (on_truths xor) (IsTruth a) (truths v is) ≡ IsTruth (xor a (is_odd (values_at v is)))
odd_fold v a [] = ap IsTruth (sym (xor_false a))
odd_fold v a (i ∷ is) = odd_fold v (xor a (v (Truth i))) is ∙ ap IsTruth (xor_assoc a (v (Truth i)) (is_odd (values_at v is)))

implied_fold : (v : Atom → Bool) (a : Bool) (is : List ℕ) → fold_right (on_truths implies) (IsTruth a) (truths v is) ≡ IsTruth (implied_from a (values_at v is))
implied_fold v a [] = refl
implied_fold v a (i ∷ is) = ap (λ (w : Value). on_truths implies (IsTruth a) w) (implied_fold v (v (Truth i)) is)

alike_step : (a b all any : Bool) → (bool_eq a b && (if b then all else not any)) ≡ (if a then (b && all) else not (b || any))
alike_step true true all any = refl
alike_step true false all any = refl
alike_step false true all any = refl
alike_step false false all any = refl

alike_fold : (v : Atom → Bool) (a : Bool) (is : List ℕ) → chain_from same_value (IsTruth a) (truths v is) ≡ (if a then list_all itself (values_at v is) else not (list_any itself (values_at v is)))
alike_fold v true [] = refl
alike_fold v false [] = refl
alike_fold v a (i ∷ is) =
    ap (λ b. bool_eq a (v (Truth i)) && b) (alike_fold v (v (Truth i)) is) ∙ alike_step a (v (Truth i)) (list_all itself (values_at v is)) (list_any itself (values_at v is))

alike_first : (a all any : Bool) → (if a then all else not any) ≡ ((a && all) || not (a || any))
alike_first true true any = refl
alike_first true false any = refl
alike_first false all any = refl

two_differ : (a b : Bool) → ((not (bool_eq a b) && true) && (true && true)) ≡ xor a (xor b false)
two_differ true true = refl
two_differ true false = refl
two_differ false true = refl
two_differ false false = refl

and_nothing : (a : Bool) → (a && false) ≡ false
and_nothing true = refl
and_nothing false = refl

three_differ : (a b c x y z : Bool) → ((not (bool_eq a b) && (not (bool_eq a c) && x)) && ((not (bool_eq b c) && y) && z)) ≡ false
three_differ true true c x y z = refl
three_differ false false c x y z = refl
three_differ true false true x y z = refl
three_differ true false false x y z = and_nothing x
three_differ false true false x y z = refl
three_differ false true true x y z = and_nothing x

chosen_value : (a b c : Bool) → truth_of (if a then IsTruth b else IsTruth c) ≡ (if a then b else c)
chosen_value true b c = refl
chosen_value false b c = refl

-- ---- no other parts

module _ (ds : List Declaration) (ts : List Tree) where
  not_both : (i : ℕ) → IsBoolAt ds ts i → IsIntAt ds ts i → ⊥
  not_both i b n = let e : Some Truths ≡ Some Ints = sym b.1 ∙ n.1 in absurd cc

  only_bools : (o : Operator) (is : List ℕ) (qs : List Atom) (w : (Atom → Bool) → Bool) → HasParts ds ts o is qs w → All (IsBoolAt ds ts) is
      → (qs ≡ map Truth is) × ((v : Atom → Bool) → w v ≡ truth_of (operate o (truths v is)))
  only_bools _ _ _ _ (of_bools all) b = (refl, λ v. refl)
  only_bools _ _ _ _ (of_equal {is = []} all) b = (refl, λ v. refl)
  only_bools _ _ _ _ (of_equal {is = i ∷ is} all) b = absurd (All-head (IsOtherAt ds ts) i is all (All-head (IsBoolAt ds ts) i is b))
  only_bools _ _ _ _ (of_distinct {is = []} all) b = (refl, λ v. refl)
  only_bools _ _ _ _ (of_distinct {is = i ∷ is} all) b = absurd (All-head (IsOtherAt ds ts) i is all (All-head (IsBoolAt ds ts) i is b))
  only_bools _ _ _ _ (of_at_most {is = []} all) b = (refl, λ v. refl)
  only_bools _ _ _ _ (of_at_most {is = i ∷ is} all) b = absurd (not_both i (All-head (IsBoolAt ds ts) i is b) (All-head (IsIntAt ds ts) i is all))
  only_bools _ _ _ _ (of_less {is = []} all) b = (refl, λ v. refl)
  only_bools _ _ _ _ (of_less {is = i ∷ is} all) b = absurd (not_both i (All-head (IsBoolAt ds ts) i is b) (All-head (IsIntAt ds ts) i is all))
  only_bools _ _ _ _ (of_at_least {is = []} all) b = (refl, λ v. refl)
  only_bools _ _ _ _ (of_at_least {is = i ∷ is} all) b = absurd (not_both i (All-head (IsBoolAt ds ts) i is b) (All-head (IsIntAt ds ts) i is all))
  only_bools _ _ _ _ (of_greater {is = []} all) b = (refl, λ v. refl)
  only_bools _ _ _ _ (of_greater {is = i ∷ is} all) b = absurd (not_both i (All-head (IsBoolAt ds ts) i is b) (All-head (IsIntAt ds ts) i is all))

  just_bools : (o : Operator) (is : List ℕ) → All (IsBoolAt ds ts) is → HasJust ds ts o is (map Truth is) (λ v. truth_of (operate o (truths v is)))
  just_bools o is all = record { has = of_bools all; only = λ qs w h. only_bools o is qs w h all }

  only_equal : (is : List ℕ) (qs : List Atom) (w : (Atom → Bool) → Bool) → HasParts ds ts Equal is qs w → All (IsOtherAt ds ts) is
      → (qs ≡ along Same is) × ((v : Atom → Bool) → w v ≡ every v (along Same is))
  only_equal _ _ _ (of_equal all) other = (refl, λ v. refl)
  only_equal _ _ _ (of_bools {is = []} all) other = (refl, λ v. refl)
  only_equal _ _ _ (of_bools {is = i ∷ is} all) other = absurd (All-head (IsOtherAt ds ts) i is other (All-head (IsBoolAt ds ts) i is all))

  only_distinct : (is : List ℕ) (qs : List Atom) (w : (Atom → Bool) → Bool) → HasParts ds ts Distinct is qs w → All (IsOtherAt ds ts) is
      → (qs ≡ pairs is) × ((v : Atom → Bool) → w v ≡ no_one v (pairs is))
  only_distinct _ _ _ (of_distinct all) other = (refl, λ v. refl)
  only_distinct _ _ _ (of_bools {is = []} all) other = (refl, λ v. refl)
  only_distinct _ _ _ (of_bools {is = i ∷ is} all) other = absurd (All-head (IsOtherAt ds ts) i is other (All-head (IsBoolAt ds ts) i is all))

  only_at_most : (is : List ℕ) (qs : List Atom) (w : (Atom → Bool) → Bool) → HasParts ds ts AtMost is qs w → All (IsIntAt ds ts) is
      → (qs ≡ along (not_above ts) is) × ((v : Atom → Bool) → w v ≡ every v (along (not_above ts) is))
  only_at_most _ _ _ (of_at_most all) int = (refl, λ v. refl)
  only_at_most _ _ _ (of_bools {is = []} all) int = (refl, λ v. refl)
  only_at_most _ _ _ (of_bools {is = i ∷ is} all) int = absurd (not_both i (All-head (IsBoolAt ds ts) i is all) (All-head (IsIntAt ds ts) i is int))

  only_less : (is : List ℕ) (qs : List Atom) (w : (Atom → Bool) → Bool) → HasParts ds ts Less is qs w → All (IsIntAt ds ts) is
      → (qs ≡ along (below ts) is) × ((v : Atom → Bool) → w v ≡ every v (along (below ts) is))
  only_less _ _ _ (of_less all) int = (refl, λ v. refl)
  only_less _ _ _ (of_bools {is = []} all) int = (refl, λ v. refl)
  only_less _ _ _ (of_bools {is = i ∷ is} all) int = absurd (not_both i (All-head (IsBoolAt ds ts) i is all) (All-head (IsIntAt ds ts) i is int))

  only_at_least : (is : List ℕ) (qs : List Atom) (w : (Atom → Bool) → Bool) → HasParts ds ts AtLeast is qs w → All (IsIntAt ds ts) is
      → (qs ≡ along (turned (not_above ts)) is) × ((v : Atom → Bool) → w v ≡ every v (along (turned (not_above ts)) is))
  only_at_least _ _ _ (of_at_least all) int = (refl, λ v. refl)
  only_at_least _ _ _ (of_bools {is = []} all) int = (refl, λ v. refl)
  only_at_least _ _ _ (of_bools {is = i ∷ is} all) int = absurd (not_both i (All-head (IsBoolAt ds ts) i is all) (All-head (IsIntAt ds ts) i is int))

  only_greater : (is : List ℕ) (qs : List Atom) (w : (Atom → Bool) → Bool) → HasParts ds ts Greater is qs w → All (IsIntAt ds ts) is
      → (qs ≡ along (turned (below ts)) is) × ((v : Atom → Bool) → w v ≡ every v (along (turned (below ts)) is))
  only_greater _ _ _ (of_greater all) int = (refl, λ v. refl)
  only_greater _ _ _ (of_bools {is = []} all) int = (refl, λ v. refl)
  only_greater _ _ _ (of_bools {is = i ∷ is} all) int = absurd (not_both i (All-head (IsBoolAt ds ts) i is all) (All-head (IsIntAt ds ts) i is int))

  abbrev is_of_numbers : Operator → Bool
  is_of_numbers Add = true
  is_of_numbers Subtract = true
  is_of_numbers Multiply = true
  is_of_numbers Divide = true
  is_of_numbers Modulo = true
  is_of_numbers Absolute = true
  is_of_numbers Divisible = true
  is_of_numbers _ = false

  no_parts_of_ints : (o : Operator) (is : List ℕ) (qs : List Atom) (w : (Atom → Bool) → Bool) → HasParts ds ts o is qs w → is_of_numbers o ≡ true → 0 < length is → All (IsIntAt ds ts) is → ⊥
  no_parts_of_ints _ _ _ _ (of_bools {is = []} all) e l int = omega (arith, l)
  no_parts_of_ints _ _ _ _ (of_bools {is = i ∷ is} all) e l int = not_both i (All-head (IsBoolAt ds ts) i is all) (All-head (IsIntAt ds ts) i is int)
  no_parts_of_ints _ _ _ _ (of_equal all) e l int = absurd cc
  no_parts_of_ints _ _ _ _ (of_distinct all) e l int = absurd cc
  no_parts_of_ints _ _ _ _ (of_at_most all) e l int = absurd cc
  no_parts_of_ints _ _ _ _ (of_less all) e l int = absurd cc
  no_parts_of_ints _ _ _ _ (of_at_least all) e l int = absurd cc
  no_parts_of_ints _ _ _ _ (of_greater all) e l int = absurd cc

  -- ---- kinds

  at_least : (a b : ℕ) → nat_le a b ≡ true → a ≤ b
  at_least a b h = grind (arith, nat_tests)

  truths_of : (o : Operator) (is : List ℕ) (s : Sort) (k : IsSorted ds ts o is s) → all_of Truths k.sorts ≡ true → All (IsBoolAt ds ts) is
  truths_of o is s k a = bools ds ts is k.sorts k.are k.below a

  ints_of : (o : Operator) (is : List ℕ) (s : Sort) (k : IsSorted ds ts o is s) → all_of Ints k.sorts ≡ true → All (IsIntAt ds ts) is
  ints_of o is s k a = ints ds ts is k.sorts k.are k.below a

  pub kind_true : (is : List ℕ) (s : Sort) → IsSorted ds ts True is s → IsOfBools ds ts True is connective.And
  kind_true [] s k = record { just = just_bools True [] (All-nil (IsBoolAt ds ts)); gives = λ v. refl; fits = refl }
  kind_true (i ∷ is) s k = let n : length k.sorts ≡ 0 = eqb-true (length k.sorts) 0 k.written in absurd (omega (arith, n, count ds ts (i ∷ is) k.sorts k.are))

  pub kind_false : (is : List ℕ) (s : Sort) → IsSorted ds ts False is s → IsOfBools ds ts False is connective.Or
  kind_false [] s k = record { just = just_bools False [] (All-nil (IsBoolAt ds ts)); gives = λ v. refl; fits = refl }
  kind_false (i ∷ is) s k = let n : length k.sorts ≡ 0 = eqb-true (length k.sorts) 0 k.written in absurd (omega (arith, n, count ds ts (i ∷ is) k.sorts k.are))

  pub kind_not : (is : List ℕ) (s : Sort) → IsSorted ds ts Not is s → IsOfBools ds ts Not is connective.Nor
  kind_not [] s k = let n : length k.sorts ≡ 1 = eqb-true (length k.sorts) 1 k.written in absurd (omega (arith, n, count ds ts [] k.sorts k.are))
  kind_not (i ∷ []) s k = record {
    just = just_bools Not (i ∷ []) (truths_of Not (i ∷ []) s k (if_so_true (all_of Truths k.sorts) Truths s k.made));
    gives = λ v. ap not (or_false (v (Truth i)));
    fits = refl;
  }
  kind_not (i ∷ j ∷ is) s k = let n : length k.sorts ≡ 1 = eqb-true (length k.sorts) 1 k.written in absurd (omega (arith, n, count ds ts (i ∷ j ∷ is) k.sorts k.are))

  -- of an operator that folds the truth values of so many arguments
  kind_folded : (o : Operator) (c : Connective) (least : ℕ) (is : List ℕ) (s : Sort) (k : IsSorted ds ts o is s) → 0 < least → nat_le least (length k.sorts) ≡ true → if_so (all_of Truths k.sorts) Truths ≡ Some s
      → ((v : Atom → Bool) (i : ℕ) (js : List ℕ) → truth_of (operate o (truths v (i ∷ js))) ≡ connective_value c (values_at v (i ∷ js))) → bounds_fit ts o is ≡ true → IsOfBools ds ts o is c
  kind_folded o c least [] s k some written made gives fit = absurd (omega (arith, some, at_least least (length k.sorts) written, count ds ts [] k.sorts k.are))
  kind_folded o c least (i ∷ is) s k some written made gives fit =
      record { just = just_bools o (i ∷ is) (truths_of o (i ∷ is) s k (if_so_true (all_of Truths k.sorts) Truths s made)); gives = λ v. gives v i is; fits = fit }

  pub kind_and : (is : List ℕ) (s : Sort) → IsSorted ds ts And is s → IsOfBools ds ts And is connective.And
  kind_and is s k = kind_folded And connective.And 1 is s k (omega arith) k.written k.made (λ v i js. ap truth_of (all_fold v (v (Truth i)) js)) refl

  pub kind_or : (is : List ℕ) (s : Sort) → IsSorted ds ts Or is s → IsOfBools ds ts Or is connective.Or
  kind_or is s k = kind_folded Or connective.Or 1 is s k (omega arith) k.written k.made (λ v i js. ap truth_of (any_fold v (v (Truth i)) js)) refl

  pub kind_xor : (is : List ℕ) (s : Sort) → IsSorted ds ts Xor is s → IsOfBools ds ts Xor is connective.Xor
  kind_xor is s k = kind_folded Xor connective.Xor 2 is s k (omega arith) k.written k.made (λ v i js. ap truth_of (odd_fold v (v (Truth i)) js)) refl

  pub kind_implies : (is : List ℕ) (s : Sort) → IsSorted ds ts Implies is s → IsOfBools ds ts Implies is connective.Implies
  kind_implies is s k = kind_folded Implies connective.Implies 2 is s k (omega arith) k.written k.made (λ v i js. ap truth_of (implied_fold v (v (Truth i)) js)) refl

  -- ---- equality and difference

  pub two_or_more : (o : Operator) (is : List ℕ) (s : Sort) (k : IsSorted ds ts o is s) → nat_le 2 (length k.sorts) ≡ true → 2 ≤ length is
  two_or_more o is s k h = omega (arith, at_least 2 (length k.sorts) h, count ds ts is k.sorts k.are)

  first_sort : (is : List ℕ) → HaveSort ds ts is → (s : Sort) → 0 < length is → term_sort ds (tree_at ts (get_or is 0 0)) ≡ Some s → All (λ j. term_sort ds (tree_at ts j) ≡ Some s) is
  first_sort [] h s l e = absurd (omega (arith, l))
  first_sort (i ∷ is) h s l e = same_as_first ds ts (i ∷ is) h i is s refl e

  have_sort : (o : Operator) (is : List ℕ) (s : Sort) (k : IsSorted ds ts o is s) → if_so (all_the_same k.sorts) Truths ≡ Some s → HaveSort ds ts is
  have_sort o is s k h = one_sort ds ts is k.sorts k.are (if_so_true (all_the_same k.sorts) Truths s h)

  equal_gives : (is : List ℕ) (v : Atom → Bool) → truth_of (operate Equal (truths v is)) ≡ connective_value connective.Equal (values_at v is)
  equal_gives [] v = refl
  equal_gives (i ∷ is) v = alike_fold v (v (Truth i)) is ∙ alike_first (v (Truth i)) (list_all itself (values_at v is)) (list_any itself (values_at v is))

  all_fit : (is : List ℕ) → true ≡ neighbours_fit (λ i j. true) is
  all_fit [] = refl
  all_fit (i ∷ is) = from i is
    where
      from : (i : ℕ) (is : List ℕ) → true ≡ neighbours_fit_from (λ i j. true) i is
      from i [] = refl
      from i (j ∷ js) = from j js

  pub kind_equal_bools : (is : List ℕ) (s f : Sort) → IsSorted ds ts Equal is s → 0 < length is → term_sort ds (tree_at ts (get_or is 0 0)) ≡ Some f → f ≡ Truths → IsOfBools ds ts Equal is connective.Equal
  kind_equal_bools is s f k l e t = record {
    just = just_bools Equal is (all_bools ds ts is k.below (first_sort is (have_sort Equal is s k k.made) Truths l (e ∙ ap Some t)));
    gives = equal_gives is;
    fits = refl;
  }

  pub kind_equal_others : (is : List ℕ) (s f : Sort) → IsSorted ds ts Equal is s → 0 < length is → term_sort ds (tree_at ts (get_or is 0 0)) ≡ Some f → f ≢ Truths → IsOfNeighbours ds ts Equal is relation.Equal
  kind_equal_others is s f k l e t =
      let all : All (IsOtherAt ds ts) is = all_others ds ts is f t (first_sort is (have_sort Equal is s k k.made) f l e) in
      record { just = record { has = of_equal all; only = λ qs w h. only_equal is qs w h all }; fits = all_fit is }

  pub kind_distinct_others : (is : List ℕ) (s f : Sort) → IsSorted ds ts Distinct is s → 0 < length is → term_sort ds (tree_at ts (get_or is 0 0)) ≡ Some f → f ≢ Truths → IsOfPairs ds ts Distinct is
  kind_distinct_others is s f k l e t =
      let all : All (IsOtherAt ds ts) is = all_others ds ts is f t (first_sort is (have_sort Distinct is s k k.made) f l e) in
      record { just = record { has = of_distinct all; only = λ qs w h. only_distinct is qs w h all }; fits = refl }

  distinct_two : (is : List ℕ) → length is ≡ 2 → (v : Atom → Bool) → truth_of (operate Distinct (truths v is)) ≡ connective_value connective.Xor (values_at v is)
  distinct_two [] h v = absurd (omega (arith, h))
  distinct_two (i ∷ []) h v = absurd (omega (arith, h))
  distinct_two (i ∷ j ∷ []) h v = two_differ (v (Truth i)) (v (Truth j))
  distinct_two (i ∷ j ∷ k ∷ is) h v = absurd (omega (arith, h))

  distinct_more : (is : List ℕ) → 2 < length is → (v : Atom → Bool) → truth_of (operate Distinct (truths v is)) ≡ false
  distinct_more [] h v = absurd (omega (arith, h))
  distinct_more (i ∷ []) h v = absurd (omega (arith, h))
  distinct_more (i ∷ j ∷ []) h v = absurd (omega (arith, h))
  distinct_more (i ∷ j ∷ k ∷ is) h v =
      three_differ (v (Truth i)) (v (Truth j)) (v (Truth k)) (with_each differ (IsTruth (v (Truth i))) (truths v is)) (with_each differ (IsTruth (v (Truth j))) (truths v is))
      (pairwise differ (IsTruth (v (Truth k)) ∷ truths v is))

  distinct_bools : (is : List ℕ) (s f : Sort) → IsSorted ds ts Distinct is s → 0 < length is → term_sort ds (tree_at ts (get_or is 0 0)) ≡ Some f → f ≡ Truths → All (IsBoolAt ds ts) is
  distinct_bools is s f k l e t = all_bools ds ts is k.below (first_sort is (have_sort Distinct is s k k.made) Truths l (e ∙ ap Some t))

  pub kind_distinct_two : (is : List ℕ) (s f : Sort) → IsSorted ds ts Distinct is s → length is ≡ 2 → term_sort ds (tree_at ts (get_or is 0 0)) ≡ Some f → f ≡ Truths → IsOfBools ds ts Distinct is connective.Xor
  kind_distinct_two is s f k l e t = record {
    just = just_bools Distinct is (distinct_bools is s f k (omega (arith, l)) e t);
    gives = distinct_two is l;
    fits = refl;
  }

  pub kind_distinct_more : (is : List ℕ) (s f : Sort) → IsSorted ds ts Distinct is s → length is ≢ 2 → term_sort ds (tree_at ts (get_or is 0 0)) ≡ Some f → f ≡ Truths → IsOfBools ds ts Distinct is connective.False
  kind_distinct_more is s f k l e t =
      let two : 2 ≤ length is = two_or_more Distinct is s k k.written in
      record { just = just_bools Distinct is (distinct_bools is s f k (omega (arith, two)) e t); gives = distinct_more is (omega (arith, two, l)); fits = refl }

  -- ---- a choice

  choice_of_sorted : (is : List ℕ) (s : Sort) → IsSorted ds ts Ite is s → IsChoice ds ts is s
  choice_of_sorted is s k = choice ds ts is k.sorts s k.are k.made

  pub kind_choice : (is : List ℕ) (s : Sort) → IsSorted ds ts Ite is s → s ≡ Truths → IsOfBools ds ts Ite is connective.Ite
  kind_choice is s k t = record {
    just = just_bools Ite is all;
    gives = λ v. subst (λ (js : List ℕ). truth_of (operate Ite (truths v js)) ≡ choice_of (values_at v js)) (sym c.are) (chosen_value (v (Truth c.condition)) (v (Truth c.first)) (v (Truth c.second)));
    fits = refl;
  }
    where
      c : IsChoice ds ts is s
      c = choice_of_sorted is s k

      all : All (IsBoolAt ds ts) is
      all =
          all_bools ds ts is k.below
          (subst (All (λ j. term_sort ds (tree_at ts j) ≡ Some Truths)) (sym c.are)
          (All-cons (λ j. term_sort ds (tree_at ts j) ≡ Some Truths) c.condition (c.first ∷ c.second ∷ []) c.condition_sort
          (All-cons (λ j. term_sort ds (tree_at ts j) ≡ Some Truths) c.first (c.second ∷ []) (c.first_sort ∙ ap Some t)
          (All-cons (λ j. term_sort ds (tree_at ts j) ≡ Some Truths) c.second [] (c.second_sort ∙ ap Some t) (All-nil (λ j. term_sort ds (tree_at ts j) ≡ Some Truths))))))

  no_parts_choice : (is : List ℕ) (qs : List Atom) (w : (Atom → Bool) → Bool) → HasParts ds ts Ite is qs w → (s : Sort) → IsChoice ds ts is s → s ≢ Truths → ⊥
  no_parts_choice _ _ _ (of_bools {is = is} all) s c t =
      let three : All (IsBoolAt ds ts) (c.condition ∷ c.first ∷ c.second ∷ []) = subst (All (IsBoolAt ds ts)) c.are all in
      let b : IsBoolAt ds ts c.first = three 1 0 (omega arith) in
      let e : Some s ≡ Some Truths = sym c.first_sort ∙ b.1 in
      t (let f : s ≡ Truths = cc in f)

  pub kind_no_choice : (is : List ℕ) (s : Sort) → IsSorted ds ts Ite is s → s ≢ Truths → HasNoParts ds ts Ite is
  kind_no_choice is s k t = record { without = λ qs w h. no_parts_choice is qs w h s (choice_of_sorted is s k) t; fits = refl }

  -- ---- comparisons, and numbers

  -- of an operator that compares neighbours
  kind_compared : (o : Operator) (r : Relation) (is : List ℕ) (s : Sort) (k : IsSorted ds ts o is s) → if_so (all_of Ints k.sorts) Truths ≡ Some s → (All (IsIntAt ds ts) is → HasJust ds ts o is (along (relation_atom ts r) is) (λ v. every v (along (relation_atom ts r) is)))
      → bounds_fit ts o is ≡ neighbours_fit (relation_fits ts r) is → IsOfNeighbours ds ts o is r
  kind_compared o r is s k made just fit = record { just = just (ints_of o is s k (if_so_true (all_of Ints k.sorts) Truths s made)); fits = fit }

  pub kind_at_most : (is : List ℕ) (s : Sort) → IsSorted ds ts AtMost is s → IsOfNeighbours ds ts AtMost is relation.AtMost
  kind_at_most is s k = kind_compared AtMost relation.AtMost is s k k.made (λ all. record { has = of_at_most all; only = λ qs w h. only_at_most is qs w h all }) refl

  pub kind_less : (is : List ℕ) (s : Sort) → IsSorted ds ts Less is s → IsOfNeighbours ds ts Less is relation.Less
  kind_less is s k = kind_compared Less relation.Less is s k k.made (λ all. record { has = of_less all; only = λ qs w h. only_less is qs w h all }) refl

  pub kind_at_least : (is : List ℕ) (s : Sort) → IsSorted ds ts AtLeast is s → IsOfNeighbours ds ts AtLeast is relation.AtLeast
  kind_at_least is s k = kind_compared AtLeast relation.AtLeast is s k k.made (λ all. record { has = of_at_least all; only = λ qs w h. only_at_least is qs w h all }) refl

  pub kind_greater : (is : List ℕ) (s : Sort) → IsSorted ds ts Greater is s → IsOfNeighbours ds ts Greater is relation.Greater
  kind_greater is s k = kind_compared Greater relation.Greater is s k k.made (λ all. record { has = of_greater all; only = λ qs w h. only_greater is qs w h all }) refl

  -- of an operator on numbers that isn't a comparison, where it takes one argument or more
  kind_of_ints : (o : Operator) (is : List ℕ) (s r : Sort) (k : IsSorted ds ts o is s) → is_of_numbers o ≡ true → bounds_fit ts o is ≡ true → operator_sort o k.sorts ≡ if_so (all_of Ints k.sorts) r → 0 < length k.sorts
      → HasNoParts ds ts o is
  kind_of_ints o is s r k numbers fit sort some = record {
    without = λ qs w h. no_parts_of_ints o is qs w h numbers (omega (arith, some, count ds ts is k.sorts k.are)) (ints_of o is s k (if_so_true (all_of Ints k.sorts) r s (sym sort ∙ k.made)));
    fits = fit;
  }

  -- by how many arguments it takes
  at_least_one : (n : ℕ) → nat_le 1 n ≡ true → 0 < n
  at_least_one n h = omega (arith, at_least 1 n h)

  just_one : (n : ℕ) → nat_eq n 1 ≡ true → 0 < n
  just_one n h = omega (arith, eqb-true n 1 h)

  just_two : (n : ℕ) → nat_eq n 2 ≡ true → 0 < n
  just_two n h = omega (arith, eqb-true n 2 h)

  two_at_least : (n : ℕ) → nat_le 2 n ≡ true → 0 < n
  two_at_least n h = omega (arith, at_least 2 n h)

  pub kind_add : (is : List ℕ) (s : Sort) → IsSorted ds ts Add is s → HasNoParts ds ts Add is
  kind_add is s k = kind_of_ints Add is s Ints k refl refl refl (at_least_one (length k.sorts) k.written)

  pub kind_subtract : (is : List ℕ) (s : Sort) → IsSorted ds ts Subtract is s → HasNoParts ds ts Subtract is
  kind_subtract is s k = kind_of_ints Subtract is s Ints k refl refl refl (at_least_one (length k.sorts) k.written)

  pub kind_multiply : (is : List ℕ) (s : Sort) → IsSorted ds ts Multiply is s → HasNoParts ds ts Multiply is
  kind_multiply is s k = kind_of_ints Multiply is s Ints k refl refl refl (at_least_one (length k.sorts) k.written)

  pub kind_divide : (is : List ℕ) (s : Sort) → IsSorted ds ts Divide is s → HasNoParts ds ts Divide is
  kind_divide is s k = kind_of_ints Divide is s Ints k refl refl refl (two_at_least (length k.sorts) k.written)

  pub kind_modulo : (is : List ℕ) (s : Sort) → IsSorted ds ts Modulo is s → HasNoParts ds ts Modulo is
  kind_modulo is s k = kind_of_ints Modulo is s Ints k refl refl refl (just_two (length k.sorts) k.written)

  pub kind_absolute : (is : List ℕ) (s : Sort) → IsSorted ds ts Absolute is s → HasNoParts ds ts Absolute is
  kind_absolute is s k = kind_of_ints Absolute is s Ints k refl refl refl (just_one (length k.sorts) k.written)

  pub kind_divisible : (is : List ℕ) (s : Sort) → IsSorted ds ts Divisible is s → HasNoParts ds ts Divisible is
  kind_divisible is s k = let never : false ≡ true = k.written in absurd cc

-- a kind by another operator's name
pub by_name : (ds : List Declaration) (ts : List Tree) (o p : Operator) (is : List ℕ) (s : Sort) (k : Kind) → p ≡ o → (IsSorted ds ts o is s → IsKind ds ts o is k) → IsSorted ds ts p is s → IsKind ds ts p is k
by_name ds ts o p is s k e f h = subst (λ (q : Operator). IsKind ds ts q is k) (sym e) (f (subst (λ (q : Operator). IsSorted ds ts q is s) e h))
