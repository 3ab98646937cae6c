-- Values of terms by their variables, and sums that have none.
use Rattle.std.proofs.Common.{◌≡◌, ◌≢◌, ℕ, ◌<◌, List, length, Option, Some, None, sym, ap, subst, refl, arith}
use Rattle.std.proofs.lemmas.List.{get_or_past}
use Rattle.fraction128.specs.Number.{SameNumber}
use Rattle.fraction128.specs.declared.Summand.{Summand}
use Rattle.fraction128.specs.declared.Column.{Column}
use Rattle.fraction128.specs.Grid.{same_sum, only_if, column_of, variable_of, leaf}
use Rattle.fraction128.specs.Lines.{sum_value}
use Rattle.simplex_steps.proofs.NextStep.{first_some}
use Rattle.tableau.specs.Table.{Table}
use Rattle.simplex_steps.specs.State.{column_in, no_column, values, IsSolution}
use Rattle.simplex.specs.Sums.{IsMeant, HaveOwnSums}
use Rattle.simplex.proofs.Leaves.{same_sum-is, only_some, leaf_found}
use Rattle.sum_bounds.specs.Bounds.{AreWholeIn}

-- where the terms' values are whole, that of each term is, also of one with no variable
pub whole_leaf : (cs : List Column) (term : ℕ) → AreWholeIn cs → (values cs (variable_of cs term)).denominator ≡ 1
whole_leaf cs term whole_ = by (column_of cs (leaf term)) refl
  where
    by : (o : Option ℕ) → column_of cs (leaf term) ≡ o → (values cs (variable_of cs term)).denominator ≡ 1
    by (Some v) e =
        let r = first_some (λ j c. only_if (same_sum c.sum (leaf term)) (Some j)) 0 cs v e in
        let j = r.0 in
        let at = r.2 in
        let both_ = only_some (same_sum (column_in cs j).sum (leaf term)) r.1 v r.4 in
        let n : r.1 ≡ v = both_.1 in
        let jv : j ≡ v = omega (arith, at, n) in
        rw e (subst (λ i. (values cs i).denominator ≡ 1) jv (whole_ j r.3 term (same_sum-is (column_in cs j).sum (leaf term) both_.0)))
    by None e = rw e (ap (λ (c : Column). c.value.denominator) (get_or_past cs (length cs) no_column (omega arith)))

-- each variable's value is that of its sum at the values of the terms' variables
pub sum_values : (t : Table) (cs : List Column) → IsSolution t cs → IsMeant t.rows cs → HaveOwnSums cs → (i : ℕ) → i < length cs
    → SameNumber (values cs i) (sum_value (λ term. values cs (variable_of cs term)) (column_in cs i).sum)
sum_values t cs s meant apart i lt =
    meant.determined (values cs) (λ term. values cs (variable_of cs term)) (λ j. (s.fractions j).positive) (λ term. (s.fractions (variable_of cs term)).positive) s.meets
    (λ j term lj e. subst (λ n. SameNumber (values cs j) (values cs n)) (sym (leaf_found cs term j apart lj e)) refl) i lt

-- a sum that no variable stands for
pub column_none : (cs : List Column) (ps : List Summand) → ((i : ℕ) → i < length cs → (column_in cs i).sum ≢ ps) → column_of cs ps ≡ None
column_none cs ps lacks = by (column_of cs ps) refl
  where
    by : (o : Option ℕ) → column_of cs ps ≡ o → column_of cs ps ≡ None
    by None e = e
    by (Some v) e =
        let r = first_some (λ j c. only_if (same_sum c.sum ps) (Some j)) 0 cs v e in
        let both_ = only_some (same_sum (column_in cs r.0).sum ps) r.1 v r.4 in
        absurd (lacks r.0 r.3 (same_sum-is (column_in cs r.0).sum ps both_.0))
