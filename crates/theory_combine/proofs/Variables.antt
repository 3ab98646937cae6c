-- Leaves that have variables.
use Rattle.std.proofs.Common.{◌≡◌, ◌∙◌, ℕ, ◌+◌, ◌<◌, Bool, List, [], ◌++◌, length, inl, inr, sym, ap, subst, arith}
use Rattle.std.specs.Prelude.{slice_index_or}
use Rattle.std.proofs.lemmas.Bool.{cases_lt}
use Rattle.std.proofs.lemmas.List.{append-nil, get_or-map, get_or_append_left, length-append, length-map}
use Rattle.fraction128.specs.declared.Summand.{Summand}
use Rattle.fraction128.specs.declared.Column.{Column}
use Rattle.smt_meaning.specs.StackCommand.{Stack}
use Rattle.simplex_steps.specs.State.{column_in, no_column}
use Rattle.sum_bounds.specs.Written.{HasLeaf}
use Rattle.bound_log.specs.Told.{State, column_sums}
use Rattle.bound_log.specs.Growth.{GrowsVariables}
use Rattle.exact_model.specs.Leaves.{IsIntLeaf}
use Rattle.theory_combine.specs.declared.parts.Parts.{Parts}
use Rattle.theory_combine.specs.declared.parts.Progress.{Progress}
use Rattle.theory_combine.specs.Columns.{HaveVariables, HaveVariablesTo}
use Rattle.theory_combine.specs.Progress.{IsUnderWay}
use Rattle.theory_combine.specs.Shown.{IsMarkedLeaf}

sum_at : (b : State) (i : ℕ) → i < length b.bounds.columns → slice_index_or (column_sums b) i [] ≡ (column_in b.bounds.columns i).sum
sum_at b i lt = get_or-map (λ (c : Column). c.sum) b.bounds.columns i no_column [] lt

as_many : (b : State) → length (column_sums b) ≡ length b.bounds.columns
as_many b = length-map b.bounds.columns (λ (c : Column). c.sum)

-- where the variables keep their sums, and some may come after them, what has one keeps it
pub leaf_on : (b d : State) (more : List (List Summand)) (term : ℕ) → column_sums d ≡ column_sums b ++ more → HasLeaf b.bounds.columns term → HasLeaf d.bounds.columns term
leaf_on b d more term e h =
    let i : ℕ = h.0 in
    let before : i < length (column_sums b) = subst (λ n. i < n) (sym (as_many b)) h.1 in
    let count : length d.bounds.columns ≡ length (column_sums b) + length more = sym (as_many d) ∙ ap (λ (xs : List (List Summand)). length xs) e ∙ length-append (column_sums b) more in
    let within : i < length d.bounds.columns = omega (arith, before, count) in (
      i,
      within,
      sym (sum_at d i within) ∙ ap (λ (xs : List (List Summand)). slice_index_or xs i []) e ∙ get_or_append_left (column_sums b) more [] i before ∙ sum_at b i h.1 ∙ h.2,
    )

pub leaf_grown : (b d : State) → GrowsVariables b d → (term : ℕ) → HasLeaf b.bounds.columns term → HasLeaf d.bounds.columns term
leaf_grown b d grows term h = leaf_on b d grows.more term grows.sums h

pub leaf_same : (b d : State) → column_sums d ≡ column_sums b → (term : ℕ) → HasLeaf b.bounds.columns term → HasLeaf d.bounds.columns term
leaf_same b d e term h = leaf_on b d [] term (e ∙ sym (append-nil (column_sums b))) h

-- ---- of the marked leaves

pub leaves_grown : (s : Stack) (marks : List Bool) (b d : State) → GrowsVariables b d → HaveVariables s marks b → HaveVariables s marks d
leaves_grown s marks b d grows h = λ p l. leaf_grown b d grows p (h p l)

pub leaves_same : (s : Stack) (marks : List Bool) (b d : State) → column_sums d ≡ column_sums b → HaveVariables s marks b → HaveVariables s marks d
leaves_same s marks b d e h = λ p l. leaf_same b d e p (h p l)

-- none is before the first place
pub leaves_first : (s : Stack) (marks : List Bool) (b : State) → HaveVariablesTo s marks 0 b
leaves_first s marks b = λ p lt l. absurd (omega (arith, lt))

-- one place more
pub leaves_next : (s : Stack) (marks : List Bool) (b d : State) (k : ℕ) → ((p : ℕ) → HasLeaf b.bounds.columns p → HasLeaf d.bounds.columns p) → HaveVariablesTo s marks k b
    → (IsMarkedLeaf s marks k → HasLeaf d.bounds.columns k) → HaveVariablesTo s marks (k + 1) d
leaves_next s marks b d k kept h one = λ p lt l. elim (cases_lt p k) [
  | inl before ↦ kept p (h p before l)
  | inr past ↦
      let here : k ≡ p = omega (arith, lt, past) in
      subst (HasLeaf d.bounds.columns) here (one (subst (IsMarkedLeaf s marks) (sym here) l))
]

-- where the search hasn't stopped, each has one
pub has_variables : (p : Parts) (w : Progress) → IsUnderWay p w → (q : ℕ) → IsIntLeaf p.stack.now p.marks.items q → HasLeaf w.held.bounds.bounds.columns q
has_variables p w u q l = u.1.variables q (record { within = l.within; marked = l.marked; is_int = l.is_int; leaf = l.leaf })
