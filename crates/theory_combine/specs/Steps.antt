-- How a search goes on.
use Rattle.std.specs.Prelude.{ℕ, ◌<◌, List, [], ◌∷◌, length, ℤ, pos, int_le, All}
use Rattle.smt_meaning.specs.declared.clauses.Atom.{Atom}
use Rattle.atom_form.specs.AtomTableNumbers.{IsAt}
use Rattle.search_port.specs.State.{Reading, TheoryState}
use Rattle.search_port.specs.declared.budget.Lemma.{Lemma}
use Rattle.search_port.specs.Calls.{IsLemma, IsConflict, EndsBy, InferredBy, CheckedBy}
use Rattle.search_port.specs.declared.theory.Inferred.{Inferred}
use Rattle.search_port.specs.declared.theory.Checked.{Checked}
use Rattle.search_port.specs.Spending.{Spending}
use Rattle.equality_clauses.specs.Ties.{literal}
use Rattle.theory_combine.specs.declared.step.Step.{Step}
use Rattle.theory_combine.specs.declared.step.Step.TheVariants.{Lemmas, Conflict, Ended}

-- clauses of the theory wherever the atom has this number
abbrev pub AreLemmasOf : ℕ → Atom → List Lemma → Type 0
AreLemmasOf n a cs = (r : Reading) → IsAt r.table n a → All (IsLemma r) cs

-- whether the empty sum is at most k, where this is the number of that bound
abbrev pub constant_clause : ℕ → ℤ → Lemma
constant_clause n k = record { literals = literal (int_le (pos 0) k) n ∷ []; level = 0 }

-- clauses of the theory after a unit was spent, a conflict, or why there is no end
abbrev pub IsStep : TheoryState → Spending → Spending → Step → Type 0
IsStep t b c (Lemmas cs) = All (IsLemma t.reading) cs × (length b.units < length c.units)
IsStep t b c (Conflict d) = IsConflict t d
IsStep t b c (Ended cause) = EndsBy t c cause

-- what a step comes to between decisions, whatever the state
abbrev pub StepInfers : Step → Inferred → Type 0
StepInfers s i = (t : TheoryState) (b c : Spending) → IsStep t b c s → InferredBy t b c i

-- and in a last check
abbrev pub StepChecks : Step → Checked → Type 0
StepChecks s d = (t : TheoryState) (b c : Spending) → IsStep t b c s → CheckedBy t b c d
