-- What keeping the clause of a row comes to.
use Rattle.std.specs.Prelude.{◌≡◌, ◌++◌, ◌∷◌, [], ℕ, true, false, List}
use Rattle.smt_meaning.specs.declared.clauses.Literal.{Literal}
use Rattle.smt_meaning.specs.Term.{Tree}
use Rattle.smt_meaning.specs.Division.{Row}
use Rattle.smt_laws.specs.Rows.{placed_literals}
use Rattle.proof_terms.specs.Range.{row_stays}
use Rattle.proof_terms.specs.Kept.{Kept, KeepsAll}
use Rattle.proof_terms.specs.declared.verdict.Verdict.{Verdict}
use Rattle.proof_terms.specs.declared.verdict.Verdict.TheVariants.{Good, Wrong, Range}

-- the clause of a row is kept, or folding it leaves the range
abbrev pub KeepsRow : Kept → Kept → List Tree → ℕ → Row ℕ → Verdict → Type 0
KeepsRow old new ts i row Good = (row_stays ts row ≡ true) × ((before : List (List Literal)) → KeepsAll old before → KeepsAll new (before ++ placed_literals ts i row ∷ []))
KeepsRow old new ts i row Wrong = ⊥
KeepsRow old new ts i row Range = row_stays ts row ≡ false
