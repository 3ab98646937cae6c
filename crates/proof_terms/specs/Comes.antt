-- What a step comes to.
use Rattle.std.specs.Prelude.{◌++◌, ◌∷◌, [], List, All}
use Rattle.smt_meaning.specs.declared.clauses.Literal.{Literal}
use Rattle.proof_meaning.specs.declared.proof.Step.{Step}
use Rattle.smt_meaning.specs.Term.{Tree}
use Rattle.proof_meaning.specs.Proof.{IsLiteral}
use Rattle.proof_meaning.specs.Rules.{Gives}
use Rattle.proof_terms.specs.Range.{LeavesRange}
use Rattle.proof_terms.specs.Terms.{ProofTerms}
use Rattle.proof_terms.specs.Kept.{Kept, KeepsAll}
use Rattle.proof_terms.specs.declared.verdict.Verdict.{Verdict}
use Rattle.proof_terms.specs.declared.verdict.Verdict.TheVariants.{Good, Wrong, Range}

-- a step gives a clause after others
abbrev pub GivesAfter : ProofTerms → List Tree → List (List Literal) → Step → List Literal → Type 0
GivesAfter t asserted before step ls = Gives t.declared t.nodes t.trees asserted before step ls

-- its clause is kept
pub record GoesOn (t : ProofTerms) (asserted : List Tree) (before : List (List Literal)) (step : Step) (new : Kept) : Type 0 where
  pub clause : List Literal
  pub gives : GivesAfter t asserted before step clause
  pub keeps : KeepsAll new (before ++ clause ∷ [])

abbrev pub Stays : ProofTerms → Step → Type 0
Stays t step = LeavesRange t.declared t.nodes t.trees step → ⊥

-- the literals of clauses are over the terms, of the right sorts
abbrev pub AreLiterals : ProofTerms → List (List Literal) → Type 0
AreLiterals t clauses = All (λ (ls : List Literal). All (IsLiteral t.declared t.trees) ls) clauses

-- it is by its rule, it isn't, or a number leaves the range
abbrev pub Comes : ProofTerms → List Tree → Kept → Kept → Step → Verdict → Type 0
Comes t asserted old new step Good = Stays t step × ((before : List (List Literal)) → KeepsAll old before → AreLiterals t before → GoesOn t asserted before step new)
Comes t asserted old new step Wrong =
    Stays t step × ((before : List (List Literal)) (ls : List Literal) → KeepsAll old before → AreLiterals t before → GivesAfter t asserted before step ls → ⊥)
Comes t asserted old new step Range = LeavesRange t.declared t.nodes t.trees step
