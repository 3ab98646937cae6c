-- What holds of the clauses of proofs.
use Rattle.std.specs.Prelude.{ℕ, List, map, Contains, All, ◌<◌, length, IsTrue}
use Rattle.smt_meaning.specs.declared.clauses.Literal.{Literal}
use Rattle.proof_meaning.specs.declared.proof.Proof.{Proof}
use Rattle.proof_meaning.specs.declared.proof.Step.TheVariants.{Assert}
use Rattle.smt_meaning.specs.Term.{Tree, Interpretation, tree_at}
use Rattle.smt_meaning.specs.Clause.{some_true}
use Rattle.smt_meaning.specs.Interpretation.{Interprets}
use Rattle.smt_meaning.specs.Stack.{Frame, Satisfies, HasNoModel, assertions_of, signature_of}
use Rattle.proof_meaning.specs.Proof.{meant}
use Rattle.proof_meaning.specs.Rules.{IsByRules, IsGood}

-- over the trees for which the terms stand
abbrev pub IsTrueClause : List Tree → Interpretation → List Literal → Type 0
IsTrueClause ts I ls = IsTrue (some_true (map meant ts) I ls)

-- the assertions that the proof's `assert` steps name are true
abbrev pub MakesNamedTrue : Interpretation → List Frame → Proof → Type 0
MakesNamedTrue I frames p =
    (a i : ℕ) → Contains p.steps (Assert a i) → a < length (assertions_of frames) → Satisfies I (tree_at (assertions_of frames) a)

-- each interpretation that makes these true makes each clause of the proof true
abbrev pub ProofClausesAreTrue : Type 0
ProofClausesAreTrue =
    (frames : List Frame) (p : Proof) (ts : List Tree) (clauses : List (List Literal)) (I : Interpretation)
    → Interprets (signature_of frames) I → IsByRules frames p ts clauses → MakesNamedTrue I frames p → All (IsTrueClause ts I) clauses

-- no interpretation makes the assertions true that a good proof names
abbrev pub NamedAssertionsHaveNoModel : Type 0
NamedAssertionsHaveNoModel =
    (frames : List Frame) (p : Proof) (I : Interpretation) → IsGood frames p → Interprets (signature_of frames) I → MakesNamedTrue I frames p → ⊥

-- where there is a good proof, the assertions have no model
abbrev pub GoodProofLeavesNoModel : Type 0
GoodProofLeavesNoModel = (frames : List Frame) (p : Proof) → IsGood frames p → HasNoModel frames
