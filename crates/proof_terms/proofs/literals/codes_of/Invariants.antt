use Rattle.std.proofs.Common.{◌≡◌, take}
use Rattle.std.specs.Prelude.{All}
use Rattle.proof_meaning.specs.Proof.{IsLiteral}
use Rattle.proof_terms.specs.Kept.{AreCodesOf, GoOn}
use Rattle.proof_terms.proofs.literals.codes_of.Given as goal

abbrev pub invariant-loop-literal : goal.invariant-loop-literal
invariant-loop-literal l = record {
  literals : All (IsLiteral l.terms.declared l.terms.trees) (take l.literal-index l.literals);
  codes : AreCodesOf l.clauses.atoms l.codes.items (take l.literal-index l.literals);
  clauses : l.clauses.clauses ≡ l.initial.clauses.clauses;
  atoms : GoOn l.initial.clauses.atoms l.clauses.atoms;
}
