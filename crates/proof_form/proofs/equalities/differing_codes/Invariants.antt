use Rattle.std.proofs.Common.{◌≡◌, take}
use Rattle.std.specs.Prelude.{All}
use Rattle.proof_meaning.specs.Proof.{IsLiteral}
use Rattle.proof_meaning.specs.Rules.{differing}
use Rattle.proof_terms.specs.Kept.{AreCodesOf, GoOn}
use Rattle.proof_form.proofs.equalities.differing_codes.Given as goal

abbrev pub invariant-loop-i : goal.invariant-loop-i
invariant-loop-i l = record {
  literals : All (IsLiteral l.terms.declared l.terms.trees) (differing (take l.i l.left) (take l.i l.right));
  codes : AreCodesOf l.clauses.atoms l.codes.items (differing (take l.i l.left) (take l.i l.right));
  clauses : l.clauses.clauses ≡ l.initial.clauses.clauses;
  atoms : GoOn l.initial.clauses.atoms l.clauses.atoms;
}
