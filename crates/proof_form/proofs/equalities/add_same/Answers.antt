use Rattle.std.proofs.Common.{rules}
use Rattle.smt_meaning.specs.declared.clauses.Atom.TheVariants.{Same}
use Rattle.proof_meaning.specs.Proof.{literal}
use Rattle.proof_terms.proofs.ClausesCodes.{codes_joined}
use Rattle.proof_form.proofs.equalities.add_same.Goals as goal

pub returns-clause-literal : goal.returns-clause-literal
returns-clause-literal c =
    λ e. (
      search rules,
      codes_joined c.args.clauses.now.atoms c.same.new.self.atoms c.args.codes.now.items c.push.new.self.items c.in_ok-code.code (literal c.args.positive (Same c.args.left c.args.right)) c.same.ensures.codes
          c.in_ok-code.ensures.code c.in_ok-push.ensures.items,
    )
