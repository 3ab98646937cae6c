use Rattle.proof_terms.proofs.ClausesCodes.{codes_joined}
use Rattle.std.proofs.Common.{rules}
use Rattle.proof_terms.proofs.literals.add_code.Goals as goal

pub returns-clause-literal : goal.returns-clause-literal
returns-clause-literal c =
    λ e. (
      search rules,
      codes_joined c.args.clauses.now.atoms c.literal.new.self.atoms c.args.codes.now.items c.push.new.self.items c.in_ok-code.code c.args.literal.now c.literal.ensures.codes c.in_ok-code.ensures.code
          c.in_ok-push.ensures.items,
    )
