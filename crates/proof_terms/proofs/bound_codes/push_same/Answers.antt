use Rattle.smt_meaning.specs.declared.clauses.Atom.TheVariants.{Same}
use Rattle.proof_meaning.specs.Proof.{literal}
use Rattle.proof_terms.proofs.BoundJoining.{joined_one}
use Rattle.proof_terms.proofs.bound_codes.push_same.Goals as goal

pub returns : goal.returns
returns c =
    joined_one c.args.clauses.now c.same.new.self c.args.codes.now.items c.push.new.self.items c.in_ok-code.code (literal c.args.positive (Same c.args.left c.args.right)) c.same.ensures.codes c.in_ok-code.ensures.code
    c.in_ok-push.ensures.items c.same.ensures.kept
