use Rattle.smt_meaning.specs.declared.clauses.Atom.TheVariants.{Truth}
use Rattle.proof_meaning.specs.Proof.{literal}
use Rattle.proof_terms.proofs.BoundJoining.{joined_one}
use Rattle.proof_terms.proofs.euclid_codes.push_truth.Goals as goal

pub returns : goal.returns
returns c =
    joined_one c.args.clauses.now c.truth.new.self c.args.codes.now.items c.push.new.self.items c.in_ok-code.code (literal c.args.positive (Truth c.args.place)) c.truth.ensures.codes c.in_ok-code.ensures.code c.in_ok-push.ensures.items
    c.truth.ensures.kept
