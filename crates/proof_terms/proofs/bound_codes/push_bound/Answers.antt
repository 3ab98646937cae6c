use Rattle.std.proofs.Common.{subst}
use Rattle.std.specs.Prelude.{ℤ}
use Rattle.std.specs.Int.{w128}
use Rattle.std.proofs.lemmas.Int.{to_z-of_z}
use Rattle.smt_meaning.specs.declared.clauses.Atom.TheVariants.{AtMost}
use Rattle.proof_meaning.specs.Proof.{literal}
use Rattle.proof_terms.specs.Kept.{IsCodeOf}
use Rattle.proof_terms.proofs.BoundJoining.{joined_one}
use Rattle.proof_terms.proofs.bound_codes.push_bound.Goals as goal

pub returns : goal.returns
returns c =
    joined_one c.args.clauses.now c.bound.new.self c.args.codes.now.items c.push.new.self.items c.in_ok-code.code (literal c.args.positive (AtMost c.args.sum.now c.args.limit)) c.bound.ensures.codes
    (subst (λ (z : ℤ). IsCodeOf c.bound.new.self.atoms c.in_ok-code.code (literal c.args.positive (AtMost c.args.sum.now z))) (to_z-of_z w128 c.args.limit c.ranges.limit) c.in_ok-code.ensures.code)
    c.in_ok-push.ensures.items c.bound.ensures.kept
