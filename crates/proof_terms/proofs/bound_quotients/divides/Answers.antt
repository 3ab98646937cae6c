use Rattle.std.proofs.Common.{ap, ◌∙◌}
use Rattle.std.specs.Prelude.{unsigned_abs}
use Rattle.std.specs.Int.{w128}
use Rattle.std.proofs.lemmas.Int.{to_z-of_z}
use Rattle.proof_terms.proofs.BoundJoining.{divides_by}
use Rattle.proof_terms.proofs.bound_quotients.divides.Goals as goal

pub returns : goal.returns
returns c =
    divides_by c.args.divisor (unsigned_abs c.args.number) c.unsigned_abs.result (c.unsigned_abs.ensures.value ∙ ap unsigned_abs (to_z-of_z w128 c.args.number c.ranges.number))
