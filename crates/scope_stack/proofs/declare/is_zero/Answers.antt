use Rattle.std.proofs.Common.{◌≡◌, unsigned_abs}
use Rattle.std.specs.Int.{w128}
use Rattle.std.proofs.lemmas.Int.{to_z-of_z}
use Rattle.scope_stack.proofs.DeclareSteps.{zero_is}
use Rattle.scope_stack.proofs.declare.is_zero.Goals as goal

pub returns : goal.returns
returns c =
    let size : c.unsigned_abs.result ≡ unsigned_abs c.args.number = rw (to_z-of_z w128 c.args.number c.ranges.number) at c.unsigned_abs.ensures.value in
    rw size (zero_is c.args.number)
