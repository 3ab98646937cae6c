use Rattle.std.proofs.Common.{◌≡◌, ◌∙◌, ℤ, pos, true, false, sym, ap, nat_eq, of_z}
use Rattle.std.specs.Int.{w128}
use Rattle.std.specs.Int.RustNames.{int_rem}
use Rattle.std.proofs.lemmas.Int.{to_z-of_z}
use Rattle.sum_bounds.proofs.Steps.{no_rest}
use Rattle.sum_bounds.proofs.progression.is_multiple.Goals as goal

pub returns-else-of-eq0 : goal.returns-else-of-eq0
returns-else-of-eq0 c = λ no m e.
    let rest : int_rem c.args.number c.args.of ≡ pos 0 = no_rest c.args.number c.args.of m e in
    absurd (let z : true ≡ false = sym (rw (to_z-of_z w128 c.args.number c.ranges.number) (rw (to_z-of_z w128 c.args.of c.ranges.of) (ap (λ (r : ℤ). nat_eq (of_z w128 r) 0) rest))) ∙ no in cc)
