use Rattle.std.specs.Int.{w128}
use Rattle.std.proofs.lemmas.Int.{quot_is, fits_signed_from_abs}
use Rattle.std.specs.Int.RustNames.{int_div}
use Rattle.std.proofs.Common.{pos, ◌<ℤ◌, ◌*ℤ◌, ◌∙◌, sym, subst, ap}
use Rattle.fraction128.specs.Whole.{InRange}
use Rattle.sum_bounds.proofs.Steps.{exact_quotient}
use Rattle.sum_bounds.proofs.progression.quotient.Goals as goal

pub returns-clause-positive : goal.returns-clause-positive
returns-clause-positive c =
    let e = exact_quotient c.args.number c.args.divisor c.requires.number.0 c.requires.divisor c.requires.divides c.requires.number.1 in
    subst (λ z. pos 0 <ℤ z) (sym (quot_is w128 c.args.number c.args.divisor c.ranges.number c.ranges.divisor (fits_signed_from_abs w128 (int_div c.args.number c.args.divisor) e.0))) e.1

pub returns-clause-in_range : goal.returns-clause-in_range
returns-clause-in_range c =
    let e = exact_quotient c.args.number c.args.divisor c.requires.number.0 c.requires.divisor c.requires.divides c.requires.number.1 in
    subst InRange (sym (quot_is w128 c.args.number c.args.divisor c.ranges.number c.ranges.divisor (fits_signed_from_abs w128 (int_div c.args.number c.args.divisor) e.0))) e.0

pub returns-clause-value : goal.returns-clause-value
returns-clause-value c =
    let e = exact_quotient c.args.number c.args.divisor c.requires.number.0 c.requires.divisor c.requires.divides c.requires.number.1 in
    ap (λ z. z *ℤ c.args.divisor) (quot_is w128 c.args.number c.args.divisor c.ranges.number c.ranges.divisor (fits_signed_from_abs w128 (int_div c.args.number c.args.divisor) e.0)) ∙ e.2
