use Rattle.std.proofs.Common.{ap, ◌∙◌, subst, sym}
use Rattle.pair_bounds.proofs.TurningLemmas.{negation_fits, negated_limit, negation_order}
use Rattle.linear_forms.specs.Sums.{IsSumWithin}
use Rattle.smt_meaning.specs.Linear.{sum_fits}
use Rattle.pair_bounds.proofs.turning.turn.Goals as goal

pub returns-then-first_is_negative-clause-fits : goal.returns-then-first_is_negative-clause-fits
returns-then-first_is_negative-clause-fits c = ap sum_fits c.negate.ensures ∙ negation_fits c.args.sum.now c.requires.fits

pub returns-then-first_is_negative-clause-says : goal.returns-then-first_is_negative-clause-says
returns-then-first_is_negative-clause-says c = negated_limit c.args.sum.now c.negate.new.sum c.args.threshold c.negate.ensures c.requires.in_range

pub returns-then-first_is_negative-clause-order : goal.returns-then-first_is_negative-clause-order
returns-then-first_is_negative-clause-order c = λ low high h. subst (IsSumWithin low high) (sym c.negate.ensures) (negation_order low high c.args.sum.now h)
