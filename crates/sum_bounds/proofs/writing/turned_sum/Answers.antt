use Rattle.std.proofs.Common.{◌≤◌, ◌∙◌, map, length, ap}
use Rattle.std.proofs.lemmas.List.{take_all}
use Rattle.sum_bounds.specs.Written.{turned_summand}
use Rattle.sum_bounds.proofs.Sums.{turned_is}
use Rattle.sum_bounds.proofs.writing.turned_sum.Goals as goal

pub returns : goal.returns
returns c =
    let all : length c.args.sum.now ≤ c.loop-summand.summand-index = c.loop-summand-test.false in
    c.loop-summand.invariant ∙ ap (map (turned_summand c.first_is_negative-turned.result)) (take_all c.loop-summand.summand-index c.args.sum.now all)
    ∙ ap (λ b. map (turned_summand b) c.args.sum.now) c.first_is_negative-turned.ensures ∙ turned_is c.args.sum.now
