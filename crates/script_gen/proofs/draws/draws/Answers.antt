use Rattle.std.proofs.Common.{arith, ◌≡◌, ◌++◌, ◌∷◌, []}
use Rattle.std.proofs.lemmas.Grind.{common_steps}
use Rattle.script_gen.proofs.Rounds.{draw_more, no_draw}
use Rattle.script_gen.proofs.draws.draws.Goals as goal

pub loop-preserved : goal.loop-preserved
loop-preserved c =
    let pushed : c.push.new.self.items ≡ c.loop.numbers.items ++ c.draw.result ∷ [] = c.in_ok-push.ensures.items in
    record {
      drawn = rw pushed (draw_more c.args.bound c.args.count c.loop.counter c.loop.rng c.draw.new.rng c.draw.result c.loop.numbers.items _ (omega arith) c.draw.ensures.drawn c.loop.invariant.drawn);
      below = grind (arith, common_steps, pushed, c.loop.invariant.below, c.draw.ensures.below);
      count = grind (arith, common_steps, pushed, c.loop.invariant.count);
    }

pub returns-clause-drawn : goal.returns-clause-drawn
returns-clause-drawn c = no_draw c.args.bound c.args.count c.loop.counter c.loop.rng c.loop.numbers.items _ (omega arith) c.loop.invariant.drawn
