use Rattle.std.proofs.Common.{map, drop, ap, sym, ◌∙◌}
use Rattle.model_build.specs.Given.{given_at}
use Rattle.model_build.specs.WorkedOut.{folded}
use Rattle.model_build.proofs.Operators.{folded_none}
use Rattle.model_build.proofs.numbers.folded.Goals as goal

pub returns-in-None : goal.returns-in-None
returns-in-None c =
    sym (folded_none c.args.operator (map (given_at c.args.given.now) (drop c.loop-place.place-index c.args.others.now)))
    ∙ ap (λ m. folded c.args.operator m (map (given_at c.args.given.now) (drop c.loop-place.place-index c.args.others.now))) (sym c.in-None.is)
    ∙ c.loop-place.invariant
