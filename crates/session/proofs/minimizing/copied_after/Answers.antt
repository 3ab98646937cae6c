use Rattle.std.proofs.Common.{◌∙◌, ◌-◌, drop, length, arith, length-drop}
use Rattle.std.proofs.lemmas.List.{take_all}
use Rattle.std.proofs.lemmas.Result.{IfOk-weaker}
use Rattle.session.proofs.minimizing.copied_after.Goals as goal

pub returns : goal.returns
returns c =
    IfOk-weaker c.copied.result _ _
    (λ zs e. (
      c.assertions.result.now,
      c.assertions.ensures,
      e ∙ take_all (length c.assertions.result.now - c.args.below) (drop c.args.below c.assertions.result.now) (omega (arith, length-drop c.args.below c.assertions.result.now)),
    ))
    c.copied.ensures
