use Rattle.std.proofs.Common.{◌≡◌, ap, sym, ◌∙◌, rules}
use Rattle.std.specs.Prelude.{◌*ℤ◌}
use Rattle.model_build.specs.WorkedOut.{kept}
use Rattle.model_build.proofs.Operators.{times_of}
use Rattle.model_build.proofs.numbers.combined.Goals as goal

pub returns-in_default : goal.returns-in_default
returns-in_default c =
    let made : c.kept_if_any-in_default.result ≡ kept (c.args.left *ℤ c.args.right) = search rules in
    made ∙ ap kept (sym (times_of c.args.operator c.args.left c.args.right c.in_default.not-Add c.in_default.not-Subtract))
