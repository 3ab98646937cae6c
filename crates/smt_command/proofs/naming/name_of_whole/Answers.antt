use Rattle.std.proofs.Common.{◌∙◌, ap, Some, None}
use Rattle.std.specs.Option.{option_copied}
use Rattle.smt_meaning.specs.Core.{first_named}
use Rattle.smt_command.specs.Arguments.{left}
use Rattle.smt_command.proofs.NamingSteps.{goes_deeper, next_found}
use Rattle.smt_command.proofs.naming.name_of_whole.Goals as goal

pub loop-inside-preserved-in-Some-first_name : goal.loop-inside-preserved-in-Some-first_name
loop-inside-preserved-in-Some-first_name c =
    next_found (left c.loop-inside.named) (left c.in-Some.inside) (Some c.in-Some-first_name.name.now) (option_copied c.loop-inside.found) _ c.in-Some.ensures c.loop-inside.invariant
    (c.in-Some-first_name.ensures ∙ ap first_named c.skip.ensures.rest)

pub loop-inside-smaller : goal.loop-inside-smaller
loop-inside-smaller c = goes_deeper (left c.loop-inside.named) (left c.in-Some.inside) c.in-Some.ensures

pub loop-inside-preserved : goal.loop-inside-preserved
loop-inside-preserved c =
    next_found (left c.loop-inside.named) (left c.in-Some.inside) None (option_copied c.loop-inside.found) _ c.in-Some.ensures c.loop-inside.invariant
    (c.in_default-first_name.ensures ∙ ap first_named c.skip.ensures.rest)
