use Rattle.std.proofs.Common.{arith, subst}
use Rattle.look_ahead.specs.Lets.{IsDouble}
use Rattle.look_ahead.proofs.LetLemmas.{no_names, names_fine, names_doubled}
use Rattle.look_ahead.proofs.lets.check_names.Goals as goal

pub returns-then-is_empty-clause-err : goal.returns-then-is_empty-clause-err
returns-then-is_empty-clause-err c = no_names c.args.names.now (grind arith)

pub returns-in-Ok-None-clause-ok : goal.returns-in-Ok-None-clause-ok
returns-in-Ok-None-clause-ok c = names_fine c.args.names.now (grind arith) (subst (IsDouble c.args.names.now) c.in-Ok-None.field-0-is c.in-Ok-None.ensures)

pub returns-in-Ok-clause-err : goal.returns-in-Ok-clause-err
returns-in-Ok-clause-err c =
    names_doubled c.args.names.now c.in-Ok-Some.place c.in-Ok.name _ (subst (IsDouble c.args.names.now) c.in-Ok-Some.field-0-is c.in-Ok-Some.ensures) c.in-Ok.ensures
