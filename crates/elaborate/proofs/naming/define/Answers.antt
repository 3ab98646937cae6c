use Rattle.std.proofs.Common.{ap}
use Rattle.elaborate.proofs.Named.{declared, failed, too_many}
use Rattle.elaborate.proofs.naming.define.Goals as goal

pub returns-in-Ok-add_name-clause-comes : goal.returns-in-Ok-add_name-clause-comes
returns-in-Ok-add_name-clause-comes c =
    declared c.args.name.now c.args.store.now.trees c.args.value c.args.table.now c.add_name.new.self c.new.result c.in-Ok.body c.in-Ok-add_name.field-0 c.ids.ensures.table.few_ids c.in-Ok-add_name.ensures.full c.new.ensures c.in-Ok.ensures c.in-Ok-add_name.ensures.ok c.in-Ok-add_name.ensures.signature

pub returns-in-Err-TooManySymbols-clause-comes : goal.returns-in-Err-TooManySymbols-clause-comes
returns-in-Err-TooManySymbols-clause-comes c = too_many c.args.name.now c.args.store.now.trees c.args.value c.args.table.now (c.in-Err-TooManySymbols.ensures.full.0 (ap failed c.in-Err-TooManySymbols.field-0-is))
