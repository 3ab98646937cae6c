use Rattle.std.proofs.Common.{refl}
use Rattle.smt_meaning.specs.Seen.{seen}
use Rattle.elaborate.specs.Judged.{scope_of, rules_of}
use Rattle.elaborate.specs.Steps.{awaits_term}
use Rattle.elaborate.proofs.Moves.{word_given, word_refused, none_so, all_wait}
use Rattle.elaborate.proofs.apart.word_apart.Goals as goal

pub give-requires-clause-none : goal.give-requires-clause-none
give-requires-clause-none c = none_so awaits_term refl c.args.walk.now.answer c.args.walk.now.frames c.requires.kind

pub give-requires-clause-waits : goal.give-requires-clause-waits
give-requires-clause-waits c = all_wait c.args.walk.now.answer c.args.walk.now.frames c.requires.kind c.requires.stands.others

pub returns-in-Ok-give-clause-comes : goal.returns-in-Ok-give-clause-comes
returns-in-Ok-give-clause-comes c = λ tokens ahead.
    word_given (rules_of c.args.rules) tokens c.args.walk.now c.give.new.walk c.in-Ok.value (seen c.args.token) ahead (scope_of c.args.table.now c.args.store.now.trees) c.token_apart.new.store.trees c.token_apart.ensures.longer.0 c.requires.stands c.requires.kind c.in-Ok.ensures.comes c.in-Ok-give.ensures

pub returns-in-Err-clause-comes : goal.returns-in-Err-clause-comes
returns-in-Err-clause-comes c = λ tokens ahead.
    word_refused (rules_of c.args.rules) tokens c.args.walk.now c.args.walk.now (seen c.args.token) ahead (scope_of c.args.table.now c.args.store.now.trees) c.token_apart.new.store.trees (scope_of c.args.table.now c.token_apart.new.store.trees) c.in-Err.error c.requires.kind c.in-Err.ensures.comes
