use Rattle.std.proofs.Common.{refl, ap, sym, ◌∙◌}
use Rattle.smt_meaning.specs.declared.tokens.Token.TheVariants.{Symbol}
use Rattle.smt_meaning.specs.Seen.{seen}
use Rattle.elaborate.specs.declared.frame.Frame.TheVariants.{Naming}
use Rattle.elaborate.specs.Judged.{scope_of, rules_of}
use Rattle.elaborate.proofs.Moves.{popped, top_is}
use Rattle.elaborate.proofs.Named.{name_put, name_not, no_name}
use Rattle.elaborate.proofs.naming.name_step.Goals as goal

pub returns-in-Ok-give_name-clause-comes : goal.returns-in-Ok-give_name-clause-comes
returns-in-Ok-give_name-clause-comes c = λ ahead.
    name_put (rules_of c.args.rules) c.args.term.now (scope_of c.args.table.now c.args.store.now.trees) (scope_of c.give_name.new.table c.args.store.now.trees) c.args.walk.now c.push.new.walk c.in-Some-Naming.value c.in-Some-Naming.place c.pop.new.self c.as_slice.result.now (seen c.args.token) ahead c.push.result tt c.requires.none
    (top_is c.args.walk.now c.in-Some-Naming.field-0 (Naming c.in-Some-Naming.value c.in-Some-Naming.place) c.pop.new.self c.in-Some-Naming.ensures.some c.in-Some-Naming.field-0-is) (c.in-Ok.ensures.ok ∙ ap Symbol (sym c.as_slice.ensures)) refl c.in-Ok-give_name.ensures.comes c.requires.stands c.push.ensures.ok c.push.ensures.memory

pub returns-in-Ok-clause-comes : goal.returns-in-Ok-clause-comes
returns-in-Ok-clause-comes c = λ ahead.
    name_not (rules_of c.args.rules) c.args.term.now (scope_of c.args.table.now c.args.store.now.trees) (scope_of c.give_name.new.table c.args.store.now.trees) (scope_of c.give_name.new.table c.args.store.now.trees) c.args.walk.now (popped c.args.walk.now c.pop.new.self) c.in-Some-Naming.value c.in-Some-Naming.place c.pop.new.self c.as_slice.result.now (seen c.args.token) ahead c.in-Err-give_name.error c.requires.none
    (top_is c.args.walk.now c.in-Some-Naming.field-0 (Naming c.in-Some-Naming.value c.in-Some-Naming.place) c.pop.new.self c.in-Some-Naming.ensures.some c.in-Some-Naming.field-0-is) (c.in-Ok.ensures.ok ∙ ap Symbol (sym c.as_slice.ensures)) c.in-Err-give_name.ensures.comes

pub returns-in-Some-Naming-clause-comes : goal.returns-in-Some-Naming-clause-comes
returns-in-Some-Naming-clause-comes c = λ ahead.
    no_name (rules_of c.args.rules) c.args.term.now (scope_of c.args.table.now c.args.store.now.trees) (scope_of c.args.table.now c.args.store.now.trees) c.args.walk.now (popped c.args.walk.now c.pop.new.self) c.in-Some-Naming.value c.in-Some-Naming.place c.pop.new.self (seen c.args.token) ahead c.in-Err.error c.requires.none
    (top_is c.args.walk.now c.in-Some-Naming.field-0 (Naming c.in-Some-Naming.value c.in-Some-Naming.place) c.pop.new.self c.in-Some-Naming.ensures.some c.in-Some-Naming.field-0-is) c.in-Err.ensures.err
