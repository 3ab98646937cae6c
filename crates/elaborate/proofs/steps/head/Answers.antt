use Rattle.std.proofs.Common.{refl}
use Rattle.smt_meaning.specs.Seen.{seen}
use Rattle.look_ahead.specs.Ahead.{ahead}
use Rattle.elaborate.specs.Judged.{scope_of, rules_of}
use Rattle.elaborate.specs.Steps.{is_head}
use Rattle.elaborate.proofs.Moves.{opened_top, head_put, head_not, head_rest, none_so}
use Rattle.elaborate.proofs.steps.head.Goals as goal

pub returns-in-Some : goal.returns-in-Some
returns-in-Some c = λ ts st.
    head_put (rules_of c.args.rules) c.args.term.now (scope_of c.args.table.now ts) c.args.walk.now c.push.new.walk c.in-Ok.frame c.pop.new.self (seen c.args.token) (ahead c.args.term.now c.args.place) c.push.result
    (none_so is_head refl c.args.walk.now.answer c.args.walk.now.frames c.requires.kind) (opened_top c.args.walk.now c.in-Some.field-0 c.pop.new.self c.requires.kind c.in-Some.ensures.some) c.push.ensures.ok c.push.ensures.memory (c.in-Ok.ensures ts) st

pub returns-in-Err : goal.returns-in-Err
returns-in-Err c = λ ts st.
    (let k = head_rest c.args.walk.now c.requires.kind in
    head_not (rules_of c.args.rules) c.args.term.now (scope_of c.args.table.now ts) c.args.walk.now c.args.walk.now k.0 (seen c.args.token) (ahead c.args.term.now c.args.place) c.in-Err.error (none_so is_head refl c.args.walk.now.answer c.args.walk.now.frames c.requires.kind) k.1 (c.in-Err.ensures ts))
