use Rattle.std.proofs.Common.{refl}
use Rattle.look_ahead.specs.Ahead.{ahead}
use Rattle.elaborate.specs.Steps.{is_head}
use Rattle.elaborate.proofs.Moves.{opened_top, enter_head, enter_not, head_rest, none_so}
use Rattle.elaborate.proofs.steps.enter_head.Goals as goal

pub returns-in-Some : goal.returns-in-Some
returns-in-Some c = λ s st.
    enter_head (ahead c.args.term.now c.args.place) c.args.term.now s c.args.walk.now c.push.new.walk c.in-Ok.number c.pop.new.self c.push.result (none_so is_head refl c.args.walk.now.answer c.args.walk.now.frames c.requires.kind)
    (opened_top c.args.walk.now c.in-Some.field-0 c.pop.new.self c.requires.kind c.in-Some.ensures.some) c.push.ensures.ok c.push.ensures.memory c.in-Ok.ensures st

pub returns-in-Err : goal.returns-in-Err
returns-in-Err c = λ s st.
    (let k = head_rest c.args.walk.now c.requires.kind in
    enter_not (ahead c.args.term.now c.args.place) c.args.term.now s c.args.walk.now c.args.walk.now k.0 c.in-Err.why (none_so is_head refl c.args.walk.now.answer c.args.walk.now.frames c.requires.kind) k.1 c.in-Err.ensures)
