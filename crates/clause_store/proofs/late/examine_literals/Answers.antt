use Rattle.clause_store.proofs.Looks.{all_false}
use Rattle.clause_store.proofs.LateDepths.{is-pinned}
use Rattle.clause_store.proofs.late.examine_literals.Goals as goal

pub returns-then-is_false : goal.returns-then-is_false
returns-then-is_false c = all_false c.args.trail.now.steps c.args.other c.args.literals.now (c.is_false.ensures.says_true c.if-is_false.true) c.in-None.ensures.none

pub returns-else-is_false : goal.returns-else-is_false
returns-else-is_false c =
    is-pinned c.args.trail.now.steps c.args.literals.now c.args.other c.another-second.result c.requires.one_false.0 c.false_from-from.result c.requires.one_false.1 c.requires.one_false.2 (c.is_false.ensures.says_false c.if-is_false.false)
    c.in-None.ensures.none c.another-second.ensures.contained c.another-second.ensures.single c.another-second.ensures.last c.false_from-from.ensures.from
