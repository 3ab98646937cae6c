use Rattle.std.proofs.Common.{◌<◌, length, ap, sym, subst, ◌∙◌, arith, Some}
use Rattle.smt_meaning.specs.Reading.{IsInner}
use Rattle.smt_command.proofs.Parts.{is_part, not_past}
use Rattle.smt_command.proofs.arguments.Arguments.term.Goals as goal

pub part-requires-clause-within : goal.part-requires-clause-within
part-requires-clause-within c =
    let a = c.args.self.now in
    let s : a.place < length a.sexpr.now = not_past a c.if-is_end.ensures in
    omega (arith, c.skip.ensures.within (omega arith), ap length c.skip.ensures.same)

pub part-requires-clause-matched : goal.part-requires-clause-matched
part-requires-clause-matched c =
    let s = c.skip.ensures in (is_part c.args.self.now c.skip.new.self s.same s.matched c.if-is_end.ensures s.lists s.order s.within).matched

pub returns-clause-term : goal.returns-clause-term
returns-clause-term c =
    let s = c.skip.ensures in
    ap Some c.in_ok-term.ensures ∙ sym (is_part c.args.self.now c.skip.new.self s.same s.matched c.if-is_end.ensures s.lists s.order s.within).first

pub returns-clause-inner : goal.returns-clause-inner
returns-clause-inner c =
    let s = c.skip.ensures in
    λ l. subst IsInner (sym c.in_ok-term.ensures) ((is_part c.args.self.now c.skip.new.self s.same s.matched c.if-is_end.ensures s.lists s.order s.within).inner l)
