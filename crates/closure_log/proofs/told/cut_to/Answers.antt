use Rattle.std.proofs.Common.{rules, ◌≡◌, ◌<◌, length, take, sym, subst}
use Rattle.std.specs.Prelude.{ℕ, List, slice_index_or}
use Rattle.literals.specs.Signed.{Signed}
use Rattle.closure_log.specs.Told.{IsTold}
use Rattle.closure_log.proofs.Telling.{told_undone}
use Rattle.closure_log.proofs.told.cut_to.Goals as goal

pub returns-then-count-len-clause-told : goal.returns-then-count-len-clause-told
returns-then-count-len-clause-told c =
    let start : slice_index_or c.args.told.now.starts.items c.args.count 0 ≡ c.start_of-start.result = search rules in
    let log : c.truncate.new.self.items ≡ take c.args.count c.args.told.now.log.items = search rules in
    let starts : c.truncate-then-count-len.new.self.items ≡ take c.args.count c.args.told.now.starts.items = search rules in
    let less : c.args.count < length c.args.told.now.starts.items = search rules in
    subst (λ (ls : List Signed). IsTold c.args.stack.now c.args.atoms.now.atoms c.undo_to.new.self ls c.truncate-then-count-len.new.self.items) (sym log)
    (subst (λ (ns : List ℕ). IsTold c.args.stack.now c.args.atoms.now.atoms c.undo_to.new.self (take c.args.count c.args.told.now.log.items) ns) (sym starts)
    (told_undone c.args.stack.now c.args.atoms.now.atoms c.args.told.now.congruence c.undo_to.new.self c.args.told.now.log.items c.args.told.now.starts.items c.args.count c.start_of-start.result c.requires.told less start
    c.undo_to.ensures.recorded c.undo_to.ensures.graph c.undo_to.ensures.steps c.undo_to.ensures.reasons))
