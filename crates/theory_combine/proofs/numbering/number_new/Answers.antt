use Rattle.std.proofs.Common.{rules, ◌≡◌, ◌++◌, ◌∷◌, [], List, refl, sym, subst, arith}
use Rattle.std.specs.Prelude.{Option, IfSome}
use Rattle.smt_meaning.specs.declared.reports.RangeSeen.{RangeSeen}
use Rattle.literals.specs.Signed.{Signed}
use Rattle.bound_log.specs.Told.{column_sums}
use Rattle.bound_log.specs.Pending.{plain_grid}
use Rattle.theory_combine.specs.Chained.{BoundsAreSaid}
use Rattle.theory_combine.specs.Numbering.{atom_of}
use Rattle.theory_combine.specs.Shown.{AreShown, IsLeft}
use Rattle.theory_combine.proofs.Going.{shown_longer, shown_push, shown_seen, went_still, went_stopping, went_on}
use Rattle.theory_combine.proofs.Past.{error_left, seen_left}
use Rattle.theory_combine.proofs.Sums.{sums_added}
use Rattle.theory_combine.proofs.numbering.number_new.Goals as goal

pub returns-then-room-eq0-clause-went : goal.returns-then-room-eq0-clause-went
returns-then-room-eq0-clause-went c = went_still c.args.parts.now c.args.progress.now c.args.budget.now c.requires.under_way (let r = c.room.ensures in omega arith)

pub returns-in-Err-clause-went : goal.returns-in-Err-clause-went
returns-in-Err-clause-went c =
    let s = c.args.parts.now.stack.now in
    let w = c.args.progress.now in
    let a = atom_of c.args.atom.now in
    let b = c.add-added.new.held.bounds in
    let sums = column_sums b in
    let grows = c.add-added.ensures.variables in
    let known = sums_added s (column_sums w.held.bounds) w.branches w.seen w.atoms.atoms a b c.requires.under_way.3 c.requires.to_show c.add-added.ensures.columns (c.sums_are_apart.ensures b c.facts.ensures) in
    let here : AreShown s sums w.branches w.seen w.atoms.atoms = shown_longer s (column_sums w.held.bounds) grows.more sums w.branches w.seen w.atoms.atoms grows.sums known c.requires.under_way.3 in
    let left : IfSome c.seen_of.result (IsLeft s sums w.branches) =
    subst (λ (o : Option RangeSeen). IfSome o (IsLeft s sums w.branches)) (sym c.seen_of.ensures)
    (seen_left s sums w.branches c.in-Err.error
    (error_left s sums w.branches w.seen (w.atoms.atoms ++ a ∷ []) (shown_push s sums w.branches w.seen w.atoms.atoms a here c.requires.to_show) c.in-Err.error c.in-Err.ensures.err)) in
    went_stopping c.args.parts.now w c.args.budget.now c.args.budget.now c.len-count.result c.add-added.new.atoms c.add-added.new.held c.seen_of.result (shown_seen s sums w.branches w.seen c.seen_of.result w.atoms.atoms here left)
    grows c.requires.under_way c.len-count.ensures.count c.add-added.ensures.front c.add-added.ensures.within c.add-added.ensures.log (let r = c.room.ensures in omega arith) refl

pub returns-in-Err-spend-clause-went : goal.returns-in-Err-spend-clause-went
returns-in-Err-spend-clause-went c =
    let s = c.args.parts.now.stack.now in
    let w = c.args.progress.now in
    let a = atom_of c.args.atom.now in
    let b = c.add-added.new.held.bounds in
    let grows = c.add-added.ensures.variables in
    let known = sums_added s (column_sums w.held.bounds) w.branches w.seen w.atoms.atoms a b c.requires.under_way.3 c.requires.to_show c.add-added.ensures.columns (c.sums_are_apart.ensures b c.facts.ensures) in
    let here : AreShown s (column_sums b) w.branches w.seen w.atoms.atoms = shown_longer s (column_sums w.held.bounds) grows.more (column_sums b) w.branches w.seen w.atoms.atoms grows.sums known c.requires.under_way.3 in
    let same : c.spend.new.self ≡ c.args.budget.now = search rules in
    went_stopping c.args.parts.now w c.args.budget.now c.spend.new.self c.len-count.result c.add-added.new.atoms c.add-added.new.held w.seen here grows c.requires.under_way c.len-count.ensures.count
    c.add-added.ensures.front c.add-added.ensures.within c.add-added.ensures.log (let r = c.room.ensures in omega arith) same

pub returns-in-Ok-spend-clause-went : goal.returns-in-Ok-spend-clause-went
returns-in-Ok-spend-clause-went c =
    let s = c.args.parts.now.stack.now in
    let w = c.args.progress.now in
    let a = atom_of c.args.atom.now in
    let b = c.add-added.new.held.bounds in
    let grows = c.add-added.ensures.variables in
    let known = sums_added s (column_sums w.held.bounds) w.branches w.seen w.atoms.atoms a b c.requires.under_way.3 c.requires.to_show c.add-added.ensures.columns (c.sums_are_apart.ensures b c.facts.ensures) in
    let here : AreShown s (column_sums b) w.branches w.seen w.atoms.atoms = shown_longer s (column_sums w.held.bounds) grows.more (column_sums b) w.branches w.seen w.atoms.atoms grows.sums known c.requires.under_way.3 in
    went_on c.args.parts.now w c.args.budget.now c.spend.new.self c.len-count.result a c.add-added.new.atoms c.add-added.new.held c.requires.under_way c.in-Ok.ensures.whole c.in-Ok.ensures.ok
    c.add-added.ensures.log c.len-count.ensures.count c.in-Ok-spend.ensures.spent (let r = c.room.ensures in let f = c.if-room-eq0.false in grind arith) here grows c.requires.to_show
    (subst (λ (ls : List Signed). BoundsAreSaid c.add-added.new.atoms.atoms ls (plain_grid b)) c.in-Ok.ensures.whole.held.same
    (c.bounds_are_of_log.ensures c.add-added.new.atoms.atoms b c.facts.ensures c.in-Ok.ensures.whole.held.knows))
