use Rattle.std.proofs.Common.{List, sym, subst}
use Rattle.std.specs.Prelude.{None}
use Rattle.fraction128.specs.declared.Line.{Line}
use Rattle.smt_meaning.specs.Boxes.{term_at_most}
use Rattle.bound_log.specs.Told.{column_sums}
use Rattle.theory_combine.specs.Shown.{AreShown, IsOfCheck}
use Rattle.theory_combine.proofs.Rows.{shown_more, side_of_check}
use Rattle.theory_combine.proofs.branch.keep_row.Goals as goal

pub returns-clause-ready : goal.returns-clause-ready
returns-clause-ready c =
    let s = c.args.parts.now.stack.now in
    let w = c.args.progress.now in
    let shown : AreShown s (column_sums w.held.bounds) c.push.new.self None w.atoms.atoms =
    subst (λ (rows : List Line). AreShown s (column_sums w.held.bounds) rows None w.atoms.atoms) (sym c.in_ok-push.ensures.ok)
    (shown_more c.flat_says_the_same.ensures s c.args.parts.now.marks.items c.requires.ready.parts.2.only c.requires.ready.under_way.0.different (column_sums w.held.bounds) w.branches w.seen w.atoms.atoms c.requires.ready.under_way.3 c.args.leaf.term
    c.args.leaf.floor c.requires.leaf c.in_ok-line.line c.in_ok-line.ensures.branches (c.in_ok-line.ensures.row w.atoms.atoms c.requires.ready.under_way.1.held.knows) c.args.leaf.value c.in_ok-line.ensures.value c.requires.reached) in
    record { parts = c.requires.ready.parts; under_way = (c.requires.ready.under_way.0, c.requires.ready.under_way.1, c.requires.ready.under_way.2, shown) }

pub returns-clause-of_check : goal.returns-clause-of_check
returns-clause-of_check c =
    let s = c.args.parts.now.stack.now in
    let w = c.args.progress.now in
    subst (λ (rows : List Line). IsOfCheck s rows (term_at_most c.args.leaf.term c.args.leaf.floor)) (sym c.in_ok-push.ensures.ok)
    (side_of_check c.flat_says_the_same.ensures s c.args.parts.now.marks.items c.requires.ready.parts.2.only c.requires.ready.under_way.0.different (column_sums w.held.bounds) w.branches w.seen w.atoms.atoms c.requires.ready.under_way.3 c.args.leaf.term
    c.args.leaf.floor c.requires.leaf c.in_ok-line.line c.in_ok-line.ensures.branches (c.in_ok-line.ensures.row w.atoms.atoms c.requires.ready.under_way.1.held.knows) c.args.leaf.value c.in_ok-line.ensures.value c.requires.reached)
