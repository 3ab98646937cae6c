use Rattle.std.proofs.Common.{◌≢◌, Contains, sym, subst}
use Rattle.fraction128.specs.declared.ratio.Ratio.{Ratio}
use Rattle.fraction128.specs.Lines.{IsFloor}
use Rattle.smt_meaning.specs.declared.clauses.Atom.{Atom}
use Rattle.smt_meaning.specs.declared.clauses.Atom.TheVariants.{AtMost}
use Rattle.smt_meaning.specs.Boxes.{term_at_most}
use Rattle.atom_form.specs.AtomNumbersAtoms.{Atoms}
use Rattle.theory_combine.specs.Shown.{IsMarkedLeaf, IsOfCheck}
use Rattle.theory_combine.specs.declared.step.Step.{Step}
use Rattle.theory_combine.specs.Steps.{IsStep}
use Rattle.theory_combine.proofs.Answering.{left_after}
use Rattle.theory_combine.proofs.Marked.{marked_leaf}
use Rattle.theory_combine.proofs.Reaching.{last_whole, reached, has_no_number}
use Rattle.theory_combine.proofs.Sums.{column_leaf, sum_alone}
use Rattle.theory_combine.proofs.branch.branch.Goals as goal

pub go_on_with_bound-requires-clause-of_check : goal.go_on_with_bound-requires-clause-of_check
go_on_with_bound-requires-clause-of_check c =
    subst (λ (a : Atom). IsOfCheck c.args.parts.now.stack.now c.keep_row.new.progress.branches a) (sym c.in-Ok.ensures.side) c.in-Ok-keep_row.ensures.of_check

pub returns-in-Ok-keep_row : goal.returns-in-Ok-keep_row
returns-in-Ok-keep_row c =
    left_after Step IsStep c.args.parts.now c.args.progress.now c.keep_row.new.progress c.go_on_with_bound.new.progress c.args.budget.now c.go_on_with_bound.new.budget c.go_on_with_bound.result c.keep_row.ensures.same
    c.go_on_with_bound.ensures

pub returns-in-Err : goal.returns-in-Err
returns-in-Err c =
    left_after Step IsStep c.args.parts.now c.args.progress.now c.keep_row.new.progress c.keep_row.new.progress c.args.budget.now c.args.budget.now c.stop-in-Err.result c.keep_row.ensures.same c.stop-in-Err.ensures

pub keep_row-requires-clause-leaf : goal.keep_row-requires-clause-leaf
keep_row-requires-clause-leaf c =
    let w = c.args.progress.now in
    marked_leaf c.args.parts.now.stack.now c.args.parts.now.marks.items c.requires.at_last.ready.parts.0 c.requires.at_last.ready.parts.2 c.requires.at_last.ready.under_way.0.different c.flat_says_the_same.ensures c.args.leaf.term
    (column_leaf c.args.parts.now.stack.now w.atoms.atoms w.held.bounds c.requires.at_last.ready.under_way.3.leaves c.requires.at_last.ready.under_way.1.held.columns c.args.leaf.variable c.args.leaf.term c.requires.first.known c.requires.first.fraction.is_leaf)

pub go_on_with_bound-requires-clause-leaves : goal.go_on_with_bound-requires-clause-leaves
go_on_with_bound-requires-clause-leaves c =
    let s = c.args.parts.now.stack.now in
    let marks = c.args.parts.now.marks.items in
    let w = c.args.progress.now in
    let leaf : IsMarkedLeaf s marks c.args.leaf.term =
    marked_leaf s marks c.requires.at_last.ready.parts.0 c.requires.at_last.ready.parts.2 c.requires.at_last.ready.under_way.0.different c.flat_says_the_same.ensures c.args.leaf.term
    (column_leaf s w.atoms.atoms w.held.bounds c.requires.at_last.ready.under_way.3.leaves c.requires.at_last.ready.under_way.1.held.columns c.args.leaf.variable c.args.leaf.term c.requires.first.known c.requires.first.fraction.is_leaf) in
    sum_alone (IsMarkedLeaf s marks) c.in-Ok.bound.sum.items c.in-Ok.bound.threshold c.args.leaf.term c.args.leaf.floor c.in-Ok.ensures.side leaf

pub keep_row-requires-clause-reached : goal.keep_row-requires-clause-reached
keep_row-requires-clause-reached c =
    let s = c.args.parts.now.stack.now in
    let w = c.args.progress.now in
    reached s w.atoms.atoms w.held c.requires.at_last.ready.under_way.1.held c.facts.ensures c.requires.fits (last_whole s w.stopped_at w.atoms.atoms w.held.closure.log.items c.requires.at_last.ready.under_way.2 c.requires.at_last.last) c.fractions_hold.ensures.hold
    c.fractions_hold.ensures.values c.requires.constants c.args.leaf c.requires.first

pub go_on_with_bound-requires-clause-new : goal.go_on_with_bound-requires-clause-new
go_on_with_bound-requires-clause-new c =
    let s = c.args.parts.now.stack.now in
    let w = c.args.progress.now in
    let leaf = c.args.leaf in
    let none : Contains w.atoms.atoms (term_at_most leaf.term leaf.floor) → ⊥ =
    has_no_number s w.atoms.atoms w.held c.requires.at_last.ready.under_way.1.held c.facts.ensures c.requires.fits (last_whole s w.stopped_at w.atoms.atoms w.held.closure.log.items c.requires.at_last.ready.under_way.2 c.requires.at_last.last) leaf c.sides_are_open.ensures
    c.requires.first in
    subst (λ (as_now : Atoms). Contains as_now.atoms (AtMost c.in-Ok.bound.sum.items c.in-Ok.bound.threshold) → ⊥) (sym c.keep_row.ensures.atoms)
    (subst (λ (a : Atom). Contains w.atoms.atoms a → ⊥) (sym c.in-Ok.ensures.side) none)

pub side_of-requires-clause-broken : goal.side_of-requires-clause-broken
side_of-requires-clause-broken c = subst (λ (x : Ratio). x.denominator ≢ 1) (sym c.requires.first.fraction.value) c.requires.first.fraction.broken

pub side_of-requires-clause-floor : goal.side_of-requires-clause-floor
side_of-requires-clause-floor c = subst (IsFloor c.args.leaf.floor) (sym c.requires.first.fraction.value) c.requires.first.fraction.floor
