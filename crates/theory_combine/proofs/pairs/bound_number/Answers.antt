use Rattle.std.proofs.Common.{sym, subst}
use Rattle.smt_meaning.specs.declared.clauses.Atom.{Atom}
use Rattle.theory_combine.specs.Shown.{IsOfCheck}
use Rattle.theory_combine.proofs.Answering.{ready_forms}
use Rattle.theory_combine.proofs.Comparing.{low_of_check}
use Rattle.theory_combine.proofs.OverLeaves.{bound_leaves}
use Rattle.theory_combine.proofs.pairs.bound_number.Goals as goal

pub go_on_with_bound-requires-clause-of_check : goal.go_on_with_bound-requires-clause-of_check
go_on_with_bound-requires-clause-of_check c =
    let s = c.args.parts.now.stack.now in
    subst (λ (a : Atom). IsOfCheck s c.args.progress.now.branches a) (sym c.in-New.ensures.sought.3)
    (low_of_check c.flat_says_the_same.ensures s c.args.parts.now.marks.items c.requires.ready.parts.2.only c.requires.ready.under_way.0.different c.args.left c.args.right c.requires.left c.requires.right
    c.args.progress.now.branches)

pub go_on_with_bound-requires-clause-leaves : goal.go_on_with_bound-requires-clause-leaves
go_on_with_bound-requires-clause-leaves c =
    bound_leaves c.bounds_are_over_leaves.ensures c.args.parts.now.stack.now c.args.parts.now.marks.items c.args.left c.args.right c.in-New.bound.sum.items c.in-New.bound.threshold c.laws.ensures
    c.requires.ready.parts.2 c.requires.ready.parts.0.size c.requires.left c.requires.right c.in-New.ensures.sought.3

pub go_on_with_bound-requires-clause-ready : goal.go_on_with_bound-requires-clause-ready
go_on_with_bound-requires-clause-ready c = ready_forms c.args.parts.now c.args.progress.now c.seek.new.forms c.requires.ready c.seek.ensures.same

pub returns-in-New-clause-err : goal.returns-in-New-clause-err
returns-in-New-clause-err c = record { went = c.go_on_with_bound.ensures.went; found = c.go_on_with_bound.ensures.found }

pub stop_at_pair-requires-clause-ready : goal.stop_at_pair-requires-clause-ready
stop_at_pair-requires-clause-ready c = ready_forms c.args.parts.now c.args.progress.now c.seek.new.forms c.requires.ready c.seek.ensures.same

pub returns-in-Outside-clause-err : goal.returns-in-Outside-clause-err
returns-in-Outside-clause-err c = record { went = c.stop_at_pair.ensures.went; found = c.stop_at_pair.ensures.found }
