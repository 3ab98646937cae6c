use Rattle.std.proofs.Common.{rules, ◌≡◌, None, sym}
use Rattle.closure_log.proofs.Reading.{no_number, open_untold, told_read, open_read, read_same}
use Rattle.closure_log.proofs.read.read_term.Goals as goal

pub returns-then-is_some-clause-stops : goal.returns-then-is_some-clause-stops
returns-then-is_some-clause-stops c = λ e. open_untold c.args.atoms.now.atoms c.args.log.now c.args.term c.in-Open.literal c.are_apart.ensures c.in-Open.ensures

pub returns-in-Nothing-clause-stops : goal.returns-in-Nothing-clause-stops
returns-in-Nothing-clause-stops c = λ e. no_number c.args.atoms.now.atoms c.args.log.now c.args.term c.in-Nothing.ensures

pub returns-else-is_some-clause-goes : goal.returns-else-is_some-clause-goes
returns-else-is_some-clause-goes c = λ e ps h.
    let none : c.args.read.now.open_truth ≡ None = search rules in
    open_read c.args.atoms.now.atoms c.args.log.now ps c.args.read.now.clause.items c.args.read.now.open_truth c.args.read.now.is_odd c.args.term c.in-Open.literal none c.in-Open.ensures h

pub returns-in_ok-add_told-in-Told-clause-goes : goal.returns-in_ok-add_told-in-Told-clause-goes
returns-in_ok-add_told-in-Told-clause-goes c = λ e ps h.
    let new = c.add_told.new.read in
    let made = told_read c.args.atoms.now.atoms c.args.log.now ps c.args.read.now.clause.items c.args.read.now.open_truth c.args.read.now.is_odd c.args.term c.in-Told.literal c.in-Told.ensures h in
    read_same c.args.atoms.now.atoms c.args.log.now _ _ new.clause.items _ new.open_truth _ new.is_odd (sym c.in_ok-add_told-in-Told.ensures.clause) (sym c.in_ok-add_told-in-Told.ensures.open)
    (sym c.in_ok-add_told-in-Told.ensures.odd) made
