use Rattle.std.proofs.Common.{rules, ◌≡◌, ◌∙◌, [], List, subst}
use Rattle.fraction128.specs.declared.Line.{Line}
use Rattle.bound_log.specs.Pivots.{AddsPivots}
use Rattle.theory_combine.proofs.Chained.{has_bounds}
use Rattle.theory_combine.proofs.Holding.{met}
use Rattle.theory_combine.proofs.Spending.{are_pivots}
use Rattle.theory_combine.proofs.Telling.{keeps_known}
use Rattle.theory_combine.proofs.held.meet_bounds.Goals as goal

pub returns-clause-met : goal.returns-clause-met
returns-clause-met c =
    let table = c.args.atoms.now.atoms in
    let knows = c.check-report.ensures.stays table c.requires.held.knows in
    met c.flat_says_the_same.ensures c.args.stack.now table c.args.held.now c.check-report.new.self c.met_by-met.result c.requires.setting c.requires.held knows c.check-report.ensures.log
    (c.met_by-met.ensures.met table knows)

pub returns-clause-lines : goal.returns-clause-lines
returns-clause-lines c =
    let table = c.args.atoms.now.atoms in
    let checked = c.check-report in
    let none : c.new.result.items ≡ [] = search rules in
    let adds = subst (λ (ls : List Line). AddsPivots c.args.held.now.bounds checked.new.self c.args.keep checked.result.pivots ls checked.new.kept.lines.items) none checked.ensures.pivots in
    are_pivots c.args.held.now.bounds checked.new.self table c.args.keep checked.result.pivots c.args.room checked.result.report (record { met = c.met_by-met.result; lines = checked.new.kept.lines })
    c.requires.held.knows adds checked.ensures.run.bounds checked.ensures.most checked.ensures.room c.met_by-met.ensures.spent

pub returns-clause-before : goal.returns-clause-before
returns-clause-before c =
    let held = c.requires.held in
    has_bounds c.bounds_are_of_log.ensures c.log_is_taken_in.ensures c.args.stack.now c.args.atoms.now.atoms c.args.held.now.closure.log.items c.args.held.now.bounds c.facts.ensures held.knows held.columns held.same

pub returns-clause-after : goal.returns-clause-after
returns-clause-after c =
    let held = c.requires.held in
    let table = c.args.atoms.now.atoms in
    let checked = c.check-report in
    has_bounds c.bounds_are_of_log.ensures c.log_is_taken_in.ensures c.args.stack.now table c.args.held.now.closure.log.items checked.new.self c.facts-2.ensures (checked.ensures.stays table held.knows)
    (keeps_known c.args.stack.now table c.args.held.now.bounds checked.new.self checked.ensures.columns held.columns) (checked.ensures.log ∙ held.same)
