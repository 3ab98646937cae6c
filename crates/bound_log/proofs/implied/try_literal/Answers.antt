use Rattle.std.proofs.Common.{◌∙◌, sym, ap, subst}
use Rattle.simplex.specs.State.{KeepsValues}
use Rattle.bound_log.specs.Told.{State}
use Rattle.bound_log.specs.Atoms.{Knows}
use Rattle.bound_log.specs.Columns.{HasColumnsOf}
use Rattle.bound_log.specs.Growth.{KeepsVariables}
use Rattle.bound_log.proofs.Implying.{if_some, tried_by}
use Rattle.bound_log.proofs.KeptVariables.{kept_through, values_kept, values_through}
use Rattle.bound_log.proofs.implied.try_literal.Goals as goal

pub returns-clause-clause : goal.returns-clause-clause
returns-clause-clause c =
    if_some c.broken-found.result (λ d h. tried_by c.args.bounds.now c.tell.new.self c.args.literal d (λ ts k. c.tell.ensures.stays ts k) c.in-Ok.ensures.ok.log h) c.broken-found.ensures.clause

pub returns-clause-stays : goal.returns-clause-stays
returns-clause-stays c = λ table knows. c.undo_to.ensures.stays table (subst (Knows table) (sym c.broken-found.ensures.same) (c.tell.ensures.stays table knows))

pub returns-clause-columns : goal.returns-clause-columns
returns-clause-columns c = λ table has. c.undo_to.ensures.columns table (subst (HasColumnsOf table) (sym c.broken-found.ensures.same) (c.tell.ensures.columns table has))

pub returns-clause-variables : goal.returns-clause-variables
returns-clause-variables c =
    kept_through c.args.bounds.now c.broken-found.new.bounds c.undo_to.new.self (subst (KeepsVariables c.args.bounds.now) (sym c.broken-found.ensures.same) c.tell.ensures.variables) c.undo_to.ensures.variables

pub returns-clause-table : goal.returns-clause-table
returns-clause-table c = c.undo_to.ensures.undone.table ∙ ap (λ (s : State). s.bounds.table) c.broken-found.ensures.same ∙ c.in-Ok.ensures.ok.table

pub returns-clause-values : goal.returns-clause-values
returns-clause-values c =
    values_through c.args.bounds.now.bounds.columns c.broken-found.new.bounds.bounds.columns c.undo_to.new.self.bounds.columns
    (subst (λ (s : State). KeepsValues c.args.bounds.now.bounds.columns s.bounds.columns) (sym c.broken-found.ensures.same) c.in-Ok.ensures.ok.values) c.undo_to.ensures.undone.values

pub returns-in_default-clause-values : goal.returns-in_default-clause-values
returns-in_default-clause-values c = values_kept c.args.bounds.now.bounds.columns c.tell.new.self.bounds.columns (ap (λ (s : State). s.bounds.columns) c.in_default.ensures.err)
