use Rattle.std.proofs.Common.{◌∙◌, ℕ, List, take, sym, ap, subst}
use Rattle.std.specs.Prelude.{Option}
use Rattle.fraction128.specs.declared.Summand.{Summand}
use Rattle.literals.specs.Signed.{Signed}
use Rattle.closure_log.specs.Seen.{state_of}
use Rattle.theory_combine.specs.Columns.{variables_of}
use Rattle.theory_combine.specs.Numbering.{table_of, IsNumbered, IsWhole}
use Rattle.theory_combine.specs.Shown.{AreShown}
use Rattle.theory_combine.proofs.Calling.{with_variables}
use Rattle.theory_combine.proofs.Growing.{variables_same}
use Rattle.theory_combine.proofs.Variables.{leaves_same}
use Rattle.theory_combine.proofs.calls.undo_to.Goals as goal

pub returns-in-None-clause-progress : goal.returns-in-None-clause-progress
returns-in-None-clause-progress c =
    let s = c.args.parts.now.stack.now in
    let marks = c.args.parts.now.marks.items in
    let w = c.args.progress.now in
    let held = c.undo_both.new.held in
    let whole : IsWhole s marks w.atoms w.held = subst (λ (o : Option ℕ). IsNumbered s marks o w.atoms w.held) c.in-None.is c.requires.progress.1 in
    let new : IsWhole s marks w.atoms held = record { setting = whole.setting; marked = whole.marked; held = c.undo_both.ensures.held; variables = leaves_same s marks w.held.bounds held.bounds c.undo_both.ensures.variables.sums whole.variables } in (
      c.requires.progress.0,
      subst (λ (o : Option ℕ). IsNumbered s marks o w.atoms held) (sym c.in-None.is) new,
      subst (λ (xs : List (List Summand)). AreShown s xs w.branches w.seen (table_of w.stopped_at w.atoms.atoms)) (sym c.undo_both.ensures.variables.sums) c.requires.progress.2,
    )

pub returns-in-None-clause-undone : goal.returns-in-None-clause-undone
returns-in-None-clause-undone c =
    let s = c.args.parts.now.stack.now in
    let w = c.args.progress.now in
    let held = c.undo_both.new.held in
    ap (λ (ls : List Signed). with_variables (state_of s (table_of w.stopped_at w.atoms.atoms) ls) (variables_of w.stopped_at held.bounds)) c.undo_both.ensures.log
    ∙ ap (with_variables (state_of s (table_of w.stopped_at w.atoms.atoms) (take c.args.count w.held.closure.log.items))) (variables_same w.stopped_at w.held.bounds held.bounds c.undo_both.ensures.variables)
