use Rattle.std.proofs.Common.{◌≡◌, ◌∙◌, ℕ, List, sym, ap, subst}
use Rattle.std.specs.Prelude.{Option, IfSome}
use Rattle.fraction128.specs.declared.Summand.{Summand}
use Rattle.literals.specs.Signed.{Signed}
use Rattle.smt_meaning.specs.declared.reports.RangeSeen.{RangeSeen}
use Rattle.search_port.specs.Calls.{AssertedBy}
use Rattle.bound_log.specs.Told.{column_sums}
use Rattle.closure_log.specs.Seen.{state_of}
use Rattle.theory_combine.specs.Columns.{variables_of}
use Rattle.theory_combine.specs.Numbering.{table_of, IsNumbered, IsWhole}
use Rattle.theory_combine.specs.Shown.{AreShown, IsLeft}
use Rattle.theory_combine.proofs.Calling.{asserted_with, with_variables}
use Rattle.theory_combine.proofs.Going.{shown_seen}
use Rattle.theory_combine.proofs.Growing.{variables_same}
use Rattle.theory_combine.proofs.Variables.{leaves_same}
use Rattle.theory_combine.proofs.Past.{error_left, seen_left}
use Rattle.theory_combine.proofs.calls.tell.Goals as goal

pub returns-in-Err-clause-progress : goal.returns-in-Err-clause-progress
returns-in-Err-clause-progress c =
    let s = c.args.parts.now.stack.now in
    let marks = c.args.parts.now.marks.items in
    let w = c.args.progress.now in
    let held = c.tell_both-told.new.held in
    let sums = column_sums held.bounds in
    let whole : IsWhole s marks w.atoms w.held = subst (λ (o : Option ℕ). IsNumbered s marks o w.atoms w.held) c.in-None.is c.requires.progress.1 in
    let before : AreShown s (column_sums w.held.bounds) w.branches w.seen w.atoms.atoms =
    subst (λ (o : Option ℕ). AreShown s (column_sums w.held.bounds) w.branches w.seen (table_of o w.atoms.atoms)) c.in-None.is c.requires.progress.2 in
    let shown : AreShown s sums w.branches w.seen w.atoms.atoms = subst (λ (xs : List (List Summand)). AreShown s xs w.branches w.seen w.atoms.atoms) (sym c.tell_both-told.ensures.variables.sums) before in
    let left : IfSome c.seen_of.result (IsLeft s sums w.branches) =
    subst (λ (o : Option RangeSeen). IfSome o (IsLeft s sums w.branches)) (sym c.seen_of.ensures)
    (seen_left s sums w.branches c.in-Err.error (error_left s sums w.branches w.seen w.atoms.atoms shown c.in-Err.error c.in-Err.ensures.err)) in
    let new : IsWhole s marks w.atoms held = record { setting = whole.setting; marked = whole.marked; held = c.tell_both-told.ensures.held; variables = leaves_same s marks w.held.bounds held.bounds c.tell_both-told.ensures.variables.sums whole.variables } in (
      c.requires.progress.0,
      subst (λ (o : Option ℕ). IsNumbered s marks o w.atoms held) (sym c.in-None.is) new,
      subst (λ (o : Option ℕ). AreShown s sums w.branches c.seen_of.result (table_of o w.atoms.atoms)) (sym c.in-None.is) (shown_seen s sums w.branches w.seen c.seen_of.result w.atoms.atoms shown left),
    )

pub returns-in-Ok-clause-progress : goal.returns-in-Ok-clause-progress
returns-in-Ok-clause-progress c =
    let s = c.args.parts.now.stack.now in
    let marks = c.args.parts.now.marks.items in
    let w = c.args.progress.now in
    let held = c.tell_both-told.new.held in
    let whole : IsWhole s marks w.atoms w.held = subst (λ (o : Option ℕ). IsNumbered s marks o w.atoms w.held) c.in-None.is c.requires.progress.1 in
    let new : IsWhole s marks w.atoms held = record { setting = whole.setting; marked = whole.marked; held = c.tell_both-told.ensures.held; variables = leaves_same s marks w.held.bounds held.bounds c.tell_both-told.ensures.variables.sums whole.variables } in (
      c.requires.progress.0,
      subst (λ (o : Option ℕ). IsNumbered s marks o w.atoms held) (sym c.in-None.is) new,
      subst (λ (xs : List (List Summand)). AreShown s xs w.branches w.seen (table_of w.stopped_at w.atoms.atoms)) (sym c.tell_both-told.ensures.variables.sums) c.requires.progress.2,
    )

pub returns-in-Err-clause-answer : goal.returns-in-Err-clause-answer
returns-in-Err-clause-answer c =
    let s = c.args.parts.now.stack.now in
    let w = c.args.progress.now in
    let held = c.tell_both-told.new.held in
    let same : variables_of w.stopped_at held.bounds ≡ variables_of w.stopped_at w.held.bounds = variables_same w.stopped_at w.held.bounds held.bounds c.tell_both-told.ensures.variables in
    ap (λ (ls : List Signed). with_variables (state_of s (table_of w.stopped_at w.atoms.atoms) ls) (variables_of w.stopped_at held.bounds)) c.in-Err.ensures.stays
    ∙ ap (with_variables (state_of s (table_of w.stopped_at w.atoms.atoms) w.held.closure.log.items)) same

pub returns-in-Ok-clause-answer : goal.returns-in-Ok-clause-answer
returns-in-Ok-clause-answer c =
    let s = c.args.parts.now.stack.now in
    let w = c.args.progress.now in
    let held = c.tell_both-told.new.held in
    let same : variables_of w.stopped_at held.bounds ≡ variables_of w.stopped_at w.held.bounds = variables_same w.stopped_at w.held.bounds held.bounds c.tell_both-told.ensures.variables in
    let here : AssertedBy (state_of s (table_of w.stopped_at w.atoms.atoms) w.held.closure.log.items) (state_of s (table_of w.stopped_at w.atoms.atoms) held.closure.log.items) c.args.literal c.in-Ok.answer =
    subst (λ (o : Option ℕ). AssertedBy (state_of s (table_of o w.atoms.atoms) w.held.closure.log.items) (state_of s (table_of o w.atoms.atoms) held.closure.log.items) c.args.literal c.in-Ok.answer) (sym c.in-None.is)
    c.in-Ok.ensures.answer in
    asserted_with (state_of s (table_of w.stopped_at w.atoms.atoms) w.held.closure.log.items) (state_of s (table_of w.stopped_at w.atoms.atoms) held.closure.log.items) (variables_of w.stopped_at w.held.bounds) (variables_of w.stopped_at held.bounds)
    c.args.literal c.in-Ok.answer same here
