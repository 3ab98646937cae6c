use Rattle.std.proofs.Common.{◌≡◌, ◌∙◌, List, None, pos, ap, sym, subst}
use Rattle.std.specs.Prelude.{Result, Ok, Err, IfErr}
use Rattle.fraction128.specs.Number.{whole}
use Rattle.fraction128.specs.declared.Column.{Column}
use Rattle.fraction128.specs.declared.Summand.{Summand}
use Rattle.fraction128.specs.Grid.{column_of, entries_value, sum_row, turned}
use Rattle.tableau.specs.Failing.{IsRange}
use Rattle.simplex_steps.specs.State.{values}
use Rattle.simplex.specs.State.{new_column}
use Rattle.sum_bounds.specs.Bounds.{State, IsSum}
use Rattle.sum_bounds.specs.Bases.{AddsBases}
use Rattle.sum_bounds.proofs.Conflicts.{state_of}
use Rattle.sum_bounds.proofs.Leaves.{column_none}
use Rattle.sum_bounds.proofs.Bases.{not_leaf, grown_by_sum}
use Rattle.sum_bounds.proofs.Parts.{turned_known}
use Rattle.sum_bounds.proofs.Growth.{core_grown}
use Rattle.sum_bounds.proofs.state.SumBounds.sum.Goals as goal

pub add_sum-requires-clause-sum : goal.add_sum-requires-clause-sum
add_sum-requires-clause-sum c =
    turned_known c.self.inside.simplex.columns c.args.sum.now c.in_ok-kept.kept c.in_ok-kept.ensures
    (subst (λ (cs : List Column). IsSum cs c.args.sum.now) (sym (ap (λ (s : State). s.columns) c.self.view_is)) c.requires.sum)

pub invariant_of-self-2 : goal.invariant_of-self-2
invariant_of-self-2 c =
    let s = c.self.inside.simplex in
    let kept = c.in_ok-kept.kept in
    let h = c.in_ok-add_sum.ensures.ok in
    core_grown s c.add_sum.new.simplex c.self.inside.keys c.add_sum.new.keys c.self.inside.count c.self.inside.is_clean
    (new_column kept (entries_value (values s.columns) (whole (pos 0)) (sum_row s.columns s.table.rows kept).entries)) c.self.invariant c.facts.ensures.known h.columns h.bounds h.hashed
    (λ i lt same. c.in_default.ensures.none i lt (same ∙ sym c.as_slice.ensures))

any_err : {T E : Type 0} (r : Result T E) (P : E → Type 0) → ((e : E) → P e) → IfErr r P
any_err (Ok x) P h = tt
any_err (Err e) P h = h e

pub returns-in_err-add_sum-clause-lacks : goal.returns-in_err-add_sum-clause-lacks
returns-in_err-add_sum-clause-lacks c =
    let cs = c.self.inside.simplex.columns in
    let none = column_none cs c.in_ok-kept.kept (λ i lt same. c.in_default.ensures.none i lt (same ∙ sym c.as_slice.ensures)) in
    any_err c.from_residual-in_err-add_sum.result (λ e. IsRange e → column_of c.args.self.now.columns (turned c.args.sum.now) ≡ None)
    (λ e r. subst (λ (s : State). column_of s.columns (turned c.args.sum.now) ≡ None) c.self.view_is (subst (λ (ps : List Summand). column_of cs ps ≡ None) c.in_ok-kept.ensures none))

pub returns-clause-bases : goal.returns-clause-bases
returns-clause-bases c =
    let s = c.self.inside.simplex in
    let kept = c.in_ok-kept.kept in
    let known =
    turned_known s.columns c.args.sum.now kept c.in_ok-kept.ensures (subst (λ (cs : List Column). IsSum cs c.args.sum.now) (sym (ap (λ (s : State). s.columns) c.self.view_is)) c.requires.sum) in
    let none = not_leaf s.columns kept known (λ i lt same. c.in_default.ensures.none i lt (same ∙ sym c.as_slice.ensures)) in
    subst (λ (s : State). AddsBases s (state_of c.add_sum.new.simplex)) c.self.view_is (grown_by_sum s c.add_sum.new.simplex c.add_sum.new.keys kept c.in_ok-add_sum.ensures.ok none)
