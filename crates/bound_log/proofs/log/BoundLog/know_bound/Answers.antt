use Rattle.std.proofs.Common.{rules, ◌≡◌, ◌≢◌, ◌∙◌, Bool, false, None, ℤ, pos, length, refl, sym, ap, subst}
use Rattle.std.specs.Prelude.{List, All}
use Rattle.fraction128.specs.Whole.{InRange}
use Rattle.fraction128.proofs.Integers.{same_bits}
use Rattle.fraction128.specs.declared.Summand.{Summand}
use Rattle.fraction128.specs.Grid.{column_of, turned}
use Rattle.smt_meaning.specs.declared.clauses.Atom.TheVariants.{AtMost}
use Rattle.tableau.specs.Failing.{IsRange}
use Rattle.sum_bounds.specs.Bounds.{StandsFor, sum_fits}
use Rattle.sum_bounds.specs.Clauses.{plain}
use Rattle.bound_log.specs.declared.said.Said.{Said}
use Rattle.bound_log.specs.declared.said.Said.TheVariants.{Nothing}
use Rattle.bound_log.specs.Told.{State, IsCore}
use Rattle.bound_log.specs.Atoms.{KnowsTheSame, KnowsOneMore}
use Rattle.bound_log.specs.Resting.{AreResting}
use Rattle.bound_log.proofs.Telling.{core_more, core_kept}
use Rattle.bound_log.proofs.Resting.{resting_more, resting_still}
use Rattle.bound_log.proofs.Growing.{grown_self, grown_same, keeps_self, keeps_where_grown, fewer, proper_plain, in_err}
use Rattle.bound_log.proofs.Knowing.{knows_more, knows_kept, says_nothing}
use Rattle.bound_log.specs.Columns.{AddsColumns, IsPartIn, AddsSums}
use Rattle.bound_log.specs.Pending.{FailsToTake}
use Rattle.bound_log.proofs.Taking.{err_is, fails_to_take}
use Rattle.bound_log.proofs.Columns.{not_empty, columns_other, columns_more}
use Rattle.bound_log.specs.Growth.{GrowsVariables}
use Rattle.bound_log.proofs.KeptVariables.{grows, grows_self}
use Rattle.bound_log.proofs.log.BoundLog.know_bound.Goals as goal

pub invariant_of-self-then-is_empty : goal.invariant_of-self-then-is_empty
invariant_of-self-then-is_empty c =
    let s = c.self.inside in (
      core_more s.bounds s.said.items c.add.new.said.items s.log.items s.starts.items Nothing c.self.invariant.0 c.in_ok-add.ensures.ok c.in_ok-add.ensures.few tt,
      resting_more s.bounds s.said.items c.add.new.said.items Nothing c.in_ok-add.ensures.ok c.self.invariant.1,
    )

pub returns-then-is_empty-clause-knows : goal.returns-then-is_empty-clause-knows
returns-then-is_empty-clause-knows c =
    let s = c.self.inside in
    let old : State = record { bounds = s.bounds; said = s.said.items; log = s.log.items } in
    let new : State = record { bounds = s.bounds; said = c.add.new.said.items; log = s.log.items } in
    let none : length c.args.sum.now ≡ 0 = search rules in
    subst (λ (o : State). KnowsOneMore o (AtMost c.args.sum.now c.args.threshold) new) c.self.view_is
    (knows_more old new (AtMost c.args.sum.now c.args.threshold) Nothing c.in_ok-add.ensures.ok (keeps_self s.bounds) (says_nothing c.args.sum.now c.args.threshold none))

pub variable_of-requires : goal.variable_of-requires
variable_of-requires c =
    subst (All (λ (p : Summand). InRange p.coefficient × (p.coefficient ≢ pos 0))) (sym (c.deref.ensures.value ∙ c.in_ok-terms.ensures)) (proper_plain c.args.sum.now c.requires.sum)

pub invariant_of-self-in_err-add-2 : goal.invariant_of-self-in_err-add-2
invariant_of-self-in_err-add-2 c =
    let s = c.self.inside in
    let b = c.variable_of.new.bounds in
    let grown = c.variable_of.ensures.grown in
    subst (λ (xs : List Said). IsCore b xs s.log.items s.starts.items × AreResting b xs) (sym c.in_err-add-2.ensures.err) (
      core_kept s.bounds b s.said.items s.log.items s.starts.items c.self.invariant.0 (fewer s.bounds b grown) grown.told,
      resting_still s.bounds b s.said.items c.variable_of.ensures.still c.self.invariant.1,
    )

pub returns-in_err-add-2-clause-stays : goal.returns-in_err-add-2-clause-stays
returns-in_err-add-2-clause-stays c =
    let s = c.self.inside in
    let b = c.variable_of.new.bounds in
    let old : State = record { bounds = s.bounds; said = s.said.items; log = s.log.items } in
    let new : State = record { bounds = b; said = c.add-2.new.said.items; log = s.log.items } in
    in_err c.from_residual-in_err-add-2.result (KnowsTheSame c.args.self.now new)
    (subst (λ (o : State). KnowsTheSame o new) c.self.view_is (knows_kept old new c.in_err-add-2.ensures.err (keeps_where_grown s.bounds b c.variable_of.ensures.grown)))

pub invariant_of-self-2 : goal.invariant_of-self-2
invariant_of-self-2 c =
    let s = c.self.inside in
    let b = c.variable_of.new.bounds in
    let grown = c.variable_of.ensures.grown in (
      core_more b s.said.items c.add-2.new.said.items s.log.items s.starts.items _
          (core_kept s.bounds b s.said.items s.log.items s.starts.items c.self.invariant.0 (fewer s.bounds b grown) grown.told) c.in_ok-add-2.ensures.ok c.in_ok-add-2.ensures.few
          (c.in_ok-of.ensures.ok.known, subst InRange (sym (same_bits c.args.threshold c.requires.threshold)) c.requires.threshold),
      resting_more b s.said.items c.add-2.new.said.items _ c.in_ok-add-2.ensures.ok (resting_still s.bounds b s.said.items c.variable_of.ensures.still c.self.invariant.1),
    )

pub returns-clause-knows : goal.returns-clause-knows
returns-clause-knows c =
    let s = c.self.inside in
    let b = c.variable_of.new.bounds in
    let a = AtMost c.args.sum.now c.args.threshold in
    let old : State = record { bounds = s.bounds; said = s.said.items; log = s.log.items } in
    let new : State = record { bounds = b; said = c.add-2.new.said.items; log = s.log.items } in
    let stands : StandsFor b (plain c.args.sum.now) c.in_ok-of.of =
    subst (λ (ps : List Summand). StandsFor b ps c.in_ok-of.of) (c.deref.ensures.value ∙ c.in_ok-terms.ensures) c.in_ok-of.ensures.ok
    in
    subst (λ (o : State). KnowsOneMore o a new) c.self.view_is
    (knows_more old new a _ c.in_ok-add-2.ensures.ok (keeps_where_grown s.bounds b c.variable_of.ensures.grown)
    (record { sum = c.args.sum.now; atom = ap (λ (z : ℤ). AtMost c.args.sum.now z) (sym (same_bits c.args.threshold c.requires.threshold)); variable = stands }))

pub returns-in_err-add-clause-grown : goal.returns-in_err-add-clause-grown
returns-in_err-add-clause-grown c = grown_same c.args.self.now.bounds c.self.inside.bounds (ap (λ (o : State). o.bounds) c.self.view_is)

pub returns-then-is_empty-clause-grown : goal.returns-then-is_empty-clause-grown
returns-then-is_empty-clause-grown c = grown_same c.args.self.now.bounds c.self.inside.bounds (ap (λ (o : State). o.bounds) c.self.view_is)

pub returns-in_err-terms-clause-grown : goal.returns-in_err-terms-clause-grown
returns-in_err-terms-clause-grown c = grown_self c.args.self.now.bounds

pub returns-in_err-add-clause-columns : goal.returns-in_err-add-clause-columns
returns-in_err-add-clause-columns c =
    let s = c.self.inside in
    let new : State = record { bounds = s.bounds; said = c.add.new.said.items; log = s.log.items } in
    columns_other c.args.self.now new (AtMost c.args.sum.now c.args.threshold) (ap (λ (o : State). o.bounds) c.self.view_is)

pub returns-then-is_empty-clause-columns : goal.returns-then-is_empty-clause-columns
returns-then-is_empty-clause-columns c =
    let s = c.self.inside in
    let new : State = record { bounds = s.bounds; said = c.add.new.said.items; log = s.log.items } in
    columns_other c.args.self.now new (AtMost c.args.sum.now c.args.threshold) (ap (λ (o : State). o.bounds) c.self.view_is)

pub returns-in_err-terms-clause-columns : goal.returns-in_err-terms-clause-columns
returns-in_err-terms-clause-columns c = columns_other c.args.self.now c.args.self.now (AtMost c.args.sum.now c.args.threshold) refl

pub invariant_of-self-in_err-of : goal.invariant_of-self-in_err-of
invariant_of-self-in_err-of c =
    let s = c.self.inside in
    let b = c.variable_of.new.bounds in
    let grown = c.variable_of.ensures.grown in (
      core_kept s.bounds b s.said.items s.log.items s.starts.items c.self.invariant.0 (fewer s.bounds b grown) grown.told,
      resting_still s.bounds b s.said.items c.variable_of.ensures.still c.self.invariant.1,
    )

pub returns-in_err-of-clause-columns : goal.returns-in_err-of-clause-columns
returns-in_err-of-clause-columns c =
    let s = c.self.inside in
    let b = c.variable_of.new.bounds in
    let old : State = record { bounds = s.bounds; said = s.said.items; log = s.log.items } in
    let new : State = record { bounds = b; said = s.said.items; log = s.log.items } in
    let adds : AddsSums (IsPartIn (plain c.args.sum.now)) s.bounds b = subst (λ (ps : List Summand). AddsSums (IsPartIn ps) s.bounds b) (c.deref.ensures.value ∙ c.in_ok-terms.ensures) c.variable_of.ensures.sums in
    subst (λ (o : State). AddsColumns o (AtMost c.args.sum.now c.args.threshold) new) c.self.view_is (columns_more old new c.args.sum.now c.args.threshold (not_empty c.args.sum.now (search rules)) adds)

pub returns-in_err-of-clause-fails : goal.returns-in_err-of-clause-fails
returns-in_err-of-clause-fails c =
    let s = c.self.inside in
    let b = c.variable_of.new.bounds in
    let new : State = record { bounds = b; said = s.said.items; log = s.log.items } in
    let is = c.deref.ensures.value ∙ c.in_ok-terms.ensures in
    err_is c.from_residual-in_err-of.result c.in_err-of.field-0.0 (λ e. IsRange e → (holds : Bool) → FailsToTake new c.args.sum.now c.args.threshold holds) c.from_residual-in_err-of.ensures.1
    (λ r holds.
    fails_to_take new c.args.sum.now c.args.threshold holds (subst (λ (ps : List Summand). column_of b.columns (turned ps) ≡ None) is (c.in_err-of.ensures.lacks r))
    (subst (λ (ps : List Summand). sum_fits b.table b.columns (turned ps) ≡ false) is (c.in_err-of.ensures.range r)))

pub returns-in_err-add-2-clause-columns : goal.returns-in_err-add-2-clause-columns
returns-in_err-add-2-clause-columns c =
    let s = c.self.inside in
    let b = c.variable_of.new.bounds in
    let old : State = record { bounds = s.bounds; said = s.said.items; log = s.log.items } in
    let new : State = record { bounds = b; said = c.add-2.new.said.items; log = s.log.items } in
    let adds : AddsSums (IsPartIn (plain c.args.sum.now)) s.bounds b = subst (λ (ps : List Summand). AddsSums (IsPartIn ps) s.bounds b) (c.deref.ensures.value ∙ c.in_ok-terms.ensures) c.variable_of.ensures.sums in
    subst (λ (o : State). AddsColumns o (AtMost c.args.sum.now c.args.threshold) new) c.self.view_is (columns_more old new c.args.sum.now c.args.threshold (not_empty c.args.sum.now (search rules)) adds)

pub returns-clause-columns : goal.returns-clause-columns
returns-clause-columns c =
    let s = c.self.inside in
    let b = c.variable_of.new.bounds in
    let old : State = record { bounds = s.bounds; said = s.said.items; log = s.log.items } in
    let new : State = record { bounds = b; said = c.add-2.new.said.items; log = s.log.items } in
    let adds : AddsSums (IsPartIn (plain c.args.sum.now)) s.bounds b = subst (λ (ps : List Summand). AddsSums (IsPartIn ps) s.bounds b) (c.deref.ensures.value ∙ c.in_ok-terms.ensures) c.variable_of.ensures.sums in
    subst (λ (o : State). AddsColumns o (AtMost c.args.sum.now c.args.threshold) new) c.self.view_is (columns_more old new c.args.sum.now c.args.threshold (not_empty c.args.sum.now (search rules)) adds)

pub returns-in_err-add-clause-variables : goal.returns-in_err-add-clause-variables
returns-in_err-add-clause-variables c =
    let s = c.self.inside in
    grows_self c.args.self.now (record { bounds = s.bounds; said = c.add.new.said.items; log = s.log.items }) (ap (λ (o : State). o.bounds) c.self.view_is)

pub returns-then-is_empty-clause-variables : goal.returns-then-is_empty-clause-variables
returns-then-is_empty-clause-variables c =
    let s = c.self.inside in
    grows_self c.args.self.now (record { bounds = s.bounds; said = c.add.new.said.items; log = s.log.items }) (ap (λ (o : State). o.bounds) c.self.view_is)

pub returns-in_err-terms-clause-variables : goal.returns-in_err-terms-clause-variables
returns-in_err-terms-clause-variables c = grows_self c.args.self.now c.args.self.now refl

pub returns-in_err-of-clause-variables : goal.returns-in_err-of-clause-variables
returns-in_err-of-clause-variables c =
    let s = c.self.inside in
    let b = c.variable_of.new.bounds in
    let old : State = record { bounds = s.bounds; said = s.said.items; log = s.log.items } in
    let new : State = record { bounds = b; said = s.said.items; log = s.log.items } in
    subst (λ (o : State). GrowsVariables o new) c.self.view_is (grows old new c.variable_of.ensures.grown c.variable_of.ensures.bases)

pub returns-in_err-add-2-clause-variables : goal.returns-in_err-add-2-clause-variables
returns-in_err-add-2-clause-variables c =
    let s = c.self.inside in
    let b = c.variable_of.new.bounds in
    let old : State = record { bounds = s.bounds; said = s.said.items; log = s.log.items } in
    let new : State = record { bounds = b; said = c.add-2.new.said.items; log = s.log.items } in
    subst (λ (o : State). GrowsVariables o new) c.self.view_is (grows old new c.variable_of.ensures.grown c.variable_of.ensures.bases)

pub returns-clause-variables : goal.returns-clause-variables
returns-clause-variables c =
    let s = c.self.inside in
    let b = c.variable_of.new.bounds in
    let old : State = record { bounds = s.bounds; said = s.said.items; log = s.log.items } in
    let new : State = record { bounds = b; said = c.add-2.new.said.items; log = s.log.items } in
    subst (λ (o : State). GrowsVariables o new) c.self.view_is (grows old new c.variable_of.ensures.grown c.variable_of.ensures.bases)
