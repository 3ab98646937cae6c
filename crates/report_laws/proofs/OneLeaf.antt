-- Over one leaf there is one variable, and no row.
use Rattle.std.proofs.Common.{◌≡◌, ℕ, ℤ, zero, suc, ◌<◌, ◌⊎◌, inl, inr, pos, sym, ap, ◌∙◌, subst, refl, arith, List, [], ◌∷◌, length, Bool, true, false, cond, eq-eqb, Option, Some, None, All}
use Rattle.fraction128.specs.declared.ratio.Ratio.{Ratio}
use Rattle.fraction128.specs.Number.{whole, SameNumber}
use Rattle.fraction128.specs.declared.Summand.{Summand}
use Rattle.fraction128.specs.declared.Entry.{Entry}
use Rattle.fraction128.specs.declared.TableRow.{TableRow}
use Rattle.fraction128.specs.declared.Pending.{Pending}
use Rattle.fraction128.specs.declared.Grid.{Grid}
use Rattle.fraction128.specs.Grid.{Step, leaf, take, pivot, any_crossed, is_basic, is_some, row_of, column_at, row_value, next_step, MeetsRow}
use Rattle.fraction128.specs.Lines.{Bounding, AreSums, IsEntry, IsRow, IsSoundGrid, first_basis, sum_of_variable, sum_value}
use Rattle.simplex_steps.proofs.NextStep.{step_facts}
use Rattle.smt_meaning.specs.CheckAtoms.{IsBoundOf, IsCheckAtom, IsKnownSum}
use Rattle.smt_meaning.specs.Report.{AreChained}
use Rattle.report_laws.proofs.Chained.{pivot_in}
use Rattle.report_laws.specs.OneLeaf.{NoEmptySums, NoSumTwice, NoBranches, NoPivots}

-- ---- tables of one sum

module _ (Known : List Summand → Type 0) (t : ℕ) (over : (ps : List Summand) → Known ps → (ps ≡ []) ⊎ (ps ≡ leaf t)) (sums : List (List Summand)) (table : AreSums Known sums) where
  pub each_is : (i : ℕ) → i < length sums → sum_of_variable sums i ≡ leaf t
  each_is i lt = elim (over (sum_of_variable sums i) (table.known i [] lt)) [ inl e ↦ absurd (table.filled i [] lt e) | inr e ↦ e ]

  pub only_first : (i : ℕ) → i < length sums → i ≡ 0
  only_first zero lt = refl
  only_first (suc i) lt = absurd (table.apart zero (suc i) [] (omega arith) lt (each_is zero (omega (arith, lt)) ∙ sym (each_is (suc i) lt)))

  -- ---- rows

  module _ (B : Bounding) (g : Grid) (sound : IsSoundGrid sums B g) where
    pub column_first : (i : ℕ) → i < length g.columns → i ≡ 0
    column_first i lt = only_first i (sound.columns i lt).0

    pub column_sum : (i : ℕ) → i < length g.columns → (column_at g i).sum ≡ leaf t
    column_sum i lt = let h = sound.columns i lt in h.1 ∙ each_is i h.0

    no_entries : (r : TableRow) (rs : List TableRow) (es : List Entry) → g.rows ≡ r ∷ rs → r.entries ≡ es → IsRow g r → es ≡ []
    no_entries r rs [] e f row = refl
    no_entries r rs (d ∷ ds) e f row =
        let at : IsEntry g d = subst (λ xs. All (IsEntry g) xs) f row.entries zero d (omega arith) in
        let same : r.basic ≡ d.variable = column_first r.basic row.known ∙ sym (column_first d.variable at.known) in
        let basic : is_basic g.rows d.variable ≡ true =
        ap (λ rows. is_basic rows d.variable) e ∙ ap (λ z. is_some (cond z (Some r) (row_of rs d.variable))) (eq-eqb r.basic d.variable same) in
        let z : true ≡ false = sym basic ∙ at.free in absurd (cc)

    ones : ℕ → Ratio
    ones i = whole (pos 1)

    not_nothing : (ps : List Summand) → ps ≡ leaf t → SameNumber (sum_value (λ i. whole (pos 1)) ps) (whole (pos 0)) → ⊥
    not_nothing ps e h =
        let z : SameNumber (sum_value (λ i. whole (pos 1)) (leaf t)) (whole (pos 0)) = subst (λ qs. SameNumber (sum_value (λ i. whole (pos 1)) qs) (whole (pos 0))) e h in
        let one : pos 1 ≡ pos 0 = z in absurd (cc)

    pub no_rows : (rows : List TableRow) → g.rows ≡ rows → rows ≡ []
    no_rows [] e = refl
    no_rows (r ∷ rs) e =
        let row : IsRow g r = subst (λ rows. All (IsRow g) rows) e sound.rows.each zero r (omega arith) in
        let none : r.entries ≡ [] = no_entries r rs r.entries e refl row in
        let met : MeetsRow (λ i. sum_value (λ j. whole (pos 1)) (column_at g i).sum) r =
        subst (λ rows. All (MeetsRow (λ i. sum_value (λ j. whole (pos 1)) (column_at g i).sum)) rows) e (sound.identities (λ j. whole (pos 1)) (λ j. omega arith)) zero r (omega arith) in
        absurd (not_nothing (column_at g r.basic).sum (column_sum r.basic row.known)
        (subst (λ es. SameNumber (sum_value (λ j. whole (pos 1)) (column_at g r.basic).sum) (row_value (λ i. sum_value (λ j. whole (pos 1)) (column_at g i).sum) es)) none met))

    pub none_basic : (i : ℕ) → is_basic g.rows i ≡ false
    none_basic i = ap (λ rows. is_basic rows i) (no_rows g.rows refl)

-- ---- next steps

-- the pending bound is taken in; else none is pending, and no bounds cross
pub plain : (g : Grid) (s : Step) → next_step g ≡ Some s → ((p : Pending) × (g.pending ≡ Some p) × (s ≡ take p)) ⊎ ((g.pending ≡ None) × (any_crossed g.columns ≡ false))
plain g s next = by_pending g.pending refl
  where
    by_crossing : (z : Bool) → any_crossed g.columns ≡ z → g.pending ≡ None → ((p : Pending) × (g.pending ≡ Some p) × (s ≡ take p)) ⊎ ((g.pending ≡ None) × (any_crossed g.columns ≡ false))
    by_crossing true e none =
        let stuck : next_step g ≡ None = rw none rw e refl in
        let z : None ≡ Some s = sym stuck ∙ next in absurd (cc)
    by_crossing false e none = inr (none, e)

    by_pending : (o : Option Pending) → g.pending ≡ o → ((p : Pending) × (g.pending ≡ Some p) × (s ≡ take p)) ⊎ ((g.pending ≡ None) × (any_crossed g.columns ≡ false))
    by_pending (Some p) e =
        let takes : next_step g ≡ Some (take p) = rw e refl in
        let z : Some (take p) ≡ Some s = sym takes ∙ next in
        let same : s ≡ take p = cc in inl (p, e, same)
    by_pending None e = by_crossing (any_crossed g.columns) refl e

pub leaves_basic : (g : Grid) (b : ℕ) (k : ℤ) (c : ℕ) → next_step g ≡ Some (pivot b k c) → is_basic g.rows b ≡ true
leaves_basic g b k c next = by (plain g (pivot b k c) next)
  where
    by : ((p : Pending) × (g.pending ≡ Some p) × (pivot b k c ≡ take p)) ⊎ ((g.pending ≡ None) × (any_crossed g.columns ≡ false)) → is_basic g.rows b ≡ true
    by (inl (p, e, is)) = absurd (cc)
    by (inr h) = (step_facts g (pivot b k c) h.0 h.1 next).basic

true_false : {X : Type 0} → true ≡ false → X
true_false e = cc

-- ---- reports

pub no_branches : NoBranches
no_branches ts frames t over sums [] table are = refl
no_branches ts frames t over sums (l ∷ ls) table are =
    let row = are.0.row in
    true_false (sym row.basic ∙ none_basic (IsKnownSum ts frames) t over sums table _ row.grid row.sound row.variable)

pub no_pivots : NoPivots
no_pivots ts frames t over limit branches us spent before after l e =
    let chained = subst (AreChained spent.sums (IsBoundOf (IsCheckAtom ts frames branches)) (first_basis spent.sums) None) e spent.chained in
    let p = (pivot_in spent.sums (IsBoundOf (IsCheckAtom ts frames branches)) (first_basis spent.sums) None before after l chained).pivot in
    true_false (sym (leaves_basic p.grid p.leaves p.number p.enters p.next) ∙ none_basic (IsKnownSum ts frames) t over spent.sums spent.known _ p.grid p.sound p.leaves)

pub no_empty_sums : NoEmptySums
no_empty_sums ts frames limit branches g i lt e r =
    let h = r.leaves.grid.columns i lt in r.known.filled i [] h.0 (sym h.1 ∙ e)

pub no_sum_twice : NoSumTwice
no_sum_twice ts frames limit branches g i j lt lj e r =
    let h = r.leaves.grid.columns i (omega (arith, lt, lj)) in
    let k = r.leaves.grid.columns j lj in
    r.known.apart i j [] lt k.0 (sym h.1 ∙ e ∙ k.1)
