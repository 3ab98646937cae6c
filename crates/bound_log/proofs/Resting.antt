-- What the values of variables that aren't basic rest at, from state to state.
use Rattle.std.proofs.Common.{◌≡◌, ◌≢◌, ℕ, ◌<◌, ◌⊎◌, inl, inr, Bool, true, false, cond, eqb, eq-eqb, List, [], ◌∷◌, ◌++◌, length, ℤ, pos, Some, refl, sym, ap, ◌∙◌, subst, arith}
use Rattle.std.specs.Prelude.{Result, Ok, Err, OnOk, OnErr}
use Rattle.std.proofs.lemmas.Bool.{cases_lt}
use Rattle.std.proofs.lemmas.List.{length_push, get_or_append_left, get_or_push}
use Rattle.std.proofs.lemmas.List.Elements.{All-contains}
use Rattle.fraction128.specs.Number.{whole}
use Rattle.fraction128.specs.declared.Column.{Column}
use Rattle.fraction128.specs.declared.Summand.{Summand}
use Rattle.fraction128.specs.declared.TableRow.{TableRow}
use Rattle.fraction128.specs.declared.Side.{Side}
use Rattle.fraction128.specs.declared.Side.TheVariants.{Lower, Upper}
use Rattle.fraction128.specs.Grid.{is_basic, is_some, row_of, leaf, sum_row, entries_value}
use Rattle.simplex_steps.specs.Law.{KeepsResting}
use Rattle.literals.specs.Signed.{Signed}
use Rattle.tableau.specs.Table.{Table}
use Rattle.simplex_steps.specs.State.{column_in, no_column, values, grid_of}
use Rattle.simplex.specs.State.{KeepsValues, new_column}
use Rattle.sum_bounds.specs.Bounds as Bounds
use Rattle.sum_bounds.specs.Bounds.{Told, with_leaf, with_sum, bound_on, IsToldOn}
use Rattle.sum_bounds.specs.Origins.{IsOfTold}
use Rattle.bound_log.specs.declared.said.Said.{Said}
use Rattle.bound_log.specs.declared.said.Said.TheVariants.{Nothing}
use Rattle.bound_log.specs.Told.{State, said_at, IsState}
use Rattle.bound_log.specs.Resting.{IsSaidOn, RestsAt, AreResting, AreStill}
use Rattle.bound_log.proofs.Breaking.{of_log}

-- ---- an atom more

said_more : (said now : List Said) (one : Said) (i : ℕ) (side : Side) (k : ℤ) → now ≡ said ++ one ∷ [] → IsSaidOn said i side k → IsSaidOn now i side k
said_more said now one i side k is h = record {
  atom = h.atom;
  positive = h.positive;
  of = h.of;
  threshold = h.threshold;
  known = let less = h.known in omega (arith, less, ap length is, length_push said one);
  is = ap (λ xs. said_at xs h.atom) is ∙ get_or_append_left said (one ∷ []) Nothing h.atom h.known ∙ h.is;
  variable = h.variable;
  on = h.on;
  number = h.number;
}

pub resting_more : (b : Bounds.State) (said now : List Said) (one : Said) → now ≡ said ++ one ∷ [] → AreResting b said → AreResting b now
resting_more b said now one is h i lt free = elim (h i lt free) [
  | inl e ↦ inl e
  | inr (side, k, e, w) ↦ inr (side, k, e, said_more said now one i side k is w)
]

-- ---- variables that stay

pub resting_still : (s u : Bounds.State) (said : List Said) → AreStill s u → AreResting s said → AreResting u said
resting_still s u said still h i lt free = elim (still i lt free) [
  | inl e ↦ inl e
  | inr w ↦ subst (RestsAt said i) (sym w.value) (h i w.known w.free)
]

pub still_values : (s u : Bounds.State) → u.table ≡ s.table → KeepsValues s.columns u.columns → AreStill s u
still_values s u table keeps i lt free =
    inr (record { known = let n = keeps.count in omega (arith, lt, n); free = sym (ap (λ (t : Table). is_basic t.rows i) table) ∙ free; value = (keeps.each i).value })

pub still_same : (s u : Bounds.State) → u ≡ s → AreStill s u
still_same s u e = subst (AreStill s) (sym e) (λ i lt free. inr (record { known = lt; free = free; value = refl }))

pub still_self : (s : Bounds.State) → AreStill s s
still_self s = still_same s s refl

pub still_through : (s t u : Bounds.State) → AreStill s t → AreStill t u → AreStill s u
still_through s t u g h i lt free = elim (h i lt free) [
  | inl e ↦ inl e
  | inr w ↦ elim (g i w.known w.free) [
    | inl e ↦ inl (w.value ∙ e)
    | inr v ↦ inr (record { known = v.known; free = v.free; value = w.value ∙ v.value })
  ]
]

-- a column more: of another variable, or the new one
value_before : (cs : List Column) (c : Column) (i : ℕ) → i < length cs → values (cs ++ c ∷ []) i ≡ values cs i
value_before cs c i lt = ap (λ (d : Column). d.value) (get_or_append_left cs (c ∷ []) no_column i lt)

value_new : (cs : List Column) (c : Column) (i : ℕ) → length cs ≡ i → values (cs ++ c ∷ []) i ≡ c.value
value_new cs c i e = ap (λ (d : Column). d.value) (get_or_push cs c no_column i e)

still_leaf : (s : Bounds.State) (term : ℕ) → AreStill s (with_leaf s term)
still_leaf s term i lt free =
    let c = new_column (leaf term) (whole (pos 0)) in
    elim (cases_lt i (length s.columns)) [
      | inl before ↦ inr (record { known = before; free = free; value = value_before s.columns c i before })
      | inr past ↦ inl (value_new s.columns c i (omega (arith, lt, length_push s.columns c)))
    ]

pub still_by_leaf : (s u : Bounds.State) (term : ℕ) → (u ≡ s) ⊎ (u ≡ with_leaf s term) → AreStill s u
still_by_leaf s u term (inl e) = still_same s u e
still_by_leaf s u term (inr e) = subst (AreStill s) (sym e) (still_leaf s term)

-- a row more: what isn't basic wasn't so before, and isn't its variable
free_before : (rows : List TableRow) (r : TableRow) (i : ℕ) → is_basic (rows ++ r ∷ []) i ≡ false → (is_basic rows i ≡ false) × (r.basic ≢ i)
free_before [] r i h = (refl, λ e. let z : true ≡ false = sym (ap (λ z. is_some (cond z (Some r) (row_of [] i))) (eq-eqb r.basic i e)) ∙ h in absurd (cc))
free_before (q ∷ qs) r i h = by (eqb q.basic i) refl (free_before qs r i)
  where
    by : (z : Bool) → eqb q.basic i ≡ z → (is_basic (qs ++ r ∷ []) i ≡ false → (is_basic qs i ≡ false) × (r.basic ≢ i)) → (is_basic (q ∷ qs) i ≡ false) × (r.basic ≢ i)
    by true e later = let z : true ≡ false = sym (ap (λ z. is_some (cond z (Some q) (row_of (qs ++ r ∷ []) i))) e) ∙ h in absurd (cc)
    by false e later =
        let w = later (sym (ap (λ z. is_some (cond z (Some q) (row_of (qs ++ r ∷ []) i))) e) ∙ h) in
        (ap (λ z. is_some (cond z (Some q) (row_of qs i))) e ∙ w.0, w.1)

still_sum : (s : Bounds.State) (ps : List Summand) → AreStill s (with_sum s ps)
still_sum s ps i lt free =
    let w = free_before s.table.rows (sum_row s.columns s.table.rows ps) i free in
    let c = new_column ps (entries_value (values s.columns) (whole (pos 0)) (sum_row s.columns s.table.rows ps).entries) in
    elim (cases_lt i (length s.columns)) [
      | inl before ↦ inr (record { known = before; free = w.0; value = value_before s.columns c i before })
      | inr past ↦ absurd (w.1 (omega (arith, lt, length_push s.columns c)))
    ]

pub still_by_sum : (s u : Bounds.State) (ps : List Summand) → (u ≡ s) ⊎ (u ≡ with_sum s ps) → AreStill s u
still_by_sum s u ps (inl e) = still_same s u e
still_by_sum s u ps (inr e) = subst (AreStill s) (sym e) (still_sum s ps)

-- a sum's variable was there, or is new, or there is none for an error
pub in_either : {T E : Type 0} (s u : Bounds.State) (ps : List Summand) (r : Result T E) → OnOk r ((u ≡ s) ⊎ (u ≡ with_sum s ps)) → OnErr r (u ≡ s) → (u ≡ s) ⊎ (u ≡ with_sum s ps)
in_either s u ps (Ok x) h k = h
in_either s u ps (Err e) h k = inl k

-- ---- a check

-- a bound told is one that a literal's atom says
pub said_on : (s : State) (i : ℕ) (side : Side) (k : ℤ) → IsState s → IsToldOn s.bounds.told i side k → IsSaidOn s.said i side k
said_on s i side k state t =
    let o = of_log s t.bound state t.among in
    let by = o.by in
    record {
      atom = o.literal.atom;
      positive = o.literal.positive;
      of = by.variable;
      threshold = by.threshold;
      known = All-contains (λ (m : Signed). m.atom < length s.said) s.log o.literal state.numbered o.among;
      is = by.is;
      variable = sym (ap (λ (x : Told). x.variable) by.exact) ∙ t.variable;
      on = sym t.on ∙ ap (λ (x : Told). x.side) by.exact;
      number = sym t.number ∙ ap (λ (x : Told). x.number) by.exact;
    }

at_side : (c : Column) (k : ℤ) → (c.lower ≡ Some k) ⊎ (c.upper ≡ Some k) → (side : Side) × (bound_on c side ≡ Some k)
at_side c k (inl e) = (Lower, e)
at_side c k (inr e) = (Upper, e)

pub resting_run : (s : Bounds.State) (u : State) → IsState u → IsOfTold u.bounds → KeepsResting (grid_of s.table s.columns) (grid_of u.bounds.table u.bounds.columns) → length u.bounds.columns ≡ length s.columns
    → AreResting s u.said → AreResting u.bounds u.said
resting_run s u state origins rests count h i lt free = elim (rests i lt free) [
  | inl (k, is, at) ↦
      let w = at_side (column_in u.bounds.columns i) k at in
      inr (w.0, k, is, said_on u i w.0 k state (origins.told i w.0 k lt w.1))
  | inr w ↦ subst (RestsAt u.said i) (sym w.1) (h i (omega (arith, lt, count)) w.0)
]
