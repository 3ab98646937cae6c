-- The variables of a grid, from state to state.
use Rattle.std.proofs.Common.{◌≡◌, ℕ, ◌<◌, not, List, [], map, length, get_or, refl, sym, ap, ◌∙◌, subst, arith}
use Rattle.std.proofs.lemmas.List.{length-map, get_or-map, map-append}
use Rattle.fraction128.specs.declared.Summand.{Summand}
use Rattle.fraction128.specs.declared.Column.{Column}
use Rattle.fraction128.specs.Grid.{is_basic}
use Rattle.fraction128.specs.Lines.{is_leaf_sum}
use Rattle.tableau.specs.Table.{Table}
use Rattle.simplex_steps.specs.State.{no_column, KeepsBounds}
use Rattle.simplex.specs.State.{KeepsValues}
use Rattle.sum_bounds.specs.Bounds as Bounds
use Rattle.sum_bounds.specs.Bounds.{sums}
use Rattle.sum_bounds.specs.Bases.{AddsBases}
use Rattle.sum_bounds.proofs.Sums.{same_lists}
use Rattle.bound_log.specs.Told.{State, SumsAreApart, column_sums}
use Rattle.bound_log.specs.Growth.{IsGrown, GrowsVariables, KeepsVariables}
use Rattle.bound_log.proofs.Telling.{no_more}
use Rattle.bound_log.proofs.Taken.{taken_where_grown, taken_where_same}

-- ---- the sums

sum_at : (s : State) (i : ℕ) (d : List Summand) → i < length s.bounds.columns → get_or (column_sums s) i d ≡ sums s.bounds i
sum_at s i d lt = get_or-map (λ (c : Column). c.sum) s.bounds.columns i no_column d lt

count_is : (s : State) → length (column_sums s) ≡ length s.bounds.columns
count_is s = length-map s.bounds.columns (λ (c : Column). c.sum)

same_sums : (s u : State) → length u.bounds.columns ≡ length s.bounds.columns → ((i : ℕ) → sums u.bounds i ≡ sums s.bounds i) → column_sums u ≡ column_sums s
same_sums s u count same =
    same_lists (column_sums u) (column_sums s) (count_is u ∙ count ∙ sym (count_is s))
    (λ k d lt.
    let short : k < length u.bounds.columns = omega (arith, lt, count_is u) in
    sum_at u k d short ∙ same k ∙ sym (sum_at s k d (omega (arith, short, count))))

pub sums_by_bounds : (s u : State) → KeepsBounds s.bounds.columns u.bounds.columns → column_sums u ≡ column_sums s
sums_by_bounds s u keeps = same_sums s u keeps.count (λ i. (keeps.each i).sum)

pub sums_apart : SumsAreApart
sums_apart s state i j d lt lj e =
    let short : j < length s.bounds.columns = omega (arith, lj, count_is s) in
    let first : i < length s.bounds.columns = omega (arith, lt, short) in
    state.bounds.apart i j no_column lt short (sym (sum_at s i d first) ∙ e ∙ sum_at s j d short)

-- ---- variables that stay

pub kept_by_values : (s u : State) → u.bounds.table ≡ s.bounds.table → KeepsValues s.bounds.columns u.bounds.columns → KeepsVariables s u
kept_by_values s u table keeps = record {
  sums = same_sums s u keeps.count (λ i. (keeps.each i).sum);
  basis = λ is basis i lt. ap (λ (t : Table). is_basic t.rows i) table ∙ basis i (let n = keeps.count in omega (arith, lt, n));
}

pub kept_self : (s u : State) → u.bounds ≡ s.bounds → KeepsVariables s u
kept_self s u e = record {
  sums = ap (λ (b : Bounds.State). map (λ (c : Column). c.sum) b.columns) e;
  basis = λ is basis. subst (λ (b : Bounds.State). (i : ℕ) → i < length b.columns → is_basic b.table.rows i ≡ is i) (sym e) basis;
}

pub kept_through : (s t u : State) → KeepsVariables s t → KeepsVariables t u → KeepsVariables s u
kept_through s t u p q = record { sums = q.sums ∙ p.sums; basis = λ is basis. q.basis is (p.basis is basis) }

-- ---- variables more

pub grows : (s u : State) → IsGrown s.bounds u.bounds → AddsBases s.bounds u.bounds → GrowsVariables s u
grows s u grown bases = record {
  more = map (λ (c : Column). c.sum) grown.more;
  sums = ap (map (λ (c : Column). c.sum)) grown.columns ∙ map-append (λ (c : Column). c.sum) s.bounds.columns grown.more;
  stay = bases.stay;
  added = λ i le lt. bases.added i le lt ∙ ap (λ ps. not (is_leaf_sum ps)) (sym (sum_at u i [] lt));
  taken = taken_where_grown s u grown;
}

pub grows_self : (s u : State) → u.bounds ≡ s.bounds → GrowsVariables s u
grows_self s u e = record {
  more = [];
  sums = ap (λ (b : Bounds.State). map (λ (c : Column). c.sum) b.columns) e ∙ sym (no_more (column_sums s));
  stay = λ i lt. ap (λ (b : Bounds.State). is_basic b.table.rows i) e;
  added = λ i le lt. let n = ap (λ (b : Bounds.State). length b.columns) e in absurd (omega (arith, le, lt, n));
  taken = taken_where_same s u e;
}

-- ---- values

pub values_kept : (cs ds : List Column) → ds ≡ cs → KeepsValues cs ds
values_kept cs ds e = subst (KeepsValues cs) (sym e) (record { count = refl; each = λ i. record { sum = refl; value = refl } })

pub values_through : (cs ds es : List Column) → KeepsValues cs ds → KeepsValues ds es → KeepsValues cs es
values_through cs ds es h k = record { count = k.count ∙ h.count; each = λ i. record { sum = (k.each i).sum ∙ (h.each i).sum; value = (k.each i).value ∙ (h.each i).value } }
