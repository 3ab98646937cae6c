-- Grids in which all of another one is taken in.
use Rattle.std.proofs.Common.{◌≡◌, ℕ, ◌<◌, List, length, map, ℤ, Option, Some, None, refl, sym, ap, ap₂, ◌∙◌, subst, arith}
use Rattle.std.specs.Prelude.{slice_index_or}
use Rattle.std.proofs.lemmas.Int.{ints}
use Rattle.std.proofs.lemmas.List.{length-map, get_or-map}
use Rattle.fraction128.specs.declared.ratio.Ratio.{Ratio}
use Rattle.fraction128.specs.declared.Summand.{Summand}
use Rattle.fraction128.specs.declared.TableRow.{TableRow}
use Rattle.fraction128.specs.declared.Column.{Column}
use Rattle.fraction128.specs.declared.Grid.{Grid}
use Rattle.fraction128.specs.Chain.{StaysOrRises, StaysOrFalls, IsTightened, TakesIn, unbounded_column}
use Rattle.tableau.specs.Table.{Table}
use Rattle.simplex_steps.specs.State.{column_in, no_column}
use Rattle.simplex.specs.State.{KeepsValues}
use Rattle.sum_bounds.proofs.Sums.{same_lists}
use Rattle.bound_log.specs.Told.{State}
use Rattle.bound_log.specs.Pending.{plain_grid}
use Rattle.bound_log.specs.Growth.{IsGrown}
use Rattle.bound_log.specs.Chained.{ValuesStay}
use Rattle.bound_log.proofs.Growing.{grown_same, same_column, fewer}

-- ---- variables more

lower_stays : (o : Option ℤ) → StaysOrRises o o
lower_stays None = tt
lower_stays (Some k) = omega (arith, ints)

upper_stays : (o : Option ℤ) → StaysOrFalls o o
upper_stays None = tt
upper_stays (Some k) = omega (arith, ints)

tightened_same : (c d : Column) → d ≡ c → IsTightened c d
tightened_same c d e = subst (IsTightened c) (sym e) (record { sum = refl; value = refl; lower = lower_stays c.lower; upper = upper_stays c.upper })

pub taken_where_grown : (s u : State) → IsGrown s.bounds u.bounds → TakesIn (plain_grid s) (plain_grid u)
taken_where_grown s u grown = record {
  count = fewer s.bounds u.bounds grown;
  each = λ i lt. tightened_same (column_in s.bounds.columns i) (column_in u.bounds.columns i) (same_column s.bounds u.bounds i grown lt);
  more = grown.more_rows;
  rows = grown.rows;
  pending = refl;
}

pub taken_where_same : (s u : State) → u.bounds ≡ s.bounds → TakesIn (plain_grid s) (plain_grid u)
taken_where_same s u e = taken_where_grown s u (grown_same s.bounds u.bounds e)

-- ---- values that stay

pub unbounded_at : (cs : List Column) (i : ℕ) (d : Column) → i < length cs → slice_index_or (map unbounded_column cs) i d ≡ unbounded_column (column_in cs i)
unbounded_at cs i d lt = get_or-map unbounded_column cs i no_column d lt

unbounded_columns : (cs ds : List Column) → KeepsValues cs ds → map unbounded_column ds ≡ map unbounded_column cs
unbounded_columns cs ds keeps =
    let n : length ds ≡ length cs = keeps.count in
    same_lists (map unbounded_column ds) (map unbounded_column cs) (length-map ds unbounded_column ∙ n ∙ sym (length-map cs unbounded_column))
    (λ i d lt.
    let here : i < length ds = omega (arith, lt, length-map ds unbounded_column) in
    let k = keeps.each i in
    unbounded_at ds i d here
    ∙ ap₂ (λ (ps : List Summand) (x : Ratio). let c : Column = record { sum = ps; lower = None; upper = None; value = x } in c) k.sum k.value
    ∙ sym (unbounded_at cs i d (omega (arith, here, n))))

pub values_stay : ValuesStay
values_stay old new table keeps =
    ap₂ (λ (cs : List Column) (rs : List TableRow). let g : Grid = record { columns = cs; rows = rs; pending = None } in g) (unbounded_columns old.bounds.columns new.bounds.columns keeps)
    (ap (λ (t : Table). t.rows) table)
