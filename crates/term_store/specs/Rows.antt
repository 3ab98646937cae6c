-- How rows are kept: a list of entries, with all numbers in one list.
use Rattle.std.specs.Prelude.{ℕ, ◌<◌, ◌≤◌, List, length, map, slice_index_or, slice_range}
use Rattle.term_store.specs.declared.rows.Entry.{Entry}

abbrev pub row_of : {H : Type 0} → List ℕ → Entry H → H × List ℕ
row_of numbers e = (e.head, slice_range numbers e.start e.end)

abbrev pub rows_of : {H : Type 0} → List ℕ → List (Entry H) → List (H × List ℕ)
rows_of numbers es = map (row_of numbers) es

-- each row's numbers are a part of the list, and the parts are in order
pub record AreLaid {H : Type 0} (size : ℕ) (es : List (Entry H)) : Type 0 where
  pub starts : (k : ℕ) (d : Entry H) → k < length es → (slice_index_or es k d).start ≤ (slice_index_or es k d).end
  pub ends : (k : ℕ) (d : Entry H) → k < length es → (slice_index_or es k d).end ≤ size
  pub order : (j k : ℕ) (d : Entry H) → j < k → k < length es → (slice_index_or es j d).end ≤ (slice_index_or es k d).start
