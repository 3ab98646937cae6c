-- The rows of tableaus as rows of grids.
use Rattle.std.proofs.Common.{◌≡◌, ℕ, zero, suc, ◌+◌, ◌<◌, inl, inr, Bool, true, false, cond, eqb, eqb-true, List, [], ◌∷◌, map, length, Some, refl, sym, ap, ◌∙◌, subst, arith}
use Rattle.std.specs.Prelude.{All}
use Rattle.std.proofs.lemmas.Bool.{cases_lt}
use Rattle.std.proofs.lemmas.List.{get_or_default}
use Rattle.std.proofs.lemmas.List.Elements.{All-nil, All-cons}
use Rattle.fraction128.specs.declared.Entry.{Entry}
use Rattle.fraction128.specs.declared.TableRow.{TableRow}
use Rattle.fraction128.specs.declared.Grid.{Grid}
use Rattle.fraction128.specs.Grid.{is_basic, is_some, row_of}
use Rattle.fraction128.specs.Lines.{AscendFrom, IsEntry, IsRow}
use Rattle.tableau.specs.Table.{AreNonzero, AreFractions, row_at, no_row}
use Rattle.tableau.specs.Rows.{variable_at}
use Rattle.tableau.proofs.Shape.{From, from_zero}
use Rattle.simplex_steps.specs.State.{grid_of}
use Rattle.simplex_steps.specs.TableRows.{TablesHaveRows}

-- the row of a basic variable, at its place
record HasRow (rows : List TableRow) (b : ℕ) : Type 0 where
  place : ℕ
  known : place < length rows
  basic : (row_at rows place).basic ≡ b

has_row : (rows : List TableRow) (b : ℕ) → is_basic rows b ≡ true → HasRow rows b
has_row [] b h = let z : false ≡ true = h in absurd (cc)
has_row (r ∷ rs) b h = by (eqb r.basic b) refl (has_row rs b)
  where
    by : (z : Bool) → eqb r.basic b ≡ z → (is_basic rs b ≡ true → HasRow rs b) → HasRow (r ∷ rs) b
    by true e later = record { place = zero; known = omega arith; basic = eqb-true r.basic b e }
    by false e later =
        let w = later (sym (ap (λ z. is_some (cond z (Some r) (row_of rs b))) e) ∙ h) in
        record { place = suc w.place; known = let less = w.known in omega (arith, less); basic = w.basic }

ascending_from : (i : ℕ) (es : List Entry) → From i es → AscendFrom i (map (λ (e : Entry). e.variable) es)
ascending_from i [] h = tt
ascending_from i (e ∷ es) h = (h.0, ascending_from (e.variable + 1) es h.1)

entries_are : (g : Grid) (es : List Entry) → AreFractions es → AreNonzero es → ((k : ℕ) → k < length es → (variable_at es k < length g.columns) × (is_basic g.rows (variable_at es k) ≡ false)) → All (IsEntry g) es
entries_are g [] fractions nonzero h = All-nil (IsEntry g)
entries_are g (e ∷ es) fractions nonzero h =
    All-cons (IsEntry g) e es (record { fraction = fractions.0; nonzero = nonzero.0.1; known = (h zero (omega arith)).0; free = (h zero (omega arith)).1 })
    (entries_are g es fractions.1 nonzero.1 (λ k lt. h (suc k) (omega (arith, lt))))

pub tables_have_rows : TablesHaveRows
tables_have_rows t cs table count = record {
  each = λ k d lt. subst (IsRow (grid_of t cs)) (get_or_default t.rows k no_row d lt) (at k lt);
  apart = λ i j d lt lj e.
      let same : i ≡ j =
      table.distinct i j (omega (arith, lt, lj)) lj
      (ap (λ (r : TableRow). r.basic) (get_or_default t.rows i no_row d (omega (arith, lt, lj))) ∙ e ∙ ap (λ (r : TableRow). r.basic) (sym (get_or_default t.rows j no_row d lj))) in
      absurd (omega (arith, lt, same));
}
  where
    within : (i : ℕ) → i < t.count → i < length cs
    within i lt = omega (arith, lt, count)

    known : (place k : ℕ) → place < length t.rows → k < length (row_at t.rows place).entries → variable_at (row_at t.rows place).entries k < length cs
    known place k at lt = elim (cases_lt (variable_at (row_at t.rows place).entries k) t.count) [
      | inl less ↦ within (variable_at (row_at t.rows place).entries k) less
      | inr past ↦ absurd (table.known (variable_at (row_at t.rows place).entries k) place past at k lt refl)
    ]

    free : (place k : ℕ) → place < length t.rows → k < length (row_at t.rows place).entries → is_basic t.rows (variable_at (row_at t.rows place).entries k) ≡ false
    free place k at lt = by (is_basic t.rows (variable_at (row_at t.rows place).entries k)) refl
      where
        by : (z : Bool) → is_basic t.rows (variable_at (row_at t.rows place).entries k) ≡ z → is_basic t.rows (variable_at (row_at t.rows place).entries k) ≡ false
        by false e = e
        by true e =
            let r = has_row t.rows (variable_at (row_at t.rows place).entries k) e in
            absurd (table.separate r.place place r.known at k lt (sym r.basic))

    at : (k : ℕ) → k < length t.rows → IsRow (grid_of t cs) (row_at t.rows k)
    at k lt = record {
      known = within (row_at t.rows k).basic (table.basics k lt);
      ascending = ascending_from 0 (row_at t.rows k).entries (from_zero (row_at t.rows k).entries (table.ascending k lt));
      entries = entries_are (grid_of t cs) (row_at t.rows k).entries (table.fractions k lt) (table.nonzero k lt) (λ j lj. (known k j lt lj, free k j lt lj));
    }
