use Rattle.std.proofs.Common.{◌≡◌, sym, subst, ap, refl, ℕ, ◌<◌, ◌≤◌, ◌+◌, length, List, ◌++◌, ◌∷◌, [], Contains, arith}
use Rattle.fraction128.specs.declared.TableRow.{TableRow}
use Rattle.fraction128.specs.Ratio.{IsFraction}
use Rattle.tableau.specs.Rows.{coefficient_at}
use Rattle.tableau.specs.Staged.{Lacks}
use Rattle.tableau.specs.Table.{Table, IsTableau, row_at}
use Rattle.tableau.proofs.Fractions.{fractions_of}
use Rattle.tableau.proofs.TableLemmas.{row_added}
use Rattle.tableau.specs.Places.{IsPlaced}
use Rattle.tableau.proofs.PlaceLemmas.{placed_unmade, placed_added}
use Rattle.tableau.specs.Rows.{variable_at}
use Rattle.tableau.specs.Holders.{items_at, IsIndexed}
use Rattle.tableau.proofs.HolderLemmas.{indexed_more, indexed_added}
use Rattle.tableau.proofs.table.Tableau.append_row.Goals as goal

pub invariant_of-self : goal.invariant_of-self
invariant_of-self c = (
  c.self.invariant.0,
  c.self.invariant.1,
  indexed_more c.self.inside.rows.items c.self.inside.holders.items c.index_row.new.holders.items c.in_err-index_row.ensures.least c.in_err-index_row.ensures.keeps c.self.invariant.2,
)

pub invariant_of-self-in_err-add_row : goal.invariant_of-self-in_err-add_row
invariant_of-self-in_err-add_row c = (
  subst (IsTableau c.self.inside.count) (sym c.in_err-add_row.ensures.same) c.self.invariant.0,
  placed_unmade c.self.inside.count c.self.inside.rows.items c.add_row.new.rows.items c.self.inside.places.items c.add_row.new.places.items c.in_err-add_row.ensures.same c.add_row.ensures.least c.add_row.ensures.within c.in_err-add_row.ensures.unplaced c.self.invariant.1,
  subst (λ rs. IsIndexed rs c.index_row.new.holders.items) (sym c.in_err-add_row.ensures.same)
      (indexed_more c.self.inside.rows.items c.self.inside.holders.items c.index_row.new.holders.items c.in_ok-index_row.ensures.least c.in_ok-index_row.ensures.keeps c.self.invariant.2),
)

pub invariant_of-self-2 : goal.invariant_of-self-2
invariant_of-self-2 c =
    let e = ap (λ (t : Table). t.count) c.self.view_is in
    let rows_is = ap (λ (t : Table). t.rows) c.self.view_is in
    let added : IsTableau (c.self.inside.count + 1) (c.self.inside.rows.items ++ _ ∷ []) =
    row_added c.self.inside.rows.items c.self.inside.count _ c.self.invariant.0 refl c.requires.ascending c.requires.nonzero (fractions_of c.args.entries.items (subst (λ es. (k : ℕ) → k < length es → IsFraction (coefficient_at es k)) c.deref.ensures.value c.check_fractions.ensures))
    (subst (λ n. (j : ℕ) → n ≤ j → Lacks j c.args.entries.items) (sym e) c.requires.known)
    (subst (λ (rs : List TableRow). (k : ℕ) → k < length rs → Lacks (row_at rs k).basic c.args.entries.items) (sym rows_is) c.requires.open) in (
      subst (IsTableau (c.self.inside.count + 1)) (sym c.in_ok-add_row.ensures.rows) added,
      subst (λ rs. IsPlaced (c.self.inside.count + 1) rs c.add_row.new.places.items) (sym c.in_ok-add_row.ensures.rows)
          (placed_added c.self.inside.count c.self.inside.rows.items _ c.self.inside.places.items c.add_row.new.places.items c.self.invariant.0 refl added c.in_ok-add_row.ensures.count c.in_ok-add_row.ensures.placed c.in_ok-add_row.ensures.others c.self.invariant.1),
      subst (λ rs. IsIndexed rs c.index_row.new.holders.items) (sym c.in_ok-add_row.ensures.rows)
          (indexed_added c.self.inside.rows.items _ (c.self.inside.count + 1) c.self.inside.holders.items c.index_row.new.holders.items added (let l = c.in_ok-index_row.ensures.count in omega (arith, l)) c.in_ok-index_row.ensures.keeps
          (subst (λ n. (i : ℕ) → i < length c.args.entries.items → variable_at c.args.entries.items i < length c.index_row.new.holders.items → Contains (items_at c.index_row.new.holders.items (variable_at c.args.entries.items i)) n)
          (let z : c.len.result ≡ length c.self.inside.rows.items = omega (arith, c.self.inside.rows.ok.0) in z)
          (subst (λ es. (i : ℕ) → i < length es → variable_at es i < length c.index_row.new.holders.items → Contains (items_at c.index_row.new.holders.items (variable_at es i)) c.len.result) c.deref-2.ensures.value
          c.in_ok-index_row.ensures.listed))
          c.self.invariant.2),
    )
