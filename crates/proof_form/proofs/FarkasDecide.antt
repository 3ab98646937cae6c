-- What the loops find decides whether multiples of bounds add up to a contradiction.
use Rattle.std.proofs.Common.{◌≡◌, ℕ, Bool, true, false, ◌&&◌, List, [], ◌++◌, sym, ap, subst, ◌∙◌, refl, arith, map, nat_eq}
use Rattle.std.specs.Prelude.{pos, if◌then◌else◌}
use Rattle.std.specs.List.{filter}
use Rattle.std.specs.List.Sorted.{IsNonDecreasingBy}
use Rattle.fraction128.specs.declared.ratio.Ratio.{Ratio}
use Rattle.fraction128.specs.Number.{whole, is_positive, is_zero}
use Rattle.proof_meaning.specs.declared.proof.Weighted.{Weighted}
use Rattle.smt_laws.proofs.Both.{and_left, and_right, and_both}
use Rattle.proof_form.specs.declared.farkas_entries.Entry.{Entry}
use Rattle.proof_terms.specs.declared.verdict.Verdict.{Verdict}
use Rattle.proof_terms.specs.declared.verdict.Verdict.TheVariants.{Good, Wrong}
use Rattle.proof_terms.specs.Range.{SumsFit, leaf_terms}
use Rattle.proof_form.specs.FarkasSums.{AreMultiples, ComeTo, parts_inside, constant_with, entries_with, leaves_inside, leaves_vanish, so_far, verdict_by}
use Rattle.proof_form.proofs.FarkasForms.{HaveForms, have_forms}
use Rattle.proof_form.proofs.FarkasRange.{products, at_leaf, at_leaf-filter, at_leaf-all, adds_products, adds_sums, adds_fit, PartsFit, parts_inside_fit, parts_fit_inside, sums_inside, added}
use Rattle.proof_form.proofs.FarkasLeaves.{Ascend, ascending, Inside, Vanishes, each_inside, inside_each, each_vanishes, vanish_each}
use Rattle.proof_form.proofs.FarkasScale.{is_farkas, farkas_is}

-- entries sorted by their leaves
pub record AreSorted (es sorted : List Entry) : Type 0 where
  pub order : IsNonDecreasingBy (λ (e : Entry). e.leaf) sorted
  pub stable : (x : ℕ) → filter (λ (e : Entry). nat_eq x e.leaf) sorted ≡ filter (λ (e : Entry). nat_eq x e.leaf) es

module _ (ws : List Weighted) (are : AreMultiples ws) where
  forms : HaveForms are.0 ws
  forms = have_forms are.0 ws are.1

  pub outside_parts : parts_inside (whole (pos 0)) ws ≡ false → SumsFit ws → ⊥
  outside_parts e fit =
      let inside : parts_inside (whole (pos 0)) ws ≡ true =
      parts_fit_inside are.0 (whole (pos 0)) ws forms (record { forms = fit.forms; products = λ x. adds_products (whole (pos 0)) (leaf_terms x ws) (fit.leaves x); constants = fit.constants }) in
      let x : true ≡ false = sym inside ∙ e in
      cc

  module _ (es : List Entry) (sorted : AreSorted (entries_with ws) es) where
    up : Ascend 0 es
    up = ascending 0 es (λ k d l. omega arith) sorted.order

    of_leaf_is : (x : ℕ) → at_leaf x es ≡ products (leaf_terms x ws)
    of_leaf_is x =
        at_leaf-filter x es ∙ ap (map (λ (e : Entry). e.multiple)) (sorted.stable x) ∙ sym (at_leaf-filter x (entries_with ws)) ∙ at_leaf-all are.0 x ws forms

    from_none : (x : ℕ) (P : Ratio → Type 0) → P (whole (pos 0)) → P (so_far 0 (whole (pos 0)) x)
    from_none x P h = by (nat_eq 0 x)
      where
        by : (b : Bool) → P (if b then whole (pos 0) else whole (pos 0))
        by true = h
        by false = h

    to_none : (x : ℕ) (P : Ratio → Type 0) → P (so_far 0 (whole (pos 0)) x) → P (whole (pos 0))
    to_none x P h = by (nat_eq 0 x) h
      where
        by : (b : Bool) → P (if b then whole (pos 0) else whole (pos 0)) → P (whole (pos 0))
        by true k = k
        by false k = k

    pub outside_leaves : leaves_inside 0 (whole (pos 0)) es ≡ false → SumsFit ws → ⊥
    outside_leaves e fit =
        let inside : leaves_inside 0 (whole (pos 0)) es ≡ true =
        inside_each 0 (whole (pos 0)) es up
        (λ x. from_none x (λ y. sums_inside y (at_leaf x es) ≡ true) (subst (Inside (whole (pos 0))) (sym (of_leaf_is x)) (adds_sums (whole (pos 0)) (leaf_terms x ws) (fit.leaves x)))) in
        let x : true ≡ false = sym inside ∙ e in
        cc

    module _ (parts : parts_inside (whole (pos 0)) ws ≡ true) (leaves : leaves_inside 0 (whole (pos 0)) es ≡ true) where
      pub sums_fit : SumsFit ws
      sums_fit =
          let p : PartsFit (whole (pos 0)) ws = parts_inside_fit are.0 (whole (pos 0)) ws forms parts in
          record {
            forms = p.forms;
            leaves = λ x.
                adds_fit (whole (pos 0)) (leaf_terms x ws) (p.products x)
                (subst (Inside (whole (pos 0))) (of_leaf_is x) (to_none x (λ y. sums_inside y (at_leaf x es) ≡ true) (each_inside 0 (whole (pos 0)) es up leaves x)));
            constants = p.constants;
          }

      pub good : (zero : Bool) (k : Ratio) → zero ≡ leaves_vanish 0 (whole (pos 0)) es → k ≡ constant_with (whole (pos 0)) ws → (zero && is_positive k) ≡ true → ComeTo ws Good
      good zero k e f both = (
        sums_fit,
        is_farkas are.0 ws are.1 forms
            (λ x.
            subst (Vanishes (whole (pos 0))) (of_leaf_is x)
            (to_none x (λ y. is_zero (added y (at_leaf x es)) ≡ true) (each_vanishes 0 (whole (pos 0)) es up (sym e ∙ and_left zero (is_positive k) both) x)))
            (ap is_positive (sym f) ∙ and_right zero (is_positive k) both),
      )

      pub wrong : (zero : Bool) (k : Ratio) → zero ≡ leaves_vanish 0 (whole (pos 0)) es → k ≡ constant_with (whole (pos 0)) ws → (zero && is_positive k) ≡ false → ComeTo ws Wrong
      wrong zero k e f both = (
        sums_fit,
        λ ls rule.
            (let found = farkas_is are.0 ws ls are.1 forms rule in
            let vanish : leaves_vanish 0 (whole (pos 0)) es ≡ true =
            vanish_each 0 (whole (pos 0)) es up
            (λ x. from_none x (λ y. is_zero (added y (at_leaf x es)) ≡ true) (subst (Vanishes (whole (pos 0))) (sym (of_leaf_is x)) (found.0 x))) in
            let yes : (zero && is_positive k) ≡ true = and_both zero (is_positive k) (e ∙ vanish) (ap is_positive f ∙ found.1) in
            let x : true ≡ false = sym yes ∙ both in
            cc),
      )

      pub decided : (zero : Bool) (k : Ratio) (v : Verdict) → zero ≡ leaves_vanish 0 (whole (pos 0)) es → k ≡ constant_with (whole (pos 0)) ws → v ≡ verdict_by (zero && is_positive k) → ComeTo ws v
      decided zero k v e f g = subst (ComeTo ws) (sym g) (by (zero && is_positive k) refl)
        where
          by : (b : Bool) → (zero && is_positive k) ≡ b → ComeTo ws (verdict_by b)
          by true both = good zero k e f both
          by false both = wrong zero k e f both

pub sorted_entries : (ws : List Weighted) (start made sorted : List Entry) → start ≡ [] → made ≡ start ++ entries_with ws → IsNonDecreasingBy (λ (e : Entry). e.leaf) sorted
    → ((x : ℕ) → filter (λ (e : Entry). nat_eq x e.leaf) sorted ≡ filter (λ (e : Entry). nat_eq x e.leaf) made) → AreSorted (entries_with ws) sorted
sorted_entries ws start made sorted e f order stable = record {
  order = order;
  stable = λ x. stable x ∙ ap (filter (λ (d : Entry). nat_eq x d.leaf)) (f ∙ ap (λ es. es ++ entries_with ws) e);
}
