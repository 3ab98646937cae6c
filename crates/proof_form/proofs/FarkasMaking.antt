-- Loops that add entries and constants.
use Rattle.std.proofs.Common.{◌≡◌, ℕ, ◌+◌, ◌<◌, ◌≤◌, Bool, true, false, ◌&&◌, List, [], ◌∷◌, ◌++◌, length, get_or, drop, sym, ap, ◌∙◌, refl, append_assoc, append-nil, Some, None}
use Rattle.std.specs.Prelude.{ℤ, pos}
use Rattle.std.proofs.lemmas.List.{drop_more, drop_all}
use Rattle.fraction128.specs.declared.ratio.Ratio.{Ratio}
use Rattle.fraction128.specs.Listed.{sum_of}
use Rattle.fraction128.specs.Number.{whole}
use Rattle.smt_meaning.specs.declared.clauses.Summand.{Summand}
use Rattle.proof_meaning.specs.declared.proof.Weighted.{Weighted}
use Rattle.smt_meaning.specs.Linear.{summand}
use Rattle.linear_forms.specs.Sums.{signed}
use Rattle.proof_terms.specs.Range.{multiplier}
use Rattle.proof_form.specs.declared.farkas_entries.Entry.{Entry}
use Rattle.proof_form.specs.FarkasSums.{signed_sum, multiple, multiple_inside, entry, entries_of, multiples_inside, leaves_inside, leaves_vanish, weighted_sum, constant_multiple, constant_with, parts_inside, entries_with, AfterPart, AfterParts}

-- ---- the entries of a bound

pub record IsMaking (m : Ratio) (positive : Bool) (ps : List Summand) (old : List Entry) (i : ℕ) (new : List Entry) : Type 0 where
  pub inside : multiples_inside m (signed_sum positive ps) ≡ multiples_inside m (signed_sum positive (drop i ps))
  pub made : new ++ entries_of m (signed_sum positive (drop i ps)) ≡ old ++ entries_of m (signed_sum positive ps)

module _ (m : Ratio) (positive : Bool) (ps : List Summand) (old : List Entry) where
  pub making_start : IsMaking m positive ps old 0 old
  making_start = record { inside = refl; made = refl }

  module _ (i : ℕ) (entries : List Entry) (so : IsMaking m positive ps old i entries) where
    pub making_end : length ps ≤ i → (true ≡ multiples_inside m (signed_sum positive ps)) × (entries ≡ old ++ entries_of m (signed_sum positive ps))
    making_end h = (
      sym (so.inside ∙ ap (λ qs. multiples_inside m (signed_sum positive qs)) (drop_all i ps h)),
      sym (append-nil entries) ∙ ap (λ qs. entries ++ entries_of m (signed_sum positive qs)) (sym (drop_all i ps h)) ∙ so.made,
    )

    module _ (d : Summand) (within : i < length ps) (n : ℤ) (turned : n ≡ signed positive (get_or ps i d).coefficient) where
      here : signed_sum positive (drop i ps) ≡ summand (get_or ps i d).term n ∷ signed_sum positive (drop (i + 1) ps)
      here = ap (signed_sum positive) (drop_more ps i d within) ∙ ap (λ z. summand (get_or ps i d).term z ∷ signed_sum positive (drop (i + 1) ps)) (sym turned)

      pub making_fails : multiple_inside m n ≡ false → false ≡ multiples_inside m (signed_sum positive ps)
      making_fails e =
          sym (so.inside ∙ ap (multiples_inside m) here ∙ ap (λ b. b && multiples_inside m (signed_sum positive (drop (i + 1) ps))) e)

      pub making_step : (new : List Entry) → multiple_inside m n ≡ true → new ≡ entries ++ entry (get_or ps i d).term (multiple m n) ∷ [] → IsMaking m positive ps old (i + 1) new
      making_step new e f =
          record {
            inside = so.inside ∙ ap (multiples_inside m) here ∙ ap (λ b. b && multiples_inside m (signed_sum positive (drop (i + 1) ps))) e;
            made =
                ap (λ es. es ++ entries_of m (signed_sum positive (drop (i + 1) ps))) f
                ∙ append_assoc entries (entry (get_or ps i d).term (multiple m n) ∷ []) (entries_of m (signed_sum positive (drop (i + 1) ps)))
                ∙ ap (λ qs. entries ++ entries_of m qs) (sym here)
                ∙ so.made;
          }

-- ---- the parts

pub record AreAdding (ws : List Weighted) (old : List Entry) (i : ℕ) (k : Ratio) (new : List Entry) : Type 0 where
  pub inside : parts_inside (whole (pos 0)) ws ≡ parts_inside k (drop i ws)
  pub constant : constant_with (whole (pos 0)) ws ≡ constant_with k (drop i ws)
  pub made : new ++ entries_with (drop i ws) ≡ old ++ entries_with ws

module _ (ws : List Weighted) (old : List Entry) where
  pub adding_start : AreAdding ws old 0 (whole (pos 0)) old
  adding_start = record { inside = refl; constant = refl; made = refl }

  module _ (i : ℕ) (k : Ratio) (entries : List Entry) (so : AreAdding ws old i k entries) where
    pub adding_end : length ws ≤ i → AfterParts ws old entries (Some k)
    adding_end h = (
      so.inside ∙ ap (parts_inside k) (drop_all i ws h),
      sym (so.constant ∙ ap (constant_with k) (drop_all i ws h)),
      sym (append-nil entries) ∙ ap (λ vs. entries ++ entries_with vs) (sym (drop_all i ws h)) ∙ so.made,
    )

    module _ (w : Weighted) (within : i < length ws) (at : w ≡ get_or ws i w) where
      next_part : drop i ws ≡ w ∷ drop (i + 1) ws
      next_part = drop_more ws i w within ∙ ap (λ v. v ∷ drop (i + 1) ws) (sym at)

      pub adding_fails : (new : List Entry) → AfterPart w k entries new None → parts_inside (whole (pos 0)) ws ≡ false
      adding_fails new e = so.inside ∙ ap (parts_inside k) next_part ∙ ap (λ b. b && parts_inside (sum_of k (constant_multiple w)) (drop (i + 1) ws)) e

      pub adding_step : (new : List Entry) (next : Ratio) → AfterPart w k entries new (Some next) → AreAdding ws old (i + 1) next new
      adding_step new next e =
          record {
            inside =
                so.inside ∙ ap (parts_inside k) next_part ∙ ap (λ b. b && parts_inside (sum_of k (constant_multiple w)) (drop (i + 1) ws)) e.0
                ∙ ap (λ j. parts_inside j (drop (i + 1) ws)) (sym e.1);
            constant = so.constant ∙ ap (constant_with k) next_part ∙ ap (λ j. constant_with j (drop (i + 1) ws)) (sym e.1);
            made =
                ap (λ es. es ++ entries_with (drop (i + 1) ws)) e.2
                ∙ append_assoc entries (entries_of (multiplier w) (weighted_sum w)) (entries_with (drop (i + 1) ws))
                ∙ ap (λ vs. entries ++ entries_with vs) (sym next_part)
                ∙ so.made;
          }

-- ---- leaf by leaf

pub record AreZeroing (es : List Entry) (i : ℕ) (last : ℕ) (sum : Ratio) (vanish : Bool) : Type 0 where
  pub inside : leaves_inside 0 (whole (pos 0)) es ≡ leaves_inside last sum (drop i es)
  pub zero : leaves_vanish 0 (whole (pos 0)) es ≡ (vanish && leaves_vanish last sum (drop i es))
