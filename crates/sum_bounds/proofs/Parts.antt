-- The parts of a sum, with the variables of its terms.
use Rattle.std.proofs.Common.{◌≡◌, ◌≢◌, ℕ, zero, suc, ◌<◌, List, [], ◌∷◌, map, length, get_or, ℤ, pos, negsuc, neg_ℤ, Bool, true, false, ◌&&◌, sym, ap, ap₂, subst, ◌∙◌, refl, arith}
use Rattle.std.proofs.lemmas.List.{get_or-map, length-map}
use Rattle.std.proofs.lemmas.List.Elements.{All-head, All-tail, All-map}
use Rattle.fraction128.specs.declared.ratio.Ratio.{Ratio}
use Rattle.fraction128.specs.Listed.{fused}
use Rattle.fraction128.specs.Number.{whole}
use Rattle.fraction128.specs.Whole.{InRange}
use Rattle.fraction128.specs.declared.Summand.{Summand}
use Rattle.fraction128.specs.declared.Column.{Column}
use Rattle.fraction128.specs.declared.TableRow.{TableRow}
use Rattle.fraction128.specs.Grid.{is_turned, turned, every, fused_fits, written, written_fits, written_variable, variable_of, entries_from, sum_row, no_coefficients, leaf}
use Rattle.tableau.specs.Written.{IsPart, AreParts, parts_written, parts_fit, parts_row}
use Rattle.simplex.specs.Sums.{HaveOwnSums, AreMatched}
use Rattle.simplex_steps.specs.State.{column_in}
use Rattle.sum_bounds.specs.Bounds.{IsSum}
use Rattle.sum_bounds.specs.Written.{part_in, turned_summand, IsKnown, HasLeaf}
use Rattle.sum_bounds.proofs.Sums.{turned_is}
use Rattle.simplex.proofs.Leaves.{leaf_found}

pub has_variable : (cs : List Column) (term : ℕ) → HaveOwnSums cs → HasLeaf cs term → (variable_of cs term < length cs) × ((column_in cs (variable_of cs term)).sum ≡ leaf term)
has_variable cs term apart (i, lt, e) =
    subst (λ n. (n < length cs) × ((column_in cs n).sum ≡ leaf term)) (sym (leaf_found cs term i apart lt e)) (lt, e)

pub are_parts : (cs : List Column) (n : ℕ) (ps : List Summand) → HaveOwnSums cs → length cs ≡ n → IsSum cs ps → AreParts n (map (part_in cs) ps)
are_parts cs n ps apart count h k lt =
    let short : k < length ps = omega (arith, lt, length-map ps (part_in cs)) in
    let d : Summand = record { coefficient = pos 0; term = 0 } in
    let p = get_or ps k d in
    let known = h k d short in
    let v = has_variable cs p.term apart known.leaf in
    subst (IsPart n) (sym (get_or-map (part_in cs) ps k d (record { coefficient = pos 0; variable = 0 }) short))
    (record { known = let l = v.0 in omega (arith, l, count); in_range = known.in_range; nonzero = known.nonzero })

pub are_matched : (cs : List Column) (ps : List Summand) → HaveOwnSums cs → IsSum cs ps → AreMatched cs ps (map (part_in cs) ps)
are_matched cs [] apart h = tt
are_matched cs (p ∷ ps) apart h =
    (refl, (has_variable cs p.term apart (All-head (IsKnown cs) p ps h).leaf).1, are_matched cs ps apart (All-tail (IsKnown cs) p ps h))

pub parts_fit-is : (cs : List Column) (rows : List TableRow) (n : ℕ) (f : ℕ → Ratio) (ps : List Summand) → length cs ≡ n → parts_fit n rows f (map (part_in cs) ps) ≡ written_fits cs rows f ps
parts_fit-is cs rows n f [] count = refl
parts_fit-is cs rows n f (p ∷ ps) count =
    let g : ℕ → Ratio = λ i. fused (f i) (whole p.coefficient) (written_variable rows (variable_of cs p.term) i) in
    ap₂ (λ (a b : Bool). a && b)
    (ap (λ m. every m (λ i. fused_fits (f i) (whole p.coefficient) (written_variable rows (variable_of cs p.term) i))) (sym count))
    (parts_fit-is cs rows n g ps count)

written_is : (cs : List Column) (rows : List TableRow) (f : ℕ → Ratio) (ps : List Summand) → parts_written rows f (map (part_in cs) ps) ≡ written cs rows f ps
written_is cs rows f [] = refl
written_is cs rows f (p ∷ ps) = written_is cs rows (λ i. fused (f i) (whole p.coefficient) (written_variable rows (variable_of cs p.term) i)) ps

pub row_is : (cs : List Column) (rows : List TableRow) (n : ℕ) (ps : List Summand) → length cs ≡ n → parts_row n rows (map (part_in cs) ps) ≡ sum_row cs rows ps
row_is cs rows n ps count =
    ap (λ (g : ℕ → Ratio). let r : TableRow = record { basic = n; entries = entries_from 0 n g } in r) (written_is cs rows no_coefficients ps)
    ∙ ap (λ m. let r : TableRow = record { basic = m; entries = entries_from 0 m (written cs rows no_coefficients ps) } in r) (sym count)

-- ---- turned sums

turned_one : (cs : List Column) (b : Bool) (p : Summand) → IsKnown cs p → IsKnown cs (turned_summand b p)
turned_one cs false p h = record { leaf = h.leaf; in_range = h.in_range; nonzero = h.nonzero }
turned_one cs true p h = record { leaf = h.leaf; in_range = negated_range p.coefficient h.in_range; nonzero = negated_nonzero p.coefficient h.nonzero }
  where
    negated_range : (z : ℤ) → InRange z → InRange (neg_ℤ z)
    negated_range (pos zero) r = r
    negated_range (pos (suc n)) r = r
    negated_range (negsuc n) r = r

    negated_nonzero : (z : ℤ) → z ≢ pos 0 → neg_ℤ z ≢ pos 0
    negated_nonzero (pos zero) h e = h refl
    negated_nonzero (pos (suc n)) h e = cc
    negated_nonzero (negsuc n) h e = let f : suc n ≡ 0 = cc in absurd (omega (arith, f))

pub turned_known : (cs : List Column) (ps qs : List Summand) → qs ≡ turned ps → IsSum cs ps → IsSum cs qs
turned_known cs ps qs e h =
    subst (IsSum cs) (turned_is ps ∙ sym e)
    (All-map (IsKnown cs) (turned_summand (is_turned ps)) ps (λ k d lt. turned_one cs (is_turned ps) (get_or ps k d) (h k d lt)))
