-- Integers that are read.
use Rattle.std.proofs.Common.{◌≡◌, ℕ, ℤ, zero, suc, pos, negsuc, ◌-ℤ◌, ◌^◌, ◌<◌, ◌≤◌, false, Some, ap, sym, ◌∙◌, refl, arith, List}
use mir.Syntax.{w128}
use mir.Val.{to_z, of_z}
use Rattle.std.proofs.lemmas.Int.{ints}
use Rattle.std.proofs.lemmas.Bool.{le-ltb, lt-ltb}
use Rattle.fraction128.specs.Whole.{is_in_range}
use Rattle.smt_meaning.specs.declared.tokens.Token.{Token}
use Rattle.smt_meaning.specs.declared.tokens.Token.TheVariants.{Numeral}
use Rattle.smt_meaning.specs.Sorts.{decimal}
use Rattle.proof_meaning.specs.Reading.{below_zero, integer}
use Rattle.proof_read.specs.declared.read_parts.Progress.{Progress}
use Rattle.proof_read.specs.ReadParts.{Notes, Takes, Passes, any}
use Rattle.proof_read.proofs.ReadNumberLemmas.{takes_numeral}
use Rattle.proof_read.proofs.ReadLemmas.{notes_exact, notes_large, notes_moved}

negated_is : (m : ℕ) → suc m < 2 ^ 127 → to_z w128 (of_z w128 (pos 0 -ℤ to_z w128 (suc m))) ≡ negsuc m
negated_is m h = omega (arith, ints)

pub below_zero_small : (d n : ℕ) (p : Progress) → n ≡ d → (n ≡ 0 → ⊥) → n < 2 ^ 127
    → (x : ℤ) × (below_zero d ≡ Some x) × Notes is_in_range any p (to_z w128 (of_z w128 (pos 0 -ℤ to_z w128 n))) p x
below_zero_small zero n p e f h = absurd (f e)
below_zero_small (suc m) n p e f h =
    let in_range : suc m < 2 ^ 127 = omega (arith, e, h) in (
      negsuc m,
      refl,
      notes_exact is_in_range any p p (to_z w128 (of_z w128 (pos 0 -ℤ to_z w128 n))) (negsuc m) refl refl (lt-ltb (suc m) (2 ^ 127) in_range) refl
          (ap (λ k. to_z w128 (of_z w128 (pos 0 -ℤ to_z w128 k))) e ∙ negated_is m in_range),
    )

pub below_zero_large : (d : ℕ) (p : Progress) (v : ℤ) → 2 ^ 127 ≤ d → (x : ℤ) × (below_zero d ≡ Some x) × Notes is_in_range any p v (record p { fits = false }) x
below_zero_large zero p v h = absurd (omega arith)
below_zero_large (suc m) p v h =
    (negsuc m, refl, notes_large is_in_range any p (record p { fits = false }) v (negsuc m) refl refl (le-ltb (suc m) (2 ^ 127) h) refl)

-- an integer from 0 on
pub takes_integer : (ts : List Token) (old mid new : Progress) (cs : List ℕ) (v : ℤ) → Passes ts old mid (Numeral cs) → new.place ≡ mid.place → Notes is_in_range any mid v new (pos (decimal cs))
    → Takes ts integer is_in_range any old v new
takes_integer ts old mid new cs v h e k =
    takes_numeral ts integer is_in_range any old mid new cs v (pos (decimal cs)) h e refl
    (notes_moved is_in_range any mid old new new v (pos (decimal cs)) (sym (ap (λ (p : Progress). p.fits) h.stepped_is)) (sym (ap (λ (p : Progress). p.near) h.stepped_is)) refl refl k)
