-- The numbers that digits write.
use Rattle.std.proofs.Common.{to_z, of_z, Option, Some, Ok, Err, cond, inl, inr, ◌^◌, ◌≡◌, ℕ, ◌+◌, ◌-◌, ◌*◌, ◌<◌, ◌≤◌, suc, List, [], ◌∷◌, get_or, drop, length, sym, ap, ◌∙◌, arith, Bool, true, false, subst, refl, nat_lt}
use Rattle.std.proofs.Math.Seq.{drop-cons}
use Rattle.std.specs.Prelude.{ℤ, pos}
use mir.Syntax.{w128}
use Rattle.std.proofs.lemmas.Bool.{cases_lt, le-ltb, lt-ltb}
use Rattle.fraction128.specs.Whole.{InRange}
use Rattle.fraction128.proofs.Integers.{same_bits}
use Rattle.smt_meaning.specs.declared.refusals.Refusal.{Refusal}
use Rattle.smt_meaning.specs.declared.refusals.Refusal.TheVariants.{NumeralTooLarge}
use Rattle.smt_command.specs.Values.{small_number}
use Rattle.smt_meaning.specs.declared.tokens.Token.{Token}
use Rattle.smt_meaning.specs.declared.tokens.Token.TheVariants.{Numeral}
use Rattle.smt_meaning.specs.Sexp.{Sexp, word, ◌▸◌}
use Rattle.smt_meaning.specs.Sorts.{decimal, decimal_from}
use Rattle.proof_meaning.specs.Reading.{number}
use Rattle.look_ahead.specs.Ahead.{ahead}
use Rattle.proof_read.specs.declared.read_parts.Progress.{Progress}
use Rattle.proof_read.specs.ReadParts.{Notes, Takes, Passes, any}
use Rattle.proof_read.proofs.ReadLemmas.{notes_exact, notes_far, notes_large}

-- more digits write no smaller number
pub not_smaller : (cs : List ℕ) (n : ℕ) → n ≤ decimal_from n cs
not_smaller [] n = omega arith
not_smaller (c ∷ cs) n = omega (arith, not_smaller cs (10 * n + (c - 48)))

with_first : (cs : List ℕ) (i n : ℕ) → i < length cs → decimal_from n (drop i cs) ≡ decimal_from (10 * n + (get_or cs i 0 - 48)) (drop (suc i) cs)
with_first cs i n h = ap (decimal_from n) (drop-cons cs i 0 h)

-- it stays above a bound
pub stays_above : (most : ℕ) (cs : List ℕ) (i n : ℕ) → i < length cs → decimal_from n (drop i cs) ≡ decimal cs → most ≤ 10 * n + (get_or cs i 0 - 48) → most ≤ decimal cs
stays_above most cs i n h e k =
    let f = with_first cs i n h in
    let g = not_smaller (drop (suc i) cs) (10 * n + (get_or cs i 0 - 48)) in
    omega (arith, e, f, g, k)

-- ---- numbers of the range

small_is : (cs : List ℕ) → decimal cs < 2 ^ 127 → small_number cs ≡ Ok (pos (decimal cs))
unfolding small_number
small_is cs h = ap (λ b. cond b (Ok (pos (decimal cs))) (Err NumeralTooLarge)) (lt-ltb (decimal cs) (2 ^ 127) h)

large_is : (cs : List ℕ) → 2 ^ 127 ≤ decimal cs → small_number cs ≡ Err NumeralTooLarge
unfolding small_number
large_is cs h = ap (λ b. cond b (Ok (pos (decimal cs))) (Err NumeralTooLarge)) (le-ltb (decimal cs) (2 ^ 127) h)

pub written_small : (cs : List ℕ) (n : ℤ) → Ok n ≡ small_number cs → (n ≡ pos (decimal cs)) × (decimal cs < 2 ^ 127)
written_small cs n h =
    elim (cases_lt (decimal cs) (2 ^ 127)) [
      | inl less ↦ let e : Ok n ≡ Ok (pos (decimal cs)) = h ∙ small_is cs less in let f : n ≡ pos (decimal cs) = cc in (f, less)
      | inr above ↦ let e : Ok n ≡ Err NumeralTooLarge = h ∙ large_is cs above in absurd cc
    ]

pub written_large : (cs : List ℕ) (e : Refusal) → Err e ≡ small_number cs → 2 ^ 127 ≤ decimal cs
written_large cs e h =
    elim (cases_lt (decimal cs) (2 ^ 127)) [
      | inl less ↦ let f : Err e ≡ Ok (pos (decimal cs)) = h ∙ small_is cs less in absurd cc
      | inr above ↦ above
    ]

pub same_number : (z : ℤ) (n : ℕ) → z ≡ pos n → n < 2 ^ 127 → to_z w128 (of_z w128 z) ≡ pos n
same_number z n e h = same_bits z (subst InRange (sym e) h) ∙ e

-- ---- numbers that are read

-- what the digits of a numeral are read as
pub takes_numeral : {A : Type 0} (ts : List Token) (f : Sexp → Option A) (fits near : A → Bool) (old mid new : Progress) (cs : List ℕ) (v w : A) → Passes ts old mid (Numeral cs) → new.place ≡ mid.place
    → f (word (Numeral cs)) ≡ Some w → Notes fits near old v new w → Takes ts f fits near old v new
takes_numeral {A = A} ts f fits near old mid new cs v w h e r k =
    let next : new.place ≡ old.place + 1 = e ∙ ap (λ (p : Progress). p.place) h.stepped_is in
    let inside : old.place < length ts = h.within in record {
      order = omega arith;
      within = omega arith;
      part = word (Numeral cs);
      is = h.is ∙ ap (λ i. word (Numeral cs) ▸ ahead ts i) (sym next);
      written = w;
      read = r;
      notes = k;
    }

takes_number : (ts : List Token) (fits near : ℕ → Bool) (old mid new : Progress) (cs : List ℕ) (v : ℕ) → Passes ts old mid (Numeral cs) → new.place ≡ mid.place
    → Notes fits near old v new (decimal cs) → Takes ts number fits near old v new
takes_number ts fits near old mid new cs v h e k = takes_numeral ts number fits near old mid new cs v (decimal cs) h e refl k

-- a number below the bound
pub takes_below : (ts : List Token) (fits near : ℕ → Bool) (old mid : Progress) (cs : List ℕ) (v : ℕ) → Passes ts old mid (Numeral cs) → fits (decimal cs) ≡ true → near (decimal cs) ≡ true
    → v ≡ decimal cs → Takes ts number fits near old v mid
takes_below ts fits near old mid cs v h e f g =
    takes_number ts fits near old mid mid cs v h refl
    (notes_exact fits near old mid v (decimal cs) (ap (λ (p : Progress). p.fits) h.stepped_is) (ap (λ (p : Progress). p.near) h.stepped_is) e f g)

pub takes_far : (ts : List Token) (near : ℕ → Bool) (old mid : Progress) (cs : List ℕ) → Passes ts old mid (Numeral cs) → near (decimal cs) ≡ false
    → Takes ts number any near old 0 (record mid { near = false })
takes_far ts near old mid cs h f =
    takes_number ts any near old mid (record mid { near = false }) cs 0 h refl
    (notes_far any near old (record mid { near = false }) 0 (decimal cs) (ap (λ (p : Progress). p.fits) h.stepped_is) refl refl f)

pub takes_large : (ts : List Token) (fits : ℕ → Bool) (old mid : Progress) (cs : List ℕ) → Passes ts old mid (Numeral cs) → fits (decimal cs) ≡ false
    → Takes ts number fits any old 0 (record mid { fits = false })
takes_large ts fits old mid cs h f =
    takes_number ts fits any old mid (record mid { fits = false }) cs 0 h refl
    (notes_large fits any old (record mid { fits = false }) 0 (decimal cs) refl (ap (λ (p : Progress). p.near) h.stepped_is) f refl)

pub is_below : (m n v : ℕ) → v ≡ n → v < m → nat_lt n m ≡ true
is_below m n v e h = subst (λ x. nat_lt x m ≡ true) e (lt-ltb v m h)

pub is_not_below : (m n : ℕ) → m ≤ n → nat_lt n m ≡ false
is_not_below m n h = le-ltb n m h
