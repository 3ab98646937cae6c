use Rattle.std.proofs.Common.{◌≡◌, ℕ, ◌+◌, ◌-◌, ◌*◌, ◌^◌, ◌<◌, ◌≤◌, suc, List, [], ◌∷◌, get_or, drop, length, cond, Ok, Err, pos, sym, ap, ◌∙◌, arith}
use mir.Syntax.{w128}
use Rattle.std.proofs.lemmas.Bool.{le-ltb, lt-ltb}
use Rattle.std.proofs.lemmas.Int.{to_z_pos}
use Rattle.std.proofs.Math.Seq.{drop-cons}
use Rattle.std.proofs.Math.ListN.{drop_of_length-le}
use Rattle.smt_meaning.specs.declared.refusals.Refusal.TheVariants.{NumeralTooLarge}
use Rattle.smt_meaning.specs.Sorts.{decimal, decimal_from}
use Rattle.smt_command.specs.Values.{small_number}
use Rattle.smt_command.proofs.number.number.Goals as goal

-- more digits write no smaller number
not_smaller : (cs : List ℕ) (n : ℕ) → n ≤ decimal_from n cs
not_smaller [] n = omega arith
not_smaller (c ∷ cs) n = omega (arith, not_smaller cs (10 * n + (c - 48)))

with_first : (cs : List ℕ) (i n : ℕ) → i < length cs → decimal_from n (drop i cs) ≡ decimal_from (10 * n + (get_or cs i 0 - 48)) (drop (suc i) cs)
with_first cs i n h = ap (decimal_from n) (drop-cons cs i 0 h)

too_large : (cs : List ℕ) → 2 ^ 127 ≤ decimal cs → Err NumeralTooLarge ≡ small_number cs
unfolding small_number
too_large cs h = sym (ap (λ b. cond b (Ok (pos (decimal cs))) (Err NumeralTooLarge)) (le-ltb (decimal cs) (2 ^ 127) h))

small : (cs : List ℕ) → decimal cs < 2 ^ 127 → Ok (pos (decimal cs)) ≡ small_number cs
unfolding small_number
small cs h = sym (ap (λ b. cond b (Ok (pos (decimal cs))) (Err NumeralTooLarge)) (lt-ltb (decimal cs) (2 ^ 127) h))

pub returns-in-None : goal.returns-in-None
returns-in-None c =
    let l = c.loop-digit in
    let cs = c.args.digits.now in
    let rest = drop (suc l.digit-index) cs in
    let next = 10 * l.number + (get_or cs l.digit-index 0 - 48) in
    too_large cs (omega (arith, l.invariant.0, with_first cs l.digit-index l.number c.loop-digit-test.true, not_smaller rest next, c.in-None.ensures))

pub returns : goal.returns
returns c =
    let l = c.loop-digit in
    let cs = c.args.digits.now in
    let e : l.number ≡ decimal cs = sym (ap (decimal_from l.number) (drop_of_length-le cs c.loop-digit-test.false)) ∙ l.invariant.0 in
    let h : decimal cs < 2 ^ 127 = omega (arith, e, l.invariant.1) in
    ap Ok (to_z_pos w128 l.number l.invariant.1 ∙ ap pos e) ∙ small cs h
