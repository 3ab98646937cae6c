-- The whole numbers as a ring.
use Rattle.std.proofs.Common.{◌≡◌, ℤ, pos, ◌+ℤ◌, ◌*ℤ◌, neg_ℤ, arith}
use Rattle.std.proofs.Math.IntN.{*ℤ_comm}
use Rattle.std.proofs.lemmas.Int.{ints}
use Rattle.fraction128.proofs.Ring.{times-sum, times_assoc}
use Rattle.fraction128.proofs.RingEquations.{Ring}

abbrev pub wholes : Ring ℤ
wholes =
    record {
      add = ◌+ℤ◌;
      mul = ◌*ℤ◌;
      neg = neg_ℤ;
      none = pos 0;
      one = pos 1;
      add_comm = add_comm;
      add_assoc = add_assoc;
      add_none = add_none;
      add_neg = add_neg;
      mul_comm = *ℤ_comm;
      mul_assoc = times_assoc;
      mul_one = mul_one;
      mul_add = λ a b c. times-sum a b c;
    }
  where
    add_comm : (a b : ℤ) → a +ℤ b ≡ b +ℤ a
    add_comm a b = omega (arith, ints)

    add_assoc : (a b c : ℤ) → (a +ℤ b) +ℤ c ≡ a +ℤ (b +ℤ c)
    add_assoc a b c = omega (arith, ints)

    add_none : (a : ℤ) → a +ℤ pos 0 ≡ a
    add_none a = omega (arith, ints)

    add_neg : (a : ℤ) → a +ℤ neg_ℤ a ≡ pos 0
    add_neg a = omega (arith, ints)

    mul_one : (a : ℤ) → a *ℤ pos 1 ≡ a
    mul_one a = omega (arith, ints)
