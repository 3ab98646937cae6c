-- The number that a typed getter reads from a text that its parser took.
use Rattle.std.proofs.Common.{◌≡◌, ◌<◌, ◌≤◌, ◌^◌, ℕ, List, Option, Some, None, Result, Ok, Err, refl, arith, pos, subst}
use Rattle.std.specs.Str.Parse.{ParsesUnsigned, digits_value, without_leading_plus}
use Rattle.clap.specs.Lexer.{without_minus}
use Rattle.clap.specs.Matches.{ReadsOne}
use Rattle.clap.specs.Values.{IsSignedIn, IsUnsignedIn}
use Rattle.clap.proofs.CallerReads.{signed_reads}

-- the getter read the number that the text u says, within these bounds
pub record Reads (u : List ℕ) (low high : ℕ) (r : Option ℕ) : Type 0 where
  pub number : ℕ
  pub is : r ≡ Some number
  pub value : number ≡ digits_value 10 (without_leading_plus u)
  pub least : low ≤ number
  pub most : number ≤ high

module _ (E : Type 0) (G : List ℕ → Result ℕ E → Type 0) (k : ℕ) (only : (u : List ℕ) (x : Result ℕ E) → G u x → ParsesUnsigned k 10 u x) where
  value_of : (u : List ℕ) (r : Option ℕ) (n : ℕ) → ReadsOne G u r → r ≡ Some n → n ≡ digits_value 10 (without_leading_plus u)
  value_of u r n read is =
      let here : ReadsOne G u (Some n) = subst (λ (o : Option ℕ). ReadsOne G u o) is read in
      (only u (Ok n) here).1

  -- a parser of numbers that aren't negative, of the bounds low and high
  pub from_signed : (low high : ℕ) (t : List ℕ) (r : Option ℕ) → ReadsOne G (without_minus t) r → high < 2 ^ k → IsSignedIn (pos low) (pos high) t → Reads (without_minus t) low high r
  from_signed low high t r read fits passed =
      let got = signed_reads E G k low high t r read only fits passed in
      record { number = got.0; is = got.1; value = value_of (without_minus t) r got.0 read got.1; least = got.2; most = got.3 }

  -- a parser of unsigned numbers
  pub from_unsigned : (low high : ℕ) (t : List ℕ) (r : Option ℕ) → ReadsOne G t r → high < 2 ^ k → IsUnsignedIn low high t → Reads t low high r
  from_unsigned low high t (Some n) read fits passed =
      let is : n ≡ digits_value 10 (without_leading_plus t) = (only t (Ok n) read).1 in
      record { number = n; is = refl; value = is; least = rw is passed.2; most = rw is passed.3 }
  from_unsigned low high t None read fits passed = absurd (only t (Err read.0) read.1 (passed.0, omega (arith, passed.3)))
