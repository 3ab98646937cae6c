-- The steps that a proof writes.
use Rattle.std.specs.Prelude.{◌≡◌, ℕ, Bool, List, ◌&&◌, Option, Some, None, bytes_eq, codes, if◌then◌else◌}
use Rattle.smt_meaning.specs.declared.tokens.Token.{Token}
use Rattle.smt_meaning.specs.declared.tokens.Token.TheVariants.{Numeral, Symbol}
use Rattle.proof_meaning.specs.declared.proof.Weighted.{Weighted}
use Rattle.proof_meaning.specs.declared.proof.Step.{Step}
use Rattle.proof_meaning.specs.declared.proof.Step.TheVariants as Rule
use Rattle.smt_meaning.specs.Sexp.{Sexp, Sexps, word, group, end, ◌▸◌}
use Rattle.smt_meaning.specs.Sorts.{decimal}
use Rattle.proof_meaning.specs.Reading.{with, number}
use Rattle.proof_read.specs.Written.{is_small, atom_fits}
use Rattle.look_ahead.specs.Ahead.{ahead}
use Rattle.proof_read.specs.declared.read_parts.Progress.{Progress}
use Rattle.proof_read.specs.Reads.{is_step_number, atom_near}
use Rattle.proof_read.specs.ReadParts.{Takes, any}
use Rattle.proof_read.specs.declared.read_names.StepName.{StepName}
use Rattle.proof_read.specs.declared.read_names.StepName.TheVariants.{Assert, Pick, Euclid, Refl, Sym, Trans, Cong, Truth, Both, Neither, Link}
use Rattle.proof_read.specs.declared.read_steps.Multiplier.{Multiplier}

-- ---- numbers, and no more

abbrev pub one_in : Sexps → Option ℕ
one_in (i ▸ end) = number i
one_in _ = None

abbrev pub two_in : Sexps → Option (ℕ × ℕ)
two_in (i ▸ j ▸ end) = with (number i) (λ a. with (number j) (λ b. Some (a, b)))
two_in _ = None

abbrev pub three_in : Sexps → Option (ℕ × ℕ × ℕ)
three_in (i ▸ j ▸ k ▸ end) = with (number i) (λ a. with (number j) (λ b. with (number k) (λ c. Some (a, b, c))))
three_in _ = None

abbrev pub both : (ℕ → Bool) → (ℕ → Bool) → ℕ × ℕ → Bool
both p q x = p x.0 && q x.1

abbrev pub all_three : (ℕ → Bool) → (ℕ → Bool) → (ℕ → Bool) → ℕ × ℕ × ℕ → Bool
all_three p q r x = p x.0 && (q x.1 && r x.2)

-- the numbers of two steps, whatever follows them
abbrev pub two_first : Sexps → Option (ℕ × ℕ)
two_first (i ▸ j ▸ ss) = with (number i) (λ a. with (number j) (λ b. Some (a, b)))
two_first _ = None

pub record TakesBoth (ts : List Token) (old : Progress) (a b : ℕ) (new : Progress) : Type 0 where
  pub middle : Progress
  pub first : Takes ts number any is_step_number old a middle
  pub second : Takes ts number any is_step_number middle b new

abbrev pub TakesTwo : List Token → Progress → Progress → Option (ℕ × ℕ) → Type 0
TakesTwo ts old new None = two_first (ahead ts old.place) ≡ None
TakesTwo ts old new (Some p) = TakesBoth ts old p.0 p.1 new

-- ---- steps that write numbers of terms and clauses alone

abbrev pub pair_named : StepName → ℕ → ℕ → Option Step
pair_named Sym i j = Some (Rule.Sym i j)
pair_named Cong i j = Some (Rule.Cong i j)
pair_named Truth i j = Some (Rule.Truth i j)
pair_named Both i j = Some (Rule.Both i j)
pair_named Neither i j = Some (Rule.Neither i j)
pair_named _ i j = None

abbrev pub pair_form : StepName → Sexps → Option Step
pair_form name ss = with (two_in ss) (λ x. pair_named name x.0 x.1)

abbrev pub plain_form : StepName → Sexps → Option Step
plain_form Assert ss = with (two_in ss) (λ x. Some (Rule.Assert x.0 x.1))
plain_form Pick ss = with (two_in ss) (λ x. Some (Rule.Pick x.0 x.1))
plain_form Euclid ss = with (two_in ss) (λ x. Some (Rule.Euclid x.0 x.1))
plain_form Refl ss = with (one_in ss) (λ x. Some (Rule.Refl x))
plain_form Trans ss = with (three_in ss) (λ x. Some (Rule.Trans x.0 x.1 x.2))
plain_form Link ss = with (three_in ss) (λ x. Some (Rule.Link x.0 x.1 x.2))
plain_form name ss = pair_form name ss

-- ---- multiples of bounds

-- a quotient, from behind its parenthesis
abbrev pub quotient_in : Sexps → Option Multiplier
quotient_in (word (Symbol n) ▸ a ▸ b ▸ end) =
    if bytes_eq n (codes "/") then with (number a) (λ p. with (number b) (λ q. Some (record { numerator = p; denominator = q }))) else None
quotient_in _ = None

abbrev pub multiplier_in : Sexp → Option Multiplier
multiplier_in (word (Numeral cs)) = Some (record { numerator = decimal cs; denominator = 1 })
multiplier_in (group ss) = quotient_in ss
multiplier_in _ = None

abbrev pub multiplier_fits : Multiplier → Bool
multiplier_fits m = is_small m.numerator && is_small m.denominator

abbrev pub weighted_fits : Weighted → Bool
weighted_fits w = is_small w.numerator && (is_small w.denominator && atom_fits w.literal.atom)

abbrev pub weighted_near : Weighted → Bool
weighted_near w = atom_near w.literal.atom
