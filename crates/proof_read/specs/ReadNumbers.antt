-- The numbers that a proof writes.
use Rattle.std.specs.Prelude.{◌≡◌, ℕ, ℤ, ◌+◌, ◌<◌, ◌≤◌, Bool, List, Option, Some, None, nat_lt, bytes_eq, codes, if◌then◌else◌}
use Rattle.fraction128.specs.Whole.{is_in_range}
use Rattle.smt_meaning.specs.declared.tokens.Token.TheVariants.{Numeral, Symbol}
use Rattle.smt_meaning.specs.Sexp.{Sexp, word, group, end, ◌▸◌}
use Rattle.smt_meaning.specs.Sorts.{decimal}
use Rattle.proof_meaning.specs.Reading.{below_zero}
use Rattle.proof_read.specs.declared.read_parts.Progress.{Progress}
use Rattle.proof_read.specs.ReadParts.{Notes, any}

-- the number that digits write, where it is below a bound
abbrev pub WrittenBelow : ℕ → List ℕ → Option ℕ → Type 0
WrittenBelow most cs None = most ≤ decimal cs
WrittenBelow most cs (Some n) = (n ≡ decimal cs) × (n < most)

-- a number of what there is at most so much of
abbrev pub is_up_to : ℕ → ℕ → Bool
is_up_to most n = nat_lt n (most + 1)

-- (- n)
abbrev pub integer_in_list : Sexp → Option ℤ
integer_in_list (group (word (Symbol n) ▸ word (Numeral cs) ▸ end)) = if bytes_eq n (codes "-") then below_zero (decimal cs) else None
integer_in_list _ = None

-- a number below 0, if one is written
abbrev pub NotesNegative : Option ℤ → Progress → Progress → Option ℤ → Type 0
NotesNegative o old new None = o ≡ None
NotesNegative o old new (Some v) = (n : ℤ) × (o ≡ Some n) × Notes is_in_range any old v new n
