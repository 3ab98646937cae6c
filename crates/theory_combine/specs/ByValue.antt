-- Ints among the arguments of a `distinct`, in the order of the numbers that they are given. No public contract speaks of it.
use Rattle.std.specs.Prelude.{◌≡◌, ℕ, ◌<◌, List, length, slice_index_or, All, Contains, ℤ, pos}
use Rattle.std.specs.declared.cmp.Ordering.{Ordering}
use Rattle.std.specs.Ordering.{ordering_then, nat_cmp, int_cmp}
use Rattle.smt_meaning.specs.Term.{number_of}
use Rattle.model_build.specs.declared.given.Given.{Given}
use Rattle.model_build.specs.declared.given.Given.TheVariants.{Unmarked, InRange, PastRange}
use Rattle.model_build.specs.Given.{given_at}
use Rattle.theory_combine.specs.declared.distincts.IntArgument.{IntArgument}
use Rattle.theory_combine.specs.declared.parts.Parts.{Parts}
use Rattle.theory_combine.specs.declared.parts.Progress.{Progress}
use Rattle.theory_combine.specs.Pairs.{IsFit}
use Rattle.theory_combine.specs.Settling.{AreTellable}

-- the number that a place is given; of one that is given none in the range it is 0
abbrev pub number_given : Given → ℤ
number_given Unmarked = pos 0
number_given (InRange v) = number_of v
number_given PastRange = pos 0

-- the argument of this number, with the number that it is given
abbrev pub int_argument : List Given → List ℕ → ℕ → IntArgument
int_argument gs is j = record { value = number_given (given_at gs (slice_index_or is j 0)); number = j }

-- these are of the arguments, and each marked Int among the first so many of those is one
pub record AreIntsAmong (p : Parts) (gs : List Given) (is : List ℕ) (count : ℕ) (xs : List IntArgument) : Type 0 where
  pub within : All (λ (x : IntArgument). x.number < length is) xs
  pub each : (j : ℕ) → j < count → IsFit p.stack.now p.marks.items (slice_index_or is j 0) → Contains xs (int_argument gs is j)

-- by the number given, and then by their own
abbrev pub argument_cmp : IntArgument → IntArgument → Ordering
argument_cmp x y = ordering_then (int_cmp x.value y.value) (nat_cmp x.number y.number)

abbrev pub argument_at : List IntArgument → ℕ → IntArgument
argument_at xs a = slice_index_or xs a (record { value = pos 0; number = 0 })

-- two of one number are given different values, or their equality has a number
abbrev pub AreTellableAt : Parts → Progress → List Given → List ℕ → IntArgument → IntArgument → Type 0
AreTellableAt p w gs is x y = x.value ≡ y.value → AreTellable p w gs (slice_index_or is x.number 0) (slice_index_or is y.number 0)

-- so are each one before this one and it
abbrev pub AreTellableBefore : Parts → Progress → List Given → List ℕ → List IntArgument → ℕ → Type 0
AreTellableBefore p w gs is xs b = (a : ℕ) → a < b → AreTellableAt p w gs is (argument_at xs a) (argument_at xs b)
