-- The least value of x on the stack of (assert (<= 5 x)), the best that may be known of it, and inventions.
use Rattle.std.specs.Prelude.{◌≡◌, ℕ, ℤ, pos, ◌≤ℤ◌, List, [], ◌∷◌, Option, Some, None, codes}
use Rattle.smt_meaning.specs.declared.tokens.Token.{Token}
use Rattle.smt_meaning.specs.declared.tokens.Token.TheVariants.{Symbol}
use Rattle.smt_meaning.specs.declared.values.Value.TheVariants.{Whole}
use Rattle.smt_meaning.specs.declared.values.Table.{Table}
use Rattle.smt_meaning.specs.declared.reports.Cause.TheVariants.{Memory}
use Rattle.smt_meaning.specs.declared.reports.Report.{Report}
use Rattle.smt_meaning.specs.declared.replies.Best.{Best}
use Rattle.smt_meaning.specs.Least.{IsMinimum, IsBest, value_in}
use Rattle.report_laws.specs.Five.{x, trees, frames}
use Rattle.report_laws.specs.Cores.{nothing_spent}

abbrev pub text : List Token
text = Symbol (codes "x") ∷ []

-- x has this value
abbrev pub x_is : ℤ → List Table
x_is v = record { symbol = 0; rows = []; default = Whole v } ∷ []

-- ---- least values

abbrev pub FiveIsLeast : Type 0
FiveIsLeast = IsMinimum frames text x (pos 5) (x_is (pos 5))

-- no other number is the least value, the value in some model neither
abbrev pub NothingElseIsLeast : Type 0
NothingElseIsLeast = (v : ℤ) (i : List Table) → IsMinimum frames text x v i → v ≡ pos 5

-- ---- the best that is known

abbrev pub best : Option (List Table) → Option ℤ → List Report → Best
best i b rs = record { model = i; bound = b; reports = rs }

abbrev pub wanted_memory : ℕ → Report
wanted_memory worker = record { worker = worker; cause = Memory; branches = [] }

-- 7 is a value, and for want of memory of one worker, or of both, it isn't known whether 6 or less is one
abbrev pub SevenMayBeBest : Type 0
SevenMayBeBest = (limit : ℤ) → IsBest 1 trees frames limit text x (best (Some (x_is (pos 7))) (Some (pos 6)) (wanted_memory 0 ∷ []))

abbrev pub SevenMayBeBestOfTwo : Type 0
SevenMayBeBestOfTwo = (limit : ℤ) → IsBest 2 trees frames limit text x (best (Some (x_is (pos 7))) (Some (pos 6)) (wanted_memory 0 ∷ wanted_memory 1 ∷ []))

-- one of two workers alone shows nothing, whatever was found
abbrev pub OneOfTwoIsNoBest : Type 0
OneOfTwoIsNoBest = (limit : ℤ) (i : Option (List Table)) (b : Option ℤ) (r : Report) → IsBest 2 trees frames limit text x (best i b (r ∷ [])) → ⊥

-- a bound that the value of the model itself keeps
abbrev pub NoBoundFromAbove : Type 0
NoBoundFromAbove = (workers : ℕ) (limit : ℤ) (i : List Table) (b : ℤ) (rs : List Report) → value_in i x ≤ℤ b → IsBest workers trees frames limit text x (best (Some i) (Some b) rs) → ⊥

-- a model and no bound, though its value isn't the least number of the range
abbrev pub NoModelWithoutBound : Type 0
NoModelWithoutBound = (workers : ℕ) (limit : ℤ) (i : List Table) (rs : List Report) → IsBest workers trees frames limit text x (best (Some i) None rs) → ⊥

-- what isn't a model, as x below 5
abbrev pub NothingBelowFive : Type 0
NothingBelowFive = (workers : ℕ) (limit : ℤ) (i : List Table) (b : Option ℤ) (rs : List Report) → IsBest workers trees frames limit text x (best (Some i) b rs) → pos 5 ≤ℤ value_in i x

-- a worker that spent none of its five units shows nothing, whatever was found and others show
abbrev pub NothingSpentIsNoBest : Type 0
NothingSpentIsNoBest = (workers : ℕ) (i : Option (List Table)) (b : Option ℤ) (others : List Report) → IsBest workers trees frames (pos 5) text x (best i b (nothing_spent ∷ others)) → ⊥
