-- What operators make of exact values.
use Rattle.std.specs.Prelude.{◌≡◌, ℕ, ◌≤◌, List, map}
use Rattle.smt_meaning.specs.declared.values.Value.{Value}
use Rattle.smt_meaning.specs.declared.terms.Operator.{Operator}
use Rattle.smt_meaning.specs.declared.terms.Operator.TheVariants.{Subtract}
use Rattle.smt_meaning.specs.Term.{Tree, operate}
use Rattle.exact_model.specs.Exact.{exact_at}

-- the exact values of the terms at these places
abbrev pub all_exact : List Tree → List Value → List ℕ → List Value
all_exact ts vs is = map (exact_at ts vs) is

-- the term at the place has the value that its operator makes of those of its arguments
abbrev pub HasValueOf : List Tree → List Value → ℕ → Operator → List ℕ → Type 0
HasValueOf ts vs p o is = exact_at ts vs p ≡ operate o (all_exact ts vs is)

-- ---- no public contract speaks of it

-- how many arguments a sum, a difference or a product needs
abbrev pub HasArguments : Operator → ℕ → Type 0
HasArguments Subtract count = 1 ≤ count
HasArguments _ count = 2 ≤ count
