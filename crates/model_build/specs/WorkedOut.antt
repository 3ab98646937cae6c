-- What numerals, sums, differences and products are given.
use Rattle.std.specs.Prelude.{◌≡◌, ℕ, ◌<◌, Bool, true, false, List, [], ◌∷◌, map, All, Option, Some, None, ℤ, pos, ◌+ℤ◌, ◌-ℤ◌, ◌*ℤ◌, if◌then◌else◌}
use Rattle.fraction128.specs.Whole.{is_in_range}
use Rattle.smt_meaning.specs.declared.values.Value.{Value}
use Rattle.smt_meaning.specs.declared.values.Value.TheVariants.{Truth, Whole, Element}
use Rattle.smt_meaning.specs.declared.values.Sort.TheVariants.{Int as Ints}
use Rattle.smt_meaning.specs.declared.terms.Operator.{Operator}
use Rattle.smt_meaning.specs.declared.terms.Operator.TheVariants.{Add, Subtract, Multiply}
use Rattle.smt_meaning.specs.declared.terms.Head.{Head}
use Rattle.smt_meaning.specs.declared.terms.Head.TheVariants.{Numeral, Theory}
use Rattle.smt_meaning.specs.Declaration.{Declaration}
use Rattle.smt_meaning.specs.Term.{Tree, tree_at}
use Rattle.smt_meaning.specs.Signature.{tree_sort}
use Rattle.term_store.specs.Terms.{tree_with}
use Rattle.model_build.specs.declared.given.Given.{Given}
use Rattle.model_build.specs.declared.given.Given.TheVariants.{Unmarked, InRange, PastRange}
use Rattle.model_build.specs.Given.{given_at}
use Rattle.check_atoms.specs.Parts.{IsMarked}

-- the value isn't chosen: it is a numeral's, or made of those of the arguments
abbrev pub is_worked_out : Head → Bool
is_worked_out (Numeral n) = true
is_worked_out (Theory Add) = true
is_worked_out (Theory Subtract) = true
is_worked_out (Theory Multiply) = true
is_worked_out _ = false

-- ---- numbers within the range

abbrev pub kept : ℤ → Option ℤ
kept n = if is_in_range n then Some n else None

abbrev pub value_number : Value → Option ℤ
value_number (Whole n) = Some n
value_number (Truth b) = None
value_number (Element e) = None

abbrev pub given_number : Given → Option ℤ
given_number Unmarked = None
given_number (InRange v) = value_number v
given_number PastRange = None

-- the number, or past the range
abbrev pub number_given : Option ℤ → Given
number_given (Some n) = if is_in_range n then InRange (Whole n) else PastRange
number_given None = PastRange

-- ---- operators, from the left

abbrev pub combined : Operator → ℤ → ℤ → ℤ
combined Add m n = m +ℤ n
combined Subtract m n = m -ℤ n
combined _ m n = m *ℤ n

abbrev pub combined_with : Operator → ℤ → Option ℤ → Option ℤ
combined_with o m None = None
combined_with o m (Some n) = kept (combined o m n)

abbrev pub stepped : Operator → Option ℤ → Given → Option ℤ
stepped o None g = None
stepped o (Some m) g = combined_with o m (given_number g)

-- none where an argument or a partial result is past the range
abbrev pub folded : Operator → Option ℤ → List Given → Option ℤ
folded o m [] = m
folded o m (g ∷ gs) = folded o (stepped o m g) gs

-- of one argument: it, or its negation
abbrev pub alone : Operator → Given → Option ℤ
alone Subtract g = stepped Subtract (Some (pos 0)) g
alone _ g = given_number g

abbrev pub operated : Operator → List Given → Option ℤ
operated o [] = None
operated o (g ∷ []) = alone o g
operated o (g ∷ h ∷ gs) = folded o (given_number g) (h ∷ gs)

-- what an Int is given by its head and by what its arguments are given
abbrev pub worked_out : Head → List Given → Given
worked_out (Numeral n) gs = number_given (Some n)
worked_out (Theory o) gs = number_given (operated o gs)
worked_out _ gs = PastRange

-- ---- at a place

pub record IsWorkedOut (trees : List Tree) (gs : List Given) (p : ℕ) : Type 0 where
  pub head : Head
  pub arguments : List ℕ
  pub tree : tree_at trees p ≡ tree_with trees head arguments
  pub earlier : All (λ i. i < p) arguments
  pub is_made : is_worked_out head ≡ true → given_at gs p ≡ worked_out head (map (given_at gs) arguments)

-- each marked Int whose value isn't chosen is given what its head makes of what its arguments are given
abbrev pub AreWorkedOut : List Declaration → List Tree → List Bool → List Given → Type 0
AreWorkedOut ds trees marks gs = (p : ℕ) → IsMarked marks p → tree_sort ds (tree_at trees p) ≡ Some Ints → IsWorkedOut trees gs p
