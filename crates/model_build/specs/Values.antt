-- What places are given by lists of values.
use Rattle.std.specs.Prelude.{◌≡◌, ℕ, ◌<◌, ◌^◌, ◌-◌, Bool, true, false, List, length, map, All, Some, ℤ, pos, neg_ℤ, slice_index_or, if◌then◌else◌}
use Rattle.fraction128.specs.Whole.{is_in_range}
use Rattle.smt_meaning.specs.declared.values.Value.{Value}
use Rattle.smt_meaning.specs.declared.values.Value.TheVariants.{Truth, Whole, Element}
use Rattle.smt_meaning.specs.declared.values.Sort.{Sort}
use Rattle.smt_meaning.specs.declared.values.Sort.TheVariants.{Bool as Truths, Int as Ints, Free}
use Rattle.smt_meaning.specs.declared.terms.Head.{Head}
use Rattle.smt_meaning.specs.Declaration.{Declaration}
use Rattle.smt_meaning.specs.Term.{Tree, tree_at}
use Rattle.smt_meaning.specs.Signature.{tree_sort}
use Rattle.term_store.specs.Terms.{tree_with}
use Rattle.model_build.specs.declared.given.Given.{Given}
use Rattle.model_build.specs.declared.given.Given.TheVariants.{Unmarked, InRange}
use Rattle.model_build.specs.Given.{given_at, head_of}
use Rattle.model_build.specs.Building.{is_given_of}
use Rattle.check_atoms.specs.Parts.{IsMarked}
use Rattle.model_build.specs.WorkedOut.{is_worked_out, worked_out, IsWorkedOut}

-- the number, or the least in the range
abbrev pub in_the_range : ℤ → ℤ
in_the_range n = if is_in_range n then n else neg_ℤ (pos (2 ^ 127 - 1))

-- the value that is chosen for a place, by its term's sort
abbrev pub chosen : List Bool → List ℤ → List ℕ → Sort → ℕ → Value
chosen truths numbers elements Truths p = Truth (slice_index_or truths p false)
chosen truths numbers elements Ints p = Whole (in_the_range (slice_index_or numbers p (pos 0)))
chosen truths numbers elements (Free s) p = Element (slice_index_or elements p 0)

-- each list has a value for each place
pub record HaveValues (count : ℕ) (truths : List Bool) (numbers : List ℤ) (elements : List ℕ) : Type 0 where
  pub all_truths : length truths ≡ count
  pub all_numbers : length numbers ≡ count
  pub all_elements : length elements ≡ count

-- each marked place is given the value that is chosen for it, where it isn't worked out
abbrev pub GiveChosen : List Declaration → List Tree → List Bool → List Bool → List ℤ → List ℕ → List Given → Type 0
GiveChosen ds trees marks truths numbers elements gs =
    (p : ℕ) (s : Sort) → IsMarked marks p → tree_sort ds (tree_at trees p) ≡ Some s → is_worked_out (head_of (tree_at trees p)) ≡ false
    → given_at gs p ≡ InRange (chosen truths numbers elements s p)

-- and no other place is given anything
abbrev pub GiveNoOthers : List Bool → List Given → Type 0
GiveNoOthers marks gs = (p : ℕ) → slice_index_or marks p false ≡ false → given_at gs p ≡ Unmarked

-- ---- a place at a time, by the sorts that are kept; no public contract speaks of it

pub record IsPlaceGiven (trees : List Tree) (marks : List Bool) (sorts : List Sort) (truths : List Bool) (numbers : List ℤ) (elements : List ℕ) (p : ℕ) (g : Given) : Type 0 where
  pub unmarked : slice_index_or marks p false ≡ false → g ≡ Unmarked
  pub sorted : IsMarked marks p → is_given_of g (slice_index_or sorts p Truths) ≡ true
  pub is_chosen : IsMarked marks p → is_worked_out (head_of (tree_at trees p)) ≡ false → g ≡ InRange (chosen truths numbers elements (slice_index_or sorts p Truths) p)

abbrev pub AllGiven : List Tree → List Bool → List Sort → List Bool → List ℤ → List ℕ → ℕ → List Given → Type 0
AllGiven trees marks sorts truths numbers elements bound gs = (p : ℕ) → p < bound → IsPlaceGiven trees marks sorts truths numbers elements p (given_at gs p)

-- each marked Int below a bound is worked out, where it isn't chosen
abbrev pub AllWorkedOut : List Tree → List Bool → List Sort → ℕ → List Given → Type 0
AllWorkedOut trees marks sorts bound gs = (p : ℕ) → p < bound → IsMarked marks p → slice_index_or sorts p Truths ≡ Ints → IsWorkedOut trees gs p

-- what the next place is given, by those before
pub record IsNextWorkedOut (trees : List Tree) (gs : List Given) (p : ℕ) (g : Given) : Type 0 where
  pub head : Head
  pub arguments : List ℕ
  pub tree : tree_at trees p ≡ tree_with trees head arguments
  pub earlier : All (λ i. i < p) arguments
  pub is_made : is_worked_out head ≡ true → g ≡ worked_out head (map (given_at gs) arguments)
