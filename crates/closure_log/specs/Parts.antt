-- The wide `xor`s of a stack, and what a log tells of them.
use Rattle.std.specs.Prelude.{◌≡◌, ℕ, ◌<◌, ◌≤◌, Bool, false, List, ◌∷◌, length, All, Contains}
use Rattle.std.specs.List.{AllZip}
use Rattle.literals.specs.Signed.{Signed}
use Rattle.smt_meaning.specs.declared.clauses.Atom.{Atom}
use Rattle.smt_meaning.specs.declared.clauses.Atom.TheVariants.{Truth}
use Rattle.smt_meaning.specs.declared.terms.Operator.TheVariants.{Xor}
use Rattle.smt_meaning.specs.declared.terms.Head.TheVariants.{Theory}
use Rattle.smt_meaning.specs.Term.{Tree, tree_at}
use Rattle.term_store.specs.Terms.{tree_with}
use Rattle.atom_form.specs.AtomTableNumbers.{IsAt}
use Rattle.search_port.specs.State.{IsConsistent}
use Rattle.check_atoms.specs.Parts.{IsMarked}
use Rattle.closure_log.specs.Places.{ArePlaces}
use Rattle.closure_log.specs.Odd.{is_odd}

-- the term at this place is a `xor` of more than three terms
pub record IsWideXor (ts : List Tree) (p : ℕ) (is : List ℕ) : Type 0 where
  pub tree : tree_at ts p ≡ tree_with ts (Theory Xor) is
  pub earlier : All (λ i. i < length ts) is
  pub wide : 4 ≤ length is

-- each part before this place that is a wide `xor` is among these
abbrev pub AreWideXorsBelow : List Tree → List Bool → ℕ → List ℕ → Type 0
AreWideXorsBelow ts marks n ps = (p : ℕ) (is : List ℕ) → p < n → IsMarked marks p → IsWideXor ts p is → Contains ps p

-- each part that is a wide `xor` is among these places
abbrev pub AreWideXors : List Tree → List Bool → List ℕ → Type 0
AreWideXors ts marks ps = (p : ℕ) (is : List ℕ) → IsMarked marks p → IsWideXor ts p is → Contains ps p

-- it tells of numbered atoms, of none both signs, and each literal stands at the place of its atom
pub record IsPlacedLog (table : List Atom) (log : List Signed) (places : List ℕ) : Type 0 where
  pub size : length places ≡ length table
  pub told_at : ArePlaces log places
  pub numbered : All (λ (l : Signed). l.atom < length table) log
  pub consistent : IsConsistent log

-- it tells that the term at a place has this truth
pub record TellsTruth (table : List Atom) (log : List Signed) (p : ℕ) (b : Bool) : Type 0 where
  pub literal : Signed
  pub told : Contains log literal
  pub at : IsAt table literal.atom (Truth p)
  pub sign : literal.positive ≡ b

-- where the truths of a wide `xor` and of all its arguments are told, its own is what `xor` makes of theirs: an even count is true
abbrev pub KeepsXorAt : List Tree → List Atom → List Signed → ℕ → Type 0
KeepsXorAt ts table log p = (is : List ℕ) (bs : List Bool) → IsWideXor ts p is → AllZip (TellsTruth table log) (p ∷ is) bs → is_odd bs ≡ false

-- the same of each of these
abbrev pub KeepsXors : List Tree → List Atom → List Signed → List ℕ → Type 0
KeepsXors ts table log ps = All (KeepsXorAt ts table log) ps
