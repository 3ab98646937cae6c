-- The axioms of the bounds of a table.
use Rattle.std.specs.Prelude.{◌≡◌, ◌≢◌, ℕ, true, List, [], ◌++◌, length, All, ℤ}
use Rattle.std.specs.List.Sorted.{IsSorted}
use Rattle.fraction128.specs.Whole.{InRange}
use Rattle.literals.specs.Signed.{Signed, some_true}
use Rattle.smt_meaning.specs.declared.clauses.Summand.{Summand}
use Rattle.smt_meaning.specs.declared.clauses.Atom.{Atom}
use Rattle.smt_meaning.specs.declared.clauses.Atom.TheVariants.{AtMost}
use Rattle.smt_meaning.specs.Term.{Tree, Interpretation}
use Rattle.smt_meaning.specs.Clause.{atom_true}
use Rattle.smt_meaning.specs.Linear.{sum_fits}
use Rattle.search_port.specs.State.{atom_at}
use Rattle.search_port.specs.Valid.{IsOver}
use Rattle.clause_form.specs.Node.{HasNoAtomTwice}
use Rattle.atom_form.specs.AtomTableNumbers.{IsAt}
use Rattle.atom_form.specs.Sums.{AreApart}
use Rattle.order_clauses.specs.declared.links.Link.{Link}
use Rattle.order_clauses.specs.Links.{IsLink, HasLink, link_cmp, between_links}

-- the numbers of a bound are in the range
pub record BoundFits (sum : List Summand) (threshold : ℤ) : Type 0 where
  pub coefficients : sum_fits sum ≡ true
  pub in_range : InRange threshold

-- those of each bound of the table
abbrev pub BoundsFit : List Atom → Type 0
BoundsFit table = (n : ℕ) (sum : List Summand) (threshold : ℤ) → IsAt table n (AtMost sum threshold) → BoundFits sum threshold

-- it is over the atoms of the table, has none twice, and is true under every interpretation
pub record IsSound (table : List Atom) (ls : List Signed) : Type 0 where
  pub over : IsOver (length table) ls
  pub once : HasNoAtomTwice ls
  pub valid : (ts : List Tree) (I : Interpretation) → some_true (λ n. atom_true ts I (atom_at table n)) ls ≡ true

-- links of the bounds of each sum that isn't empty and of its negation, in order, and the clauses between each two neighbours of one group
pub record AreAxioms (table : List Atom) (cs : List (List Signed)) : Type 0 where
  pub sums : List (List Summand)
  pub links : List Link
  pub apart : AreApart sums
  pub mean : All (IsLink table sums) links
  pub each : (n : ℕ) (sum : List Summand) (threshold : ℤ) → IsAt table n (AtMost sum threshold) → sum ≢ [] → HasLink sums links n sum
  pub sorted : IsSorted link_cmp links
  pub clauses : cs ≡ between_links links

-- the axioms are added
pub record AddsAxioms (table : List Atom) (old new : List (List Signed)) : Type 0 where
  pub added : List (List Signed)
  pub is : new ≡ old ++ added
  pub axioms : AreAxioms table added
  pub sound : All (IsSound table) added
