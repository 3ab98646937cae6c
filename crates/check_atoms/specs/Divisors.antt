-- The number by which the rows of a part divide.
use Rattle.std.specs.Prelude.{◌≡◌, ℕ, List, Option, ℤ}
use Rattle.fraction128.specs.Whole.{InRange}
use Rattle.smt_meaning.specs.declared.values.Sort.{Sort}
use Rattle.smt_meaning.specs.declared.terms.Head.{Head}
use Rattle.smt_meaning.specs.Term.{Tree}
use Rattle.smt_laws.specs.Rows.{place_divisor}
use Rattle.check_atoms.specs.PartAtoms.{of_part}

-- the number is in the range, and with it a part with this head and these arguments has the atoms that it has with its divisor
pub record IsDivisorOf (ts : List Tree) (h : Head) (is : List ℕ) (n : ℤ) : Type 0 where
  pub in_range : InRange n
  pub same : (f : ℕ → Option Sort) (p : ℕ) → of_part f n p h is ≡ of_part f (place_divisor ts is) p h is
