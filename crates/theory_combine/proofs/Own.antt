-- Atoms by their own numbers, of those that are told of.
use Rattle.std.proofs.Common.{◌≡◌, ◌∙◌, ℕ, ◌<◌, List, length, refl, sym, arith, inl, inr}
use Rattle.std.specs.Prelude.{Option, Some, None}
use Rattle.std.proofs.lemmas.Bool.{cases_lt}
use Rattle.std.proofs.lemmas.List.{length-take, get_or-take}
use Rattle.smt_meaning.specs.declared.clauses.Atom.{Atom}
use Rattle.smt_meaning.specs.declared.clauses.Atom.TheVariants.{Truth}
use Rattle.atom_form.specs.AtomTableNumbers.{AreApart}
use Rattle.search_port.specs.State.{atom_at}
use Rattle.theory_combine.specs.Numbering.{table_of}

-- no number of a list has the atom of another
own_of : (table : List Atom) → AreApart table → (m n : ℕ) → m < length table → n < length table → atom_at table m ≡ atom_at table n → m ≡ n
own_of table apart m n first second e = elim (cases_lt m n) [
  | inl less ↦ absurd (apart m n (Truth 0) less second e)
  | inr not_less ↦ elim (cases_lt n m) [
    | inl more ↦ absurd (apart n m (Truth 0) more first (sym e))
    | inr not_more ↦ omega arith
  ]
]

pub within_table : (o : Option ℕ) (table : List Atom) (n : ℕ) → n < length (table_of o table) → n < length table
within_table None table n h = h
within_table (Some k) table n h = omega (arith, h, length-take k table)

pub at_table : (o : Option ℕ) (table : List Atom) (n : ℕ) → n < length (table_of o table) → atom_at table n ≡ atom_at (table_of o table) n
at_table None table n h = refl
at_table (Some k) table n h = sym (get_or-take k table n (Truth 0) (omega (arith, h, length-take k table)))

pub own_numbers : (o : Option ℕ) (table : List Atom) → AreApart table → (m n : ℕ) → m < length (table_of o table) → n < length (table_of o table) → atom_at (table_of o table) m ≡ atom_at (table_of o table) n
    → m ≡ n
own_numbers o table apart m n first second e =
    own_of table apart m n (within_table o table m first) (within_table o table n second) (at_table o table m first ∙ e ∙ sym (at_table o table n second))
