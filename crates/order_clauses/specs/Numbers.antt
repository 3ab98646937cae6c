-- The number of an atom in a table.
use Rattle.std.specs.Prelude.{◌≡◌, ℕ, suc, ◌<◌, ◌^◌, Contains, ◌&&◌, Bool, true, false, nat_eq, List, [], ◌∷◌, if◌then◌else◌}
use Rattle.smt_meaning.specs.declared.clauses.Summand.{Summand}
use Rattle.smt_meaning.specs.declared.clauses.Atom.{Atom}
use Rattle.smt_meaning.specs.declared.clauses.Atom.TheVariants.{Truth, AtMost, Same}
use Rattle.smt_meaning.specs.Term.{int_eq}

abbrev pub sum_eq : List Summand → List Summand → Bool
sum_eq [] [] = true
sum_eq (p ∷ ps) (q ∷ qs) = (int_eq p.coefficient q.coefficient && nat_eq p.term q.term) && sum_eq ps qs
sum_eq [] (q ∷ qs) = false
sum_eq (p ∷ ps) [] = false

-- whether two atoms are the same
abbrev pub atom_eq : Atom → Atom → Bool
atom_eq (Truth p) (Truth q) = nat_eq p q
atom_eq (AtMost sum k) (AtMost sum' k') = sum_eq sum sum' && int_eq k k'
atom_eq (Same i j) (Same i' j') = nat_eq i i' && nat_eq j j'
atom_eq a b = false

-- its place in the table, the table's length where it isn't there
unfoldable pub number_in : List Atom → Atom → ℕ
number_in [] a = 0
number_in (b ∷ bs) a = if atom_eq a b then 0 else suc (number_in bs a)

-- the number of an atom that has one
pub record IsNumberOf (table : List Atom) (a : Atom) (n : ℕ) : Type 0 where
  pub number : n ≡ number_in table a
  pub few : n < 2 ^ 31
  pub has : Contains table a
