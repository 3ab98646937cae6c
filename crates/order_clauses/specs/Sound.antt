-- What holds of each clause that is put.
use Rattle.std.specs.Prelude.{◌≡◌, ℕ, true, List, length, All, Some}
use Rattle.literals.specs.Signed.{Signed, some_true}
use Rattle.smt_meaning.specs.declared.clauses.Atom.{Atom}
use Rattle.smt_meaning.specs.declared.values.Sort.{Sort}
use Rattle.smt_meaning.specs.Declaration.{Declaration}
use Rattle.smt_meaning.specs.Term.{Tree, Interpretation, tree_at}
use Rattle.smt_meaning.specs.Interpretation.{Interprets}
use Rattle.smt_meaning.specs.Clause.{atom_true}
use Rattle.smt_meaning.specs.Signature.{tree_sort}
use Rattle.search_port.specs.State.{atom_at}
use Rattle.search_port.specs.Valid.{IsOver}
use Rattle.clause_form.specs.Node.{HasNoAtomTwice}
use Rattle.order_clauses.specs.Clauses.{sort_at}

-- every interpretation of the signature makes the clause true
abbrev pub IsTrueEverywhere : List Declaration → List Tree → List Atom → List Signed → Type 0
IsTrueEverywhere ds ts table ls = (I : Interpretation) → Interprets ds I → some_true (λ n. atom_true ts I (atom_at table n)) ls ≡ true

-- it is over the atoms of the table, has none twice, and is true everywhere
pub record IsSound (ds : List Declaration) (ts : List Tree) (table : List Atom) (ls : List Signed) : Type 0 where
  pub over : IsOver (length table) ls
  pub once : HasNoAtomTwice ls
  pub valid : IsTrueEverywhere ds ts table ls

abbrev pub AreSound : List Declaration → List Tree → List Atom → List (List Signed) → Type 0
AreSound ds ts table cs = All (IsSound ds ts table) cs

-- the term at a place has the sort that is listed for it
abbrev pub HasSort : List Declaration → List Tree → List Sort → ℕ → Type 0
HasSort ds ts sorts p = tree_sort ds (tree_at ts p) ≡ Some (sort_at sorts p)
