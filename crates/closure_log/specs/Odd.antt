-- Truths of a `xor` and of its arguments, and literals against them.
use Rattle.std.specs.Prelude.{◌≡◌, ℕ, Bool, true, false, not, List, [], ◌∷◌, All, Contains}
use Rattle.literals.specs.Signed.{Signed}
use Rattle.smt_meaning.specs.declared.clauses.Atom.{Atom}
use Rattle.smt_meaning.specs.declared.clauses.Atom.TheVariants.{Truth}
use Rattle.smt_meaning.specs.declared.terms.Operator.TheVariants.{Xor}
use Rattle.smt_meaning.specs.declared.terms.Head.TheVariants.{Theory}
use Rattle.smt_meaning.specs.Declaration.{Declaration}
use Rattle.smt_meaning.specs.Term.{Tree, tree_at, xor}
use Rattle.term_store.specs.Terms.{tree_with}
use Rattle.atom_form.specs.AtomTableNumbers.{IsAt}
use Rattle.check_atoms.specs.Atoms.{is_bool_at}

-- whether an odd count of these truths is true
abbrev pub is_odd : List Bool → Bool
is_odd [] = false
is_odd (b ∷ bs) = xor b (is_odd bs)

-- the term at this place is a `xor` of the Bools at these
pub record IsXor (ds : List Declaration) (ts : List Tree) (p : ℕ) (is : List ℕ) : Type 0 where
  pub tree : tree_at ts p ≡ tree_with ts (Theory Xor) is
  pub bools : All (λ q. is_bool_at ds ts q ≡ true) (p ∷ is)

-- the literal that the term at a place hasn't this truth
pub record IsAgainst (table : List Atom) (p : ℕ) (b : Bool) (l : Signed) : Type 0 where
  pub at : IsAt table l.atom (Truth p)
  pub sign : l.positive ≡ not b

-- one of these literals is that
pub record HasAgainst (table : List Atom) (ls : List Signed) (p : ℕ) (b : Bool) : Type 0 where
  pub literal : Signed
  pub among : Contains ls literal
  pub against : IsAgainst table p b literal
