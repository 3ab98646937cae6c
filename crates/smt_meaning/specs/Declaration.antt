-- Declarations and definitions (SMT-LIB 2.6, section 4.2.3).
use Rattle.std.specs.Prelude.{ℕ, Bool, List, Option}
use Rattle.smt_meaning.specs.declared.declarations.Rank.{Rank}
use Rattle.smt_meaning.specs.Term.{Tree}

-- the body of a definition: the different trees that were judged in it, each after its parts, and which of them it is
pub record Body : Type 0 where
  pub terms : List Tree
  -- its k-th parameter is the tree with the head `Place k`
  pub term : Tree

-- A declared function symbol has no body; a name that `:named` gives is a definition without parameters. The rank of a sort has no arguments, and its result is the sort that the name stands for.
pub record Declaration : Type 0 where
  pub id : ℕ
  pub name : List ℕ
  pub rank : Rank
  pub body : Option Body
  -- sorts and functions have separate tables of names
  pub is_sort : Bool
  -- `:named` gave the name, which goes with its assertion
  pub is_name : Bool
