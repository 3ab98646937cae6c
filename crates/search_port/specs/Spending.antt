-- What contracts see of a budget.
use Rattle.std.specs.Prelude.{ℕ, ◌≤◌, Bool, List}
use Rattle.search_port.specs.declared.budget.Lemma.{Lemma}
use Rattle.search_port.specs.declared.budget.Spent.{Spent}

pub record Spending : Type 0 where
  -- the units spent, oldest first
  pub units : List Spent
  -- how many there may be in the check
  pub limit : ℕ
  -- how many there may be when the call that it is lent to returns
  pub bound : ℕ
  -- whether learnt clauses count
  pub counts_learnt : Bool
  -- whether a pivot's line is kept
  pub keeps_lines : Bool
  -- the most literals of a learnt clause that is shared
  pub share : ℕ
  -- the learnt clauses to share
  pub short : List Lemma

pub record IsWithin (units bound limit : ℕ) : Type 0 where
  pub spent : units ≤ bound
  pub lent : bound ≤ limit
