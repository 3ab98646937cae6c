-- Variables more.
use Rattle.std.specs.Prelude.{◌≡◌, ℕ, List}
use Rattle.fraction128.specs.declared.Summand.{Summand}
use Rattle.simplex.specs.State.{State}
use Rattle.sum_bounds.specs.Bounds.{sum_hashes, leaf_table, leaf_columns, sum_table, sum_columns}

pub record IsGrownByLeaf (old new : State) (keys : List ℕ) (term : ℕ) : Type 0 where
  pub table : new.table ≡ leaf_table old.table
  pub columns : new.columns ≡ leaf_columns old.columns term
  pub bounds : new.bounds ≡ old.bounds
  pub hashed : keys ≡ sum_hashes new.columns

pub record IsGrownBySum (old new : State) (keys : List ℕ) (ps : List Summand) : Type 0 where
  pub table : new.table ≡ sum_table old.table old.columns ps
  pub columns : new.columns ≡ sum_columns old.table old.columns ps
  pub bounds : new.bounds ≡ old.bounds
  pub hashed : keys ≡ sum_hashes new.columns
