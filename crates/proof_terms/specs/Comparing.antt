-- The bounds by which two terms compare.
use Rattle.std.specs.Prelude.{◌≡◌, ℕ, ℤ, Bool, true, List}
use Rattle.smt_meaning.specs.declared.clauses.Atom.{Atom}
use Rattle.smt_meaning.specs.declared.clauses.Summand.{Summand}
use Rattle.smt_meaning.specs.Term.{Tree}
use Rattle.proof_meaning.specs.Rules.{not_above, below, folded_bound}
use Rattle.pair_bounds.specs.Pairs.{IsBound}
use Rattle.proof_terms.specs.Range.{not_above_fits, less_fits}
use Rattle.proof_terms.specs.declared.terms_bounds.Comparison.{Comparison}
use Rattle.proof_terms.specs.declared.terms_bounds.Comparison.TheVariants.{Undivided, NotAbove, Below}

abbrev pub compared : Comparison → List Tree → ℕ → ℕ → Atom
compared Undivided ts = folded_bound ts
compared NotAbove ts = not_above ts
compared Below ts = below ts

-- folding it stays in the range
abbrev pub compared_fits : Comparison → List Tree → ℕ → ℕ → Bool
compared_fits Undivided ts = not_above_fits ts
compared_fits NotAbove ts = not_above_fits ts
compared_fits Below ts = less_fits ts

-- folding it stays in the range and gives this bound
pub record IsComparison (ts : List Tree) (c : Comparison) (left right : ℕ) (sum : List Summand) (threshold : ℤ) : Type 0 where
  pub fits : compared_fits c ts left right ≡ true
  pub bound : IsBound ts (compared c ts left right) sum threshold
