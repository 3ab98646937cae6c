-- Links while they are gathered.
use Rattle.std.specs.Prelude.{◌≡◌, ◌≢◌, ◌⊎◌, ℕ, ◌<◌, List, [], ◌∷◌, ◌++◌, length, All, AllPairs, ℤ, int_le}
use Rattle.fraction128.specs.Whole.{InRange}
use Rattle.literals.specs.Signed.{sign}
use Rattle.smt_meaning.specs.declared.clauses.Summand.{Summand}
use Rattle.smt_meaning.specs.declared.clauses.Atom.{Atom}
use Rattle.smt_meaning.specs.declared.clauses.Atom.TheVariants.{AtMost as BoundAtom}
use Rattle.smt_meaning.specs.Term.{Tree, Interpretation}
use Rattle.smt_meaning.specs.Clause.{atom_true, sum_value}
use Rattle.atom_form.specs.AtomTableNumbers.{IsAt}
use Rattle.pair_bounds.specs.declared.turning.Limit.{Limit}
use Rattle.pair_bounds.specs.declared.turning.Limit.TheVariants.{AtMost, AtLeast}
use Rattle.pair_bounds.specs.Turning.{turned}
use Rattle.order_clauses.specs.declared.links.Link.{Link}
use Rattle.order_clauses.specs.Links.{sum_at, IsLink, HasLink}

abbrev pub LimitFits : Limit → Type 0
LimitFits (AtMost k) = InRange k
LimitFits (AtLeast k) = InRange k

-- no two links have one number
abbrev pub AreDistinct : List Link → Type 0
AreDistinct links = AllPairs (λ (x y : Link). x.number ≢ y.number) links

-- the atoms of the first numbers have their links
pub record AreGathered (table : List Atom) (k : ℕ) (sums : List (List Summand)) (links : List Link) : Type 0 where
  pub mean : All (IsLink table sums) links
  pub each : (n : ℕ) (sum : List Summand) (threshold : ℤ) → n < k → IsAt table n (BoundAtom sum threshold) → sum ≢ [] → HasLink sums links n sum
  pub below : All (λ (l : Link). l.number < k) links
  pub distinct : AreDistinct links

abbrev pub GoesOn : List (List Summand) → List (List Summand) → Type 0
GoesOn old new = (more : List (List Summand)) × (new ≡ old ++ more)

-- a link of this bound
pub record IsLinkOf (sums : List (List Summand)) (sum : List Summand) (threshold : ℤ) (n : ℕ) (l : Link) : Type 0 where
  pub number : l.number ≡ n
  pub group : l.group < length sums
  pub turned_sum : sum_at sums l.group ≡ turned sum
  pub says : (ts : List Tree) (I : Interpretation) → sign l.positive (atom_true ts I (BoundAtom sum threshold)) ≡ int_le (sum_value ts I (turned sum)) l.threshold

-- the link of a bound is added, unless its sum is empty
pub record AddsLink (old_sums new_sums : List (List Summand)) (old new : List Link) (sum : List Summand) (threshold : ℤ) (n : ℕ) : Type 0 where
  pub sums : GoesOn old_sums new_sums
  pub links : ((sum ≡ []) × (new ≡ old)) ⊎ ((l : Link) × (new ≡ old ++ l ∷ []) × IsLinkOf new_sums sum threshold n l)
