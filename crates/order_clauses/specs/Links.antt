-- Bounds of one sum and of its negation as links: literals that say that the sum is at most a threshold.
use Rattle.std.specs.Prelude.{◌≡◌, ℕ, ◌<◌, ◌&&◌, nat_eq, List, [], ◌∷◌, ◌++◌, length, Contains, slice_index_or, int_le, if◌then◌else◌}
use Rattle.std.specs.declared.cmp.Ordering.{Ordering}
use Rattle.std.specs.Ordering.{ordering_then, nat_cmp, int_cmp, bool_cmp}
use Rattle.literals.specs.Signed.{Signed, opposite, literal_true}
use Rattle.smt_meaning.specs.declared.clauses.Summand.{Summand}
use Rattle.smt_meaning.specs.declared.clauses.Atom.{Atom}
use Rattle.smt_meaning.specs.Term.{Tree, Interpretation}
use Rattle.smt_meaning.specs.Clause.{atom_true, sum_value}
use Rattle.search_port.specs.State.{atom_at}
use Rattle.pair_bounds.specs.Turning.{turned}
use Rattle.order_clauses.specs.declared.links.Link.{Link}

abbrev pub literal_of : Link → Signed
literal_of l = record { atom = l.number; positive = l.positive }

-- the sum of a group
abbrev pub sum_at : List (List Summand) → ℕ → List Summand
sum_at sums g = slice_index_or sums g []

-- under every interpretation the literal is true exactly where the sum of the link's group is at most its threshold
pub record IsLink (table : List Atom) (sums : List (List Summand)) (l : Link) : Type 0 where
  pub numbered : l.number < length table
  pub group : l.group < length sums
  pub says : (ts : List Tree) (I : Interpretation) → literal_true (λ n. atom_true ts I (atom_at table n)) (literal_of l) ≡ int_le (sum_value ts I (sum_at sums l.group)) l.threshold

-- the atom of this number, a bound of the sum, has a link, whose group is that of the sum turned so that its first coefficient is positive
pub record HasLink (sums : List (List Summand)) (links : List Link) (n : ℕ) (sum : List Summand) : Type 0 where
  pub link : Link
  pub among : Contains links link
  pub number : link.number ≡ n
  pub turned_sum : sum_at sums link.group ≡ turned sum

-- by group, and then by threshold
abbrev pub link_cmp : Link → Link → Ordering
link_cmp x y =
    ordering_then (nat_cmp x.group y.group)
    (ordering_then (int_cmp x.threshold y.threshold) (ordering_then (nat_cmp x.number y.number) (bool_cmp x.positive y.positive)))

-- ---- what follows from what

abbrev pub implication : Link → Link → List Signed
implication x y = opposite (literal_of x) ∷ literal_of y ∷ []

-- in one group the first implies the second where its threshold isn't above the other's
abbrev pub implied : Link → Link → List (List Signed)
implied x y = if nat_eq x.group y.group && int_le x.threshold y.threshold then implication x y ∷ [] else []

abbrev pub between : Link → Link → List (List Signed)
between x y = implied x y ++ implied y x

-- between each two neighbours
abbrev pub between_neighbours : Link → List Link → List (List Signed)
between_neighbours x [] = []
between_neighbours x (y ∷ ys) = between x y ++ between_neighbours y ys

abbrev pub between_links : List Link → List (List Signed)
between_links [] = []
between_links (x ∷ xs) = between_neighbours x xs
