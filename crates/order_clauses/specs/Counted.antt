-- How many pairs of a `distinct` are compared.
use Rattle.std.specs.Prelude.{◌≡◌, ℕ, ◌≤◌, ◌-◌, ◌*◌, ◌/◌, List, [], ◌∷◌, length, nat_eq, if◌then◌else◌}
use Rattle.smt_meaning.specs.declared.values.Sort.{Sort}
use Rattle.smt_meaning.specs.declared.values.Sort.TheVariants.{Bool as Truths, Int as Ints, Free}
use Rattle.smt_meaning.specs.declared.terms.Operator.{Operator}
use Rattle.smt_meaning.specs.declared.terms.Operator.TheVariants.{Distinct}
use Rattle.order_clauses.specs.Pairs.{pairs_of}
use Rattle.order_clauses.specs.Clauses.{sort_at}

-- the pairs among so many terms
unfoldable pub pairs_among : ℕ → ℕ
pairs_among n = n * (n - 1) / 2

-- those that `distinct` of so many terms compares; each other operator compares none of them
abbrev pub distinct_pairs : Operator → ℕ → ℕ
distinct_pairs Distinct n = pairs_among n
distinct_pairs o n = 0

-- of so many terms of this sort these are among the clauses: of Bools none, and none of two elements
abbrev pub pairs_by_sort : Sort → ℕ → ℕ → ℕ
pairs_by_sort Truths n pairs = 0
pairs_by_sort Ints n pairs = pairs
pairs_by_sort (Free s) n pairs = if nat_eq n 2 then 0 else pairs

-- those of the clauses of a term with this operator and the arguments at these places, by the sorts of places
abbrev pub pairs_of_part : List Sort → Operator → List ℕ → ℕ
pairs_of_part sorts o [] = 0
pairs_of_part sorts o (i ∷ is) = pairs_by_sort (sort_at sorts i) (length (i ∷ is)) (distinct_pairs o (length (i ∷ is)))

-- the pairs of a `distinct` are as many as are counted, of no part more; four terms have six pairs, and not only those of neighbours
pub record PairsAreCounted : Type 0 where
  pub pairs : (is : List ℕ) → length (pairs_of Distinct is) ≡ distinct_pairs Distinct (length is)
  pub most : (sorts : List Sort) (o : Operator) (is : List ℕ) → pairs_of_part sorts o is ≤ distinct_pairs o (length is)
  pub of_four : distinct_pairs Distinct 4 ≡ 6
  pub not_neighbours : distinct_pairs Distinct 4 ≡ 3 → ⊥
