-- Bounds on one sum and on its negation, as a chain of literals, each of which says that the sum is at most its threshold.
use Rattle.std.specs.Prelude.{List, [], ◌∷◌, ◌++◌, map, ℤ, negsuc, ◌-ℤ◌, int_le, int_lt, if◌then◌else◌}
use Rattle.literals.specs.Signed.{Signed, opposite}
use Rattle.equality_clauses.specs.Ties.{yes, no}
use Rattle.bound_clauses.specs.declared.axioms.Bound.{Bound}
use Rattle.bound_clauses.specs.declared.axioms.Link.{Link}

abbrev pub link : ℤ → Signed → Link
link k l = record { threshold = k; literal = l }

abbrev pub of_sum : Bound → Link
of_sum b = link b.threshold (yes b.number)

-- over whole numbers `-s <= j` is false exactly where `s <= -1 - j`
abbrev pub of_negation : Bound → Link
of_negation b = link (negsuc 0 -ℤ b.threshold) (no b.number)

abbrev pub of_sums : List Bound → List Link
of_sums bs = map of_sum bs

-- the greatest first, which says least of the sum
abbrev pub of_negations : List Bound → List Link
of_negations [] = []
of_negations (b ∷ bs) = of_negations bs ++ of_negation b ∷ []

-- ---- one chain of both

-- the first before those that aren't less, and then the rest
abbrev pub merged_with : (List Link → List Link) → Link → List Link → List Link
merged_with rest x [] = x ∷ rest []
merged_with rest x (y ∷ ys) = if int_lt y.threshold x.threshold then y ∷ merged_with rest x ys else x ∷ rest (y ∷ ys)

abbrev pub merged : List Link → List Link → List Link
merged [] ys = ys
merged (x ∷ xs) ys = merged_with (merged xs) x ys

unfoldable pub chain_of : List Bound → List Bound → List Link
chain_of bounds negated = merged (of_sums bounds) (of_negations negated)

-- ---- what follows from what

abbrev pub implication : Link → Link → List Signed
implication x y = opposite x.literal ∷ y.literal ∷ []

-- the first implies the second and, where their thresholds are one, is implied by it
abbrev pub between : Link → Link → List (List Signed)
between x y = implication x y ∷ (if int_le y.threshold x.threshold then implication y x ∷ [] else [])

abbrev pub between_neighbours : Link → List Link → List (List Signed)
between_neighbours x [] = []
between_neighbours x (y ∷ ys) = between x y ++ between_neighbours y ys

abbrev pub chain_clauses : List Link → List (List Signed)
chain_clauses [] = []
chain_clauses (x ∷ xs) = between_neighbours x xs

-- the axioms of bounds on one sum and on its negation
abbrev pub axioms : List Bound → List Bound → List (List Signed)
axioms bounds negated = chain_clauses (chain_of bounds negated)
