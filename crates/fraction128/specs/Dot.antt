-- Sums of products of whole numbers, without bound.
use Rattle.std.specs.Prelude.{List, [], ◌∷◌, ℤ, ◌+ℤ◌, ◌*ℤ◌}

-- k and the products of the pairs
abbrev pub dot_of : ℤ → List (ℤ × ℤ) → ℤ
dot_of k [] = k
dot_of k (p ∷ ps) = p.0 *ℤ p.1 +ℤ dot_of k ps
