-- Numerals that divide, and what stands in a quotient.
use Rattle.std.specs.Prelude.{ℕ, Bool, false, not, ◌&&◌, pos, nat_eq, List, [], ◌∷◌}
use Rattle.smt_meaning.specs.declared.terms.Head.TheVariants.{Numeral}
use Rattle.smt_meaning.specs.Term.{Tree, node, none, int_eq}

-- a numeral other than 0
abbrev pub is_nonzero : Tree → Bool
is_nonzero (node (Numeral n) none) = not (int_eq n (pos 0))
is_nonzero t = false

-- two places, these
abbrev pub are_two : List ℕ → ℕ → ℕ → Bool
are_two (i ∷ j ∷ []) m n = nat_eq i m && nat_eq j n
are_two is m n = false
