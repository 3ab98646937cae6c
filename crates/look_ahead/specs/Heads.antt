-- The form of a head that divides, in parts.
use Rattle.std.specs.Prelude.{ℕ, Option, Some, None, if◌then◌else◌, bytes_eq, codes}
use Rattle.smt_meaning.specs.declared.tokens.Token.TheVariants.{Numeral, Symbol}
use Rattle.smt_meaning.specs.Sexp.{Sexps, word, end, ◌▸◌}
use Rattle.smt_meaning.specs.Sorts.{decimal}

-- a number, and nothing more
abbrev pub last_number : Sexps → Option ℕ
last_number (word (Numeral cs) ▸ end) = Some (decimal cs)
last_number _ = None

-- the number after `divisible`
abbrev pub divisible_number : Sexps → Option ℕ
divisible_number (word (Symbol d) ▸ rest) = if bytes_eq d (codes "divisible") then last_number rest else None
divisible_number _ = None
