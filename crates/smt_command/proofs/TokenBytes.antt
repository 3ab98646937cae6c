-- The bytes of the next token, by its kind.
use Rattle.std.proofs.Common.{◌≡◌, None, refl}
use Rattle.smt_meaning.specs.Sexp.{Sexps, word, group, end, ◌▸◌}
use Rattle.smt_command.specs.declared.arguments.Kind.{Kind}
use Rattle.smt_command.specs.declared.arguments.Kind.TheVariants.{Symbol, Keyword, Numeral, Text}
use Rattle.smt_command.specs.Arguments.{first_by, bytes_as, bytes_in, token_in}

-- no list has bytes
no_bytes : (k : Kind) (xs : Sexps) → bytes_as k (group xs) ≡ None
no_bytes Symbol xs = refl
no_bytes Keyword xs = refl
no_bytes Numeral xs = refl
no_bytes Text xs = refl

pub first_bytes : (k : Kind) (ss : Sexps) → first_by (bytes_as k) ss ≡ bytes_in k (first_by token_in ss)
first_bytes k end = refl
first_bytes k (word t ▸ ss) = refl
first_bytes k (group xs ▸ ss) = no_bytes k xs
