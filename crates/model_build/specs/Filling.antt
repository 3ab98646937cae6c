-- The tables that are made of the applications that are kept. No public contract speaks of it.
use Rattle.std.specs.Prelude.{ℕ, nat_eq, not, Bool, false, List, [], ◌∷◌, ◌++◌, map, pos, if◌then◌else◌}
use Rattle.smt_meaning.specs.declared.values.Value.{Value}
use Rattle.smt_meaning.specs.declared.values.Value.TheVariants.{Truth, Whole, Element}
use Rattle.smt_meaning.specs.declared.values.Sort.{Sort}
use Rattle.smt_meaning.specs.declared.values.Sort.TheVariants.{Bool as Truths, Int as Ints, Free}
use Rattle.smt_meaning.specs.declared.values.Row.{Row}
use Rattle.smt_meaning.specs.declared.values.Table.{Table}
use Rattle.smt_meaning.specs.Declaration.{Declaration}
use Rattle.smt_meaning.specs.Term.{Tree}
use Rattle.smt_meaning.specs.Signature.{is_symbol}
use Rattle.model_build.specs.declared.given.Given.{Given}
use Rattle.model_build.specs.declared.given.Given.TheVariants.{Unmarked, InRange, PastRange}
use Rattle.model_build.specs.Given.{given_at, has_past, arguments_given}
use Rattle.model_build.specs.Keys.{symbol_at}

abbrev pub value_of : Given → Value
value_of Unmarked = Truth false
value_of (InRange v) = v
value_of PastRange = Truth false

-- a row stands for arguments within the range; the default stands for the others, and for no arguments
abbrev pub has_row : List Given → Bool
has_row [] = false
has_row (g ∷ gs) = not (has_past (g ∷ gs))

abbrev pub row_at : List Tree → List Given → ℕ → Row
row_at ts gs p = record { arguments = map value_of (arguments_given ts gs p); value = value_of (given_at gs p) }

-- a table with the value of the application at a place
abbrev pub with_place : List Tree → List Given → ℕ → Table → Table
with_place ts gs p t =
    if has_row (arguments_given ts gs p) then record t { rows = t.rows ++ row_at ts gs p ∷ [] } else record t { default = value_of (given_at gs p) }

-- a table with the values of those of these applications that are of its symbol, the last one's first
abbrev pub filled : List Tree → List Given → Table → List ℕ → Table
filled ts gs t [] = t
filled ts gs t (p ∷ ps) = if nat_eq (symbol_at ts p) t.symbol then with_place ts gs p (filled ts gs t ps) else filled ts gs t ps

abbrev pub default_of : Sort → Value
default_of Truths = Truth false
default_of Ints = Whole (pos 0)
default_of (Free s) = Element 0

abbrev pub empty_table : Declaration → Table
empty_table d = record { symbol = d.id; rows = []; default = default_of d.rank.result }

unfoldable pub table_of : List Tree → List Given → List ℕ → Declaration → Table
table_of ts gs ps d = filled ts gs (empty_table d) ps

-- one for each declared function
abbrev pub tables_of : List Tree → List Given → List ℕ → List Declaration → List Table
tables_of ts gs ps [] = []
tables_of ts gs ps (d ∷ ds) = if is_symbol d then table_of ts gs ps d ∷ tables_of ts gs ps ds else tables_of ts gs ps ds
