-- The values of options, numbers of levels, and definitions.
use Rattle.std.specs.Prelude.{ℕ, ℤ, pos, List, Bool, true, false, Option, Some, None, Result, Ok, Err, bytes_eq, codes, if◌then◌else◌}
use Rattle.smt_meaning.specs.declared.tokens.Token.{Token}
use Rattle.smt_meaning.specs.declared.tokens.Token.TheVariants.{Numeral, Symbol, Keyword}
use Rattle.smt_meaning.specs.declared.refusals.Refusal.{Refusal}
use Rattle.smt_meaning.specs.declared.refusals.Refusal.TheVariants.{NumeralTooLarge, WrongArguments}
use Rattle.smt_meaning.specs.declared.commands.Parameter.{Parameter}
use Rattle.smt_meaning.specs.declared.commands.Command.{Command}
use Rattle.smt_meaning.specs.declared.commands.WrittenSort.{WrittenSort}
use Rattle.smt_meaning.specs.Command.{each, written_sort, define_fun_of}
use Rattle.smt_meaning.specs.Sexp.{Sexp, Sexps, word, group, end, ◌▸◌}
use Rattle.smt_meaning.specs.Sorts.{decimal, is_small}
use Rattle.smt_command.specs.Arguments.{token_in}
use Rattle.smt_command.specs.declared.forms.NameListSort.{NameListSort}

-- the number that digits write, where it is at most 2^127 - 1
unfoldable pub small_number : List ℕ → Result ℤ Refusal
small_number cs = if is_small (decimal cs) then Ok (pos (decimal cs)) else Err NumeralTooLarge

-- the token that a value is, or none for a list; a keyword is no value
abbrev pub only_value : Sexps → Option (Option Token)
only_value (word (Keyword v) ▸ end) = None
only_value (s ▸ end) = Some (token_in s)
only_value _ = None

-- a value again: all lists serve alike
abbrev pub value_sexp : Option Token → Sexp
value_sexp (Some t) = word t
value_sexp None = group end

-- the symbol true or false
abbrev pub truth_in : Option Token → Result Bool Refusal
truth_in (Some (Symbol n)) = if bytes_eq n (codes "true") then Ok true else if bytes_eq n (codes "false") then Ok false else Err WrongArguments
truth_in _ = Err WrongArguments

abbrev pub number_in : Option Token → Result ℤ Refusal
number_in (Some (Numeral cs)) = small_number cs
number_in _ = Err WrongArguments

-- nothing, which means 1, or a numeral
abbrev pub level_count : Sexps → Result ℤ Refusal
level_count end = Ok (pos 1)
level_count (word (Numeral cs) ▸ end) = small_number cs
level_count _ = Err WrongArguments

-- the sort and the body of a definition
abbrev pub with_body : List ℕ → List Parameter → Sexps → Result Command Refusal
with_body n ps (s ▸ t ▸ end) = define_fun_of n (Some ps) (written_sort s) t
with_body n ps _ = Err WrongArguments

-- a name, a list and a sort, where the list and the sort could be read
abbrev pub name_list_sort_of : {A : Type 0} → List ℕ → Option (List A) → Option WrittenSort → Option (NameListSort A)
name_list_sort_of n (Some xs) (Some s) = Some (record { name = n; items = xs; sort = s })
name_list_sort_of n _ _ = None

-- symbol, (item ..), sort
abbrev pub name_list_sort : {A : Type 0} → (Sexp → Option A) → Sexps → Option (NameListSort A)
name_list_sort f (word (Symbol n) ▸ group xs ▸ s ▸ end) = name_list_sort_of n (each f xs) (written_sort s)
name_list_sort f _ = None
