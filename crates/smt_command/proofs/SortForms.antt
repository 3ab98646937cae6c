-- The forms of `define-sort` and `declare-fun`, by a name, a list and a sort.
use Rattle.std.proofs.Common.{◌≡◌, ℕ, List, Option, Some, None, Result, Ok, Err, refl}
use Rattle.smt_meaning.specs.declared.tokens.Token.TheVariants.{Symbol}
use Rattle.smt_meaning.specs.declared.refusals.Refusal.{Refusal}
use Rattle.smt_meaning.specs.declared.refusals.Refusal.TheVariants.{WrongArguments}
use Rattle.smt_meaning.specs.declared.commands.Command.{Command}
use Rattle.smt_meaning.specs.declared.commands.Command.TheVariants.{DefineSort, DeclareFun}
use Rattle.smt_meaning.specs.declared.commands.WrittenSort.{WrittenSort}
use Rattle.smt_meaning.specs.Sexp.{Sexps, word, group, end, ◌▸◌}
use Rattle.smt_meaning.specs.Command.{each, symbol, written_sort, define_sort, define_sort_of, declare_fun, declare_fun_of}
use Rattle.smt_command.specs.declared.forms.NameListSort.{NameListSort}
use Rattle.smt_command.specs.Values.{name_list_sort, name_list_sort_of}

-- the command of a name, a list and a sort, where they could be read
abbrev pub command_of : {A : Type 0} → (List ℕ → List A → WrittenSort → Command) → Option (NameListSort A) → Result Command Refusal
command_of command None = Err WrongArguments
command_of command (Some read) = Ok (command read.name read.items read.sort)

sort_of_read : (n : List ℕ) (xs : Option (List (List ℕ))) (s : Option WrittenSort) → define_sort_of n xs s ≡ command_of DefineSort (name_list_sort_of n xs s)
sort_of_read n (Some xs) (Some s) = refl
sort_of_read n (Some xs) None = refl
sort_of_read n None s = refl

pub sort_read : (ss : Sexps) → define_sort ss ≡ command_of DefineSort (name_list_sort symbol ss)
sort_read (word (Symbol n) ▸ group xs ▸ s ▸ end) = sort_of_read n (each symbol xs) (written_sort s)
sort_read _ = refl

function_of_read : (n : List ℕ) (xs : Option (List WrittenSort)) (s : Option WrittenSort) → declare_fun_of n xs s ≡ command_of DeclareFun (name_list_sort_of n xs s)
function_of_read n (Some xs) (Some s) = refl
function_of_read n (Some xs) None = refl
function_of_read n None s = refl

pub function_read : (ss : Sexps) → declare_fun ss ≡ command_of DeclareFun (name_list_sort written_sort ss)
function_read (word (Symbol n) ▸ group xs ▸ s ▸ end) = function_of_read n (each written_sort xs) (written_sort s)
function_read _ = refl
