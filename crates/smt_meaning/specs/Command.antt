-- What an s-expression is as a command, or why it is none (SMT-LIB 2.6, section 4.2).
use Rattle.std.specs.Prelude.{ℕ, ℤ, pos, Bool, true, false, List, [], ◌∷◌, map, ◌++◌, Option, Some, None, Result, Ok, Err, bytes_eq, codes, if◌then◌else◌}
use Rattle.smt_meaning.specs.declared.tokens.Token.{Token}
use Rattle.smt_meaning.specs.declared.tokens.Token.TheVariants.{Numeral, Text, Symbol, Keyword}
use Rattle.smt_meaning.specs.declared.refusals.Refusal.{Refusal}
use Rattle.smt_meaning.specs.declared.refusals.Refusal.TheVariants.{NumeralTooLarge, WrongArguments}
use Rattle.smt_meaning.specs.declared.errors.Error.{Error}
use Rattle.smt_meaning.specs.declared.errors.Error.TheVariants.{NotCommand, UnknownCommand, Refused}
use Rattle.smt_meaning.specs.declared.options.Channel.TheVariants.{Stdout, Stderr}
use Rattle.smt_meaning.specs.declared.options.OptionName.{OptionName}
use Rattle.smt_meaning.specs.declared.options.OptionName.TheVariants as Named
use Rattle.smt_meaning.specs.declared.options.OptionSetting.{OptionSetting}
use Rattle.smt_meaning.specs.declared.options.OptionSetting.TheVariants.{PrintSuccess, RegularOutputChannel, DiagnosticOutputChannel, Verbosity, ReproducibleResourceLimit, RandomSeed, ProduceModels, ProduceAssertions, InteractiveMode, ProduceAssignments, GlobalDeclarations, ProduceUnsatCores, ProduceUnsatAssumptions}
use Rattle.smt_meaning.specs.declared.options.InfoName.{InfoName}
use Rattle.smt_meaning.specs.declared.options.InfoName.TheVariants.{Name as NameInfo, Version, Authors, ErrorBehavior, AssertionStackLevels, ReasonUnknown}
use Rattle.smt_meaning.specs.declared.commands.WrittenSort.{WrittenSort}
use Rattle.smt_meaning.specs.declared.commands.WrittenSort.TheVariants.{Name, Applied}
use Rattle.smt_meaning.specs.declared.commands.Parameter.{Parameter}
use Rattle.smt_meaning.specs.declared.commands.Command.{Command}
use Rattle.smt_meaning.specs.declared.commands.Command.TheVariants.{SetLogic, SetOption, GetOption, SetInfo, GetInfo, Echo, Exit, Reset, ResetAssertions, DeclareSort, DefineSort, DeclareConst, DeclareFun, DefineFun, Assert, CheckSat, CheckSatAssuming, Push, Pop, GetValue, GetModel, GetAssertions, GetAssignment, GetUnsatCore, GetUnsatAssumptions, Minimize, LeftOut}
use Rattle.smt_meaning.specs.Sexp.{Sexp, Sexps, word, group, end, ◌▸◌, tokens}
use Rattle.smt_meaning.specs.Signature.{look_up}
use Rattle.smt_meaning.specs.Sorts.{decimal, is_small}

-- the arguments of a command
abbrev pub Form : Type 0
Form = Sexps → Result Command Refusal

abbrev pub wrong : Result Command Refusal
wrong = Err WrongArguments

-- ---- parts

abbrev pub cons_some : {A : Type 0} → Option A → Option (List A) → Option (List A)
cons_some (Some a) (Some rest) = Some (a ∷ rest)
cons_some _ _ = None

-- each s-expression of a list read in one way, or none where one can't be
abbrev pub each : {A : Type 0} → (Sexp → Option A) → Sexps → Option (List A)
each f end = Some []
each f (s ▸ ss) = cons_some (f s) (each f ss)

abbrev pub symbol : Sexp → Option (List ℕ)
symbol (word (Symbol n)) = Some n
symbol _ = None

-- a symbol, or a list that begins with one
abbrev pub written_sort : Sexp → Option WrittenSort
written_sort (word (Symbol n)) = Some (Name n)
written_sort (group (word (Symbol n) ▸ ss)) = Some (Applied n)
written_sort _ = None

abbrev pub with_sort : List ℕ → Option WrittenSort → Option Parameter
with_sort n None = None
with_sort n (Some s) = Some (record { name = n; sort = s })

-- (symbol sort)
abbrev pub parameter : Sexp → Option Parameter
parameter (group (word (Symbol n) ▸ s ▸ end)) = with_sort n (written_sort s)
parameter _ = None

abbrev pub terms : Sexps → List (List Token)
terms end = []
terms (t ▸ ts) = tokens t ∷ terms ts

-- a numeral of at most 2^127 - 1
abbrev pub with_numeral : (ℤ → Command) → List ℕ → Result Command Refusal
with_numeral c cs = if is_small (decimal cs) then Ok (c (pos (decimal cs))) else Err NumeralTooLarge

-- ---- options and information

abbrev pub option_word : OptionName → List ℕ
option_word Named.PrintSuccess = codes "print-success"
option_word Named.RegularOutputChannel = codes "regular-output-channel"
option_word Named.DiagnosticOutputChannel = codes "diagnostic-output-channel"
option_word Named.Verbosity = codes "verbosity"
option_word Named.ReproducibleResourceLimit = codes "reproducible-resource-limit"
option_word Named.RandomSeed = codes "random-seed"
option_word Named.ProduceModels = codes "produce-models"
option_word Named.ProduceAssertions = codes "produce-assertions"
option_word Named.InteractiveMode = codes "interactive-mode"
option_word Named.ProduceAssignments = codes "produce-assignments"
option_word Named.GlobalDeclarations = codes "global-declarations"
option_word Named.ProduceUnsatCores = codes "produce-unsat-cores"
option_word Named.ProduceUnsatAssumptions = codes "produce-unsat-assumptions"

abbrev pub with_word : OptionName → List ℕ × OptionName
with_word o = (option_word o, o)

abbrev pub option_names : List (List ℕ × OptionName)
option_names =
    map with_word (Named.PrintSuccess ∷ Named.RegularOutputChannel ∷ Named.DiagnosticOutputChannel ∷ Named.Verbosity
    ∷ Named.ReproducibleResourceLimit ∷ Named.RandomSeed ∷ Named.ProduceModels ∷ Named.ProduceAssertions ∷ Named.InteractiveMode
    ∷ Named.ProduceAssignments ∷ Named.GlobalDeclarations ∷ Named.ProduceUnsatCores ∷ Named.ProduceUnsatAssumptions ∷ [])

-- the symbol true or false
abbrev pub truth_setting : (Bool → OptionSetting) → Sexp → Result Command Refusal
truth_setting o (word (Symbol n)) =
    if bytes_eq n (codes "true") then Ok (SetOption (o true))
    else if bytes_eq n (codes "false") then Ok (SetOption (o false))
    else wrong
truth_setting o _ = wrong

abbrev pub numeral_setting : (ℤ → OptionSetting) → Sexp → Result Command Refusal
numeral_setting o (word (Numeral cs)) = with_numeral (λ n. SetOption (o n)) cs
numeral_setting o _ = wrong

-- a channel that isn't there is answered unsupported
abbrev pub regular_channel : Sexp → Result Command Refusal
regular_channel (word (Text t)) = if bytes_eq t (codes "stdout") then Ok (SetOption RegularOutputChannel) else Ok LeftOut
regular_channel _ = wrong

abbrev pub diagnostic_channel : Sexp → Result Command Refusal
diagnostic_channel (word (Text t)) =
    if bytes_eq t (codes "stdout") then Ok (SetOption (DiagnosticOutputChannel Stdout))
    else if bytes_eq t (codes "stderr") then Ok (SetOption (DiagnosticOutputChannel Stderr))
    else Ok LeftOut
diagnostic_channel _ = wrong

abbrev pub setting : OptionName → Sexp → Result Command Refusal
setting Named.PrintSuccess = truth_setting PrintSuccess
setting Named.RegularOutputChannel = regular_channel
setting Named.DiagnosticOutputChannel = diagnostic_channel
setting Named.Verbosity = numeral_setting Verbosity
setting Named.ReproducibleResourceLimit = numeral_setting ReproducibleResourceLimit
setting Named.RandomSeed = numeral_setting RandomSeed
setting Named.ProduceModels = truth_setting ProduceModels
setting Named.ProduceAssertions = truth_setting ProduceAssertions
setting Named.InteractiveMode = truth_setting InteractiveMode
setting Named.ProduceAssignments = truth_setting ProduceAssignments
setting Named.GlobalDeclarations = truth_setting GlobalDeclarations
setting Named.ProduceUnsatCores = truth_setting ProduceUnsatCores
setting Named.ProduceUnsatAssumptions = truth_setting ProduceUnsatAssumptions

abbrev pub info_names : List (List ℕ × InfoName)
info_names =
    (codes "name", NameInfo) ∷ (codes "version", Version) ∷ (codes "authors", Authors) ∷ (codes "error-behavior", ErrorBehavior)
    ∷ (codes "assertion-stack-levels", AssertionStackLevels) ∷ (codes "reason-unknown", ReasonUnknown) ∷ []

-- ---- commands

-- nothing
abbrev pub bare : Command → Form
bare c end = Ok c
bare c _ = wrong

-- symbol
abbrev pub set_logic : Form
set_logic (word (Symbol n) ▸ end) = Ok (SetLogic n)
set_logic _ = wrong

abbrev pub setting_of : Option OptionName → Sexp → Result Command Refusal
setting_of None v = Ok LeftOut
setting_of (Some o) v = setting o v

-- keyword, value, which is no keyword; an unknown option is left out
abbrev pub set_option : Form
set_option (word (Keyword k) ▸ word (Keyword v) ▸ end) = wrong
set_option (word (Keyword k) ▸ v ▸ end) = setting_of (look_up k option_names) v
set_option _ = wrong

abbrev pub get_option_of : Option OptionName → Command
get_option_of None = LeftOut
get_option_of (Some o) = GetOption o

-- keyword
abbrev pub get_option : Form
get_option (word (Keyword k) ▸ end) = Ok (get_option_of (look_up k option_names))
get_option _ = wrong

-- keyword, and perhaps a value, which is no keyword
abbrev pub set_info : Form
set_info (word (Keyword k) ▸ end) = Ok SetInfo
set_info (word (Keyword k) ▸ word (Keyword v) ▸ end) = wrong
set_info (word (Keyword k) ▸ v ▸ end) = Ok SetInfo
set_info _ = wrong

abbrev pub get_info_of : Option InfoName → Command
get_info_of None = LeftOut
get_info_of (Some i) = GetInfo i

-- keyword
abbrev pub get_info : Form
get_info (word (Keyword k) ▸ end) = Ok (get_info_of (look_up k info_names))
get_info _ = wrong

-- text
abbrev pub echo : Form
echo (word (Text t) ▸ end) = Ok (Echo t)
echo _ = wrong

-- symbol, numeral
abbrev pub declare_sort : Form
declare_sort (word (Symbol n) ▸ word (Numeral cs) ▸ end) = with_numeral (DeclareSort n) cs
declare_sort _ = wrong

abbrev pub define_sort_of : List ℕ → Option (List (List ℕ)) → Option WrittenSort → Result Command Refusal
define_sort_of n (Some ps) (Some s) = Ok (DefineSort n ps s)
define_sort_of n _ _ = wrong

-- symbol, (symbol ..), sort
abbrev pub define_sort : Form
define_sort (word (Symbol n) ▸ group ps ▸ s ▸ end) = define_sort_of n (each symbol ps) (written_sort s)
define_sort _ = wrong

abbrev pub declare_const_of : List ℕ → Option WrittenSort → Result Command Refusal
declare_const_of n (Some s) = Ok (DeclareConst n s)
declare_const_of n None = wrong

-- symbol, sort
abbrev pub declare_const : Form
declare_const (word (Symbol n) ▸ s ▸ end) = declare_const_of n (written_sort s)
declare_const _ = wrong

abbrev pub declare_fun_of : List ℕ → Option (List WrittenSort) → Option WrittenSort → Result Command Refusal
declare_fun_of n (Some ss) (Some s) = Ok (DeclareFun n ss s)
declare_fun_of n _ _ = wrong

-- symbol, (sort ..), sort
abbrev pub declare_fun : Form
declare_fun (word (Symbol n) ▸ group ss ▸ s ▸ end) = declare_fun_of n (each written_sort ss) (written_sort s)
declare_fun _ = wrong

abbrev pub define_fun_of : List ℕ → Option (List Parameter) → Option WrittenSort → Sexp → Result Command Refusal
define_fun_of n (Some ps) (Some s) t = Ok (DefineFun n ps s (tokens t))
define_fun_of n _ _ t = wrong

-- symbol, ((symbol sort) ..), sort, term
abbrev pub define_fun : Form
define_fun (word (Symbol n) ▸ group ps ▸ s ▸ t ▸ end) = define_fun_of n (each parameter ps) (written_sort s) t
define_fun _ = wrong

-- term
abbrev pub assert_form : Form
assert_form (t ▸ end) = Ok (Assert (tokens t))
assert_form _ = wrong

-- term
abbrev pub minimize : Form
minimize (t ▸ end) = Ok (Minimize (tokens t))
minimize _ = wrong

-- nothing, which means 1, or a numeral
abbrev pub levels : (ℤ → Command) → Form
levels c end = Ok (c (pos 1))
levels c (word (Numeral cs) ▸ end) = with_numeral c cs
levels c _ = wrong

-- (term ..), with a term or more
abbrev pub get_value : Form
get_value (group (t ▸ ts) ▸ end) = Ok (GetValue (tokens t ∷ terms ts))
get_value _ = wrong

-- (term ..)
abbrev pub check_sat_assuming : Form
check_sat_assuming (group ts ▸ end) = Ok (CheckSatAssuming (terms ts))
check_sat_assuming _ = wrong

-- anything
abbrev pub left_out : Form
left_out ss = Ok LeftOut

-- the standard's commands: each one's name, and the form of its arguments
abbrev pub standard_forms : List (List ℕ × Form)
standard_forms =
    (codes "set-logic", set_logic) ∷ (codes "set-option", set_option) ∷ (codes "get-option", get_option)
    ∷ (codes "set-info", set_info) ∷ (codes "get-info", get_info) ∷ (codes "echo", echo)
    ∷ (codes "exit", bare Exit) ∷ (codes "reset", bare Reset) ∷ (codes "reset-assertions", bare ResetAssertions)
    ∷ (codes "declare-sort", declare_sort) ∷ (codes "define-sort", define_sort) ∷ (codes "declare-const", declare_const)
    ∷ (codes "declare-fun", declare_fun) ∷ (codes "define-fun", define_fun) ∷ (codes "assert", assert_form)
    ∷ (codes "check-sat", bare CheckSat) ∷ (codes "push", levels Push) ∷ (codes "pop", levels Pop)
    ∷ (codes "get-value", get_value) ∷ (codes "get-model", bare GetModel) ∷ (codes "get-assertions", bare GetAssertions)
    ∷ (codes "check-sat-assuming", check_sat_assuming) ∷ (codes "get-assignment", bare GetAssignment) ∷ (codes "get-proof", left_out)
    ∷ (codes "get-unsat-core", bare GetUnsatCore) ∷ (codes "get-unsat-assumptions", bare GetUnsatAssumptions) ∷ (codes "define-fun-rec", left_out)
    ∷ (codes "define-funs-rec", left_out) ∷ (codes "declare-datatype", left_out) ∷ (codes "declare-datatypes", left_out) ∷ []

-- and the question for a least value, which is no command of the standard
abbrev pub forms : List (List ℕ × Form)
forms = standard_forms ++ (codes "minimize", minimize) ∷ []

-- ---- s-expressions

-- a refusal in the command of this name
abbrev pub within : {A : Type 0} → List ℕ → Result A Refusal → Result A Error
within n (Ok a) = Ok a
within n (Err r) = Err (Refused n r)

abbrev pub formed : List ℕ → Option Form → Sexps → Result Command Error
formed n None ss = Err (UnknownCommand n)
formed n (Some f) ss = within n (f ss)

-- the command that an s-expression is, or the error: it is no list that begins with a symbol, no command has the name, or the arguments haven't the command's form
unfoldable pub command : Sexp → Result Command Error
command (group (word (Symbol n) ▸ ss)) = formed n (look_up n forms) ss
command _ = Err NotCommand
