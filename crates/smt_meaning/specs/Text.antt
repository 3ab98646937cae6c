-- The bytes of replies (SMT-LIB 2.6, section 4.1).
use Rattle.std.specs.Prelude.{ℕ, ◌+◌, ℤ, pos, negsuc, Bool, true, false, not, ◌&&◌, List, [], ◌∷◌, ◌++◌, map, codes, nat_eq, if◌then◌else◌}
use Rattle.std.specs.Fmt.{decimal}
use Rattle.smt_meaning.specs.declared.tokens.Token.{Token}
use Rattle.smt_meaning.specs.declared.tokens.Token.TheVariants.{Enter, Leave, Numeral, Decimal, Hex, Binary, Text, Symbol, Reserved, Keyword}
use Rattle.smt_meaning.specs.declared.tokens.FaultKind.{FaultKind}
use Rattle.smt_meaning.specs.declared.tokens.FaultKind.TheVariants.{Character, Closing, Unfinished, Nesting}
use Rattle.smt_meaning.specs.declared.refusals.Refusal.{Refusal}
use Rattle.smt_meaning.specs.declared.refusals.Refusal.TheVariants.{NumeralTooLarge, WrongArguments, AlreadyDeclared, UnknownSymbol, ArgumentCount, SortsDiffer, NotLinear, NotBool, PopPastLevelZero, TooManyLevels, ReservedName, TooManyTerms, TooManySymbols}
use Rattle.smt_meaning.specs.declared.errors.Error.{Error}
use Rattle.smt_meaning.specs.declared.errors.Error.TheVariants.{Fault, NotCommand, UnknownCommand, NoUnknownAnswer, LogicAlreadySet, OptionTooLate, NoModel, OptionIsOff, ValueTooLarge, NotUnsat, Refused}
use Rattle.smt_meaning.specs.declared.options.OptionValue.{OptionValue}
use Rattle.smt_meaning.specs.declared.options.OptionValue.TheVariants as Shown
use Rattle.smt_meaning.specs.declared.options.UnknownReason.{UnknownReason}
use Rattle.smt_meaning.specs.declared.options.UnknownReason.TheVariants.{Memout, Incomplete}
use Rattle.smt_meaning.specs.declared.options.Info.{Info}
use Rattle.smt_meaning.specs.declared.options.Info.TheVariants.{Name, Version, Authors, ErrorBehavior, AssertionStackLevels, ReasonUnknown}
use Rattle.smt_meaning.specs.declared.answers.PrintedValue.{PrintedValue}
use Rattle.smt_meaning.specs.declared.answers.PrintedValue.TheVariants.{Truth, Whole, Element}
use Rattle.smt_meaning.specs.declared.answers.TermValue.{TermValue}
use Rattle.smt_meaning.specs.declared.answers.NamedTruth.{NamedTruth}
use Rattle.smt_meaning.specs.declared.answers.PrintedRow.{PrintedRow}
use Rattle.smt_meaning.specs.declared.answers.PrintedFunction.{PrintedFunction}
use Rattle.smt_meaning.specs.declared.answers.Reply.{Reply}
use Rattle.smt_meaning.specs.declared.answers.Reply.TheVariants as Given
use Rattle.smt_meaning.specs.Reading.{is_simple_symbol, reserved_word, spelling}
use Rattle.smt_meaning.specs.Sexp.{Sexp, Sexps, word, group, end, ◌▸◌, sexp}
use Rattle.smt_meaning.specs.Signature.{is_one_of, is_some}
use Rattle.smt_meaning.specs.Command.{Form, standard_forms, option_word}

-- ---- lists

-- with one space between neighbours
abbrev pub spaced : List (List ℕ) → List ℕ
spaced [] = []
spaced (t ∷ []) = t
spaced (t ∷ u ∷ us) = t ++ 32 ∷ spaced (u ∷ us)

abbrev pub listed : List (List ℕ) → List ℕ
listed ts = 40 ∷ (spaced ts ++ 41 ∷ [])

-- ---- tokens and s-expressions

-- the standard's further reserved words: five, and the names of commands
abbrev pub further_reserved_words : List (List ℕ)
further_reserved_words =
    codes "BINARY" ∷ codes "DECIMAL" ∷ codes "HEXADECIMAL" ∷ codes "NUMERAL" ∷ codes "STRING" ∷ map (λ (p : List ℕ × Form). p.0) standard_forms

abbrev pub is_plain : List ℕ → Bool
is_plain n = is_simple_symbol n && not (is_some (reserved_word n)) && not (is_one_of n further_reserved_words)

-- plainly, or between bars
unfoldable pub symbol_text : List ℕ → List ℕ
symbol_text n = if is_plain n then n else 124 ∷ (n ++ 124 ∷ [])

abbrev pub quotes_doubled : List ℕ → List ℕ
quotes_doubled [] = []
quotes_doubled (c ∷ cs) = if nat_eq c 34 then 34 ∷ 34 ∷ quotes_doubled cs else c ∷ quotes_doubled cs

-- between quotes, with each quote inside doubled
abbrev pub literal : List ℕ → List ℕ
literal cs = 34 ∷ (quotes_doubled cs ++ 34 ∷ [])

abbrev pub keyword_text : List ℕ → List ℕ
keyword_text k = 58 ∷ k

abbrev pub token_text : Token → List ℕ
token_text Enter = 40 ∷ []
token_text Leave = 41 ∷ []
token_text (Numeral cs) = cs
token_text (Decimal cs) = cs
token_text (Hex cs) = cs
token_text (Binary cs) = cs
token_text (Text cs) = literal cs
token_text (Symbol n) = symbol_text n
token_text (Reserved w) = spelling w
token_text (Keyword k) = keyword_text k

abbrev mutual
  pub sexp_text : Sexp → List ℕ
  sexp_text (word t) = token_text t
  sexp_text (group ss) = listed (texts ss)

  pub texts : Sexps → List (List ℕ)
  texts end = []
  texts (s ▸ ss) = sexp_text s ∷ texts ss

-- the text of an s-expression that is kept as its tokens
abbrev pub tokens_text : List Token → List ℕ
tokens_text ts = sexp_text (sexp ts)

-- ---- values

abbrev pub truth_text : Bool → List ℕ
truth_text true = codes "true"
truth_text false = codes "false"

-- n, or (- n) below 0
abbrev pub integer_text : ℤ → List ℕ
integer_text (pos n) = decimal n
integer_text (negsuc n) = listed (codes "-" ∷ decimal (n + 1) ∷ [])

-- element n of the sort S is @S!n
abbrev pub element_name : ℕ → List ℕ → List ℕ
element_name n s = codes "@" ++ s ++ codes "!" ++ decimal n

abbrev pub value_text : PrintedValue → List ℕ
value_text (Truth b) = truth_text b
value_text (Whole n) = integer_text n
value_text (Element n s) = listed (codes "as" ∷ symbol_text (element_name n s) ∷ symbol_text s ∷ [])

-- (t v)
abbrev pub term_value_text : TermValue → List ℕ
term_value_text v = listed (tokens_text v.term ∷ value_text v.value ∷ [])

-- (n v)
abbrev pub named_truth_text : NamedTruth → List ℕ
named_truth_text v = listed (symbol_text v.name ∷ truth_text v.value ∷ [])

-- ---- models

-- the k-th parameter
abbrev pub parameter_name : ℕ → List ℕ
parameter_name k = codes "x!" ++ decimal k

-- (x!k S) and those after it
abbrev pub parameters_from : ℕ → List (List ℕ) → List (List ℕ)
parameters_from k [] = []
parameters_from k (s ∷ ss) = listed (parameter_name k ∷ symbol_text s ∷ []) ∷ parameters_from (k + 1) ss

-- (= x!k a) and those after it
abbrev pub equations_from : ℕ → List PrintedValue → List (List ℕ)
equations_from k [] = []
equations_from k (v ∷ vs) = listed (codes "=" ∷ parameter_name k ∷ value_text v ∷ []) ∷ equations_from (k + 1) vs

-- one equation stands alone
abbrev pub conjunction : List (List ℕ) → List ℕ
conjunction (e ∷ []) = e
conjunction es = listed (codes "and" ∷ es)

-- the default, or (ite C v B) for the first row, where B goes on with the others
abbrev pub rows_text : List PrintedRow → PrintedValue → List ℕ
rows_text [] default = value_text default
rows_text (r ∷ rs) default = listed (codes "ite" ∷ conjunction (equations_from 0 r.arguments) ∷ value_text r.value ∷ rows_text rs default ∷ [])

-- (define-fun N (P ..) R B)
abbrev pub function_text : PrintedFunction → List ℕ
function_text f =
    listed (codes "define-fun" ∷ symbol_text f.name ∷ listed (parameters_from 0 f.arguments) ∷ symbol_text f.result ∷ rows_text f.rows f.default ∷ [])

-- ---- options and information

abbrev pub option_text : OptionValue → List ℕ
option_text (Shown.Truth b) = truth_text b
option_text (Shown.Number n) = integer_text n
option_text (Shown.Text t) = literal t

abbrev pub reason_text : UnknownReason → List ℕ
reason_text Memout = codes "memout"
reason_text Incomplete = codes "incomplete"

abbrev pub info_text : Info → List ℕ
info_text Name = codes "(:name \"smt_cli\")"
info_text Version = codes "(:version \"1.0\")"
info_text Authors = codes "(:authors \"the smt_cli team\")"
info_text ErrorBehavior = codes "(:error-behavior continued-execution)"
info_text (AssertionStackLevels n) = listed (codes ":assertion-stack-levels" ∷ decimal n ∷ [])
info_text (ReasonUnknown r) = listed (codes ":reason-unknown" ∷ reason_text r ∷ [])

-- ---- errors

abbrev pub fault_text : FaultKind → List ℕ
fault_text Character = codes "E1 character at byte "
fault_text Closing = codes "E2 closing parenthesis at byte "
fault_text Unfinished = codes "E3 end inside a command at byte "
fault_text Nesting = codes "E4 nesting past 10000 at byte "

-- why the command of a name is refused
abbrev pub refusal_text : List ℕ → Refusal → List ℕ
refusal_text c NumeralTooLarge = codes "E5 numeral past 128 bits"
refusal_text c WrongArguments = codes "E8 wrong arguments: " ++ c
refusal_text c (AlreadyDeclared n) = codes "E12 name already declared: " ++ symbol_text n
refusal_text c (UnknownSymbol t) = codes "E13 unknown symbol: " ++ token_text t
refusal_text c (ArgumentCount n) = codes "E14 number of arguments: " ++ symbol_text n
refusal_text c (SortsDiffer n) = codes "E15 sorts differ: " ++ symbol_text n
refusal_text c NotLinear = codes "E16 not linear"
refusal_text c NotBool = codes "E17 not Bool"
refusal_text c PopPastLevelZero = codes "E18 pop past level 0"
refusal_text c TooManyLevels = codes "E19 too many levels"
refusal_text c (ReservedName n) = codes "E24 reserved name: " ++ symbol_text n
refusal_text c TooManyTerms = codes "E25 too many terms"
refusal_text c TooManySymbols = codes "E25 too many symbols"

abbrev pub error_text : Error → List ℕ
error_text (Fault kind at) = fault_text kind ++ decimal at
error_text NotCommand = codes "E6 not a command"
error_text (UnknownCommand n) = codes "E7 unknown command: " ++ symbol_text n
error_text NoUnknownAnswer = codes "E9 no unknown answer"
error_text LogicAlreadySet = codes "E10 logic already set"
error_text (OptionTooLate o) = codes "E11 option too late: " ++ keyword_text (option_word o)
error_text NoModel = codes "E20 no model"
error_text (OptionIsOff o) = codes "E21 option is off: " ++ keyword_text (option_word o)
error_text ValueTooLarge = codes "E22 value past 128 bits"
error_text NotUnsat = codes "E23 not in unsat mode"
error_text (Refused c r) = refusal_text c r

-- ---- replies

abbrev pub line : List ℕ → List ℕ
line t = t ++ 10 ∷ []

-- a reply ends with a line feed; a success that isn't printed has no bytes
unfoldable pub text : Reply → List ℕ
text Given.Success = line (codes "success")
text Given.Silent = []
text Given.Unsupported = line (codes "unsupported")
text Given.Sat = line (codes "sat")
text Given.Unsat = line (codes "unsat")
text Given.Unknown = line (codes "unknown")
text (Given.Echo t) = line (literal t)
text (Given.Option v) = line (option_text v)
text (Given.Info i) = line (info_text i)
text (Given.Values vs) = line (listed (map term_value_text vs))
text (Given.Model fs) = line (listed (map function_text fs))
text (Given.Assertions ts) = line (listed (map tokens_text ts))
text (Given.Assignment vs) = line (listed (map named_truth_text vs))
text (Given.UnsatCore ns) = line (listed (map symbol_text ns))
text (Given.UnsatAssumptions ts) = line (listed (map tokens_text ts))
text (Given.Minimum n) = line (listed (codes "minimum" ∷ integer_text n ∷ []))
text (Given.Error e) = line (listed (codes "error" ∷ literal (error_text e) ∷ []))
