-- What a run has come to, and what each command does to it (SMT-LIB 2.6, sections 4.1 and 4.2).
use Rattle.std.specs.Prelude.{ℕ, ◌∷◌, pos, Bool, true, false, List, [], ◌++◌, codes, map, flat_map, Option, Some, None, nat_eq, ◌&&◌, if◌then◌else◌}
use Rattle.smt_meaning.specs.declared.values.Sort.{Sort}
use Rattle.smt_meaning.specs.declared.values.Sort.TheVariants.{Bool as Truths, Int as Ints, Free}
use Rattle.smt_meaning.specs.declared.values.Value.{Value}
use Rattle.smt_meaning.specs.declared.values.Value.TheVariants.{Truth, Whole, Element}
use Rattle.smt_meaning.specs.declared.values.Row.{Row}
use Rattle.smt_meaning.specs.declared.values.Table.{Table}
use Rattle.smt_meaning.specs.declared.settings.Settings.{Settings}
use Rattle.smt_meaning.specs.declared.tokens.Token.{Token}
use Rattle.smt_meaning.specs.Declaration.{Declaration, Body}
use Rattle.smt_meaning.specs.declared.errors.Error.{Error}
use Rattle.smt_meaning.specs.declared.errors.Error.TheVariants.{NoUnknownAnswer, LogicAlreadySet, OptionTooLate, NoModel, NotUnsat, OptionIsOff, ValueTooLarge, Refused}
use Rattle.smt_meaning.specs.declared.options.Channel.{Channel}
use Rattle.smt_meaning.specs.declared.options.Channel.TheVariants.{Stdout, Stderr}
use Rattle.smt_meaning.specs.declared.options.Options.{Options}
use Rattle.smt_meaning.specs.declared.options.OptionName.{OptionName}
use Rattle.smt_meaning.specs.declared.options.OptionName.TheVariants as Named
use Rattle.smt_meaning.specs.declared.options.OptionSetting.{OptionSetting}
use Rattle.smt_meaning.specs.declared.options.OptionSetting.TheVariants as Set
use Rattle.smt_meaning.specs.declared.options.OptionValue.{OptionValue}
use Rattle.smt_meaning.specs.declared.options.OptionValue.TheVariants as Shown
use Rattle.smt_meaning.specs.declared.options.InfoName.{InfoName}
use Rattle.smt_meaning.specs.declared.options.InfoName.TheVariants as Asked
use Rattle.smt_meaning.specs.declared.options.Info.TheVariants.{Name, Version, Authors, ErrorBehavior, AssertionStackLevels, ReasonUnknown}
use Rattle.smt_meaning.specs.declared.commands.Command.{Command}
use Rattle.smt_meaning.specs.declared.commands.Command.TheVariants.{SetLogic, SetOption, GetOption, SetInfo, GetInfo, Echo, Exit, Reset, ResetAssertions, DeclareSort, DefineSort, DeclareConst, DeclareFun, DefineFun, Assert, CheckSat, CheckSatAssuming, Push, Pop, GetValue, GetModel, GetAssertions, GetAssignment, GetUnsatCore, GetUnsatAssumptions, Minimize, LeftOut}
use Rattle.smt_meaning.specs.declared.answers.Mode.{Mode}
use Rattle.smt_meaning.specs.declared.answers.Mode.TheVariants as In
use Rattle.smt_meaning.specs.declared.answers.PrintedValue.{PrintedValue}
use Rattle.smt_meaning.specs.declared.answers.PrintedValue.TheVariants as Printed
use Rattle.smt_meaning.specs.declared.answers.TermValue.{TermValue}
use Rattle.smt_meaning.specs.declared.answers.NamedTruth.{NamedTruth}
use Rattle.smt_meaning.specs.declared.answers.PrintedRow.{PrintedRow}
use Rattle.smt_meaning.specs.declared.answers.PrintedFunction.{PrintedFunction}
use Rattle.smt_meaning.specs.declared.answers.Reply.{Reply}
use Rattle.smt_meaning.specs.declared.answers.Reply.TheVariants as Given
use Rattle.smt_meaning.specs.Term.{Tree, Interpretation, value, truth_of, fits}
use Rattle.smt_meaning.specs.Signature.{is_one_of, is_symbol, sort_eq}
use Rattle.smt_meaning.specs.Interpretation.{meaning}
use Rattle.smt_meaning.specs.Sorts.{Outcome, done, refused, Judging, Typed}
use Rattle.smt_meaning.specs.Stack.{Assertion, Frame, signature_of, depth}
use Rattle.smt_meaning.specs.Goal.{is_itself, goal_of}
use Rattle.smt_meaning.specs.StackCommand.{Stack, Change, clears, begins_again, is_unsupported, asks, assumes, sets, stack_command, scope_of, judged, changed}
use Rattle.smt_meaning.specs.StackCommand as Stacks

-- the settings of the words, the logic once it is set, the mode with the model that is kept, the options, the stack, and what stood above it at the
-- last check: the level of the assumptions, where there was one
pub record State : Type 0 where
  pub settings : Settings
  pub logic : Option (List ℕ)
  pub mode : Mode
  pub options : Options
  pub stack : Stack
  pub above : List Frame

-- the levels of the last check, while the stack is as it was then
abbrev pub checked_frames : State → List Frame
checked_frames s = s.stack.frames ++ s.above

-- ---- options

abbrev pub options_at_start : Settings → Options
options_at_start s =
    record {
      print_success = true;
      diagnostic_output_channel = Stderr;
      verbosity = pos 0;
      reproducible_resource_limit = s.units;
      random_seed = pos s.seed;
      produce_models = false;
      produce_assertions = false;
      produce_assignments = false;
      produce_unsat_cores = false;
      produce_unsat_assumptions = false;
    }

abbrev pub set : OptionSetting → Options → Options
set (Set.PrintSuccess b) o = record o { print_success = b }
set Set.RegularOutputChannel o = o
set (Set.DiagnosticOutputChannel c) o = record o { diagnostic_output_channel = c }
set (Set.Verbosity n) o = record o { verbosity = n }
set (Set.ReproducibleResourceLimit n) o = record o { reproducible_resource_limit = n }
set (Set.RandomSeed n) o = record o { random_seed = n }
set (Set.ProduceModels b) o = record o { produce_models = b }
set (Set.ProduceAssertions b) o = record o { produce_assertions = b }
set (Set.InteractiveMode b) o = record o { produce_assertions = b }
set (Set.ProduceAssignments b) o = record o { produce_assignments = b }
set (Set.ProduceUnsatCores b) o = record o { produce_unsat_cores = b }
set (Set.ProduceUnsatAssumptions b) o = record o { produce_unsat_assumptions = b }
-- it is the stack's
set (Set.GlobalDeclarations b) o = o

-- an option that is set at the start alone
abbrev pub start_option : OptionSetting → Option OptionName
start_option (Set.RandomSeed n) = Some Named.RandomSeed
start_option (Set.ProduceModels b) = Some Named.ProduceModels
start_option (Set.ProduceAssertions b) = Some Named.ProduceAssertions
start_option (Set.InteractiveMode b) = Some Named.InteractiveMode
start_option (Set.ProduceAssignments b) = Some Named.ProduceAssignments
start_option (Set.GlobalDeclarations b) = Some Named.GlobalDeclarations
start_option (Set.ProduceUnsatCores b) = Some Named.ProduceUnsatCores
start_option (Set.ProduceUnsatAssumptions b) = Some Named.ProduceUnsatAssumptions
start_option _ = None

abbrev pub channel_name : Channel → List ℕ
channel_name Stdout = codes "stdout"
channel_name Stderr = codes "stderr"

-- the value of an option, where declarations are global or not
abbrev pub option_value : Options → Bool → OptionName → OptionValue
option_value o global Named.PrintSuccess = Shown.Truth o.print_success
option_value o global Named.RegularOutputChannel = Shown.Text (channel_name Stdout)
option_value o global Named.DiagnosticOutputChannel = Shown.Text (channel_name o.diagnostic_output_channel)
option_value o global Named.Verbosity = Shown.Number o.verbosity
option_value o global Named.ReproducibleResourceLimit = Shown.Number o.reproducible_resource_limit
option_value o global Named.RandomSeed = Shown.Number o.random_seed
option_value o global Named.ProduceModels = Shown.Truth o.produce_models
option_value o global Named.ProduceAssertions = Shown.Truth o.produce_assertions
option_value o global Named.InteractiveMode = Shown.Truth o.produce_assertions
option_value o global Named.ProduceAssignments = Shown.Truth o.produce_assignments
option_value o global Named.GlobalDeclarations = Shown.Truth global
option_value o global Named.ProduceUnsatCores = Shown.Truth o.produce_unsat_cores
option_value o global Named.ProduceUnsatAssumptions = Shown.Truth o.produce_unsat_assumptions

-- ---- the start, and logics

abbrev pub start : Settings → State
start s = record { settings = s; logic = None; mode = In.Start; options = options_at_start s; stack = Stacks.start; above = [] }

-- the logics, which are all treated alike
abbrev pub logics : List (List ℕ)
logics = codes "QF_UFLIA" ∷ codes "QF_UF" ∷ codes "QF_LIA" ∷ codes "QF_IDL" ∷ codes "QF_UFIDL" ∷ codes "ALL" ∷ []

abbrev pub in_logic : Option (List ℕ) → State → State
in_logic None s = record s { logic = Some (codes "QF_UFLIA"); mode = In.Assert }
in_logic (Some n) s = s

-- the state where a command needs a logic: where none is set, QF_UFLIA is, and the mode is assert
abbrev pub with_logic : State → State
with_logic s = in_logic s.logic s

-- ---- what is printed of values

abbrev pub name_of_sort : ℕ → List Declaration → List ℕ
name_of_sort id [] = []
name_of_sort id (d ∷ ds) = if nat_eq id d.id && d.is_sort then d.name else name_of_sort id ds

abbrev pub sort_name : List Declaration → Sort → List ℕ
sort_name ds Truths = codes "Bool"
sort_name ds Ints = codes "Int"
sort_name ds (Free id) = name_of_sort id ds

-- a value of this sort
abbrev pub printed : List Declaration → Sort → Value → PrintedValue
printed ds s (Truth b) = Printed.Truth b
printed ds s (Whole n) = Printed.Whole n
printed ds s (Element e) = Printed.Element e (sort_name ds s)

abbrev pub printed_all : List Declaration → List Sort → List Value → List PrintedValue
printed_all ds [] vs = []
printed_all ds (s ∷ ss) [] = []
printed_all ds (s ∷ ss) (v ∷ vs) = printed ds s v ∷ printed_all ds ss vs

abbrev pub printed_row : List Declaration → Declaration → Row → PrintedRow
printed_row ds d r = record { arguments = printed_all ds d.rank.arguments r.arguments; value = printed ds d.rank.result r.value }

abbrev pub printed_function : List Declaration → Declaration → Table → PrintedFunction
printed_function ds d t =
    record {
      name = d.name;
      arguments = map (sort_name ds) d.rank.arguments;
      result = sort_name ds d.rank.result;
      rows = map (printed_row ds d) t.rows;
      default = printed ds d.rank.result t.default;
    }

-- the declared functions in order, each with its table
abbrev pub printed_functions : List Declaration → List Declaration → List Table → List PrintedFunction
printed_functions ds [] ts = []
printed_functions ds (d ∷ rest) [] = []
printed_functions ds (d ∷ rest) (t ∷ ts) =
    if is_symbol d then printed_function ds d t ∷ printed_functions ds rest ts else printed_functions ds rest (t ∷ ts)

-- each term as it was given, with its value
abbrev pub term_values : List Declaration → Interpretation → List (List Token) → List Typed → List TermValue
term_values ds I [] rest = []
term_values ds I (t ∷ ts) [] = []
term_values ds I (t ∷ ts) (a ∷ rest) = record { term = t; value = printed ds a.sort (value I a.tree) } ∷ term_values ds I ts rest

abbrev pub all_fit : Interpretation → List Typed → Bool
all_fit I [] = true
all_fit I (a ∷ rest) = fits I a.tree && all_fit I rest

-- the value of a name's term, which is Bool
abbrev pub truth_of_body : Interpretation → Option Body → Bool
truth_of_body I None = false
truth_of_body I (Some b) = truth_of (value I b.term)

abbrev pub is_truth_name : Declaration → Bool
is_truth_name d = d.is_name && sort_eq d.rank.result Truths

-- the names of Bool terms, in the order in which they were given, each with the value of its term
abbrev pub named_truths : Interpretation → List Declaration → List NamedTruth
named_truths I [] = []
named_truths I (d ∷ ds) = if is_truth_name d then record { name = d.name; value = truth_of_body I d.body } ∷ named_truths I ds else named_truths I ds

-- the partial results of a name's term are within the range: it may stand in a part of its assertion that isn't asserted
abbrev pub body_fits : Interpretation → Option Body → Bool
body_fits I None = true
body_fits I (Some b) = fits I b.term

abbrev pub named_fit : Interpretation → List Declaration → Bool
named_fit I [] = true
named_fit I (d ∷ ds) = if is_truth_name d then body_fits I d.body && named_fit I ds else named_fit I ds

abbrev pub texts_of : Frame → List (List Token)
texts_of f = map (λ (a : Assertion). a.text) f.asserted

-- which assertions a core is taken from
pub data Candidates : Type 0 where
  -- those of the stack that have a name; all others stay
  named : Candidates
  -- the assumptions of the last check; those of the stack stay
  assumed : Candidates

-- ---- what a command comes to

pub data Effect : Type 0 where
  -- an error, and nothing changes
  denied : (error : Error) → Effect
  -- unsupported, and nothing changes
  left_out : Effect
  -- success, and this state
  accepted : (new : State) → Effect
  -- this reply, and this state
  answered : (reply : Reply) (new : State) → Effect
  -- a check of this state: of its stack, and what stands above
  checked : (new : State) → Effect
  -- the least value of a term, as it is written and as a tree, in this state, above whose stack (= t t) stands
  minimizes : (text : List Token) (goal : Tree) (new : State) → Effect
  -- a core of the last check, among these of its assertions; nothing changes
  reduces : (among : Candidates) → Effect

-- in the mode of assertions
abbrev pub asserting : State → State
asserting s = record s { mode = In.Assert; above = [] }

-- it must hold, or this is the error
abbrev pub provided : Bool → Error → Effect → Effect
provided true e f = f
provided false e f = denied e

-- ---- logic, options and information

abbrev pub set_logic : State → List ℕ → Option (List ℕ) → Effect
set_logic s n (Some old) = denied LogicAlreadySet
set_logic s n None = if is_one_of n logics then accepted (asserting (record s { logic = Some n })) else left_out

abbrev pub is_start : Mode → Bool
is_start In.Start = true
is_start _ = false

abbrev pub with_option : OptionSetting → State → State
with_option o s = record s { options = set o s.options; stack = changed s.stack (sets o) (scope_of s.stack) }

abbrev pub set_option_in : State → OptionSetting → Option OptionName → Effect
set_option_in s o None = accepted (with_option o s)
set_option_in s o (Some n) = provided (is_start s.mode) (OptionTooLate n) (accepted (with_option o s))

-- why the last check was answered by unknown, where it was
abbrev pub reason_unknown : State → Mode → Effect
reason_unknown s (In.Unknown r) = answered (Given.Info (ReasonUnknown r)) s
reason_unknown s _ = denied NoUnknownAnswer

abbrev pub get_info : State → InfoName → Effect
get_info s Asked.Name = answered (Given.Info Name) s
get_info s Asked.Version = answered (Given.Info Version) s
get_info s Asked.Authors = answered (Given.Info Authors) s
get_info s Asked.ErrorBehavior = answered (Given.Info ErrorBehavior) s
get_info s Asked.AssertionStackLevels = answered (Given.Info (AssertionStackLevels (depth s.stack.frames))) s
get_info s Asked.ReasonUnknown = reason_unknown s s.mode

-- ---- the stack

-- the state with this stack, after a change
abbrev pub with_stack : State → Change → Stack → State
with_stack s begins_again new = start s.settings
with_stack s clears new = if is_start s.mode then record s { stack = new } else asserting (record s { stack = new })
with_stack s _ new = asserting (record (with_logic s) { stack = new })

abbrev pub on_stack : State → List ℕ → Outcome Change → Effect
on_stack s n (refused r) = denied (Refused n r)
on_stack s n (done is_unsupported c) = left_out
on_stack s n (done x c) = accepted (with_stack s x (changed s.stack x c))

-- a command of this name that works on the stack
abbrev pub stack_effect : State → List ℕ → Option (ℕ → Judging Change) → Effect
stack_effect s n None = left_out
stack_effect s n (Some c) = on_stack s n (judged c s.stack)

-- ---- questions

abbrev pub kept_model : Mode → Option (List Table)
kept_model (In.Sat i) = Some i
kept_model _ = None

-- the values of these terms under the kept model; their trees join the list
abbrev pub valued : State → List Table → List (List Token) → Outcome Change → Effect
valued s i ts (refused r) = denied (Refused (codes "get-value") r)
valued s i ts (done (asks terms) c) =
    provided (all_fit (meaning i) terms) ValueTooLarge
    (answered (Given.Values (term_values (signature_of s.stack.frames) (meaning i) ts terms)) (record s { stack = changed s.stack (asks terms) c }))
-- nothing else comes of a question
valued s i ts (done _ c) = left_out

abbrev pub judged_values : State → List Table → List (List Token) → Option (ℕ → Judging Change) → Effect
judged_values s i ts None = left_out
judged_values s i ts (Some c) = valued s i ts (judged c s.stack)

abbrev pub get_value : State → List (List Token) → Option (List Table) → Effect
get_value s ts None = denied NoModel
get_value s ts (Some i) =
    provided s.options.produce_models (OptionIsOff Named.ProduceModels) (judged_values s i ts (stack_command (GetValue ts)))

abbrev pub get_model : State → Option (List Table) → Effect
get_model s None = denied NoModel
get_model s (Some i) =
    provided s.options.produce_models (OptionIsOff Named.ProduceModels)
    (answered (Given.Model (printed_functions (signature_of s.stack.frames) (signature_of s.stack.frames) i)) s)

abbrev pub get_assignment : State → Option (List Table) → Effect
get_assignment s None = denied NoModel
get_assignment s (Some i) =
    provided s.options.produce_assignments (OptionIsOff Named.ProduceAssignments)
    (provided (named_fit (meaning i) (signature_of s.stack.frames)) ValueTooLarge
    (answered (Given.Assignment (named_truths (meaning i) (signature_of s.stack.frames))) s))

abbrev pub get_assertions : State → Effect
get_assertions s =
    provided s.options.produce_assertions (OptionIsOff Named.ProduceAssertions)
    (answered (Given.Assertions (flat_map texts_of s.stack.frames)) (with_logic s))

-- ---- checks

abbrev pub frame_of : List Assertion → Frame
frame_of xs = record { declared = []; asserted = xs }

-- a check of the stack with these levels above it
abbrev pub checks : State → Stack → List Frame → Effect
checks s new above = checked (record (with_logic s) { stack = new; above = above })

-- a level above the stack asserts the assumptions; their trees join the list
abbrev pub assuming : State → Outcome Change → Effect
assuming s (refused r) = denied (Refused (codes "check-sat-assuming") r)
assuming s (done (assumes xs) c) = checks s (changed s.stack (assumes xs) c) (frame_of xs ∷ [])
-- nothing else comes of it
assuming s (done _ c) = left_out

abbrev pub check_assuming : State → Option (ℕ → Judging Change) → Effect
check_assuming s None = left_out
check_assuming s (Some c) = assuming s (judged c s.stack)

-- ---- least values

-- as for a check that assumes (= t t): it stands above the stack, and its trees join the list
abbrev pub minimizing : State → List Token → Outcome Change → Effect
minimizing s t (refused r) = denied (Refused (codes "minimize") r)
minimizing s t (done (assumes (a ∷ [])) c) =
    minimizes t (goal_of a.term) (record (with_logic s) { stack = changed s.stack (assumes (a ∷ [])) c; above = frame_of (is_itself t (goal_of a.term) ∷ []) ∷ [] })
-- nothing else comes of it
minimizing s t (done _ c) = left_out

abbrev pub minimize : State → List Token → Option (ℕ → Judging Change) → Effect
minimize s t None = left_out
minimize s t (Some c) = minimizing s t (judged c s.stack)

-- ---- cores

abbrev pub is_unsat : Mode → Bool
is_unsat In.Unsat = true
is_unsat _ = false

abbrev pub get_unsat_core : State → Effect
get_unsat_core s = provided (is_unsat s.mode) NotUnsat (provided s.options.produce_unsat_cores (OptionIsOff Named.ProduceUnsatCores) (reduces named))

abbrev pub get_unsat_assumptions : State → Effect
get_unsat_assumptions s =
    provided (is_unsat s.mode) NotUnsat (provided s.options.produce_unsat_assumptions (OptionIsOff Named.ProduceUnsatAssumptions) (reduces assumed))

-- ---- commands

unfoldable pub effect : State → Command → Effect
effect s (SetLogic n) = set_logic s n s.logic
effect s (SetOption o) = set_option_in s o (start_option o)
effect s (GetOption o) = answered (Given.Option (option_value s.options s.stack.global o)) s
effect s SetInfo = accepted s
effect s (GetInfo i) = get_info s i
effect s (Echo t) = answered (Given.Echo t) s
effect s Exit = accepted s
effect s Reset = stack_effect s (codes "reset") (stack_command Reset)
effect s ResetAssertions = stack_effect s (codes "reset-assertions") (stack_command ResetAssertions)
effect s (DeclareSort n arity) = stack_effect s (codes "declare-sort") (stack_command (DeclareSort n arity))
effect s (DefineSort n ps w) = stack_effect s (codes "define-sort") (stack_command (DefineSort n ps w))
effect s (DeclareConst n w) = stack_effect s (codes "declare-const") (stack_command (DeclareConst n w))
effect s (DeclareFun n ws w) = stack_effect s (codes "declare-fun") (stack_command (DeclareFun n ws w))
effect s (DefineFun n ps w t) = stack_effect s (codes "define-fun") (stack_command (DefineFun n ps w t))
effect s (Assert t) = stack_effect s (codes "assert") (stack_command (Assert t))
effect s CheckSat = checks s s.stack []
effect s (CheckSatAssuming ts) = check_assuming s (stack_command (CheckSatAssuming ts))
effect s (Push n) = stack_effect s (codes "push") (stack_command (Push n))
effect s (Pop n) = stack_effect s (codes "pop") (stack_command (Pop n))
effect s (GetValue ts) = get_value s ts (kept_model s.mode)
effect s GetModel = get_model s (kept_model s.mode)
effect s GetAssertions = get_assertions s
effect s GetAssignment = get_assignment s (kept_model s.mode)
effect s GetUnsatCore = get_unsat_core s
effect s GetUnsatAssumptions = get_unsat_assumptions s
effect s (Minimize t) = minimize s t (stack_command (Minimize t))
effect s LeftOut = left_out
