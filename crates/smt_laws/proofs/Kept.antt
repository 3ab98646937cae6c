-- In every state that a journal comes to, the mode fits the logic and the stack.
use Rattle.std.proofs.Common.{◌≡◌, refl, ℕ, Bool, true, false, List, [], ◌∷◌, sym, subst, Option, Some, None, Result, Ok, Err}
use Rattle.std.specs.Prelude.{MatchBool, ◌++◌, flat_map, codes, if◌then◌else◌}
use Rattle.smt_meaning.specs.declared.tokens.Token.{Token}
use Rattle.smt_meaning.specs.declared.values.Table.{Table}
use Rattle.smt_meaning.specs.declared.settings.Settings.{Settings}
use Rattle.smt_meaning.specs.declared.errors.Error.{Error}
use Rattle.smt_meaning.specs.declared.errors.Error.TheVariants.{OptionTooLate, OptionIsOff, ValueTooLarge, NotUnsat}
use Rattle.smt_meaning.specs.declared.options.Options.{Options}
use Rattle.smt_meaning.specs.declared.options.OptionName.{OptionName}
use Rattle.smt_meaning.specs.declared.options.OptionName.TheVariants.{ProduceModels, ProduceAssertions, ProduceAssignments, ProduceUnsatCores, ProduceUnsatAssumptions}
use Rattle.smt_meaning.specs.declared.options.OptionSetting.{OptionSetting}
use Rattle.smt_meaning.specs.declared.options.UnknownReason.{UnknownReason}
use Rattle.smt_meaning.specs.declared.options.InfoName.{InfoName}
use Rattle.smt_meaning.specs.declared.options.InfoName.TheVariants as Asked
use Rattle.smt_meaning.specs.declared.commands.Command.{Command}
use Rattle.smt_meaning.specs.declared.commands.Command.TheVariants.{SetLogic, SetOption, GetOption, SetInfo, GetInfo, Echo, Exit, Reset, ResetAssertions, DeclareSort, DefineSort, DeclareConst, DeclareFun, DefineFun, Assert, CheckSat, CheckSatAssuming, Push, Pop, GetValue, GetModel, GetAssertions, GetAssignment, GetUnsatCore, GetUnsatAssumptions, Minimize, LeftOut}
use Rattle.smt_meaning.specs.declared.answers.Entry.{Entry}
use Rattle.smt_meaning.specs.declared.answers.Mode.{Mode}
use Rattle.smt_meaning.specs.declared.answers.Mode.TheVariants as In
use Rattle.smt_meaning.specs.declared.answers.Reply.{Reply}
use Rattle.smt_meaning.specs.declared.answers.Reply.TheVariants as Given
use Rattle.smt_meaning.specs.declared.replies.Kept.{Kept}
use Rattle.smt_meaning.specs.Term.{Tree}
use Rattle.smt_meaning.specs.Goal.{is_itself}
use Rattle.smt_meaning.specs.Least.{IsModelFor}
use Rattle.smt_meaning.specs.Sexp.{sexp}
use Rattle.smt_meaning.specs.Signature.{is_one_of}
use Rattle.smt_meaning.specs.Interpretation.{meaning}
use Rattle.smt_meaning.specs.Sorts.{Outcome, done, refused, Judging}
use Rattle.smt_meaning.specs.Stack.{Frame, signature_of, depth, cleared}
use Rattle.smt_meaning.specs.StackCommand.{Stack, Change, declares, asserts, pushes, pops, clears, begins_again, is_unsupported, asks, assumes, sets, stack_command, judged, changed}
use Rattle.smt_meaning.specs.Command.{command}
use Rattle.smt_meaning.specs.State.{State, checked_frames, Effect, denied, left_out, accepted, answered, checked, minimizes, reduces, named, assumed, minimize, minimizing, is_unsat, frame_of, effect, provided, set_logic, set_option_in, with_option, start_option, reason_unknown, get_info, stack_effect, on_stack, with_stack, get_value, judged_values, valued, get_model, get_assignment, kept_model, check_assuming, assuming, logics, is_start, asserting, with_logic, all_fit, term_values, printed_functions, named_truths, named_fit, texts_of}
use Rattle.smt_meaning.specs.Report.{reason_of}
use Rattle.smt_meaning.specs.MayReply.{Decided, IsExactly, IsModel, MayCome, MayDecide, MayMinimize, MayReply, MayReplyTo, Replies}
use Rattle.smt_meaning.specs.LegalJournal.{Moment, beginning, Runs}
use Rattle.smt_laws.specs.LanguageLaws.{ModeFits}

abbrev Sound : State → Type 0
Sound s = ModeFits s.mode s.logic (depth s.stack.frames) (checked_frames s)

-- a logic is set
abbrev HasLogic : Option (List ℕ) → Type 0
HasLogic None = ⊥
HasLogic (Some n) = Unit {0}

-- (= t t) stands above the stack
abbrev IsAskedState : State → List Token → Tree → Type 0
IsAskedState s text t = HasLogic s.logic × (s.above ≡ frame_of (is_itself text t ∷ []) ∷ [])

-- what an effect leaves is sound
abbrev SoundEffect : Effect → Type 0
SoundEffect (denied e) = Unit {0}
SoundEffect left_out = Unit {0}
SoundEffect (accepted s) = Sound s
SoundEffect (answered r s) = Sound s
SoundEffect (checked s) = HasLogic s.logic
SoundEffect (minimizes text t s) = IsAskedState s text t
SoundEffect (reduces among) = Unit {0}

provided_sound : (x : Bool) (e : Error) (f : Effect) → SoundEffect f → SoundEffect (provided x e f)
provided_sound true e f h = h
provided_sound false e f h = tt

-- a state by its parts
abbrev parts : Settings → Option (List ℕ) → Mode → Options → Stack → List Frame → State
parts settings l m o k a = record { settings = settings; logic = l; mode = m; options = o; stack = k; above = a }

known_logic_sound : (x : Bool) (s : State) (n : List ℕ) → SoundEffect (if x then accepted (asserting (record s { logic = Some n })) else left_out)
known_logic_sound true s n = tt
known_logic_sound false s n = tt

set_logic_sound : (s : State) (n : List ℕ) (old : Option (List ℕ)) → SoundEffect (set_logic s n old)
set_logic_sound s n (Some m) = tt
set_logic_sound s n None = known_logic_sound (is_one_of n logics) s n

set_option_sound : (s : State) (o : OptionSetting) (n : Option OptionName) → Sound s → SoundEffect (set_option_in s o n)
set_option_sound s o None h = h
set_option_sound s o (Some n) h = provided_sound (is_start s.mode) (OptionTooLate n) (accepted (with_option o s)) h

reason_sound : (s : State) (m : Mode) → Sound s → SoundEffect (reason_unknown s m)
reason_sound s In.Start h = tt
reason_sound s In.Assert h = tt
reason_sound s (In.Sat i) h = tt
reason_sound s (In.Unknown r) h = h
reason_sound s In.Unsat h = tt

get_info_sound : (s : State) (i : InfoName) → Sound s → SoundEffect (get_info s i)
get_info_sound s Asked.Name h = h
get_info_sound s Asked.Version h = h
get_info_sound s Asked.Authors h = h
get_info_sound s Asked.ErrorBehavior h = h
get_info_sound s Asked.AssertionStackLevels h = h
get_info_sound s Asked.ReasonUnknown h = reason_sound s s.mode h

-- after a change to the stack the mode is assert, with a logic
asserting_sound : (settings : Settings) (l : Option (List ℕ)) (m : Mode) (o : Options) (k new : Stack) (a : List Frame)
    → Sound (asserting (record (with_logic (parts settings l m o k a)) { stack = new }))
asserting_sound settings None m o k new a = tt
asserting_sound settings (Some n) m o k new a = tt

-- without a logic the mode is start
cleared_depth : (b : Bool) (frames : List Frame) → depth (cleared b frames) ≡ 0
cleared_depth true [] = refl
cleared_depth true (f ∷ frames) = refl
cleared_depth false frames = refl

clears_sound : (settings : Settings) (l : Option (List ℕ)) (m : Mode) (o : Options) (k new : Stack) (a : List Frame) → depth new.frames ≡ 0
    → Sound (parts settings l m o k a) → Sound (with_stack (parts settings l m o k a) clears new)
clears_sound settings None In.Start o k new a e h = e
clears_sound settings None In.Assert o k new a e h = absurd h
clears_sound settings None (In.Sat i) o k new a e h = absurd h
clears_sound settings None (In.Unknown r) o k new a e h = absurd h
clears_sound settings None In.Unsat o k new a e h = absurd h
clears_sound settings (Some n) In.Start o k new a e h = absurd h
clears_sound settings (Some n) In.Assert o k new a e h = tt
clears_sound settings (Some n) (In.Sat i) o k new a e h = tt
clears_sound settings (Some n) (In.Unknown r) o k new a e h = tt
clears_sound settings (Some n) In.Unsat o k new a e h = tt

on_stack_sound : (s : State) (n : List ℕ) (o : Outcome Change) → Sound s → SoundEffect (on_stack s n o)
on_stack_sound s n (refused r) h = tt
on_stack_sound s n (done declares c) h = asserting_sound s.settings s.logic s.mode s.options s.stack (changed s.stack declares c) s.above
on_stack_sound s n (done (asserts a) c) h = asserting_sound s.settings s.logic s.mode s.options s.stack (changed s.stack (asserts a) c) s.above
on_stack_sound s n (done (pushes k) c) h = asserting_sound s.settings s.logic s.mode s.options s.stack (changed s.stack (pushes k) c) s.above
on_stack_sound s n (done (pops k) c) h = asserting_sound s.settings s.logic s.mode s.options s.stack (changed s.stack (pops k) c) s.above
on_stack_sound s n (done (asks ts) c) h = asserting_sound s.settings s.logic s.mode s.options s.stack (changed s.stack (asks ts) c) s.above
on_stack_sound s n (done (assumes xs) c) h = asserting_sound s.settings s.logic s.mode s.options s.stack (changed s.stack (assumes xs) c) s.above
on_stack_sound s n (done (sets x) c) h = asserting_sound s.settings s.logic s.mode s.options s.stack (changed s.stack (sets x) c) s.above
on_stack_sound s n (done clears c) h = clears_sound s.settings s.logic s.mode s.options s.stack (changed s.stack clears c) s.above (cleared_depth s.stack.global s.stack.frames) h
on_stack_sound s n (done begins_again c) h = refl
on_stack_sound s n (done is_unsupported c) h = tt

stack_sound : (s : State) (n : List ℕ) (c : Option (ℕ → Judging Change)) → Sound s → SoundEffect (stack_effect s n c)
stack_sound s n None h = tt
stack_sound s n (Some c) h = on_stack_sound s n (judged c s.stack) h

valued_sound : (s : State) (i : List Table) (ts : List (List Token)) (o : Outcome Change) → Sound s → SoundEffect (valued s i ts o)
valued_sound s i ts (refused r) h = tt
valued_sound s i ts (done (asks terms) c) h =
    provided_sound (all_fit (meaning i) terms) ValueTooLarge
    (answered (Given.Values (term_values (signature_of s.stack.frames) (meaning i) ts terms)) (record s { stack = changed s.stack (asks terms) c })) h
valued_sound s i ts (done declares c) h = tt
valued_sound s i ts (done (asserts a) c) h = tt
valued_sound s i ts (done (pushes k) c) h = tt
valued_sound s i ts (done (pops k) c) h = tt
valued_sound s i ts (done (assumes xs) c) h = tt
valued_sound s i ts (done (sets x) c) h = tt
valued_sound s i ts (done clears c) h = tt
valued_sound s i ts (done begins_again c) h = tt
valued_sound s i ts (done is_unsupported c) h = tt

judged_values_sound : (s : State) (i : List Table) (ts : List (List Token)) (c : Option (ℕ → Judging Change)) → Sound s → SoundEffect (judged_values s i ts c)
judged_values_sound s i ts None h = tt
judged_values_sound s i ts (Some c) h = valued_sound s i ts (judged c s.stack) h

get_value_sound : (s : State) (ts : List (List Token)) (m : Option (List Table)) → Sound s → SoundEffect (get_value s ts m)
get_value_sound s ts None h = tt
get_value_sound s ts (Some i) h =
    provided_sound s.options.produce_models (OptionIsOff ProduceModels) (judged_values s i ts (stack_command (GetValue ts)))
    (judged_values_sound s i ts (stack_command (GetValue ts)) h)

get_model_sound : (s : State) (m : Option (List Table)) → Sound s → SoundEffect (get_model s m)
get_model_sound s None h = tt
get_model_sound s (Some i) h =
    provided_sound s.options.produce_models (OptionIsOff ProduceModels)
    (answered (Given.Model (printed_functions (signature_of s.stack.frames) (signature_of s.stack.frames) i)) s) h

get_assignment_sound : (s : State) (m : Option (List Table)) → Sound s → SoundEffect (get_assignment s m)
get_assignment_sound s None h = tt
get_assignment_sound s (Some i) h =
    provided_sound s.options.produce_assignments (OptionIsOff ProduceAssignments)
    (provided (named_fit (meaning i) (signature_of s.stack.frames)) ValueTooLarge (answered (Given.Assignment (named_truths (meaning i) (signature_of s.stack.frames))) s))
    (provided_sound (named_fit (meaning i) (signature_of s.stack.frames)) ValueTooLarge
    (answered (Given.Assignment (named_truths (meaning i) (signature_of s.stack.frames))) s) h)

with_logic_sound : (settings : Settings) (l : Option (List ℕ)) (m : Mode) (o : Options) (k : Stack) (a : List Frame)
    → Sound (parts settings l m o k a) → Sound (with_logic (parts settings l m o k a))
with_logic_sound settings None m o k a h = tt
with_logic_sound settings (Some n) m o k a h = h

with_logic_has : (settings : Settings) (l : Option (List ℕ)) (m : Mode) (o : Options) (k : Stack) (a : List Frame) → HasLogic (with_logic (parts settings l m o k a)).logic
with_logic_has settings None m o k a = tt
with_logic_has settings (Some n) m o k a = tt

assuming_sound : (s : State) (o : Outcome Change) → SoundEffect (assuming s o)
assuming_sound s (refused r) = tt
assuming_sound s (done (assumes xs) c) = with_logic_has s.settings s.logic s.mode s.options s.stack s.above
assuming_sound s (done declares c) = tt
assuming_sound s (done (asserts a) c) = tt
assuming_sound s (done (pushes k) c) = tt
assuming_sound s (done (pops k) c) = tt
assuming_sound s (done (asks ts) c) = tt
assuming_sound s (done (sets x) c) = tt
assuming_sound s (done clears c) = tt
assuming_sound s (done begins_again c) = tt
assuming_sound s (done is_unsupported c) = tt

check_assuming_sound : (s : State) (c : Option (ℕ → Judging Change)) → SoundEffect (check_assuming s c)
check_assuming_sound s None = tt
check_assuming_sound s (Some c) = assuming_sound s (judged c s.stack)

minimizing_sound : (s : State) (t : List Token) (o : Outcome Change) → SoundEffect (minimizing s t o)
minimizing_sound s t (refused r) = tt
minimizing_sound s t (done (assumes []) c) = tt
minimizing_sound s t (done (assumes (a ∷ [])) c) = (with_logic_has s.settings s.logic s.mode s.options s.stack s.above, refl)
minimizing_sound s t (done (assumes (a ∷ b ∷ rest)) c) = tt
minimizing_sound s t (done (asks ts) c) = tt
minimizing_sound s t (done declares c) = tt
minimizing_sound s t (done (asserts a) c) = tt
minimizing_sound s t (done (pushes k) c) = tt
minimizing_sound s t (done (pops k) c) = tt
minimizing_sound s t (done (sets x) c) = tt
minimizing_sound s t (done clears c) = tt
minimizing_sound s t (done begins_again c) = tt
minimizing_sound s t (done is_unsupported c) = tt

minimize_sound : (s : State) (t : List Token) (c : Option (ℕ → Judging Change)) → SoundEffect (minimize s t c)
minimize_sound s t None = tt
minimize_sound s t (Some c) = minimizing_sound s t (judged c s.stack)

effect_sound : (s : State) (c : Command) → Sound s → SoundEffect (effect s c)
unfolding effect
effect_sound s (SetLogic n) h = set_logic_sound s n s.logic
effect_sound s (SetOption o) h = set_option_sound s o (start_option o) h
effect_sound s (GetOption o) h = h
effect_sound s SetInfo h = h
effect_sound s (GetInfo i) h = get_info_sound s i h
effect_sound s (Echo t) h = h
effect_sound s Exit h = h
effect_sound s Reset h = stack_sound s (codes "reset") (stack_command Reset) h
effect_sound s ResetAssertions h = stack_sound s (codes "reset-assertions") (stack_command ResetAssertions) h
effect_sound s (DeclareSort n arity) h = stack_sound s (codes "declare-sort") (stack_command (DeclareSort n arity)) h
effect_sound s (DefineSort n ps w) h = stack_sound s (codes "define-sort") (stack_command (DefineSort n ps w)) h
effect_sound s (DeclareConst n w) h = stack_sound s (codes "declare-const") (stack_command (DeclareConst n w)) h
effect_sound s (DeclareFun n ws w) h = stack_sound s (codes "declare-fun") (stack_command (DeclareFun n ws w)) h
effect_sound s (DefineFun n ps w t) h = stack_sound s (codes "define-fun") (stack_command (DefineFun n ps w t)) h
effect_sound s (Assert t) h = stack_sound s (codes "assert") (stack_command (Assert t)) h
effect_sound s CheckSat h = with_logic_has s.settings s.logic s.mode s.options s.stack s.above
effect_sound s (CheckSatAssuming ts) h = check_assuming_sound s (stack_command (CheckSatAssuming ts))
effect_sound s (Push n) h = stack_sound s (codes "push") (stack_command (Push n)) h
effect_sound s (Pop n) h = stack_sound s (codes "pop") (stack_command (Pop n)) h
effect_sound s (GetValue ts) h = get_value_sound s ts (kept_model s.mode) h
effect_sound s GetModel h = get_model_sound s (kept_model s.mode) h
effect_sound s GetAssertions h =
    provided_sound s.options.produce_assertions (OptionIsOff ProduceAssertions)
    (answered (Given.Assertions (flat_map texts_of s.stack.frames)) (with_logic s)) (with_logic_sound s.settings s.logic s.mode s.options s.stack s.above h)
effect_sound s GetAssignment h = get_assignment_sound s (kept_model s.mode) h
effect_sound s GetUnsatCore h =
    provided_sound (is_unsat s.mode) NotUnsat (provided s.options.produce_unsat_cores (OptionIsOff ProduceUnsatCores) (reduces named))
    (provided_sound s.options.produce_unsat_cores (OptionIsOff ProduceUnsatCores) (reduces named) tt)
effect_sound s GetUnsatAssumptions h =
    provided_sound (is_unsat s.mode) NotUnsat (provided s.options.produce_unsat_assumptions (OptionIsOff ProduceUnsatAssumptions) (reduces assumed))
    (provided_sound s.options.produce_unsat_assumptions (OptionIsOff ProduceUnsatAssumptions) (reduces assumed) tt)
effect_sound s (Minimize t) h = minimize_sound s t (stack_command (Minimize t))
effect_sound s LeftOut h = tt

-- ---- what a command leaves is sound

as_sound : (s new : State) → new ≡ s → Sound s → Sound new
as_sound s new e h = subst Sound (sym e) h

model_sound : (l : Option (List ℕ)) (i : List Table) (level : ℕ) (frames : List Frame) → HasLogic l → IsModel frames i → ModeFits (In.Sat i) l level frames
model_sound None i level frames h m = absurd h
model_sound (Some n) i level frames h m = m

unknown_sound : (l : Option (List ℕ)) (r : UnknownReason) (level : ℕ) (frames : List Frame) → HasLogic l → ModeFits (In.Unknown r) l level frames
unknown_sound None r level frames h = absurd h
unknown_sound (Some n) r level frames h = tt

unsat_sound : (l : Option (List ℕ)) (level : ℕ) (frames : List Frame) → HasLogic l → ModeFits In.Unsat l level frames
unsat_sound None level frames h = absurd h
unsat_sound (Some n) level frames h = tt

decided_sound : (s : State) (r : Reply) (kept : Kept) (new : State) → HasLogic s.logic → MayDecide s r kept new → Sound new
decided_sound s Given.Sat kept new h d = as_sound (record s { mode = In.Sat d.0 }) new d.3 (model_sound s.logic d.0 (depth s.stack.frames) (checked_frames s) h d.2)
decided_sound s Given.Unsat kept new h d = as_sound (record s { mode = In.Unsat }) new d.2 (unsat_sound s.logic (depth s.stack.frames) (checked_frames s) h)
decided_sound s Given.Success kept new h d = absurd d
decided_sound s Given.Silent kept new h d = absurd d
decided_sound s Given.Unsupported kept new h d = absurd d
decided_sound s Given.Unknown kept new h d = as_sound (record s { mode = In.Unknown (reason_of d.0) }) new d.3 (unknown_sound s.logic (reason_of d.0) (depth s.stack.frames) (checked_frames s) h)
decided_sound s (Given.Echo t) kept new h d = absurd d
decided_sound s (Given.Option v) kept new h d = absurd d
decided_sound s (Given.Info i) kept new h d = absurd d
decided_sound s (Given.Values vs) kept new h d = absurd d
decided_sound s (Given.Model fs) kept new h d = absurd d
decided_sound s (Given.Assertions ts) kept new h d = absurd d
decided_sound s (Given.Assignment vs) kept new h d = absurd d
decided_sound s (Given.UnsatCore ns) kept new h d = absurd d
decided_sound s (Given.UnsatAssumptions ts) kept new h d = absurd d
decided_sound s (Given.Minimum v) kept new h d = absurd d
decided_sound s (Given.Error e) kept new h d = absurd d

minimum_sound : (s : State) (text : List Token) (t : Tree) (i : List Table) → HasLogic s.logic → s.above ≡ frame_of (is_itself text t ∷ []) ∷ []
    → IsModelFor s.stack.frames text t i → ModeFits (In.Sat i) s.logic (depth s.stack.frames) (checked_frames s)
minimum_sound s text t i h a m = model_sound s.logic i (depth s.stack.frames) (checked_frames s) h (subst (λ fs. IsModel (s.stack.frames ++ fs) i) (sym a) m)

minimized_sound : (s : State) (text : List Token) (t : Tree) (r : Reply) (kept : Kept) (new : State) → IsAskedState s text t → MayMinimize s text t r kept new → Sound new
minimized_sound s text t (Given.Minimum v) kept new h d = as_sound (record s { mode = In.Sat d.0 }) new d.3 (minimum_sound s text t d.0 h.0 h.1 d.2.model)
minimized_sound s text t Given.Unsat kept new h d = as_sound (record s { mode = In.Unsat }) new d.2 (unsat_sound s.logic (depth s.stack.frames) (checked_frames s) h.0)
minimized_sound s text t Given.Unknown kept new h d =
    as_sound (record s { mode = In.Unknown (reason_of d.0.reports) }) new d.3 (unknown_sound s.logic (reason_of d.0.reports) (depth s.stack.frames) (checked_frames s) h.0)
minimized_sound s text t Given.Sat kept new h d = absurd d
minimized_sound s text t Given.Success kept new h d = absurd d
minimized_sound s text t Given.Silent kept new h d = absurd d
minimized_sound s text t Given.Unsupported kept new h d = absurd d
minimized_sound s text t (Given.Echo x) kept new h d = absurd d
minimized_sound s text t (Given.Option v) kept new h d = absurd d
minimized_sound s text t (Given.Info i) kept new h d = absurd d
minimized_sound s text t (Given.Values vs) kept new h d = absurd d
minimized_sound s text t (Given.Model fs) kept new h d = absurd d
minimized_sound s text t (Given.Assertions ts) kept new h d = absurd d
minimized_sound s text t (Given.Assignment vs) kept new h d = absurd d
minimized_sound s text t (Given.UnsatCore ns) kept new h d = absurd d
minimized_sound s text t (Given.UnsatAssumptions ts) kept new h d = absurd d
minimized_sound s text t (Given.Error e) kept new h d = absurd d

check_sound : (x : Bool) (old s : State) (r : Reply) (kept : Kept) (new : State) → Sound old → HasLogic s.logic
    → MatchBool x (MayDecide s r kept new) (IsExactly Given.Unsupported old r kept new) → Sound new
check_sound true old s r kept new h l d = decided_sound s r kept new l d
check_sound false old s r kept new h l i = as_sound old new i.new_is h

comes_sound : (decided : Decided) (old : State) (f : Effect) (r : Reply) (kept : Kept) (new : State) → Sound old → SoundEffect f → MayCome decided old f r kept new → Sound new
comes_sound decided old (denied e) r kept new h g i = as_sound old new i.new_is h
comes_sound decided old left_out r kept new h g i = as_sound old new i.new_is h
comes_sound decided old (accepted s) r kept new h g i = as_sound s new i.new_is g
comes_sound decided old (answered a s) r kept new h g i = as_sound s new i.new_is g
comes_sound decided old (minimizes text t s) r kept new h g i = minimized_sound s text t r kept new g i
comes_sound decided old (reduces among) r kept new h g i = as_sound old new i.4 h
comes_sound decided old (checked s) r kept new h g i = check_sound (decided (checked_frames s)) old s r kept new h g i

command_sound : (decided : Decided) (old : State) (c : Result Command Error) (r : Reply) (kept : Kept) (new : State) → Sound old → MayReplyTo decided old c r kept new → Sound new
unfolding MayReply
command_sound decided old (Ok c) r kept new h i = comes_sound decided old (effect old c) r kept new h (effect_sound old c h) i
command_sound decided old (Err e) r kept new h i = as_sound old new i.new_is h

replies_sound : (decided : Decided) (old : State) (ts : List Token) (r : Reply) (kept : Kept) (new : State) → Sound old → Replies decided old ts r kept new → Sound new
unfolding Replies
replies_sound decided old ts r kept new h i = command_sound decided old (command (sexp ts)) r kept new h i

runs_sound : (decided : Decided) (old : Moment) (entries : List Entry) (new : Moment) → Sound old.state → Runs decided old entries new → Sound new.state
runs_sound decided old [] new h e = subst (λ (m : Moment). Sound m.state) e h
runs_sound decided old (entry ∷ entries) new h r =
    runs_sound decided r.0 entries new (replies_sound decided old.state r.1.0 entry.reply entry.kept r.0.state h r.1.2.reply) r.2

pub journal_sound : (decided : Decided) (settings : Settings) (input : List ℕ) (entries : List Entry) (m : Moment)
    → Runs decided (beginning settings input) entries m → Sound m.state
journal_sound decided settings input entries m r = runs_sound decided (beginning settings input) entries m refl r
