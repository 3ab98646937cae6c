-- What a command comes to is no error that changes the state, and one reply where it is no check.
use Rattle.std.proofs.Common.{◌≡◌, ◌∙◌, ℕ, Bool, true, false, List, [], ◌∷◌, refl, ap, sym, subst, Option, Some, None, Result, Ok, Err}
use Rattle.std.specs.Prelude.{MatchBool, flat_map, if◌then◌else◌, codes}
use Rattle.smt_meaning.specs.declared.tokens.Token.{Token}
use Rattle.smt_meaning.specs.declared.values.Table.{Table}
use Rattle.smt_meaning.specs.declared.errors.Error.{Error}
use Rattle.smt_meaning.specs.declared.errors.Error.TheVariants.{OptionTooLate, OptionIsOff, ValueTooLarge, NotUnsat}
use Rattle.smt_meaning.specs.declared.options.OptionName.{OptionName}
use Rattle.smt_meaning.specs.declared.options.OptionName.TheVariants.{ProduceModels, ProduceAssertions, ProduceAssignments, ProduceUnsatCores, ProduceUnsatAssumptions}
use Rattle.smt_meaning.specs.declared.options.OptionSetting.{OptionSetting}
use Rattle.smt_meaning.specs.declared.options.InfoName.{InfoName}
use Rattle.smt_meaning.specs.declared.options.InfoName.TheVariants as Asked
use Rattle.smt_meaning.specs.declared.commands.Command.{Command}
use Rattle.smt_meaning.specs.declared.commands.Command.TheVariants.{SetLogic, SetOption, GetOption, SetInfo, GetInfo, Echo, Exit, Reset, ResetAssertions, DeclareSort, DefineSort, DeclareConst, DeclareFun, DefineFun, Assert, CheckSat, CheckSatAssuming, Push, Pop, GetValue, GetModel, GetAssertions, GetAssignment, GetUnsatCore, GetUnsatAssumptions, Minimize, LeftOut}
use Rattle.smt_meaning.specs.declared.answers.Mode.{Mode}
use Rattle.smt_meaning.specs.declared.answers.Mode.TheVariants as In
use Rattle.smt_meaning.specs.declared.answers.Reply.{Reply}
use Rattle.smt_meaning.specs.declared.answers.Reply.TheVariants as Given
use Rattle.smt_meaning.specs.declared.replies.Kept.{Kept}
use Rattle.smt_meaning.specs.Term.{Tree}
use Rattle.smt_meaning.specs.Sexp.{sexp}
use Rattle.smt_meaning.specs.Signature.{is_one_of}
use Rattle.smt_meaning.specs.Interpretation.{meaning}
use Rattle.smt_meaning.specs.Stack.{signature_of}
use Rattle.smt_meaning.specs.Sorts.{Outcome, done, refused, Judging}
use Rattle.smt_meaning.specs.StackCommand.{Change, declares, asserts, pushes, pops, clears, begins_again, is_unsupported, asks, assumes, sets, stack_command, judged, changed}
use Rattle.smt_meaning.specs.Command.{command}
use Rattle.smt_meaning.specs.State
use Rattle.smt_meaning.specs.State.{checked_frames, Effect, denied, left_out, accepted, answered, checked, minimizes, reduces, named, assumed, minimize, minimizing, is_unsat, effect, provided, set_logic, set_option_in, with_option, start_option, reason_unknown, get_info, stack_effect, on_stack, get_value, judged_values, valued, get_model, get_assignment, kept_model, check_assuming, assuming, logics, is_start, asserting, with_logic, all_fit, term_values, printed_functions, named_truths, named_fit, texts_of}
use Rattle.smt_meaning.specs.MayReply.{Decided, IsExactly, MayCome, MayDecide, MayMinimize, MayReply, MayReplyTo, Replies, success}
use Rattle.smt_laws.specs.LanguageLaws.{HasOneReply, ChangesNothing, is_search}

-- a reply that tells something
abbrev is_answer : Reply → Bool
is_answer (Given.Echo t) = true
is_answer (Given.Option v) = true
is_answer (Given.Info i) = true
is_answer (Given.Values vs) = true
is_answer (Given.Model fs) = true
is_answer (Given.Assertions ts) = true
is_answer (Given.Assignment vs) = true
is_answer _ = false

-- an effect that comes to one reply, or to a check where that may be
abbrev is_told : Bool → Effect → Bool
is_told b (denied e) = true
is_told b left_out = true
is_told b (accepted s) = true
is_told b (answered r s) = is_answer r
is_told b (checked s) = b
is_told b (minimizes text t s) = b
is_told b (reduces among) = b

provided_told : (b x : Bool) (e : Error) (f : Effect) → is_told b f ≡ true → is_told b (provided x e f) ≡ true
provided_told b true e f h = h
provided_told b false e f h = refl

known_logic_told : (b x : Bool) (s : State.State) → is_told b (if x then accepted s else left_out) ≡ true
known_logic_told b true s = refl
known_logic_told b false s = refl

set_logic_told : (b : Bool) (s : State.State) (n : List ℕ) (old : Option (List ℕ)) → is_told b (set_logic s n old) ≡ true
set_logic_told b s n (Some m) = refl
set_logic_told b s n None = known_logic_told b (is_one_of n logics) (asserting (record s { logic = Some n }))

set_option_told : (b : Bool) (s : State.State) (o : OptionSetting) (n : Option OptionName) → is_told b (set_option_in s o n) ≡ true
set_option_told b s o None = refl
set_option_told b s o (Some n) = provided_told b (is_start s.mode) (OptionTooLate n) (accepted (with_option o s)) refl

reason_told : (b : Bool) (s : State.State) (m : Mode) → is_told b (reason_unknown s m) ≡ true
reason_told b s In.Start = refl
reason_told b s In.Assert = refl
reason_told b s (In.Sat i) = refl
reason_told b s (In.Unknown r) = refl
reason_told b s In.Unsat = refl

get_info_told : (b : Bool) (s : State.State) (i : InfoName) → is_told b (get_info s i) ≡ true
get_info_told b s Asked.Name = refl
get_info_told b s Asked.Version = refl
get_info_told b s Asked.Authors = refl
get_info_told b s Asked.ErrorBehavior = refl
get_info_told b s Asked.AssertionStackLevels = refl
get_info_told b s Asked.ReasonUnknown = reason_told b s s.mode

on_stack_told : (b : Bool) (s : State.State) (n : List ℕ) (o : Outcome Change) → is_told b (on_stack s n o) ≡ true
on_stack_told b s n (refused r) = refl
on_stack_told b s n (done declares c) = refl
on_stack_told b s n (done (asserts a) c) = refl
on_stack_told b s n (done (pushes k) c) = refl
on_stack_told b s n (done (pops k) c) = refl
on_stack_told b s n (done (asks ts) c) = refl
on_stack_told b s n (done (assumes xs) c) = refl
on_stack_told b s n (done (sets x) c) = refl
on_stack_told b s n (done clears c) = refl
on_stack_told b s n (done begins_again c) = refl
on_stack_told b s n (done is_unsupported c) = refl

stack_told : (b : Bool) (s : State.State) (n : List ℕ) (c : Option (ℕ → Judging Change)) → is_told b (stack_effect s n c) ≡ true
stack_told b s n None = refl
stack_told b s n (Some c) = on_stack_told b s n (judged c s.stack)

valued_told : (b : Bool) (s : State.State) (i : List Table) (ts : List (List Token)) (o : Outcome Change) → is_told b (valued s i ts o) ≡ true
valued_told b s i ts (refused r) = refl
valued_told b s i ts (done (asks terms) c) =
    provided_told b (all_fit (meaning i) terms) ValueTooLarge
    (answered (Given.Values (term_values (signature_of s.stack.frames) (meaning i) ts terms)) (record s { stack = changed s.stack (asks terms) c })) refl
valued_told b s i ts (done declares c) = refl
valued_told b s i ts (done (asserts a) c) = refl
valued_told b s i ts (done (pushes k) c) = refl
valued_told b s i ts (done (pops k) c) = refl
valued_told b s i ts (done (assumes xs) c) = refl
valued_told b s i ts (done (sets x) c) = refl
valued_told b s i ts (done clears c) = refl
valued_told b s i ts (done begins_again c) = refl
valued_told b s i ts (done is_unsupported c) = refl

judged_values_told : (b : Bool) (s : State.State) (i : List Table) (ts : List (List Token)) (c : Option (ℕ → Judging Change)) → is_told b (judged_values s i ts c) ≡ true
judged_values_told b s i ts None = refl
judged_values_told b s i ts (Some c) = valued_told b s i ts (judged c s.stack)

get_value_told : (b : Bool) (s : State.State) (ts : List (List Token)) (m : Option (List Table)) → is_told b (get_value s ts m) ≡ true
get_value_told b s ts None = refl
get_value_told b s ts (Some i) = provided_told b s.options.produce_models (OptionIsOff ProduceModels) (judged_values s i ts (stack_command (GetValue ts))) (judged_values_told b s i ts (stack_command (GetValue ts)))

get_model_told : (b : Bool) (s : State.State) (m : Option (List Table)) → is_told b (get_model s m) ≡ true
get_model_told b s None = refl
get_model_told b s (Some i) =
    provided_told b s.options.produce_models (OptionIsOff ProduceModels)
    (answered (Given.Model (printed_functions (signature_of s.stack.frames) (signature_of s.stack.frames) i)) s) refl

get_assignment_told : (b : Bool) (s : State.State) (m : Option (List Table)) → is_told b (get_assignment s m) ≡ true
get_assignment_told b s None = refl
get_assignment_told b s (Some i) =
    provided_told b s.options.produce_assignments (OptionIsOff ProduceAssignments)
    (provided (named_fit (meaning i) (signature_of s.stack.frames)) ValueTooLarge (answered (Given.Assignment (named_truths (meaning i) (signature_of s.stack.frames))) s))
    (provided_told b (named_fit (meaning i) (signature_of s.stack.frames)) ValueTooLarge
    (answered (Given.Assignment (named_truths (meaning i) (signature_of s.stack.frames))) s) refl)

assuming_told : (s : State.State) (o : Outcome Change) → is_told true (assuming s o) ≡ true
assuming_told s (refused r) = refl
assuming_told s (done (assumes xs) c) = refl
assuming_told s (done declares c) = refl
assuming_told s (done (asserts a) c) = refl
assuming_told s (done (pushes k) c) = refl
assuming_told s (done (pops k) c) = refl
assuming_told s (done (asks ts) c) = refl
assuming_told s (done (sets x) c) = refl
assuming_told s (done clears c) = refl
assuming_told s (done begins_again c) = refl
assuming_told s (done is_unsupported c) = refl

check_assuming_told : (s : State.State) (c : Option (ℕ → Judging Change)) → is_told true (check_assuming s c) ≡ true
check_assuming_told s None = refl
check_assuming_told s (Some c) = assuming_told s (judged c s.stack)

minimizing_told : (s : State.State) (t : List Token) (o : Outcome Change) → is_told true (minimizing s t o) ≡ true
minimizing_told s t (refused r) = refl
minimizing_told s t (done (assumes []) c) = refl
minimizing_told s t (done (assumes (a ∷ [])) c) = refl
minimizing_told s t (done (assumes (a ∷ b ∷ rest)) c) = refl
minimizing_told s t (done (asks ts) c) = refl
minimizing_told s t (done declares c) = refl
minimizing_told s t (done (asserts a) c) = refl
minimizing_told s t (done (pushes k) c) = refl
minimizing_told s t (done (pops k) c) = refl
minimizing_told s t (done (sets x) c) = refl
minimizing_told s t (done clears c) = refl
minimizing_told s t (done begins_again c) = refl
minimizing_told s t (done is_unsupported c) = refl

minimize_told : (s : State.State) (t : List Token) (c : Option (ℕ → Judging Change)) → is_told true (minimize s t c) ≡ true
minimize_told s t None = refl
minimize_told s t (Some c) = minimizing_told s t (judged c s.stack)

effect_told : (s : State.State) (c : Command) → is_told (is_search c) (effect s c) ≡ true
unfolding effect
effect_told s (SetLogic n) = set_logic_told false s n s.logic
effect_told s (SetOption o) = set_option_told false s o (start_option o)
effect_told s (GetOption o) = refl
effect_told s SetInfo = refl
effect_told s (GetInfo i) = get_info_told false s i
effect_told s (Echo t) = refl
effect_told s Exit = refl
effect_told s Reset = stack_told false s (codes "reset") (stack_command Reset)
effect_told s ResetAssertions = stack_told false s (codes "reset-assertions") (stack_command ResetAssertions)
effect_told s (DeclareSort n arity) = stack_told false s (codes "declare-sort") (stack_command (DeclareSort n arity))
effect_told s (DefineSort n ps w) = stack_told false s (codes "define-sort") (stack_command (DefineSort n ps w))
effect_told s (DeclareConst n w) = stack_told false s (codes "declare-const") (stack_command (DeclareConst n w))
effect_told s (DeclareFun n ws w) = stack_told false s (codes "declare-fun") (stack_command (DeclareFun n ws w))
effect_told s (DefineFun n ps w t) = stack_told false s (codes "define-fun") (stack_command (DefineFun n ps w t))
effect_told s (Assert t) = stack_told false s (codes "assert") (stack_command (Assert t))
effect_told s CheckSat = refl
effect_told s (CheckSatAssuming ts) = check_assuming_told s (stack_command (CheckSatAssuming ts))
effect_told s (Push n) = stack_told false s (codes "push") (stack_command (Push n))
effect_told s (Pop n) = stack_told false s (codes "pop") (stack_command (Pop n))
effect_told s (GetValue ts) = get_value_told false s ts (kept_model s.mode)
effect_told s GetModel = get_model_told false s (kept_model s.mode)
effect_told s GetAssertions =
    provided_told false s.options.produce_assertions (OptionIsOff ProduceAssertions)
    (answered (Given.Assertions (flat_map texts_of s.stack.frames)) (with_logic s)) refl
effect_told s GetAssignment = get_assignment_told false s (kept_model s.mode)
effect_told s GetUnsatCore =
    provided_told true (is_unsat s.mode) NotUnsat (provided s.options.produce_unsat_cores (OptionIsOff ProduceUnsatCores) (reduces named))
    (provided_told true s.options.produce_unsat_cores (OptionIsOff ProduceUnsatCores) (reduces named) refl)
effect_told s GetUnsatAssumptions =
    provided_told true (is_unsat s.mode) NotUnsat (provided s.options.produce_unsat_assumptions (OptionIsOff ProduceUnsatAssumptions) (reduces assumed))
    (provided_told true s.options.produce_unsat_assumptions (OptionIsOff ProduceUnsatAssumptions) (reduces assumed) refl)
effect_told s (Minimize t) = minimize_told s t (stack_command (Minimize t))
effect_told s LeftOut = refl

-- ---- one reply

abbrev only_false : Bool → Type 0
only_false true = ⊥
only_false false = Unit {0}

pub false_true : {A : Type 0} → false ≡ true → A
false_true e = absurd (subst only_false e tt)

record OneOf (decided : Decided) (old : State.State) (f : Effect) : Type 0 where
  reply : Reply
  new : State.State
  may : (r : Reply) (kept : Kept) (s : State.State) → IsExactly reply new r kept s → MayCome decided old f r kept s
  only : (r : Reply) (kept : Kept) (s : State.State) → MayCome decided old f r kept s → IsExactly reply new r kept s

one_of : (decided : Decided) (old : State.State) (f : Effect) → is_told false f ≡ true → OneOf decided old f
one_of decided old (denied e) h = record { reply = Given.Error e; new = old; may = λ r kept s i. i; only = λ r kept s i. i }
one_of decided old left_out h = record { reply = Given.Unsupported; new = old; may = λ r kept s i. i; only = λ r kept s i. i }
one_of decided old (accepted t) h = record { reply = success t; new = t; may = λ r kept s i. i; only = λ r kept s i. i }
one_of decided old (answered a t) h = record { reply = a; new = t; may = λ r kept s i. i; only = λ r kept s i. i }
one_of decided old (checked t) h = false_true h
one_of decided old (minimizes text t s) h = false_true h
one_of decided old (reduces among) h = false_true h

pub one : (decided : Decided) (old : State.State) (c : Command) → is_search c ≡ false → HasOneReply decided old c
unfolding MayReply
one decided old c h =
    let o = one_of decided old (effect old c) (sym (ap (λ b. is_told b (effect old c)) h) ∙ effect_told old c) in
    record { reply = o.reply; new = o.new; may = o.may; only = o.only }

-- ---- nothing changes

told_at_all : (b : Bool) (f : Effect) → is_told b f ≡ true → is_told true f ≡ true
told_at_all b (denied e) h = refl
told_at_all b left_out h = refl
told_at_all b (accepted s) h = refl
told_at_all b (answered r s) h = h
told_at_all b (checked s) h = refl
told_at_all b (minimizes text t s) h = refl
told_at_all b (reduces among) h = refl

abbrev is_success : Reply → Bool
is_success Given.Success = true
is_success Given.Silent = true
is_success _ = false

success_is : (b : Bool) → is_success (if b then Given.Success else Given.Silent) ≡ true
success_is true = refl
success_is false = refl

-- a reply that neither tells something nor is a success
changes_nothing : (decided : Decided) (old : State.State) (f : Effect) → is_told true f ≡ true → (r : Reply) → is_answer r ≡ false → is_success r ≡ false
    → ((s : State.State) (kept : Kept) (new : State.State) → MayDecide s r kept new → ⊥)
    → ((s : State.State) (text : List Token) (t : Tree) (kept : Kept) (new : State.State) → MayMinimize s text t r kept new → ⊥) → (kept : Kept) (new : State.State) → MayCome decided old f r kept new → new ≡ old
changes_nothing decided old (denied e) h r a b u m kept new i = i.new_is
changes_nothing decided old left_out h r a b u m kept new i = i.new_is
changes_nothing decided old (accepted s) h r a b u m kept new i = false_true (sym b ∙ ap is_success i.reply_is ∙ success_is s.options.print_success)
changes_nothing decided old (answered t s) h r a b u m kept new i = false_true (sym a ∙ ap is_answer i.reply_is ∙ h)
changes_nothing decided old (minimizes text t s) h r a b u m kept new i = absurd (m s text t kept new i)
changes_nothing decided old (reduces among) h r a b u m kept new i = i.4
changes_nothing decided old (checked s) h r a b u m kept new i = in_check (decided (checked_frames s)) i
  where
    in_check : (x : Bool) → MatchBool x (MayDecide s r kept new) (IsExactly Given.Unsupported old r kept new) → new ≡ old
    in_check true j = absurd (u s kept new j)
    in_check false j = j.new_is

told : (old : State.State) (c : Command) → is_told true (effect old c) ≡ true
told old c = told_at_all (is_search c) (effect old c) (effect_told old c)

after_error : (decided : Decided) (old : State.State) (c : Result Command Error) (e : Error) (kept : Kept) (new : State.State)
    → MayReplyTo decided old c (Given.Error e) kept new → new ≡ old
unfolding MayReply
after_error decided old (Ok c) e kept new i =
    changes_nothing decided old (effect old c) (told old c) (Given.Error e) refl refl (λ s k n j. j) (λ s x t k n j. j) kept new i
after_error decided old (Err d) e kept new i = i.new_is

after_unsupported : (decided : Decided) (old : State.State) (c : Result Command Error) (kept : Kept) (new : State.State)
    → MayReplyTo decided old c Given.Unsupported kept new → new ≡ old
unfolding MayReply
after_unsupported decided old (Ok c) kept new i =
    changes_nothing decided old (effect old c) (told old c) Given.Unsupported refl refl (λ s k n j. j) (λ s x t k n j. j) kept new i
after_unsupported decided old (Err d) kept new i = i.new_is

pub unchanged : (decided : Decided) (old : State.State) (ts : List Token) (kept : Kept) (new : State.State) → ChangesNothing decided old ts kept new
unfolding Replies
unchanged decided old ts kept new =
    record {
      after_error = λ e i. after_error decided old (command (sexp ts)) e kept new i;
      after_unsupported = λ i. after_unsupported decided old (command (sexp ts)) kept new i;
    }
