-- What a command of the stack comes to.
use Rattle.std.proofs.Common.{◌≡◌, ℕ, true, false, List, Option, Some, None, sym, ap, subst, ◌∙◌, refl, Ok, Err}
use Rattle.std.specs.Prelude.{IsTrue, IfSome, IsSome}
use Rattle.smt_meaning.specs.declared.refusals.Refusal.{Refusal}
use Rattle.smt_meaning.specs.declared.errors.Error.TheVariants.{Refused as RefusedIn}
use Rattle.smt_meaning.specs.declared.answers.Reply.{Reply}
use Rattle.smt_meaning.specs.declared.answers.Reply.TheVariants as Given
use Rattle.smt_meaning.specs.declared.commands.Command.{Command}
use Rattle.smt_meaning.specs.declared.commands.Command.TheVariants.{SetLogic, SetOption, GetOption, SetInfo, GetInfo, Echo, Exit, Reset, ResetAssertions, DeclareSort, DefineSort, DeclareConst, DeclareFun, DefineFun, Assert, CheckSat, CheckSatAssuming, Push, Pop, GetValue, GetModel, GetAssertions, GetAssignment, GetUnsatCore, GetUnsatAssumptions, Minimize, LeftOut}
use Rattle.smt_meaning.specs.Sorts.{Scope, done, Judging, return}
use Rattle.smt_meaning.specs.StackCommand.{Stack, Change, declares, asserts, pushes, pops, asks, assumes, sets, clears, begins_again, is_unsupported, judged, changed, stack_command}
use Rattle.smt_meaning.specs.Stack.{cleared as cleared_frames}
use Rattle.smt_meaning.specs.State.{State, Effect, accepted, left_out, denied, with_logic, in_logic, asserting, on_stack, stack_effect}
use Rattle.smt_meaning.specs.State as States
use Rattle.smt_meaning.specs.MayReply.{success}
use Rattle.scope_stack.specs.declared.answers.Carried.TheVariants.{Done, Unsupported}
use Rattle.scope_stack.specs.declared.answers.StackError.TheVariants.{Refused}
use Rattle.scope_stack.specs.Carries.{is_plain, Carries}
use Rattle.session.specs.Effects.{Comes, is_carried}

-- the state with this stack, in the mode of assertions
abbrev pub asserted : State → Stack → State
asserted s new = asserting (with_logic (record s { stack = new }))

same_logic : (l : Option (List ℕ)) (s : State) (new : Stack)
    → asserting (record (in_logic l s) { stack = new }) ≡ asserting (in_logic l (record s { stack = new }))
same_logic None s new = refl
same_logic (Some n) s new = refl

done_change : (s : State) (n : List ℕ) (x : Change) (c : Scope) → IsTrue (is_plain x)
    → on_stack s n (done x c) ≡ accepted (asserted s (changed s.stack x c))
done_change s n declares c h = ap accepted (same_logic s.logic s (changed s.stack declares c))
done_change s n (asserts a) c h = ap accepted (same_logic s.logic s (changed s.stack (asserts a) c))
done_change s n (pushes k) c h = ap accepted (same_logic s.logic s (changed s.stack (pushes k) c))
done_change s n (pops k) c h = ap accepted (same_logic s.logic s (changed s.stack (pops k) c))
done_change s n (asks ts) c h = cc
done_change s n (assumes xs) c h = cc
done_change s n (sets o) c h = cc
done_change s n clears c h = cc
done_change s n begins_again c h = cc
done_change s n is_unsupported c h = cc

-- where its effect is this
comes_as : (e f : Effect) (s : State) (reply : Reply) (new : State) → e ≡ f → Comes f s reply new → Comes e s reply new
comes_as e f s reply new same h = subst (λ x. Comes x s reply new) (sym same) h

pub on_done : (s : State) (n : List ℕ) (o : Option (ℕ → Judging Change)) (new : Stack) (reply : Reply) (t : State) → IsSome o
    → IfSome o (λ c. Carries c s.stack (Ok Done) new) → t ≡ asserted s new → reply ≡ success t → Comes (stack_effect s n o) s reply t
on_done s n None new reply t h d e r = cc
on_done s n (Some f) new reply t h d e r =
    comes_as (stack_effect s n (Some f)) (accepted (asserted s new)) s reply t
    (ap (on_stack s n) d.is_judged ∙ done_change s n d.change d.scope d.plain ∙ ap (λ u. accepted (asserted s u)) (sym d.new_is))
    (r ∙ ap success e, e)

pub on_left_out : (s : State) (n : List ℕ) (o : Option (ℕ → Judging Change)) (new : Stack) (t : State) → IsSome o
    → IfSome o (λ c. Carries c s.stack (Ok Unsupported) new) → (new ≡ s.stack → t ≡ s) → Comes (stack_effect s n o) s Given.Unsupported t
on_left_out s n None new t h d e = cc
on_left_out s n (Some f) new t h d e =
    comes_as (stack_effect s n (Some f)) left_out s Given.Unsupported t (ap (on_stack s n) d.is_judged) (refl, e d.same)

pub on_refused : (s : State) (n : List ℕ) (o : Option (ℕ → Judging Change)) (why : Refusal) (new : Stack) (reply : Reply) (t : State) → IsSome o
    → IfSome o (λ c. Carries c s.stack (Err (Refused why)) new) → (new ≡ s.stack → t ≡ s) → reply ≡ Given.Error (RefusedIn n why)
    → Comes (stack_effect s n o) s reply t
on_refused s n None why new reply t h d e r = cc
on_refused s n (Some f) why new reply t h d e r =
    comes_as (stack_effect s n (Some f)) (denied (RefusedIn n why)) s reply t (ap (on_stack s n) d.is_judged) (r, e d.same)

pub is_command : (c : Command) → IsTrue (is_carried c) → IsSome (stack_command c)
is_command (DeclareSort n arity) h = refl
is_command (DefineSort n ps w) h = refl
is_command (DeclareConst n w) h = refl
is_command (DeclareFun n ws w) h = refl
is_command (DefineFun n ps w t) h = refl
is_command (Assert t) h = refl
is_command (Push n) h = refl
is_command (Pop n) h = refl
is_command (SetLogic n) h = cc
is_command (SetOption o) h = cc
is_command (GetOption o) h = cc
is_command SetInfo h = cc
is_command (GetInfo i) h = cc
is_command (Echo t) h = cc
is_command Exit h = cc
is_command Reset h = cc
is_command ResetAssertions h = cc
is_command CheckSat h = cc
is_command (CheckSatAssuming ts) h = cc
is_command (GetValue ts) h = cc
is_command GetModel h = cc
is_command GetAssertions h = cc
is_command GetAssignment h = cc
is_command GetUnsatCore h = cc
is_command GetUnsatAssumptions h = cc
is_command (Minimize t) h = cc
is_command LeftOut h = cc

-- ---- the commands that begin again

pub reset_is : (s : State) (n : List ℕ) (reply : Reply) (new : State) → reply ≡ success new → new ≡ States.start s.settings
    → Comes (stack_effect s n (stack_command Reset)) s reply new
unfolding judged return
reset_is s n reply new r e = (r ∙ ap success e, e)

abbrev pub cleared : State → State
cleared s = record s { stack = record s.stack { frames = cleared_frames s.stack.global s.stack.frames } }

pub clear_in_start : (s : State) (n : List ℕ) (reply : Reply) (new : State) → States.is_start s.mode ≡ true → reply ≡ success new
    → new ≡ cleared s → Comes (stack_effect s n (stack_command ResetAssertions)) s reply new
unfolding judged return
clear_in_start s n reply new m r e = rw m (r ∙ ap success e, e)

pub clear_later : (s : State) (n : List ℕ) (reply : Reply) (new : State) → States.is_start s.mode ≡ false → reply ≡ success new
    → new ≡ asserting (cleared s) → Comes (stack_effect s n (stack_command ResetAssertions)) s reply new
unfolding judged return
clear_later s n reply new m r e = rw m (r ∙ ap success e, e)
