-- What a command that is no check comes to is one of the replies that may be given.
use Rattle.std.proofs.Common.{◌≡◌, ◌∙◌, ◌++◌, ◌∷◌, [], ℕ, ℤ, Bool, List, Option, Some, None, true, false, refl, ap, sym, subst, append-nil}
use Rattle.std.specs.Prelude.{codes}
use Rattle.smt_meaning.specs.declared.answers.Reply.{Reply}
use Rattle.smt_meaning.specs.declared.replies.Kept.TheVariants.{Nothing, Core}
use Rattle.smt_meaning.specs.declared.commands.Command.{Command}
use Rattle.smt_meaning.specs.declared.commands.Command.TheVariants.{CheckSat, CheckSatAssuming, GetUnsatCore, GetUnsatAssumptions, Minimize}
use Rattle.smt_meaning.specs.State.{State, Effect, denied, left_out, accepted, answered, checked, minimizes, reduces, effect, with_logic, in_logic, checks, assuming, check_assuming, minimizing, minimize, frame_of, get_value, kept_model, valued, provided, Candidates, is_unsat, get_unsat_core, get_unsat_assumptions}
use Rattle.smt_meaning.specs.MayReply.{MayCome, MayDecide, MayMinimize, MayReply}
use Rattle.smt_meaning.specs.Core.{IsCore, core_reply}
use Rattle.smt_meaning.specs.declared.replies.Held.{Held}
use Rattle.smt_meaning.specs.declared.replies.Kept.{Kept}
use Rattle.smt_meaning.specs.declared.answers.Reply.TheVariants as Given
use Rattle.smt_meaning.specs.declared.errors.Error.TheVariants.{Refused as RefusedIn, OptionIsOff, NotUnsat}
use Rattle.smt_meaning.specs.declared.answers.Mode.{Mode}
use Rattle.smt_meaning.specs.declared.refusals.Refusal.{Refusal}
use Rattle.smt_meaning.specs.declared.options.Options.{Options}
use Rattle.smt_meaning.specs.declared.settings.Settings.{Settings}
use Rattle.smt_meaning.specs.declared.tokens.Token.{Token}
use Rattle.smt_meaning.specs.Stack.{Frame}
use Rattle.smt_meaning.specs.StackCommand.{Stack, judged, stack_command}
use Rattle.scope_stack.specs.Carries.{IsRefused, assumption, question}
use Rattle.goal_search.specs.declared.answer.Answer.{Answer}
use Rattle.goal_search.specs.declared.assuming.Assumed.{Assumed}
use Rattle.smt_meaning.specs.declared.values.Table.{Table}
use Rattle.smt_meaning.specs.declared.answers.Mode.TheVariants as In
use Rattle.smt_meaning.specs.declared.options.OptionName.{OptionName}
use Rattle.smt_meaning.specs.declared.options.OptionName.TheVariants as Named
use Rattle.goal_search.specs.Assumed.{IsAnswerTo, IsCheckedUnder}
use Rattle.goal_search.specs.Checked.{IsChecked}
use Rattle.session.proofs.Aboves.{above_stays}
use Rattle.session.specs.declared.above.Above.{Above}
use Rattle.session.specs.declared.above.Above.TheVariants.{Assumed as AssumedAbove}
use Rattle.session.specs.Above.{above_by, AreAbove, StandIn}
use Rattle.session.specs.Effects.{Comes, ComesOfQuestion}
use Rattle.session.specs.Minimized.{IsMinimizedUnder, minimization}
use Rattle.session.specs.Taken.{every_stack}
use Rattle.smt_meaning.specs.Goal.{is_itself}
use Rattle.smt_meaning.specs.Term.{Tree, tree_at}

comes_is : (old : State) (e : Effect) (reply : Reply) (new : State) → Comes e old reply new → MayCome every_stack old e reply Nothing new
comes_is old (denied e) reply new h = record { reply_is = h.0; kept_is = refl; new_is = h.1 }
comes_is old left_out reply new h = record { reply_is = h.0; kept_is = refl; new_is = h.1 }
comes_is old (accepted s) reply new h = record { reply_is = h.0; kept_is = refl; new_is = h.1 }
comes_is old (answered r s) reply new h = record { reply_is = h.0; kept_is = refl; new_is = h.1 }
comes_is old (checked s) reply new h = absurd h
comes_is old (minimizes text t s) reply new h = absurd h
comes_is old (reduces among) reply new h = absurd h

pub answered_so : (old : State) (c : Command) (reply : Reply) (new : State) → Comes (effect old c) old reply new
    → MayReply every_stack old c reply Nothing new
unfolding MayReply
answered_so old c reply new h = comes_is old (effect old c) reply new h

pub checked_so : (old : State) (reply : Reply) (kept : Kept) (new : State)
    → MayCome every_stack old (checks old old.stack []) reply kept new → MayReply every_stack old CheckSat reply kept new
unfolding MayReply effect
checked_so old reply kept new h = h

pub assumed_so : (old : State) (ts : List (List Token)) (reply : Reply) (kept : Kept) (new : State)
    → MayCome every_stack old (check_assuming old (stack_command (CheckSatAssuming ts))) reply kept new → MayReply every_stack old (CheckSatAssuming ts) reply kept new
unfolding MayReply effect
assumed_so old ts reply kept new h = h

-- ---- checks

options_stay : (l : Option (List ℕ)) (s : State) → (in_logic l s).options ≡ s.options
options_stay None s = refl
options_stay (Some n) s = refl

settings_stay : (l : Option (List ℕ)) (s : State) → (in_logic l s).settings ≡ s.settings
settings_stay None s = refl
settings_stay (Some n) s = refl

entered_by : (l : Option (List ℕ)) (s : State) (stack : Stack) (early m : Mode) (before above : List Frame)
    → record (in_logic l (record s { mode = early; stack = stack; above = before })) { mode = m; above = above } ≡ record (in_logic l s) { mode = m; stack = stack; above = above }
entered_by None s stack early m before above = refl
entered_by (Some n) s stack early m before above = refl

-- the state after a mode is entered, where the stack and the mode are others already
pub entered : (s : State) (stack : Stack) (early m : Mode) (before above : List Frame)
    → record (with_logic (record s { mode = early; stack = stack; above = before })) { mode = m; above = above } ≡ record (with_logic s) { mode = m; stack = stack; above = above }
entered s stack early m before above = entered_by s.logic s stack early m before above

-- a check of this stack, with these levels above it, is answered so
pub decided_so : (old : State) (stack : Stack) (above : List Frame) (workers : ℕ) (limit : ℤ) (a : Answer) (new : State)
    → IsAnswerTo stack above workers limit a → old.settings.workers ≡ workers → old.options.reproducible_resource_limit ≡ limit
    → new ≡ record (with_logic old) { mode = a.mode; stack = stack; above = above } → MayCome every_stack old (checks old stack above) a.reply a.kept new
decided_so old stack above workers limit a new answers crew lim e =
    subst (MayDecide (record (with_logic old) { stack = stack; above = above }) a.reply a.kept) (sym e)
    (answers (record (with_logic old) { stack = stack; above = above }) refl refl (ap (λ (x : Settings). x.workers) (settings_stay old.logic old) ∙ crew) (ap (λ (o : Options). o.reproducible_resource_limit) (options_stay old.logic old) ∙ lim))

-- what answers the stack alone answers its check
pub alone : (workers : ℕ) (limit : ℤ) (stack : Stack) (a : Answer) → IsChecked workers limit stack a → IsAnswerTo stack [] workers limit a
alone workers limit stack a k = λ s same none crew lim.
    k.answer s (ap (λ (t : Stack). t.trees) same) (ap (λ (t : Stack). t.frames ++ s.above) same ∙ ap (λ fs. stack.frames ++ fs) none ∙ append-nil stack.frames) crew lim

-- ---- checks under assumptions

comes_of : (old : State) (e f : Effect) (reply : Reply) (kept : Kept) (new : State) → e ≡ f → MayCome every_stack old f reply kept new → MayCome every_stack old e reply kept new
comes_of old e f reply kept new same h = subst (λ x. MayCome every_stack old x reply kept new) (sym same) h

pub under_so : (old : State) (ts : List (List Token)) (workers : ℕ) (limit : ℤ) (a : Assumed) (stack : Stack) (new : State) → IsCheckedUnder workers limit ts old.stack a stack
    → old.settings.workers ≡ workers → old.options.reproducible_resource_limit ≡ limit
    → new ≡ record (with_logic old) { mode = a.answer.mode; stack = stack; above = above_by stack.trees (AssumedAbove a.assumptions) }
    → MayCome every_stack old (check_assuming old (stack_command (CheckSatAssuming ts))) a.answer.reply a.answer.kept new
under_so old ts workers limit a stack new k crew lim e =
    let above : above_by stack.trees (AssumedAbove a.assumptions) ≡ frame_of k.assumed ∷ [] = ap (λ xs. frame_of xs ∷ []) k.assumptions in
    comes_of old (assuming old (judged (assumption ts) old.stack)) (checks old stack (frame_of k.assumed ∷ [])) a.answer.reply a.answer.kept new
    (ap (assuming old) k.is_judged ∙ ap (λ (s : Stack). checks old s (frame_of k.assumed ∷ [])) (sym k.new_is))
    (decided_so old stack (frame_of k.assumed ∷ []) workers limit a.answer new k.answer crew lim
    (e ∙ ap (λ fs. record (with_logic old) { mode = a.answer.mode; stack = stack; above = fs }) above))

pub refused_under_so : (old : State) (ts : List (List Token)) (why : Refusal) (stack : Stack) (reply : Reply) (new : State) → IsRefused (assumption ts) why old.stack stack → new ≡ old
    → reply ≡ Given.Error (RefusedIn (codes "check-sat-assuming") why)
    → MayCome every_stack old (check_assuming old (stack_command (CheckSatAssuming ts))) reply Nothing new
refused_under_so old ts why stack reply new k e r =
    comes_of old (assuming old (judged (assumption ts) old.stack)) (denied (RefusedIn (codes "check-sat-assuming") why)) reply Nothing new
    (ap (assuming old) k.is_judged) (record { reply_is = r; kept_is = refl; new_is = e })

-- ---- what the functions come to

pub check_so : (old mid : State) (stack found : Stack) (workers : ℕ) (limit : ℤ) (a : Answer) (new : State)
    → stack ≡ old.stack → found ≡ stack → IsChecked workers limit stack a → workers ≡ old.settings.workers → limit ≡ old.options.reproducible_resource_limit
    → mid ≡ record old { mode = In.Assert; stack = found; above = [] } → new ≡ record (with_logic mid) { mode = a.mode; above = [] }
    → MayCome every_stack old (checks old old.stack []) a.reply a.kept new
check_so old mid stack found workers limit a new same stays k crew lim m e =
    decided_so old old.stack [] workers limit a new (subst (λ (s : Stack). IsAnswerTo s [] workers limit a) same (alone workers limit stack a k)) (sym crew) (sym lim)
    (e ∙ ap (λ (s : State). record (with_logic s) { mode = a.mode; above = [] }) m ∙ entered old found In.Assert a.mode [] []
    ∙ ap (λ (s : Stack). record (with_logic old) { mode = a.mode; stack = s; above = [] }) (stays ∙ same))

pub assumed_ok : (old mid : State) (stack found : Stack) (ts : List (List Token)) (workers : ℕ) (limit : ℤ) (a : Assumed) (reply : Reply) (kept : Kept) (new : State)
    → stack ≡ old.stack → IsCheckedUnder workers limit ts stack a found → workers ≡ old.settings.workers → limit ≡ old.options.reproducible_resource_limit
    → mid ≡ record old { mode = In.Assert; stack = found; above = [] } → new ≡ record (with_logic mid) { mode = a.answer.mode; above = above_by found.trees (AssumedAbove a.assumptions) }
    → reply ≡ a.answer.reply → kept ≡ a.answer.kept → MayCome every_stack old (check_assuming old (stack_command (CheckSatAssuming ts))) reply kept new
assumed_ok old mid stack found ts workers limit a reply kept new same is crew lim m e r k =
    subst (λ x. MayCome every_stack old (check_assuming old (stack_command (CheckSatAssuming ts))) x kept new) (sym r)
    (subst (λ x. MayCome every_stack old (check_assuming old (stack_command (CheckSatAssuming ts))) a.answer.reply x new) (sym k)
    (under_so old ts workers limit a found new (subst (λ (s : Stack). IsCheckedUnder workers limit ts s a found) same is) (sym crew) (sym lim)
    (e ∙ ap (λ (s : State). record (with_logic s) { mode = a.answer.mode; above = above_by found.trees (AssumedAbove a.assumptions) }) m ∙ entered old found In.Assert a.answer.mode [] (above_by found.trees (AssumedAbove a.assumptions)))))

pub assumed_reply : (old : State) (c : Command) (ts us : List (List Token)) (reply : Reply) (kept : Kept) (new : State) → c ≡ CheckSatAssuming ts → us ≡ ts
    → MayCome every_stack old (check_assuming old (stack_command (CheckSatAssuming us))) reply kept new → MayReply every_stack old c reply kept new
assumed_reply old c ts us reply kept new is same h =
    subst (λ d. MayReply every_stack old d reply kept new) (sym is) (assumed_so old ts reply kept new (subst (λ ws. MayCome every_stack old (check_assuming old (stack_command (CheckSatAssuming ws))) reply kept new) same h))

pub asked_so : (old : State) (i : List Table) (ts us : List (List Token)) (stack found : Stack) (xs : Above) (reply : Reply) (new : State)
    → old.mode ≡ In.Sat i → old.options.produce_models ≡ true → us ≡ ts → stack ≡ old.stack → ComesOfQuestion i us stack reply found → StandIn stack.trees found.trees → AreAbove stack.trees xs
    → old.above ≡ above_by stack.trees xs → new ≡ record old { stack = found; above = above_by found.trees xs } → Comes (get_value old ts (kept_model old.mode)) old reply new
asked_so old i ts us stack found xs reply new mode on texts same h stand within above e =
    let kept : above_by found.trees xs ≡ old.above = above_stays stack.trees found.trees xs stand within ∙ sym above in
    let state : new ≡ record old { stack = found } = e ∙ ap (λ fs. record old { stack = found; above = fs }) kept in
    let effect_is : get_value old ts (kept_model old.mode) ≡ valued old i ts (judged (question ts) old.stack) =
    ap (λ m. get_value old ts (kept_model m)) mode ∙ ap (λ b. provided b (OptionIsOff Named.ProduceModels) (valued old i ts (judged (question ts) old.stack))) on in
    subst (λ f. Comes f old reply new) (sym effect_is)
    (subst (λ n. Comes (valued old i ts (judged (question ts) old.stack)) old reply n) (sym state)
    (subst (λ ws. Comes (valued old i ws (judged (question ws) old.stack)) old reply (record old { stack = found })) texts (h old (sym same))))

-- ---- least values

minimum_so : (old : State) (text : List Token) (workers : ℕ) (limit : ℤ) (a : Assumed) (stack : Stack) (new : State) → IsMinimizedUnder workers limit text old.stack a stack
    → old.settings.workers ≡ workers → old.options.reproducible_resource_limit ≡ limit
    → new ≡ record (with_logic old) { mode = a.answer.mode; stack = stack; above = above_by stack.trees (AssumedAbove a.assumptions) }
    → MayCome every_stack old (minimize old text (stack_command (Minimize text))) a.answer.reply a.answer.kept new
minimum_so old text workers limit a stack new k crew lim e =
    let t : Tree = tree_at k.mid.trees k.place in
    let level : List Frame = frame_of (is_itself text t ∷ []) ∷ [] in
    let there : State = record (with_logic old) { stack = stack; above = level } in
    let stack_is : record old.stack { trees = stack.trees } ≡ stack =
    ap (λ (s : Stack). record s { trees = stack.trees }) (sym k.goal.is_asked.new_is) ∙ ap (λ ts. record k.mid { trees = ts }) (ap (λ (s : Stack). s.trees) k.minimized.above.new_is) ∙ sym k.minimized.above.new_is in
    comes_of old (minimize old text (stack_command (Minimize text))) (minimizes text t there) a.answer.reply a.answer.kept new
    (ap (minimizing old text) (k.goal.is_judged ∙ k.minimized.above.is_judged) ∙ ap (λ (s : Stack). minimizes text t (record (with_logic old) { stack = s; above = level })) stack_is)
    (subst (MayMinimize there text t a.answer.reply a.answer.kept) (sym (e ∙ ap (λ xs. record (with_logic old) { mode = a.answer.mode; stack = stack; above = frame_of xs ∷ [] }) k.minimized.above.assumptions))
    (k.minimized.answer there refl (ap (λ (x : Settings). x.workers) (settings_stay old.logic old) ∙ crew) (ap (λ (o : Options). o.reproducible_resource_limit) (options_stay old.logic old) ∙ lim)))

pub minimum_ok : (old mid : State) (stack found : Stack) (text : List Token) (workers : ℕ) (limit : ℤ) (a : Assumed) (reply : Reply) (kept : Kept) (new : State)
    → stack ≡ old.stack → IsMinimizedUnder workers limit text stack a found → workers ≡ old.settings.workers → limit ≡ old.options.reproducible_resource_limit
    → mid ≡ record old { mode = In.Assert; stack = found; above = [] } → new ≡ record (with_logic mid) { mode = a.answer.mode; above = above_by found.trees (AssumedAbove a.assumptions) }
    → reply ≡ a.answer.reply → kept ≡ a.answer.kept → MayCome every_stack old (minimize old text (stack_command (Minimize text))) reply kept new
minimum_ok old mid stack found text workers limit a reply kept new same is crew lim m e r k =
    subst (λ x. MayCome every_stack old (minimize old text (stack_command (Minimize text))) x kept new) (sym r)
    (subst (λ x. MayCome every_stack old (minimize old text (stack_command (Minimize text))) a.answer.reply x new) (sym k)
    (minimum_so old text workers limit a found new (subst (λ (s : Stack). IsMinimizedUnder workers limit text s a found) same is) (sym crew) (sym lim)
    (e ∙ ap (λ (s : State). record (with_logic s) { mode = a.answer.mode; above = above_by found.trees (AssumedAbove a.assumptions) }) m ∙ entered old found In.Assert a.answer.mode [] (above_by found.trees (AssumedAbove a.assumptions)))))

pub minimum_refused : (old : State) (text : List Token) (why : Refusal) (stack : Stack) (reply : Reply) (new : State) → IsRefused (minimization text) why old.stack stack → new ≡ old
    → reply ≡ Given.Error (RefusedIn (codes "minimize") why) → MayCome every_stack old (minimize old text (stack_command (Minimize text))) reply Nothing new
minimum_refused old text why stack reply new k e r =
    comes_of old (minimize old text (stack_command (Minimize text))) (denied (RefusedIn (codes "minimize") why)) reply Nothing new (ap (minimizing old text) k.is_judged)
    (record { reply_is = r; kept_is = refl; new_is = e })

pub minimum_reply : (old : State) (c : Command) (text : List Token) (reply : Reply) (kept : Kept) (new : State) → c ≡ Minimize text
    → MayCome every_stack old (minimize old text (stack_command (Minimize text))) reply kept new → MayReply every_stack old c reply kept new
unfolding MayReply effect
minimum_reply old c text reply kept new is h = subst (λ d. MayReply every_stack old d reply kept new) (sym is) h

-- ---- the commands for cores

pub core_reply_so : (old : State) (c : Command) (reply : Reply) (kept : Kept) (new : State) → c ≡ GetUnsatCore → MayCome every_stack old (get_unsat_core old) reply kept new → MayReply every_stack old c reply kept new
unfolding MayReply effect
core_reply_so old c reply kept new is h = subst (λ d. MayReply every_stack old d reply kept new) (sym is) h

pub assumptions_reply_so : (old : State) (c : Command) (reply : Reply) (kept : Kept) (new : State) → c ≡ GetUnsatAssumptions → MayCome every_stack old (get_unsat_assumptions old) reply kept new
    → MayReply every_stack old c reply kept new
unfolding MayReply effect
assumptions_reply_so old c reply kept new is h = subst (λ d. MayReply every_stack old d reply kept new) (sym is) h

-- ---- cores

-- what asks for a core of these candidates comes to, where this option has this value
abbrev pub asks_core : Candidates → OptionName → Bool → State → Effect
asks_core among option on s = provided (is_unsat s.mode) NotUnsat (provided on (OptionIsOff option) (reduces among))

pub core_not_unsat : (among : Candidates) (option : OptionName) (on : Bool) (old : State) (new : State) → is_unsat old.mode ≡ false → new ≡ old → MayCome every_stack old (asks_core among option on old) (Given.Error NotUnsat) Nothing new
core_not_unsat among option on old new m e = rw m (record { reply_is = refl; kept_is = refl; new_is = e })

core_effect : (among : Candidates) (option : OptionName) (on : Bool) (old : State) (b : Bool) → is_unsat old.mode ≡ true → on ≡ b → asks_core among option on old ≡ provided b (OptionIsOff option) (reduces among)
core_effect among option on old b m o = ap (λ a. provided a NotUnsat (provided on (OptionIsOff option) (reduces among))) m ∙ ap (λ a. provided a (OptionIsOff option) (reduces among)) o

pub core_off : (among : Candidates) (option : OptionName) (on : Bool) (old : State) (new : State) → is_unsat old.mode ≡ true → on ≡ false → new ≡ old
    → MayCome every_stack old (asks_core among option on old) (Given.Error (OptionIsOff option)) Nothing new
core_off among option on old new m o e =
    comes_of old (asks_core among option on old) (denied (OptionIsOff option)) (Given.Error (OptionIsOff option)) Nothing new (core_effect among option on old false m o) (record { reply_is = refl; kept_is = refl; new_is = e })

pub core_given : (among : Candidates) (option : OptionName) (on : Bool) (old : State) (hs : List Held) (reply : Reply) (kept : Kept) (new : State) → is_unsat old.mode ≡ true → on ≡ true → new ≡ old
    → IsCore among old hs → reply ≡ core_reply among old hs → kept ≡ Core hs → MayCome every_stack old (asks_core among option on old) reply kept new
core_given among option on old hs reply kept new m o e core r k =
    comes_of old (asks_core among option on old) (reduces among) reply kept new (core_effect among option on old true m o) (hs, k, core, r, e)
