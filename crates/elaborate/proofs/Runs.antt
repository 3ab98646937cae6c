-- All tokens of a term.
use Rattle.std.proofs.Common.{◌≡◌, ℕ, ◌+◌, ◌<◌, List, [], ◌∷◌, ◌++◌, length, drop, map, zero, suc, take, append-nil, append_assoc, arith, ap, sym, subst, ◌∙◌, refl, Option, Some, None}
use Rattle.std.specs.Prelude.{Result, Ok, Err}
use Rattle.smt_meaning.specs.declared.tokens.Token.{Token}
use Rattle.smt_meaning.specs.declared.tokens.Token.TheVariants.{Enter, Leave, Numeral, Decimal, Hex, Binary, Text, Symbol, Reserved, Keyword}
use Rattle.smt_meaning.specs.declared.refusals.Refusal.TheVariants.{WrongArguments}
use Rattle.smt_meaning.specs.Term.{Tree}
use Rattle.smt_meaning.specs.Sexp.{Sexps, open_lists_of, sexp, IsSexp}
use Rattle.smt_meaning.specs.Sorts.{Scope, Outcome, done, refused, Judging, go_on, ◌>>=◌, return, refuse, Typed, Rules, judge}
use Rattle.smt_laws.specs.Walk.{Frame as Meant, whole, on_enter, on_leave, on_words, first_list, step, run, finish}
use Rattle.smt_laws.specs.TermWalkLaws.{WalkGivesTheJudgement}
use Rattle.elaborate.specs.declared.value.Value.{Value}
use Rattle.elaborate.specs.declared.frame.Binding.{Binding}
use Rattle.elaborate.specs.declared.frame.Frame.{Frame}
use Rattle.elaborate.specs.declared.frame.Frame.TheVariants.{Opened, Application, Dividing, Division, LetOpen, Bindings, BindingOpen, Bound, BoundTo, Body, Done, Annotation, Attributes, Naming}
use Rattle.elaborate.specs.declared.frame.Walk.{Walk}
use Rattle.elaborate.specs.declared.error.JudgeError.{JudgeError}
use Rattle.elaborate.specs.declared.error.JudgeError.TheVariants.{Refused, Memory}
use Rattle.elaborate.specs.declared.steps.Class.TheVariants.{Opening, Closing, Word}
use Rattle.term_store.specs.Terms.{Terms}
use Rattle.std.proofs.lemmas.List.{take_at}
use Rattle.elaborate.specs.Judged.{IsCauseOf}
use Rattle.elaborate.specs.Values.{typed, HasGrown, Comes}
use Rattle.elaborate.specs.Frames.{variable_at, frames_of, stack_of, walk_of, AnswerHolds, Stands}
use Rattle.elaborate.specs.Steps.{class_of, StepComes}

same_step : (m n : Judging (List Meant)) (s : Scope) (tokens : List Token) (u : Scope) (w : Walk) (y : Result (Unit {0}) JudgeError) → m ≡ n → StepComes n s tokens u w y → StepComes m s tokens u w y
same_step m n s tokens u w y e h = subst (λ k. StepComes k s tokens u w y) (sym e) h

the_same : (t u : Token) (ts us : List Token) (xs : List Token) → xs ≡ t ∷ ts → xs ≡ u ∷ us → t ≡ u
the_same t u ts us xs e f = let k : t ∷ ts ≡ u ∷ us = sym e ∙ f in cc

is_enter : (r : Rules) (fs : List Meant) (t : Token) (lists : List Sexps) → class_of t ≡ Opening → step r fs t lists ≡ on_enter fs (first_list lists)
is_enter r fs Enter lists e = refl
is_enter r fs Leave lists e = absurd (cc)
is_enter r fs (Numeral cs) lists e = absurd (cc)
is_enter r fs (Decimal cs) lists e = absurd (cc)
is_enter r fs (Hex cs) lists e = absurd (cc)
is_enter r fs (Binary cs) lists e = absurd (cc)
is_enter r fs (Text cs) lists e = absurd (cc)
is_enter r fs (Symbol cs) lists e = absurd (cc)
is_enter r fs (Reserved cs) lists e = absurd (cc)
is_enter r fs (Keyword cs) lists e = absurd (cc)

is_leave : (r : Rules) (fs : List Meant) (t : Token) (lists : List Sexps) → class_of t ≡ Closing → step r fs t lists ≡ on_leave r fs
is_leave r fs Enter lists e = absurd (cc)
is_leave r fs Leave lists e = refl
is_leave r fs (Numeral cs) lists e = absurd (cc)
is_leave r fs (Decimal cs) lists e = absurd (cc)
is_leave r fs (Hex cs) lists e = absurd (cc)
is_leave r fs (Binary cs) lists e = absurd (cc)
is_leave r fs (Text cs) lists e = absurd (cc)
is_leave r fs (Symbol cs) lists e = absurd (cc)
is_leave r fs (Reserved cs) lists e = absurd (cc)
is_leave r fs (Keyword cs) lists e = absurd (cc)

is_word : (r : Rules) (fs : List Meant) (t : Token) (lists : List Sexps) → class_of t ≡ Word → step r fs t lists ≡ on_words r fs t (first_list lists)
is_word r fs Enter lists e = absurd (cc)
is_word r fs Leave lists e = absurd (cc)
is_word r fs (Numeral cs) lists e = refl
is_word r fs (Decimal cs) lists e = refl
is_word r fs (Hex cs) lists e = refl
is_word r fs (Binary cs) lists e = refl
is_word r fs (Text cs) lists e = refl
is_word r fs (Symbol cs) lists e = refl
is_word r fs (Reserved cs) lists e = refl
is_word r fs (Keyword cs) lists e = refl

pub step_enter : (r : Rules) (fs : List Meant) (t v : Token) (ts us xs : List Token) (lists : List Sexps) (s : Scope) (tokens : List Token) (u : Scope) (w : Walk) (y : Result (Unit {0}) JudgeError) → xs ≡ t ∷ ts → xs ≡ v ∷ us → class_of v ≡ Opening
    → StepComes (on_enter fs (first_list lists)) s tokens u w y → StepComes (step r fs t lists) s tokens u w y
step_enter r fs t v ts us xs lists s tokens u w y e f k h =
    let same : t ≡ v = the_same t v ts us xs e f in
    subst (λ x. StepComes (step r fs x lists) s tokens u w y) (sym same) (same_step (step r fs v lists) (on_enter fs (first_list lists)) s tokens u w y (is_enter r fs v lists k) h)

pub step_leave : (r : Rules) (fs : List Meant) (t v : Token) (ts us xs : List Token) (lists : List Sexps) (s : Scope) (tokens : List Token) (u : Scope) (w : Walk) (y : Result (Unit {0}) JudgeError) → xs ≡ t ∷ ts → xs ≡ v ∷ us → class_of v ≡ Closing
    → StepComes (on_leave r fs) s tokens u w y → StepComes (step r fs t lists) s tokens u w y
step_leave r fs t v ts us xs lists s tokens u w y e f k h =
    let same : t ≡ v = the_same t v ts us xs e f in
    subst (λ x. StepComes (step r fs x lists) s tokens u w y) (sym same) (same_step (step r fs v lists) (on_leave r fs) s tokens u w y (is_leave r fs v lists k) h)

pub step_word : (r : Rules) (fs : List Meant) (t v : Token) (ts us xs : List Token) (lists : List Sexps) (s : Scope) (tokens : List Token) (u : Scope) (w : Walk) (y : Result (Unit {0}) JudgeError) → xs ≡ t ∷ ts → xs ≡ v ∷ us → class_of v ≡ Word
    → StepComes (on_words r fs v (first_list lists)) s tokens u w y → StepComes (step r fs t lists) s tokens u w y
step_word r fs t v ts us xs lists s tokens u w y e f k h =
    let same : t ≡ v = the_same t v ts us xs e f in
    subst (λ x. StepComes (step r fs x lists) s tokens u w y) (sym same) (same_step (step r fs v lists) (on_words r fs v (first_list lists)) s tokens u w y (is_word r fs v lists k) h)

-- ---- all tokens

abbrev at : Scope → List Tree → Scope
at s ts = record s { trees = ts }

-- where a walk stands before the i-th token
pub record IsAt (r : Rules) (tokens : List Token) (s : Scope) (fs : List Meant) (i : ℕ) (w : Walk) (ts : List Tree) : Type 0 where
  pub stands : Stands (record s { trees = ts }) w
  pub rest : run r tokens fs s ≡ run r (drop i tokens) (walk_of tokens (record s { trees = ts }) w) (record s { trees = ts })

pub starts : (r : Rules) (tokens : List Token) (s : Scope) (w : Walk) → Stands s w → IsAt r tokens s (walk_of tokens s w) 0 w s.trees
starts r tokens s w st = record { stands = st; rest = refl }

pub taken_at : (tokens : List Token) (i : ℕ) → i < length tokens → (t : Token) × (drop i tokens ≡ t ∷ drop (i + 1) tokens)
taken_at tokens i h = go tokens i h
  where
    go : (xs : List Token) (k : ℕ) → k < length xs → (t : Token) × (drop k xs ≡ t ∷ drop (k + 1) xs)
    go [] k h = absurd (omega arith)
    go (x ∷ xs) zero h = (x, refl)
    go (x ∷ xs) (suc k) h = let rest : (t : Token) × (drop k xs ≡ t ∷ drop (k + 1) xs) = go xs k (omega arith) in
        let e : suc (k + 1) ≡ suc k + 1 = omega arith in
        (rest.0, rest.1 ∙ ap (λ j. rest.0 ∷ drop j (x ∷ xs)) e)

pub run_step : (r : Rules) (t : Token) (ts : List Token) (fs : List Meant) (s : Scope) (x : Outcome (List Meant)) → step r fs t (open_lists_of ts) s ≡ x → run r (t ∷ ts) fs s ≡ go_on x (run r ts)
unfolding ◌>>=◌
run_step r t ts fs s x e = ap (λ y. go_on y (run r ts)) e

pub goes : (r : Rules) (tokens : List Token) (s : Scope) (fs : List Meant) (i : ℕ) (w w' : Walk) (ts us : List Tree) (t : Token) (x : Unit {0}) → IsAt r tokens s fs i w ts → drop i tokens ≡ t ∷ drop (i + 1) tokens
    → StepComes (step r (walk_of tokens (record s { trees = ts }) w) t (open_lists_of (drop (i + 1) tokens))) (record s { trees = ts }) tokens (record s { trees = us }) w' (Ok x) → IsAt r tokens s fs (i + 1) w' us
goes r tokens s fs i w w' ts us t x here e h = record {
  stands = h.1;
  rest =
      here.rest ∙ ap (λ xs. run r xs (walk_of tokens (at s ts) w) (at s ts)) e
      ∙ run_step r t (drop (i + 1) tokens) (walk_of tokens (at s ts) w) (at s ts) (done (walk_of tokens (at s us) w') (at s us)) h.0;
}

pub stops : (r : Rules) (tokens : List Token) (s : Scope) (fs : List Meant) (i : ℕ) (w : Walk) (w' : Walk) (ts : List Tree) (u v : Scope) (t : Token) (e : JudgeError) → IsAt r tokens s fs i w ts → drop i tokens ≡ t ∷ drop (i + 1) tokens
    → StepComes (step r (walk_of tokens (record s { trees = ts }) w) t (open_lists_of (drop (i + 1) tokens))) (record s { trees = ts }) tokens u w' (Err e) → StepComes (run r tokens fs) s tokens v w' (Err e)
stops r tokens s fs i w w' ts u v t (Refused why) here e h =
    here.rest ∙ ap (λ xs. run r xs (walk_of tokens (at s ts) w) (at s ts)) e ∙ run_step r t (drop (i + 1) tokens) (walk_of tokens (at s ts) w) (at s ts) (refused why) h
stops r tokens s fs i w w' ts u v t Memory here e h = tt

pub run_nothing : (r : Rules) (fs : List Meant) (s : Scope) → run r [] fs s ≡ done fs s
unfolding return
run_nothing r fs s = refl

pub ends_so : (r : Rules) (tokens : List Token) (s : Scope) (fs : List Meant) (i : ℕ) (w : Walk) (ts : List Tree) (x : Unit {0}) → IsAt r tokens s fs i w ts → drop i tokens ≡ [] → StepComes (run r tokens fs) s tokens (record s { trees = ts }) w (Ok x)
ends_so r tokens s fs i w ts x here e = (
  here.rest ∙ ap (λ xs. run r xs (walk_of tokens (at s ts) w) (at s ts)) e ∙ run_nothing r (walk_of tokens (at s ts) w) (at s ts),
  here.stands,
)

-- ---- the whole term

run_finish : (r : Rules) (tokens : List Token) (fs : List Meant) (s : Scope) (x : Outcome (List Meant)) → run r tokens fs s ≡ x → (run r tokens fs >>= finish) s ≡ go_on x finish
unfolding ◌>>=◌
run_finish r tokens fs s x e = ap (λ y. go_on y finish) e

pub finished_answer : (tokens : List Token) (u : Scope) (o : Option Value) (bs : List Binding) (fs : List Frame) (v : Value) → o ≡ Some v → finish (stack_of tokens u o bs fs) u ≡ done (typed u.trees v) u
unfolding return
finished_answer tokens u None bs fs v e = absurd (cc)
finished_answer tokens u (Some x) bs fs v e = let same : x ≡ v = cc in ap (λ y. done (typed u.trees y) u) same

pub unfinished : (tokens : List Token) (u : Scope) (o : Option Value) (bs : List Binding) (fs : List Frame) → o ≡ None → finish (stack_of tokens u o bs fs) u ≡ refused WrongArguments
unfolding refuse
unfinished tokens u (Some x) bs fs e = absurd (cc)
unfinished tokens u None bs [] e = refl
unfinished tokens u None bs (Opened ∷ fs) e = refl
unfinished tokens u None bs (Application n q vs ∷ fs) e = refl
unfinished tokens u None bs (Dividing n d ∷ fs) e = refl
unfinished tokens u None bs (Division n vs ∷ fs) e = refl
unfinished tokens u None bs (LetOpen ∷ fs) e = refl
unfinished tokens u None bs (Bindings xs ∷ fs) e = refl
unfinished tokens u None bs (BindingOpen xs ∷ fs) e = refl
unfinished tokens u None bs (Bound xs n ∷ fs) e = refl
unfinished tokens u None bs (BoundTo xs n v ∷ fs) e = refl
unfinished tokens u None bs (Body k ∷ fs) e = refl
unfinished tokens u None bs (Done v ∷ fs) e = refl
unfinished tokens u None bs (Annotation p ∷ fs) e = refl
unfinished tokens u None bs (Attributes v p d ∷ fs) e = refl
unfinished tokens u None bs (Naming v p ∷ fs) e = refl

pub judged_is : (law : WalkGivesTheJudgement) (r : Rules) (tokens : List Token) (s : Scope) (w : Walk) (x : Outcome (List Meant)) → IsSexp tokens → w.answer ≡ None → w.frames ≡ [] → run r tokens (walk_of tokens s w) s ≡ x
    → judge r (map (variable_at s.trees) w.bindings) (sexp tokens) s ≡ go_on x finish
judged_is law r tokens s w x form a f e =
    let start : walk_of tokens s w ≡ whole (map (variable_at s.trees) w.bindings) ∷ [] = ap (λ o. stack_of tokens s o w.bindings w.frames) a ∙ ap (frames_of tokens s w.bindings) f in
    sym (law r (map (variable_at s.trees) w.bindings) tokens s form)
    ∙ run_finish r tokens (whole (map (variable_at s.trees) w.bindings) ∷ []) s x (ap (λ fs. run r tokens fs s) (sym start) ∙ e)

pub judged_answer : (law : WalkGivesTheJudgement) (r : Rules) (tokens : List Token) (s : Scope) (w w' : Walk) (us : List Tree) (v : Value) (x : Unit {0}) → IsSexp tokens → w.answer ≡ None → w.frames ≡ []
    → StepComes (run r tokens (walk_of tokens s w)) s tokens (record s { trees = us }) w' (Ok x) → w'.answer ≡ Some v → Comes (judge r (map (variable_at s.trees) w.bindings) (sexp tokens)) s us (Ok v)
judged_answer law r tokens s w w' us v x form a f h e = (
  judged_is law r tokens s w (done (walk_of tokens (at s us) w') (at s us)) form a f h.0 ∙ finished_answer tokens (at s us) w'.answer w'.bindings w'.frames v e,
  subst (AnswerHolds (at s us)) e h.1.answer,
)

pub judged_unfinished : (law : WalkGivesTheJudgement) (r : Rules) (tokens : List Token) (s : Scope) (w w' : Walk) (us : List Tree) (x : Unit {0}) → IsSexp tokens → w.answer ≡ None → w.frames ≡ []
    → StepComes (run r tokens (walk_of tokens s w)) s tokens (record s { trees = us }) w' (Ok x) → w'.answer ≡ None → judge r (map (variable_at s.trees) w.bindings) (sexp tokens) s ≡ refused WrongArguments
judged_unfinished law r tokens s w w' us x form a f h e =
    judged_is law r tokens s w (done (walk_of tokens (at s us) w') (at s us)) form a f h.0 ∙ unfinished tokens (at s us) w'.answer w'.bindings w'.frames e

pub judged_refused : (law : WalkGivesTheJudgement) (r : Rules) (tokens : List Token) (s u : Scope) (w w' : Walk) (us : List Tree) (x : JudgeError) → IsSexp tokens → w.answer ≡ None → w.frames ≡ []
    → StepComes (run r tokens (walk_of tokens s w)) s tokens u w' (Err x) → Comes (judge r (map (variable_at s.trees) w.bindings) (sexp tokens)) s us (Err x)
judged_refused law r tokens s u w w' us (Refused why) form a f h = judged_is law r tokens s w (refused why) form a f h
judged_refused law r tokens s u w w' us Memory form a f h = tt

-- ---- a longer list of terms, and back

pub grown_self : (s : Terms) → HasGrown s s
grown_self s = (([], sym (append-nil s.trees)), refl)

pub grown_on : (s t u : Terms) → HasGrown s t → HasGrown t u → HasGrown s u
grown_on s t u h k = ((h.0.0 ++ k.0.0, k.0.1 ∙ ap (λ xs. xs ++ k.0.0) h.0.1 ∙ append_assoc s.trees h.0.0 k.0.0), k.1 ∙ h.1)

pub cut_back : (s t u : Terms) (k : ℕ) → HasGrown s t → k ≡ length s.trees → u ≡ record { limit = t.limit; trees = take k t.trees } → u ≡ s
cut_back s t u k h e f =
    f ∙ ap (λ n. record { limit = n; trees = take k t.trees }) h.1 ∙ ap (λ xs. record { limit = s.limit; trees = take k xs }) h.0.1
    ∙ ap (λ xs. record { limit = s.limit; trees = xs }) (take_at s.trees h.0.0 k (sym e))

pub cause_of : (m : Judging Typed) (s : Scope) (us : List Tree) (e : JudgeError) → Comes m s us (Err e) → IsCauseOf e (m s)
cause_of m s us (Refused r) h = h
cause_of m s us Memory h = tt
