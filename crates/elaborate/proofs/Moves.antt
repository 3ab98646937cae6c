-- What a token does, by what may come next.
use Rattle.std.proofs.Common.{◌≡◌, ℕ, suc, List, [], ◌∷◌, ◌++◌, take, drop, map, append-nil, arith, ap, sym, subst, ◌∙◌, refl, Bool, true, false, Option, Some, None}
use Rattle.std.specs.Prelude.{Result, Ok, Err, OnOk, OnErr, nat_eq, if◌then◌else◌}
use Rattle.std.proofs.lemmas.Bool.Decides.{nat_tests}
use Rattle.std.proofs.lemmas.List.{map-append, take-append-drop}
use Rattle.smt_meaning.specs.declared.tokens.Token.{Token}
use Rattle.smt_meaning.specs.declared.refusals.Refusal.{Refusal}
use Rattle.smt_meaning.specs.declared.refusals.Refusal.TheVariants.{WrongArguments}
use Rattle.smt_meaning.specs.declared.terms.Operator.{Operator}
use Rattle.smt_meaning.specs.Term.{Tree}
use Rattle.smt_meaning.specs.Sexp.{Sexps}
use Rattle.smt_meaning.specs.Signature.{find_function}
use Rattle.smt_meaning.specs.Sorts.{Scope, Outcome, done, refused, Judging, go_on, ◌>>=◌, return, refuse, Typed, Rules, known_symbol, judge_token, judge_application, judge_head, head_number, judge_divisible}
use Rattle.smt_laws.specs.Walk.{Frame as Meant, whole, opened, dividing, variables, given as given_to, give as given_all, on_enter, on_leave, on_words, on_head}
use Rattle.elaborate.specs.declared.value.Value.{Value}
use Rattle.elaborate.specs.declared.frame.Binding.{Binding as Pair}
use Rattle.elaborate.specs.declared.frame.Frame.{Frame}
use Rattle.elaborate.specs.declared.frame.Frame.TheVariants.{Opened, Application, Dividing, Division, LetOpen, Bindings, BindingOpen, Bound, BoundTo, Body, Done, Annotation, Attributes, Naming}
use Rattle.elaborate.specs.declared.frame.Walk.{Walk}
use Rattle.elaborate.specs.declared.walk.Kind.{Kind}
use Rattle.elaborate.specs.declared.walk.Kind.TheVariants.{Answered, Attribute, Passed}
use Rattle.elaborate.specs.declared.error.JudgeError.{JudgeError}
use Rattle.elaborate.specs.declared.error.JudgeError.TheVariants.{Refused, Memory}
use Rattle.elaborate.specs.Values.{typed, AreValues, IsLonger, Comes}
use Rattle.elaborate.specs.Frames.{variable_at, frame_of, outside, frames_of, stack_of, walk_of, AreBound, IsDivisor, Holds, AllHold, AllWait, OthersWait, AnswerHolds, Stands}
use Rattle.elaborate.specs.Steps.{kind_of, attribute_kind, is_answered, is_past, awaits_term, is_argument, is_divided, is_head, is_name, takes_list, takes_word, may_end, Given, StepComes, IsFrame, FrameComes, IsDivisorHead}
use Rattle.elaborate.proofs.Grow.{Grown, walk_same, stands_grows, others_wait}

pub vars_of : (tokens : List Token) (s : Scope) (bs : List Pair) (fs : List Frame) → variables (frames_of tokens s bs fs) ≡ map (variable_at s.trees) bs
vars_of tokens s bs [] = refl
vars_of tokens s bs (Body k ∷ fs) =
    ap (λ vs. map (variable_at s.trees) (take k bs) ++ vs) (vars_of tokens s (drop k bs) fs) ∙ sym (map-append (variable_at s.trees) (take k bs) (drop k bs)) ∙ ap (map (variable_at s.trees)) (take-append-drop k bs)
vars_of tokens s bs (Opened ∷ fs) = vars_of tokens s bs fs
vars_of tokens s bs (Application n q vs ∷ fs) = vars_of tokens s bs fs
vars_of tokens s bs (Dividing n d ∷ fs) = vars_of tokens s bs fs
vars_of tokens s bs (Division n vs ∷ fs) = vars_of tokens s bs fs
vars_of tokens s bs (LetOpen ∷ fs) = vars_of tokens s bs fs
vars_of tokens s bs (Bindings xs ∷ fs) = vars_of tokens s bs fs
vars_of tokens s bs (BindingOpen xs ∷ fs) = vars_of tokens s bs fs
vars_of tokens s bs (Bound xs n ∷ fs) = vars_of tokens s bs fs
vars_of tokens s bs (BoundTo xs n v ∷ fs) = vars_of tokens s bs fs
vars_of tokens s bs (Done v ∷ fs) = vars_of tokens s bs fs
vars_of tokens s bs (Annotation p ∷ fs) = vars_of tokens s bs fs
vars_of tokens s bs (Attributes v p d ∷ fs) = vars_of tokens s bs fs
vars_of tokens s bs (Naming v p ∷ fs) = vars_of tokens s bs fs

pub no : false ≡ true → ⊥
no e = cc

-- no answer has come where what comes is of a kind that isn't an answer's
pub none_so : (is : Kind → Bool) → is Answered ≡ false → (o : Option Value) (fs : List Frame) → is (kind_of o fs) ≡ true → o ≡ None
none_so is other None fs e = refl
none_so is other (Some v) fs e = absurd (no (sym other ∙ e))

pub not_zero : (d : ℕ) → nat_eq (suc d) 0 ≡ false
not_zero d = grind (arith, nat_tests)

-- an attribute's kind is none of these
attribute_no : (p : Kind → Bool) → p Attribute ≡ false → p Passed ≡ false → (d : ℕ) → p (attribute_kind d) ≡ true → ⊥
attribute_no p a b d e = go (nat_eq d 0) e
  where
    go : (c : Bool) → p (if c then Attribute else Passed) ≡ true → ⊥
    go true h = no (sym a ∙ h)
    go false h = no (sym b ∙ h)

-- an attribute's kind is one of these
attribute_yes : (p : Kind → Bool) → p Attribute ≡ true → p Passed ≡ true → (d : ℕ) → p (attribute_kind d) ≡ false → ⊥
attribute_yes p a b d e = go (nat_eq d 0) e
  where
    go : (c : Bool) → p (if c then Attribute else Passed) ≡ false → ⊥
    go true h = no (sym h ∙ a)
    go false h = no (sym h ∙ b)

-- where a term may come, each frame waits for one
pub all_wait : (o : Option Value) (fs : List Frame) → awaits_term (kind_of o fs) ≡ true → OthersWait fs → AllWait fs
all_wait (Some v) fs e h = absurd (cc)
all_wait None [] e h = tt
all_wait None (Application n q vs ∷ fs) e h = (refl, h)
all_wait None (Division n vs ∷ fs) e h = (refl, h)
all_wait None (Bound xs n ∷ fs) e h = (refl, h)
all_wait None (Body k ∷ fs) e h = (refl, h)
all_wait None (Annotation p ∷ fs) e h = (refl, h)
all_wait None (Attributes v p d ∷ fs) e h = absurd (attribute_no awaits_term refl refl d e)
all_wait None _ e h = absurd (cc)

-- without the innermost frame each waits
pub rest_waits : (fs : List Frame) (f : Frame) (rest : List Frame) → fs ≡ f ∷ rest → OthersWait fs → AllWait rest
rest_waits fs f rest e h = subst OthersWait e h

-- a name of a term comes after its frame alone
pub name_comes : (w : Walk) (f : Frame) (v : Value) (p : ℕ) (rest : List Frame) → w.answer ≡ None → w.frames ≡ f ∷ rest → f ≡ Naming v p → is_name (kind_of w.answer w.frames) ≡ true
name_comes w f v p rest e h k = ap (λ o. is_name (kind_of o w.frames)) e ∙ ap (λ fs. is_name (kind_of None fs)) (h ∙ ap (λ g. g ∷ rest) k)

pub grown_trees : (s : Scope) (us : List Tree) → IsLonger s.trees us → Grown s (record s { trees = us })
grown_trees s us l = record { trees = l; added = []; signature = sym (append-nil s.signature) }

-- ---- results

pub step_memory : (m : Judging (List Meant)) (s : Scope) (tokens : List Token) (u : Scope) (w : Walk) (e : JudgeError) → e ≡ Memory → StepComes m s tokens u w (Err e)
step_memory m s tokens u w (Refused r) h = absurd (cc)
step_memory m s tokens u w Memory h = tt

pub error_is : (e : JudgeError) → (let x : Result (Unit {0}) JudgeError = Err e in x ≡ Err Memory) → e ≡ Memory
error_is e h = cc

pub settled : (m : Judging (List Meant)) (s : Scope) (tokens : List Token) (u : Scope) (w : Walk) (y : Result (Unit {0}) JudgeError) (P : Type 0) → OnOk y P → OnErr y (y ≡ Err Memory)
    → (P → (m s ≡ done (walk_of tokens u w) u) × Stands u w) → StepComes m s tokens u w y
settled m s tokens u w (Ok x) P h k f = f h
settled m s tokens u w (Err e) P h k f = step_memory m s tokens u w e (error_is e k)

pub shown_is : (tokens : List Token) (s : Scope) (w : Walk) (fs : List Frame) → w.answer ≡ None → w.frames ≡ fs → walk_of tokens s w ≡ frames_of tokens s w.bindings fs
shown_is tokens s w fs e f = ap (λ o. stack_of tokens s o w.bindings w.frames) e ∙ ap (frames_of tokens s w.bindings) f

pub stands_so : (s : Scope) (w w' : Walk) (fs : List Frame) → w.answer ≡ None → w'.answer ≡ w.answer → w'.frames ≡ fs → AllHold s fs → OthersWait fs → AreBound s.trees w'.bindings → Stands s w'
stands_so s w w' fs e a f h o b = record {
  answer = subst (AnswerHolds s) (sym (a ∙ e)) tt;
  frames = subst (AllHold s) (sym f) h;
  others = subst OthersWait (sym f) o;
  bindings = b;
}

-- ---- a token where a term may stand

term_shown : (f : Meant) (fs : List Meant) (x : Outcome Typed) → go_on (go_on x (λ a. return (given_to f a))) (λ g. return (g ∷ fs)) ≡ go_on x (λ a. return (given_to f a ∷ fs))
unfolding return
term_shown f fs (done a s) = refl
term_shown f fs (refused r) = refl

pub term_word : (r : Rules) (tokens : List Token) (s : Scope) (o : Option Value) (bs : List Pair) (fs : List Frame) (t : Token) (ahead : Sexps) → awaits_term (kind_of o fs) ≡ true
    → on_words r (stack_of tokens s o bs fs) t ahead s ≡ go_on (judge_token r (map (variable_at s.trees) bs) t s) (λ a. return (given_all a (stack_of tokens s o bs fs)))
unfolding ◌>>=◌
term_word r tokens s (Some v) bs fs t ahead e = absurd (cc)
term_word r tokens s None bs [] t ahead e = term_shown (whole (map (variable_at s.trees) bs)) [] (judge_token r (map (variable_at s.trees) bs) t s)
term_word r tokens s None bs (Application n q vs ∷ fs) t ahead e =
    term_shown (frame_of tokens s bs (Application n q vs)) (frames_of tokens s (outside bs (Application n q vs)) fs) (judge_token r (variables (frames_of tokens s bs (Application n q vs ∷ fs))) t s)
    ∙ ap (λ ys. go_on (judge_token r ys t s) (λ a. return (given_to (frame_of tokens s bs (Application n q vs)) a ∷ frames_of tokens s (outside bs (Application n q vs)) fs))) (vars_of tokens s bs (Application n q vs ∷ fs))
term_word r tokens s None bs (Division n vs ∷ fs) t ahead e =
    term_shown (frame_of tokens s bs (Division n vs)) (frames_of tokens s (outside bs (Division n vs)) fs) (judge_token r (variables (frames_of tokens s bs (Division n vs ∷ fs))) t s)
    ∙ ap (λ ys. go_on (judge_token r ys t s) (λ a. return (given_to (frame_of tokens s bs (Division n vs)) a ∷ frames_of tokens s (outside bs (Division n vs)) fs))) (vars_of tokens s bs (Division n vs ∷ fs))
term_word r tokens s None bs (Bound xs n ∷ fs) t ahead e =
    term_shown (frame_of tokens s bs (Bound xs n)) (frames_of tokens s (outside bs (Bound xs n)) fs) (judge_token r (variables (frames_of tokens s bs (Bound xs n ∷ fs))) t s)
    ∙ ap (λ ys. go_on (judge_token r ys t s) (λ a. return (given_to (frame_of tokens s bs (Bound xs n)) a ∷ frames_of tokens s (outside bs (Bound xs n)) fs))) (vars_of tokens s bs (Bound xs n ∷ fs))
term_word r tokens s None bs (Body k ∷ fs) t ahead e =
    term_shown (frame_of tokens s bs (Body k)) (frames_of tokens s (outside bs (Body k)) fs) (judge_token r (variables (frames_of tokens s bs (Body k ∷ fs))) t s)
    ∙ ap (λ ys. go_on (judge_token r ys t s) (λ a. return (given_to (frame_of tokens s bs (Body k)) a ∷ frames_of tokens s (outside bs (Body k)) fs))) (vars_of tokens s bs (Body k ∷ fs))
term_word r tokens s None bs (Annotation p ∷ fs) t ahead e =
    term_shown (frame_of tokens s bs (Annotation p)) (frames_of tokens s (outside bs (Annotation p)) fs) (judge_token r (variables (frames_of tokens s bs (Annotation p ∷ fs))) t s)
    ∙ ap (λ ys. go_on (judge_token r ys t s) (λ a. return (given_to (frame_of tokens s bs (Annotation p)) a ∷ frames_of tokens s (outside bs (Annotation p)) fs))) (vars_of tokens s bs (Annotation p ∷ fs))
term_word r tokens s None bs (Attributes v p d ∷ fs) t ahead e = absurd (attribute_no awaits_term refl refl d e)
term_word r tokens s None bs _ t ahead e = absurd (cc)

word_stays : (r : Rules) (tokens : List Token) (w w' : Walk) (v : Value) (t : Token) (ahead : Sexps) (s u : Scope) → Grown s u → Stands s w → awaits_term (kind_of w.answer w.frames) ≡ true
    → judge_token r (map (variable_at s.trees) w.bindings) t s ≡ done (typed u.trees v) u → Given w v w' → on_words r (walk_of tokens s w) t ahead s ≡ done (walk_of tokens u w') u
unfolding return
word_stays r tokens w w' v t ahead s u g st k e h =
    term_word r tokens s w.answer w.bindings w.frames t ahead k
    ∙ ap (λ x. go_on x (λ a. return (given_all a (walk_of tokens s w)))) e
    ∙ ap (λ fs. done (given_all (typed u.trees v) fs) u) (sym (walk_same tokens s u w g st))
    ∙ ap (λ fs. done fs u) (sym (h.walk tokens u))

pub word_given : (r : Rules) (tokens : List Token) (w w' : Walk) (v : Value) (t : Token) (ahead : Sexps) (s : Scope) (us : List Tree) → IsLonger s.trees us → Stands s w → awaits_term (kind_of w.answer w.frames) ≡ true
    → Comes (judge_token r (map (variable_at s.trees) w.bindings) t) s us (Ok v) → Given w v w' → StepComes (on_words r (walk_of tokens s w) t ahead) s tokens (record s { trees = us }) w' (Ok tt)
word_given r tokens w w' v t ahead s us l st k h m =
    let g : Grown s (record s { trees = us }) = grown_trees s us l in (
      word_stays r tokens w w' v t ahead s (record s { trees = us }) g st k h.0 m,
      m.stands (record s { trees = us }) (stands_grows s (record s { trees = us }) w g st) h.1,
    )

pub word_refused : (r : Rules) (tokens : List Token) (w w' : Walk) (t : Token) (ahead : Sexps) (s : Scope) (us : List Tree) (u : Scope) (e : JudgeError) → awaits_term (kind_of w.answer w.frames) ≡ true
    → Comes (judge_token r (map (variable_at s.trees) w.bindings) t) s us (Err e) → StepComes (on_words r (walk_of tokens s w) t ahead) s tokens u w' (Err e)
word_refused r tokens w w' t ahead s us u (Refused x) k h =
    term_word r tokens s w.answer w.bindings w.frames t ahead k ∙ ap (λ y. go_on y (λ a. return (given_all a (walk_of tokens s w)))) h
word_refused r tokens w w' t ahead s us u Memory k h = tt

-- ---- where the answer has come

has_answer : (o : Option Value) (fs : List Frame) → is_answered (kind_of o fs) ≡ true → (v : Value) × (o ≡ Some v)
has_answer (Some v) fs e = (v, refl)
has_answer None [] e = absurd (cc)
has_answer None (Attributes v p d ∷ fs) e = absurd (attribute_no is_answered refl refl d e)
has_answer None _ e = absurd (cc)

answered_stays : (move : List Meant → Judging (List Meant)) (tokens : List Token) (s : Scope) (o : Option Value) (bs : List Pair) (fs : List Frame) → ((v : Value) → move (stack_of tokens s (Some v) bs fs) s ≡ done (stack_of tokens s (Some v) bs fs) s) → is_answered (kind_of o fs) ≡ true
    → move (stack_of tokens s o bs fs) s ≡ done (stack_of tokens s o bs fs) s
answered_stays move tokens s o bs fs stays e =
    let k : (v : Value) × (o ≡ Some v) = has_answer o fs e in
    subst (λ q. move (stack_of tokens s q bs fs) s ≡ done (stack_of tokens s q bs fs) s) (sym k.1) (stays k.0)

-- ---- `(`

pub enter_answered : (ahead : Sexps) (tokens : List Token) (s : Scope) (o : Option Value) (bs : List Pair) (fs : List Frame) → is_answered (kind_of o fs) ≡ true → on_enter (stack_of tokens s o bs fs) ahead s ≡ done (stack_of tokens s o bs fs) s
unfolding return
enter_answered ahead tokens s o bs fs e = answered_stays (λ gs. on_enter gs ahead) tokens s o bs fs (λ v. refl) e

enter_term : (ahead : Sexps) (tokens : List Token) (s : Scope) (o : Option Value) (bs : List Pair) (fs : List Frame) → awaits_term (kind_of o fs) ≡ true → on_enter (stack_of tokens s o bs fs) ahead s ≡ done (opened ∷ stack_of tokens s o bs fs) s
unfolding return
enter_term ahead tokens s (Some v) bs fs e = absurd (cc)
enter_term ahead tokens s None bs [] e = refl
enter_term ahead tokens s None bs (Application n q vs ∷ fs) e = refl
enter_term ahead tokens s None bs (Division n vs ∷ fs) e = refl
enter_term ahead tokens s None bs (Bound xs n ∷ fs) e = refl
enter_term ahead tokens s None bs (Body k ∷ fs) e = refl
enter_term ahead tokens s None bs (Annotation p ∷ fs) e = refl
enter_term ahead tokens s None bs (Attributes v p d ∷ fs) e = absurd (attribute_no awaits_term refl refl d e)
enter_term ahead tokens s None bs _ e = absurd (cc)

pub enter_refused : (ahead : Sexps) (tokens : List Token) (s : Scope) (o : Option Value) (bs : List Pair) (fs : List Frame) → is_answered (kind_of o fs) ≡ false → awaits_term (kind_of o fs) ≡ false → takes_list (kind_of o fs) ≡ false → is_head (kind_of o fs) ≡ false
    → on_enter (stack_of tokens s o bs fs) ahead s ≡ refused WrongArguments
unfolding refuse
enter_refused ahead tokens s (Some v) bs fs e f g h = absurd (cc)
enter_refused ahead tokens s None bs [] e f g h = absurd (cc)
enter_refused ahead tokens s None bs (BindingOpen xs ∷ fs) e f g h = refl
enter_refused ahead tokens s None bs (BoundTo xs n v ∷ fs) e f g h = refl
enter_refused ahead tokens s None bs (Done v ∷ fs) e f g h = refl
enter_refused ahead tokens s None bs (Attributes v p d ∷ fs) e f g h = absurd (attribute_yes takes_list refl refl d g)
enter_refused ahead tokens s None bs (Naming v p ∷ fs) e f g h = refl
enter_refused ahead tokens s None bs _ e f g h = absurd (cc)

-- a frame more
opened_on : (tokens : List Token) (s : Scope) (o : Option Value) (bs : List Pair) (fs : List Frame) → o ≡ None → stack_of tokens s o bs (Opened ∷ fs) ≡ opened ∷ stack_of tokens s o bs fs
opened_on tokens s None bs fs e = refl
opened_on tokens s (Some v) bs fs e = absurd (cc)

pub enter_opened : (ahead : Sexps) (tokens : List Token) (s : Scope) (w w' : Walk) → Stands s w → awaits_term (kind_of w.answer w.frames) ≡ true → w' ≡ record { answer = w.answer; frames = Opened ∷ w.frames; bindings = w.bindings }
    → (on_enter (walk_of tokens s w) ahead s ≡ done (walk_of tokens s w') s) × Stands s w'
enter_opened ahead tokens s w w' st k e = (
  enter_term ahead tokens s w.answer w.bindings w.frames k ∙ ap (λ fs. done fs s) (sym (opened_on tokens s w.answer w.bindings w.frames (none_so awaits_term refl w.answer w.frames k)))
      ∙ ap (λ x. done (walk_of tokens s x) s) (sym e),
  subst (Stands s) (sym e) (record { answer = st.answer; frames = (tt, st.frames); others = all_wait w.answer w.frames k st.others; bindings = st.bindings }),
)

-- one frame in place of another
pub replaced : (move : List Meant → Judging (List Meant)) (tokens : List Token) (s : Scope) (w w' : Walk) (f g : Frame) (rest : List Frame) → w.answer ≡ None → w.frames ≡ f ∷ rest
    → w' ≡ record { answer = w.answer; frames = g ∷ rest; bindings = w.bindings } → move (frames_of tokens s w.bindings (f ∷ rest)) s ≡ done (frames_of tokens s w.bindings (g ∷ rest)) s → (Holds s f → Holds s g) → Stands s w
    → (move (walk_of tokens s w) s ≡ done (walk_of tokens s w') s) × Stands s w'
replaced move tokens s w w' f g rest e h i m k st =
    let holds : AllHold s (f ∷ rest) = subst (AllHold s) h st.frames in (
      ap (λ fs. move fs s) (shown_is tokens s w (f ∷ rest) e h) ∙ m ∙ ap (λ fs. done fs s) (sym (shown_is tokens s (record { answer = w.answer; frames = g ∷ rest; bindings = w.bindings }) (g ∷ rest) e refl))
          ∙ ap (λ x. done (walk_of tokens s x) s) (sym i),
      subst (Stands s) (sym i) (record { answer = st.answer; frames = (k holds.0, holds.1); others = subst OthersWait h st.others; bindings = st.bindings }),
    )

pub replaced_push : (move : List Meant → Judging (List Meant)) (tokens : List Token) (s : Scope) (w w' : Walk) (f g : Frame) (rest : List Frame) (y : Result (Unit {0}) JudgeError) → w.answer ≡ None → w.frames ≡ f ∷ rest
    → OnOk y (w' ≡ record { answer = w.answer; frames = g ∷ rest; bindings = w.bindings }) → OnErr y (y ≡ Err Memory) → move (frames_of tokens s w.bindings (f ∷ rest)) s ≡ done (frames_of tokens s w.bindings (g ∷ rest)) s
    → (Holds s f → Holds s g) → Stands s w → StepComes (move (walk_of tokens s w)) s tokens s w' y
replaced_push move tokens s w w' f g rest (Ok x) e h i j m k st = replaced move tokens s w w' f g rest e h i m k st
replaced_push move tokens s w w' f g rest (Err x) e h i j m k st = step_memory (move (walk_of tokens s w)) s tokens s w' x (error_is x j)

pub top_is : (w : Walk) (f g : Frame) (rest : List Frame) → w.frames ≡ f ∷ rest → f ≡ g → w.frames ≡ g ∷ rest
top_is w f g rest e h = e ∙ ap (λ x. x ∷ rest) h

pub no_bindings : (s : Scope) (xs : List Pair) → xs ≡ [] → AreBound s.trees xs
no_bindings s xs e = subst (AreBound s.trees) (sym e) tt

pub enter_let : (ahead : Sexps) (tokens : List Token) (s : Scope) (bs xs : List Pair) (rest : List Frame) → xs ≡ [] → on_enter (frames_of tokens s bs (LetOpen ∷ rest)) ahead s ≡ done (frames_of tokens s bs (Bindings xs ∷ rest)) s
unfolding return
enter_let ahead tokens s bs xs rest e = subst (λ ys. on_enter (frames_of tokens s bs (LetOpen ∷ rest)) ahead s ≡ done (frames_of tokens s bs (Bindings ys ∷ rest)) s) (sym e) refl

pub enter_binding : (ahead : Sexps) (tokens : List Token) (s : Scope) (bs : List Pair) (xs : List Pair) (rest : List Frame) → on_enter (frames_of tokens s bs (Bindings xs ∷ rest)) ahead s ≡ done (frames_of tokens s bs (BindingOpen xs ∷ rest)) s
unfolding return
enter_binding ahead tokens s bs xs rest = refl

pub enter_value : (ahead : Sexps) (tokens : List Token) (s : Scope) (bs : List Pair) (v : Value) (p d e : ℕ) (rest : List Frame) → e ≡ suc d → on_enter (frames_of tokens s bs (Attributes v p d ∷ rest)) ahead s ≡ done (frames_of tokens s bs (Attributes v p e ∷ rest)) s
unfolding return
enter_value ahead tokens s bs v p d e rest h = subst (λ x. on_enter (frames_of tokens s bs (Attributes v p d ∷ rest)) ahead s ≡ done (frames_of tokens s bs (Attributes v p x ∷ rest)) s) (sym h) refl

pub enter_push : (ahead : Sexps) (tokens : List Token) (s : Scope) (w w' : Walk) (y : Result (Unit {0}) JudgeError) → Stands s w → awaits_term (kind_of w.answer w.frames) ≡ true
    → OnOk y (w' ≡ record { answer = w.answer; frames = Opened ∷ w.frames; bindings = w.bindings }) → OnErr y (y ≡ Err Memory) → StepComes (on_enter (walk_of tokens s w) ahead) s tokens s w' y
enter_push ahead tokens s w w' (Ok x) st k h j = enter_opened ahead tokens s w w' st k h
enter_push ahead tokens s w w' (Err x) st k h j = step_memory (on_enter (walk_of tokens s w) ahead) s tokens s w' x (error_is x j)

pub enter_deeper : (ahead : Sexps) (tokens : List Token) (s : Scope) (bs : List Pair) (n d e : ℕ) (rest : List Frame) → e ≡ suc d → on_enter (frames_of tokens s bs (Dividing n d ∷ rest)) ahead s ≡ done (frames_of tokens s bs (Dividing n e ∷ rest)) s
unfolding return
enter_deeper ahead tokens s bs n d e rest h = subst (λ x. on_enter (frames_of tokens s bs (Dividing n d ∷ rest)) ahead s ≡ done (frames_of tokens s bs (Dividing n x ∷ rest)) s) (sym h) refl

head_entered : (ahead : Sexps) (tokens : List Token) (s : Scope) (bs : List Pair) (rest : List Frame) (x : Outcome ℕ) → judge_head (head_number ahead) s ≡ x
    → on_enter (frames_of tokens s bs (Opened ∷ rest)) ahead s ≡ go_on x (λ n. return (dividing n 0 ∷ frames_of tokens s bs rest))
unfolding ◌>>=◌
head_entered ahead tokens s bs rest x e = ap (λ y. go_on y (λ n. return (dividing n 0 ∷ frames_of tokens s bs rest))) e

enter_divides : (ahead : Sexps) (tokens : List Token) (s : Scope) (bs : List Pair) (n : ℕ) (rest : List Frame) → judge_head (head_number ahead) s ≡ done n s
    → on_enter (frames_of tokens s bs (Opened ∷ rest)) ahead s ≡ done (frames_of tokens s bs (Dividing n 0 ∷ rest)) s
unfolding return
enter_divides ahead tokens s bs n rest e = head_entered ahead tokens s bs rest (done n s) e

pub enter_head : (ahead : Sexps) (tokens : List Token) (s : Scope) (w w' : Walk) (n : ℕ) (rest : List Frame) (y : Result (Unit {0}) JudgeError) → w.answer ≡ None → w.frames ≡ Opened ∷ rest
    → OnOk y (w' ≡ record { answer = w.answer; frames = Dividing n 0 ∷ rest; bindings = w.bindings }) → OnErr y (y ≡ Err Memory) → IsDivisorHead (head_number ahead) (Ok n) → Stands s w
    → StepComes (on_enter (walk_of tokens s w) ahead) s tokens s w' y
enter_head ahead tokens s w w' n rest y e h i j k st =
    replaced_push (λ fs. on_enter fs ahead) tokens s w w' Opened (Dividing n 0) rest y e h i j (enter_divides ahead tokens s w.bindings n rest (k.0 s)) (λ u. k.1) st

pub enter_not : (ahead : Sexps) (tokens : List Token) (s : Scope) (w w' : Walk) (rest : List Frame) (x : Refusal) → w.answer ≡ None → w.frames ≡ Opened ∷ rest → IsDivisorHead (head_number ahead) (Err x)
    → StepComes (on_enter (walk_of tokens s w) ahead) s tokens s w' (Err (Refused x))
enter_not ahead tokens s w w' rest x e h k = ap (λ fs. on_enter fs ahead s) (shown_is tokens s w (Opened ∷ rest) e h) ∙ head_entered ahead tokens s w.bindings rest (refused x) (k s)

-- ---- `)`

pub leave_answered : (r : Rules) (tokens : List Token) (s : Scope) (o : Option Value) (bs : List Pair) (fs : List Frame) → is_answered (kind_of o fs) ≡ true → on_leave r (stack_of tokens s o bs fs) s ≡ done (stack_of tokens s o bs fs) s
unfolding return
leave_answered r tokens s o bs fs e = answered_stays (on_leave r) tokens s o bs fs (λ v. refl) e

pub leave_refused : (r : Rules) (tokens : List Token) (s : Scope) (o : Option Value) (bs : List Pair) (fs : List Frame) → is_answered (kind_of o fs) ≡ false → is_argument (kind_of o fs) ≡ false → is_divided (kind_of o fs) ≡ false → may_end (kind_of o fs) ≡ false
    → on_leave r (stack_of tokens s o bs fs) s ≡ refused WrongArguments
unfolding refuse
leave_refused r tokens s (Some v) bs fs e f g h = absurd (cc)
leave_refused r tokens s None bs [] e f g h = refl
leave_refused r tokens s None bs (Opened ∷ fs) e f g h = refl
leave_refused r tokens s None bs (LetOpen ∷ fs) e f g h = refl
leave_refused r tokens s None bs (BindingOpen xs ∷ fs) e f g h = refl
leave_refused r tokens s None bs (Bound xs n ∷ fs) e f g h = refl
leave_refused r tokens s None bs (Body k ∷ fs) e f g h = refl
leave_refused r tokens s None bs (Annotation p ∷ fs) e f g h = refl
leave_refused r tokens s None bs (Attributes v p d ∷ fs) e f g h = absurd (attribute_yes may_end refl refl d h)
leave_refused r tokens s None bs (Naming v p ∷ fs) e f g h = refl
leave_refused r tokens s None bs _ e f g h = absurd (cc)

-- without its innermost frame
abbrev pub popped : Walk → List Frame → Walk
popped w rest = record { answer = w.answer; frames = rest; bindings = w.bindings }

application_left : (r : Rules) (n : List ℕ) (q : Option Operator) (vs : List Value) (tokens : List Token) (s : Scope) (bs : List Pair) (rest : List Frame) (x : Outcome Typed)
    → judge_application r n (known_symbol q (find_function n s.signature)) (map (typed s.trees) vs) s ≡ x
    → on_leave r (frames_of tokens s bs (Application n q vs ∷ rest)) s ≡ go_on x (λ a. return (given_all a (frames_of tokens s bs rest)))
unfolding ◌>>=◌
application_left r n q vs tokens s bs rest x e = ap (λ y. go_on y (λ a. return (given_all a (frames_of tokens s bs rest)))) e

division_left : (r : Rules) (n : ℕ) (vs : List Value) (tokens : List Token) (s : Scope) (bs : List Pair) (rest : List Frame) (x : Outcome Typed) → judge_divisible r n (map (typed s.trees) vs) s ≡ x
    → on_leave r (frames_of tokens s bs (Division n vs ∷ rest)) s ≡ go_on x (λ a. return (given_all a (frames_of tokens s bs rest)))
unfolding ◌>>=◌
division_left r n vs tokens s bs rest x e = ap (λ y. go_on y (λ a. return (given_all a (frames_of tokens s bs rest)))) e

rest_stands : (s : Scope) (w : Walk) (f : Frame) (rest : List Frame) → w.answer ≡ None → w.frames ≡ f ∷ rest → outside w.bindings f ≡ w.bindings → Stands s w → Stands s (popped w rest)
rest_stands s w f rest e h o st =
    let holds : AllHold s (f ∷ rest) = subst (AllHold s) h st.frames in
    record { answer = st.answer; frames = holds.1; others = others_wait rest (subst OthersWait h st.others); bindings = st.bindings }

-- the end of a list whose term is judged so
abbrev LeavesBy : Rules → List Token → Scope → Walk → Frame → List Frame → Judging Typed → Type 0
LeavesBy r tokens s w f rest m =
    (x : Outcome Typed) → m s ≡ x → on_leave r (frames_of tokens s w.bindings (f ∷ rest)) s ≡ go_on x (λ a. return (given_all a (frames_of tokens s w.bindings rest)))

list_given : (r : Rules) (tokens : List Token) (w w' : Walk) (f : Frame) (m : Judging Typed) (rest : List Frame) (v : Value) (s : Scope) (us : List Tree) → LeavesBy r tokens s w f rest m → outside w.bindings f ≡ w.bindings → IsLonger s.trees us
    → Stands s w → w.answer ≡ None → w.frames ≡ f ∷ rest → Comes m s us (Ok v) → Given (popped w rest) v w' → StepComes (on_leave r (walk_of tokens s w)) s tokens (record s { trees = us }) w' (Ok tt)
unfolding return
list_given r tokens w w' f m rest v s us leaves o l st e h k g =
    let u : Scope = record s { trees = us } in
    let grown : Grown s u = grown_trees s us l in
    let small : Stands s (popped w rest) = rest_stands s w f rest e h o st in (
      ap (λ fs. on_leave r fs s) (shown_is tokens s w (f ∷ rest) e h)
          ∙ leaves _ k.0
          ∙ ap (λ fs. done (given_all (typed us v) fs) u) (sym (shown_is tokens s (popped w rest) rest e refl) ∙ sym (walk_same tokens s u (popped w rest) grown small))
          ∙ ap (λ fs. done fs u) (sym (g.walk tokens u)),
      g.stands u (stands_grows s u (popped w rest) grown small) k.1,
    )

list_not : (r : Rules) (tokens : List Token) (w w' : Walk) (f : Frame) (m : Judging Typed) (rest : List Frame) (s : Scope) (us : List Tree) (u : Scope) (x : JudgeError) → LeavesBy r tokens s w f rest m → w.answer ≡ None → w.frames ≡ f ∷ rest
    → Comes m s us (Err x) → StepComes (on_leave r (walk_of tokens s w)) s tokens u w' (Err x)
list_not r tokens w w' f m rest s us u (Refused x) leaves e h k = ap (λ fs. on_leave r fs s) (shown_is tokens s w (f ∷ rest) e h) ∙ leaves _ k
list_not r tokens w w' f m rest s us u Memory leaves e h k = tt

pub leave_given : (r : Rules) (tokens : List Token) (w w' : Walk) (n : List ℕ) (q : Option Operator) (vs : List Value) (rest : List Frame) (v : Value) (s : Scope) (us : List Tree) → IsLonger s.trees us → Stands s w → w.answer ≡ None
    → w.frames ≡ Application n q vs ∷ rest → Comes (judge_application r n (known_symbol q (find_function n s.signature)) (map (typed s.trees) vs)) s us (Ok v) → Given (popped w rest) v w'
    → StepComes (on_leave r (walk_of tokens s w)) s tokens (record s { trees = us }) w' (Ok tt)
leave_given r tokens w w' n q vs rest v s us l st e h k m =
    list_given r tokens w w' (Application n q vs) (judge_application r n (known_symbol q (find_function n s.signature)) (map (typed s.trees) vs)) rest v s us (λ x f. application_left r n q vs tokens s w.bindings rest x f) refl l st e h k m

pub leave_not : (r : Rules) (tokens : List Token) (w w' : Walk) (n : List ℕ) (q : Option Operator) (vs : List Value) (rest : List Frame) (s : Scope) (us : List Tree) (u : Scope) (x : JudgeError) → w.answer ≡ None
    → w.frames ≡ Application n q vs ∷ rest → Comes (judge_application r n (known_symbol q (find_function n s.signature)) (map (typed s.trees) vs)) s us (Err x) → StepComes (on_leave r (walk_of tokens s w)) s tokens u w' (Err x)
leave_not r tokens w w' n q vs rest s us u x e h k =
    list_not r tokens w w' (Application n q vs) (judge_application r n (known_symbol q (find_function n s.signature)) (map (typed s.trees) vs)) rest s us u x (λ y f. application_left r n q vs tokens s w.bindings rest y f) e h k

pub division_given : (r : Rules) (tokens : List Token) (w w' : Walk) (n : ℕ) (vs : List Value) (rest : List Frame) (v : Value) (s : Scope) (us : List Tree) → IsLonger s.trees us → Stands s w → w.answer ≡ None → w.frames ≡ Division n vs ∷ rest
    → Comes (judge_divisible r n (map (typed s.trees) vs)) s us (Ok v) → Given (popped w rest) v w' → StepComes (on_leave r (walk_of tokens s w)) s tokens (record s { trees = us }) w' (Ok tt)
division_given r tokens w w' n vs rest v s us l st e h k m =
    list_given r tokens w w' (Division n vs) (judge_divisible r n (map (typed s.trees) vs)) rest v s us (λ x f. division_left r n vs tokens s w.bindings rest x f) refl l st e h k m

pub division_not : (r : Rules) (tokens : List Token) (w w' : Walk) (n : ℕ) (vs : List Value) (rest : List Frame) (s : Scope) (us : List Tree) (u : Scope) (x : JudgeError) → w.answer ≡ None → w.frames ≡ Division n vs ∷ rest
    → Comes (judge_divisible r n (map (typed s.trees) vs)) s us (Err x) → StepComes (on_leave r (walk_of tokens s w)) s tokens u w' (Err x)
division_not r tokens w w' n vs rest s us u x e h k =
    list_not r tokens w w' (Division n vs) (judge_divisible r n (map (typed s.trees) vs)) rest s us u x (λ y f. division_left r n vs tokens s w.bindings rest y f) e h k

-- ---- other tokens

pub word_past : (r : Rules) (tokens : List Token) (s : Scope) (o : Option Value) (bs : List Pair) (fs : List Frame) (t : Token) (ahead : Sexps) → is_past (kind_of o fs) ≡ true
    → on_words r (stack_of tokens s o bs fs) t ahead s ≡ done (stack_of tokens s o bs fs) s
unfolding ◌>>=◌ return
word_past r tokens s (Some v) bs fs t ahead e = refl
word_past r tokens s None bs [] t ahead e = absurd (cc)
word_past r tokens s None bs (Dividing n d ∷ fs) t ahead e = refl
word_past r tokens s None bs (Attributes v p (suc d) ∷ fs) t ahead e = refl
word_past r tokens s None bs _ t ahead e = absurd (cc)

pub word_wrong : (r : Rules) (tokens : List Token) (s : Scope) (o : Option Value) (bs : List Pair) (fs : List Frame) (t : Token) (ahead : Sexps) → is_past (kind_of o fs) ≡ false → awaits_term (kind_of o fs) ≡ false → is_head (kind_of o fs) ≡ false
    → takes_word (kind_of o fs) ≡ false → on_words r (stack_of tokens s o bs fs) t ahead s ≡ refused WrongArguments
unfolding ◌>>=◌ refuse
word_wrong r tokens s (Some v) bs fs t ahead e f g h = absurd (cc)
word_wrong r tokens s None bs [] t ahead e f g h = absurd (cc)
word_wrong r tokens s None bs (LetOpen ∷ fs) t ahead e f g h = refl
word_wrong r tokens s None bs (Bindings xs ∷ fs) t ahead e f g h = refl
word_wrong r tokens s None bs (BoundTo xs n v ∷ fs) t ahead e f g h = refl
word_wrong r tokens s None bs (Done v ∷ fs) t ahead e f g h = refl
word_wrong r tokens s None bs (Attributes v p (suc d) ∷ fs) t ahead e f g h =
    absurd (no (sym e ∙ ap (λ b. is_past (if b then Attribute else Passed)) (not_zero d)))
word_wrong r tokens s None bs _ t ahead e f g h = absurd (cc)

-- ---- the head of a list

pub head_rest : (w : Walk) → is_head (kind_of w.answer w.frames) ≡ true → (rest : List Frame) × (w.frames ≡ Opened ∷ rest)
head_rest w e = go w.answer w.frames e
  where
    go : (o : Option Value) (fs : List Frame) → is_head (kind_of o fs) ≡ true → (rest : List Frame) × (fs ≡ Opened ∷ rest)
    go (Some v) fs e = absurd (cc)
    go None [] e = absurd (cc)
    go None (Opened ∷ fs) e = (fs, refl)
    go None (Attributes v p d ∷ fs) e = absurd (attribute_no is_head refl refl d e)
    go None _ e = absurd (cc)

pub opened_top : (w : Walk) (f : Frame) (rest : List Frame) → is_head (kind_of w.answer w.frames) ≡ true → w.frames ≡ f ∷ rest → w.frames ≡ Opened ∷ rest
opened_top w f rest e h =
    let k : (more' : List Frame) × (w.frames ≡ Opened ∷ more') = head_rest w e in
    let same : Opened ∷ k.0 ≡ f ∷ rest = sym k.1 ∙ h in
    let tail : k.0 ≡ rest = cc in
    k.1 ∙ ap (λ fs. Opened ∷ fs) tail

head_words : (r : Rules) (tokens : List Token) (s : Scope) (bs : List Pair) (rest : List Frame) (t : Token) (ahead : Sexps) (x : Outcome Meant) → on_head r (map (variable_at s.trees) bs) t ahead s ≡ x
    → on_words r (frames_of tokens s bs (Opened ∷ rest)) t ahead s ≡ go_on x (λ g. return (g ∷ frames_of tokens s bs rest))
unfolding ◌>>=◌
head_words r tokens s bs rest t ahead x e =
    ap (λ vs. go_on (on_head r vs t ahead s) (λ g. return (g ∷ frames_of tokens s bs rest))) (vars_of tokens s bs rest) ∙ ap (λ y. go_on y (λ g. return (g ∷ frames_of tokens s bs rest))) e

head_put_words : (r : Rules) (tokens : List Token) (s : Scope) (bs : List Pair) (g : Frame) (rest : List Frame) (t : Token) (ahead : Sexps) → IsFrame (on_head r (map (variable_at s.trees) bs) t ahead) s tokens bs g
    → on_words r (frames_of tokens s bs (Opened ∷ rest)) t ahead s ≡ done (frames_of tokens s bs (g ∷ rest)) s
unfolding return
head_put_words r tokens s bs g rest t ahead k =
    head_words r tokens s bs rest t ahead (done (frame_of tokens s bs g) s) k.judged ∙ ap (λ cs. done (frame_of tokens s bs g ∷ frames_of tokens s cs rest) s) (sym k.outer)

pub head_put : (r : Rules) (tokens : List Token) (s : Scope) (w w' : Walk) (g : Frame) (rest : List Frame) (t : Token) (ahead : Sexps) (y : Result (Unit {0}) JudgeError) → w.answer ≡ None → w.frames ≡ Opened ∷ rest
    → OnOk y (w' ≡ record { answer = w.answer; frames = g ∷ rest; bindings = w.bindings }) → OnErr y (y ≡ Err Memory) → FrameComes (on_head r (map (variable_at s.trees) w.bindings) t ahead) s tokens w.bindings (Ok g) → Stands s w
    → StepComes (on_words r (walk_of tokens s w) t ahead) s tokens s w' y
head_put r tokens s w w' g rest t ahead (Ok x) e h i j k st =
    replaced (λ fs. on_words r fs t ahead) tokens s w w' Opened g rest e h i (head_put_words r tokens s w.bindings g rest t ahead k) (λ u. k.holds) st
head_put r tokens s w w' g rest t ahead (Err x) e h i j k st = step_memory (on_words r (walk_of tokens s w) t ahead) s tokens s w' x (error_is x j)

pub head_not : (r : Rules) (tokens : List Token) (s : Scope) (w w' : Walk) (rest : List Frame) (t : Token) (ahead : Sexps) (x : JudgeError) → w.answer ≡ None → w.frames ≡ Opened ∷ rest
    → FrameComes (on_head r (map (variable_at s.trees) w.bindings) t ahead) s tokens w.bindings (Err x) → StepComes (on_words r (walk_of tokens s w) t ahead) s tokens s w' (Err x)
head_not r tokens s w w' rest t ahead (Refused x) e h k =
    ap (λ fs. on_words r fs t ahead s) (shown_is tokens s w (Opened ∷ rest) e h) ∙ head_words r tokens s w.bindings rest t ahead (refused x) k
head_not r tokens s w w' rest t ahead Memory e h k = tt

pub top_values : (s : Scope) (w : Walk) (n : List ℕ) (q : Option Operator) (vs : List Value) (rest : List Frame) → w.frames ≡ Application n q vs ∷ rest → Stands s w → AreValues s.trees vs
top_values s w n q vs rest e st = let holds : AllHold s (Application n q vs ∷ rest) = subst (AllHold s) e st.frames in holds.0.1

pub divided_holds : (s : Scope) (w : Walk) (n : ℕ) (vs : List Value) (rest : List Frame) → w.frames ≡ Division n vs ∷ rest → Stands s w → IsDivisor n × AreValues s.trees vs
divided_holds s w n vs rest e st = let holds : AllHold s (Division n vs ∷ rest) = subst (AllHold s) e st.frames in holds.0
