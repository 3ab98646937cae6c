-- Judging terms for which there is no room.
use Rattle.std.proofs.Common.{◌≡◌, ◌∙◌, sym, refl, subst, ℕ, ◌<◌, true, false, nat_le, List, [], length, arith}
use Rattle.std.proofs.lemmas.Bool.Decides.{leb_tells}
use Rattle.elaborate.specs.declared.error.JudgeError.{JudgeError}
use Rattle.elaborate.specs.Judged.{IsCauseOf}
use Rattle.smt_meaning.specs.declared.tokens.Token.{Token}
use Rattle.smt_meaning.specs.declared.values.Sort.TheVariants.{Bool as Truths}
use Rattle.smt_meaning.specs.declared.refusals.Refusal.TheVariants.{NotBool, TooManyTerms}
use Rattle.smt_meaning.specs.Sexp.{sexp}
use Rattle.smt_meaning.specs.Signature.{sort_eq}
use Rattle.smt_meaning.specs.Sorts.{Scope, Outcome, done, refused, Judging, Typed, judge, with_all}
use Rattle.smt_meaning.specs.StackCommand.{in_assert, assert_term, ask_terms, judge_terms, most_terms, require_room}
use Rattle.smt_meaning.specs.Term.{Tree}
use Rattle.smt_sorts.specs.Names.{Names, signature}
use Rattle.term_store.specs.Terms.{Terms}
use Rattle.term_store.specs.Alike.{Alike, JoinsAlike, TermsJoinAlike, QuestionsJoinAlike}
use Rattle.scope_stack.specs.declared.answers.StackError.{StackError}
use Rattle.scope_stack.specs.declared.answers.StackError.TheVariants.{Refused, Memory}
use Rattle.scope_stack.specs.Judged.{scope_by, IsCause, IsSameError, IsRoomError}
use Rattle.scope_stack.proofs.Steps.{bind_done, bind_refused, next_done, next_refused, require_done, require_refused, scope_done}
use Rattle.scope_stack.proofs.TermSteps.{assert_not_bool, assert_cause, questions_cause, same_cause}

above : (a b : ℕ) → b < a → nat_le a b ≡ false
above a b lt = grind (arith, leb_tells)

pub room_refused : (s : Scope) → most_terms < length s.trees → require_room s ≡ refused TooManyTerms
room_refused s lt = scope_done _ s ∙ require_refused (nat_le (length s.trees) most_terms) _ s (above (length s.trees) most_terms lt)

assert_full : (t : List Token) (s u : Scope) (a : Typed) → judge in_assert [] (sexp t) s ≡ done a u → sort_eq a.sort Truths ≡ true → most_terms < length u.trees → assert_term t s ≡ refused TooManyTerms
assert_full t s u a h e lt = bind_done _ _ s u a h ∙ next_done _ _ u u tt (require_done (sort_eq a.sort Truths) _ u e) ∙ next_refused _ _ u _ (room_refused u lt)

ask_full : (xs : List (List Token)) (s u : Scope) (terms : List Typed) → judge_terms xs s ≡ done terms u → most_terms < length u.trees → ask_terms xs s ≡ refused TooManyTerms
ask_full xs s u terms h lt = bind_refused _ _ s _ (bind_done _ _ s u terms h ∙ next_refused _ _ u _ (room_refused u lt))

-- what comes of judging apart comes of judging over the stack's trees
pub done_over : {A : Type 0} (m : Judging A) → JoinsAlike m → (t u : Names) (ts us : List Tree) (a : A) → m (scope_by t []) ≡ done a (scope_by u us) → m (scope_by t ts) ≡ done a (scope_by u (with_all ts us))
done_over m law t u ts us a e = subst (λ o. Alike ts o (m (scope_by t ts))) e (law (signature t) t.given ts)

pub refused_over : {A : Type 0} (m : Judging A) → JoinsAlike m → (t : Names) (ts : List Tree) (o : Outcome A) (e : StackError) → m (scope_by t []) ≡ o → IsCause e o → IsCause e (m (scope_by t ts))
refused_over m law t ts o (Refused r) e h = subst (λ x. Alike ts x (m (scope_by t ts))) (e ∙ h) (law (signature t) t.given ts)
refused_over m law t ts o Memory e h = tt

pub assertion_full : TermsJoinAlike → (t u : Names) (ts us : List Tree) (text : List Token) (a : Typed) (e : StackError) → judge in_assert [] (sexp text) (scope_by t []) ≡ done a (scope_by u us)
    → sort_eq a.sort Truths ≡ true → IsRoomError (length (with_all ts us)) e → IsCause e (assert_term text (scope_by t ts))
assertion_full law t u ts us text a (Refused r) h s f =
    subst (λ x. assert_term text (scope_by t ts) ≡ refused x) (sym f.0)
    (assert_full text (scope_by t ts) (scope_by u (with_all ts us)) a (done_over (judge in_assert [] (sexp text)) (law in_assert [] (sexp text)) t u ts us a h) s f.1)
assertion_full law t u ts us text a Memory h s f = tt

pub assertion_not_bool : TermsJoinAlike → (t u : Names) (ts us : List Tree) (text : List Token) (a : Typed) → judge in_assert [] (sexp text) (scope_by t []) ≡ done a (scope_by u us)
    → sort_eq a.sort Truths ≡ false → assert_term text (scope_by t ts) ≡ refused NotBool
assertion_not_bool law t u ts us text a h s =
    assert_not_bool text (scope_by t ts) (scope_by u (with_all ts us)) a (done_over (judge in_assert [] (sexp text)) (law in_assert [] (sexp text)) t u ts us a h) s

pub assertion_refused : TermsJoinAlike → (t : Names) (ts : List Tree) (text : List Token) (e : JudgeError) (f : StackError) → IsSameError e f → IsCauseOf e (judge in_assert [] (sexp text) (scope_by t []))
    → IsCause f (assert_term text (scope_by t ts))
assertion_refused law t ts text e f s h =
    assert_cause text (scope_by t ts) f
    (refused_over (judge in_assert [] (sexp text)) (law in_assert [] (sexp text)) t ts (judge in_assert [] (sexp text) (scope_by t [])) f refl (same_cause (judge in_assert [] (sexp text) (scope_by t [])) e f s h))

pub question_full : QuestionsJoinAlike → (t u : Names) (ts us : List Tree) (texts : List (List Token)) (terms : List Typed) (e : StackError) → judge_terms texts (scope_by t []) ≡ done terms (scope_by u us)
    → IsRoomError (length (with_all ts us)) e → IsCause e (ask_terms texts (scope_by t ts))
question_full law t u ts us texts terms (Refused r) h f =
    subst (λ x. ask_terms texts (scope_by t ts) ≡ refused x) (sym f.0)
    (ask_full texts (scope_by t ts) (scope_by u (with_all ts us)) terms (done_over (judge_terms texts) (law texts) t u ts us terms h) f.1)
question_full law t u ts us texts terms Memory h f = tt

pub question_refused : QuestionsJoinAlike → (t : Names) (ts : List Tree) (texts : List (List Token)) (e : StackError) → IsCause e (judge_terms texts (scope_by t [])) → IsCause e (ask_terms texts (scope_by t ts))
question_refused law t ts texts e h = questions_cause texts (scope_by t ts) e (refused_over (judge_terms texts) (law texts) t ts (judge_terms texts (scope_by t [])) e refl h)

-- what is true of the table and the terms of before is true of those after, where they are the same
pub still : (t u : Names) (old now : Terms) → u ≡ t → now ≡ old → (P : Scope → Type 0) → P (scope_by t old.trees) → P (scope_by u now.trees)
still t u old now e f P h = subst (λ v. P (scope_by v now.trees)) (sym e) (subst (λ (s : Terms). P (scope_by t s.trees)) (sym f) h)

pub before : (t u : Names) (old now : Terms) → u ≡ t → now ≡ old → (P : Scope → Type 0) → P (scope_by u now.trees) → P (scope_by t old.trees)
before t u old now e f P h = still u t now old (sym e) (sym f) P h
