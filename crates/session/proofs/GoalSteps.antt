-- Judging the question for a least value, one step after another.
use Rattle.std.proofs.Common.{◌≡◌, ◌∙◌, refl, ap, ℕ, ◌+◌, Bool, true, false, nat_le, nat_lt, List, [], ◌∷◌, length, Option, Some, None}
use Rattle.std.specs.Prelude.{codes}
use Rattle.smt_meaning.specs.declared.tokens.Token.{Token}
use Rattle.smt_meaning.specs.declared.tokens.Token.TheVariants.{Symbol}
use Rattle.smt_meaning.specs.declared.values.Sort.{Sort}
use Rattle.smt_meaning.specs.declared.values.Sort.TheVariants.{Bool as Truths, Int}
use Rattle.smt_meaning.specs.declared.terms.Operator.TheVariants.{Subtract}
use Rattle.smt_meaning.specs.declared.terms.Head.TheVariants.{Theory}
use Rattle.smt_meaning.specs.declared.refusals.Refusal.{Refusal}
use Rattle.smt_meaning.specs.declared.refusals.Refusal.TheVariants.{SortsDiffer, NotBool, TooManyLevels, TooManyTerms}
use Rattle.smt_meaning.specs.Goal.{pair_text}
use Rattle.smt_meaning.specs.Sexp.{Sexp, word, group, end, ◌▸◌, sexp}
use Rattle.smt_meaning.specs.Signature.{sort_eq, all_of, operator_sort}
use Rattle.smt_meaning.specs.Sorts.{Scope, Outcome, done, refused, Judging, go_on, ◌>>=◌, ◌>>◌, return, refuse, require, required, the_scope, note, found, Typed, judge, judge_application, operator, sorts_of, with_all}
use Rattle.smt_meaning.specs.StackCommand.{Change, asks, asked_terms, most_terms, most_levels, in_question, ask_terms, assume_terms, minimize_term, judge_terms, require_room}
use Rattle.smt_meaning.specs.Term.{Tree, node, none, more}

-- ---- steps

bind_done : {A B : Type 0} (m : Judging A) (k : A → Judging B) (s t : Scope) (a : A) → m s ≡ done a t → (m >>= k) s ≡ k a t
unfolding ◌>>=◌
bind_done m k s t a e = ap (λ o. go_on o k) e

bind_refused : {A B : Type 0} (m : Judging A) (k : A → Judging B) (s : Scope) (r : Refusal) → m s ≡ refused r → (m >>= k) s ≡ refused r
unfolding ◌>>=◌
bind_refused m k s r e = ap (λ o. go_on o k) e

next_done : {A B : Type 0} (m : Judging A) (n : Judging B) (s t : Scope) (a : A) → m s ≡ done a t → (m >> n) s ≡ n t
unfolding ◌>>◌
next_done m n s t a e = ap (λ o. go_on o (λ a. n)) e

next_refused : {A B : Type 0} (m : Judging A) (n : Judging B) (s : Scope) (r : Refusal) → m s ≡ refused r → (m >> n) s ≡ refused r
unfolding ◌>>◌
next_refused m n s r e = ap (λ o. go_on o (λ a. n)) e

scope_done : {B : Type 0} (k : Scope → Judging B) (s : Scope) → (the_scope >>= k) s ≡ k s s
unfolding ◌>>=◌ the_scope
scope_done k s = refl

return_done : {A : Type 0} (a : A) (s : Scope) → return a s ≡ done a s
unfolding return
return_done a s = refl

found_done : (t : Tree) (s : Sort) (c : Scope) → found t s c ≡ done (record { tree = t; sort = s }) c
unfolding found
found_done t s c = refl

note_done : (ts : List Tree) (c : Scope) → note ts c ≡ done tt (record c { trees = with_all c.trees ts })
unfolding note
note_done ts c = refl

require_done : (b : Bool) (r : Refusal) (s : Scope) → b ≡ true → require b r s ≡ done tt s
unfolding require return
require_done b r s e = rw e refl

require_refused : (b : Bool) (r : Refusal) (s : Scope) → b ≡ false → require b r s ≡ refused r
unfolding require refuse
require_refused b r s e = rw e refl

required_done : {A : Type 0} (o : Option A) (r : Refusal) (s : Scope) (a : A) → o ≡ Some a → required o r s ≡ done a s
unfolding required return
required_done o r s a e = rw e refl

required_refused : {A : Type 0} (o : Option A) (r : Refusal) (s : Scope) → o ≡ None → required o r s ≡ refused r
unfolding required refuse
required_refused o r s e = rw e refl

room_done : (s : Scope) → nat_le (length s.trees) most_terms ≡ true → require_room s ≡ done tt s
room_done s e = scope_done _ s ∙ require_done (nat_le (length s.trees) most_terms) _ s e

room_refused : (s : Scope) → nat_le (length s.trees) most_terms ≡ false → require_room s ≡ refused TooManyTerms
room_refused s e = scope_done _ s ∙ require_refused (nat_le (length s.trees) most_terms) _ s e

-- ---- a question of one term

one_term : (t : List Token) (s c : Scope) (a : Typed) → judge in_question [] (sexp t) s ≡ done a c → judge_terms (t ∷ []) s ≡ done (a ∷ []) c
one_term t s c a h = bind_done _ _ s c a h ∙ bind_done _ _ c c [] (return_done [] c) ∙ return_done (a ∷ []) c

pub asked_done : (t : List Token) (s c : Scope) (a : Typed) → judge in_question [] (sexp t) s ≡ done a c → nat_le (length c.trees) most_terms ≡ true → ask_terms (t ∷ []) s ≡ done (asks (a ∷ [])) c
asked_done t s c a h e =
    bind_done _ _ s c (a ∷ []) (bind_done _ _ s c (a ∷ []) (one_term t s c a h) ∙ next_done _ _ c c tt (room_done c e) ∙ return_done (a ∷ []) c) ∙ return_done (asks (a ∷ [])) c

pub asked_full : (t : List Token) (s c : Scope) (a : Typed) → judge in_question [] (sexp t) s ≡ done a c → nat_le (length c.trees) most_terms ≡ false → ask_terms (t ∷ []) s ≡ refused TooManyTerms
asked_full t s c a h e = bind_refused _ _ s _ (bind_done _ _ s c (a ∷ []) (one_term t s c a h) ∙ next_refused _ _ c _ (room_refused c e))

pub asked_refused : (t : List Token) (s : Scope) (r : Refusal) → judge in_question [] (sexp t) s ≡ refused r → ask_terms (t ∷ []) s ≡ refused r
asked_refused t s r h = bind_refused _ _ s r (bind_refused _ _ s r (bind_refused _ _ s r h))

-- ---- the question for a least value

pub goal_refused : (level : ℕ) (t : List Token) (s : Scope) (r : Refusal) → judge in_question [] (sexp t) s ≡ refused r → minimize_term level t s ≡ refused r
goal_refused level t s r h = bind_refused _ _ s r h

pub goal_differs : (level : ℕ) (t : List Token) (s c : Scope) (a : Typed) → judge in_question [] (sexp t) s ≡ done a c → sort_eq a.sort Int ≡ false
    → minimize_term level t s ≡ refused (SortsDiffer (codes "minimize"))
goal_differs level t s c a h e = bind_done _ _ s c a h ∙ next_refused _ _ c _ (require_refused (sort_eq a.sort Int) _ c e)

pub goal_full : (level : ℕ) (t : List Token) (s c : Scope) (a : Typed) → judge in_question [] (sexp t) s ≡ done a c → sort_eq a.sort Int ≡ true
    → nat_le (length c.trees + asked_terms) most_terms ≡ false → minimize_term level t s ≡ refused TooManyTerms
goal_full level t s c a h e f =
    bind_done _ _ s c a h ∙ next_done _ _ c c tt (require_done (sort_eq a.sort Int) _ c e) ∙ scope_done _ c ∙ next_refused _ _ c _ (require_refused (nat_le (length c.trees + asked_terms) most_terms) _ c f)

pub goal_fits : (level : ℕ) (t : List Token) (s c : Scope) (a : Typed) → judge in_question [] (sexp t) s ≡ done a c → sort_eq a.sort Int ≡ true
    → nat_le (length c.trees + asked_terms) most_terms ≡ true → minimize_term level t s ≡ assume_terms level (pair_text (codes "=") t t ∷ []) c
goal_fits level t s c a h e f =
    bind_done _ _ s c a h ∙ next_done _ _ c c tt (require_done (sort_eq a.sort Int) _ c e) ∙ scope_done _ c ∙ next_done _ _ c c tt (require_done (nat_le (length c.trees + asked_terms) most_terms) _ c f)

-- ---- the level of an assumption

-- what is assumed at a depth is refused at one that is too great, and for nothing else
pub level_refused : (low high : ℕ) (ts : List (List Token)) (s u : Scope) (x : Change) → assume_terms low ts s ≡ done x u → nat_lt high most_levels ≡ false → assume_terms high ts s ≡ refused TooManyLevels
level_refused low high ts s u x h e = by_terms (judge_terms ts s) refl
  where
    by_room : (terms : List Typed) (c : Scope) → judge_terms ts s ≡ done terms c → all_of Truths (sorts_of terms) ≡ true → (b : Bool) → nat_le (length c.trees) most_terms ≡ b → assume_terms high ts s ≡ refused TooManyLevels
    by_room terms c j k true f =
        bind_done _ _ s c terms j ∙ next_done _ _ c c tt (require_done (all_of Truths (sorts_of terms)) _ c k) ∙ next_done _ _ c c tt (room_done c f)
        ∙ next_refused _ _ c _ (require_refused (nat_lt high most_levels) _ c e)
    by_room terms c j k false f =
        let not : assume_terms low ts s ≡ refused TooManyTerms =
        bind_done _ _ s c terms j ∙ next_done _ _ c c tt (require_done (all_of Truths (sorts_of terms)) _ c k) ∙ next_refused _ _ c _ (room_refused c f) in
        absurd (cc)

    by_sorts : (terms : List Typed) (c : Scope) → judge_terms ts s ≡ done terms c → (b : Bool) → all_of Truths (sorts_of terms) ≡ b → assume_terms high ts s ≡ refused TooManyLevels
    by_sorts terms c j true k = by_room terms c j k (nat_le (length c.trees) most_terms) refl
    by_sorts terms c j false k =
        let not : assume_terms low ts s ≡ refused NotBool = bind_done _ _ s c terms j ∙ next_refused _ _ c _ (require_refused (all_of Truths (sorts_of terms)) _ c k) in
        absurd (cc)

    by_terms : (o : Outcome (List Typed)) → judge_terms ts s ≡ o → assume_terms high ts s ≡ refused TooManyLevels
    by_terms (done terms c) j = by_sorts terms c j (all_of Truths (sorts_of terms)) refl
    by_terms (refused r) j =
        let not : assume_terms low ts s ≡ refused r = bind_refused _ _ s r j in
        absurd (cc)

-- ---- a negation

abbrev pub negation_sexp : Sexp → Sexp
negation_sexp x = group (word (Symbol (codes "-")) ▸ x ▸ end)

minus : (x : Sexp) (s c : Scope) (a : Typed) → judge in_question [] x s ≡ done a c
    → judge in_question [] (negation_sexp x) s ≡ judge_application in_question (codes "-") (operator Subtract) (a ∷ []) c
minus x s c a h =
    scope_done _ s ∙ next_done _ _ s s tt (return_done tt s) ∙ bind_done _ _ s c (a ∷ []) (bind_done _ _ s c a h ∙ bind_done _ _ c c [] (return_done [] c) ∙ return_done (a ∷ []) c)

-- that of a number is one
pub minus_number : (x : Sexp) (s c : Scope) (a : Typed) → judge in_question [] x s ≡ done a c → a.sort ≡ Int
    → (d : Scope) × (b : Typed) × (judge in_question [] (negation_sexp x) s ≡ done b d)
minus_number x s c a h e =
    let t : Tree = node (Theory Subtract) (more a.tree none) in
    let d : Scope = record c { trees = with_all c.trees (t ∷ []) } in (
      d,
      record { tree = t; sort = Int },
      minus x s c a h ∙ next_done _ _ c c tt (require_done true _ c refl)
          ∙ bind_done _ _ c c Int (required_done (operator_sort Subtract (a.sort ∷ [])) _ c Int (ap (λ (r : Sort). operator_sort Subtract (r ∷ [])) e))
          ∙ next_done _ _ c c tt (require_done true _ c refl) ∙ next_done _ _ c d tt (note_done (t ∷ []) c) ∙ found_done t Int d,
    )

-- and no other term has one
pub minus_other : (x : Sexp) (s c : Scope) (a : Typed) → judge in_question [] x s ≡ done a c → sort_eq Int a.sort ≡ false → judge in_question [] (negation_sexp x) s ≡ refused (SortsDiffer (codes "-"))
minus_other x s c a h e =
    minus x s c a h ∙ next_done _ _ c c tt (require_done true _ c refl)
    ∙ bind_refused _ _ c _ (required_refused (operator_sort Subtract (a.sort ∷ [])) _ c (rw e refl))

pub minus_refused : (x : Sexp) (s : Scope) (r : Refusal) → judge in_question [] x s ≡ refused r → judge in_question [] (negation_sexp x) s ≡ refused r
minus_refused x s r h = scope_done _ s ∙ next_done _ _ s s tt (return_done tt s) ∙ bind_refused _ _ s r (bind_refused _ _ s r h)
