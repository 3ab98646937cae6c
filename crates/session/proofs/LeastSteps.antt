-- The question for a least value, step by step.
use Rattle.std.proofs.Common.{◌≡◌, ◌∙◌, refl, ap, ap₂, sym, subst, ℕ, ◌+◌, ◌<◌, Bool, true, false, nat_le, nat_lt, ◌&&◌, List, [], ◌∷◌, ◌++◌, length, Option, Some, None, arith, append-nil, All}
use Rattle.std.specs.Prelude.{codes, if◌then◌else◌, slice_get}
use Rattle.std.proofs.lemmas.Bool.{leb-true, ltb-true}
use Rattle.std.proofs.lemmas.Bool.Decides.{leb_tells}
use Rattle.std.proofs.lemmas.List.Elements.{All-head}
use Rattle.smt_meaning.specs.declared.tokens.Token.{Token}
use Rattle.smt_meaning.specs.declared.tokens.Token.TheVariants.{Enter, Leave, Symbol}
use Rattle.smt_meaning.specs.declared.values.Sort.{Sort}
use Rattle.smt_meaning.specs.declared.values.Sort.TheVariants.{Bool as Truths, Int, Free}
use Rattle.smt_meaning.specs.declared.refusals.Refusal.{Refusal}
use Rattle.smt_meaning.specs.declared.refusals.Refusal.TheVariants.{SortsDiffer, TooManyLevels, TooManyTerms}
use Rattle.smt_meaning.specs.Declaration.{Declaration}
use Rattle.smt_meaning.specs.Goal.{pair_text}
use Rattle.smt_meaning.specs.Reading.{IsSExpr, IsInner, Shape, opening, closing, single, Completes}
use Rattle.smt_meaning.specs.Sexp.{tokens, sexp, is_proper}
use Rattle.smt_meaning.specs.Signature.{sort_eq}
use Rattle.smt_meaning.specs.Sorts.{Scope, Outcome, done, refused, Typed, judge}
use Rattle.smt_meaning.specs.Stack.{signature_of, depth}
use Rattle.smt_meaning.specs.StackCommand.{Stack, Change, asks, asked_terms, most_terms, most_levels, in_question, ask_terms, assume_terms, judged, judged_is, scope_of}
use Rattle.smt_meaning.specs.Term.{Tree, tree_at}
use Rattle.smt_laws.specs.TermLaws.{TokensReadBack, SExprsReadBack, JudgedAgain, IsJudgedAgain}
use Rattle.term_store.specs.Terms.{AreComplete}
use Rattle.scope_stack.specs.declared.answers.Asked.{Asked}
use Rattle.scope_stack.specs.Carries.{IsAsked, question, typed_by}
use Rattle.goal_search.specs.Asks.{AsksAreAssumed}
use Rattle.goal_search.specs.declared.text.Ask.TheVariants.{Itself}
use Rattle.goal_search.specs.Goals.{IsGoal}
use Rattle.session.specs.Minimized.{IsGoalAsked, goal_refusal, itself_assumed, minimization, negation, refusal_told}
use Rattle.session.proofs.Questions.{places_within}
use Rattle.session.proofs.GoalSteps.{asked_done, asked_full, asked_refused, goal_refused, goal_differs, goal_full, goal_fits, level_refused, negation_sexp, minus_number, minus_other, minus_refused}

done_not_refused : {A : Type 0} (a : A) (c : Scope) (r : Refusal) → done a c ≡ refused r → ⊥
done_not_refused a c r e = cc

-- ---- sorts

same_int : (s : Sort) → sort_eq s Int ≡ true → s ≡ Int
same_int Truths e = absurd (cc)
same_int Int e = refl
same_int (Free k) e = absurd (cc)

flipped : (s : Sort) → sort_eq s Int ≡ sort_eq Int s
flipped Truths = refl
flipped Int = refl
flipped (Free k) = refl

-- ---- what a question of one term was judged to be

-- the term with its sort
pub record IsOne (t : List Token) (old : Stack) (xs : List Asked) (c : Scope) : Type 0 where
  pub one : Asked
  pub only : xs ≡ one ∷ []
  pub is_judged : judge in_question [] (sexp t) (scope_of old) ≡ done (record { tree = tree_at c.trees one.term; sort = one.sort }) c

abbrev asks_of : Change → List Typed
asks_of (asks terms) = terms
asks_of x = []

abbrev scope_in : Scope → Outcome Change → Scope
scope_in s (done x c) = c
scope_in s (refused r) = s

abbrev terms_in : Outcome Change → List Typed
terms_in (done x c) = asks_of x
terms_in (refused r) = []

one_by : (t : List Token) (old : Stack) (xs : List Asked) (a : Typed) (c d : Scope) → judge in_question [] (sexp t) (scope_of old) ≡ done a c → c ≡ d → a ∷ [] ≡ typed_by d.trees xs → IsOne t old xs d
one_by t old [] a c d j e f = absurd (cc)
one_by t old (x ∷ y ∷ ys) a c d j e f = absurd (cc)
one_by t old (x ∷ []) a c d j e f = record { one = x; only = refl; is_judged = j ∙ ap₂ (λ (b : Typed) v. done b v) (cc) e }

pub asked_one : (t : List Token) (old : Stack) (xs : List Asked) (c : Scope) → judged (question (t ∷ [])) old ≡ done (asks (typed_by c.trees xs)) c → IsOne t old xs c
asked_one t old xs c h = by_judge (judge in_question [] (sexp t) (scope_of old)) refl
  where
    is : ask_terms (t ∷ []) (scope_of old) ≡ done (asks (typed_by c.trees xs)) c
    is = sym (judged_is (question (t ∷ [])) old) ∙ h

    by_room : (a : Typed) (d : Scope) → judge in_question [] (sexp t) (scope_of old) ≡ done a d → (b : Bool) → nat_le (length d.trees) most_terms ≡ b → IsOne t old xs c
    by_room a d j true e =
        let o : done (asks (a ∷ [])) d ≡ done (asks (typed_by c.trees xs)) c = sym (asked_done t (scope_of old) d a j e) ∙ is in
        one_by t old xs a d c j (ap (scope_in d) o) (ap terms_in o)
    by_room a d j false e =
        let o : refused TooManyTerms ≡ done (asks (typed_by c.trees xs)) c = sym (asked_full t (scope_of old) d a j e) ∙ is in
        absurd (cc)

    by_judge : (o : Outcome Typed) → judge in_question [] (sexp t) (scope_of old) ≡ o → IsOne t old xs c
    by_judge (done a d) j = by_room a d j (nat_le (length d.trees) most_terms) refl
    by_judge (refused r) j =
        let o : refused r ≡ done (asks (typed_by c.trees xs)) c = sym (asked_refused t (scope_of old) r j) ∙ is in
        absurd (cc)

pub no_first : (t : List Token) (old new : Stack) (xs : List Asked) → IsAsked (t ∷ []) xs old new → slice_get xs 0 ≡ None → ⊥
no_first t old new xs k e =
    let o = asked_one t old xs k.scope k.is_judged in
    let n : Some o.one ≡ None = sym (ap (λ ys. slice_get ys 0) o.only) ∙ e in
    absurd (cc)

pub first_one : (t : List Token) (old new : Stack) (xs : List Asked) (k : IsAsked (t ∷ []) xs old new) (x : Asked) → Some x ≡ slice_get xs 0 → (asked_one t old xs k.scope k.is_judged).one ≡ x
first_one t old new xs k x e =
    let o = asked_one t old xs k.scope k.is_judged in
    let n : Some o.one ≡ Some x = sym (ap (λ ys. slice_get ys 0) o.only) ∙ sym e in
    same_one o.one x n
  where
    same_one : (a b : Asked) → Some a ≡ Some b → a ≡ b
    same_one a b h = cc

-- ---- a question that is refused

room_left : (m n : ℕ) → nat_le m n ≡ false → nat_le (m + asked_terms) n ≡ false
room_left m n e = grind (arith, leb_tells)

abbrev why_refused : {A : Type 0} → Outcome A → Refusal
why_refused (refused r) = r
why_refused (done x c) = TooManyTerms

-- for want of room, or as the term is
refused_by : (t : List Token) (old : Stack) (why : Refusal) → judged (question (t ∷ [])) old ≡ refused why → (P : Type 0)
    → ((a : Typed) (c : Scope) → judge in_question [] (sexp t) (scope_of old) ≡ done a c → nat_le (length c.trees) most_terms ≡ false → why ≡ TooManyTerms → P)
    → (judge in_question [] (sexp t) (scope_of old) ≡ refused why → P) → P
refused_by t old why h P full as_term = by_judge (judge in_question [] (sexp t) (scope_of old)) refl
  where
    is : ask_terms (t ∷ []) (scope_of old) ≡ refused why
    is = sym (judged_is (question (t ∷ [])) old) ∙ h

    by_room : (a : Typed) (d : Scope) → judge in_question [] (sexp t) (scope_of old) ≡ done a d → (b : Bool) → nat_le (length d.trees) most_terms ≡ b → P
    by_room a d j true e =
        let o : done (asks (a ∷ [])) d ≡ refused why = sym (asked_done t (scope_of old) d a j e) ∙ is in
        absurd (cc)
    by_room a d j false e = full a d j e (ap why_refused (sym is ∙ asked_full t (scope_of old) d a j e))

    by_judge : (o : Outcome Typed) → judge in_question [] (sexp t) (scope_of old) ≡ o → P
    by_judge (done a d) j = by_room a d j (nat_le (length d.trees) most_terms) refl
    by_judge (refused r) j = as_term (j ∙ ap (λ x. refused x) (ap why_refused (sym (asked_refused t (scope_of old) r j) ∙ is)))

pub refused_alike : (t : List Token) (old : Stack) (why : Refusal) → judged (question (t ∷ [])) old ≡ refused why → (why ≡ TooManyTerms → ⊥) → judged (minimization t) old ≡ refused why
refused_alike t old why h other =
    refused_by t old why h (judged (minimization t) old ≡ refused why) (λ a c j e f. absurd (other f))
    (λ j. judged_is (minimization t) old ∙ goal_refused (depth old.frames) t (scope_of old) why j)

-- ---- the negation

module _ (back : TokensReadBack) (read : SExprsReadBack) (t : List Token) (written : IsSExpr t) where
  again : tokens (sexp t) ≡ t
  again = (read t written).1

  proper : is_proper (sexp t) ≡ true
  proper = (read t written).2

  pub negation_reads : sexp (negation t) ≡ negation_sexp (sexp t)
  negation_reads =
      ap sexp (sym (ap (λ (ts : List Token). Enter ∷ Symbol (codes "-") ∷ (ts ++ Leave ∷ [])) (append-nil (tokens (sexp t)) ∙ again)))
      ∙ (back (negation_sexp (sexp t)) (ap (λ a. true && (a && true)) proper)).1

abbrev tail_of : List Shape → List Shape
tail_of [] = []
tail_of (s ∷ ss) = ss

abbrev head_of : Shape → List Shape → Shape
head_of x [] = x
head_of x (s ∷ ss) = s

pub negation_is : (t : List Token) → IsInner t → IsSExpr (negation t)
negation_is t ([], n, last, e, o, k) = absurd (subst (Completes n) (sym (ap (head_of opening) e)) k)
negation_is t (opening ∷ front, n, last, e, o, k) =
    (opening ∷ single ∷ front, n, last, ap (λ ss. opening ∷ single ∷ ss) (ap tail_of e), (o.0, (omega arith, o.1)), k)
negation_is t (closing ∷ front, n, last, e, o, k) = absurd (omega (arith, o.0))
negation_is t (single ∷ front, n, last, e, o, k) = absurd (omega (arith, o.0))

-- what the command is judged to be where there is no room, by what the negation is judged to be
pub told_done : (t : List Token) (old : Stack) (xs : List Asked) (c : Scope) → sexp (negation t) ≡ negation_sexp (sexp t) → judged (question (t ∷ [])) old ≡ refused TooManyTerms
    → judged (question (negation t ∷ [])) old ≡ done (asks (typed_by c.trees xs)) c → judged (minimization t) old ≡ refused TooManyTerms
told_done t old xs c reads h g = refused_by t old TooManyTerms h (judged (minimization t) old ≡ refused TooManyTerms) (λ a d j e f. by_sort a d j e (sort_eq a.sort Int) refl)
    (λ j. judged_is (minimization t) old ∙ goal_refused (depth old.frames) t (scope_of old) TooManyTerms j)
  where
    one : IsOne (negation t) old xs c
    one = asked_one (negation t) old xs c g

    by_sort : (a : Typed) (d : Scope) → judge in_question [] (sexp t) (scope_of old) ≡ done a d → nat_le (length d.trees) most_terms ≡ false → (b : Bool) → sort_eq a.sort Int ≡ b
        → judged (minimization t) old ≡ refused TooManyTerms
    by_sort a d j e true s = judged_is (minimization t) old ∙ goal_full (depth old.frames) t (scope_of old) d a j s (room_left (length d.trees) most_terms e)
    by_sort a d j e false s =
        let n : judge in_question [] (sexp (negation t)) (scope_of old) ≡ refused (SortsDiffer (codes "-")) =
        ap (λ x. judge in_question [] x (scope_of old)) reads ∙ minus_other (sexp t) (scope_of old) d a j (sym (flipped a.sort) ∙ s) in
        let o = sym n ∙ one.is_judged in
        absurd (cc)

not_told : (r : Refusal) → r ≡ TooManyTerms → refusal_told r ≡ TooManyTerms
not_told r e = ap refusal_told e

pub told_refused : (t : List Token) (old : Stack) (why : Refusal) → sexp (negation t) ≡ negation_sexp (sexp t) → judged (question (t ∷ [])) old ≡ refused TooManyTerms
    → judged (question (negation t ∷ [])) old ≡ refused why → judged (minimization t) old ≡ refused (refusal_told why)
told_refused t old why reads h g =
    refused_by t old TooManyTerms h (judged (minimization t) old ≡ refused (refusal_told why)) (λ a d j e f. by_sort a d j e (sort_eq a.sort Int) refl) as_term
  where
    apart : (P : Type 0) → ((a : Typed) (c : Scope) → judge in_question [] (negation_sexp (sexp t)) (scope_of old) ≡ done a c → why ≡ TooManyTerms → P)
        → (judge in_question [] (negation_sexp (sexp t)) (scope_of old) ≡ refused why → P) → P
    apart P f k = refused_by (negation t) old why g P (λ a c j e w. f a c (ap (λ x. judge in_question [] x (scope_of old)) (sym reads) ∙ j) w) (λ j. k (ap (λ x. judge in_question [] x (scope_of old)) (sym reads) ∙ j))

    full_told : judged (minimization t) old ≡ refused TooManyTerms → why ≡ TooManyTerms → judged (minimization t) old ≡ refused (refusal_told why)
    full_told m e = m ∙ ap (λ r. refused r) (sym (not_told why e))

    by_sort : (a : Typed) (d : Scope) → judge in_question [] (sexp t) (scope_of old) ≡ done a d → nat_le (length d.trees) most_terms ≡ false → (b : Bool) → sort_eq a.sort Int ≡ b
        → judged (minimization t) old ≡ refused (refusal_told why)
    by_sort a d j e true s =
        let m : judged (minimization t) old ≡ refused TooManyTerms = judged_is (minimization t) old ∙ goal_full (depth old.frames) t (scope_of old) d a j s (room_left (length d.trees) most_terms e) in
        let n = minus_number (sexp t) (scope_of old) d a j (same_int a.sort s) in
        apart (judged (minimization t) old ≡ refused (refusal_told why)) (λ b c k w. full_told m w) (λ k. absurd (done_not_refused n.1 n.0 why (sym n.2 ∙ k)))
    by_sort a d j e false s =
        let m : judged (minimization t) old ≡ refused (SortsDiffer (codes "minimize")) = judged_is (minimization t) old ∙ goal_differs (depth old.frames) t (scope_of old) d a j s in
        let n : judge in_question [] (negation_sexp (sexp t)) (scope_of old) ≡ refused (SortsDiffer (codes "-")) = minus_other (sexp t) (scope_of old) d a j (sym (flipped a.sort) ∙ s) in
        apart (judged (minimization t) old ≡ refused (refusal_told why)) (λ b c k w. absurd (done_not_refused b c (SortsDiffer (codes "-")) (sym k ∙ n)))
        (λ k. m ∙ ap (λ r. refused (refusal_told r)) (ap why_refused (sym n ∙ k)))

    as_term : judge in_question [] (sexp t) (scope_of old) ≡ refused TooManyTerms → judged (minimization t) old ≡ refused (refusal_told why)
    as_term j =
        let m : judged (minimization t) old ≡ refused TooManyTerms = judged_is (minimization t) old ∙ goal_refused (depth old.frames) t (scope_of old) TooManyTerms j in
        let n : judge in_question [] (negation_sexp (sexp t)) (scope_of old) ≡ refused TooManyTerms = minus_refused (sexp t) (scope_of old) TooManyTerms j in
        apart (judged (minimization t) old ≡ refused (refusal_told why)) (λ b c k w. full_told m w) (λ k. full_told m (ap why_refused (sym k ∙ n)))

-- ---- the goal

abbrev tests : Bool → Bool → Bool → Option Refusal
tests a b c = if a then (if b then (if c then None else Some TooManyLevels) else Some TooManyTerms) else Some (SortsDiffer (codes "minimize"))

tests_are : (a b c x y z : Bool) → a ≡ x → b ≡ y → c ≡ z → tests a b c ≡ tests x y z
tests_are a b c x y z e f g = rw (e, f, g) refl

all_true : (a b c : Bool) → tests a b c ≡ None → (a ≡ true) × (b ≡ true) × (c ≡ true)
all_true true true true h = (refl, refl, refl)
all_true true true false h = absurd (cc)
all_true true false c h = absurd (cc)
all_true false b c h = absurd (cc)

some_is : (r why : Refusal) → Some r ≡ Some why → r ≡ why
some_is r why e = cc

some_none : (why : Refusal) → None ≡ Some why → ⊥
some_none why e = cc

-- the stack after its question
module _ (law : JudgedAgain) (t : List Token) (old new : Stack) (xs : List Asked) (k : IsAsked (t ∷ []) xs old new) where
  abbrev one : IsOne t old xs k.scope
  one = asked_one t old xs k.scope k.is_judged

  abbrev a : Typed
  a = record { tree = tree_at k.scope.trees one.one.term; sort = one.one.sort }

  grown : IsJudgedAgain [] (sexp t) (scope_of old) k.scope a
  grown = law [] (sexp t) (scope_of old) k.scope a one.is_judged

  scope_is : scope_of new ≡ k.scope
  scope_is = ap scope_of k.new_is ∙ ap (λ ts. record (scope_of old) { trees = ts }) (ap (λ (c : Scope). c.trees) grown.grown) ∙ sym grown.grown

  frames_are : new.frames ≡ old.frames
  frames_are = ap (λ (s : Stack). s.frames) k.new_is

  again_there : judge in_question [] (sexp t) k.scope ≡ done a k.scope
  again_there = subst (λ ts. judge in_question [] (sexp t) (record k.scope { trees = ts }) ≡ done a (record k.scope { trees = ts })) (append-nil k.scope.trees) (grown.again [])

  again_here : judge in_question [] (sexp t) (scope_of new) ≡ done (record { tree = tree_at new.trees one.one.term; sort = one.one.sort }) (scope_of new)
  again_here = subst (λ (v : Scope). judge in_question [] (sexp t) v ≡ done (record { tree = tree_at v.trees one.one.term; sort = one.one.sort }) v) (sym scope_is) again_there

  trees_are : k.scope.trees ≡ new.trees
  trees_are = sym (ap (λ (c : Scope). c.trees) scope_is)

  module _ (x : Asked) (e : one.one ≡ x) (w : IsSExpr t) (full : AreComplete new.trees) where
    within : x.term < length new.trees
    within =
        let all : All (λ (y : Asked). y.term < length new.trees) (one.one ∷ []) = subst (All (λ (y : Asked). y.term < length new.trees)) one.only (places_within (t ∷ []) xs old new k) in
        subst (λ (y : Asked). y.term < length new.trees) e (All-head (λ (y : Asked). y.term < length new.trees) one.one [] all)

    judged_int : x.sort ≡ Int → judge in_question [] (sexp t) (scope_of new) ≡ done (record { tree = tree_at new.trees x.term; sort = Int }) (scope_of new)
    judged_int s =
        subst (λ (r : Sort). judge in_question [] (sexp t) (scope_of new) ≡ done (record { tree = tree_at new.trees x.term; sort = r }) (scope_of new)) s
        (subst (λ (y : Asked). judge in_question [] (sexp t) (scope_of new) ≡ done (record { tree = tree_at new.trees y.term; sort = y.sort }) (scope_of new)) e again_here)

    sort_here : (b : Bool) → sort_eq x.sort Int ≡ b → sort_eq a.sort Int ≡ b
    sort_here b s = ap (λ (y : Asked). sort_eq y.sort Int) e ∙ s

    room_here : (b : Bool) → nat_le (length new.trees + asked_terms) most_terms ≡ b → nat_le (length k.scope.trees + asked_terms) most_terms ≡ b
    room_here b r = ap (λ (ts : List Tree). nat_le (length ts + asked_terms) most_terms) trees_are ∙ r

    fitting : sort_eq x.sort Int ≡ true → nat_le (length new.trees + asked_terms) most_terms ≡ true → judged (minimization t) old ≡ assume_terms (depth old.frames) (pair_text (codes "=") t t ∷ []) k.scope
    fitting s r = judged_is (minimization t) old ∙ goal_fits (depth old.frames) t (scope_of old) k.scope a one.is_judged (sort_here true s) (room_here true r)

    pub goal_there : goal_refusal x.sort (length new.trees) (depth new.frames) ≡ None → IsGoalAsked t x.term old new
    goal_there none =
        let h = all_true (sort_eq x.sort Int) (nat_le (length new.trees + asked_terms) most_terms) (nat_lt (depth new.frames) most_levels) none in
        record {
          goal = record {
            written = w;
            complete = full;
            is_judged = judged_int (same_int x.sort h.0);
            within = within;
            room = leb-true (length new.trees + asked_terms) most_terms h.1;
            level = ltb-true (depth new.frames) most_levels h.2;
          };
          asked = xs;
          is_asked = k;
          is_judged =
              fitting h.0 h.1 ∙ ap₂ (λ (n : ℕ) c. assume_terms n (pair_text (codes "=") t t ∷ []) c) (ap depth (sym frames_are)) (sym scope_is) ∙ sym (judged_is (itself_assumed t) new);
        }

    -- the same terms, all declared at level 0
    abbrev flat : Stack
    flat = record new { frames = record { declared = signature_of new.frames; asserted = [] } ∷ [] }

    flat_is : scope_of flat ≡ scope_of new
    flat_is = ap (λ (ds : List Declaration). record (scope_of new) { signature = ds }) (append-nil (signature_of new.frames))

    too_deep : AsksAreAssumed → sort_eq x.sort Int ≡ true → nat_le (length new.trees + asked_terms) most_terms ≡ true → nat_lt (depth new.frames) most_levels ≡ false
        → assume_terms (depth old.frames) (pair_text (codes "=") t t ∷ []) k.scope ≡ refused TooManyLevels
    too_deep asks' s r l =
        let goal : IsGoal flat t x.term = record {
          written = w;
          complete = full;
          is_judged = subst (λ (v : Scope). judge in_question [] (sexp t) v ≡ done (record { tree = tree_at new.trees x.term; sort = Int }) v) (sym flat_is) (judged_int (same_int x.sort s));
          within = within;
          room = leb-true (length new.trees + asked_terms) most_terms r;
          level = omega arith;
        } in
        let at_0 = sym (ap (assume_terms 0 (pair_text (codes "=") t t ∷ [])) (flat_is ∙ scope_is)) ∙ sym (judged_is (itself_assumed t) flat) ∙ asks' flat t x.term Itself goal tt in
        level_refused 0 (depth old.frames) (pair_text (codes "=") t t ∷ []) k.scope _ _ at_0 (ap (λ fs. nat_lt (depth fs) most_levels) (sym frames_are) ∙ l)

    -- why it is no goal
    pub no_goal : AsksAreAssumed → (why : Refusal) → goal_refusal x.sort (length new.trees) (depth new.frames) ≡ Some why → judged (minimization t) old ≡ refused why
    no_goal asks' why some = by_sort (sort_eq x.sort Int) refl
      where
        by_level : sort_eq x.sort Int ≡ true → nat_le (length new.trees + asked_terms) most_terms ≡ true → (b : Bool) → nat_lt (depth new.frames) most_levels ≡ b → judged (minimization t) old ≡ refused why
        by_level s r true l = absurd (some_none why (sym (tests_are _ _ _ true true true s r l) ∙ some))
        by_level s r false l =
            fitting s r ∙ too_deep asks' s r l ∙ ap (λ y. refused y) (some_is _ _ (sym (tests_are _ _ _ true true false s r l) ∙ some))

        by_room : sort_eq x.sort Int ≡ true → (b : Bool) → nat_le (length new.trees + asked_terms) most_terms ≡ b → judged (minimization t) old ≡ refused why
        by_room s true r = by_level s r (nat_lt (depth new.frames) most_levels) refl
        by_room s false r =
            judged_is (minimization t) old ∙ goal_full (depth old.frames) t (scope_of old) k.scope a one.is_judged (sort_here true s) (room_here false r)
            ∙ ap (λ y. refused y) (some_is _ _ (sym (tests_are _ _ _ true false (nat_lt (depth new.frames) most_levels) s r refl) ∙ some))

        by_sort : (b : Bool) → sort_eq x.sort Int ≡ b → judged (minimization t) old ≡ refused why
        by_sort true s = by_room s (nat_le (length new.trees + asked_terms) most_terms) refl
        by_sort false s =
            judged_is (minimization t) old ∙ goal_differs (depth old.frames) t (scope_of old) k.scope a one.is_judged (sort_here false s)
            ∙ ap (λ y. refused y)
            (some_is _ _ (sym (tests_are _ _ _ false (nat_le (length new.trees + asked_terms) most_terms) (nat_lt (depth new.frames) most_levels) s refl refl) ∙ some))
