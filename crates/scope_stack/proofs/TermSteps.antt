-- Judging the terms of commands.
use Rattle.std.proofs.Common.{◌≡◌, ◌∙◌, sym, refl, ap, ap₂, subst, ℕ, ◌+◌, ◌<◌, ◌≤◌, true, false, nat_le, List, [], ◌∷◌, ◌++◌, take, length, All, arith, append_assoc}
use Rattle.std.proofs.lemmas.Bool.{le-leb}
use Rattle.std.proofs.lemmas.List.{take_at, append-nil, map-append, length-append}
use Rattle.std.proofs.lemmas.List.Elements.{All-nil, All-head, All-tail, All-push, All-weaker}
use Rattle.elaborate.specs.declared.error.JudgeError.{JudgeError}
use Rattle.elaborate.specs.declared.error.JudgeError.TheVariants.{Refused as TermRefused, Memory as NoRoom}
use Rattle.elaborate.specs.Judged.{IsCauseOf}
use Rattle.elaborate.specs.Values.{IsLonger}
use Rattle.smt_meaning.specs.declared.tokens.Token.{Token}
use Rattle.smt_meaning.specs.declared.values.Sort.TheVariants.{Bool as Truths}
use Rattle.smt_meaning.specs.declared.refusals.Refusal.TheVariants.{NotBool}
use Rattle.smt_meaning.specs.Sexp.{sexp}
use Rattle.smt_meaning.specs.Signature.{sort_eq}
use Rattle.smt_meaning.specs.Sorts.{Scope, Outcome, done, refused, go_on, return, Typed, judge}
use Rattle.smt_meaning.specs.StackCommand.{asserts, asks, in_assert, in_question, assert_term, ask_terms, judge_terms, most_terms, require_room}
use Rattle.smt_meaning.specs.Term.{Tree, tree_at}
use Rattle.smt_sorts.specs.Names.{Names, HasGained}
use Rattle.term_store.specs.Terms.{Terms}
use Rattle.scope_stack.specs.declared.answers.Asked.{Asked}
use Rattle.scope_stack.specs.declared.answers.StackError.{StackError}
use Rattle.scope_stack.specs.declared.answers.StackError.TheVariants.{Refused, Memory}
use Rattle.scope_stack.specs.Carries.{typed_by}
use Rattle.scope_stack.specs.Judged.{scope_by, IsCause, IsSameError, IsAsking}
use Rattle.scope_stack.proofs.FrameLemmas.{tree_at-longer}
use Rattle.scope_stack.proofs.Steps.{bind_cause, bind_done, bind_refused, next_done, next_refused, return_done, require_done, require_refused, scope_done, bind_is, none_judged, one_judged}

pub room_done : (s : Scope) → length s.trees ≤ most_terms → require_room s ≡ done tt s
room_done s le = scope_done _ s ∙ require_done (nat_le (length s.trees) most_terms) _ s (le-leb (length s.trees) most_terms le)

pub assert_done : (t : List Token) (s u : Scope) (a : Typed) → judge in_assert [] (sexp t) s ≡ done a u → sort_eq a.sort Truths ≡ true → length u.trees ≤ most_terms
    → assert_term t s ≡ done (asserts (record { text = t; term = a.tree })) u
assert_done t s u a h e le =
    bind_done _ _ s u a h ∙ next_done _ _ u u tt (require_done (sort_eq a.sort Truths) _ u e) ∙ next_done _ _ u u tt (room_done u le) ∙ return_done (asserts (record { text = t; term = a.tree })) u

pub assert_not_bool : (t : List Token) (s u : Scope) (a : Typed) → judge in_assert [] (sexp t) s ≡ done a u → sort_eq a.sort Truths ≡ false → assert_term t s ≡ refused NotBool
assert_not_bool t s u a h e = bind_done _ _ s u a h ∙ next_refused _ _ u _ (require_refused (sort_eq a.sort Truths) _ u e)

pub same_cause : {A : Type 0} (o : Outcome A) (e : JudgeError) (f : StackError) → IsSameError e f → IsCauseOf e o → IsCause f o
same_cause o (TermRefused r) f h g = subst (λ x. IsCause x o) (sym h) g
same_cause o NoRoom f h g = subst (λ x. IsCause x o) (sym h) tt

pub assert_cause : (t : List Token) (s : Scope) (e : StackError) → IsCause e (judge in_assert [] (sexp t) s) → IsCause e (assert_term t s)
assert_cause t s e h = bind_cause _ _ s e h

-- a store that grew, cut to its old length
pub cut_back : (old now : Terms) (count : ℕ) → now.limit ≡ old.limit → IsLonger old.trees now.trees → count ≡ length old.trees → record { limit = now.limit; trees = take count now.trees } ≡ old
cut_back old now count l g e =
    ap₂ (λ (n : ℕ) ts. record { limit = n; trees = ts }) l (ap (λ ts. take count ts) g.1 ∙ take_at old.trees g.0 count (sym e))

-- as many terms as there were are within a store that grew
pub still_within : (old now : Terms) (count : ℕ) → IsLonger old.trees now.trees → count ≡ length old.trees → count ≤ length now.trees
still_within old now count g e = let grown : length now.trees ≡ length old.trees + length g.0 = ap length g.1 ∙ length-append old.trees g.0 in omega (arith, grown, e)

-- ---- questions, from the left

pub asking_first : (t : Names) (ts : List Tree) (all : List (List Token)) → ((v : Names) → HasGained v t → HasGained v t) → IsAsking t ts all [] all t ts
asking_first t ts all g =
    record { continues = none_judged (judge_terms all (scope_by t ts)); within = All-nil (λ (a : Asked). a.term < length ts); gained = g; longer = ([], sym (append-nil ts)) }

typed-longer : (ts us : List Tree) (as' : List Asked) → All (λ (a : Asked). a.term < length ts) as' → typed_by (ts ++ us) as' ≡ typed_by ts as'
typed-longer ts us [] h = refl
typed-longer ts us (a ∷ rest) h =
    ap₂ (λ (t : Tree) r. record { tree = t; sort = a.sort } ∷ r) (tree_at-longer ts us a.term (All-head (λ (a : Asked). a.term < length ts) a rest h))
    (typed-longer ts us rest (All-tail (λ (a : Asked). a.term < length ts) a rest h))

typed-push : (ts : List Tree) (as' : List Asked) (a : Asked) → typed_by ts (as' ++ a ∷ []) ≡ typed_by ts as' ++ record { tree = tree_at ts a.term; sort = a.sort } ∷ []
typed-push ts as' a = map-append (λ (b : Asked). record { tree = tree_at ts b.term; sort = b.sort }) as' (a ∷ [])

first_question : (x : List Token) (xs : List (List Token)) (s u : Scope) (a : Typed) → judge in_question [] (sexp x) s ≡ done a u → judge_terms (x ∷ xs) s ≡ go_on (judge_terms xs u) (λ rest. return (a ∷ rest))
first_question x xs s u a h = bind_done _ _ s u a h ∙ bind_is _ _ u

pub asking_next : (t : Names) (ts : List Tree) (all : List (List Token)) (as' : List Asked) (x : List Token) (xs : List (List Token)) (u v : Names) (us vs : List Tree) (a : Asked)
    → IsAsking t ts all as' (x ∷ xs) u us → judge in_question [] (sexp x) (scope_by u us) ≡ done (record { tree = tree_at vs a.term; sort = a.sort }) (scope_by v vs) → a.term < length vs
    → ((w : Names) → HasGained w u → HasGained w v) → IsLonger us vs → IsAsking t ts all (as' ++ a ∷ []) xs v vs
asking_next t ts all as' x xs u v us vs a h j lt g l =
    let old : typed_by vs as' ≡ typed_by us as' = ap (λ ws. typed_by ws as') l.1 ∙ typed-longer us l.0 as' h.within in
    let le : length us ≤ length vs = (let n : length (us ++ l.0) ≡ length us + length l.0 = length-append us l.0 in let m : length vs ≡ length (us ++ l.0) = ap length l.1 in omega (arith, n, m)) in
    record {
      continues =
          h.continues
          ∙ ap (λ o. go_on o (λ more'. return (typed_by us as' ++ more'))) (first_question x xs (scope_by u us) (scope_by v vs) (record { tree = tree_at vs a.term; sort = a.sort }) j)
          ∙ one_judged (record { tree = tree_at vs a.term; sort = a.sort }) (typed_by us as') (judge_terms xs (scope_by v vs))
          ∙ ap (λ zs. go_on (judge_terms xs (scope_by v vs)) (λ more'. return ((zs ++ record { tree = tree_at vs a.term; sort = a.sort } ∷ []) ++ more'))) (sym old)
          ∙ ap (λ zs. go_on (judge_terms xs (scope_by v vs)) (λ more'. return (zs ++ more'))) (sym (typed-push vs as' a));
      within =
          All-push (λ (b : Asked). b.term < length vs) as' a (All-weaker (λ (b : Asked). b.term < length us) (λ (b : Asked). b.term < length vs) (λ b p. omega (arith, p, le)) as' h.within) lt;
      gained = λ w p. g w (h.gained w p);
      longer = (h.longer.0 ++ l.0, l.1 ∙ ap (λ ws. ws ++ l.0) h.longer.1 ∙ append_assoc ts h.longer.0 l.0);
    }

pub asking_last : (t : Names) (ts : List Tree) (all : List (List Token)) (as' : List Asked) (u : Names) (us : List Tree) → IsAsking t ts all as' [] u us → judge_terms all (scope_by t ts) ≡ done (typed_by us as') (scope_by u us)
unfolding return
asking_last t ts all as' u us h = h.continues ∙ ap (λ zs. done zs (scope_by u us)) (append-nil (typed_by us as'))

pub asking_cause : (t : Names) (ts : List Tree) (all : List (List Token)) (as' : List Asked) (x : List Token) (xs : List (List Token)) (u : Names) (us : List Tree) (e : StackError)
    → IsAsking t ts all as' (x ∷ xs) u us → IsCause e (judge in_question [] (sexp x) (scope_by u us)) → IsCause e (judge_terms all (scope_by t ts))
asking_cause t ts all as' x xs u us (Refused r) h j = h.continues ∙ ap (λ o. go_on o (λ more'. return (typed_by us as' ++ more'))) (bind_refused _ _ (scope_by u us) r j)
asking_cause t ts all as' x xs u us Memory h j = tt

pub questions_done : (xs : List (List Token)) (s u : Scope) (terms : List Typed) → judge_terms xs s ≡ done terms u → length u.trees ≤ most_terms → ask_terms xs s ≡ done (asks terms) u
questions_done xs s u terms h le =
    bind_done _ _ s u terms (bind_done _ _ s u terms h ∙ next_done _ _ u u tt (room_done u le) ∙ return_done terms u) ∙ return_done (asks terms) u

pub questions_cause : (xs : List (List Token)) (s : Scope) (e : StackError) → IsCause e (judge_terms xs s) → IsCause e (ask_terms xs s)
questions_cause xs s e h = bind_cause _ _ s e (bind_cause _ _ s e h)
