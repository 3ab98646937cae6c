-- The stack under assumptions is the stack after a push and the assumptions as assertions.
use Rattle.std.proofs.Common.{◌≡◌, ℕ, ◌+◌, ◌≤◌, ◌<◌, List, [], ◌∷◌, ◌++◌, map, drop, length, ap, ap₂, sym, subst, ◌∙◌, refl, Bool, true, false, nat_le, nat_lt, arith, append_assoc, append-nil}
use Rattle.std.specs.Prelude.{pos}
use Rattle.std.proofs.lemmas.Bool.{leb-true, le-leb, ltb-true}
use Rattle.std.proofs.lemmas.Grind.{flat_map-append}
use Rattle.smt_meaning.specs.declared.values.Sort.{Sort}
use Rattle.smt_meaning.specs.declared.values.Sort.TheVariants.{Bool as Truths, Int as Ints, Free}
use Rattle.smt_meaning.specs.declared.tokens.Token.{Token}
use Rattle.smt_meaning.specs.declared.commands.Command.{Command}
use Rattle.smt_meaning.specs.declared.commands.Command.TheVariants.{Assert, Push}
use Rattle.smt_meaning.specs.declared.refusals.Refusal.TheVariants.{NotBool, TooManyLevels}
use Rattle.smt_meaning.specs.Declaration.{Declaration}
use Rattle.smt_meaning.specs.Sexp.{sexp}
use Rattle.smt_meaning.specs.Signature.{sort_eq, all_of}
use Rattle.smt_meaning.specs.Sorts.{Scope, Outcome, done, refused, go_on, ◌>>=◌, ◌>>◌, return, refuse, require, the_scope, Typed, sorts_of, judge}
use Rattle.smt_meaning.specs.Stack.{Frame, Assertion, signature_of, depth, on_top}
use Rattle.smt_meaning.specs.State.{frame_of}
use Rattle.smt_meaning.specs.StackCommand.{Stack, start, Change, asserts, assumes, judge_terms, assertions_from, assume_terms, assert_term, require_room, most_terms, most_levels, in_question, in_assert, scope_of, judged, changed, after_outcome, after, after_all}
use Rattle.smt_laws.specs.LanguageLaws.{AssumptionsAreCommands}
use Rattle.smt_laws.proofs.Both.{and_left, and_right}
use Rattle.smt_laws.proofs.Questions.{questions_are_assertions}
use Rattle.smt_laws.proofs.Asked.{Stays, stays_self, stays_still, Leaves, judge_leaves}

-- a level above the stack, which asserts these
abbrev under : List Assertion → Stack → Stack
under xs s = record s { frames = s.frames ++ frame_of xs ∷ [] }

abbrev with_trees : Stack → Scope → Stack
with_trees s c = record s { trees = c.trees }

under_signature : (xs : List Assertion) (frames : List Frame) → signature_of (frames ++ frame_of xs ∷ []) ≡ signature_of frames
under_signature xs frames = flat_map-append (λ (f : Frame). f.declared) frames (frame_of xs ∷ []) ∙ append-nil (signature_of frames)

under_scope : (xs : List Assertion) (s : Stack) → scope_of (under xs s) ≡ scope_of s
under_scope xs s = ap (λ (ds : List Declaration). record { signature = ds; given = s.given; trees = s.trees }) (under_signature xs s.frames)

on_new : (xs ys : List Assertion) (frames : List Frame) → on_top [] ys (frames ++ frame_of xs ∷ []) ≡ frames ++ frame_of (xs ++ ys) ∷ []
on_new xs ys [] = refl
on_new xs ys (f ∷ []) = refl
on_new xs ys (f ∷ g ∷ frames) = ap (λ fs. f ∷ fs) (on_new xs ys (g ∷ frames))

drop_all : (ds : List Declaration) → drop (length ds) ds ≡ []
drop_all [] = refl
drop_all (d ∷ ds) = drop_all ds

is_truth : (a : Sort) → sort_eq Truths a ≡ true → sort_eq a Truths ≡ true
is_truth Truths h = refl
is_truth Ints h = h
is_truth (Free n) h = h

-- ---- one assumption as an assertion

abbrev assertion : List Token → Typed → Assertion
assertion t a = record { text = t; term = a.tree }

assert_is : (t : List Token) (c d : Scope) (a : Typed) → judge in_assert [] (sexp t) c ≡ done a d → sort_eq a.sort Truths ≡ true → nat_le (length d.trees) most_terms ≡ true
    → assert_term t c ≡ done (asserts (assertion t a)) d
unfolding ◌>>=◌ ◌>>◌ return refuse require the_scope
assert_is t c d a e p q = rw (e, p, q) refl

after_assert : (t : List Token) (s : Stack) (a : Typed) (d : Scope) → assert_term t (scope_of s) ≡ done (asserts (assertion t a)) d → after s (Assert t) ≡ changed s (asserts (assertion t a)) d
unfolding judged
after_assert t s a d e = ap (after_outcome s) e

-- where nothing was declared
changed_is : (xs : List Assertion) (x : Assertion) (s : Stack) (d : Scope) → Stays (scope_of s) d → changed (under xs s) (asserts x) d ≡ under (xs ++ x ∷ []) (with_trees s d)
changed_is xs x s d h =
    ap₂ (λ (fs : List Frame) (n : ℕ). record { frames = fs; given = n; trees = d.trees; global = s.global })
    (ap (λ ds. on_top ds (x ∷ []) (s.frames ++ frame_of xs ∷ []))
    (ap (λ ds. drop (length ds) d.signature) (under_signature xs s.frames) ∙ ap (drop (length (signature_of s.frames))) h.signature ∙ drop_all (signature_of s.frames))
    ∙ on_new xs (x ∷ []) s.frames) h.given

asserted : (t : List Token) (xs : List Assertion) (s : Stack) (a : Typed) (d : Scope) → judge in_question [] (sexp t) (scope_of s) ≡ done a d → Stays (scope_of s) d
    → sort_eq Truths a.sort ≡ true → nat_le (length d.trees) most_terms ≡ true → after (under xs s) (Assert t) ≡ under (xs ++ assertion t a ∷ []) (with_trees s d)
asserted t xs s a d e h p q =
    after_assert t (under xs s) a d
    (ap (assert_term t) (under_scope xs s)
    ∙ assert_is t (scope_of s) d a (questions_are_assertions [] (sexp t) (scope_of s) d a e) (is_truth a.sort p) q)
    ∙ changed_is xs (assertion t a) s d h

-- ---- each assumption as an assertion

abbrev Asserts : Stack → List Assertion → List (List Token) → Outcome (List Typed) → Type 0
Asserts s xs ts (done us d) =
    Stays (scope_of s) d
    × (all_of Truths (sorts_of us) ≡ true → nat_le (length d.trees) most_terms ≡ true → after_all (under xs s) (map Assert ts) ≡ under (xs ++ assertions_from ts us) (with_trees s d))
Asserts s xs ts (refused r) = Unit {0}

stays_scope : (s : Stack) (d : Scope) → Stays (scope_of s) d → scope_of (with_trees s d) ≡ d
stays_scope s d h = ap₂ (λ (ds : List Declaration) (n : ℕ). record { signature = ds; given = n; trees = d.trees }) (sym h.signature) (sym h.given)

fewer : (m n : ℕ) → m ≤ n → nat_le n most_terms ≡ true → nat_le m most_terms ≡ true
fewer m n l h = let most : n ≤ most_terms = leb-true n most_terms h in le-leb m most_terms (omega (arith, l, most))

one_more : (t : List Token) (ts : List (List Token)) (s : Stack) (xs : List Assertion) (a : Typed) (d : Scope) → judge in_question [] (sexp t) (scope_of s) ≡ done a d → Stays (scope_of s) d
    → (o : Outcome (List Typed)) → Asserts (with_trees s d) (xs ++ assertion t a ∷ []) ts o → Asserts s xs (t ∷ ts) (go_on o (λ us. λ c. done (a ∷ us) c))
one_more t ts s xs a d e h (done us c) k = (
  stays_still (scope_of s) d c h (subst (λ b. Stays b c) (stays_scope s d h) k.0),
  λ p q.
      ap (λ u. after_all u (map Assert ts))
      (asserted t xs s a d e h (and_left (sort_eq Truths a.sort) (all_of Truths (sorts_of us)) p) (fewer (length d.trees) (length c.trees) k.0.longer q))
      ∙ k.1 (and_right (sort_eq Truths a.sort) (all_of Truths (sorts_of us)) p) q
      ∙ ap (λ ys. under ys (with_trees s c)) (append_assoc xs (assertion t a ∷ []) (assertions_from ts us)),
)
one_more t ts s xs a d e h (refused r) k = tt

each_asserts : (ts : List (List Token)) (s : Stack) (xs : List Assertion) → Asserts s xs ts (judge_terms ts (scope_of s))
unfolding ◌>>=◌ return
each_asserts [] s xs = (stays_self (scope_of s), λ p q. ap (λ ys. under ys s) (sym (append-nil xs)))
each_asserts (t ∷ ts) s xs = go (λ u ys. each_asserts ts u ys) (judge in_question [] (sexp t) (scope_of s)) refl ((judge_leaves [] (sexp t)).leaves (scope_of s))
  where
    go : ((u : Stack) (ys : List Assertion) → Asserts u ys ts (judge_terms ts (scope_of u))) → (o : Outcome Typed) → judge in_question [] (sexp t) (scope_of s) ≡ o → Leaves (scope_of s) o
        → Asserts s xs (t ∷ ts) (go_on o (λ a. judge_terms ts >>= (λ us. return (a ∷ us))))
    go rest (done a d) e h =
        one_more t ts s xs a d e h (judge_terms ts d)
        (subst (λ b. Asserts (with_trees s d) (xs ++ assertion t a ∷ []) ts (judge_terms ts b)) (stays_scope s d h) (rest (with_trees s d) (xs ++ assertion t a ∷ [])))
    go rest (refused r) e h = tt

-- ---- all of them

abbrev AreCommands : Stack → List (List Token) → Outcome Change → Type 0
AreCommands s ts (done (assumes xs) d) = after_all s (Push (pos 1) ∷ map Assert ts) ≡ under xs (changed s (assumes xs) d)
AreCommands s ts _ = Unit {0}

push_is : (s : Stack) → nat_lt (depth s.frames) most_levels ≡ true → after s (Push (pos 1)) ≡ under [] s
unfolding judged ◌>>◌ return refuse require
push_is s h =
    let below : depth s.frames < most_levels = ltb-true (depth s.frames) most_levels h in
    let few : nat_le (depth s.frames + 1) most_levels ≡ true = le-leb (depth s.frames + 1) most_levels (omega (arith, below)) in rw few refl

are_commands : (s : Stack) (ts : List (List Token)) → AreCommands s ts (assume_terms (depth s.frames) ts (scope_of s))
unfolding ◌>>=◌ ◌>>◌ return refuse require the_scope
are_commands s ts = go (judge_terms ts (scope_of s)) (each_asserts ts s [])
  where
    finish : (us : List Typed) (d : Scope) → Asserts s [] ts (done us d) → (b c l : Bool) → all_of Truths (sorts_of us) ≡ b → nat_le (length d.trees) most_terms ≡ c → nat_lt (depth s.frames) most_levels ≡ l
        → AreCommands s ts (go_on (require b NotBool d) (λ x. require_room >> (require l TooManyLevels >> return (assumes (assertions_from ts us)))))
    finish us d h false c l p q r = tt
    finish us d h true false l p q r = rw q tt
    finish us d h true true false p q r = rw q tt
    finish us d h true true true p q r = rw q (ap (λ u. after_all u (map Assert ts)) (push_is s r) ∙ h.1 p q)

    go : (o : Outcome (List Typed)) → Asserts s [] ts o
        → AreCommands s ts (go_on o (λ us. require (all_of Truths (sorts_of us)) NotBool >> (require_room >> (require (nat_lt (depth s.frames) most_levels) TooManyLevels >> return (assumes (assertions_from ts us))))))
    go (done us d) h = finish us d h (all_of Truths (sorts_of us)) (nat_le (length d.trees) most_terms) (nat_lt (depth s.frames) most_levels) refl refl refl
    go (refused r) h = tt

after_both : (s : Stack) (cs ds : List Command) → after_all s (cs ++ ds) ≡ after_all (after_all s cs) ds
after_both s [] ds = refl
after_both s (c ∷ cs) ds = after_both (after s c) cs ds

pub assumptions_are_commands : AssumptionsAreCommands
unfolding judged
assumptions_are_commands cs ts xs d e =
    after_both start cs (Push (pos 1) ∷ map Assert ts) ∙ subst (AreCommands (after_all start cs) ts) e (are_commands (after_all start cs) ts)
