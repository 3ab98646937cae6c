-- Judging the terms that a check assumes, and the level on which they stand.
use Rattle.std.proofs.Common.{◌≡◌, ◌∙◌, sym, refl, ap, ap₂, subst, ℕ, ◌+◌, ◌-◌, ◌<◌, ◌≤◌, Bool, true, false, nat_lt, List, [], ◌∷◌, ◌++◌, map, length, replicate, All, Err, pos, arith}
use Rattle.std.proofs.lemmas.Bool.Decides.{nat_tests}
use Rattle.std.proofs.lemmas.List.{length-append}
use Rattle.std.proofs.lemmas.List.Elements.{All-nil, All-cons, All-head, All-tail}
use Rattle.elaborate.specs.Values.{IsLonger}
use Rattle.smt_meaning.specs.declared.commands.Command.TheVariants.{Assert, Push}
use Rattle.smt_meaning.specs.declared.refusals.Refusal.TheVariants.{NotBool, TooManyLevels, TooManyTerms}
use Rattle.smt_meaning.specs.declared.tokens.Token.{Token}
use Rattle.smt_meaning.specs.declared.values.Sort.TheVariants.{Bool as Truths}
use Rattle.smt_meaning.specs.Signature.{all_of as all_sorts}
use Rattle.smt_meaning.specs.Sorts.{Scope, done, refused, Typed, sorts_of, with_all}
use Rattle.smt_meaning.specs.Stack.{Assertion as Asserted, Frame, depth}
use Rattle.smt_meaning.specs.State.{frame_of}
use Rattle.smt_meaning.specs.StackCommand.{Stack, assumes, assertions_from, assume_terms, judge_terms, judged, judged_is, changed, most_levels, most_terms}
use Rattle.smt_meaning.specs.Term.{Tree, tree_at}
use Rattle.smt_laws.specs.LanguageLaws.{AssumptionsAreCommands}
use Rattle.smt_sorts.specs.Names.{Names, with_levels}
use Rattle.term_store.specs.Terms.{Terms}
use Rattle.term_store.specs.Alike.{QuestionsJoinAlike}
use Rattle.scope_stack.specs.declared.answers.Asked.{Asked}
use Rattle.scope_stack.specs.declared.answers.Assertion.{Assertion}
use Rattle.scope_stack.specs.declared.answers.StackError.{StackError}
use Rattle.scope_stack.specs.declared.answers.StackError.TheVariants.{Refused, Memory}
use Rattle.scope_stack.specs.Pieces.{all_of}
use Rattle.scope_stack.specs.Inside.{asserted_by, frames_by, stack_by, IsReached, IsStack, IsWithin}
use Rattle.scope_stack.specs.Carries.{typed_by, assumption, under, IsAssumed, Assumes}
use Rattle.scope_stack.specs.Judged.{scope_by, IsCause, IsRoomError, AreAssumed, assertions_by, sort_asked}
use Rattle.scope_stack.proofs.FrameLemmas.{frames-above, frames-longer, length-frames, within-above, within-longer}
use Rattle.scope_stack.proofs.StackLemmas.{depth-stack, scope-stack}
use Rattle.scope_stack.proofs.Steps.{bind_cause, bind_done, next_done, next_refused, require_done, require_refused, return_done}
use Rattle.scope_stack.proofs.TermSteps.{room_done}
use Rattle.scope_stack.proofs.RoomSteps.{done_over, refused_over, room_refused}

below : (a b : ℕ) → a < b → nat_lt a b ≡ true
below a b lt = grind (arith, nat_tests)

not_below : (a : ℕ) → nat_lt a a ≡ false
not_below a = grind (arith, nat_tests)

-- ---- as they are judged

assume_done : (level : ℕ) (xs : List (List Token)) (s u : Scope) (terms : List Typed) → judge_terms xs s ≡ done terms u → all_sorts Truths (sorts_of terms) ≡ true → length u.trees ≤ most_terms
    → level < most_levels → assume_terms level xs s ≡ done (assumes (assertions_from xs terms)) u
assume_done level xs s u terms h b le lt =
    bind_done _ _ s u terms h
    ∙ next_done _ _ u u tt (require_done (all_sorts Truths (sorts_of terms)) _ u b)
    ∙ next_done _ _ u u tt (room_done u le)
    ∙ next_done _ _ u u tt (require_done (nat_lt level most_levels) _ u (below level most_levels lt))
    ∙ return_done (assumes (assertions_from xs terms)) u

assume_not_bool : (level : ℕ) (xs : List (List Token)) (s u : Scope) (terms : List Typed) → judge_terms xs s ≡ done terms u → all_sorts Truths (sorts_of terms) ≡ false → assume_terms level xs s ≡ refused NotBool
assume_not_bool level xs s u terms h b = bind_done _ _ s u terms h ∙ next_refused _ _ u _ (require_refused (all_sorts Truths (sorts_of terms)) _ u b)

assume_full : (level : ℕ) (xs : List (List Token)) (s u : Scope) (terms : List Typed) → judge_terms xs s ≡ done terms u → all_sorts Truths (sorts_of terms) ≡ true → most_terms < length u.trees
    → assume_terms level xs s ≡ refused TooManyTerms
assume_full level xs s u terms h b lt =
    bind_done _ _ s u terms h ∙ next_done _ _ u u tt (require_done (all_sorts Truths (sorts_of terms)) _ u b) ∙ next_refused _ _ u _ (room_refused u lt)

assume_deep : (xs : List (List Token)) (s u : Scope) (terms : List Typed) → judge_terms xs s ≡ done terms u → all_sorts Truths (sorts_of terms) ≡ true → length u.trees ≤ most_terms
    → assume_terms most_levels xs s ≡ refused TooManyLevels
assume_deep xs s u terms h b le =
    bind_done _ _ s u terms h
    ∙ next_done _ _ u u tt (require_done (all_sorts Truths (sorts_of terms)) _ u b)
    ∙ next_done _ _ u u tt (room_done u le)
    ∙ next_refused _ _ u _ (require_refused (nat_lt most_levels most_levels) _ u (not_below most_levels))

pub assumed_cause : (level : ℕ) (xs : List (List Token)) (s : Scope) (e : StackError) → IsCause e (judge_terms xs s) → IsCause e (assume_terms level xs s)
assumed_cause level xs s e h = bind_cause _ _ s e h

-- ---- by places

sorts-typed : (ts : List Tree) (xs : List Asked) → sorts_of (typed_by ts xs) ≡ map sort_asked xs
sorts-typed ts [] = refl
sorts-typed ts (x ∷ xs) = ap (λ r. x.sort ∷ r) (sorts-typed ts xs)

assertions-typed : (ts : List Tree) (texts : List (List Token)) (xs : List Asked) → assertions_from texts (typed_by ts xs) ≡ map (asserted_by ts) (assertions_by texts xs)
assertions-typed ts [] xs = refl
assertions-typed ts (t ∷ texts) [] = refl
assertions-typed ts (t ∷ texts) (x ∷ xs) = ap (λ (r : List Asserted). record { text = t; term = tree_at ts x.term } ∷ r) (assertions-typed ts texts xs)

within_assertions : (ts : List Tree) (texts : List (List Token)) (xs : List Asked) → All (λ (a : Asked). a.term < length ts) xs → All (IsWithin ts) (assertions_by texts xs)
within_assertions ts [] xs h = All-nil (IsWithin ts)
within_assertions ts (t ∷ texts) [] h = All-nil (IsWithin ts)
within_assertions ts (t ∷ texts) (x ∷ xs) h =
    All-cons (IsWithin ts) (record { text = t; term = x.term }) (assertions_by texts xs) (All-head (λ (a : Asked). a.term < length ts) x xs h)
    (within_assertions ts texts xs (All-tail (λ (a : Asked). a.term < length ts) x xs h))

module _ (texts : List (List Token)) (t u : Names) (ts us : List Tree) (xs : List Asked) (h : judge_terms texts (scope_by t ts) ≡ done (typed_by us xs) (scope_by u us)) where
  truths : (b : Bool) → all_sorts Truths (map sort_asked xs) ≡ b → all_sorts Truths (sorts_of (typed_by us xs)) ≡ b
  truths b e = ap (all_sorts Truths) (sorts-typed us xs) ∙ e

  pub are_assumed : (level : ℕ) (made : List Assertion) → All (λ (a : Asked). a.term < length us) xs → all_sorts Truths (map sort_asked xs) ≡ true → length us ≤ most_terms → level < most_levels
      → made ≡ assertions_by texts xs → AreAssumed level texts (scope_by t ts) made u us
  are_assumed level made w b le lt e = record {
    is_judged =
        assume_done level texts (scope_by t ts) (scope_by u us) (typed_by us xs) h (truths true b) le lt
        ∙ ap (λ (ys : List Asserted). done (assumes ys) (scope_by u us)) (assertions-typed us texts xs ∙ ap (map (asserted_by us)) (sym e));
    within = subst (All (IsWithin us)) (sym e) (within_assertions us texts xs w);
    room = lt;
  }

  pub not_all_bool : (level : ℕ) → all_sorts Truths (map sort_asked xs) ≡ false → assume_terms level texts (scope_by t ts) ≡ refused NotBool
  not_all_bool level b = assume_not_bool level texts (scope_by t ts) (scope_by u us) (typed_by us xs) h (truths false b)

  pub too_deep : (level : ℕ) → all_sorts Truths (map sort_asked xs) ≡ true → length us ≤ most_terms → level ≡ most_levels → assume_terms level texts (scope_by t ts) ≡ refused TooManyLevels
  too_deep level b le e =
      subst (λ n. assume_terms n texts (scope_by t ts) ≡ refused TooManyLevels) (sym e) (assume_deep texts (scope_by t ts) (scope_by u us) (typed_by us xs) h (truths true b) le)

-- ---- judged apart

module _ (law : QuestionsJoinAlike) (level : ℕ) (texts : List (List Token)) (t u : Names) (ts us : List Tree) (xs : List Asked) (h : judge_terms texts (scope_by t []) ≡ done (typed_by us xs) (scope_by u us)) where
  over : judge_terms texts (scope_by t ts) ≡ done (typed_by us xs) (scope_by u (with_all ts us))
  over = done_over (judge_terms texts) (law texts) t u ts us (typed_by us xs) h

  pub assumptions_full : (e : StackError) → all_sorts Truths (map sort_asked xs) ≡ true → IsRoomError (length (with_all ts us)) e → IsCause e (assume_terms level texts (scope_by t ts))
  assumptions_full (Refused r) b f =
      subst (λ x. assume_terms level texts (scope_by t ts) ≡ refused x) (sym f.0)
      (assume_full level texts (scope_by t ts) (scope_by u (with_all ts us)) (typed_by us xs) over (truths texts t u [] us xs h true b) f.1)
  assumptions_full Memory b f = tt

  pub assumptions_not_bool : all_sorts Truths (map sort_asked xs) ≡ false → assume_terms level texts (scope_by t ts) ≡ refused NotBool
  assumptions_not_bool b = assume_not_bool level texts (scope_by t ts) (scope_by u (with_all ts us)) (typed_by us xs) over (truths texts t u [] us xs h false b)

pub assumptions_refused : QuestionsJoinAlike → (level : ℕ) (texts : List (List Token)) (t : Names) (ts : List Tree) (e : StackError) → IsCause e (judge_terms texts (scope_by t []))
    → IsCause e (assume_terms level texts (scope_by t ts))
assumptions_refused law level texts t ts e h =
    assumed_cause level texts (scope_by t ts) e (refused_over (judge_terms texts) (law texts) t ts (judge_terms texts (scope_by t [])) e refl h)

-- ---- their level

assumed_reached : AssumptionsAreCommands → (s : Stack) (texts : List (List Token)) (xs : List Asserted) (c : Scope) → IsReached s → judged (assumption texts) s ≡ done (assumes xs) c
    → IsReached (under xs (changed s (assumes xs) c))
unfolding IsReached
assumed_reached law s texts xs c r j = (
  r.0 ++ Push (pos 1) ∷ map Assert texts,
  law r.0 texts xs c (subst (λ (u : Stack). judged (assumption texts) u ≡ done (assumes xs) c) (sym r.1) j) ∙ ap (λ (u : Stack). under xs (changed u (assumes xs) c)) r.1,
)

-- where declarations are global or not
module _ (global : Bool) where
  assumed-longer : (t names : Names) (ts us : List Tree) (ys : List Assertion) (xss : List (List Assertion)) → length xss ≡ length t.levels → All (IsWithin ts) (all_of xss)
      → stack_by global (with_levels 1 t) (ts ++ us) (xss ++ ys ∷ [])
      ≡ under (map (asserted_by (ts ++ us)) ys) (changed (stack_by global t ts xss) (assumes (map (asserted_by (ts ++ us)) ys)) (scope_by names (ts ++ us)))
  assumed-longer t names ts us ys xss e h =
      ap (λ (fs : List Frame). record { frames = fs; given = t.given; trees = ts ++ us; global = global })
      (frames-above (ts ++ us) ys t.levels xss e ∙ ap (λ (fs : List Frame). fs ++ frame_of (map (asserted_by (ts ++ us)) ys) ∷ []) (frames-longer ts us t.levels xss h))

  assumed-stack : (t names : Names) (ts us : List Tree) (ys : List Assertion) (xss : List (List Assertion)) → IsLonger ts us → length xss ≡ length t.levels → All (IsWithin ts) (all_of xss)
      → stack_by global (with_levels 1 t) us (xss ++ ys ∷ []) ≡ under (map (asserted_by us) ys) (changed (stack_by global t ts xss) (assumes (map (asserted_by us) ys)) (scope_by names us))
  assumed-stack t names ts us ys xss l e h =
      subst (λ ws. stack_by global (with_levels 1 t) ws (xss ++ ys ∷ []) ≡ under (map (asserted_by ws) ys) (changed (stack_by global t ts xss) (assumes (map (asserted_by ws) ys)) (scope_by names ws))) (sym l.1)
      (assumed-longer t names ts l.0 ys xss e h)

  judged-at : (level : ℕ) (texts : List (List Token)) (t : Names) (ts : List Tree) (xss : List (List Assertion)) → level ≡ depth (frames_by ts t.levels xss)
      → judged (assumption texts) (stack_by global t ts xss) ≡ assume_terms level texts (scope_by t ts)
  judged-at level texts t ts xss d = judged_is (assumption texts) (stack_by global t ts xss) ∙ ap₂ (λ n s. assume_terms n texts s) (sym d) (scope-stack global t ts xss)

  module _ (level : ℕ) (texts : List (List Token)) (t names : Names) (old now : Terms) (ys : List Assertion) (xss : List (List Assertion)) (h : IsStack global t old xss)
      (j : AreAssumed level texts (scope_by t old.trees) ys names now.trees) (d : level ≡ depth (frames_by old.trees t.levels xss)) (l : IsLonger old.trees now.trees) where
    is_judged : judged (assumption texts) (stack_by global t old.trees xss) ≡ done (assumes (map (asserted_by now.trees) ys)) (scope_by names now.trees)
    is_judged = judged-at level texts t old.trees xss d ∙ j.is_judged

    pub assumed_is : IsAssumed texts (map (asserted_by now.trees) ys) (stack_by global t old.trees xss) (stack_by global (with_levels 1 t) now.trees (xss ++ ys ∷ []))
    assumed_is =
        let n : length (frames_by old.trees t.levels xss) ≡ length t.levels = length-frames old.trees t.levels xss in
        record {
          scope = scope_by names now.trees;
          is_judged = is_judged;
          new_is = assumed-stack t names old.trees now.trees ys xss l h.as_many h.within;
          some = omega (arith, n, h.some);
          reached = h.reached;
          longer = l;
        }

    pub assumed_keeps : AssumptionsAreCommands → now.limit ≡ old.limit → IsStack global (with_levels 1 t) now (xss ++ ys ∷ [])
    assumed_keeps law m =
        let levels : length (t.levels ++ replicate 1 []) ≡ length t.levels + 1 = length-append t.levels (replicate 1 []) in
        let lists : length (xss ++ ys ∷ []) ≡ length xss + 1 = length-append xss (ys ∷ []) in
        let at : depth (frames_by old.trees t.levels xss) ≡ length t.levels - 1 = depth-stack t old.trees xss in
        record {
          limit = m ∙ h.limit;
          as_many = omega (arith, levels, lists, h.as_many);
          some = omega (arith, levels);
          few = omega (arith, levels, at, d, j.room, h.some);
          within = within-above now.trees ys xss (still xss h.within) j.within;
          reached = subst IsReached (sym (assumed-stack t names old.trees now.trees ys xss l h.as_many h.within))
              (assumed_reached law (stack_by global t old.trees xss) texts (map (asserted_by now.trees) ys) (scope_by names now.trees) h.reached is_judged);
        }
      where
        still : (zss : List (List Assertion)) → All (IsWithin old.trees) (all_of zss) → All (IsWithin now.trees) (all_of zss)
        still zss w = subst (λ ws. All (IsWithin ws) (all_of zss)) (sym l.1) (within-longer old.trees l.0 (all_of zss) w)

  assumes_cause : (texts : List (List Token)) (s : Stack) (e : StackError) → IsCause e (judged (assumption texts) s) → Assumes texts s (Err e) s
  assumes_cause texts s (Refused r) h = record { is_judged = h; same = refl }
  assumes_cause texts s Memory h = refl

  pub failed_assumes : (level : ℕ) (texts : List (List Token)) (t u : Names) (old now : Terms) (xss : List (List Assertion)) (e : StackError) → IsCause e (assume_terms level texts (scope_by t old.trees))
      → level ≡ depth (frames_by old.trees t.levels xss) → u ≡ t → now ≡ old → Assumes texts (stack_by global t old.trees xss) (Err e) (stack_by global u now.trees xss)
  failed_assumes level texts t u old now xss e h d p q =
      subst (λ v. Assumes texts (stack_by global t old.trees xss) (Err e) (stack_by global v now.trees xss)) (sym p)
      (subst (λ (s : Terms). Assumes texts (stack_by global t old.trees xss) (Err e) (stack_by global t s.trees xss)) (sym q)
      (assumes_cause texts (stack_by global t old.trees xss) e (subst (IsCause e) (sym (judged-at level texts t old.trees xss d)) h)))
