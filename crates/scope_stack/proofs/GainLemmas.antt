-- A stack after declarations and assertions.
use Rattle.std.proofs.Common.{◌≡◌, ◌∙◌, sym, refl, ap, ap₂, subst, ℕ, ◌+◌, ◌<◌, ◌≤◌, Bool, true, false, List, [], ◌∷◌, ◌++◌, map, drop, length, arith, All, Some, Result, Ok, Err}
use Rattle.std.proofs.lemmas.List.{drop_at}
use Rattle.std.proofs.lemmas.List.Elements.{All-nil, All-cons}
use Rattle.elaborate.specs.Values.{IsLonger}
use Rattle.smt_meaning.specs.declared.commands.Command.{Command}
use Rattle.smt_meaning.specs.declared.commands.Command.TheVariants.{Assert, GetValue}
use Rattle.smt_meaning.specs.declared.tokens.Token.{Token}
use Rattle.smt_meaning.specs.Declaration.{Declaration}
use Rattle.smt_meaning.specs.Term.{Tree}
use Rattle.smt_meaning.specs.Sorts.{done, Judging, Typed}
use Rattle.smt_meaning.specs.Stack.{Assertion as Asserted, Frame, on_top, signature_of, with_declared}
use Rattle.smt_meaning.specs.StackCommand.{Stack, Change, declares, asserts, asks, is_unsupported, stack_command, judged, judged_is, changed, new_declarations, most_levels, assert_term, ask_terms}
use Rattle.smt_sorts.specs.Names.{Names, signature, on_newest, gaining, with_declaration, HasGained}
use Rattle.term_store.specs.Terms.{Terms}
use Rattle.scope_stack.specs.declared.answers.Assertion.{Assertion}
use Rattle.scope_stack.specs.declared.answers.Asked.{Asked}
use Rattle.scope_stack.specs.declared.answers.Carried.{Carried}
use Rattle.scope_stack.specs.declared.answers.Carried.TheVariants.{Done, Unsupported}
use Rattle.scope_stack.specs.declared.answers.StackError.{StackError}
use Rattle.scope_stack.specs.declared.answers.StackError.TheVariants.{Refused, Memory}
use Rattle.scope_stack.specs.Pieces.{all_of, on_last}
use Rattle.scope_stack.specs.Inside.{asserted_by, frames_by, stack_by, IsStack, IsReached, IsWithin}
use Rattle.scope_stack.specs.Carries.{Carries, IsDone, Answers, IsAsked, question, typed_by}
use Rattle.scope_stack.specs.Judged.{scope_by, IsCause, Declares, AreJudged}
use Rattle.scope_stack.proofs.FrameLemmas.{signature-frames, newest_signature, frames-newest, frames-gaining, frames-longer, within-longer, within-last}
use Rattle.scope_stack.proofs.StackLemmas.{scope-stack}
use Rattle.scope_stack.proofs.Reach.{done_reached}

length-newest : (es : List Declaration) (dss : List (List Declaration)) → length (on_newest es dss) ≡ length dss
length-newest es [] = refl
length-newest es (ds ∷ []) = refl
length-newest es (ds ∷ fs ∷ rest) = let e : length (on_newest es (fs ∷ rest)) ≡ length (fs ∷ rest) = length-newest es (fs ∷ rest) in omega (arith, e)

length-last : (ys : List Assertion) (xss : List (List Assertion)) → length (on_last ys xss) ≡ length xss
length-last ys [] = refl
length-last ys (xs ∷ []) = refl
length-last ys (xs ∷ zs ∷ rest) = let e : length (on_last ys (zs ∷ rest)) ≡ length (zs ∷ rest) = length-last ys (zs ∷ rest) in omega (arith, e)

-- how many levels there are stays
levels_stay : (t u : Names) → HasGained t u → length u.levels ≡ length t.levels
levels_stay t u g = ap length g.levels ∙ length-newest g.gained t.levels

pub few_still : (t u : Names) → HasGained t u → length t.levels ≤ most_levels + 1 → length u.levels ≤ 65536
few_still t u g few = let e : length u.levels ≡ length t.levels = levels_stay t u g in omega (arith, e, few)

new-gained : (b : Bool) (t u : Names) (ts us : List Tree) (xss : List (List Assertion)) (g : HasGained t u) → new_declarations (stack_by b t ts xss) (scope_by u us) ≡ g.gained
new-gained b t u ts us xss g =
    ap (λ ds. drop (length ds) (signature u)) (signature-frames ts t.levels xss)
    ∙ ap (λ ds. drop (length (signature t)) ds) g.all
    ∙ drop_at (signature t) g.gained (length (signature t)) refl

new-declared : (t : Names) (d : Declaration) (ts : List Tree) (xss : List (List Assertion)) → 0 < length t.levels
    → drop (length (signature_of (frames_by ts t.levels xss))) (signature (with_declaration false d t)) ≡ d ∷ []
new-declared t d ts xss some =
    ap (λ ds. drop (length ds) (signature (with_declaration false d t))) (signature-frames ts t.levels xss)
    ∙ ap (λ ds. drop (length (signature t)) ds) (newest_signature (d ∷ []) t.levels some)
    ∙ drop_at (signature t) (d ∷ []) (length (signature t)) refl

length-gaining : (global : Bool) (es : List Declaration) (dss : List (List Declaration)) → length (gaining global es dss) ≡ length dss
length-gaining true es [] = refl
length-gaining true es (ds ∷ dss) = refl
length-gaining false es dss = length-newest es dss

abbrev map_asserted : List Tree → List Assertion → List Asserted
map_asserted ts ys = map (asserted_by ts) ys

pub cause_carries : (c : ℕ → Judging Change) (s : Stack) (e : StackError) → IsCause e (judged c s) → Carries c s (Err e) s
cause_carries c s (Refused r) h = record { is_judged = h; same = refl }
cause_carries c s Memory h = refl

still_within : (ts us : List Tree) (xs : List Assertion) → IsLonger ts us → All (IsWithin ts) xs → All (IsWithin us) xs
still_within ts us xs l h = subst (λ ws. All (IsWithin ws) xs) (sym l.1) (within-longer ts l.0 xs h)

asked_cause : (texts : List (List Token)) (s : Stack) (e : StackError) → IsCause e (judged (question texts) s) → Answers texts s (Err e) s
asked_cause texts s (Refused r) h = record { is_judged = h; same = refl }
asked_cause texts s Memory h = refl

-- where declarations are global or not
module _ (global : Bool) where
  -- the frames with what was gained, and these assertions more
  gained-frames : (t u : Names) (ts us : List Tree) (ys : List Assertion) (xss : List (List Assertion)) (g : HasGained t u) → length xss ≡ length t.levels → All (IsWithin ts) (all_of xss)
      → frames_by (ts ++ us) u.levels (on_last ys xss) ≡ on_top (new_declarations (stack_by global t ts xss) (scope_by u (ts ++ us))) (map_asserted (ts ++ us) ys) (frames_by ts t.levels xss)
  gained-frames t u ts us ys xss g e h =
      ap (λ dss. frames_by (ts ++ us) dss (on_last ys xss)) g.levels
      ∙ frames-newest (ts ++ us) g.gained ys t.levels xss e
      ∙ ap₂ (λ ds fs. on_top ds (map_asserted (ts ++ us) ys) fs) (sym (new-gained global t u ts (ts ++ us) xss g)) (frames-longer ts us t.levels xss h)

  pub asserted-stack : (t u : Names) (ts us : List Tree) (a : Assertion) (xss : List (List Assertion)) → HasGained t u → length xss ≡ length t.levels → All (IsWithin ts) (all_of xss)
      → stack_by global u (ts ++ us) (on_last (a ∷ []) xss) ≡ changed (stack_by global t ts xss) (asserts (asserted_by (ts ++ us) a)) (scope_by u (ts ++ us))
  asserted-stack t u ts us a xss g e h = ap (λ (fs : List Frame). record { frames = fs; given = u.given; trees = ts ++ us; global = global }) (gained-frames t u ts us (a ∷ []) xss g e h)

  pub declared-stack : (t : Names) (d : Declaration) (ts : List Tree) (xss : List (List Assertion)) → 0 < length t.levels → length xss ≡ length t.levels
      → stack_by global (with_declaration global d t) ts xss ≡ changed (stack_by global t ts xss) declares (scope_by (with_declaration false d t) ts)
  declared-stack t d ts xss some e =
      ap (λ (fs : List Frame). record { frames = fs; given = t.given + 1; trees = ts; global = global })
      (frames-gaining global ts (d ∷ []) t.levels xss e ∙ ap (λ ds. with_declared global ds (frames_by ts t.levels xss)) (sym (new-declared t d ts xss some)))

  -- ---- what comes of a declaration

  judged-to : {x : Change} (c : Judging Change) (t u : Names) (ts us : List Tree) (xss : List (List Assertion)) → c (scope_by t ts) ≡ done x (scope_by u us) → judged (λ level. c) (stack_by global t ts xss) ≡ done x (scope_by u us)
  judged-to c t u ts us xss e = judged_is (λ level. c) (stack_by global t ts xss) ∙ ap c (scope-stack global t ts xss) ∙ e

  judged-by : {x : Change} (c : Judging Change) (t u : Names) (ts : List Tree) (xss : List (List Assertion)) → c (scope_by t ts) ≡ done x (scope_by u ts) → judged (λ level. c) (stack_by global t ts xss) ≡ done x (scope_by u ts)
  judged-by c t u ts xss e = judged-to c t u ts ts xss e

  pub cause_at : (c : Judging Change) (t : Names) (ts : List Tree) (xss : List (List Assertion)) (e : StackError) → IsCause e (c (scope_by t ts)) → IsCause e (judged (λ level. c) (stack_by global t ts xss))
  cause_at c t ts xss (Refused r) h = judged_is (λ level. c) (stack_by global t ts xss) ∙ ap c (scope-stack global t ts xss) ∙ h
  cause_at c t ts xss Memory h = tt

  pub declared_carries : (c : Judging Change) (t u : Names) (store : Terms) (xss : List (List Assertion)) (r : Result Carried StackError) → IsStack global t store xss → Declares c global t r u
      → Carries (λ level. c) (stack_by global t store.trees xss) r (stack_by global u store.trees xss)
  declared_carries c t u store xss (Ok Done) h d =
      subst (λ v. Carries (λ level. c) (stack_by global t store.trees xss) (Ok Done) (stack_by global v store.trees xss)) (sym d.new_is)
      (record {
        change = declares;
        scope = scope_by (with_declaration false d.declaration t) store.trees;
        plain = refl;
        is_judged = judged-by c t (with_declaration false d.declaration t) store.trees xss (d.adds store.trees);
        new_is = declared-stack t d.declaration store.trees xss h.some h.as_many;
      })
  declared_carries c t u store xss (Ok Unsupported) h d =
      record {
        is_judged = judged-by c t t store.trees xss (d.gives store.trees) ∙ ap (λ s. done is_unsupported s) (sym (scope-stack global t store.trees xss));
        same = ap (λ v. stack_by global v store.trees xss) d.same;
      }
  declared_carries c t u store xss (Err e) h d =
      subst (λ v. Carries (λ level. c) (stack_by global t store.trees xss) (Err e) (stack_by global v store.trees xss)) (sym d.same)
      (cause_carries (λ level. c) (stack_by global t store.trees xss) e (cause_at c t store.trees xss e (d.causes store.trees)))

  pub declared_keeps : (command : Command) (c : Judging Change) → stack_command command ≡ Some (λ level. c) → (t u : Names) (store : Terms) (xss : List (List Assertion)) (r : Result Carried StackError)
      → IsStack global t store xss → Declares c global t r u → IsStack global u store xss
  declared_keeps command c e t u store xss (Ok Done) h d =
      let v : Names = with_declaration false d.declaration t in
      let n : length (gaining global (d.declaration ∷ []) t.levels) ≡ length t.levels = length-gaining global (d.declaration ∷ []) t.levels in
      subst (λ w. IsStack global w store xss) (sym d.new_is)
      (record {
        limit = h.limit;
        as_many = h.as_many ∙ sym n;
        some = omega (arith, n, h.some);
        few = omega (arith, n, h.few);
        within = h.within;
        reached = subst IsReached (sym (declared-stack t d.declaration store.trees xss h.some h.as_many))
            (done_reached (stack_by global t store.trees xss) command (λ level. c) declares (scope_by v store.trees) e (judged-by c t v store.trees xss (d.adds store.trees)) h.reached);
      })
  declared_keeps command c e t u store xss (Ok Unsupported) h d = subst (λ v. IsStack global v store xss) (sym d.same) h
  declared_keeps command c e t u store xss (Err f) h d = subst (λ v. IsStack global v store xss) (sym d.same) h

  -- ---- what comes of an assertion

  keeps_at : (t u : Names) (limit : ℕ) (ts us : List Tree) (a : Assertion) (xss : List (List Assertion)) → IsStack global t (record { limit = limit; trees = ts }) xss → HasGained t u → a.term < length (ts ++ us)
      → assert_term a.text (scope_by t ts) ≡ done (asserts (asserted_by (ts ++ us) a)) (scope_by u (ts ++ us)) → IsStack global u (record { limit = limit; trees = ts ++ us }) (on_last (a ∷ []) xss)
  keeps_at t u limit ts us a xss h g lt j =
      let n : length u.levels ≡ length t.levels = levels_stay t u g in
      record {
        limit = h.limit;
        as_many = length-last (a ∷ []) xss ∙ h.as_many ∙ sym n;
        some = omega (arith, n, h.some);
        few = omega (arith, n, h.few);
        within = within-last (ts ++ us) (a ∷ []) xss (within-longer ts us (all_of xss) h.within) (All-cons (IsWithin (ts ++ us)) a [] lt (All-nil (IsWithin (ts ++ us))));
        reached = subst IsReached (sym (asserted-stack t u ts us a xss g h.as_many h.within))
            (done_reached (stack_by global t ts xss) (Assert a.text) (λ level. assert_term a.text) (asserts (asserted_by (ts ++ us) a)) (scope_by u (ts ++ us)) refl (judged-to (assert_term a.text) t u ts (ts ++ us) xss j) h.reached);
      }

  pub asserted_keeps : (t u : Names) (old now : Terms) (a : Assertion) (xss : List (List Assertion)) → IsStack global t old xss → HasGained t u → IsLonger old.trees now.trees → now.limit ≡ old.limit
      → a.term < length now.trees → assert_term a.text (scope_by t old.trees) ≡ done (asserts (asserted_by now.trees a)) (scope_by u now.trees) → IsStack global u now (on_last (a ∷ []) xss)
  asserted_keeps t u old now a xss h g l e lt j =
      subst (λ n. IsStack global u (record { limit = n; trees = now.trees }) (on_last (a ∷ []) xss)) (sym e)
      (subst (λ us. IsStack global u (record { limit = old.limit; trees = us }) (on_last (a ∷ []) xss)) (sym l.1)
      (keeps_at t u old.limit old.trees l.0 a xss h g (subst (λ us. a.term < length us) l.1 lt)
      (subst (λ us. assert_term a.text (scope_by t old.trees) ≡ done (asserts (asserted_by us a)) (scope_by u us)) l.1 j)))

  pub asserted_is : (t u : Names) (old now : Terms) (a : Assertion) (xss : List (List Assertion)) → IsStack global t old xss → HasGained t u → IsLonger old.trees now.trees
      → assert_term a.text (scope_by t old.trees) ≡ done (asserts (asserted_by now.trees a)) (scope_by u now.trees)
      → IsDone (λ level. assert_term a.text) (stack_by global t old.trees xss) (stack_by global u now.trees (on_last (a ∷ []) xss))
  asserted_is t u old now a xss h g l j =
      record {
        change = asserts (asserted_by now.trees a);
        scope = scope_by u now.trees;
        plain = refl;
        is_judged = judged-to (assert_term a.text) t u old.trees now.trees xss j;
        new_is =
            subst (λ us. stack_by global u us (on_last (a ∷ []) xss) ≡ changed (stack_by global t old.trees xss) (asserts (asserted_by us a)) (scope_by u us)) (sym l.1)
            (asserted-stack t u old.trees l.0 a xss g h.as_many h.within);
      }

  pub failed_carries : (c : Judging Change) (t u : Names) (old now : Terms) (xss : List (List Assertion)) (e : StackError) → IsCause e (c (scope_by t old.trees)) → u ≡ t → now ≡ old
      → Carries (λ level. c) (stack_by global t old.trees xss) (Err e) (stack_by global u now.trees xss)
  failed_carries c t u old now xss e h p q =
      subst (λ v. Carries (λ level. c) (stack_by global t old.trees xss) (Err e) (stack_by global v now.trees xss)) (sym p)
      (subst (λ (s : Terms). Carries (λ level. c) (stack_by global t old.trees xss) (Err e) (stack_by global t s.trees xss)) (sym q)
      (cause_carries (λ level. c) (stack_by global t old.trees xss) e (cause_at c t old.trees xss e h)))

  -- ---- what comes of questions

  asked-stack : (t u : Names) (ts us : List Tree) (xs : List Typed) (xss : List (List Assertion)) → All (IsWithin ts) (all_of xss)
      → stack_by global t (ts ++ us) xss ≡ changed (stack_by global t ts xss) (asks xs) (scope_by u (ts ++ us))
  asked-stack t u ts us xs xss h = ap (λ (fs : List Frame). record { frames = fs; given = t.given; trees = ts ++ us; global = global }) (frames-longer ts us t.levels xss h)

  asked_stack : (t u : Names) (ts us : List Tree) (xs : List Typed) (xss : List (List Assertion)) → IsLonger ts us → All (IsWithin ts) (all_of xss)
      → stack_by global t us xss ≡ changed (stack_by global t ts xss) (asks xs) (scope_by u us)
  asked_stack t u ts us xs xss l h = subst (λ ws. stack_by global t ws xss ≡ changed (stack_by global t ts xss) (asks xs) (scope_by u ws)) (sym l.1) (asked-stack t u ts l.0 xs xss h)

  pub asked_keeps : (texts : List (List Token)) (t v : Names) (old now : Terms) (xss : List (List Assertion)) (terms : List Asked) → IsStack global t old xss → AreJudged texts (scope_by t old.trees) terms now.trees → v ≡ t
      → IsLonger old.trees now.trees → now.limit ≡ old.limit → IsStack global v now xss
  asked_keeps texts t v old now xss terms h j e l m =
      subst (λ w. IsStack global w now xss) (sym e)
      (record {
        limit = m ∙ h.limit;
        as_many = h.as_many;
        some = h.some;
        few = h.few;
        within = still_within old.trees now.trees (all_of xss) l h.within;
        reached = subst IsReached (sym (asked_stack t j.names old.trees now.trees (typed_by now.trees terms) xss l h.within))
            (done_reached (stack_by global t old.trees xss) (GetValue texts) (λ level. ask_terms texts) (asks (typed_by now.trees terms)) (scope_by j.names now.trees) refl
            (judged-to (ask_terms texts) t j.names old.trees now.trees xss j.is_judged) h.reached);
      })

  pub asked_answers : (texts : List (List Token)) (t v : Names) (old now : Terms) (xss : List (List Assertion)) (terms : List Asked) → IsStack global t old xss → AreJudged texts (scope_by t old.trees) terms now.trees → v ≡ t
      → IsLonger old.trees now.trees → IsAsked texts terms (stack_by global t old.trees xss) (stack_by global v now.trees xss)
  asked_answers texts t v old now xss terms h j e l =
      record {
        scope = scope_by j.names now.trees;
        is_judged = judged-to (ask_terms texts) t j.names old.trees now.trees xss j.is_judged;
        within = j.within;
        new_is = ap (λ w. stack_by global w now.trees xss) e ∙ asked_stack t j.names old.trees now.trees (typed_by now.trees terms) xss l h.within;
        reached = h.reached;
        longer = l;
      }

  pub failed_answers : (texts : List (List Token)) (t u : Names) (old now : Terms) (xss : List (List Assertion)) (e : StackError) → IsCause e (ask_terms texts (scope_by t old.trees)) → u ≡ t → now ≡ old
      → Answers texts (stack_by global t old.trees xss) (Err e) (stack_by global u now.trees xss)
  failed_answers texts t u old now xss e h p q =
      subst (λ v. Answers texts (stack_by global t old.trees xss) (Err e) (stack_by global v now.trees xss)) (sym p)
      (subst (λ (s : Terms). Answers texts (stack_by global t old.trees xss) (Err e) (stack_by global t s.trees xss)) (sym q)
      (asked_cause texts (stack_by global t old.trees xss) e (cause_at (ask_terms texts) t old.trees xss e h)))
