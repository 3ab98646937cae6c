-- The assumption (= t t) of a goal, and what the question for its least value comes to.
use Rattle.std.proofs.Common.{◌≡◌, ◌∙◌, refl, ap, sym, subst, ℕ, ◌<◌, ◌≤◌, ℤ, List, [], ◌∷◌, ◌++◌, map, drop, length, Option, Some, None, append-nil, All}
use Rattle.std.specs.Prelude.{codes, flat_map}
use Rattle.std.proofs.lemmas.List.{drop-map}
use Rattle.std.proofs.lemmas.List.Elements.{All-drop, All-nil, All-cons, All-head, All-tail}
use Rattle.std.proofs.lemmas.Grind.{flat_map-append}
use Rattle.smt_meaning.specs.declared.tokens.Token.{Token}
use Rattle.smt_meaning.specs.declared.values.Table.{Table}
use Rattle.smt_meaning.specs.declared.reports.Report.{Report}
use Rattle.smt_meaning.specs.declared.replies.Best.{Best}
use Rattle.smt_meaning.specs.declared.replies.Kept.TheVariants.{Nothing, Model, Best as KeptBest}
use Rattle.smt_meaning.specs.declared.answers.Reply.TheVariants as Given
use Rattle.smt_meaning.specs.declared.answers.Mode.TheVariants as In
use Rattle.smt_meaning.specs.declared.options.UnknownReason.{UnknownReason}
use Rattle.smt_meaning.specs.declared.terms.Operator.TheVariants.{Equal}
use Rattle.smt_meaning.specs.declared.refusals.Refusal.{Refusal}
use Rattle.smt_meaning.specs.Goal.{is_itself, is_at_most, is_below, least_number, pair_text, pair_tree}
use Rattle.smt_meaning.specs.Interpretation.{Interprets}
use Rattle.smt_meaning.specs.Least.{IsBestBy, IsUnfound, asking, terms_asked}
use Rattle.smt_meaning.specs.Report.{AreReports, reason_of}
use Rattle.smt_meaning.specs.Sorts.{Scope, Outcome, done, refused, with_all}
use Rattle.smt_meaning.specs.Stack.{Assertion as Asserted, Frame, HasNoModel, Satisfies, no_model, no_model_is, signature_of, assertions_of, terms_of, depth}
use Rattle.smt_meaning.specs.StackCommand.{Stack, Change, assumes, judged, most_levels, scope_of}
use Rattle.smt_meaning.specs.State.{frame_of, texts_of}
use Rattle.smt_meaning.specs.Term.{Tree, tree_at}
use Rattle.scope_stack.specs.declared.answers.Assertion.{Assertion}
use Rattle.scope_stack.specs.Carries.{IsAssumed, IsRefused, assumption, under}
use Rattle.scope_stack.specs.Inside.{asserted_by, IsWithin}
use Rattle.scope_stack.specs.Shown.{AreAsserted, IsLawful}
use Rattle.goal_search.specs.declared.answer.Answer.{Answer}
use Rattle.goal_search.specs.declared.minimum.LeastValue.{LeastValue}
use Rattle.goal_search.specs.declared.minimum.LeastValue.TheVariants.{Minimum, Unsat, Unknown}
use Rattle.goal_search.specs.declared.text.Ask.TheVariants.{Itself}
use Rattle.goal_search.specs.Asks.{AsksAreAssumed}
use Rattle.goal_search.specs.Checked.{WhereUnsat}
use Rattle.goal_search.specs.Goals.{IsGoal, IsLeast}
use Rattle.goal_search.proofs.Answered.{where_unsat}
use Rattle.goal_search.proofs.Unders.{above, again_above, many_asserted, same_assertions, texts_count}
use Rattle.session.specs.declared.above.Above.TheVariants.{Assumed as AssumedAbove}
use Rattle.session.specs.Minimized.{AreAfter, IsAnswerByLeast, IsItselfAbove, IsMinimized, itself_assumed}
use Rattle.session.specs.Refuted.{IsRefuted}
use Rattle.session.proofs.Raising.{all_stay, AreAmong, of_right}

-- ---- the answers

pub minimum_answers : (v : ℤ) (i j : List Table) → j ≡ i → IsAnswerByLeast (Minimum v i) (record { reply = Given.Minimum v; kept = Model j; mode = In.Sat i })
minimum_answers v i j e s text t h = (i, ap Model e, h, refl)

pub no_model_answers : IsAnswerByLeast Unsat (record { reply = Given.Unsat; kept = Nothing; mode = In.Unsat })
no_model_answers s text t h = (refl, h, refl)

pub best_answers : (b : Best) (why : UnknownReason) → why ≡ reason_of b.reports → IsAnswerByLeast (Unknown b) (record { reply = Given.Unknown; kept = KeptBest b; mode = In.Unknown why })
best_answers b why e s text t h = (b, refl, h, ap (λ w. record s { mode = In.Unknown w }) e)

-- ---- the assumption

abbrev outcome_change : Change → Outcome Change → Change
outcome_change x (done y c) = y
outcome_change x (refused r) = x

abbrev outcome_scope : Scope → Outcome Change → Scope
outcome_scope s (done y c) = c
outcome_scope s (refused r) = s

abbrev assumptions_in : Change → List Asserted
assumptions_in (assumes xs) = xs
assumptions_in x = []

module _ (law : AsksAreAssumed) (text : List Token) (place : ℕ) (old mid : Stack) (goal : IsGoal old text place) (assumed : List Asserted) (k : IsAssumed (pair_text (codes "=") text text ∷ []) assumed old mid) where
  abbrev t : Tree
  t = tree_at old.trees place

  abbrev noted : List Tree
  noted = with_all old.trees (pair_tree Equal t t ∷ [])

  judged_so : judged (itself_assumed text) old ≡ done (assumes (is_itself text t ∷ [])) (record (scope_of old) { trees = noted })
  judged_so = law old text place Itself goal tt

  same_outcome : done (assumes assumed) k.scope ≡ done (assumes (is_itself text t ∷ [])) (record (scope_of old) { trees = noted })
  same_outcome = sym k.is_judged ∙ judged_so

  assumed_is : assumed ≡ is_itself text t ∷ []
  assumed_is = ap (λ o. assumptions_in (outcome_change (assumes assumed) o)) same_outcome

  trees_are : mid.trees ≡ noted
  trees_are = ap (λ (s : Stack). s.trees) k.new_is ∙ ap (λ o. (outcome_scope k.scope o).trees) same_outcome

  frames_are : mid.frames ≡ old.frames ++ frame_of assumed ∷ []
  frames_are = ap (λ (s : Stack). s.frames) k.new_is

  -- the level is gone, and its terms stay
  pub stands_above : (new : Stack) (xs zs : List Assertion) → AreAsserted old xs → AreAfter (length xs) mid zs → IsLawful mid → depth mid.frames ≤ most_levels
      → new ≡ record old { trees = mid.trees } → IsItselfAbove text t old zs new
  stands_above new xs zs below (ys, all, e) lawful deep is =
      let new_trees : new.trees ≡ mid.trees = ap (λ (s : Stack). s.trees) is in
      let texts : map (λ (x : Assertion). x.text) zs ≡ map (λ (x : Asserted). x.text) assumed =
      ap (map (λ (x : Assertion). x.text)) e ∙ sym (drop-map (λ (x : Assertion). x.text) (length xs) ys) ∙ ap (drop (length xs)) all.texts
      ∙ ap (λ fs. drop (length xs) (flat_map texts_of fs)) frames_are ∙ above texts_of old.frames (frame_of assumed) (length xs) (texts_count old xs below) in
      let terms : map (λ (x : Assertion). tree_at mid.trees x.term) zs ≡ map (λ (x : Asserted). x.term) assumed =
      ap (map (λ (x : Assertion). tree_at mid.trees x.term)) e ∙ sym (drop-map (λ (x : Assertion). tree_at mid.trees x.term) (length xs) ys) ∙ ap (drop (length xs)) all.terms
      ∙ ap (λ fs. drop (length xs) (assertions_of fs)) frames_are ∙ above terms_of old.frames (frame_of assumed) (length xs) (many_asserted old xs below) in
      let same : map (asserted_by new.trees) zs ≡ assumed = subst (λ ts. map (asserted_by ts) zs ≡ assumed) (sym new_trees) (same_assertions mid.trees zs assumed texts terms) in
      let within : All (IsWithin new.trees) zs = subst (λ ts. All (IsWithin ts) zs) (sym new_trees) (subst (All (IsWithin mid.trees)) (sym e) (All-drop (IsWithin mid.trees) (length xs) ys all.within)) in
      let mid_is : mid ≡ under assumed new =
      k.new_is ∙ ap (under assumed) (ap (λ ts. record old { trees = ts }) (sym (ap (λ (s : Stack). s.trees) k.new_is)) ∙ sym is) in
      record {
        new_is = is ∙ ap (λ ts. record old { trees = ts }) trees_are;
        is_judged = judged_so ∙ ap (λ (c : Scope). done (assumes (is_itself text t ∷ [])) c) (sym (ap scope_of is ∙ ap (λ ts. record (scope_of old) { trees = ts }) trees_are));
        assumptions = same ∙ assumed_is;
        again = again_above assumed old new mid zs is mid_is same within deep (subst (λ fs. 0 < length fs) (sym (ap (λ (s : Stack). s.frames) is)) k.some) lawful;
      }

pub never_refused : AsksAreAssumed → (text : List Token) (place : ℕ) (old new : Stack) (texts : List (List Token)) (why : Refusal) → IsGoal old text place → texts ≡ pair_text (codes "=") text text ∷ []
    → IsRefused (assumption texts) why old new → ⊥
never_refused law text place old new texts why goal e k =
    let is : judged (itself_assumed text) old ≡ refused why = ap (λ us. judged (assumption us) old) (sym e) ∙ k.is_judged in
    let so = sym (law old text place Itself goal tt) ∙ is in
    absurd (cc)

-- ---- what is found of the stack, where (= t t) joined its terms

-- (= t t) is among the terms then, with its parts
stay_noted : (text : List Token) (t : Tree) (old new : Stack) (xs : List Assertion) → IsItselfAbove text t old xs new → with_all new.trees (pair_tree Equal t t ∷ []) ≡ new.trees
stay_noted text t old new xs k =
    let fs : List Frame = frame_of (map (asserted_by new.trees) xs) ∷ [] in
    let among : All (AreAmong new.trees) (assertions_of fs) =
    of_right (AreAmong new.trees) (assertions_of new.frames) (assertions_of fs) (subst (All (AreAmong new.trees)) (flat_map-append terms_of new.frames fs) k.again.lawful.parts) in
    subst (λ ys. with_all new.trees (assertions_of (frame_of ys ∷ [])) ≡ new.trees) k.assumptions (all_stay new.trees (assertions_of fs) among)

noted_once : (text : List Token) (t : Tree) (old new : Stack) (xs : List Assertion) (us : List Tree) → IsItselfAbove text t old xs new
    → with_all new.trees (pair_tree Equal t t ∷ us) ≡ with_all old.trees (pair_tree Equal t t ∷ us)
noted_once text t old new xs us k =
    ap (λ ts. with_all ts us) (stay_noted text t old new xs k) ∙ ap (λ ts. with_all ts us) (ap (λ (s : Stack). s.trees) k.new_is)

module _ (text : List Token) (t : Tree) (old new : Stack) (xs : List Assertion) (k : IsItselfAbove text t old xs new) where
  unfound : (frames : List Frame) (workers : ℕ) (limit : ℤ) (rest : List Asserted) (rs : List Report) → IsUnfound workers old.trees frames limit (is_itself text t ∷ rest) rs → IsUnfound workers new.trees frames limit (is_itself text t ∷ rest) rs
  unfound frames workers limit rest rs h = subst (λ ts. AreReports workers ts (asking frames (is_itself text t ∷ rest)) limit rs) (sym (noted_once text t old new xs (terms_asked rest) k)) h

  best : (frames : List Frame) (workers : ℕ) (limit : ℤ) (m : Option (List Table)) (b : Option ℤ) (rs : List Report) → IsBestBy workers old.trees frames limit text t m b rs → IsBestBy workers new.trees frames limit text t m b rs
  best frames workers limit None None rs h = unfound frames workers limit [] rs h
  best frames workers limit None (Some b) rs h = absurd h
  best frames workers limit (Some i) (Some b) rs h = (h.0, h.1, unfound frames workers limit (is_at_most text t b ∷ []) rs h.2)
  best frames workers limit (Some i) None rs h = (h.0, h.1, unfound frames workers limit (is_below text t least_number ∷ []) rs h.2)

  pub least_noted : (frames : List Frame) (workers : ℕ) (limit : ℤ) (v : LeastValue) → IsLeast workers old.trees frames limit text t v → IsLeast workers new.trees frames limit text t v
  least_noted frames workers limit (Minimum n i) h = h
  least_noted frames workers limit Unsat h = h
  least_noted frames workers limit (Unknown b) h = best frames workers limit b.model b.bound b.reports h

-- ---- no model

of_left : {A : Type 0} (P : A → Type 0) (xs ys : List A) → All P (xs ++ ys) → All P xs
of_left P [] ys h = All-nil P
of_left P (x ∷ xs) ys h = All-cons P x xs (All-head P x (xs ++ ys) h) (of_left P xs ys (All-tail P x (xs ++ ys) h))

-- a level more gives none
none_above : (frames : List Frame) (xs : List Asserted) → HasNoModel frames → HasNoModel (frames ++ frame_of xs ∷ [])
none_above frames xs h =
    no_model (frames ++ frame_of xs ∷ []) (λ I i holds.
    no_model_is frames h I
    (subst (λ ds. Interprets ds I) (flat_map-append (λ (f : Frame). f.declared) frames (frame_of xs ∷ []) ∙ append-nil (signature_of frames)) i)
    (of_left (Satisfies I) (assertions_of frames) (assertions_of (frame_of xs ∷ [])) (subst (All (Satisfies I)) (flat_map-append terms_of frames (frame_of xs ∷ [])) holds)))

-- ---- the whole

pub minimized_so : (workers : ℕ) (limit : ℤ) (text : List Token) (t : Tree) (old new : Stack) (v : LeastValue) (a : Answer) (xs : List Assertion) → IsLeast workers old.trees old.frames limit text t v → IsAnswerByLeast v a
    → WhereUnsat a.mode (v ≡ Unsat) → IsItselfAbove text t old xs new → IsMinimized workers limit text t old (record { answer = a; assumptions = xs }) new
minimized_so workers limit text t old new v a xs least answers unsat k =
    let frames : new.frames ≡ old.frames = ap (λ (s : Stack). s.frames) k.new_is in
    let found : IsLeast workers new.trees new.frames limit text t v = subst (λ fs. IsLeast workers new.trees fs limit text t v) (sym frames) (least_noted text t old new xs k old.frames workers limit v least) in
    record {
      above = k;
      answer = λ s stack crew lim.
          answers s text t (subst (λ w. IsLeast w s.stack.trees s.stack.frames s.options.reproducible_resource_limit text t v) (sym crew)
          (subst (λ n. IsLeast workers s.stack.trees s.stack.frames n text t v) (sym lim) (subst (λ (z : Stack). IsLeast workers z.trees z.frames limit text t v) (sym stack) found)));
      refuted = where_unsat a.mode (v ≡ Unsat) (IsRefuted new (AssumedAbove xs))
          (λ u. record { none = none_above new.frames (map (asserted_by new.trees) xs) (subst (IsLeast workers new.trees new.frames limit text t) u found); again = k.again }) unsat;
    }
