-- Checks under assumptions, step by step.
use Rattle.std.proofs.Common.{◌≡◌, ℕ, ◌+◌, ◌<◌, ◌≤◌, ℤ, List, [], ◌∷◌, ◌++◌, map, drop, length, ap, sym, subst, ◌∙◌, refl, arith, All, append-nil}
use Rattle.std.specs.Prelude.{flat_map}
use Rattle.std.proofs.lemmas.List.{drop-map, length-map, length-append}
use Rattle.std.proofs.lemmas.List.Elements.{All-drop}
use Rattle.std.proofs.lemmas.Grind.{flat_map-append}
use Rattle.std.proofs.Math.Seq.{drop-append_seam}
use Rattle.smt_meaning.specs.declared.tokens.Token.{Token}
use Rattle.smt_meaning.specs.Term.{Tree, tree_at}
use Rattle.smt_meaning.specs.Stack.{Assertion as Asserted, Frame, HasNoModel, depth, terms_of, assertions_of}
use Rattle.smt_meaning.specs.StackCommand.{Stack, most_levels}
use Rattle.smt_meaning.specs.State.{frame_of, texts_of}
use Rattle.scope_stack.specs.declared.answers.Assertion.{Assertion}
use Rattle.scope_stack.specs.Carries.{IsAssumed, under}
use Rattle.scope_stack.specs.Raised.{MayAssertAbove}
use Rattle.scope_stack.specs.Inside.{asserted_by, IsWithin}
use Rattle.scope_stack.specs.Shown.{AreAsserted, IsLawful}
use Rattle.goal_search.specs.declared.answer.Answer.{Answer}
use Rattle.goal_search.specs.declared.assuming.Assumed.{Assumed}
use Rattle.goal_search.specs.Assumed.{IsCheckedUnder, IsRefutedUnder}
use Rattle.goal_search.specs.Checked.{IsChecked}
use Rattle.goal_search.specs.Under.{IsAnsweredUnder}
use Rattle.goal_search.proofs.Answered.{where_unsat}

-- ---- what is found of the stack under assumptions

pub many_asserted : (s : Stack) (xs : List Assertion) → AreAsserted s xs → length xs ≡ length (assertions_of s.frames)
many_asserted s xs h = sym (length-map xs (λ (a : Assertion). tree_at s.trees a.term)) ∙ ap length h.terms

pub answered_under : (workers : ℕ) (limit : ℤ) (below : ℕ) (s : Stack) (a : Answer) (xs ys : List Assertion)
    → IsChecked workers limit s a → AreAsserted s xs → ys ≡ drop below xs → depth s.frames ≤ most_levels → IsLawful s
    → IsAnsweredUnder workers limit below s (record { answer = a; assumptions = ys })
answered_under workers limit below s a xs ys check asserted e deep lawful = record {
  check = check;
  texts = ap (map (λ (x : Assertion). x.text)) e ∙ sym (drop-map (λ (x : Assertion). x.text) below xs) ∙ ap (drop below) asserted.texts;
  terms = ap (map (λ (x : Assertion). tree_at s.trees x.term)) e ∙ sym (drop-map (λ (x : Assertion). tree_at s.trees x.term) below xs) ∙ ap (drop below) asserted.terms;
  within = subst (All (IsWithin s.trees)) (sym e) (All-drop (IsWithin s.trees) below xs asserted.within);
  depth_fits = deep;
  lawful = lawful;
}

-- ---- the assumptions

pub same_assertions : (ts : List Tree) (xs : List Assertion) (as' : List Asserted) → map (λ (x : Assertion). x.text) xs ≡ map (λ (a : Asserted). a.text) as'
    → map (λ (x : Assertion). tree_at ts x.term) xs ≡ map (λ (a : Asserted). a.term) as' → map (asserted_by ts) xs ≡ as'
same_assertions ts [] [] e f = refl
same_assertions ts [] (a ∷ as') e f = absurd (cc)
same_assertions ts (x ∷ xs) [] e f = absurd (cc)
same_assertions ts (x ∷ xs) (a ∷ as') e f =
    let texts : x.text ≡ a.text = heads (λ (y : Assertion). y.text) (λ (b : Asserted). b.text) e in
    let terms : tree_at ts x.term ≡ a.term = cc in
    ap (λ t. record { text = t; term = tree_at ts x.term } ∷ map (asserted_by ts) xs) texts
    ∙ ap (λ t. record { text = a.text; term = t } ∷ map (asserted_by ts) xs) terms
    ∙ ap (λ ys. a ∷ ys) (same_assertions ts xs as' (cc) (cc))
  where
    heads : (f : Assertion → List Token) (g : Asserted → List Token) → f x ∷ map f xs ≡ g a ∷ map g as' → f x ≡ g a
    heads f g h = cc

-- what stands after those below
pub above : {A : Type 0} (f : Frame → List A) (frames : List Frame) (g : Frame) (below : ℕ) → below ≡ length (flat_map f frames)
    → drop below (flat_map f (frames ++ g ∷ [])) ≡ f g
above f frames g below e =
    ap (drop below) (flat_map-append f frames (g ∷ [])) ∙ ap (λ n. drop n (flat_map f frames ++ (f g ++ []))) e ∙ drop-append_seam (flat_map f frames) (f g ++ []) ∙ append-nil (f g)

pub texts_count : (s : Stack) (xs : List Assertion) → AreAsserted s xs → length xs ≡ length (flat_map texts_of s.frames)
texts_count s xs h = sym (length-map xs (λ (a : Assertion). a.text)) ∙ ap length h.texts

pub below_within : (texts : List (List Token)) (assumed : List Asserted) (old mid : Stack) (xs : List Assertion) → AreAsserted old xs → IsAssumed texts assumed old mid → length xs ≤ length (assertions_of mid.frames)
below_within texts assumed old mid xs h k =
    let frames : mid.frames ≡ old.frames ++ frame_of assumed ∷ [] = ap (λ (s : Stack). s.frames) k.new_is in
    let many : length xs ≡ length (assertions_of old.frames) = many_asserted old xs h in
    let all : length (assertions_of mid.frames) ≡ length (assertions_of old.frames ++ (terms_of (frame_of assumed) ++ [])) =
    ap (λ fs. length (assertions_of fs)) frames ∙ ap length (flat_map-append terms_of old.frames (frame_of assumed ∷ [])) in
    rw all (rw many (longer (assertions_of old.frames) (terms_of (frame_of assumed) ++ [])))
  where
    longer : (ts us : List Tree) → length ts ≤ length (ts ++ us)
    longer ts us = rw length-append (omega arith)

-- ---- what is known once it is refuted

-- the assumptions may stand above the stack again
pub again_above : (assumed : List Asserted) (old new mid : Stack) (xs : List Assertion) → new ≡ record old { trees = mid.trees } → mid ≡ under assumed new → map (asserted_by new.trees) xs ≡ assumed → All (IsWithin new.trees) xs
    → depth mid.frames ≤ most_levels → 0 < length new.frames → IsLawful mid → MayAssertAbove xs new
again_above assumed old new mid xs e m same within deep some lawful =
    let more' : length mid.frames ≡ length new.frames + 1 = ap (λ (s : Stack). length s.frames) m ∙ length-append new.frames (frame_of assumed ∷ []) in
    record { within = within; lawful = subst IsLawful (m ∙ ap (λ ys. under ys new) (sym same)) lawful; room = omega (arith, more', deep, some) }

refuted_again : (assumed : List Asserted) (old new mid : Stack) (xs : List Assertion) → new ≡ record old { trees = mid.trees } → mid ≡ under assumed new → map (asserted_by new.trees) xs ≡ assumed → All (IsWithin new.trees) xs
    → depth mid.frames ≤ most_levels → 0 < length new.frames → IsLawful mid → HasNoModel mid.frames → IsRefutedUnder new xs
refuted_again assumed old new mid xs e m same within deep some lawful none = record {
  none = subst HasNoModel (ap (λ (s : Stack). s.frames) m ∙ ap (λ ys. new.frames ++ frame_of ys ∷ []) (sym same)) none;
  again = again_above assumed old new mid xs e m same within deep some lawful;
}

-- ---- the whole

pub checked_under : (workers : ℕ) (limit : ℤ) (texts : List (List Token)) (assumed : List Asserted) (old mid new : Stack) (xs : List Assertion) (a : Assumed)
    → AreAsserted old xs → IsAssumed texts assumed old mid → IsAnsweredUnder workers limit (length xs) mid a → new ≡ record old { trees = mid.trees }
    → IsCheckedUnder workers limit texts old a new
checked_under workers limit texts assumed old mid new xs a h k u e =
    let frames : mid.frames ≡ old.frames ++ frame_of assumed ∷ [] = ap (λ (s : Stack). s.frames) k.new_is in
    let trees : mid.trees ≡ k.scope.trees = ap (λ (s : Stack). s.trees) k.new_is in
    let new_trees : new.trees ≡ mid.trees = ap (λ (s : Stack). s.trees) e in
    let new_frames : new.frames ≡ old.frames = ap (λ (s : Stack). s.frames) e in
    let same : map (asserted_by new.trees) a.assumptions ≡ assumed =
    same_assertions new.trees a.assumptions assumed
    (u.texts ∙ ap (λ fs. drop (length xs) (flat_map texts_of fs)) frames ∙ above texts_of old.frames (frame_of assumed) (length xs) (texts_count old xs h))
    (ap (λ ts. map (λ (x : Assertion). tree_at ts x.term) a.assumptions) new_trees
    ∙ u.terms ∙ ap (λ fs. drop (length xs) (assertions_of fs)) frames ∙ above terms_of old.frames (frame_of assumed) (length xs) (many_asserted old xs h)) in
    let within : All (IsWithin new.trees) a.assumptions = subst (λ ts. All (IsWithin ts) a.assumptions) (sym new_trees) u.within in
    let mid_is : mid ≡ under assumed new = k.new_is ∙ ap (under assumed) (ap (λ ts. record old { trees = ts }) (sym trees) ∙ sym e) in
    record {
      assumed = assumed;
      scope = k.scope;
      is_judged = k.is_judged;
      new_is = e ∙ ap (λ ts. record old { trees = ts }) trees;
      assumptions = same;
      within = within;
      refuted = where_unsat a.answer.mode (HasNoModel mid.frames) (IsRefutedUnder new a.assumptions)
          (refuted_again assumed old new mid a.assumptions e mid_is same within u.depth_fits (subst (λ fs. 0 < length fs) (sym new_frames) k.some) u.lawful) u.check.refuted;
      answer = λ s stack above' crew lim.
          u.check.answer s (ap (λ (t : Stack). t.trees) stack ∙ new_trees)
          (ap (λ (t : Stack). t.frames ++ s.above) stack ∙ ap (λ fs. fs ++ s.above) new_frames ∙ ap (λ fs. old.frames ++ fs) above' ∙ sym frames) crew lim;
    }
