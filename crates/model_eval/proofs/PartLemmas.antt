-- The trees at the marked places, in the end, are the different parts; how many they are.
use Rattle.std.proofs.Common.{◌≡◌, ◌≢◌, ℕ, zero, suc, ◌+◌, ◌<◌, ◌≤◌, List, [], ◌∷◌, ◌++◌, length, get_or, All, AllPairs, Contains, Bool, true, false, inl, inr, if◌then◌else◌, subst, sym, ap, ◌∙◌, arith, refl}
use Rattle.std.proofs.lemmas.Bool.{cases_lt}
use Rattle.std.proofs.lemmas.List.{length_push, get_or_append_left, get_or_past}
use Rattle.std.proofs.lemmas.List.Elements.{All-push, All-weaker, Contains-push}
use Rattle.std.proofs.lemmas.List.Quantifiers.{all_pairs_push}
use Rattle.smt_meaning.specs.Term.{Tree, Trees, node, none, more, tree_at}
use Rattle.term_store.specs.Terms.{AreDifferent}
use Rattle.model_eval.specs.Unfit.{IsPart, IsPartOfOne, IsPartOfAny}
use Rattle.model_eval.specs.Parts.{AreTheirParts, IsAStepAPart, IsAStepAPartOfAny}
use Rattle.model_eval.specs.Walk.{IsOneOf, IsArgument, is_marked, IsMarkedPlace, HasMarkedArguments, AreMarked, with_part, parts_below}

-- ---- how many

with_part_length : (b : Bool) (t : Tree) (parts : List Tree) → length (with_part b t parts) ≡ length parts + (if b then 1 else 0)
with_part_length true t parts = length_push parts t
with_part_length false t parts = omega arith

pub at_most_one : (b : Bool) → (if b then 1 else 0) ≤ 1
at_most_one true = omega arith
at_most_one false = omega arith

-- one step more, where a place is marked
pub counted_more : (trees : List Tree) (marks : List Bool) (n before now after : ℕ) → now ≡ before + length (parts_below trees marks n) → after ≡ now + (if is_marked marks n then 1 else 0)
    → after ≡ before + length (parts_below trees marks (n + 1))
counted_more trees marks n before now after e step =
    let long : length (parts_below trees marks (suc n)) ≡ length (parts_below trees marks n) + (if is_marked marks n then 1 else 0) =
    with_part_length (is_marked marks n) (tree_at trees n) (parts_below trees marks n) in
    let next : suc n ≡ n + 1 = omega arith in
    subst (λ k. after ≡ before + length (parts_below trees marks k)) next (omega (arith, e, step, long))

pub few_below : (trees : List Tree) (marks : List Bool) (n : ℕ) → length (parts_below trees marks n) ≤ n
few_below trees marks zero = omega arith
few_below trees marks (suc n) =
    omega (arith, few_below trees marks n, with_part_length (is_marked marks n) (tree_at trees n) (parts_below trees marks n), at_most_one (is_marked marks n))

-- ---- which

-- the tree stands at a marked place below a bound
abbrev IsBelow : List Tree → List Bool → ℕ → Tree → Type 0
IsBelow trees marks n t = (i : ℕ) × (i < n) × (is_marked marks i ≡ true) × (tree_at trees i ≡ t)

left_contains : (ts : List Tree) (t s : Tree) → Contains ts s → Contains (ts ++ t ∷ []) s
left_contains ts t s c = (c.0, (let h = c.1 in omega (arith, length_push ts t)), get_or_append_left ts (t ∷ []) s c.0 c.1 ∙ c.2)

module _ (trees : List Tree) (marks : List Bool) where
  higher : (n : ℕ) (t : Tree) → IsBelow trees marks n t → IsBelow trees marks (suc n) t
  higher n t w = (w.0, (let h = w.1 in omega arith), w.2, w.3)

  each_with : (n : ℕ) (b : Bool) → is_marked marks n ≡ b → All (IsBelow trees marks n) (parts_below trees marks n) → All (IsBelow trees marks (suc n)) (with_part b (tree_at trees n) (parts_below trees marks n))
  each_with n true m h =
      All-push (IsBelow trees marks (suc n)) (parts_below trees marks n) (tree_at trees n) (All-weaker (IsBelow trees marks n) (IsBelow trees marks (suc n)) (higher n) (parts_below trees marks n) h)
      (n, omega arith, m, refl)
  each_with n false m h = All-weaker (IsBelow trees marks n) (IsBelow trees marks (suc n)) (higher n) (parts_below trees marks n) h

  each_below : (n : ℕ) → All (IsBelow trees marks n) (parts_below trees marks n)
  each_below zero = λ k d h. absurd (omega arith)
  each_below (suc n) = each_with n (is_marked marks n) refl (each_below n)

  stays : (b : Bool) (t s : Tree) (parts : List Tree) → Contains parts s → Contains (with_part b t parts) s
  stays true t s parts c = left_contains parts t s c
  stays false t s parts c = c

  joins : (b : Bool) (t : Tree) (parts : List Tree) → b ≡ true → Contains (with_part b t parts) t
  joins true t parts e = Contains-push parts t
  joins false t parts e = cc

  all_below : (n i : ℕ) → i < n → is_marked marks i ≡ true → Contains (parts_below trees marks n) (tree_at trees i)
  all_below zero i h m = absurd (omega arith)
  all_below (suc n) i h m =
      elim (cases_lt i n) [
        | inl less ↦ stays (is_marked marks n) (tree_at trees n) (tree_at trees i) (parts_below trees marks n) (all_below n i less m)
        | inr last ↦
            (let same : i ≡ n = omega arith in
            subst (λ k. Contains (parts_below trees marks (suc n)) (tree_at trees k)) (sym same)
            (joins (is_marked marks n) (tree_at trees n) (parts_below trees marks n) (ap (is_marked marks) (sym same) ∙ m)))
      ]

  different_with : (n : ℕ) (b : Bool) → AreDifferent trees → n < length trees → AllPairs (λ s t. s ≢ t) (parts_below trees marks n)
      → AllPairs (λ s t. s ≢ t) (with_part b (tree_at trees n) (parts_below trees marks n))
  different_with n true different short h =
      all_pairs_push (λ s t. s ≢ t) (parts_below trees marks n) (tree_at trees n) h
      (λ k d within same. (let w = each_below n k d within in different w.0 n w.1 short (w.3 ∙ same)))
  different_with n false different short h = h

  different_below : (n : ℕ) → AreDifferent trees → n ≤ length trees → AllPairs (λ s t. s ≢ t) (parts_below trees marks n)
  different_below zero different short = λ i j d less within. absurd (omega arith)
  different_below (suc n) different short = different_with n (is_marked marks n) different (omega arith) (different_below n different (omega arith))

  -- each part of a tree at a marked place stands at one
  mutual
    part_place : (t s : Tree) (i : ℕ) → ((k : ℕ) → is_marked marks k ≡ true → HasMarkedArguments trees marks k) → IsMarkedPlace trees marks t i → IsPart s t → (j : ℕ) × IsMarkedPlace trees marks s j
    part_place (node h ts) s i closed at p =
        elim p [
          | inl same ↦ (i, subst (λ u. IsMarkedPlace trees marks u i) (sym same) at)
          | inr inner ↦ part_place_in_one ts s closed (λ u one. closed i at.marked u (subst (IsArgument u) (sym at.here) one)) inner
        ]

    part_place_in_one : (ts : Trees) (s : Tree) → ((k : ℕ) → is_marked marks k ≡ true → HasMarkedArguments trees marks k)
        → ((u : Tree) → IsOneOf u ts → (k : ℕ) × IsMarkedPlace trees marks u k) → IsPartOfOne s ts → (j : ℕ) × IsMarkedPlace trees marks s j
    part_place_in_one none s closed at p = absurd p
    part_place_in_one (more t ts) s closed at p =
        elim p [
          | inl first ↦ (let w = at t (inl refl) in part_place t s w.0 closed w.1 first)
          | inr later ↦ part_place_in_one ts s closed (λ u one. at u (inr one)) later
        ]

marked_within : (marks : List Bool) (i : ℕ) → is_marked marks i ≡ true → i < length marks
marked_within marks i m = elim (cases_lt i (length marks)) [ inl less ↦ less | inr past ↦ absurd (unlike (sym (get_or_past marks i false past) ∙ m)) ]
  where
    unlike : false ≡ true → ⊥
    unlike e = cc

pub all_parts : (trees : List Tree) (terms : List ℕ) (top : ℕ) (marks : List Bool) → AreMarked trees terms top 0 marks → AreDifferent trees → All (λ k. k < length trees) terms → top ≤ length trees
    → AreTheirParts trees terms (parts_below trees marks top)
all_parts trees terms top marks marked different within short = record {
  each =
      All-weaker (IsBelow trees marks top) (IsPartOfAny trees terms) (λ t w. subst (IsPartOfAny trees terms) w.3 (marked.parts w.0 w.2)) (parts_below trees marks top) (each_below trees marks top);
  all = λ s p.
      (let root = get_or terms p.0 0 in
      let w =
      part_place trees marks (tree_at trees root) s root (λ k m. marked.closed k (omega arith) m)
      (record { within = within p.0 0 p.1; here = refl; marked = marked.roots p.0 0 p.1 }) p.2 in
      let less : w.0 < top = subst (λ n. w.0 < n) marked.size (marked_within marks w.0 w.1.marked) in
      subst (Contains (parts_below trees marks top)) w.1.here (all_below trees marks top w.0 less w.1.marked));
  different = different_below trees marks top different short;
}

-- the parts of a list of one term are those of the term
pub step_a_part_of_one : (trees : List Tree) (t before now : ℕ) → IsAStepAPartOfAny trees (t ∷ []) before now → IsAStepAPart (tree_at trees t) before now
step_a_part_of_one trees t before now c = (
  c.0,
  record {
    each = All-weaker (IsPartOfAny trees (t ∷ [])) (λ s. IsPart s (tree_at trees t)) (λ s p. subst (λ k. IsPart s (tree_at trees k)) (only p.0 p.1) p.2) c.0 c.1.each;
    all = λ s p. c.1.all s (0, omega arith, p);
    different = c.1.different;
  },
  c.2,
)
  where
    only : (k : ℕ) → k < length (t ∷ []) → get_or (t ∷ []) k 0 ≡ t
    only zero h = refl
    only (suc k) h = absurd (omega arith)

pub below_next : (t : ℕ) → All (λ k. k < t + 1) (t ∷ [])
below_next t zero d h = omega arith
below_next t (suc k) d h = absurd (omega arith)
