-- What is known of the candidates that were tried, and one more of them.
use Rattle.std.proofs.Common.{◌≡◌, ◌∙◌, ◌⊎◌, inl, inr, refl, ap, ap₂, sym, subst, ℕ, ◌+◌, ◌<◌, ◌≤◌, ℤ, Bool, true, false, not, ◌&&◌, ◌||◌, nat_eq, nat_lt, List, [], ◌∷◌, ◌++◌, filter, take, drop, length, get_or, replicate, slice_set, arith, All, Option, Some, None}
use Rattle.std.specs.Prelude.{if◌then◌else◌}
use Rattle.std.proofs.lemmas.Bool.{cases_order, not_from_true, and_left, or_right}
use Rattle.std.proofs.lemmas.Bool.Decides.{nat_tests}
use Rattle.std.proofs.lemmas.List.{append-nil, map-append, length-set, length-replicate, get_or-replicate, get_or-set_same, get_or-set_other, set-set, set-get_or, take-append-drop, take_more, take_all, drop_more}
use Rattle.std.proofs.lemmas.List.Elements.{All-nil, All-cons, All-head, All-tail, All-append, All-weaker, All-map, filter-append}
use Rattle.std.proofs.lemmas.List.Folds.{list_any-append, list_any_none, list_any_at}
use Rattle.smt_meaning.specs.declared.replies.Reason.{Reason}
use Rattle.smt_meaning.specs.declared.replies.Held.{Held}
use Rattle.smt_meaning.specs.Core.{IsReason, IsReduced, places}
use Rattle.smt_meaning.specs.Keeping.{keeping, is_in, core_keeps, trial_keeps}
use Rattle.smt_meaning.specs.Stack.{Frame, HasNoModel, assertions_of}
use Rattle.smt_meaning.specs.StackCommand.{Stack}
use Rattle.scope_stack.specs.Trials.{marks}
use Rattle.goal_search.specs.Tries.{AreCandidates, IsTried, held_by}
use Rattle.goal_search.proofs.Agreeing.{keeping_same, keeping_all}

-- ---- tests

eq_yes : (a b : ℕ) → a ≡ b → nat_eq a b ≡ true
eq_yes a b e = grind (arith, nat_tests)

eq_below : (a b : ℕ) → a < b → nat_eq a b ≡ false
eq_below a b lt = grind (arith, nat_tests)

eq_above : (a b : ℕ) → b < a → nat_eq a b ≡ false
eq_above a b lt = grind (arith, nat_tests)

lt_yes : (a b : ℕ) → a < b → nat_lt a b ≡ true
lt_yes a b lt = grind (arith, nat_tests)

lt_no : (a b : ℕ) → b ≤ a → nat_lt a b ≡ false
lt_no a b le = grind (arith, nat_tests)

or_false : (x : Bool) → x || false ≡ x
or_false true = refl
or_false false = refl

not_below : (ps : List ℕ) (n q : ℕ) → All (λ p. p < n) ps → n ≤ q → is_in ps q ≡ false
not_below ps n q h le = list_any_none (nat_eq q) ps (All-weaker (λ p. p < n) (λ p. nat_eq q p ≡ false) (λ p lt. eq_above q p (omega (arith, lt, le))) ps h)

all_ahead : (first end q : ℕ) (ps : List ℕ) → AreCandidates first end ps → q < first → All (λ p. nat_eq q p ≡ false) ps
all_ahead first end q [] h lt = All-nil (λ p. nat_eq q p ≡ false)
all_ahead first end q (p ∷ ps) h lt =
    let le : first ≤ p = h.0 in All-cons (λ r. nat_eq q r ≡ false) p ps (eq_below q p (omega (arith, le, lt))) (all_ahead (p + 1) end q ps h.2 (omega (arith, le, lt)))

not_ahead : (first end q : ℕ) (ps : List ℕ) → AreCandidates first end ps → q < first → is_in ps q ≡ false
not_ahead first end q ps h lt = list_any_none (nat_eq q) ps (all_ahead first end q ps h lt)

-- one more at the end
in_one : (c : ℕ) → is_in (c ∷ []) c ≡ true
in_one c = list_any_at (nat_eq c) (c ∷ []) 0 0 (omega arith) (eq_yes c c refl)

in_more : (ps : List ℕ) (c : ℕ) → is_in (ps ++ c ∷ []) c ≡ true
in_more ps c = list_any-append (nat_eq c) ps (c ∷ []) ∙ or_right (is_in ps c) (is_in (c ∷ []) c) (in_one c)

in_others : (ps : List ℕ) (c q : ℕ) → nat_eq q c ≡ false → is_in (ps ++ c ∷ []) q ≡ is_in ps q
in_others ps c q e =
    list_any-append (nat_eq q) ps (c ∷ []) ∙ ap (λ b. is_in ps q || b) (list_any_none (nat_eq q) (c ∷ []) (All-cons (λ p. nat_eq q p ≡ false) c [] e (All-nil (λ p. nat_eq q p ≡ false)))) ∙ or_false (is_in ps q)

filter_same : (f g : ℕ → Bool) (xs : List ℕ) → All (λ x. f x ≡ g x) xs → filter f xs ≡ filter g xs
filter_same f g [] h = refl
filter_same f g (x ∷ xs) h = ap₂ (λ b r. if b then x ∷ r else r) (All-head (λ y. f y ≡ g y) x xs h) (filter_same f g xs (All-tail (λ y. f y ≡ g y) x xs h))

-- ---- what is known

abbrev at_place : Held → ℕ
at_place h = h.place

-- of all candidates these were tried, of which some are held; the next one is at this place or later
pub record SoFar (workers : ℕ) (s : Stack) (limit : ℤ) (all tried : List ℕ) (next : ℕ) (kept : List Bool) (hs : List Held) : Type 0 where
  pub size : length kept ≡ length (assertions_of s.frames)
  pub left : (q : ℕ) → q < length kept → marks kept q ≡ core_keeps tried (places hs) q
  pub none : HasNoModel (keeping (marks kept) s.frames)
  pub listed : filter (is_in (places hs)) tried ≡ places hs
  pub below : All (λ (h : Held). h.place < next) hs
  pub tried_below : All (λ p. p < next) tried
  pub reasons : All (λ (h : Held). IsReason workers s.trees (keeping (trial_keeps all (places hs) h.place) s.frames) limit h.why) hs

pub none_tried : (workers : ℕ) (s : Stack) (limit : ℤ) (all : List ℕ) (kept : List Bool) → kept ≡ replicate (length (assertions_of s.frames)) true → HasNoModel s.frames → SoFar workers s limit all [] 0 kept []
none_tried workers s limit all kept e h =
    record {
      size = size;
      left = λ q lt. marked q (omega (arith, lt, size));
      none = subst HasNoModel (sym (keeping_all (marks kept) s.frames marked)) h;
      listed = refl;
      below = All-nil (λ (x : Held). x.place < 0);
      tried_below = All-nil (λ p. p < 0);
      reasons = All-nil (λ (x : Held). IsReason workers s.trees (keeping (trial_keeps all [] x.place) s.frames) limit x.why);
    }
  where
    size : length kept ≡ length (assertions_of s.frames)
    size = ap length e ∙ length-replicate {A = Bool} (length (assertions_of s.frames)) true

    marked : (q : ℕ) → q < length (assertions_of s.frames) → marks kept q ≡ true
    marked q lt = ap (λ ks. marks ks q) e ∙ get_or-replicate {A = Bool} (length (assertions_of s.frames)) q true false lt

pub all_tried : (workers : ℕ) (s : Stack) (limit : ℤ) (all tried : List ℕ) (next : ℕ) (kept : List Bool) (hs : List Held) → tried ≡ all → SoFar workers s limit all tried next kept hs → IsReduced workers s.trees s.frames limit all hs
all_tried workers s limit all tried next kept hs e h =
    record {
      listed = subst (λ ps. filter (is_in (places hs)) ps ≡ places hs) e h.listed;
      enough = subst HasNoModel
          (keeping_same (marks kept) (core_keeps all (places hs)) s.frames (λ q lt. h.left q (omega (arith, lt, h.size)) ∙ ap (λ ps. core_keeps ps (places hs) q) e)) h.none;
      reasons = h.reasons;
    }

-- ---- one candidate more

module _ (workers : ℕ) (s : Stack) (limit : ℤ) (all tried rest : List ℕ) (next c : ℕ) (kept : List Bool) (hs : List Held) (h : SoFar workers s limit all tried next kept hs)
    (order : AreCandidates next (length (assertions_of s.frames)) (c ∷ rest)) (same : all ≡ tried ++ c ∷ rest) where
  later : next ≤ c
  later = order.0

  within : c < length kept
  within = let lt : c < length (assertions_of s.frames) = order.1 in omega (arith, lt, h.size)

  listed_below : All (λ p. p < next) (places hs)
  listed_below = All-map (λ p. p < next) at_place hs h.below

  new_tried : is_in tried c ≡ false
  new_tried = not_below tried next c h.tried_below later

  new_listed : is_in (places hs) c ≡ false
  new_listed = not_below (places hs) next c listed_below later

  pub marked : marks kept c ≡ true
  marked = h.left c within ∙ ap (λ b. not b || is_in (places hs) c) new_tried

  front_in : (q : ℕ) → q < c → is_in all q ≡ is_in tried q
  front_in q lt =
      ap (λ ps. is_in ps q) same ∙ list_any-append (nat_eq q) tried (c ∷ rest)
      ∙ ap (λ b. is_in tried q || b) (list_any_none (nat_eq q) (c ∷ rest) (All-cons (λ p. nat_eq q p ≡ false) c rest (eq_below q c lt) (all_ahead (c + 1) (length (assertions_of s.frames)) q rest order.2 (omega (arith, lt)))))
      ∙ or_false (is_in tried q)

  -- what the trial keeps
  trial_same : (ls : List ℕ) → ((q : ℕ) → q < c → is_in ls q ≡ is_in (places hs) q) → (q : ℕ) → q < length kept → marks (slice_set kept c false) q ≡ trial_keeps all ls c q
  trial_same ls agree q lt = go (cases_order q c)
    where
      go : (q ≡ c) ⊎ ((q < c) ⊎ (c < q)) → marks (slice_set kept c false) q ≡ trial_keeps all ls c q
      go (inl e) =
          ap (marks (slice_set kept c false)) e ∙ get_or-set_same kept c false false within
          ∙ sym (and_left (not (nat_eq q c)) (nat_lt c q || core_keeps all ls q) (not_from_true (nat_eq q c) (eq_yes q c e)))
      go (inr (inl l)) =
          get_or-set_other kept c q false false (λ e. omega (arith, e, l)) ∙ h.left q lt
          ∙ ap₂ (λ a b. not a || b) (sym (front_in q l)) (sym (agree q l))
          ∙ sym (ap₂ (λ a b. not a && (b || core_keeps all ls q)) (eq_below q c l) (lt_no c q (omega (arith, l))))
      go (inr (inr l)) =
          get_or-set_other kept c q false false (λ e. omega (arith, e, l)) ∙ h.left q lt
          ∙ ap (λ a. not a || is_in (places hs) q) (not_below tried next q h.tried_below (omega (arith, l, later)))
          ∙ sym (ap₂ (λ a b. not a && (b || core_keeps all ls q)) (eq_above q c l) (lt_yes c q l))

  further : All (λ p. p < c + 1) (tried ++ c ∷ [])
  further =
      All-append (λ p. p < c + 1) tried (c ∷ []) (All-weaker (λ p. p < next) (λ p. p < c + 1) (λ p lt. omega (arith, lt, later)) tried h.tried_below)
      (All-cons (λ p. p < c + 1) c [] (omega arith) (All-nil (λ p. p < c + 1)))

  held_below : All (λ (x : Held). x.place < c + 1) hs
  held_below = All-weaker (λ (x : Held). x.place < next) (λ (x : Held). x.place < c + 1) (λ x lt. omega (arith, lt, later)) hs h.below

  test_of : (q : ℕ) → (q ≡ c) ⊎ ((q < c) ⊎ (c < q)) → (q ≡ c) ⊎ (nat_eq q c ≡ false)
  test_of q (inl e) = inl e
  test_of q (inr (inl l)) = inr (eq_below q c l)
  test_of q (inr (inr l)) = inr (eq_above q c l)

  -- it goes
  goes : HasNoModel (keeping (marks (slice_set kept c false)) s.frames) → SoFar workers s limit all (tried ++ c ∷ []) (c + 1) (slice_set kept c false) hs
  goes none =
      record {
        size = length-set kept c false ∙ h.size;
        left = λ q lt. left q (omega (arith, lt, length-set kept c false)) (test_of q (cases_order q c));
        none = none;
        listed = filter-append (is_in (places hs)) tried (c ∷ []) ∙ ap₂ (λ xs b. xs ++ (if b then c ∷ [] else [])) h.listed new_listed ∙ append-nil (places hs);
        below = held_below;
        tried_below = further;
        reasons = h.reasons;
      }
    where
      absurd_eq : (q : ℕ) → q ≡ c → nat_eq q c ≡ false → ⊥
      absurd_eq q x e = let y : true ≡ false = sym (eq_yes q c x) ∙ e in absurd cc

      left : (q : ℕ) → q < length kept → (q ≡ c) ⊎ (nat_eq q c ≡ false) → marks (slice_set kept c false) q ≡ core_keeps (tried ++ c ∷ []) (places hs) q
      left q lt (inl e) =
          ap (marks (slice_set kept c false)) e ∙ get_or-set_same kept c false false within
          ∙ sym (ap (core_keeps (tried ++ c ∷ []) (places hs)) e ∙ ap₂ (λ a b. not a || b) (in_more tried c) new_listed)
      left q lt (inr e) =
          get_or-set_other kept c q false false (λ x. absurd_eq q x e) ∙ h.left q lt ∙ ap (λ a. not a || is_in (places hs) q) (sym (in_others tried c q e))

  -- it stays
  module _ (why : Reason) (shown : IsReason workers s.trees (keeping (marks (slice_set kept c false)) s.frames) limit why) where
    places_more : places (hs ++ record { place = c; why = why } ∷ []) ≡ places hs ++ c ∷ []
    places_more = map-append at_place hs (record { place = c; why = why } ∷ [])

    front : (q : ℕ) → q < c → is_in (places hs ++ c ∷ []) q ≡ is_in (places hs) q
    front q lt = in_others (places hs) c q (eq_below q c lt)

    -- the trials before have what they had
    earlier : (p : ℕ) → p < next → keeping (trial_keeps all (places hs) p) s.frames ≡ keeping (trial_keeps all (places hs ++ c ∷ []) p) s.frames
    earlier p lt = keeping_same (trial_keeps all (places hs) p) (trial_keeps all (places hs ++ c ∷ []) p) s.frames (λ q l. go q (test_of q (cases_order q c)))
      where
        go : (q : ℕ) → (q ≡ c) ⊎ (nat_eq q c ≡ false) → trial_keeps all (places hs) p q ≡ trial_keeps all (places hs ++ c ∷ []) p q
        go q (inl e) =
            let ahead : nat_lt p q ≡ true = lt_yes p q (omega (arith, e, lt, later)) in
            ap (λ b. not (nat_eq q p) && (b || core_keeps all (places hs) q)) ahead ∙ sym (ap (λ b. not (nat_eq q p) && (b || core_keeps all (places hs ++ c ∷ []) q)) ahead)
        go q (inr e) = ap (λ b. not (nat_eq q p) && (nat_lt p q || (not (is_in all q) || b))) (sym (in_others (places hs) c q e))

    stays : SoFar workers s limit all (tried ++ c ∷ []) (c + 1) kept (hs ++ record { place = c; why = why } ∷ [])
    stays =
        record {
          size = h.size;
          left = λ q lt. subst (λ ls. marks kept q ≡ core_keeps (tried ++ c ∷ []) ls q) (sym places_more) (left q lt (test_of q (cases_order q c)));
          none = h.none;
          listed = subst (λ ls. filter (is_in ls) (tried ++ c ∷ []) ≡ ls) (sym places_more) listed;
          below = All-append (λ (x : Held). x.place < c + 1) hs (record { place = c; why = why } ∷ []) held_below
              (All-cons (λ (x : Held). x.place < c + 1) (record { place = c; why = why }) [] (omega arith) (All-nil (λ (x : Held). x.place < c + 1)));
          tried_below = further;
          reasons = subst (λ ls. All (λ (x : Held). IsReason workers s.trees (keeping (trial_keeps all ls x.place) s.frames) limit x.why) (hs ++ record { place = c; why = why } ∷ [])) (sym places_more) reasons;
        }
      where
        left : (q : ℕ) → q < length kept → (q ≡ c) ⊎ (nat_eq q c ≡ false) → marks kept q ≡ core_keeps (tried ++ c ∷ []) (places hs ++ c ∷ []) q
        left q lt (inl e) =
            ap (marks kept) e ∙ marked ∙ sym (ap (core_keeps (tried ++ c ∷ []) (places hs ++ c ∷ [])) e ∙ or_right (not (is_in (tried ++ c ∷ []) c)) (is_in (places hs ++ c ∷ []) c) (in_more (places hs) c))
        left q lt (inr e) = h.left q lt ∙ ap₂ (λ a b. not a || b) (sym (in_others tried c q e)) (sym (in_others (places hs) c q e))

        listed : filter (is_in (places hs ++ c ∷ [])) (tried ++ c ∷ []) ≡ places hs ++ c ∷ []
        listed =
            filter-append (is_in (places hs ++ c ∷ [])) tried (c ∷ [])
            ∙ ap₂ (λ xs b. xs ++ (if b then c ∷ [] else []))
            (filter_same (is_in (places hs ++ c ∷ [])) (is_in (places hs)) tried (All-weaker (λ p. p < next) (λ p. is_in (places hs ++ c ∷ []) p ≡ is_in (places hs) p) (λ p lt. front p (omega (arith, lt, later))) tried h.tried_below) ∙ h.listed)
            (in_more (places hs) c)

        kept_reasons : (xs : List Held) → All (λ (x : Held). x.place < next) xs → All (λ (x : Held). IsReason workers s.trees (keeping (trial_keeps all (places hs) x.place) s.frames) limit x.why) xs
            → All (λ (x : Held). IsReason workers s.trees (keeping (trial_keeps all (places hs ++ c ∷ []) x.place) s.frames) limit x.why) xs
        kept_reasons [] b r = All-nil (λ (x : Held). IsReason workers s.trees (keeping (trial_keeps all (places hs ++ c ∷ []) x.place) s.frames) limit x.why)
        kept_reasons (x ∷ xs) b r =
            All-cons (λ (y : Held). IsReason workers s.trees (keeping (trial_keeps all (places hs ++ c ∷ []) y.place) s.frames) limit y.why) x xs
            (subst (λ (fs : List Frame). IsReason workers s.trees fs limit x.why) (earlier x.place (All-head (λ (y : Held). y.place < next) x xs b))
            (All-head (λ (y : Held). IsReason workers s.trees (keeping (trial_keeps all (places hs) y.place) s.frames) limit y.why) x xs r))
            (kept_reasons xs (All-tail (λ (y : Held). y.place < next) x xs b) (All-tail (λ (y : Held). IsReason workers s.trees (keeping (trial_keeps all (places hs) y.place) s.frames) limit y.why) x xs r))

        new_reason : IsReason workers s.trees (keeping (trial_keeps all (places hs ++ c ∷ []) c) s.frames) limit why
        new_reason =
            subst (λ (fs : List Frame). IsReason workers s.trees fs limit why)
            (keeping_same (marks (slice_set kept c false)) (trial_keeps all (places hs ++ c ∷ []) c) s.frames (λ q lt. trial_same (places hs ++ c ∷ []) front q (omega (arith, lt, h.size)))) shown

        reasons : All (λ (x : Held). IsReason workers s.trees (keeping (trial_keeps all (places hs ++ c ∷ []) x.place) s.frames) limit x.why) (hs ++ record { place = c; why = why } ∷ [])
        reasons =
            All-append (λ (x : Held). IsReason workers s.trees (keeping (trial_keeps all (places hs ++ c ∷ []) x.place) s.frames) limit x.why) hs (record { place = c; why = why } ∷ [])
            (kept_reasons hs h.below h.reasons)
            (All-cons (λ (x : Held). IsReason workers s.trees (keeping (trial_keeps all (places hs ++ c ∷ []) x.place) s.frames) limit x.why) (record { place = c; why = why }) [] new_reason
            (All-nil (λ (x : Held). IsReason workers s.trees (keeping (trial_keeps all (places hs ++ c ∷ []) x.place) s.frames) limit x.why)))

  pub one_more_tried : (why : Option Reason) (new : List Bool) → IsTried workers s limit c kept why new → SoFar workers s limit all (tried ++ c ∷ []) (c + 1) new (hs ++ held_by c why)
  one_more_tried None new t =
      subst (λ ks. SoFar workers s limit all (tried ++ c ∷ []) (c + 1) ks (hs ++ [])) (sym t.1) (subst (SoFar workers s limit all (tried ++ c ∷ []) (c + 1) (slice_set kept c false)) (sym (append-nil hs)) (goes t.0))
  one_more_tried (Some why) new t = subst (λ ks. SoFar workers s limit all (tried ++ c ∷ []) (c + 1) ks (hs ++ record { place = c; why = why } ∷ [])) (sym t.1) (stays why t.0)

-- ---- from the first candidate on

-- the first candidates were tried, and the others are to come
abbrev pub IsStage : ℕ → Stack → ℤ → List ℕ → ℕ → List Bool → List Held → Type 0
IsStage workers s limit all i kept hs = (next : ℕ) × SoFar workers s limit all (take i all) next kept hs × AreCandidates next (length (assertions_of s.frames)) (drop i all)

pub first_stage : (workers : ℕ) (s : Stack) (limit : ℤ) (all : List ℕ) (kept : List Bool) → AreCandidates 0 (length (assertions_of s.frames)) all → kept ≡ replicate (length (assertions_of s.frames)) true → HasNoModel s.frames → IsStage workers s limit all 0 kept []
first_stage workers s limit all kept order e none = (0, none_tried workers s limit all kept e none, order)

module _ (workers : ℕ) (s : Stack) (limit : ℤ) (all : List ℕ) (i c : ℕ) (kept : List Bool) (hs : List Held) (lt : i < length all) (at : c ≡ get_or all i 0) (stage : IsStage workers s limit all i kept hs) where
  ahead : drop i all ≡ c ∷ drop (i + 1) all
  ahead = drop_more all i 0 lt ∙ ap (λ x. x ∷ drop (i + 1) all) (sym at)

  order : AreCandidates stage.0 (length (assertions_of s.frames)) (c ∷ drop (i + 1) all)
  order = subst (AreCandidates stage.0 (length (assertions_of s.frames))) ahead stage.2

  parts : all ≡ take i all ++ c ∷ drop (i + 1) all
  parts = sym (take-append-drop i all) ∙ ap (λ xs. take i all ++ xs) ahead

  pub next_marked : marks kept c ≡ true
  next_marked = marked workers s limit all (take i all) (drop (i + 1) all) stage.0 c kept hs stage.1 order parts

  pub next_stage : (why : Option Reason) (new : List Bool) → IsTried workers s limit c kept why new → IsStage workers s limit all (i + 1) new (hs ++ held_by c why)
  next_stage why new t =
      let grown : take (i + 1) all ≡ take i all ++ c ∷ [] = take_more all i 0 lt ∙ ap (λ x. take i all ++ x ∷ []) (sym at) in (
        c + 1,
        subst (λ xs. SoFar workers s limit all xs (c + 1) new (hs ++ held_by c why)) (sym grown) (one_more_tried workers s limit all (take i all) (drop (i + 1) all) stage.0 c kept hs stage.1 order parts why new t),
        order.2,
      )

pub last_stage : (workers : ℕ) (s : Stack) (limit : ℤ) (all : List ℕ) (i : ℕ) (kept : List Bool) (hs : List Held) → length all ≤ i → IsStage workers s limit all i kept hs → IsReduced workers s.trees s.frames limit all hs
last_stage workers s limit all i kept hs le stage = all_tried workers s limit all (take i all) stage.0 kept hs (take_all i all le) stage.1

-- what is left out and put back
pub put_back : (kept : List Bool) (p : ℕ) → marks kept p ≡ true → slice_set (slice_set kept p false) p true ≡ kept
put_back kept p e = set-set kept p false true ∙ ap (slice_set kept p) (sym e) ∙ set-get_or kept p false
