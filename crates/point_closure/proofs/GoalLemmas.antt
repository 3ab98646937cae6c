-- What an explanation keeps, how it begins and ends, and that it ends.
use Rattle.std.proofs.Common.{◌≡◌, ℕ, zero, suc, ◌+◌, ◌*◌, ◌<◌, ◌≤◌, Bool, true, false, List, [], ◌∷◌, ◌++◌, length, take, get_or, nat_eq, refl, sym, ap, ◌∙◌, subst, inl, inr, arith}
use Rattle.std.specs.Prelude.{Contains, if◌then◌else◌, max}
use Rattle.std.proofs.lemmas.Bool.{cases_lt, cases_eq, eq-eqb}
use Rattle.std.proofs.lemmas.Bool.Decides.{eqb_tells}
use Rattle.std.proofs.lemmas.List.{take_all, get_or_append_left, get_or_push, length_push, length-set}
use Rattle.std.proofs.lemmas.List.Elements.{Contains-append_cases, Contains-push_cases, Contains-push, Contains-append_left, Contains-append_right}
use Rattle.std.proofs.Math.Nat.{mul-le-mul_right}
use Rattle.point_closure.specs.declared.classes.Union.{Union}
use Rattle.point_closure.specs.declared.classes.Reason.TheVariants.{Alike, Step as AtStep}
use Rattle.point_closure.specs.declared.step.Step.{Step}
use Rattle.point_closure.specs.declared.shape.Shape.TheVariants.{Leaf}
use Rattle.point_closure.specs.declared.explain.Goal.{Goal}
use Rattle.point_closure.specs.Closure.{Point, Pair, point_at, ArePoints, Equal, same}
use Rattle.point_closure.specs.Unions.{root_of, IsUnion, AreUnions}
use Rattle.point_closure.specs.Explained.{named, AreBefore, AreCongruent, AlikeAreCongruent, StepsAreMerges, Explains}
use Rattle.point_closure.specs.Marks.{AreOff}
use Rattle.point_closure.specs.Explaining.{goal_of, paired, Tells, AreGoals, AreReasons, IsExplaining}
use Rattle.point_closure.proofs.UnionLemmas.{nothing, nothing_else}
use Rattle.point_closure.proofs.ExplainLemmas.{before_later, goal_apart, edges_on, given_on}

none_in : {X : Type 0} (x : X) → Contains [] x → ⊥
none_in x has = let less : has.0 < 0 = has.1 in omega arith

pub paired_cases : (is js : List ℕ) (g : Goal) → Contains (paired is js) g → (a : ℕ) × (a < length is) × (a < length js) × (g ≡ goal_of (get_or is a 0) (get_or js a 0))
paired_cases [] js g has = absurd (none_in g has)
paired_cases (i ∷ is) [] g has = absurd (none_in g has)
paired_cases (i ∷ is) (j ∷ js) g has = elim (Contains-append_cases (goal_of i j ∷ []) (paired is js) g has) [
  | inl first ↦ elim (Contains-push_cases [] (goal_of i j) g first) [
    | inl empty ↦ absurd (none_in g empty)
    | inr e ↦ (0, omega arith, omega arith, sym e)
  ]
  | inr rest ↦ let r : (a : ℕ) × (a < length is) × (a < length js) × (g ≡ goal_of (get_or is a 0) (get_or js a 0)) = paired_cases is js g rest in
      (suc r.0, omega (arith, r.1), omega (arith, r.2), r.3)
]

argument_within : (ps : List Point) (i a : ℕ) → ArePoints ps → i < length ps → a < length (point_at ps i).arguments → get_or (point_at ps i).arguments a 0 < length ps
argument_within ps i a points within less =
    let h : get_or (point_at ps i).arguments a 0 < i = points i (record { shape = Leaf; arguments = [] }) within a 0 less in
    omega arith

-- ---- the goals

abbrev IsGoal : ℕ → List Union → Goal → Type 0
IsGoal count us g = ((g.left < count) × (g.right < count)) × AreBefore us (length us) g.left g.right

pub goals_on : (ps : List Point) (us : List Union) (goal : Goal) (gs gs' : List Goal) (told told' : List Bool) (ss ss' : List ℕ)
    → ArePoints ps → AreUnions (length ps) us → AlikeAreCongruent ps us → AreGoals (length ps) us (gs ++ goal ∷ []) → (t : Tells ps us goal gs gs' told told' ss ss')
    → AreGoals (length ps) us gs'
goals_on ps us goal gs gs' told told' ss ss' points unions alike old t =
    let u : IsUnion (length ps) (take t.at us) t.union = subst (λ (v : Union). IsUnion (length ps) (take t.at us) v) t.is_at (unions.at t.at t.union t.within) in
    let at_within : t.at < length us = t.within in
    let a : Goal = goal_of t.one t.union.from in
    let b : Goal = goal_of t.other t.union.to in
    let ends : (goal.left < length ps) × (goal.right < length ps) = old.within goal (Contains-push gs goal) in
    let one_within : t.one < length ps = elim t.sides [ inl s ↦ subst (λ n. n < length ps) (sym s.0) ends.0 | inr s ↦ subst (λ n. n < length ps) (sym s.0) ends.1 ] in
    let other_within : t.other < length ps = elim t.sides [ inl s ↦ subst (λ n. n < length ps) (sym s.1) ends.1 | inr s ↦ subst (λ n. n < length ps) (sym s.1) ends.0 ] in
    let is_a : IsGoal (length ps) us a = ((one_within, u.from_within), before_later us t.at (length us) t.one t.union.from (omega arith) (omega arith) (t.one_root ∙ sym u.from_root)) in
    let is_b : IsGoal (length ps) us b = ((other_within, u.to_within), before_later us t.at (length us) t.other t.union.to (omega arith) (omega arith) (t.other_root ∙ sym u.to_root)) in
    let each : (g : Goal) → Contains gs' g → IsGoal (length ps) us g = λ g has.
    elim (Contains-append_cases (gs ++ a ∷ []) (b ∷ t.more') g (subst (λ hs. Contains hs g) t.goals has)) [
      | inl left ↦ elim (Contains-push_cases gs a g left) [
        | inl in_gs ↦ (old.within g (contains_left gs goal g in_gs), old.same g (contains_left gs goal g in_gs))
        | inr e ↦ subst (λ (x : Goal). IsGoal (length ps) us x) e is_a
      ]
      | inr right ↦ elim (Contains-append_cases (b ∷ []) t.more' g right) [
        | inl in_b ↦ elim (Contains-push_cases [] b g in_b) [
          | inl empty ↦ absurd (none_in g empty)
          | inr e ↦ subst (λ (x : Goal). IsGoal (length ps) us x) e is_b
        ]
        | inr in_more ↦ elim t.is_told [
          | inl before ↦ absurd (none_in g (subst (λ hs. Contains hs g) before.3 in_more))
          | inr now ↦ elim now.1 [
            | inl step ↦ absurd (none_in g (subst (λ hs. Contains hs g) step.3 in_more))
            | inr al ↦ alike_goal ps us t.at t.union g points u unions t.within
                (subst (λ (v : Union). AreCongruent ps us t.at v.from v.to) t.is_at (alike t.at t.union t.within (subst (λ (v : Union). v.reason ≡ Alike) (sym t.is_at) al.0)))
                (subst (λ hs. Contains hs g) al.2 in_more)
          ]
        ]
      ]
    ] in
    record { within = λ g has. (each g has).0; same = λ g has. (each g has).1 }
  where
    contains_left : (gs : List Goal) (goal g : Goal) → Contains gs g → Contains (gs ++ goal ∷ []) g
    contains_left gs goal g has = Contains-append_left gs (goal ∷ []) g has

    alike_goal : (ps : List Point) (us : List Union) (at : ℕ) (u : Union) (g : Goal) → ArePoints ps → IsUnion (length ps) (take at us) u → AreUnions (length ps) us → at < length us
        → AreCongruent ps us at u.from u.to → Contains (paired (point_at ps u.from).arguments (point_at ps u.to).arguments) g → IsGoal (length ps) us g
    alike_goal ps us at u g points is unions less c has =
        let p : (a : ℕ) × (a < length (point_at ps u.from).arguments) × (a < length (point_at ps u.to).arguments) × (g ≡ goal_of (get_or (point_at ps u.from).arguments a 0) (get_or (point_at ps u.to).arguments a 0)) =
        paired_cases (point_at ps u.from).arguments (point_at ps u.to).arguments g has in
        subst (λ (x : Goal). IsGoal (length ps) us x) (sym p.3) (
          (argument_within ps u.from p.0 points is.from_within p.1, argument_within ps u.to p.0 points is.to_within p.2),
          before_later us at (length us) (get_or (point_at ps u.from).arguments p.0 0) (get_or (point_at ps u.to).arguments p.0 0) (omega arith) (omega arith) (c.arguments p.0 p.1),
        )

pub reasons_on : (ps : List Point) (us : List Union) (goal : Goal) (gs gs' : List Goal) (told told' : List Bool) (ss ss' : List ℕ)
    → AreReasons us ss → (t : Tells ps us goal gs gs' told told' ss ss') → AreReasons us ss'
reasons_on ps us goal gs gs' told told' ss ss' old t = elim t.is_told [
  | inl before ↦ subst (λ xs. AreReasons us xs) (sym before.2) old
  | inr now ↦ elim now.1 [
    | inl step ↦ subst (λ xs. AreReasons us xs) (sym step.2) (λ k d less. elim (cases_lt k (length ss)) [
      | inl within ↦ subst (λ s. (j : ℕ) × (j < length us) × ((c : Union) → (get_or us j c).reason ≡ AtStep s)) (sym (get_or_append_left ss (step.0 ∷ []) d k within)) (old k d within)
      | inr above ↦
          let longer : length (ss ++ step.0 ∷ []) ≡ length ss + 1 = length_push ss step.0 in
          subst (λ s. (j : ℕ) × (j < length us) × ((c : Union) → (get_or us j c).reason ≡ AtStep s)) (sym (get_or_push ss step.0 d k (omega arith)))
          (t.at, t.within, λ c. ap (λ (u : Union). u.reason) (nothing_else us t.at c t.union t.within ∙ t.is_at) ∙ step.1)
    ])
    | inr al ↦ subst (λ xs. AreReasons us xs) (sym al.1) old
  ]
]

pub count_on : (ps : List Point) (us : List Union) (goal : Goal) (gs gs' : List Goal) (told told' : List Bool) (ss ss' : List ℕ)
    → (t : Tells ps us goal gs gs' told told' ss ss') → length told' ≡ length told
count_on ps us goal gs gs' told told' ss ss' t = elim t.is_told [
  | inl before ↦ ap length before.1
  | inr now ↦ ap length now.0 ∙ length-set told t.at true
]

pub explaining_on : (ps : List Point) (us : List Union) (i j : ℕ) (goal : Goal) (gs gs' : List Goal) (told told' : List Bool) (ss ss' : List ℕ)
    → ArePoints ps → AreUnions (length ps) us → AlikeAreCongruent ps us → IsExplaining ps us i j (gs ++ goal ∷ []) told ss → Tells ps us goal gs gs' told told' ss ss'
    → IsExplaining ps us i j gs' told' ss'
explaining_on ps us i j goal gs gs' told told' ss ss' points unions alike is t = record {
  count = subst (λ n. length us ≤ n) (sym (count_on ps us goal gs gs' told told' ss ss' t)) is.count;
  goals = goals_on ps us goal gs gs' told told' ss ss' points unions alike is.goals t;
  reasons = reasons_on ps us goal gs gs' told told' ss ss' is.reasons t;
  edges = λ log merges. edges_on ps us i j (length ps) goal gs gs' told told' ss ss' log unions alike merges is t;
  given_ends = λ log merges. given_on ps us i j (length ps) goal gs gs' told told' ss ss' log unions alike merges is t;
}

-- a goal of one point is left out
pub explaining_skips : (ps : List Point) (us : List Union) (i j : ℕ) (goal : Goal) (gs : List Goal) (told : List Bool) (ss : List ℕ)
    → IsExplaining ps us i j (gs ++ goal ∷ []) told ss → goal.left ≡ goal.right → IsExplaining ps us i j gs told ss
explaining_skips ps us i j goal gs told ss is e =
    let granted : (pairs : List Pair) (k : ℕ) → ((g : Goal) → Contains gs g → AreBefore us k g.left g.right → Equal ps pairs g.left g.right)
    → (g : Goal) → Contains (gs ++ goal ∷ []) g → AreBefore us k g.left g.right → Equal ps pairs g.left g.right =
    λ pairs k h g has before. elim (Contains-push_cases gs goal g has) [
      | inl old ↦ h g old before
      | inr f ↦ subst (λ (x : Goal). Equal ps pairs x.left x.right) f (subst (λ n. Equal ps pairs goal.left n) e same)
    ] in
    record {
      count = is.count;
      goals = record {
        within = λ g has. is.goals.within g (Contains-append_left gs (goal ∷ []) g has);
        same = λ g has. is.goals.same g (Contains-append_left gs (goal ∷ []) g has);
      };
      reasons = is.reasons;
      edges = λ log merges k d less h pairs incl gr. is.edges log merges k d less h pairs incl (granted pairs k gr);
      given_ends = λ log merges pairs incl gr. is.given_ends log merges pairs incl (granted pairs (length us) gr);
    }

-- ---- beginning and end

false_not_true : false ≡ true → ⊥
false_not_true e = cc

pub explaining_starts : (ps : List Point) (us : List Union) (i j : ℕ) → i < length ps → j < length ps → root_of us i ≡ root_of us j
    → (told : List Bool) → length us ≤ length told → AreOff told → IsExplaining ps us i j (goal_of i j ∷ []) told []
explaining_starts ps us i j left right e told room off =
    let only : (g : Goal) → Contains (goal_of i j ∷ []) g → goal_of i j ≡ g = λ g has. elim (Contains-push_cases [] (goal_of i j) g has) [
      | inl empty ↦ absurd (none_in g empty)
      | inr f ↦ f
    ] in
    let whole : AreBefore us (length us) i j = ap (λ vs. root_of vs i) (take_all (length us) us (omega arith)) ∙ e ∙ sym (ap (λ vs. root_of vs j) (take_all (length us) us (omega arith))) in
    record {
      count = room;
      goals = record {
        within = λ g has. subst (λ (x : Goal). (x.left < length ps) × (x.right < length ps)) (only g has) (left, right);
        same = λ g has. subst (λ (x : Goal). AreBefore us (length us) x.left x.right) (only g has) whole;
      };
      reasons = λ k d less. absurd (omega arith);
      edges = λ log merges k d less h. absurd (false_not_true (sym (off k) ∙ h));
      given_ends = λ log merges pairs incl gr. gr (goal_of i j) (0, omega arith, refl) whole;
    }

pub explaining_ends : (ps : List Point) (us : List Union) (i j : ℕ) (told : List Bool) (ss : List ℕ) → IsExplaining ps us i j [] told ss
    → (log : List Step) → StepsAreMerges log us → Explains ps log ss i j
explaining_ends ps us i j told ss is log merges = record {
  steps = λ k d less.
      let r : (m : ℕ) × (m < length us) × ((c : Union) → (get_or us m c).reason ≡ AtStep (get_or ss k d)) = is.reasons k d less in
      (merges r.0 (get_or ss k d) nothing r.1 (r.2 nothing)).0;
  equal = is.given_ends log merges (named log ss) (λ p has. has) (λ g has. absurd (none_in g has));
}

-- ---- the measure

-- at how many of the first unions two points are still apart
abbrev pub apart : List Union → ℕ → ℕ → ℕ → ℕ
apart us zero i j = 0
apart us (suc k) i j = (if nat_eq (root_of (take k us) i) (root_of (take k us) j) then 0 else 1) + apart us k i j

apart_one : (us : List Union) (k i j : ℕ) → (AreBefore us k i j → ⊥) → apart us (suc k) i j ≡ 1 + apart us k i j
apart_one us k i j h = elim (eqb_tells (root_of (take k us) i) (root_of (take k us) j)) [
  | inl equal ↦ absurd (h equal.1)
  | inr unequal ↦ ap (λ (b : Bool). (if b then 0 else 1) + apart us k i j) unequal.0
]

apart_none : (us : List Union) (k i j : ℕ) → AreBefore us k i j → apart us (suc k) i j ≡ apart us k i j
apart_none us k i j h = ap (λ (b : Bool). (if b then 0 else 1) + apart us k i j) (eq-eqb (root_of (take k us) i) (root_of (take k us) j) h) ∙ zero_plus (apart us k i j)
  where
    zero_plus : (n : ℕ) → 0 + n ≡ n
    zero_plus n = omega arith

apart_grows : (us : List Union) (k i j : ℕ) → (apart us k i j ≤ apart us (suc k) i j) × (apart us (suc k) i j ≤ suc (apart us k i j))
apart_grows us k i j = elim (cases_eq (root_of (take k us) i) (root_of (take k us) j)) [
  | inl e ↦ let f : apart us (suc k) i j ≡ apart us k i j = apart_none us k i j e in (omega arith, omega arith)
  | inr ne ↦ let f : apart us (suc k) i j ≡ 1 + apart us k i j = apart_one us k i j ne in (omega arith, omega arith)
]

pub apart_early : (us : List Union) (t k i j : ℕ) → AreBefore us t i j → k ≤ length us → apart us k i j ≤ t
apart_early us t zero i j before within = omega arith
apart_early us t (suc k) i j before within = elim (cases_lt k t) [
  | inl less ↦
      let g : (apart us k i j ≤ apart us (suc k) i j) × (apart us (suc k) i j ≤ suc (apart us k i j)) = apart_grows us k i j in
      let le : apart us k i j ≤ k = apart_within us k i j in
      omega arith
  | inr le ↦
      let e : apart us (suc k) i j ≡ apart us k i j = apart_none us k i j (before_later us t k i j le (omega arith) before) in
      let h : apart us k i j ≤ t = apart_early us t k i j before (omega arith) in
      omega arith
]
  where
    apart_within : (us : List Union) (k i j : ℕ) → apart us k i j ≤ k
    apart_within us zero i j = omega arith
    apart_within us (suc k) i j =
        let g : (apart us k i j ≤ apart us (suc k) i j) × (apart us (suc k) i j ≤ suc (apart us k i j)) = apart_grows us k i j in
        let h : apart us k i j ≤ k = apart_within us k i j in
        omega arith

pub apart_late : (us : List Union) (t k i j : ℕ) → (AreBefore us t i j → ⊥) → t < k → k ≤ length us → t < apart us k i j
apart_late us t zero i j h less within = absurd (omega arith)
apart_late us t (suc k) i j h less within = elim (cases_lt t k) [
  | inl earlier ↦
      let g : (apart us k i j ≤ apart us (suc k) i j) × (apart us (suc k) i j ≤ suc (apart us k i j)) = apart_grows us k i j in
      let r : t < apart us k i j = apart_late us t k i j h earlier (omega arith) in
      omega arith
  | inr here ↦
      let e : t ≡ k = omega arith in
      let one : apart us (suc k) i j ≡ 1 + apart us k i j = apart_one us k i j (subst (λ n. AreBefore us n i j → ⊥) e h) in
      let all : k ≤ apart us k i j = apart_all us k i j (λ m less' before. h (before_later us m t i j (omega arith) (omega arith) before)) in
      omega arith
]
  where
    apart_all : (us : List Union) (k i j : ℕ) → ((m : ℕ) → m < k → AreBefore us m i j → ⊥) → k ≤ apart us k i j
    apart_all us zero i j h = omega arith
    apart_all us (suc k) i j h =
        let one : apart us (suc k) i j ≡ 1 + apart us k i j = apart_one us k i j (h k (omega arith)) in
        let rest : k ≤ apart us k i j = apart_all us k i j (λ m less. h m (omega arith)) in
        omega arith

-- more than w times the weight of one less
abbrev pub weigh : ℕ → ℕ → ℕ
weigh w zero = 1
weigh w (suc n) = suc (w * weigh w n)

weigh_some : (w n : ℕ) → 1 ≤ weigh w n
weigh_some w zero = omega arith
weigh_some w (suc n) = omega arith

weigh_le : (w m n : ℕ) → 1 ≤ w → m ≤ n → weigh w m ≤ weigh w n
weigh_le w m zero some le = let e : m ≡ zero = omega arith in subst (λ k. weigh w k ≤ 1) (sym e) (omega arith)
weigh_le w m (suc n) some le = elim (cases_lt n m) [
  | inl past ↦ let e : m ≡ suc n = omega arith in subst (λ k. weigh w k ≤ weigh w (suc n)) (sym e) (omega arith)
  | inr le' ↦
      let h : weigh w m ≤ weigh w n = weigh_le w m n some le' in
      let times : 1 * weigh w n ≤ w * weigh w n = mul-le-mul_right (weigh w n) some in
      omega arith
]

abbrev pub goal_weight : ℕ → List Union → Goal → ℕ
goal_weight w us g = weigh w (apart us (length us) g.left g.right)

abbrev pub total : ℕ → List Union → List Goal → ℕ
total w us [] = 0
total w us (g ∷ gs) = goal_weight w us g + total w us gs

pub total_append : (w : ℕ) (us : List Union) (xs ys : List Goal) → total w us (xs ++ ys) ≡ total w us xs + total w us ys
total_append w us [] ys = omega arith
total_append w us (x ∷ xs) ys = let h : total w us (xs ++ ys) ≡ total w us xs + total w us ys = total_append w us xs ys in omega arith

total_bound : (w b : ℕ) (us : List Union) (gs : List Goal) → ((g : Goal) → Contains gs g → goal_weight w us g ≤ b) → total w us gs ≤ length gs * b
total_bound w b us [] h = omega arith
total_bound w b us (g ∷ gs) h =
    let first : goal_weight w us g ≤ b = h g (0, omega arith, refl) in
    let rest : total w us gs ≤ length gs * b = total_bound w b us gs (λ x has. h x (Contains-append_right (g ∷ []) gs x has)) in
    omega arith

abbrev pub widest : List Point → ℕ
widest [] = 0
widest (p ∷ ps) = max (length p.arguments) (widest ps)

widest_bound : (ps : List Point) (i : ℕ) → length (point_at ps i).arguments ≤ widest ps
widest_bound [] i = omega arith
widest_bound (p ∷ ps) zero = omega arith
widest_bound (p ∷ ps) (suc i) = let h : length (point_at ps i).arguments ≤ widest ps = widest_bound ps i in omega arith

length-paired : (is js : List ℕ) → length (paired is js) ≤ length is
length-paired [] js = omega arith
length-paired (i ∷ is) [] = omega arith
length-paired (i ∷ is) (j ∷ js) = let h : length (paired is js) ≤ length is = length-paired is js in omega arith

pub total_skips : (w : ℕ) (us : List Union) (gs : List Goal) (goal : Goal) → total w us gs < total w us (gs ++ goal ∷ [])
total_skips w us gs goal =
    let e : total w us (gs ++ goal ∷ []) ≡ total w us gs + total w us (goal ∷ []) = total_append w us gs (goal ∷ []) in
    let some : 1 ≤ goal_weight w us goal = weigh_some w (apart us (length us) goal.left goal.right) in
    omega arith

pub total_falls : (ps : List Point) (us : List Union) (goal : Goal) (gs gs' : List Goal) (told told' : List Bool) (ss ss' : List ℕ)
    → AreUnions (length ps) us → AlikeAreCongruent ps us → Tells ps us goal gs gs' told told' ss ss' → total (widest ps + 2) us gs' < total (widest ps + 2) us (gs ++ goal ∷ [])
total_falls ps us goal gs gs' told told' ss ss' unions alike t =
    let w : ℕ = widest ps + 2 in
    let a : Goal = goal_of t.one t.union.from in
    let b : Goal = goal_of t.other t.union.to in
    let bound : ℕ = weigh w t.at in
    let at_within : t.at < length us = t.within in
    let u : IsUnion (length ps) (take t.at us) t.union = subst (λ (v : Union). IsUnion (length ps) (take t.at us) v) t.is_at (unions.at t.at t.union t.within) in
    let early : (i j : ℕ) → AreBefore us t.at i j → weigh w (apart us (length us) i j) ≤ bound = λ i j before.
    weigh_le w (apart us (length us) i j) t.at (omega arith) (apart_early us t.at (length us) i j before (omega arith)) in
    let first : goal_weight w us a ≤ bound = early t.one t.union.from (t.one_root ∙ sym u.from_root) in
    let second : goal_weight w us b ≤ bound = early t.other t.union.to (t.other_root ∙ sym u.to_root) in
    let few : (length t.more' ≤ widest ps) × (total w us t.more' ≤ length t.more' * bound) = elim t.is_told [
      | inl before ↦ subst (λ hs. (length hs ≤ widest ps) × (total w us hs ≤ length hs * bound)) (sym before.3) (omega arith, omega arith)
      | inr now ↦ elim now.1 [
        | inl step ↦ subst (λ hs. (length hs ≤ widest ps) × (total w us hs ≤ length hs * bound)) (sym step.3) (omega arith, omega arith)
        | inr al ↦
            let is' : List ℕ = (point_at ps t.union.from).arguments in
            let js' : List ℕ = (point_at ps t.union.to).arguments in
            let c : AreCongruent ps us t.at t.union.from t.union.to =
            subst (λ (v : Union). AreCongruent ps us t.at v.from v.to) t.is_at (alike t.at t.union t.within (subst (λ (v : Union). v.reason ≡ Alike) (sym t.is_at) al.0)) in
            let short : length (paired is' js') ≤ length is' = length-paired is' js' in
            let wide : length is' ≤ widest ps = widest_bound ps t.union.from in
            subst (λ hs. (length hs ≤ widest ps) × (total w us hs ≤ length hs * bound)) (sym al.2) (
              omega arith,
              total_bound w bound us (paired is' js') (λ g has.
                  let p : (k : ℕ) × (k < length is') × (k < length js') × (g ≡ goal_of (get_or is' k 0) (get_or js' k 0)) = paired_cases is' js' g has in
                  subst (λ (x : Goal). goal_weight w us x ≤ bound) (sym p.3) (early (get_or is' p.0 0) (get_or js' p.0 0) (c.arguments p.0 p.1))),
            )
      ]
    ] in
    let all : total w us gs' ≡ total w us gs + total w us (a ∷ []) + (goal_weight w us b + total w us t.more') =
    ap (total w us) t.goals ∙ total_append w us (gs ++ a ∷ []) (b ∷ t.more') ∙ ap (λ n. n + (goal_weight w us b + total w us t.more')) (total_append w us gs (a ∷ [])) in
    let whole : total w us (gs ++ goal ∷ []) ≡ total w us gs + total w us (goal ∷ []) = total_append w us gs (goal ∷ []) in
    let late : t.at < apart us (length us) goal.left goal.right =
    apart_late us t.at (length us) goal.left goal.right (goal_apart ps us goal gs gs' told told' ss ss' (length ps) unions t) t.within (omega arith) in
    let heavy : weigh w (suc t.at) ≤ goal_weight w us goal = weigh_le w (suc t.at) (apart us (length us) goal.left goal.right) (omega arith) late in
    let times : length t.more' * bound ≤ widest ps * bound = mul-le-mul_right bound few.0 in
    let sum : total w us t.more' ≤ length t.more' * bound = few.1 in
    omega arith

pub no_goals : (gs : List Goal) → length gs ≡ 0 → gs ≡ []
no_goals [] e = refl
no_goals (g ∷ gs) e = absurd (omega arith)
