-- A goal that gives way to earlier ones keeps what an explanation has found.
use Rattle.std.proofs.Common.{◌≡◌, ◌≢◌, ℕ, zero, suc, ◌<◌, ◌≤◌, Bool, true, false, List, [], ◌∷◌, ◌++◌, length, take, get_or, set, refl, sym, ap, ◌∙◌, subst, inl, inr, ◌⊎◌, arith, append_assoc}
use Rattle.std.specs.Prelude.{Contains}
use Rattle.std.proofs.lemmas.Bool.{cases_lt, cases_eq}
use Rattle.std.proofs.lemmas.List.{take_all, get_or-set_other}
use Rattle.std.proofs.lemmas.List.Elements.{Contains-append_left, Contains-append_right, Contains-push, Contains-push_cases}
use Rattle.point_closure.specs.declared.classes.Union.{Union}
use Rattle.point_closure.specs.declared.classes.Reason.TheVariants.{Alike, Step as AtStep}
use Rattle.point_closure.specs.declared.step.Step.{Step}
use Rattle.point_closure.specs.declared.explain.Goal.{Goal}
use Rattle.point_closure.specs.Closure.{Point, Pair, point_at, Equal, given, turned, joined, applied}
use Rattle.point_closure.specs.Unions.{after, root_of, IsUnion, AreUnions, IsNewest}
use Rattle.std.specs.Prelude.{if◌then◌else◌}
use Rattle.point_closure.specs.Explained.{step_at, step_pairs, named, IsMerge, AreBefore, AreCongruent, AlikeAreCongruent, StepsAreMerges}
use Rattle.point_closure.specs.Explaining.{goal_of, paired, IsTold, Tells, Gives, IsExplaining}
use Rattle.point_closure.proofs.UnionLemmas.{root_suc, nothing, nothing_else}

-- ---- goals of arguments

pub paired_more : (is js : List ℕ) (i : ℕ) → length is ≡ length js → i < length is
    → paired (take i is) (take i js) ++ goal_of (get_or is i 0) (get_or js i 0) ∷ [] ≡ paired (take (suc i) is) (take (suc i) js)
paired_more [] js i e less = absurd (omega arith)
paired_more (i ∷ is) [] k e less = absurd (omega arith)
paired_more (i ∷ is) (j ∷ js) zero e less = refl
paired_more (i ∷ is) (j ∷ js) (suc k) e less = ap (λ gs. goal_of i j ∷ gs) (paired_more is js k (omega arith) (omega arith))

-- ---- earlier and later

pub before_later : (us : List Union) (k m i j : ℕ) → k ≤ m → m ≤ length us → AreBefore us k i j → AreBefore us m i j
before_later us k zero i j le within e = let z : k ≡ zero = omega arith in subst (λ n. AreBefore us n i j) z e
before_later us k (suc m) i j le within e = elim (cases_lt m k) [
  | inl past ↦ let z : k ≡ suc m = omega arith in subst (λ n. AreBefore us n i j) z e
  | inr le' ↦ root_suc us m nothing i within ∙ ap (after (get_or us m nothing)) (before_later us k m i j le' (omega arith) e) ∙ sym (root_suc us m nothing j within)
]

-- ---- named pairs

pub named_append : (log : List Step) (xs ys : List ℕ) → named log (xs ++ ys) ≡ named log xs ++ named log ys
named_append log [] ys = refl
named_append log (x ∷ xs) ys = ap (λ ps. step_pairs (step_at log x) ++ ps) (named_append log xs ys) ∙ sym (append_assoc (step_pairs (step_at log x)) (named log xs) (named log ys))

pub named_left : (log : List Step) (xs ys : List ℕ) (p : Pair) → Contains (named log xs) p → Contains (named log (xs ++ ys)) p
named_left log xs ys p has = subst (λ ps. Contains ps p) (sym (named_append log xs ys)) (Contains-append_left (named log xs) (named log ys) p has)

pub named_last : (log : List Step) (xs : List ℕ) (s : ℕ) (p : Pair) → Contains (step_pairs (step_at log s)) p → Contains (named log (xs ++ s ∷ [])) p
named_last log xs s p has =
    subst (λ ps. Contains ps p) (sym (named_append log xs (s ∷ [])))
    (Contains-append_right (named log xs) (named log (s ∷ [])) p (Contains-append_left (step_pairs (step_at log s)) [] p has))

pair_first : (p : Pair) → Contains (p ∷ []) p
pair_first p = (0, omega arith, refl)

pub merge_gives : (ps : List Point) (log : List Step) (pairs : List Pair) (s i j : ℕ) → IsMerge log s i j → ((p : Pair) → Contains (step_pairs (step_at log s)) p → Contains pairs p) → Equal ps pairs i j
merge_gives ps log pairs s i j is incl = elim is.1 [
  | inl e ↦ given (incl (record { left = i; right = j }) (subst (λ (t : Step). Contains (step_pairs t) (record { left = i; right = j })) (sym e) (pair_first (record { left = i; right = j }))))
  | inr e ↦ turned (given (incl (record { left = j; right = i }) (subst (λ (t : Step). Contains (step_pairs t) (record { left = j; right = i })) (sym e) (pair_first (record { left = j; right = i })))))
]

-- the goal of two arguments is among those of the lists
pub paired_has : (is js : List ℕ) (a : ℕ) → a < length is → length is ≡ length js → Contains (paired is js) (goal_of (get_or is a 0) (get_or js a 0))
paired_has [] js a less e = absurd (omega arith)
paired_has (i ∷ is) [] a less e = absurd (omega arith)
paired_has (i ∷ is) (j ∷ js) zero less e = (0, omega arith, refl)
paired_has (i ∷ is) (j ∷ js) (suc a) less e = Contains-append_right (goal_of i j ∷ []) (paired is js) (goal_of (get_or is a 0) (get_or js a 0)) (paired_has is js a (omega arith) (omega arith))

-- ---- a goal that gives way

abbrev Included : List Step → List ℕ → List Pair → Type 0
Included log ss pairs = (p : Pair) → Contains (named log ss) p → Contains pairs p

-- each goal in this list that is in one class before the union is given
abbrev Granted : List Point → List Union → List Pair → List Goal → ℕ → Type 0
Granted ps us pairs gs k = (g : Goal) → Contains gs g → AreBefore us k g.left g.right → Equal ps pairs g.left g.right

union_is : (count : ℕ) (us : List Union) (k : ℕ) (u : Union) → AreUnions count us → k < length us → get_or us k u ≡ u → IsUnion count (take k us) u
union_is count us k u unions less e = subst (λ (v : Union). IsUnion count (take k us) v) e (unions.at k u less)

-- the goal's ends are in two classes before the union that joined them
pub goal_apart : (ps : List Point) (us : List Union) (goal : Goal) (gs gs' : List Goal) (told told' : List Bool) (ss ss' : List ℕ) (count : ℕ) → AreUnions count us
    → (t : Tells ps us goal gs gs' told told' ss ss') → AreBefore us t.at goal.left goal.right → ⊥
goal_apart ps us goal gs gs' told told' ss ss' count unions t e =
    let different : t.union.gone ≢ t.union.kept = (union_is count us t.at t.union unions t.within t.is_at).different in
    elim t.sides [
      | inl s ↦ different (sym t.one_root ∙ ap (root_of (take t.at us)) s.0 ∙ e ∙ ap (root_of (take t.at us)) (sym s.1) ∙ t.other_root)
      | inr s ↦ different (sym t.one_root ∙ ap (root_of (take t.at us)) s.0 ∙ sym e ∙ ap (root_of (take t.at us)) (sym s.1) ∙ t.other_root)
    ]

old_goal : (gs gs' more' : List Goal) (a b g : Goal) → gs' ≡ (gs ++ a ∷ []) ++ b ∷ more' → Contains gs g → Contains gs' g
old_goal gs gs' more' a b g e has =
    subst (λ hs. Contains hs g) (sym e) (Contains-append_left (gs ++ a ∷ []) (b ∷ more') g (Contains-append_left gs (a ∷ []) g has))

one_goal : (gs gs' more' : List Goal) (a b : Goal) → gs' ≡ (gs ++ a ∷ []) ++ b ∷ more' → Contains gs' a
one_goal gs gs' more' a b e = subst (λ hs. Contains hs a) (sym e) (Contains-append_left (gs ++ a ∷ []) (b ∷ more') a (Contains-push gs a))

other_goal : (gs gs' more' : List Goal) (a b : Goal) → gs' ≡ (gs ++ a ∷ []) ++ b ∷ more' → Contains gs' b
other_goal gs gs' more' a b e = subst (λ hs. Contains hs b) (sym e) (Contains-append_right (gs ++ a ∷ []) (b ∷ more') b (0, omega arith, refl))

more_goal : (gs gs' more' : List Goal) (a b g : Goal) → gs' ≡ (gs ++ a ∷ []) ++ b ∷ more' → Contains more' g → Contains gs' g
more_goal gs gs' more' a b g e has =
    subst (λ hs. Contains hs g) (sym e) (Contains-append_right (gs ++ a ∷ []) (b ∷ more') g (Contains-append_right (b ∷ []) more' g has))

-- before the goal gave way, what was granted then is granted now, up to the goal itself
granted_old : (ps : List Point) (us : List Union) (pairs : List Pair) (gs gs' more' : List Goal) (a b goal : Goal) (k m : ℕ)
    → gs' ≡ (gs ++ a ∷ []) ++ b ∷ more' → Granted ps us pairs gs' m → k ≤ m → m ≤ length us → (AreBefore us k goal.left goal.right → Equal ps pairs goal.left goal.right)
    → Granted ps us pairs (gs ++ goal ∷ []) k
granted_old ps us pairs gs gs' more' a b goal k m e granted le within h g has before = elim (Contains-push_cases gs goal g has) [
  | inl old ↦ granted g (old_goal gs gs' more' a b g e old) (before_later us k m g.left g.right le within before)
  | inr is ↦ subst (λ (x : Goal). Equal ps pairs x.left x.right) is (h (subst (λ (x : Goal). AreBefore us k x.left x.right) (sym is) before))
]

-- the two points of the union are equal
pub union_equal : (ps : List Point) (us : List Union) (i j count : ℕ) (goal : Goal) (gs gs' : List Goal) (told told' : List Bool) (ss ss' : List ℕ) (log : List Step) (pairs : List Pair) (m : ℕ)
    → AreUnions count us → AlikeAreCongruent ps us → StepsAreMerges log us → IsExplaining ps us i j (gs ++ goal ∷ []) told ss
    → (t : Tells ps us goal gs gs' told told' ss ss') → Included log ss' pairs → Granted ps us pairs gs' m → t.at ≤ m → m ≤ length us
    → Equal ps pairs t.union.from t.union.to
union_equal ps us i j count goal gs gs' told told' ss ss' log pairs m unions alike merges is t incl granted le within =
    let a : Goal = goal_of t.one t.union.from in
    let b : Goal = goal_of t.other t.union.to in
    elim t.is_told [
      | inl before ↦
          let gives : Gives ps log us (gs ++ goal ∷ []) ss t.at t.union.from t.union.to =
          subst (λ (u : Union). Gives ps log us (gs ++ goal ∷ []) ss t.at u.from u.to) t.is_at (is.edges log merges t.at t.union t.within before.0) in
          gives pairs (λ p has. incl p (subst (λ xs. Contains (named log xs) p) (sym before.2) has))
          (granted_old ps us pairs gs gs' t.more' a b goal t.at m t.goals granted le within (λ e. absurd (goal_apart ps us goal gs gs' told told' ss ss' count unions t e)))
      | inr now ↦ elim now.1 [
        | inl step ↦
            let merge : IsMerge log step.0 t.union.from t.union.to =
            subst (λ (u : Union). IsMerge log step.0 u.from u.to) t.is_at
            (merges t.at step.0 t.union t.within (subst (λ (u : Union). u.reason ≡ AtStep step.0) (sym t.is_at) step.1)) in
            merge_gives ps log pairs step.0 t.union.from t.union.to merge
            (λ p has. incl p (subst (λ xs. Contains (named log xs) p) (sym step.2) (named_last log ss step.0 p has)))
        | inr al ↦
            let c : AreCongruent ps us t.at t.union.from t.union.to =
            subst (λ (u : Union). AreCongruent ps us t.at u.from u.to) t.is_at
            (alike t.at t.union t.within (subst (λ (u : Union). u.reason ≡ Alike) (sym t.is_at) al.0)) in
            let is' : List ℕ = (point_at ps t.union.from).arguments in
            let js' : List ℕ = (point_at ps t.union.to).arguments in
            applied c.alike (λ k less.
            granted (goal_of (get_or is' k 0) (get_or js' k 0))
            (more_goal gs gs' t.more' a b (goal_of (get_or is' k 0) (get_or js' k 0)) t.goals
            (subst (λ hs. Contains hs (goal_of (get_or is' k 0) (get_or js' k 0))) (sym al.2) (paired_has is' js' k less c.alike.count)))
            (before_later us t.at m (get_or is' k 0) (get_or js' k 0) le within (c.arguments k less)))
      ]
    ]

-- the goal's points are equal
pub goal_equal : (ps : List Point) (us : List Union) (i j count : ℕ) (goal : Goal) (gs gs' : List Goal) (told told' : List Bool) (ss ss' : List ℕ) (log : List Step) (pairs : List Pair) (m : ℕ)
    → AreUnions count us → AlikeAreCongruent ps us → StepsAreMerges log us → IsExplaining ps us i j (gs ++ goal ∷ []) told ss
    → (t : Tells ps us goal gs gs' told told' ss ss') → Included log ss' pairs → Granted ps us pairs gs' m → t.at ≤ m → m ≤ length us
    → Equal ps pairs goal.left goal.right
goal_equal ps us i j count goal gs gs' told told' ss ss' log pairs m unions alike merges is t incl granted le within =
    let a : Goal = goal_of t.one t.union.from in
    let b : Goal = goal_of t.other t.union.to in
    let u : IsUnion count (take t.at us) t.union = union_is count us t.at t.union unions t.within t.is_at in
    let middle : Equal ps pairs t.union.from t.union.to = union_equal ps us i j count goal gs gs' told told' ss ss' log pairs m unions alike merges is t incl granted le within in
    let first : Equal ps pairs t.one t.union.from =
    granted a (one_goal gs gs' t.more' a b t.goals) (before_later us t.at m t.one t.union.from le within (t.one_root ∙ sym u.from_root)) in
    let last : Equal ps pairs t.other t.union.to =
    granted b (other_goal gs gs' t.more' a b t.goals) (before_later us t.at m t.other t.union.to le within (t.other_root ∙ sym u.to_root)) in
    let all : Equal ps pairs t.one t.other = joined first (joined middle (turned last)) in
    elim t.sides [
      | inl s ↦ subst (λ x. Equal ps pairs x goal.right) s.0 (subst (λ y. Equal ps pairs t.one y) s.1 all)
      | inr s ↦ turned (subst (λ x. Equal ps pairs x goal.left) s.0 (subst (λ y. Equal ps pairs t.one y) s.1 all))
    ]

-- steps that were named stay named
included_old : (ps : List Point) (us : List Union) (goal : Goal) (gs gs' : List Goal) (told told' : List Bool) (ss ss' : List ℕ) (log : List Step) (pairs : List Pair)
    → (t : Tells ps us goal gs gs' told told' ss ss') → Included log ss' pairs → Included log ss pairs
included_old ps us goal gs gs' told told' ss ss' log pairs t incl p has = elim t.is_told [
  | inl before ↦ incl p (subst (λ xs. Contains (named log xs) p) (sym before.2) has)
  | inr now ↦ elim now.1 [
    | inl step ↦ incl p (subst (λ xs. Contains (named log xs) p) (sym step.2) (named_left log ss (step.0 ∷ []) p has))
    | inr al ↦ incl p (subst (λ xs. Contains (named log xs) p) (sym al.1) has)
  ]
]

-- what held of a union with all goals holds with those that the goal gave way to
gives_on : (ps : List Point) (us : List Union) (i j count x y k : ℕ) (goal : Goal) (gs gs' : List Goal) (told told' : List Bool) (ss ss' : List ℕ) (log : List Step)
    → AreUnions count us → AlikeAreCongruent ps us → StepsAreMerges log us → IsExplaining ps us i j (gs ++ goal ∷ []) told ss
    → (t : Tells ps us goal gs gs' told told' ss ss') → k ≤ length us → Gives ps log us (gs ++ goal ∷ []) ss k x y → Gives ps log us gs' ss' k x y
gives_on ps us i j count x y k goal gs gs' told told' ss ss' log unions alike merges is t within gives pairs incl granted =
    let a : Goal = goal_of t.one t.union.from in
    let b : Goal = goal_of t.other t.union.to in
    gives pairs (included_old ps us goal gs gs' told told' ss ss' log pairs t incl)
    (granted_old ps us pairs gs gs' t.more' a b goal k k t.goals granted (omega arith) within
    (λ e. elim (cases_lt k t.at) [
      | inl early ↦
          let at_within : t.at < length us = t.within in
          absurd (goal_apart ps us goal gs gs' told told' ss ss' count unions t (before_later us k t.at goal.left goal.right (omega arith) (omega arith) e))
      | inr late ↦ goal_equal ps us i j count goal gs gs' told told' ss ss' log pairs k unions alike merges is t incl granted late within
    ]))

told_cases : (told told' : List Bool) (at k : ℕ) → told' ≡ set told at true → get_or told' k false ≡ true → (get_or told k false ≡ true) ⊎ (k ≡ at)
told_cases told told' at k e h = elim (cases_eq k at) [
  | inl is ↦ inr is
  | inr ne ↦ inl (sym (get_or-set_other told at k true false ne) ∙ ap (λ bs. get_or bs k false) (sym e) ∙ h)
]

pub edges_on : (ps : List Point) (us : List Union) (i j count : ℕ) (goal : Goal) (gs gs' : List Goal) (told told' : List Bool) (ss ss' : List ℕ) (log : List Step)
    → AreUnions count us → AlikeAreCongruent ps us → StepsAreMerges log us → IsExplaining ps us i j (gs ++ goal ∷ []) told ss
    → (t : Tells ps us goal gs gs' told told' ss ss') → (k : ℕ) (d : Union) → k < length us → get_or told' k false ≡ true
    → Gives ps log us gs' ss' k (get_or us k d).from (get_or us k d).to
edges_on ps us i j count goal gs gs' told told' ss ss' log unions alike merges is t k d less h = elim t.is_told [
  | inl before ↦
      gives_on ps us i j count (get_or us k d).from (get_or us k d).to k goal gs gs' told told' ss ss' log unions alike merges is t (omega arith)
      (is.edges log merges k d less (ap (λ bs. get_or bs k false) (sym before.1) ∙ h))
  | inr now ↦ elim (told_cases told told' t.at k now.0 h) [
    | inl old ↦
        gives_on ps us i j count (get_or us k d).from (get_or us k d).to k goal gs gs' told told' ss ss' log unions alike merges is t (omega arith) (is.edges log merges k d less old)
    | inr new ↦ λ pairs incl granted.
        let e : get_or us k d ≡ t.union = nothing_else us k d t.union less ∙ ap (λ n. get_or us n t.union) new ∙ t.is_at in
        subst (λ (u : Union). Equal ps pairs u.from u.to) (sym e)
        (union_equal ps us i j count goal gs gs' told told' ss ss' log pairs k unions alike merges is t incl granted (omega arith) (omega arith))
  ]
]

pub given_on : (ps : List Point) (us : List Union) (i j count : ℕ) (goal : Goal) (gs gs' : List Goal) (told told' : List Bool) (ss ss' : List ℕ) (log : List Step)
    → AreUnions count us → AlikeAreCongruent ps us → StepsAreMerges log us → IsExplaining ps us i j (gs ++ goal ∷ []) told ss
    → (t : Tells ps us goal gs gs' told told' ss ss') → Gives ps log us gs' ss' (length us) i j
given_on ps us i j count goal gs gs' told told' ss ss' log unions alike merges is t =
    gives_on ps us i j count i j (length us) goal gs gs' told told' ss ss' log unions alike merges is t (omega arith) (is.given_ends log merges)

-- ---- what a call of `tell` does

tells_with : (ps : List Point) (us : List Union) (goal : Goal) (gs gs' : List Goal) (told told' : List Bool) (ss ss' : List ℕ) (at : ℕ) (union : Union) (ends : Goal) (more' : List Goal)
    → at < length us → get_or us at union ≡ union → gs' ≡ ((gs ++ goal_of ends.left union.from ∷ []) ++ goal_of ends.right union.to ∷ []) ++ more' → IsTold ps union at told told' ss ss' more'
    → ((ends.left ≡ goal.left) × (ends.right ≡ goal.right)) ⊎ ((ends.left ≡ goal.right) × (ends.right ≡ goal.left))
    → root_of (take at us) ends.left ≡ union.gone → root_of (take at us) ends.right ≡ union.kept → Tells ps us goal gs gs' told told' ss ss'
tells_with ps us goal gs gs' told told' ss ss' at union ends more' within is g t sides one other = record {
  at = at;
  union = union;
  within = within;
  is_at = is;
  one = ends.left;
  other = ends.right;
  sides = sides;
  one_root = one;
  other_root = other;
  more' = more';
  goals = g ∙ append_assoc (gs ++ goal_of ends.left union.from ∷ []) (goal_of ends.right union.to ∷ []) more';
  is_told = t;
}

pub tells_by : (ps : List Point) (us : List Union) (goal : Goal) (gs gs' : List Goal) (told told' : List Bool) (ss ss' : List ℕ) (at : ℕ) (turned' : Bool) (union : Union) (ends : Goal) (more' : List Goal)
    → IsNewest us goal.left goal.right (record { union = at; turned = turned' }) → union ≡ get_or us at union → ends ≡ (if turned' then goal_of goal.right goal.left else goal)
    → gs' ≡ ((gs ++ goal_of ends.left union.from ∷ []) ++ goal_of ends.right union.to ∷ []) ++ more'
    → IsTold ps union at told told' ss ss' more' → Tells ps us goal gs gs' told told' ss ss'
tells_by ps us goal gs gs' told told' ss ss' at false union ends more' n is e g t =
    tells_with ps us goal gs gs' told told' ss ss' at union ends more' n.within (sym is) g t (inl (ap (λ (x : Goal). x.left) e, ap (λ (x : Goal). x.right) e))
    (ap (λ (x : Goal). root_of (take at us) x.left) e ∙ n.left_root union ∙ ap (λ (u : Union). u.gone) (sym is))
    (ap (λ (x : Goal). root_of (take at us) x.right) e ∙ n.right_root union ∙ ap (λ (u : Union). u.kept) (sym is))
tells_by ps us goal gs gs' told told' ss ss' at true union ends more' n is e g t =
    tells_with ps us goal gs gs' told told' ss ss' at union ends more' n.within (sym is) g t (inr (ap (λ (x : Goal). x.left) e, ap (λ (x : Goal). x.right) e))
    (ap (λ (x : Goal). root_of (take at us) x.left) e ∙ n.right_root union ∙ ap (λ (u : Union). u.gone) (sym is))
    (ap (λ (x : Goal). root_of (take at us) x.right) e ∙ n.left_root union ∙ ap (λ (u : Union). u.kept) (sym is))

pub whole_before : (us : List Union) (i j : ℕ) → AreBefore us (length us) i j → root_of us i ≡ root_of us j
whole_before us i j e = ap (λ vs. root_of vs i) (sym (take_all (length us) us (omega arith))) ∙ e ∙ ap (λ vs. root_of vs j) (take_all (length us) us (omega arith))
