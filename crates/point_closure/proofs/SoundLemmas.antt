-- One more union, one more pending pair, one more step.
use Rattle.std.proofs.Common.{◌≡◌, ℕ, ◌+◌, ◌<◌, ◌≤◌, List, [], ◌∷◌, ◌++◌, length, take, map, get_or, All, refl, sym, ap, ◌∙◌, subst, inl, inr, ◌⊎◌, arith}
use Rattle.std.specs.Prelude.{IsTrue}
use Rattle.std.proofs.lemmas.Bool.{cases_lt}
use Rattle.std.proofs.lemmas.List.{take_all, take-append-le, get_or_append_left, get_or_push, length_push, get_or-take, length-take-le, take-take}
use Rattle.point_closure.specs.declared.classes.Union.{Union}
use Rattle.point_closure.specs.declared.shape.Shape.{Shape}
use Rattle.point_closure.specs.declared.classes.Reason.TheVariants.{Alike, Step as AtStep}
use Rattle.point_closure.specs.declared.step.Step.{Step}
use Rattle.point_closure.specs.declared.step.Step.TheVariants.{Merge, Differ}
use Rattle.point_closure.specs.Closure.{Point, point_at, takes_part, AreAlike}
use Rattle.point_closure.specs.declared.shape.Shape.TheVariants.{Leaf}
use Rattle.point_closure.proofs.ClosureLaws.{point_within}
use Rattle.point_closure.specs.Unions.{after, root_of}
use Rattle.point_closure.specs.Explained.{IsMerge, AreBefore, AreCongruent, AlikeAreCongruent, StepsAreMerges}
use Rattle.point_closure.proofs.UnionLemmas.{root_push}
use Rattle.point_closure.specs.Signature.{Signature, signature}
use Rattle.point_closure.proofs.SignatureLemmas.{map_at, map_length}
use Rattle.point_closure.specs.Sound.{IsPending, IsJustified}
use Rattle.point_closure.specs.declared.pending.Pending.{Pending}
use Rattle.point_closure.specs.Whole.{IsLast}

pub All_push : {X : Type 0} (P : X → Type 0) (xs : List X) (x : X) → All P xs → P x → All P (xs ++ x ∷ [])
All_push P xs x all here k d less = elim (cases_lt k (length xs)) [
  | inl before ↦ subst P (sym (get_or_append_left xs (x ∷ []) d k before)) (all k d before)
  | inr above ↦ let longer : length (xs ++ x ∷ []) ≡ length xs + 1 = length_push xs x in
      subst P (sym (get_or_push xs x d k (omega arith))) here
]

all_before : (us : List Union) (i j : ℕ) → root_of us i ≡ root_of us j → AreBefore us (length us) i j
all_before us i j e = ap (λ vs. root_of vs i) (take_all (length us) us (omega arith)) ∙ e ∙ sym (ap (λ vs. root_of vs j) (take_all (length us) us (omega arith)))

pub pending_alike : (ps : List Point) (us : List Union) (log : List Step) (i j : ℕ) → i < length ps → j < length ps → IsTrue (takes_part (point_at ps i).shape) → signature ps us i ≡ signature ps us j
    → IsPending ps us log (record { left = i; right = j; reason = Alike })
pending_alike ps us log i j left right takes one =
    let classes : map (root_of us) (point_at ps i).arguments ≡ map (root_of us) (point_at ps j).arguments = ap (λ (s : Signature). s.classes) one in
    let count : length (point_at ps i).arguments ≡ length (point_at ps j).arguments = map_length (root_of us) (point_at ps i).arguments (point_at ps j).arguments classes in
    record {
      left_within = left;
      right_within = right;
      alike = λ e. record {
        alike = record { shape = ap (λ (s : Signature). s.shape) one; takes = takes; count = count };
        arguments = λ k less. all_before us (get_or (point_at ps i).arguments k 0) (get_or (point_at ps j).arguments k 0)
            (map_at (root_of us) (point_at ps i).arguments (point_at ps j).arguments k classes less (omega arith));
      };
      merge = λ s e. absurd (alike_not_step s e);
    }
  where
    alike_not_step : (s : ℕ) → Alike ≡ AtStep s → ⊥
    alike_not_step s e = cc

-- ---- one more union

before_push : (us : List Union) (u : Union) (i j : ℕ) → AreBefore us (length us) i j → AreBefore (us ++ u ∷ []) (length (us ++ u ∷ [])) i j
before_push us u i j e =
    all_before (us ++ u ∷ []) i j
    (root_push us u i ∙ ap (after u) (ap (λ vs. root_of vs i) (sym (take_all (length us) us (omega arith))) ∙ e ∙ ap (λ vs. root_of vs j) (take_all (length us) us (omega arith))) ∙ sym (root_push us u j))

before_left : (us : List Union) (u : Union) (k i j : ℕ) → k ≤ length us → AreBefore us k i j → AreBefore (us ++ u ∷ []) k i j
before_left us u k i j within e = subst (λ vs. root_of vs i ≡ root_of vs j) (sym (take-append-le k us (u ∷ []) within)) e

congruent_push : (ps : List Point) (us : List Union) (u : Union) (i j : ℕ) → AreCongruent ps us (length us) i j → AreCongruent ps (us ++ u ∷ []) (length (us ++ u ∷ [])) i j
congruent_push ps us u i j c = record {
  alike = c.alike;
  arguments = λ k less. before_push us u (get_or (point_at ps i).arguments k 0) (get_or (point_at ps j).arguments k 0) (c.arguments k less);
}

congruent_left : (ps : List Point) (us : List Union) (u : Union) (k i j : ℕ) → k ≤ length us → AreCongruent ps us k i j → AreCongruent ps (us ++ u ∷ []) k i j
congruent_left ps us u k i j within c = record {
  alike = c.alike;
  arguments = λ a less. before_left us u k (get_or (point_at ps i).arguments a 0) (get_or (point_at ps j).arguments a 0) within (c.arguments a less);
}

pub pending_push : (ps : List Point) (us : List Union) (log : List Step) (u : Union) (xs : List Pending) → All (IsPending ps us log) xs → All (IsPending ps (us ++ u ∷ []) log) xs
pending_push ps us log u xs all k d less =
    let p : IsPending ps us log (get_or xs k d) = all k d less in
    record {
      left_within = p.left_within;
      right_within = p.right_within;
      alike = λ e. congruent_push ps us u (get_or xs k d).left (get_or xs k d).right (p.alike e);
      merge = p.merge;
    }

pub alike_push : (ps : List Point) (us : List Union) (log : List Step) (u : Union) → AlikeAreCongruent ps us → IsJustified ps us log u → AlikeAreCongruent ps (us ++ u ∷ [])
alike_push ps us log u alike is k d less e = elim (cases_lt k (length us)) [
  | inl before ↦
      let at : get_or (us ++ u ∷ []) k d ≡ get_or us k d = get_or_append_left us (u ∷ []) d k before in
      subst (λ (v : Union). AreCongruent ps (us ++ u ∷ []) k v.from v.to) (sym at)
      (congruent_left ps us u k (get_or us k d).from (get_or us k d).to (omega arith) (alike k d before (subst (λ (v : Union). v.reason ≡ Alike) at e)))
  | inr above ↦
      let longer : length (us ++ u ∷ []) ≡ length us + 1 = length_push us u in
      let last : k ≡ length us = omega arith in
      let at : get_or (us ++ u ∷ []) k d ≡ u = get_or_push us u d k (sym last) in
      subst (λ (v : Union). AreCongruent ps (us ++ u ∷ []) k v.from v.to) (sym at)
      (subst (λ n. AreCongruent ps (us ++ u ∷ []) n u.from u.to) (sym last)
      (congruent_left ps us u (length us) u.from u.to (omega arith) (is.alike (subst (λ (v : Union). v.reason ≡ Alike) at e))))
]

pub merges_push : (ps : List Point) (us : List Union) (log : List Step) (u : Union) → StepsAreMerges log us → IsJustified ps us log u → StepsAreMerges log (us ++ u ∷ [])
merges_push ps us log u merges is k s d less e = elim (cases_lt k (length us)) [
  | inl before ↦
      let at : get_or (us ++ u ∷ []) k d ≡ get_or us k d = get_or_append_left us (u ∷ []) d k before in
      subst (λ (v : Union). IsMerge log s v.from v.to) (sym at) (merges k s d before (subst (λ (v : Union). v.reason ≡ AtStep s) at e))
  | inr above ↦
      let longer : length (us ++ u ∷ []) ≡ length us + 1 = length_push us u in
      let at : get_or (us ++ u ∷ []) k d ≡ u = get_or_push us u d k (omega arith) in
      subst (λ (v : Union). IsMerge log s v.from v.to) (sym at) (is.merge s (subst (λ (v : Union). v.reason ≡ AtStep s) at e))
]

-- ---- one more step, and fewer

merge_more : (log : List Step) (t : Step) (s i j : ℕ) → IsMerge log s i j → IsMerge (log ++ t ∷ []) s i j
merge_more log t s i j is = (
  let w : s < length log = is.0 in omega (arith, length_push log t),
  subst (λ (x : Step). (x ≡ Merge i j) ⊎ (x ≡ Merge j i)) (sym (get_or_append_left log (t ∷ []) (Differ 0 0) s is.0)) is.1,
)

pub merges_more : (log : List Step) (us : List Union) (t : Step) → StepsAreMerges log us → StepsAreMerges (log ++ t ∷ []) us
merges_more log us t merges k s d less e = merge_more log t s (get_or us k d).from (get_or us k d).to (merges k s d less e)

pub pending_more : (ps : List Point) (us : List Union) (log : List Step) (t : Step) (xs : List Pending) → All (IsPending ps us log) xs → All (IsPending ps us (log ++ t ∷ [])) xs
pending_more ps us log t xs all k d less =
    let p : IsPending ps us log (get_or xs k d) = all k d less in
    record {
      left_within = p.left_within;
      right_within = p.right_within;
      alike = p.alike;
      merge = λ s e. merge_more log t s (get_or xs k d).left (get_or xs k d).right (p.merge s e);
    }

pub pending_merge : (ps : List Point) (us : List Union) (log : List Step) (i j : ℕ) → i < length ps → j < length ps
    → IsPending ps us (log ++ Merge i j ∷ []) (record { left = i; right = j; reason = AtStep (length log) })
pending_merge ps us log i j left right = record {
  left_within = left;
  right_within = right;
  alike = λ e. absurd (step_not_alike (length log) e);
  merge = λ s e. subst (λ n. IsMerge (log ++ Merge i j ∷ []) n i j) (same_step (length log) s e)
      (omega (arith, length_push log (Merge i j)), inl (get_or_push log (Merge i j) (Differ 0 0) (length log) refl));
}
  where
    step_not_alike : (n : ℕ) → AtStep n ≡ Alike → ⊥
    step_not_alike n e = cc

    same_step : (m n : ℕ) → AtStep m ≡ AtStep n → m ≡ n
    same_step m n e = cc

pub last_pending : (ps : List Point) (us : List Union) (log : List Step) (i j index : ℕ) → i < length ps → j < length ps → IsLast log index (Merge i j) → IsPending ps us log (record { left = i; right = j; reason = AtStep index })
last_pending ps us log i j index left right last =
    subst (λ n. IsPending ps us log (record { left = i; right = j; reason = AtStep n })) (sym last.2)
    (subst (λ l. IsPending ps us l (record { left = i; right = j; reason = AtStep (length last.0) })) (sym last.1) (pending_merge ps us last.0 i j left right))

-- the first unions are justified as all are
pub alike_take : (ps : List Point) (us : List Union) (m : ℕ) → AlikeAreCongruent ps us → m ≤ length us → AlikeAreCongruent ps (take m us)
alike_take ps us m alike within k d less e =
    let size : length (take m us) ≡ m = length-take-le m us within in
    let less' : k < m = omega arith in
    let at : get_or (take m us) k d ≡ get_or us k d = get_or-take m us k d less' in
    let c : AreCongruent ps us k (get_or us k d).from (get_or us k d).to = alike k d (omega arith) (subst (λ (v : Union). v.reason ≡ Alike) at e) in
    let t : take k (take m us) ≡ take k us = take-take k m us (omega arith) in
    subst (λ (v : Union). AreCongruent ps (take m us) k v.from v.to) (sym at)
    (record { alike = c.alike; arguments = λ a l. subst (λ vs. root_of vs (get_or (point_at ps (get_or us k d).from).arguments a 0) ≡ root_of vs (get_or (point_at ps (get_or us k d).to).arguments a 0)) (sym t) (c.arguments a l) })

pub All_take : {X : Type 0} (P : X → Type 0) (xs : List X) (n : ℕ) → All P xs → All P (take n xs)
All_take P xs n all k d less = elim (cases_lt n (length xs)) [
  | inl short ↦
      let size : length (take n xs) ≡ n = length-take-le n xs (omega arith) in
      subst P (sym (get_or-take n xs k d (omega arith))) (all k d (omega arith))
  | inr long ↦ subst (λ ys. All P ys) (sym (take_all n xs long)) all k d less
]

pub All_none : {X : Type 0} (P : X → Type 0) (xs : List X) → xs ≡ [] → All P xs
All_none P xs e = subst (λ ys. All P ys) (sym e) (λ k d less. absurd (omega arith))

-- ---- the reason of a union of a pending pair, either way round

merge_turned : (log : List Step) (s i j : ℕ) → IsMerge log s i j → IsMerge log s j i
merge_turned log s i j is = (is.0, elim is.1 [ inl e ↦ inr e | inr e ↦ inl e ])

congruent_turned : (ps : List Point) (us : List Union) (k i j : ℕ) → AreCongruent ps us k i j → AreCongruent ps us k j i
congruent_turned ps us k i j c = record {
  alike = record { shape = sym c.alike.shape; takes = subst (λ (s : Shape). IsTrue (takes_part s)) c.alike.shape c.alike.takes; count = sym c.alike.count };
  arguments = λ a less. sym (c.arguments a (let e : length (point_at ps i).arguments ≡ length (point_at ps j).arguments = c.alike.count in omega arith));
}

pub justified_turned : (ps : List Point) (us : List Union) (log : List Step) (p : Pending) (gone kept : ℕ) → IsPending ps us log p
    → IsJustified ps us log (record { gone = gone; kept = kept; from = p.right; to = p.left; reason = p.reason })
justified_turned ps us log p gone kept is = record {
  alike = λ e. congruent_turned ps us (length us) p.left p.right (is.alike e);
  merge = λ s e. merge_turned log s p.left p.right (is.merge s e);
}

-- ---- one more point

point_left : (ps : List Point) (p : Point) (i : ℕ) → i < length ps → point_at (ps ++ p ∷ []) i ≡ point_at ps i
point_left ps p i less = get_or_append_left ps (p ∷ []) (record { shape = Leaf; arguments = [] }) i less

congruent_wider : (ps : List Point) (p : Point) (us : List Union) (k i j : ℕ) → AreCongruent ps us k i j → AreCongruent (ps ++ p ∷ []) us k i j
congruent_wider ps p us k i j c =
    let takes_j : IsTrue (takes_part (point_at ps j).shape) = subst (λ (s : Shape). IsTrue (takes_part s)) c.alike.shape c.alike.takes in
    let ei : point_at (ps ++ p ∷ []) i ≡ point_at ps i = point_left ps p i (point_within ps i c.alike.takes) in
    let ej : point_at (ps ++ p ∷ []) j ≡ point_at ps j = point_left ps p j (point_within ps j takes_j) in
    record {
      alike = subst (λ (x : Point). AreAlike x (point_at (ps ++ p ∷ []) j)) (sym ei) (subst (λ (y : Point). AreAlike (point_at ps i) y) (sym ej) c.alike);
      arguments = subst (λ (x : Point). (a : ℕ) → a < length x.arguments → AreBefore us k (get_or x.arguments a 0) (get_or (point_at (ps ++ p ∷ []) j).arguments a 0)) (sym ei)
          (subst (λ (y : Point). (a : ℕ) → a < length (point_at ps i).arguments → AreBefore us k (get_or (point_at ps i).arguments a 0) (get_or y.arguments a 0)) (sym ej) c.arguments);
    }

pub alike_wider : (ps : List Point) (p : Point) (us : List Union) → AlikeAreCongruent ps us → AlikeAreCongruent (ps ++ p ∷ []) us
alike_wider ps p us alike k d less e = congruent_wider ps p us k (get_or us k d).from (get_or us k d).to (alike k d less e)

pub pending_wider : (ps : List Point) (p : Point) (us : List Union) (log : List Step) (xs : List Pending) → All (IsPending ps us log) xs → All (IsPending (ps ++ p ∷ []) us log) xs
pending_wider ps p us log xs all k d less =
    let q : IsPending ps us log (get_or xs k d) = all k d less in
    let longer : length (ps ++ p ∷ []) ≡ length ps + 1 = length_push ps p in
    record {
      left_within = (let h : (get_or xs k d).left < length ps = q.left_within in omega arith);
      right_within = (let h : (get_or xs k d).right < length ps = q.right_within in omega arith);
      alike = λ e. congruent_wider ps p us (length us) (get_or xs k d).left (get_or xs k d).right (q.alike e);
      merge = q.merge;
    }

pub All_wider : (m n : ℕ) (xs : List ℕ) → m ≤ n → All (λ i. i < m) xs → All (λ i. i < n) xs
All_wider m n xs le all k d less = let h : get_or xs k d < m = all k d less in omega arith
