-- Classes and equality: the closure is the least, and justified unions stay within it.
use Rattle.std.proofs.Common.{◌≡◌, ℕ, zero, suc, ◌<◌, ◌≤◌, List, [], ◌∷◌, length, take, get_or, refl, sym, ◌∙◌, subst, inl, inr, arith}
use Rattle.std.specs.Prelude.{Contains}
use Rattle.std.proofs.lemmas.Bool.{cases_eq}
use Rattle.std.proofs.lemmas.List.{take_all}
use Rattle.std.proofs.lemmas.List.Elements.{Contains-append_left, Contains-append_right}
use Rattle.point_closure.specs.declared.classes.Union.{Union}
use Rattle.point_closure.specs.declared.classes.Reason.{Reason}
use Rattle.point_closure.specs.declared.classes.Reason.TheVariants.{Alike, Step as AtStep}
use Rattle.point_closure.specs.declared.step.Step.{Step}
use Rattle.point_closure.specs.Closure.{Point, Pair, point_at, Equal, given, same, turned, joined, applied}
use Rattle.point_closure.specs.Unions.{root_of, IsUnion, AreUnions}
use Rattle.point_closure.specs.Explained.{step_at, step_pairs, merged, IsMerge, AreBefore, AreCongruent, AlikeAreCongruent, StepsAreMerges}
use Rattle.point_closure.specs.Laws.{Respects}
use Rattle.point_closure.proofs.UnionLemmas.{root_suc, after_gone, after_other, nothing}
use Rattle.point_closure.proofs.ExplainLemmas.{merge_gives}

pub equal_class : (ps : List Point) (pairs : List Pair) (class : ℕ → ℕ) → Respects ps pairs class → {i j : ℕ} → Equal ps pairs i j → class i ≡ class j
equal_class ps pairs class r (given {i = i} {j = j} c) = r.pairs_in_one (record { left = i; right = j }) c
equal_class ps pairs class r same = refl
equal_class ps pairs class r (turned e) = sym (equal_class ps pairs class r e)
equal_class ps pairs class r (joined e f) = equal_class ps pairs class r e ∙ equal_class ps pairs class r f
equal_class ps pairs class r (applied {i = i} {j = j} alike each) = r.congruent i j alike (λ k less. equal_class ps pairs class r (each k less))

merged_has : (log : List Step) (s : ℕ) (p : Pair) → s < length log → Contains (step_pairs (step_at log s)) p → Contains (merged log) p
merged_has [] s p less has = absurd (omega arith)
merged_has (t ∷ ts) zero p less has = Contains-append_left (step_pairs t) (merged ts) p has
merged_has (t ∷ ts) (suc s) p less has = Contains-append_right (step_pairs t) (merged ts) p (merged_has ts s p (omega arith) has)

no_unions : (i : ℕ) → root_of [] i ≡ i
unfolding root_of
no_unions i = refl

-- each point is equal to its root after the first unions
to_root : (ps : List Point) (log : List Step) (us : List Union) → AreUnions (length ps) us → AlikeAreCongruent ps us → StepsAreMerges log us
    → (n : ℕ) → n ≤ length us → (i : ℕ) → Equal ps (merged log) i (root_of (take n us) i)
to_root ps log us unions alike merges zero within i = subst (λ r. Equal ps (merged log) i r) (sym (no_unions i)) same
to_root ps log us unions alike merges (suc n) within i =
    let u : Union = get_or us n nothing in
    let is : IsUnion (length ps) (take n us) u = unions.at n nothing within in
    let before : (j : ℕ) → Equal ps (merged log) j (root_of (take n us) j) = to_root ps log us unions alike merges n (omega arith) in
    let between : (j k : ℕ) → AreBefore us n j k → Equal ps (merged log) j k = λ j k e.
    joined (before j) (subst (λ r. Equal ps (merged log) r k) (sym e) (turned (before k))) in
    let ends : Equal ps (merged log) u.from u.to = union_ends ps log us alike merges n within between u.reason refl in
    let roots : Equal ps (merged log) u.gone u.kept =
    joined (turned (subst (λ r. Equal ps (merged log) u.from r) is.from_root (before u.from))) (joined ends (subst (λ r. Equal ps (merged log) u.to r) is.to_root (before u.to))) in
    elim (cases_eq (root_of (take n us) i) u.gone) [
      | inl gone ↦
          subst (λ r. Equal ps (merged log) i r) (sym (root_suc us n nothing i within ∙ after_gone u (root_of (take n us) i) (sym gone)))
          (joined (subst (λ r. Equal ps (merged log) i r) gone (before i)) roots)
      | inr other ↦
          subst (λ r. Equal ps (merged log) i r) (sym (root_suc us n nothing i within ∙ after_other u (root_of (take n us) i) (λ f. other (sym f)))) (before i)
    ]
  where
    union_ends : (ps : List Point) (log : List Step) (us : List Union) → AlikeAreCongruent ps us → StepsAreMerges log us → (n : ℕ) → n < length us
        → ((j k : ℕ) → AreBefore us n j k → Equal ps (merged log) j k) → (r : Reason) → (get_or us n nothing).reason ≡ r
        → Equal ps (merged log) (get_or us n nothing).from (get_or us n nothing).to
    union_ends ps log us alike merges n less between Alike e =
        let c : AreCongruent ps us n (get_or us n nothing).from (get_or us n nothing).to = alike n nothing less e in
        applied c.alike (λ k l. between (get_or (point_at ps (get_or us n nothing).from).arguments k 0) (get_or (point_at ps (get_or us n nothing).to).arguments k 0) (c.arguments k l))
    union_ends ps log us alike merges n less between (AtStep s) e =
        let m : IsMerge log s (get_or us n nothing).from (get_or us n nothing).to = merges n s nothing less e in
        merge_gives ps log (merged log) s (get_or us n nothing).from (get_or us n nothing).to m (λ p has. merged_has log s p m.0 has)

pub root_equal : (ps : List Point) (log : List Step) (us : List Union) → AreUnions (length ps) us → AlikeAreCongruent ps us → StepsAreMerges log us
    → (i j : ℕ) → root_of us i ≡ root_of us j → Equal ps (merged log) i j
root_equal ps log us unions alike merges i j e =
    let whole : (k : ℕ) → Equal ps (merged log) k (root_of us k) = λ k.
    subst (λ vs. Equal ps (merged log) k (root_of vs k)) (take_all (length us) us (omega arith)) (to_root ps log us unions alike merges (length us) (omega arith) k) in
    joined (whole i) (subst (λ r. Equal ps (merged log) r j) (sym e) (turned (whole j)))
