-- What follows from the reasons of steps.
use Rattle.std.proofs.Common.{◌≡◌, ℕ, ◌<◌, Bool, true, false, not, List, [], ◌∷◌, map, length, All, Contains, refl, sym, ap, subst, inl, inr, arith}
use Rattle.std.specs.Prelude.{◌||◌}
use Rattle.std.proofs.lemmas.List.Elements.{All-nil, All-cons, All-head, All-tail, All-weaker, All-contains, All-contains_itself, All-map, Contains-append_cases, Contains-append_right}
use Rattle.literals.specs.Signed.{Signed, opposite, sign, literal_true, some_true}
use Rattle.smt_meaning.specs.declared.values.Value.TheVariants.{Truth}
use Rattle.smt_meaning.specs.declared.clauses.Atom.{Atom}
use Rattle.smt_meaning.specs.Declaration.{Declaration}
use Rattle.smt_meaning.specs.Term.{Tree, Interpretation}
use Rattle.smt_meaning.specs.Interpretation.{Interprets}
use Rattle.search_port.specs.State.{IsFalseIn, AllFalseIn}
use Rattle.point_closure.specs.declared.step.Step.{Step}
use Rattle.point_closure.specs.declared.step.Step.TheVariants.{Merge, Differ}
use Rattle.point_closure.specs.Closure.{Point, Pair, AreRead}
use Rattle.point_closure.specs.Laws.{point_value, MakesPairsTrue, EqualPointsHaveOneValue}
use Rattle.point_closure.specs.Explained.{step_at, step_pairs, named, Explains}
use Rattle.congruence.specs.Reasons.{reason_at, negation_at, HaveTheSame, IsTruthConflict, IsStepConflict}
use Rattle.congruence.specs.Justified.{StepHolds, truth_by, IsJustified, AreJustified}
use Rattle.congruence.specs.Clauses.{IsTrueEverywhere, IsFalseClause}
use Rattle.congruence.specs.Laws.{ReasonsMakeEqual, ClashIsFalseClause}

-- ---- tests

pub left_false : (a b : Bool) → (a || b) ≡ false → a ≡ false
left_false true b h = absurd cc
left_false false b h = refl

pub right_false : (a b : Bool) → (a || b) ≡ false → b ≡ false
right_false true b h = absurd cc
right_false false b h = h

pub each_false : (f : ℕ → Bool) (ls : List Signed) → some_true f ls ≡ false → All (λ (l : Signed). literal_true f l ≡ false) ls
each_false f [] h = All-nil (λ (l : Signed). literal_true f l ≡ false)
each_false f (l ∷ ls) h =
    All-cons (λ (m : Signed). literal_true f m ≡ false) l ls (left_false (literal_true f l) (some_true f ls) h) (each_false f ls (right_false (literal_true f l) (some_true f ls) h))

pub true_unless : (b : Bool) → (b ≡ false → ⊥) → b ≡ true
true_unless true h = refl
true_unless false h = absurd (h refl)

opposite_sign : (s b : Bool) → sign (not s) b ≡ false → sign s b ≡ true
opposite_sign true true h = refl
opposite_sign true false h = absurd cc
opposite_sign false true h = absurd cc
opposite_sign false false h = refl

-- a literal is true where its negation is false
pub true_where : (f : ℕ → Bool) (l : Signed) → literal_true f (opposite l) ≡ false → literal_true f l ≡ true
true_where f l h = opposite_sign l.positive (f l.atom) h

twice_not : (b : Bool) → not (not b) ≡ b
twice_not true = refl
twice_not false = refl

pub twice : (l : Signed) → opposite (opposite l) ≡ l
twice l = ap (λ (b : Bool). let m : Signed = record { atom = l.atom; positive = b } in m) (twice_not l.positive)

-- ---- lists

pub unmapped : {X Y : Type 0} (P : Y → Type 0) (f : X → Y) (xs : List X) → All P (map f xs) → All (λ x. P (f x)) xs
unmapped P f [] h = All-nil (λ x. P (f x))
unmapped P f (x ∷ xs) h = All-cons (λ y. P (f y)) x xs (All-head P (f x) (map f xs) h) (unmapped P f xs (All-tail P (f x) (map f xs) h))

pub both : {X : Type 0} (P Q R : X → Type 0) → ((x : X) → P x → Q x → R x) → (xs : List X) → All P xs → All Q xs → All R xs
both P Q R f [] h k = All-nil R
both P Q R f (x ∷ xs) h k = All-cons R x xs (f x (All-head P x xs h) (All-head Q x xs k)) (both P Q R f xs (All-tail P x xs h) (All-tail Q x xs k))

-- what holds of each literal holds of those among them
pub all_of_same : (P : Signed → Type 0) (ls ms : List Signed) → ((l : Signed) → Contains ms l → Contains ls l) → All P ls → All P ms
all_of_same P ls ms among h = All-weaker (Contains ls) P (λ l c. All-contains P ls l h c) ms (All-weaker (Contains ms) (Contains ls) (λ l c. among l c) ms (All-contains_itself ms))

-- ---- merged pairs

pair_of_step : (ts : List Tree) (I : Interpretation) (s : Step) (p : Pair) → StepHolds ts I s → Contains (step_pairs s) p → point_value ts I p.left ≡ point_value ts I p.right
pair_of_step ts I (Merge i j) p h c = All-contains (λ (q : Pair). point_value ts I q.left ≡ point_value ts I q.right) (step_pairs (Merge i j)) p
    (All-cons (λ (q : Pair). point_value ts I q.left ≡ point_value ts I q.right) (record { left = i; right = j }) [] h (All-nil (λ (q : Pair). point_value ts I q.left ≡ point_value ts I q.right))) c
pair_of_step ts I (Differ i j) p h c = All-contains (λ (q : Pair). point_value ts I q.left ≡ point_value ts I q.right) [] p (All-nil (λ (q : Pair). point_value ts I q.left ≡ point_value ts I q.right)) c

pairs_true : (ts : List Tree) (I : Interpretation) (log : List Step) (ss : List ℕ) → All (λ s. StepHolds ts I (step_at log s)) ss → MakesPairsTrue ts I (named log ss)
pairs_true ts I log [] h = λ p c. All-contains (λ (q : Pair). point_value ts I q.left ≡ point_value ts I q.right) [] p (All-nil (λ (q : Pair). point_value ts I q.left ≡ point_value ts I q.right)) c
pairs_true ts I log (s ∷ ss) h = λ p c.
    elim (Contains-append_cases (step_pairs (step_at log s)) (named log ss) p c) [
      | inl here ↦ pair_of_step ts I (step_at log s) p (All-head (λ n. StepHolds ts I (step_at log n)) s ss h) here
      | inr later ↦ pairs_true ts I log ss (All-tail (λ n. StepHolds ts I (step_at log n)) s ss h) p later
    ]

module _ (law : EqualPointsHaveOneValue) (ds : List Declaration) (ts : List Tree) (table : List Atom) (ps : List Point) (log : List Step) (rs : List Signed) (read : AreRead ts ps)
    (justified : AreJustified ds ts table log rs) (I : Interpretation) (interprets : Interprets ds I) where
  -- where the reasons of steps are true the points that they make equal have one value
  pub equal_by : (ss : List ℕ) (i j : ℕ) → Explains ps log ss i j → All (λ s. literal_true (truth_by ts table I) (reason_at rs s) ≡ true) ss → point_value ts I i ≡ point_value ts I j
  equal_by ss i j e h =
      law ts ps (named log ss) I i j read
      (pairs_true ts I log ss
      (both (λ s. s < length log) (λ s. literal_true (truth_by ts table I) (reason_at rs s) ≡ true) (λ s. StepHolds ts I (step_at log s))
      (λ s less true'. justified.each s less I interprets true') ss e.steps h)) e.equal

  -- where the negations of the reasons are false
  pub equal_unless : (ss : List ℕ) (i j : ℕ) → Explains ps log ss i j → some_true (truth_by ts table I) (map (negation_at rs) ss) ≡ false → point_value ts I i ≡ point_value ts I j
  equal_unless ss i j e h =
      equal_by ss i j e
      (All-weaker (λ s. literal_true (truth_by ts table I) (negation_at rs s) ≡ false) (λ s. literal_true (truth_by ts table I) (reason_at rs s) ≡ true)
      (λ s k. true_where (truth_by ts table I) (reason_at rs s) k) ss
      (unmapped (λ (l : Signed). literal_true (truth_by ts table I) l ≡ false) (negation_at rs) ss (each_false (truth_by ts table I) (map (negation_at rs) ss) h)))

pub reasons_equal : EqualPointsHaveOneValue → ReasonsMakeEqual
reasons_equal law ds ts table ps steps reasons ls i j I read justified are interprets h =
    equal_by law ds ts table ps steps reasons read justified I interprets are.steps i j are.explains
    (unmapped (λ (l : Signed). literal_true (truth_by ts table I) l ≡ true) (reason_at reasons) are.steps
    (all_of_same (λ (l : Signed). literal_true (truth_by ts table I) l ≡ true) ls (map (reason_at reasons) are.steps) (λ l c. are.literals.same.all l c) h))

-- ---- the same literals

true_by : (f : ℕ → Bool) (l : Signed) (ls : List Signed) → Contains ls l → literal_true f l ≡ true → some_true f ls ≡ true
true_by f l ls c h = true_unless (some_true f ls) (λ e. clash (literal_true f l) h (All-contains (λ (m : Signed). literal_true f m ≡ false) ls l (each_false f ls e) c))
  where
    clash : (b : Bool) → b ≡ true → b ≡ false → ⊥
    clash true h k = cc
    clash false h k = cc

-- one with all literals of another is false only where that is
pub false_part : (f : ℕ → Bool) (ls ms : List Signed) → ((l : Signed) → Contains ls l → Contains ms l) → some_true f ms ≡ false → some_true f ls ≡ false
false_part f [] ms h e = refl
false_part f (l ∷ ls) ms h e =
    or_false (literal_true f l) (some_true f ls) (All-contains (λ (m : Signed). literal_true f m ≡ false) ms l (each_false f ms e) (h l (0, omega arith, refl)))
    (false_part f ls ms (λ m c. h m (Contains-append_right (l ∷ []) ls m c)) e)
  where
    or_false : (a b : Bool) → a ≡ false → b ≡ false → (a || b) ≡ false
    or_false true b h k = cc
    or_false false b h k = k

pub same_valid : (ds : List Declaration) (ts : List Tree) (table : List Atom) (ls ms : List Signed) → HaveTheSame ls ms → IsTrueEverywhere ds ts table ls → IsTrueEverywhere ds ts table ms
same_valid ds ts table ls ms same h I interprets =
    true_unless (some_true (truth_by ts table I) ms) (λ e. clash (h I interprets) (false_part (truth_by ts table I) ls ms (λ l c. same.all l c) e))
  where
    clash : {b : Bool} → b ≡ true → b ≡ false → ⊥
    clash h k = cc

pub same_conflict : (ds : List Declaration) (ts : List Tree) (table : List Atom) (log ls ms : List Signed) → HaveTheSame ls ms → IsFalseClause ds ts table log ls → IsFalseClause ds ts table log ms
same_conflict ds ts table log ls ms same h = record {
  is_false = all_of_same (IsFalseIn log) ls ms (λ l c. same.only l c) h.is_false;
  valid = same_valid ds ts table ls ms same h.valid;
}

-- ---- conflicts

-- a step's reason is one that the log tells
pub reason_told : (log rs : List Signed) (s : ℕ) → All (Contains log) rs → s < length rs → Contains log (reason_at rs s)
reason_told log rs s h less = h s (record { atom = 0; positive = true }) less

negation_false : (log rs : List Signed) (s : ℕ) → All (Contains log) rs → s < length rs → IsFalseIn log (negation_at rs s)
negation_false log rs s h less = subst (Contains log) (sym (twice (reason_at rs s))) (reason_told log rs s h less)

negations_false : (log rs : List Signed) (ss : List ℕ) → All (Contains log) rs → All (λ s. s < length rs) ss → AllFalseIn log (map (negation_at rs) ss)
negations_false log rs ss h less = All-map (IsFalseIn log) (negation_at rs) ss (All-weaker (λ s. s < length rs) (λ s. IsFalseIn log (negation_at rs s)) (λ s k. negation_false log rs s h k) ss less)

pub truths_differ : (ts : List Tree) (I : Interpretation) → point_value ts I 0 ≡ point_value ts I 1 → ⊥
truths_differ ts I e = apart e
  where
    apart : Truth true ≡ Truth false → ⊥
    apart h = cc

module _ (law : EqualPointsHaveOneValue) (ds : List Declaration) (ts : List Tree) (table : List Atom) (ps : List Point) (steps : List Step) (rs log ls : List Signed) (read : AreRead ts ps)
    (justified : AreJustified ds ts table steps rs) (told : All (Contains log) rs) where
  in_reasons : (ss : List ℕ) → All (λ s. s < length steps) ss → All (λ s. s < length rs) ss
  in_reasons ss h = subst (λ n. All (λ s. s < n) ss) (sym justified.as_many) h

  of_truths : IsTruthConflict ps steps rs ls → IsFalseClause ds ts table log ls
  of_truths c = same_conflict ds ts table log (map (negation_at rs) c.steps) ls c.literals.same (record {
    is_false = negations_false log rs c.steps told (in_reasons c.steps c.explains.steps);
    valid = λ I interprets. true_unless (some_true (truth_by ts table I) (map (negation_at rs) c.steps))
        (λ h. truths_differ ts I (equal_unless law ds ts table ps steps rs read justified I interprets c.steps 0 1 c.explains h));
  })

  of_step : IsStepConflict ps steps rs ls → IsFalseClause ds ts table log ls
  of_step c =
      let differs : (I : Interpretation) → Interprets ds I → literal_true (truth_by ts table I) (reason_at rs c.differ) ≡ true → point_value ts I c.left ≡ point_value ts I c.right → ⊥ =
      subst (IsJustified ds ts table (reason_at rs c.differ)) c.is (justified.each c.differ c.within) in
      same_conflict ds ts table log (negation_at rs c.differ ∷ map (negation_at rs) c.steps) ls c.literals.same (record {
        is_false =
            All-cons (IsFalseIn log) (negation_at rs c.differ) (map (negation_at rs) c.steps)
            (negation_false log rs c.differ told (subst (λ n. c.differ < n) (sym justified.as_many) c.within))
            (negations_false log rs c.steps told (in_reasons c.steps c.explains.steps));
        valid = λ I interprets. true_unless (some_true (truth_by ts table I) (negation_at rs c.differ ∷ map (negation_at rs) c.steps))
            (λ h. differs I interprets
            (true_where (truth_by ts table I) (reason_at rs c.differ) (left_false (literal_true (truth_by ts table I) (negation_at rs c.differ)) (some_true (truth_by ts table I) (map (negation_at rs) c.steps)) h))
            (equal_unless law ds ts table ps steps rs read justified I interprets c.steps c.left c.right c.explains
            (right_false (literal_true (truth_by ts table I) (negation_at rs c.differ)) (some_true (truth_by ts table I) (map (negation_at rs) c.steps)) h)));
      })

pub clash_false : EqualPointsHaveOneValue → ClashIsFalseClause
clash_false law ds ts table c log ls read justified told clash =
    elim clash [
      | inl h ↦ of_truths law ds ts table c.closure.graph c.closure.steps.items c.reasons.items log ls read justified told h
      | inr h ↦ of_step law ds ts table c.closure.graph c.closure.steps.items c.reasons.items log ls read justified told h
    ]
