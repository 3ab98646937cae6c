-- A conflict with one literal more is a clause by which its negation follows.
use Rattle.std.proofs.Common.{◌≡◌, ℕ, ◌<◌, Bool, true, false, not, List, [], ◌∷◌, ◌++◌, length, refl, sym, ap, ◌∙◌, subst, inl, inr, ◌⊎◌, arith}
use Rattle.std.specs.Prelude.{All, Contains, Option, Some, None, IfSome}
use Rattle.std.proofs.lemmas.List.Elements.{All-nil, All-cons, All-head, All-tail, Contains-append_right, Contains-push_cases}
use Rattle.literals.specs.Signed.{Signed, opposite}
use Rattle.search_port.specs.State.{TheoryState, IsFalseIn, AllFalseIn, IsOpenIn, IsPressing, IsConsistent}
use Rattle.search_port.specs.Calls.{IsConflict}
use Rattle.search_port.specs.declared.budget.Lemma.{Lemma}
use Rattle.congruence.specs.Clauses.{IsToldAtOneLevel}
use Rattle.bound_log.specs.Told.{State}
use Rattle.bound_log.specs.Atoms.{Knows}
use Rattle.bound_log.specs.Reporting.{IsClause}
use Rattle.bound_log.specs.Implied.{IsTried, IsImplied}
use Rattle.bound_log.proofs.Breaking.{twice}

not_itself : (b : Bool) → not b ≡ b → ⊥
not_itself true e = cc
not_itself false e = cc

is_not_opposite : (l : Signed) → opposite l ≡ l → ⊥
is_not_opposite l e = not_itself l.positive (ap (λ (m : Signed). m.positive) e)

-- what stands in a log with one literal more stands in the log, or is that literal
before_or_last : (log : List Signed) (l m : Signed) → Contains (log ++ l ∷ []) m → Contains log m ⊎ (m ≡ l)
before_or_last log l m c = elim (Contains-push_cases log l m c) [ inl before ↦ inl before | inr e ↦ inr (sym e) ]

-- ---- the log with one literal more

one_more_within : (n : ℕ) (log : List Signed) (l : Signed) → All (λ (m : Signed). m.atom < n) log → l.atom < n → All (λ (m : Signed). m.atom < n) (log ++ l ∷ [])
one_more_within n [] l all one = All-cons (λ (m : Signed). m.atom < n) l [] one (All-nil (λ (m : Signed). m.atom < n))
one_more_within n (k ∷ ks) l all one =
    All-cons (λ (m : Signed). m.atom < n) k (ks ++ l ∷ []) (All-head (λ (m : Signed). m.atom < n) k ks all)
    (one_more_within n ks l (All-tail (λ (m : Signed). m.atom < n) k ks all) one)

one_more_consistent : (log : List Signed) (l : Signed) → IsConsistent log → IsOpenIn log l → IsConsistent (log ++ l ∷ [])
one_more_consistent log l consistent is_open m here there = elim (before_or_last log l m here) [
  | inl in_log ↦ elim (before_or_last log l (opposite m) there) [
    | inl both ↦ consistent m in_log both
    | inr e ↦ is_open.1 (subst (Contains log) (sym (twice m) ∙ ap opposite e) in_log)
  ]
  | inr e ↦ elim (before_or_last log l (opposite m) there) [
    | inl other ↦ is_open.1 (subst (λ (n : Signed). Contains log (opposite n)) e other)
    | inr f ↦ is_not_opposite m (f ∙ sym e)
  ]
]

-- ---- what is false with it

-- the literal is the negation, or false without it
abbrev IsNegationOrFalse : List Signed → Signed → Signed → Type 0
IsNegationOrFalse log l m = (m ≡ opposite l) ⊎ IsFalseIn log m

without_last : (log : List Signed) (l m : Signed) → IsFalseIn (log ++ l ∷ []) m → IsNegationOrFalse log l m
without_last log l m is_false = elim (before_or_last log l (opposite m) is_false) [
  | inl before ↦ inr before
  | inr e ↦ inl (sym (twice m) ∙ ap opposite e)
]

all_without_last : (log : List Signed) (l : Signed) (ms : List Signed) → AllFalseIn (log ++ l ∷ []) ms → All (IsNegationOrFalse log l) ms
all_without_last log l [] all = All-nil (IsNegationOrFalse log l)
all_without_last log l (m ∷ ms) all =
    All-cons (IsNegationOrFalse log l) m ms (without_last log l m (All-head (IsFalseIn (log ++ l ∷ [])) m ms all)) (all_without_last log l ms (All-tail (IsFalseIn (log ++ l ∷ [])) m ms all))

has_or_false : (log : List Signed) (l : Signed) (ms : List Signed) → All (IsNegationOrFalse log l) ms → Contains ms (opposite l) ⊎ AllFalseIn log ms
has_or_false log l [] all = inr (All-nil (IsFalseIn log))
has_or_false log l (m ∷ ms) all = elim (All-head (IsNegationOrFalse log l) m ms all) [
  | inl e ↦ inl (subst (Contains (m ∷ ms)) e (0, omega arith, refl))
  | inr is_false ↦ elim (has_or_false log l ms (All-tail (IsNegationOrFalse log l) m ms all)) [
    | inl later ↦ inl (Contains-append_right (m ∷ []) ms (opposite l) later)
    | inr rest ↦ inr (All-cons (IsFalseIn log) m ms is_false rest)
  ]
]

negation_is_open : (log : List Signed) (l : Signed) → IsOpenIn log l → IsOpenIn log (opposite l)
negation_is_open log l is_open = (is_open.1, λ c. is_open.0 (subst (Contains log) (twice l) c))

presses : (log : List Signed) (l : Signed) (ms : List Signed) → IsOpenIn log l → AllFalseIn (log ++ l ∷ []) ms → IsPressing log ms
presses log l ms is_open all =
    let each : All (IsNegationOrFalse log l) ms = all_without_last log l ms all in
    elim (has_or_false log l ms each) [
      | inl stands ↦ inr (record { literal = opposite l; is_open = negation_is_open log l is_open; stands = stands; others = each })
      | inr rest ↦ inl rest
    ]

-- ---- together

pub implied_by : (s : State) (l : Signed) (c : Lemma) → l.atom < length s.said → IsOpenIn s.log l → IsTried s l c → IsImplied s c
implied_by s l c known is_open tried =
    record {
      lemma = λ ds t knows log told.
          let with_it : TheoryState = record { reading = t.reading; log = t.log ++ l ∷ []; variables = t.variables } in
          let open_there : IsOpenIn t.log l = subst (λ (ls : List Signed). IsOpenIn ls l) (sym log) is_open in
          let within : l.atom < length t.reading.table = subst (λ n. l.atom < n) knows.as_many known in
          let at_one_level : IsToldAtOneLevel ds with_it = record {
            one_level = told.one_level;
            declares = told.declares;
            atoms = told.atoms;
            within = one_more_within (length t.reading.table) t.log l told.within within;
            consistent = one_more_consistent t.log l told.consistent open_there;
          } in
          let conflict : IsConflict with_it c = tried.conflict ds with_it knows (ap (λ (ls : List Signed). ls ++ l ∷ []) log) at_one_level in
          (conflict.clause, presses t.log l c.literals open_there conflict.is_false);
    }

pub tried_by : (old mid : State) (l : Signed) (c : Lemma) → ((ts : _) → Knows ts old → Knows ts mid) → mid.log ≡ old.log ++ l ∷ [] → IsClause mid c → IsTried old l c
tried_by old mid l c stays log clause =
    record { conflict = λ ds t knows same told. clause.conflict ds t (stays t.reading.table knows) (same ∙ sym log) told }

pub if_some : {A : Type 0} {P Q : A → Type 0} (o : Option A) → ((a : A) → P a → Q a) → IfSome o P → IfSome o Q
if_some None f h = tt
if_some (Some a) f h = f a h
