-- A clause is true wherever its premises are, if the steps by which the false clause is false are resolved by premises or falsify its literals.
use Rattle.std.proofs.Common.{◌≡◌, ℕ, zero, suc, ◌<◌, ◌||◌, Bool, true, false, not, List, [], ◌∷◌, map, length, Contains, All, subst, sym, ap, ◌∙◌, refl, inl, inr, ◌⊎◌, arith}
use Rattle.std.proofs.lemmas.List.Elements.{All-head, All-tail, All-contains, All-nil, All-cons}
use Rattle.literals.specs.Signed.{Signed, opposite, sign, literal_true, some_true}
use Rattle.clause_store.specs.declared.trail.Step.{Step}
use Rattle.clause_store.specs.Stored.{Kept}
use Rattle.conflict_learn.specs.declared.analysis.Mark.{Mark}
use Rattle.conflict_learn.specs.Analysing.{State, is_seen, is_waiting, mark_at, step_at, falsified, SeenAt, IsSound, IsGrounded, IsResolvedAt}
use Rattle.conflict_learn.specs.Learning.{PremisesTrue}
use Rattle.conflict_learn.proofs.Marks.{waiting_or_resolved}
use Rattle.clause_store.proofs.Filters.{none_in, in_head, in_tail, in_cases}

opposite_true : (values : ℕ → Bool) (l : Signed) → literal_true values (opposite l) ≡ true → literal_true values l ≡ false
opposite_true values l h = by_sign l.positive (values l.atom) h
  where
    by_sign : (p b : Bool) → sign (not p) b ≡ true → sign p b ≡ false
    by_sign true true h = cc
    by_sign true false h = refl
    by_sign false true h = refl
    by_sign false false h = cc

opposite_false : (values : ℕ → Bool) (l : Signed) → literal_true values (opposite l) ≡ false → literal_true values l ≡ true
opposite_false values l h = by_sign l.positive (values l.atom) h
  where
    by_sign : (p b : Bool) → sign (not p) b ≡ false → sign p b ≡ true
    by_sign true true h = refl
    by_sign true false h = cc
    by_sign false true h = cc
    by_sign false false h = refl

none_true : (values : ℕ → Bool) (ls : List Signed) → All (λ l. literal_true values l ≡ false) ls → some_true values ls ≡ false
none_true values [] h = refl
none_true values (l ∷ ls) h =
    let head : literal_true values l ≡ false = All-head (λ (x : Signed). literal_true values x ≡ false) l ls h in
    rw head (none_true values ls (All-tail (λ (x : Signed). literal_true values x ≡ false) l ls h))

true_false : (b : Bool) → b ≡ true → b ≡ false → ⊥
true_false b t f = cc

or_cases : {A : Type 0} (b c : Bool) → (b || c) ≡ true → (b ≡ true → A) → (c ≡ true → A) → A
or_cases true c h f g = f refl
or_cases false c h f g = g h

neither : (b c : Bool) → (b || c) ≡ false → (b ≡ false) × (c ≡ false)
neither true c h = cc
neither false c h = (refl, h)

all_false : (values : ℕ → Bool) (ls : List Signed) → some_true values ls ≡ false → All (λ l. literal_true values l ≡ false) ls
all_false values [] e = All-nil (λ (x : Signed). literal_true values x ≡ false)
all_false values (l ∷ ls) e =
    let both = neither (literal_true values l) (some_true values ls) e in
    All-cons (λ (x : Signed). literal_true values x ≡ false) l ls both.0 (all_false values ls both.1)

-- all but one are false, so that one is true
one_true : (values : ℕ → Bool) (ls : List Signed) (l : Signed) → some_true values ls ≡ true → All (λ m. (m ≡ l) ⊎ (literal_true values m ≡ false)) ls → literal_true values l ≡ true
one_true values [] l t h = cc
one_true values (m ∷ ls) l t h =
    elim (All-head (λ (x : Signed). (x ≡ l) ⊎ (literal_true values x ≡ false)) m ls h) [
      | inl e ↦ or_cases (literal_true values m) (some_true values ls) t (λ p. ap (literal_true values) (sym e) ∙ p) (λ q. one_true values ls l q (All-tail (λ (x : Signed). (x ≡ l) ⊎ (literal_true values x ≡ false)) m ls h))
      | inr f ↦ or_cases (literal_true values m) (some_true values ls) t (λ p. absurd (true_false _ p f)) (λ q. one_true values ls l q (All-tail (λ (x : Signed). (x ≡ l) ⊎ (literal_true values x ≡ false)) m ls h))
    ]

-- the steps that wait are true, so that all that were seen are, from the oldest on
record AllTrue (values : ℕ → Bool) (steps : List Step) (marks : List Mark) (n : ℕ) : Type 0 where
  seen : (k : ℕ) → k < n → is_seen (mark_at marks k) ≡ true → literal_true values (step_at steps k).literal ≡ true

false_by : (values : ℕ → Bool) (steps : List Step) (marks : List Mark) (n : ℕ) (m : Signed) → AllTrue values steps marks n → SeenAt steps marks n (opposite m) → literal_true values m ≡ false
false_by values steps marks n m h at = opposite_true values m (ap (literal_true values) (sym at.literal) ∙ h.seen at.place at.below at.is_seen)

at_most : (k i : ℕ) → k < suc i → (k < i) ⊎ (k ≡ i)
at_most k i h = grind arith

all_true : (values : ℕ → Bool) (clauses : List Kept) (steps : List Step) (s : State) (n : ℕ) → IsSound clauses steps s → PremisesTrue values clauses s.premises
    → ((k : ℕ) → is_waiting (mark_at s.marks k) ≡ true → literal_true values (step_at steps k).literal ≡ true) → AllTrue values steps s.marks n
all_true values clauses steps s zero h premises waiting = record { seen = λ k lt on. absurd (omega arith) }
all_true values clauses steps s (suc n) h premises waiting =
    let below : AllTrue values steps s.marks n = all_true values clauses steps s n h premises waiting in
    record {
      seen = λ k lt on. elim (at_most k n lt) [
        | inl less ↦ below.seen k less on
        | inr e ↦ subst (λ j. literal_true values (step_at steps j).literal ≡ true) (sym e)
            (elim (waiting_or_resolved (mark_at s.marks n) (subst (λ j. is_seen (mark_at s.marks j) ≡ true) e on)) [
              | inl w ↦ waiting n w
              | inr r ↦
                  let at : IsResolvedAt clauses steps s.marks s.premises n = h.resolved n r in
                  one_true values (at.by).literals (step_at steps n).literal (premises at.by at.kept at.among)
                  (λ j d in'. elim (at.covers j d in') [ inl same ↦ inl same | inr see ↦ inr (false_by values steps s.marks n _ below see) ])
            ])
      ];
    }

in_map : (steps : List Step) (ks : List ℕ) (k : ℕ) → Contains ks k → Contains (map (falsified steps) ks) (falsified steps k)
in_map steps [] k c = absurd (none_in k c)
in_map steps (j ∷ ks) k c = elim (in_cases j k ks c) [
  | inl e ↦ subst (λ i. Contains (falsified steps j ∷ map (falsified steps) ks) (falsified steps i)) e (in_head (falsified steps j) (map (falsified steps) ks))
  | inr rest ↦ in_tail (falsified steps j) (falsified steps k) (map (falsified steps) ks) (in_map steps ks k rest)
]

pub true_wherever : (clauses : List Kept) (steps : List Step) (s : State) (id : ℕ) (places : List ℕ) → IsSound clauses steps s → IsGrounded clauses steps id s
    → ((k : ℕ) → is_waiting (mark_at s.marks k) ≡ true → Contains places k)
    → (values : ℕ → Bool) → PremisesTrue values clauses s.premises → some_true values (map (falsified steps) places) ≡ true
true_wherever clauses steps s id places h g waits values premises = by_value (some_true values (map (falsified steps) places)) refl
  where
    by_value : (b : Bool) → some_true values (map (falsified steps) places) ≡ b → some_true values (map (falsified steps) places) ≡ true
    by_value true e = e
    by_value false e =
        let all : AllTrue values steps s.marks (length steps) = all_true values clauses steps s (length steps) h premises
        (λ k on. opposite_false values (step_at steps k).literal
        (All-contains (λ (x : Signed). literal_true values x ≡ false) (map (falsified steps) places) (falsified steps k) (all_false values (map (falsified steps) places) e) (in_map steps places k (waits k on)))) in
        let f = g.false_clause in
        absurd (true_false _ (premises f.0 f.1 (subst (Contains s.premises) (sym f.2) g.among))
        (none_true values (f.0).literals (λ j d lt. false_by values steps s.marks (length steps) _ all (f.3 j d lt))))
