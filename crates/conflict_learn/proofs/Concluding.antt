-- The learnt clause is what it is said to be.
use Rattle.std.proofs.Common.{◌≡◌, ◌≢◌, ℕ, ◌-◌, ◌<◌, ◌≤◌, Bool, true, false, not, List, [], ◌∷◌, map, length, take, Contains, All, subst, sym, ap, ◌∙◌, refl, inl, inr, ◌⊎◌, arith}
use Rattle.std.proofs.lemmas.List.{take_all}
use Rattle.std.proofs.lemmas.List.Elements.{All-head, All-tail, All-contains, All-weaker, Contains-get_or, All-nil, All-cons}
use Rattle.literals.specs.Signed.{Signed, opposite}
use Rattle.clause_store.specs.declared.trail.Step.{Step}
use Rattle.clause_store.specs.Each.{EachAfter}
use Rattle.clause_store.specs.TrailInvariant.{IsFresh}
use Rattle.clause_store.specs.Trail.{Assigns, IsOpen, literals, up_to}
use Rattle.clause_store.specs.Stored.{Kept, Stored, IsQuiet, IsFalseOn}
use Rattle.clause_store.specs.Found.{HasKept}
use Rattle.conflict_learn.specs.Analysing.{State, no_step, is_seen, is_waiting, is_resolved, mark_at, step_at, falsified, first_depth, AreApart, IsHeaded, IsSound, IsGrounded, IsOnly, IsSplit, IsGreatest, IsFalseBelow, Shrinks, StandsIn}
use Rattle.conflict_learn.specs.Learning.{ComesFrom, HasPremiseAt, IsDrawn, IsFalseAt, IsFalseUpTo, IsGreatestDepth, HaveOwnAtoms, IsDeepest, IsLearnt}
use Rattle.conflict_learn.proofs.Marks.{same_or_apart, seen_where_waiting, not_waiting_and_resolved, seen_within}
use Rattle.conflict_learn.proofs.Taking.{opposite_twice}
use Rattle.conflict_learn.proofs.NotForced.{IsConsistent, IsDecidable, not_forced}
use Rattle.conflict_learn.proofs.Truth.{true_wherever}
use Rattle.clause_store.proofs.Froms.{assigns_before, by_order, step_up_to, on_up_to}
use Rattle.clause_store.proofs.Filters.{none_in, in_head, in_tail, in_cases}

-- ---- steps up to a depth

sign_differs : (b : Bool) → b ≡ not b → ⊥
sign_differs true e = cc
sign_differs false e = cc

pub not_opposite : (l : Signed) → l ≡ opposite l → ⊥
not_opposite l e = sign_differs l.positive (ap (λ (x : Signed). x.positive) e)

two_signs : (l m : Signed) → l.atom ≡ m.atom → (l ≡ m) ⊎ (l ≡ opposite m)
two_signs l m e = by_sign l.atom m.atom l.positive m.positive e
  where
    by_sign : (a b : ℕ) (p q : Bool) → a ≡ b → (◌≡◌ {A = Signed} (record { atom = a; positive = p }) (record { atom = b; positive = q })) ⊎ (◌≡◌ {A = Signed} (record { atom = a; positive = p }) (record { atom = b; positive = not q }))
    by_sign a b true true e = inl (ap (λ (n : ℕ). record { atom = n; positive = true }) e)
    by_sign a b true false e = inr (ap (λ (n : ℕ). record { atom = n; positive = true }) e)
    by_sign a b false true e = inr (ap (λ (n : ℕ). record { atom = n; positive = false }) e)
    by_sign a b false false e = inl (ap (λ (n : ℕ). record { atom = n; positive = false }) e)

before_atoms : (steps : List Step) (j k : ℕ) → EachAfter IsFresh steps → j < k → k < length steps → (step_at steps j).literal.atom ≡ (step_at steps k).literal.atom → ⊥
before_atoms steps j k fresh lt in' e = elim (two_signs (step_at steps j).literal (step_at steps k).literal e) [
  | inl same ↦ (fresh k no_step in').0 (subst (Assigns (take k steps)) same (assigns_before steps j k lt in'))
  | inr other ↦ (fresh k no_step in').1 (subst (Assigns (take k steps)) other (assigns_before steps j k lt in'))
]

-- an atom has one step
pub same_atom : (steps : List Step) (j k : ℕ) → EachAfter IsFresh steps → j < length steps → k < length steps → (step_at steps j).literal.atom ≡ (step_at steps k).literal.atom → j ≡ k
same_atom steps j k fresh lj lk e = elim (by_order j k) [
  | inl lt ↦ absurd (before_atoms steps j k fresh lt lk e)
  | inr o ↦ elim o [ inl gt ↦ absurd (before_atoms steps k j fresh gt lj (sym e)) | inr same ↦ same ]
]

pub consistent_up_to : (steps : List Step) (d : ℕ) → EachAfter IsFresh steps → IsConsistent (up_to d steps)
consistent_up_to steps d fresh l a b =
    let p = step_up_to steps d l a in
    let q = step_up_to steps d (opposite l) b in
    let same : p.place ≡ q.place = same_atom steps p.place q.place fresh p.within q.within (ap (λ (x : Signed). x.atom) p.literal ∙ sym (ap (λ (x : Signed). x.atom) q.literal)) in
    not_opposite l (sym p.literal ∙ (ap (λ k. (step_at steps k).literal) same ∙ q.literal))

same_bool : (p q : Bool) → (p ≡ q) ⊎ (p ≡ q → ⊥)
same_bool true true = inl refl
same_bool true false = inr (λ e. cc)
same_bool false true = inr (λ e. cc)
same_bool false false = inl refl

same_literal : (l m : Signed) → (l ≡ m) ⊎ (l ≡ m → ⊥)
same_literal l m = elim (same_or_apart l.atom m.atom) [
  | inl e ↦ elim (two_signs l m e) [ inl same ↦ inl same | inr other ↦ inr (λ same. not_opposite m (sym same ∙ other)) ]
  | inr ne ↦ inr (λ same. ne (ap (λ (x : Signed). x.atom) same))
]

found : (ls : List Signed) (l : Signed) → Contains ls l ⊎ (Contains ls l → ⊥)
found [] l = inr (none_in l)
found (m ∷ ls) l = elim (same_literal m l) [
  | inl e ↦ inl (subst (Contains (m ∷ ls)) e (in_head m ls))
  | inr ne ↦ elim (found ls l) [
    | inl c ↦ inl (in_tail m l ls c)
    | inr off ↦ inr (λ c. elim (in_cases m l ls c) [ inl e ↦ ne e | inr rest ↦ off rest ])
  ]
]

pub decidable : (steps : List Step) → IsDecidable steps
decidable steps l = elim (found (literals steps) l) [
  | inl on ↦ inl on
  | inr off ↦ elim (found (literals steps) (opposite l)) [ inl on ↦ inr (inl on) | inr out ↦ inr (inr (off, out)) ]
]

-- the literal of a step that is deeper is open
pub open_below : (steps : List Step) (d k : ℕ) → EachAfter IsFresh steps → k < length steps → d < (step_at steps k).depth → IsOpen (up_to d steps) (falsified steps k)
open_below steps d k fresh lt deep = (
  λ a. let p = step_up_to steps d (falsified steps k) a in
      let same : p.place ≡ k = same_atom steps p.place k fresh p.within lt (ap (λ (x : Signed). x.atom) p.literal) in
      let le : (step_at steps k).depth ≤ d = subst (λ j. (step_at steps j).depth ≤ d) same p.shallow in absurd (omega arith),
  λ a. let p = step_up_to steps d (opposite (falsified steps k)) a in
      let same : p.place ≡ k = same_atom steps p.place k fresh p.within lt (ap (λ (x : Signed). x.atom) p.literal) in
      let le : (step_at steps k).depth ≤ d = subst (λ j. (step_at steps j).depth ≤ d) same p.shallow in absurd (omega arith),
)

pub false_up_to : (steps : List Step) (d k : ℕ) → k < length steps → (step_at steps k).depth ≤ d → IsFalseOn (up_to d steps) (falsified steps k)
false_up_to steps d k lt le = subst (Assigns (up_to d steps)) (sym (opposite_twice (step_at steps k).literal)) (on_up_to steps d (step_at steps k) (Contains-get_or steps k no_step lt) le)

-- ---- literals of steps by their places

pub false_at : (steps : List Step) (k d : ℕ) → k < length steps → (step_at steps k).depth ≡ d → IsFalseAt steps d (falsified steps k)
false_at steps k d lt e = record { step = step_at steps k; on = Contains-get_or steps k no_step lt; literal = sym (opposite_twice (step_at steps k).literal); depth = e }

false_most : (steps : List Step) (k d : ℕ) → k < length steps → (step_at steps k).depth ≤ d → IsFalseUpTo steps d (falsified steps k)
false_most steps k d lt le = record { step = step_at steps k; on = Contains-get_or steps k no_step lt; literal = sym (opposite_twice (step_at steps k).literal); depth = le }

map_all : (P : Signed → Type 0) (steps : List Step) (ks : List ℕ) → ((k : ℕ) → Contains ks k → P (falsified steps k)) → All P (map (falsified steps) ks)
map_all P steps [] h = All-nil P
map_all P steps (k ∷ ks) h = All-cons P (falsified steps k) (map (falsified steps) ks) (h k (in_head k ks)) (map_all P steps ks (λ j c. h j (in_tail k j ks c)))

pub own_atoms : (steps : List Step) (ks : List ℕ) → EachAfter IsFresh steps → All (λ k. k < length steps) ks → AreApart ks → HaveOwnAtoms (map (falsified steps) ks)
own_atoms steps [] fresh h apart = tt
own_atoms steps (k ∷ ks) fresh h apart = (
  map_all (λ m. m.atom ≢ (falsified steps k).atom) steps ks (λ j c e.
      let lj : j < length steps = All-contains (λ k. k < length steps) ks j (All-tail (λ k. k < length steps) k ks h) c in
      let same : j ≡ k = same_atom steps j k fresh lj (All-head (λ k. k < length steps) k ks h) e in
      apart.0 (subst (Contains ks) same c)),
  own_atoms steps ks fresh (All-tail (λ k. k < length steps) k ks h) apart.1,
)

pub greatest_of : (steps : List Step) (ks : List ℕ) → All (λ k. k < length steps) ks → IsHeaded steps ks → IsGreatestDepth steps (map (falsified steps) ks) (first_depth steps ks)
greatest_of steps [] h headed = refl
greatest_of steps (k ∷ ks) h headed = (
  false_at steps k (step_at steps k).depth (All-head (λ k. k < length steps) k ks h) refl,
  map_all (IsFalseUpTo steps (step_at steps k).depth) steps ks (λ j c.
      false_most steps j (step_at steps k).depth (All-contains (λ k. k < length steps) ks j (All-tail (λ k. k < length steps) k ks h) c)
      (All-contains (λ p. (step_at steps p).depth ≤ (step_at steps k).depth) ks j headed c)),
)

-- ---- the whole

reached_premise : (clauses : List Kept) (steps : List Step) (s : State) (id : ℕ) → IsSound clauses steps s → Contains s.premises id → HasPremiseAt clauses s.premises s.level
reached_premise clauses steps s id h c = elim h.reached [
  | inl (none, e) ↦ absurd (none_in id (subst (λ ids. Contains ids id) none c))
  | inr (b, kept, among, e) ↦ record { premise = b; kept = kept; among = among; at_level = e }
]

pub comes_from : (clauses : List Kept) (steps : List Step) (s : State) (id : ℕ) (places : List ℕ) → IsSound clauses steps s → IsGrounded clauses steps id s
    → ((k : ℕ) → is_waiting (mark_at s.marks k) ≡ true → Contains places k) → ComesFrom clauses s.premises s.level (map (falsified steps) places)
comes_from clauses steps s id places h g waits = record {
  are_kept = h.are_kept;
  true_wherever = true_wherever clauses steps s id places h g waits;
  within = h.within;
  greatest = reached_premise clauses steps s id h g.among;
}

-- each step that waits is the first or kept
waits_among : (clauses : List Kept) (steps : List Step) (s : State) (uip : ℕ) (kept : List ℕ) → IsSound clauses steps s → IsOnly steps s uip → IsSplit steps s (length s.lower) kept
    → (k : ℕ) → is_waiting (mark_at s.marks k) ≡ true → Contains (uip ∷ kept) k
waits_among clauses steps s uip kept h only split k on = elim (h.sorted k on) [
  | inl deep ↦ subst (Contains (uip ∷ kept)) (sym (only.only k on deep)) (in_head uip kept)
  | inr low ↦ elim (All-contains (λ k. (is_resolved (mark_at s.marks k) ≡ true) ⊎ Contains kept k) s.lower k (subst (All (λ k. (is_resolved (mark_at s.marks k) ≡ true) ⊎ Contains kept k)) (take_all (length s.lower) s.lower (omega arith)) split.settled) low) [
    | inl r ↦ absurd (not_waiting_and_resolved (mark_at s.marks k) on r)
    | inr c ↦ in_tail uip k kept c
  ]
]

-- what is known of the kept places
pub record AreLow (clauses : List Kept) (steps : List Step) (s : State) (k : ℕ) : Type 0 where
  pub within : k < length steps
  pub seen : is_seen (mark_at s.marks k) ≡ true
  pub low : (step_at steps k).depth < s.deepest

low_kept : (clauses : List Kept) (steps : List Step) (s : State) (kept : List ℕ) → IsSound clauses steps s → IsSplit steps s (length s.lower) kept → All (AreLow clauses steps s) kept
low_kept clauses steps s kept h split =
    let all : All (Contains s.lower) kept = subst (λ ks. All (Contains ks) kept) (take_all (length s.lower) s.lower (omega arith)) split.of_lower in
    All-weaker (Contains s.lower) (AreLow clauses steps s) (λ k c.
    let l = All-contains (λ k. (is_seen (mark_at s.marks k) ≡ true) × ((step_at steps k).depth < s.deepest)) s.lower k h.low c in
    let lt : k < length s.marks = seen_within s.marks k l.0 in
    let r : length s.marks ≡ length steps = h.room in
    record { within = omega arith; seen = l.0; low = l.1 }) kept all

as_deepest : (steps : List Step) (ls : List Signed) (d : ℕ) → 0 < d → IsGreatest steps ls d → IsDeepest steps ls d
as_deepest steps ls d pos g =
    let s = g.some pos in
    record {
      all = All-weaker (IsFalseBelow steps (length steps) d) (IsFalseUpTo steps d)
          (λ m f. record { step = step_at steps f.place; on = Contains-get_or steps f.place no_step f.within; literal = f.literal; depth = f.shallow }) ls g.all;
      some = s.0;
      has = s.1;
      at_depth = record { step = step_at steps s.2; on = Contains-get_or steps s.2 no_step s.3; literal = s.4; depth = s.5 };
      above = pos;
    }

back_less : (steps : List Step) (s : State) (clauses : List Kept) (kept : List ℕ) → 0 < s.deepest → All (AreLow clauses steps s) kept → first_depth steps kept < s.deepest
back_less steps s clauses [] pos h = pos
back_less steps s clauses (k ∷ ks) pos h = (All-head (AreLow clauses steps s) k ks h).low

pub concluded : (st : Stored) (id uip : ℕ) (old s : State) (kept : List ℕ) (ls : List Signed) → EachAfter IsFresh st.trail.steps → 0 < s.deepest → HasKept st.clauses id (λ ms. IsGreatest st.trail.steps ms s.deepest)
    → Shrinks st.clauses st.trail.steps id uip old s kept → ls ≡ map (falsified st.trail.steps) (uip ∷ kept) → IsLearnt st id s.premises ls s.level (first_depth st.trail.steps kept)
concluded st id uip old s kept ls fresh pos greatest h e =
    let steps = st.trail.steps in
    let low : All (AreLow st.clauses steps s) kept = low_kept st.clauses steps s kept h.sound h.split in
    let within : All (λ k. k < length steps) kept = All-weaker (AreLow st.clauses steps s) (λ k. k < length steps) (λ k l. l.within) kept low in
    let all_within : All (λ k. k < length steps) (uip ∷ kept) = All-cons (λ k. k < length steps) uip kept h.only.within within in
    let deep : (step_at steps uip).depth ≡ s.deepest = h.only.deep in
    let off : Contains kept uip → ⊥ = λ c. (let l : AreLow st.clauses steps s uip = All-contains (AreLow st.clauses steps s) kept uip low c in let x : (step_at steps uip).depth < s.deepest = l.low in omega arith) in
    let stands : (k : ℕ) → Contains (uip ∷ kept) k → IsDrawn st.clauses s.premises (falsified steps k) = λ k c.
    (let on : is_seen (mark_at s.marks k) ≡ true = elim (in_cases uip k kept c) [
      | inl same ↦ subst (λ j. is_seen (mark_at s.marks j) ≡ true) same (seen_where_waiting (mark_at s.marks uip) h.only.waits)
      | inr rest ↦ (All-contains (AreLow st.clauses steps s) kept k low rest).seen
    ] in
    let d : StandsIn st.clauses s.premises (falsified steps k) = h.sound.drawn k on in
    record { premise = d.premise; kept = d.kept; among = d.among; has = d.has }) in
    subst (λ xs. IsLearnt st id s.premises xs s.level (first_depth steps kept)) (sym e) record {
      comes = comes_from st.clauses steps s id (uip ∷ kept) h.sound h.grounded (waits_among st.clauses steps s uip kept h.sound h.only h.split);
      drawn = map_all (IsDrawn st.clauses s.premises) steps (uip ∷ kept) stands;
      own_atoms = own_atoms steps (uip ∷ kept) fresh all_within (off, h.split.apart);
      first = falsified steps uip;
      rest = map (falsified steps) kept;
      is = refl;
      deepest = s.deepest;
      of_clause = (greatest.0, greatest.1, greatest.2, as_deepest steps (greatest.0).literals s.deepest pos greatest.3);
      at_deepest = false_at steps uip s.deepest h.only.within deep;
      above = back_less steps s st.clauses kept pos low;
      back_to = greatest_of steps kept within h.split.headed;
      is_open = λ d lt. open_below steps d uip fresh h.only.within (omega arith);
      unforced = λ known quiet forces.
          not_forced (up_to (s.deepest - 1) steps) known [] (map (falsified steps) kept) (falsified steps uip) (consistent_up_to steps (s.deepest - 1) fresh) (decidable (up_to (s.deepest - 1) steps))
          (λ c k. All-contains (IsQuiet (up_to (s.deepest - 1) steps)) known c quiet k) (open_below steps (s.deepest - 1) uip fresh h.only.within (omega arith))
          (λ m c. All-contains (IsFalseOn (up_to (s.deepest - 1) steps)) (map (falsified steps) kept) m
          (map_all (IsFalseOn (up_to (s.deepest - 1) steps)) steps kept (λ k i. (let l : AreLow st.clauses steps s k = All-contains (AreLow st.clauses steps s) kept k low i in
          let x : (step_at steps k).depth < s.deepest = l.low in false_up_to steps (s.deepest - 1) k l.within (omega arith)))) c)
          forces;
    }

-- where the greatest depth is 0, all that was seen is resolved
pub refuted : (clauses : List Kept) (steps : List Step) (s : State) (id i : ℕ) → IsSound clauses steps s → IsGrounded clauses steps id s → s.deepest ≡ 0 → ((k : ℕ) → is_waiting (mark_at s.marks k) ≡ true → (step_at steps k).depth ≡ s.deepest → ⊥)
    → ComesFrom clauses s.premises s.level []
refuted clauses steps s id i h g zero' none = comes_from clauses steps s id [] h g
    (λ k on. absurd (none k on (let le : (step_at steps k).depth ≤ s.deepest = h.shallow k (seen_where_waiting (mark_at s.marks k) on) in omega arith)))

pub all_at_0 : (steps : List Step) (ls : List Signed) (d : ℕ) → d ≡ 0 → IsGreatest steps ls d → All (IsFalseAt steps 0) ls
all_at_0 steps ls d e g = All-weaker (IsFalseBelow steps (length steps) d) (IsFalseAt steps 0)
    (λ m f. record { step = step_at steps f.place; on = Contains-get_or steps f.place no_step f.within; literal = f.literal; depth = (let le : (step_at steps f.place).depth ≤ d = f.shallow in omega arith) }) ls g.all
