-- Steps of the greatest depth are resolved until one waits.
use Rattle.std.proofs.Common.{◌≡◌, ℕ, ◌+◌, ◌-◌, ◌<◌, ◌≤◌, ◌&&◌, Bool, true, false, eqb, eq-eqb, eqb-true, List, [], ◌∷◌, ◌++◌, length, set, Contains, All, Some, subst, sym, ap, ◌∙◌, refl, inl, inr, ◌⊎◌, arith}
use Rattle.std.proofs.lemmas.List.Elements.{All-weaker, Contains-append_left, Contains-push}
use Rattle.std.proofs.lemmas.List.{length-set}
use Rattle.literals.specs.Signed.{Signed, opposite}
use Rattle.clause_store.specs.declared.trail.Step.{Step}
use Rattle.clause_store.specs.Stored.{Kept}
use Rattle.conflict_learn.specs.declared.analysis.Mark.TheVariants.{Resolved}
use Rattle.conflict_learn.specs.Analysing.{State, is_seen, is_waiting, mark_at, step_at, with_mark, with_less, SeenAt, IsSound, TakesIn, Resolves, IsGrounded, IsAt, IsOnly, IsFalseBelow, IsResolvedAt, FollowsAt, pending}
use Rattle.conflict_learn.proofs.Marks.{set_cases, unseen_or_seen, seen_where_waiting, pending-above, pending-here, pending-not_here, pending-none, pending-some, pending-le}
use Rattle.conflict_learn.proofs.Sound.{Stays, SeenAt-stays, Stays-set, sound-resolved, grew_stays}

pub sound-less : (clauses : List Kept) (steps : List Step) (s : State) → IsSound clauses steps s → IsSound clauses steps (with_less s)
sound-less clauses steps s h = record {
  room = h.room;
  are_kept = h.are_kept;
  within = h.within;
  reached = h.reached;
  resolved = h.resolved;
  drawn = h.drawn;
  shallow = h.shallow;
  sorted = h.sorted;
  low = h.low;
  apart = h.apart;
  few = let f : length s.lower + s.count + _ ≤ length steps = h.few in omega (arith, f);
}

-- the reason of a step that was seen is taken in, as none of its literals is deeper
pub others_shallow : (steps : List Step) (place deepest : ℕ) (ls : List Signed) → (step_at steps place).depth ≤ deepest
    → All (λ m. (Some (step_at steps place).literal ≡ Some m) ⊎ IsFalseBelow steps place (step_at steps place).depth m) ls
    → All (λ m. (Some (step_at steps place).literal ≡ Some m) ⊎ IsFalseBelow steps place deepest m) ls
others_shallow steps place deepest ls le h =
    All-weaker (λ m. (Some (step_at steps place).literal ≡ Some m) ⊎ IsFalseBelow steps place (step_at steps place).depth m) (λ m. (Some (step_at steps place).literal ≡ Some m) ⊎ IsFalseBelow steps place deepest m)
    (λ m o. elim o [ inl e ↦ inl e | inr f ↦ inr (deeper m f) ]) ls h
  where
    deeper : (m : Signed) → IsFalseBelow steps place (step_at steps place).depth m → IsFalseBelow steps place deepest m
    deeper m f = record { place = f.place; within = f.within; literal = f.literal; shallow = (let s : (step_at steps f.place).depth ≤ (step_at steps place).depth = f.shallow in omega arith) }

pub resolves-taken : (clauses : List Kept) (steps : List Step) (reason place : ℕ) (old mid new : State) → is_seen (mark_at old.marks place) ≡ true
    → TakesIn clauses steps reason place (Some (step_at steps place).literal) old mid → new ≡ with_mark place Resolved mid → Resolves clauses steps place old new
resolves-taken clauses steps reason place old mid new on t e =
    let now : is_seen (mark_at mid.marks place) ≡ true = grew_stays steps place old mid t.grew place on in
    let at : IsResolvedAt clauses steps mid.marks mid.premises place = record {
      by = t.covers.0;
      kept = t.covers.1;
      among = subst (λ ids. Contains ids (t.covers.0).id) (sym t.premises) (subst (Contains (old.premises ++ reason ∷ [])) (sym t.covers.2) (last old.premises reason));
      covers = All-weaker (λ m. (Some (step_at steps place).literal ≡ Some m) ⊎ SeenAt steps mid.marks place (opposite m)) (λ m. (m ≡ (step_at steps place).literal) ⊎ SeenAt steps mid.marks place (opposite m))
          (λ m o. elim o [ inl same ↦ inl (sym (of_some _ _ same)) | inr s ↦ inr s ]) (t.covers.0).literals t.covers.3;
    } in
    subst (Resolves clauses steps place old) (sym e) record {
      sound = sound-resolved clauses steps mid place t.sound now at;
      between = mid;
      grew = t.grew;
      marked = refl;
      premises = λ id c. subst (λ ids. Contains ids id) (sym t.premises) (Contains-append_left old.premises (reason ∷ []) id c);
    }
  where
    last : (ids : List ℕ) (id : ℕ) → Contains (ids ++ id ∷ []) id
    last ids id = Contains-push ids id

    of_some : (x y : Signed) → Some x ≡ Some y → x ≡ y
    of_some x y e = cc

-- ---- what stays true

pub resolves_stays : (clauses : List Kept) (steps : List Step) (place : ℕ) (old new : State) → place < length old.marks → length new.marks ≡ length old.marks → Resolves clauses steps place old new → Stays old.marks new.marks
resolves_stays clauses steps place old new lt same r k on =
    let mid_on : is_seen (mark_at (r.between).marks k) ≡ true = grew_stays steps place old r.between r.grew k on in
    let e : new.marks ≡ set (r.between).marks place Resolved = ap (λ (s : State). s.marks) r.marked in
    let near : place < length (r.between).marks = omega (arith, ap length e, length-set (r.between).marks place Resolved) in
    subst (λ ms. is_seen (mark_at ms k) ≡ true) (sym e) (Stays-set (r.between).marks place Resolved near refl k mid_on)

pub grounded_stays : (clauses : List Kept) (steps : List Step) (id : ℕ) (old new : State) → Stays old.marks new.marks → ((i : ℕ) → Contains old.premises i → Contains new.premises i)
    → IsGrounded clauses steps id old → IsGrounded clauses steps id new
grounded_stays clauses steps id old new stays more h =
    let f = h.false_clause in
    record {
      false_clause = (
        f.0,
        f.1,
        f.2,
        All-weaker (λ m. SeenAt steps old.marks (length steps) (opposite m)) (λ m. SeenAt steps new.marks (length steps) (opposite m))
            (λ m s. SeenAt-stays steps old.marks new.marks (length steps) (opposite m) stays s) (f.0).literals f.3,
      );
      among = more id h.among;
    }

-- ---- one place after the other

and_false : (b c : Bool) → (b && c) ≡ false → b ≡ true → c ≡ true → ⊥
and_false b c h k l = cc

and_both : (b c : Bool) → (b && c) ≡ true → (b ≡ true) × (c ≡ true)
and_both true true h = (refl, refl)
and_both true false h = cc
and_both false c h = cc

pub waits_both : (steps : List Step) (s : State) (i : ℕ) → (is_waiting (mark_at s.marks i) && eqb (step_at steps i).depth s.deepest) ≡ true → (is_waiting (mark_at s.marks i) ≡ true) × ((step_at steps i).depth ≡ s.deepest)
waits_both steps s i h = let b = and_both _ _ h in (b.0, eqb-true _ _ b.1)

at_or_past : (k i : ℕ) → i ≤ k → (k ≡ i) ⊎ (i + 1 ≤ k)
at_or_past k i h = grind arith

pub passed : (steps : List Step) (s : State) (i : ℕ) → IsAt steps s (i + 1) → (is_waiting (mark_at s.marks i) && eqb (step_at steps i).depth s.deepest) ≡ false → IsAt steps s i
passed steps s i h off = record {
  count = sym (pending-not_here s.deepest steps s.marks i off) ∙ h.count;
  none_above = λ k le on deep. elim (at_or_past k i le) [
    | inl e ↦ and_false _ _ off (subst (λ j. is_waiting (mark_at s.marks j) ≡ true) e on) (eq-eqb _ _ (subst (λ j. (step_at steps j).depth ≡ s.deepest) e deep))
    | inr past ↦ h.none_above k past on deep
  ];
}

pub resolved_down : (clauses : List Kept) (steps : List Step) (s new : State) (i : ℕ) → IsAt steps s (i + 1) → is_waiting (mark_at s.marks i) ≡ true → (step_at steps i).depth ≡ s.deepest
    → i < length (s.marks) → length new.marks ≡ length s.marks → Resolves clauses steps i (with_less s) new → IsAt steps new i
resolved_down clauses steps s new i h on deep lt same r =
    let mid = r.between in
    let e : new.marks ≡ set mid.marks i Resolved = ap (λ (x : State). x.marks) r.marked in
    let near : i < length mid.marks = omega (arith, ap length e, length-set mid.marks i Resolved) in
    let depth : new.deepest ≡ s.deepest = ap (λ (x : State). x.deepest) r.marked ∙ r.grew.deepest in
    let here : pending s.deepest steps s.marks (i + 1) ≡ pending s.deepest steps s.marks i + 1 = pending-here s.deepest steps s.marks i on deep in
    let counted : pending s.deepest steps mid.marks i + (s.count - 1) ≡ pending s.deepest steps s.marks i + mid.count = r.grew.counted in
    let was : pending s.deepest steps s.marks (i + 1) ≡ s.count = h.count in
    let mid_count : pending s.deepest steps mid.marks i ≡ mid.count = omega arith in
    record {
      count =
          let f : pending s.deepest steps (set mid.marks i Resolved) i ≡ pending s.deepest steps mid.marks i = pending-above s.deepest steps mid.marks i Resolved i (omega arith) in
          let g : pending s.deepest steps new.marks i ≡ mid.count = ap (λ ms. pending s.deepest steps ms i) e ∙ (f ∙ mid_count) in
          subst (λ d. pending d steps new.marks i ≡ new.count) (sym depth) (g ∙ sym (ap (λ (x : State). x.count) r.marked));
      none_above = λ k le waits at.
          let w : is_waiting (mark_at (set mid.marks i Resolved) k) ≡ true = subst (λ ms. is_waiting (mark_at ms k) ≡ true) e waits in
          elim (set_cases mid.marks i k Resolved near) [
            | inl (_, is) ↦ let off : false ≡ true = sym (ap is_waiting is) ∙ w in cc
            | inr (ne, is) ↦
                let m : is_waiting (mark_at mid.marks k) ≡ true = sym (ap is_waiting is) ∙ w in
                elim (unseen_or_seen (mark_at s.marks k)) [
                  | inl unseen ↦ absurd (omega (arith, (r.grew.news k unseen (seen_where_waiting (mark_at mid.marks k) m)).0))
                  | inr seen ↦ h.none_above k (omega arith) (sym (ap is_waiting (r.grew.stays k seen)) ∙ m) (at ∙ depth)
                ]
          ];
    }

pub only_here : (steps : List Step) (s : State) (i : ℕ) → i < length steps → IsAt steps s (i + 1) → s.count ≡ 1 → (is_waiting (mark_at s.marks i) && eqb (step_at steps i).depth s.deepest) ≡ true → IsOnly steps s i
only_here steps s i lt h one on =
    let b = waits_both steps s i on in
    let here : pending s.deepest steps s.marks (i + 1) ≡ pending s.deepest steps s.marks i + 1 = pending-here s.deepest steps s.marks i b.0 b.1 in
    let was : pending s.deepest steps s.marks (i + 1) ≡ s.count = h.count in
    let none : pending s.deepest steps s.marks i ≡ 0 = omega arith in
    record {
      within = lt;
      waits = b.0;
      deep = b.1;
      only = λ k w d. elim (order k i) [
        | inl less ↦ absurd (pending-none s.deepest steps s.marks i none k less w d)
        | inr o ↦ elim o [ inl more ↦ absurd (h.none_above k (omega arith) w d) | inr e ↦ e ]
      ];
    }
  where
    order : (k i : ℕ) → (k < i) ⊎ ((i < k) ⊎ (k ≡ i))
    order k i = grind arith

pub pending_place : (steps : List Step) (s : State) (i : ℕ) → IsAt steps s i → 0 < s.count → 0 < i
pending_place steps s i h lt = let le : pending s.deepest steps s.marks i ≤ i = pending-le s.deepest steps s.marks i in let e : pending s.deepest steps s.marks i ≡ s.count = h.count in omega arith

pub descended : (clauses : List Kept) (steps : List Step) (id left i : ℕ) (s u new : State) → i < length steps → IsSound clauses steps s → IsGrounded clauses steps id s → IsAt steps s (i + 1)
    → (is_waiting (mark_at s.marks i) && eqb (step_at steps i).depth s.deepest) ≡ true → left < s.count → u ≡ with_less s → Resolves clauses steps i u new
    → IsGrounded clauses steps id new × IsAt steps new i × (left ≤ new.count) × (new.deepest ≡ s.deepest)
descended clauses steps id left i s u new lt sound grounded at on more e res =
    let b = waits_both steps s i on in
    let r : Resolves clauses steps i (with_less s) new = subst (λ x. Resolves clauses steps i x new) e res in
    let old_room : length s.marks ≡ length steps = sound.room in
    let new_room : length new.marks ≡ length steps = (r.sound).room in
    let here : i < length s.marks = omega arith in
    let same : length new.marks ≡ length s.marks = omega arith in
    let stays : Stays s.marks new.marks = resolves_stays clauses steps i (with_less s) new here same r in
    let mid = r.between in
    let c : new.count ≡ mid.count = ap (λ (x : State). x.count) r.marked in
    let m : s.count - 1 ≤ mid.count = r.grew.more_count in (
      grounded_stays clauses steps id s new stays r.premises grounded,
      resolved_down clauses steps s new i at b.0 b.1 here same r,
      omega arith,
      ap (λ (x : State). x.deepest) r.marked ∙ r.grew.deepest,
    )

-- the last of several steps of the greatest depth isn't the first of its depth
pub follows : (steps : List Step) (s : State) (i left : ℕ) → IsAt steps s (i + 1) → (is_waiting (mark_at s.marks i) && eqb (step_at steps i).depth s.deepest) ≡ true → left < s.count → (0 < left) ⊎ (s.deepest ≡ 0) → FollowsAt steps i
follows steps s i left at on more bottom =
    let b = waits_both steps s i on in
    elim bottom [
      | inl some ↦
          let here : pending s.deepest steps s.marks (i + 1) ≡ pending s.deepest steps s.marks i + 1 = pending-here s.deepest steps s.marks i b.0 b.1 in
          let count : pending s.deepest steps s.marks (i + 1) ≡ s.count = at.count in
          let h = pending-some s.deepest steps s.marks i (omega arith) in
          inr (h.0, h.1, h.2 ∙ sym b.1)
      | inr none ↦ inl (b.1 ∙ none)
    ]

-- where none is left to wait for, no step of the greatest depth waits
pub none_waits : (steps : List Step) (s : State) (i : ℕ) → IsAt steps s i → s.count ≡ 0 → (k : ℕ) → is_waiting (mark_at s.marks k) ≡ true → (step_at steps k).depth ≡ s.deepest → ⊥
none_waits steps s i at e k on deep = elim (below_or_past k i) [
  | inl lt ↦ pending-none s.deepest steps s.marks i (at.count ∙ e) k lt on deep
  | inr le ↦ at.none_above k le on deep
]
  where
    below_or_past : (k i : ℕ) → (k < i) ⊎ (i ≤ k)
    below_or_past k i = grind arith
