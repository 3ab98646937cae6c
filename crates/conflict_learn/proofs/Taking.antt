-- A clause's literals are taken in, one by one.
use Rattle.std.proofs.Common.{◌≡◌, ℕ, ◌+◌, ◌<◌, ◌≤◌, max, Bool, true, false, not, List, [], ◌∷◌, ◌++◌, length, take, get_or, Contains, All, Option, Some, subst, sym, ap, ◌∙◌, refl, inl, inr, ◌⊎◌, arith}
use Rattle.std.proofs.lemmas.List.{take_more, take_all}
use Rattle.std.proofs.lemmas.List.Elements.{All-push, All-weaker, Contains-push, Contains-get_or}
use Rattle.literals.specs.Signed.{Signed, opposite}
use Rattle.clause_store.specs.declared.trail.Step.{Step}
use Rattle.clause_store.specs.Stored.{Kept, HaveOwnIds}
use Rattle.clause_store.specs.Found.{HasKept, HasLevel}
use Rattle.conflict_learn.specs.declared.analysis.Mark.{Mark}
use Rattle.conflict_learn.specs.Analysing.{State, is_seen, mark_at, step_at, falsified, with_premise, seen_by, seen, SeenAt, StandsIn, IsSound, Grew, TakesIn}
use Rattle.conflict_learn.proofs.Sound.{SeenAt-stays, sound-seen, sound-premise, grew-seen, Grew-premise, Grew-both, grew_stays, at_seen}

pub opposite_twice : (l : Signed) → opposite (opposite l) ≡ l
opposite_twice l = ap (λ (b : Bool). record { atom = l.atom; positive = b }) (twice l.positive)
  where
    twice : (b : Bool) → not (not b) ≡ b
    twice true = refl
    twice false = refl

pub record Taking (clauses : List Kept) (steps : List Step) (id below n : ℕ) (but : Option Signed) (ls : List Signed) (old now : State) : Type 0 where
  pub sound : IsSound clauses steps now
  pub grew : Grew steps below old now
  pub covers : All (λ m. (but ≡ Some m) ⊎ SeenAt steps now.marks below (opposite m)) (take n ls)
  pub premises : now.premises ≡ old.premises ++ id ∷ []

pub taking-start : (clauses : List Kept) (steps : List Step) (id below level : ℕ) (but : Option Signed) (ls : List Signed) (old now : State) → HaveOwnIds clauses → IsSound clauses steps old → HasLevel clauses id level
    → now ≡ with_premise id (max old.level level) old → Taking clauses steps id below 0 but ls old now
taking-start clauses steps id below level but ls old now own sound has e =
    subst (Taking clauses steps id below 0 but ls old) (sym e) record {
      sound = sound-premise clauses steps old id level own sound has;
      grew = Grew-premise steps below id (max old.level level) old;
      covers = λ k d lt. absurd (omega (arith, lt));
      premises = refl;
    }

covers_stays : (steps : List Step) (old new : List Mark) (below : ℕ) (but : Option Signed) (ls : List Signed) → ((k : ℕ) → is_seen (mark_at old k) ≡ true → is_seen (mark_at new k) ≡ true)
    → All (λ m. (but ≡ Some m) ⊎ SeenAt steps old below (opposite m)) ls → All (λ m. (but ≡ Some m) ⊎ SeenAt steps new below (opposite m)) ls
covers_stays steps old new below but ls stays h =
    All-weaker (λ m. (but ≡ Some m) ⊎ SeenAt steps old below (opposite m)) (λ m. (but ≡ Some m) ⊎ SeenAt steps new below (opposite m))
    (λ m o. elim o [ inl e ↦ inl e | inr at ↦ inr (SeenAt-stays steps old new below (opposite m) stays at) ]) ls h

more_literals : (P : Signed → Type 0) (ls : List Signed) (n : ℕ) (l : Signed) → n < length ls → l ≡ get_or ls n l → All P (take n ls) → P l → All P (take (n + 1) ls)
more_literals P ls n l lt is h here = rw (take_more ls n l lt, sym is) (All-push P (take n ls) l h here)

pub taking-skip : (clauses : List Kept) (steps : List Step) (id below n : ℕ) (but : Option Signed) (ls : List Signed) (old now : State) (l : Signed) → n < length ls → l ≡ get_or ls n l → but ≡ Some l
    → Taking clauses steps id below n but ls old now → Taking clauses steps id below (n + 1) but ls old now
taking-skip clauses steps id below n but ls old now l lt is e h = record {
  sound = h.sound;
  grew = h.grew;
  covers = more_literals (λ m. (but ≡ Some m) ⊎ SeenAt steps now.marks below (opposite m)) ls n l lt is h.covers (inl e);
  premises = h.premises;
}

pub taking-more : (clauses : List Kept) (steps : List Step) (id below n : ℕ) (but : Option Signed) (ls : List Signed) (old now new : State) (l : Signed) (p : ℕ) → n < length ls → l ≡ get_or ls n l
    → below ≤ length steps → HasKept clauses id (λ ms. ls ≡ ms) → p < below → (step_at steps p).literal ≡ opposite l → (step_at steps p).depth ≤ now.deepest
    → Taking clauses steps id below n but ls old now → new ≡ seen steps p now → Taking clauses steps id below (n + 1) but ls old new
taking-more clauses steps id below n but ls old now new l p lt is le has in' lit shallow h e =
    let r : length now.marks ≡ length steps = h.sound.room in
    let here : p < length now.marks = omega arith in
    let mine : falsified steps p ≡ l = ap opposite lit ∙ opposite_twice l in
    let stands : StandsIn clauses now.premises (falsified steps p) = record {
      premise = has.0;
      kept = has.1;
      among = subst (λ ids. Contains ids (has.0).id) (sym h.premises) (subst (Contains (old.premises ++ id ∷ [])) (sym has.2) (Contains-push old.premises id));
      has = subst (Contains (has.0).literals) (sym mine) (subst (λ ms. Contains ms l) has.3 (subst (Contains ls) (sym is) (Contains-get_or ls n l lt)));
    } in
    let grew : Grew steps below now (seen steps p now) = grew-seen steps below now p here in' in
    subst (Taking clauses steps id below (n + 1) but ls old) (sym e) record {
      sound = sound-seen clauses steps now p h.sound (omega arith) shallow stands;
      grew = Grew-both steps below old now (seen steps p now) h.grew grew;
      covers = more_literals (λ m. (but ≡ Some m) ⊎ SeenAt steps (seen steps p now).marks below (opposite m)) ls n l lt is
          (covers_stays steps now.marks (seen steps p now).marks below but (take n ls) (grew_stays steps below now (seen steps p now) grew) h.covers)
          (inr record { place = p; below = in'; is_seen = at_seen steps now p here; literal = lit });
      premises = same_premises now p _ _ ∙ h.premises;
    }
  where
    same_premises : (s : State) (p : ℕ) (u deep : Bool) → (seen_by u deep p s).premises ≡ s.premises
    same_premises s p false deep = refl
    same_premises s p true true = refl
    same_premises s p true false = refl

pub taking-end : (clauses : List Kept) (steps : List Step) (id below n : ℕ) (but : Option Signed) (ls : List Signed) (old now : State) → length ls ≤ n → HasKept clauses id (λ ms. ls ≡ ms)
    → Taking clauses steps id below n but ls old now → TakesIn clauses steps id below but old now
taking-end clauses steps id below n but ls old now le has h = record {
  sound = h.sound;
  grew = h.grew;
  covers =
      let all : All (λ m. (but ≡ Some m) ⊎ SeenAt steps now.marks below (opposite m)) ls = subst (All (λ m. (but ≡ Some m) ⊎ SeenAt steps now.marks below (opposite m))) (take_all n ls le) h.covers in
      (has.0, has.1, has.2, subst (All (λ m. (but ≡ Some m) ⊎ SeenAt steps now.marks below (opposite m))) has.3 all);
  premises = h.premises;
}
