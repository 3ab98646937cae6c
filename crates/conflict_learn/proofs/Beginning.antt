-- An analysis begins: nothing is seen, then the steps of the false clause.
use Rattle.std.proofs.Common.{◌≡◌, ℕ, ◌+◌, ◌<◌, ◌≤◌, suc, zero, true, false, List, [], ◌∷◌, ◌++◌, length, take, get_or, replicate, Contains, All, Some, None, subst, sym, ap, ◌∙◌, refl, inl, inr, ◌⊎◌, arith}
use Rattle.std.proofs.lemmas.List.{length-replicate, get_or-replicate, get_or_past, take_more}
use Rattle.std.proofs.lemmas.List.Sums.{count_by-le-length}
use Rattle.std.proofs.lemmas.List.Elements.{All-push, All-weaker, All-contains, Contains-append_left, Contains-push}
use Rattle.literals.specs.Signed.{Signed, opposite}
use Rattle.clause_store.specs.declared.trail.Step.{Step}
use Rattle.clause_store.specs.Stored.{Kept, HaveOwnIds}
use Rattle.clause_store.specs.Found.{HasKept}
use Rattle.clause_store.specs.Each.{EachAfter}
use Rattle.clause_store.specs.TrailInvariant.{IsFresh}
use Rattle.conflict_learn.specs.declared.analysis.Mark.TheVariants.{Unseen}
use Rattle.conflict_learn.specs.Analysing.{State, is_unseen, is_seen, is_waiting, is_resolved, mark_at, step_at, empty_state, SeenAt, IsSound, IsFalseBelow, IsGreatest, TakesIn, Begins, pending}
use Rattle.conflict_learn.proofs.Marks.{seen_where_waiting, seen_within, pending-none}
use Rattle.clause_store.proofs.Froms.{same_place}

unseen_at : (n k : ℕ) → mark_at (replicate n Unseen) k ≡ Unseen
unseen_at n k = elim (below_or_past k n) [
  | inl lt ↦ get_or-replicate n k Unseen Unseen lt
  | inr past ↦ get_or_past (replicate n Unseen) k Unseen (omega (arith, length-replicate n Unseen))
]
  where
    below_or_past : (k n : ℕ) → (k < n) ⊎ (n ≤ k)
    below_or_past k n = grind arith

pub sound-empty : (clauses : List Kept) (steps : List Step) (deepest : ℕ) → IsSound clauses steps (empty_state (length steps) deepest)
sound-empty clauses steps deepest = record {
  room = length-replicate (length steps) Unseen;
  are_kept = λ k d lt. absurd (omega (arith, lt));
  within = λ c kept (k, lt, is). absurd (omega (arith, lt));
  reached = inl (refl, refl);
  resolved = λ k on. let off : false ≡ true = sym (ap is_resolved (unseen_at (length steps) k)) ∙ on in cc;
  drawn = λ k on. let off : false ≡ true = sym (ap is_seen (unseen_at (length steps) k)) ∙ on in cc;
  shallow = λ k on. let off : false ≡ true = sym (ap is_seen (unseen_at (length steps) k)) ∙ on in cc;
  sorted = λ k on. let off : false ≡ true = sym (ap is_waiting (unseen_at (length steps) k)) ∙ on in cc;
  low = λ k d lt. absurd (omega (arith, lt));
  apart = tt;
  few = omega (arith, count_by-le-length is_unseen (replicate (length steps) Unseen), length-replicate (length steps) Unseen);
}

pending-empty : (d : ℕ) (steps : List Step) (n i : ℕ) → pending d steps (replicate n Unseen) i ≡ 0
unfolding pending
pending-empty d steps n zero = refl
pending-empty d steps n (suc i) = rw (unseen_at n i, pending-empty d steps n i) refl

not_zero : (n : ℕ) → (n ≡ 0 → ⊥) → 0 < n
not_zero zero h = absurd (h refl)
not_zero (suc n) h = omega arith

-- all steps that are seen are within the trail
above_none : (steps : List Step) (s : State) (k : ℕ) → length s.marks ≡ length steps → length steps ≤ k → is_waiting (mark_at s.marks k) ≡ true → ⊥
above_none steps s k room le on = let lt : k < length s.marks = seen_within s.marks k (seen_where_waiting (mark_at s.marks k) on) in absurd (omega arith)

none_twice : {X : Type 0} (x : X) → None ≡ Some x → ⊥
none_twice x e = cc

pub begun : (clauses : List Kept) (steps : List Step) (id : ℕ) (first new : State) (depth : ℕ) (ls : List Signed) → first ≡ empty_state (length steps) depth → HasKept clauses id (λ ms. ls ≡ ms) → IsGreatest steps ls depth
    → TakesIn clauses steps id (length steps) None first new → HaveOwnIds clauses → EachAfter IsFresh steps → Begins clauses steps id new
begun clauses steps id first new depth ls e has greatest t own fresh =
    let deepest : new.deepest ≡ depth = t.grew.deepest ∙ ap (λ (s : State). s.deepest) e in
    let c = t.covers in
    let all : All (λ m. SeenAt steps new.marks (length steps) (opposite m)) (c.0).literals =
    All-weaker (λ m. (None ≡ Some m) ⊎ SeenAt steps new.marks (length steps) (opposite m)) (λ m. SeenAt steps new.marks (length steps) (opposite m))
    (λ m o. elim o [ inl none ↦ absurd (none_twice m none) | inr at ↦ at ]) (c.0).literals c.3 in
    let count : pending first.deepest steps new.marks (length steps) + first.count ≡ pending first.deepest steps first.marks (length steps) + new.count = t.grew.counted in
    let zero_count : first.count ≡ 0 = ap (λ (s : State). s.count) e in
    let zero_pending : pending first.deepest steps first.marks (length steps) ≡ 0 = ap (λ ms. pending first.deepest steps ms (length steps)) (ap (λ (s : State). s.marks) e) ∙ pending-empty first.deepest steps (length steps) (length steps) in
    let same : pending first.deepest steps new.marks (length steps) ≡ new.count = omega arith in
    let here : pending new.deepest steps new.marks (length steps) ≡ new.count = subst (λ d. pending d steps new.marks (length steps) ≡ new.count) (sym t.grew.deepest) same in
    let same_clause : c.0 ≡ has.0 = own c.0 has.0 c.1 has.1 (c.2 ∙ sym has.2) in
    record {
      sound = t.sound;
      grounded = record { false_clause = (c.0, c.1, c.2, all); among = subst (λ ids. Contains ids id) (sym t.premises) (Contains-push first.premises id) };
      at = record { count = here; none_above = λ k le on deep. above_none steps new k t.sound.room le on };
      greatest = (has.0, has.1, has.2, subst (λ d. IsGreatest steps (has.0).literals d) (sym deepest) (subst (λ ms. IsGreatest steps ms depth) has.3 greatest));
      some = λ lt.
          let g = greatest.some (omega arith) in
          let in_first : Contains (c.0).literals g.0 = subst (λ (k : Kept). Contains k.literals g.0) (sym same_clause) (subst (λ ms. Contains ms g.0) has.3 g.1) in
          let at : SeenAt steps new.marks (length steps) (opposite g.0) = All-contains (λ m. SeenAt steps new.marks (length steps) (opposite m)) (c.0).literals g.0 all in_first in
          let place : at.place ≡ g.2 = same_place steps at.place g.2 fresh at.below g.3 (at.literal ∙ sym g.4) in
          let off : is_unseen (mark_at first.marks at.place) ≡ true = ap is_unseen (ap (λ (s : State). mark_at s.marks at.place) e ∙ unseen_at (length steps) at.place) in
          let waits = t.grew.news at.place off at.is_seen in
          let deep : (step_at steps at.place).depth ≡ new.deepest = ap (λ k. (step_at steps k).depth) place ∙ (g.5 ∙ sym deepest) in
          not_zero new.count (λ none. pending-none new.deepest steps new.marks (length steps) (here ∙ none) at.place at.below waits.1 deep);
    }

-- ---- the greatest depth

pub greatest-none : (steps : List Step) → IsGreatest steps [] 0
greatest-none steps = record { all = λ k d lt. absurd (omega (arith, lt)); some = λ lt. absurd (omega arith) }

deeper : (steps : List Step) (below d e : ℕ) (m : Signed) → d ≤ e → IsFalseBelow steps below d m → IsFalseBelow steps below e m
deeper steps below d e m le f = record { place = f.place; within = f.within; literal = f.literal; shallow = (let s : (step_at steps f.place).depth ≤ d = f.shallow in omega arith) }

pub greatest-more : (steps : List Step) (ls : List Signed) (n p now new : ℕ) (l : Signed) → n < length ls → l ≡ get_or ls n l → p < length steps → (step_at steps p).literal ≡ opposite l
    → (((step_at steps p).depth ≤ now) × (new ≡ now)) ⊎ ((now < (step_at steps p).depth) × (new ≡ (step_at steps p).depth))
    → IsGreatest steps (take n ls) now → IsGreatest steps (take (n + 1) ls) new
greatest-more steps ls n p now new l lt is in' lit o h =
    let t : take (n + 1) ls ≡ take n ls ++ l ∷ [] = take_more ls n l lt ∙ ap (λ x. take n ls ++ x ∷ []) (sym is) in
    subst (λ xs. IsGreatest steps xs new) (sym t) (elim o [
      | inl (le, e) ↦ subst (IsGreatest steps (take n ls ++ l ∷ [])) (sym e) record {
        all = All-push (IsFalseBelow steps (length steps) now) (take n ls) l h.all (record { place = p; within = in'; literal = lit; shallow = le });
        some = λ pos. let g = h.some pos in (g.0, Contains-append_left (take n ls) (l ∷ []) g.0 g.1, g.2, g.3, g.4, g.5);
      }
      | inr (more, e) ↦ subst (IsGreatest steps (take n ls ++ l ∷ [])) (sym e) record {
        all = All-push (IsFalseBelow steps (length steps) (step_at steps p).depth) (take n ls) l
            (All-weaker (IsFalseBelow steps (length steps) now) (IsFalseBelow steps (length steps) (step_at steps p).depth) (λ m f. deeper steps (length steps) now (step_at steps p).depth m (omega arith) f) (take n ls) h.all)
            (record { place = p; within = in'; literal = lit; shallow = omega arith });
        some = λ pos. (l, Contains-push (take n ls) l, p, in', lit, refl);
      }
    ])
