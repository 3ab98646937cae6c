-- The learnt clause asserts a literal, and follows as the search asks.
use Rattle.std.proofs.Common.{◌≡◌, ◌≢◌, ℕ, ◌-◌, ◌<◌, ◌≤◌, Bool, true, false, not, List, [], ◌∷◌, All, Contains, subst, sym, ap, ◌∙◌, refl, inl, inr, ◌⊎◌, arith}
use Rattle.std.proofs.lemmas.List.Elements.{All-contains, All-weaker, All-cons, All-nil, All-map}
use Rattle.literals.specs.Signed.{Signed, opposite}
use Rattle.clause_store.specs.declared.trail.Step.{Step}
use Rattle.clause_store.specs.Each.{EachAfter}
use Rattle.clause_store.specs.TrailInvariant.{IsFresh}
use Rattle.clause_store.specs.Trail.{up_to}
use Rattle.clause_store.specs.Stored.{Kept, Stored, IsFalseOn, IsQuiet, IsUnit}
use Rattle.conflict_learn.specs.Learning.{ComesFrom, IsLearnt, HaveOwnAtoms, IsFalseAt, IsFalseUpTo, IsGreatestDepth, IsDrawn as IsDrawnFrom}
use Rattle.search_port.specs.Valid.{IsOver}
use Rattle.search_port.specs.declared.budget.Lemma.{Lemma}
use Rattle.cdcl_core.specs.Search.{IsAsserting, IsDrawn, IsLearntFrom, IsQuietBelow, IsSearched, IsTrueByLevel, literal_lists}
use Rattle.cdcl_core.proofs.Depths.{false-from, false-up-to, quiet-two}
use Rattle.clause_store.proofs.Filters.{in_head, in_tail, in_cases}

sign_differs : (b : Bool) → b ≡ not b → ⊥
sign_differs true e = cc
sign_differs false e = cc

-- one literal of each atom
own-atom : (ls : List Signed) (l m : Signed) → HaveOwnAtoms ls → Contains ls l → Contains ls m → l.atom ≡ m.atom → l ≡ m
own-atom [] l m h a b e = absurd (omega (arith, a.1))
own-atom (x ∷ xs) l m h a b e = elim (in_cases x l xs a) [
  | inl el ↦ elim (in_cases x m xs b) [
    | inl em ↦ sym el ∙ em
    | inr late ↦ absurd (All-contains (λ (y : Signed). y.atom ≢ x.atom) xs m h.0 late (sym e ∙ sym (ap (λ (y : Signed). y.atom) el)))
  ]
  | inr early ↦ elim (in_cases x m xs b) [
    | inl em ↦ absurd (All-contains (λ (y : Signed). y.atom ≢ x.atom) xs l h.0 early (e ∙ sym (ap (λ (y : Signed). y.atom) em)))
    | inr late ↦ own-atom xs l m h.1 early late e
  ]
]

no-pair : (ls : List Signed) (l : Signed) → HaveOwnAtoms ls → Contains ls l → Contains ls (opposite l) → ⊥
no-pair ls l h a b = sign_differs l.positive (ap (λ (x : Signed). x.positive) (own-atom ls l (opposite l) h a b refl))

drawn-over : (s : Stored) (ids : List ℕ) (ls : List Signed) → IsSearched s → HaveOwnAtoms ls → All (IsDrawnFrom s.clauses ids) ls → IsOver s.trail.atoms ls
drawn-over s ids ls h own drawn = record {
  within = λ l c.
      let d : IsDrawnFrom s.clauses ids l = All-contains (IsDrawnFrom s.clauses ids) ls l drawn c in
      let over : IsOver s.trail.atoms (d.premise).literals = All-contains (λ (k : Kept). IsOver s.trail.atoms k.literals) s.clauses d.premise h.over d.kept in
      over.within l d.has;
  no_pair = λ l a b. no-pair ls l own a b;
}

-- the greatest depth of the rest makes them false, and is no greater than it must be
rest-false : (steps : List Step) (rest : List Signed) (back : ℕ) → EachAfter IsFresh steps → IsGreatestDepth steps rest back → All (IsFalseOn (up_to back steps)) rest
rest-false steps [] back fresh h = All-nil (IsFalseOn (up_to back steps))
rest-false steps (x ∷ xs) back fresh h =
    All-cons (IsFalseOn (up_to back steps)) x xs ((false-from steps back x fresh h.0).after back (omega arith))
    (All-weaker (IsFalseUpTo steps back) (IsFalseOn (up_to back steps)) (λ l f. false-up-to steps back l f) xs h.1)

quiet-rest : (s : Stored) (first : Signed) (rest : List Signed) (back : ℕ) → EachAfter IsFresh s.trail.steps → HaveOwnAtoms (first ∷ rest) → IsGreatestDepth s.trail.steps rest back
    → ((d : ℕ) → d < back → IsFalseOn (up_to d s.trail.steps) first → ⊥) → IsQuietBelow s (first ∷ rest) back
quiet-rest s first [] back fresh own h lasts d lt = absurd (omega (arith, h, lt))
quiet-rest s first (x ∷ xs) back fresh own h lasts d lt =
    quiet-two (up_to d s.trail.steps) (first ∷ x ∷ xs) record {
      one = first;
      other = x;
      one_in = in_head first (x ∷ xs);
      other_in = in_tail first x (x ∷ xs) (in_head x xs);
      differ = λ e. All-contains (λ (y : Signed). y.atom ≢ first.atom) (x ∷ xs) x own.0 (in_head x xs) (sym (ap (λ (y : Signed). y.atom) e));
      one_lasts = lasts d lt;
      other_lasts = (false-from s.trail.steps back x fresh h.0).before d lt;
    }

pub asserting-of : (s : Stored) (id : ℕ) (ids : List ℕ) (ls : List Signed) (level back : ℕ) → EachAfter IsFresh s.trail.steps → IsSearched s → IsLearnt s id ids ls level back → IsAsserting s ls back
asserting-of s id ids ls level back fresh h k =
    let own : HaveOwnAtoms (k.first ∷ k.rest) = subst HaveOwnAtoms k.is k.own_atoms in
    let at : IsFalseAt s.trail.steps k.deepest k.first = k.at_deepest in
    let deep : (at.step).depth ≤ s.trail.depth = All-contains (λ (t : Step). t.depth ≤ s.trail.depth) s.trail.steps at.step h.deepest at.on in
    let same : (at.step).depth ≡ k.deepest = at.depth in
    let above : back < k.deepest = k.above in
    record {
      over = drawn-over s ids ls h k.own_atoms k.drawn;
      above = omega arith;
      literal = k.first;
      is_open = k.is_open back k.above;
      unit = subst (λ xs. IsUnit (up_to back s.trail.steps) xs k.first) (sym k.is) (
        in_head k.first k.rest,
        All-cons (λ m. (m ≡ k.first) ⊎ IsFalseOn (up_to back s.trail.steps) m) k.first k.rest (inl refl)
            (All-weaker (IsFalseOn (up_to back s.trail.steps)) (λ m. (m ≡ k.first) ⊎ IsFalseOn (up_to back s.trail.steps) m) (λ l f. inr f) k.rest (rest-false s.trail.steps k.rest back fresh k.back_to)),
      );
      quiet = subst (λ xs. IsQuietBelow s xs back) (sym k.is) (quiet-rest s k.first k.rest back fresh own k.back_to (λ d lt. (k.is_open d (omega arith)).1));
    }

pub true-by : (clauses : List Kept) (ids : List ℕ) (level : ℕ) (ls : List Signed) → ComesFrom clauses ids level ls → IsTrueByLevel clauses level ls
true-by clauses ids level ls h values true' = h.true_wherever values (λ c kept among. true' c kept (h.within c kept among))

drawn-by : (clauses : List Kept) (ids : List ℕ) (level : ℕ) (ls : List Signed) → ComesFrom clauses ids level ls → All (IsDrawnFrom clauses ids) ls → IsDrawn clauses level ls
drawn-by clauses ids level ls h drawn l c =
    let d : IsDrawnFrom clauses ids l = All-contains (IsDrawnFrom clauses ids) ls l drawn c in
    (d.premise, d.kept, h.within d.premise d.kept d.among, d.has)

pub learnt-from : (s : Stored) (id : ℕ) (ids : List ℕ) (c : Lemma) (back : ℕ) → EachAfter IsFresh s.trail.steps → IsSearched s → IsLearnt s id ids c.literals c.level back → IsLearntFrom s c back
learnt-from s id ids c back fresh h k =
    let asserts : IsAsserting s c.literals back = asserting-of s id ids c.literals c.level back fresh h k in
    let at : IsFalseAt s.trail.steps k.deepest k.first = k.at_deepest in
    let deep : (at.step).depth ≤ s.trail.depth = All-contains (λ (t : Step). t.depth ≤ s.trail.depth) s.trail.steps at.step h.deepest at.on in
    let same : (at.step).depth ≡ k.deepest = at.depth in
    let above : back < k.deepest = k.above in
    record {
      asserting = asserts;
      true_by = true-by s.clauses ids c.level c.literals k.comes;
      drawn = drawn-by s.clauses ids c.level c.literals k.comes k.drawn;
      own_atoms = k.own_atoms;
      unforced = k.unforced (literal_lists s.clauses) (All-map (IsQuiet (up_to (k.deepest - 1) s.trail.steps)) (λ (x : Kept). x.literals) s.clauses (h.quiet (k.deepest - 1) (omega arith)));
    }
