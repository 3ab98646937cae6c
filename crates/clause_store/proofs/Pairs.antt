-- How often propagation looks at clauses: pairs of a clause and a literal of it that became false.
use Rattle.std.proofs.Common.{◌≡◌, ℕ, ◌+◌, ◌-◌, ◌<◌, ◌≤◌, None, List, [], ◌++◌, All, Contains, length, map, take, drop, get_or, subst, sym, ap, ◌∙◌, inl, inr, ◌⊎◌, arith}
use Rattle.std.proofs.lemmas.List.{length-append, length-map, length-drop, length-take, length-take-le, map-append, take-take, take-append-drop, get_or_append_left, get_or-append-add, get_or-map, get_or-drop, get_or-take, get_or_default}
use Rattle.std.proofs.lemmas.List.Elements.{All-weaker, All-append, All-map, All-nil, All-get_or, Contains-append_right, Contains-get_or}
use Rattle.literals.specs.Signed.{Signed, opposite}
use Rattle.clause_store.specs.Trail.{Assigns}
use Rattle.clause_store.specs.declared.trail.Step.{Step}
use Rattle.clause_store.specs.Stored.{Kept, IsFalseOn}
use Rattle.clause_store.specs.Found.{HasKept}
use Rattle.clause_store.specs.Entries.{Entry, zero_literal}
use Rattle.clause_store.specs.Watching.{SameShape, Grows, kept_from}
use Rattle.clause_store.specs.Looks.{HasLiteral, AreApart, LooksAt, Pair, no_pair, NoneTwice, LooksBy}
use Rattle.clause_store.proofs.Kept.{has_kept}
use Rattle.clause_store.specs.Each.{EachAfter}
use Rattle.clause_store.specs.TrailInvariant.{IsFresh}
use Rattle.clause_store.proofs.Turning.{Assigns-front, opposite-opposite}

below_or_past : (a b : ℕ) → (a < b) ⊎ (b ≤ a)
below_or_past a b = grind arith

-- ---- lists of pairs

get_right : (xs ys : List Pair) (i : ℕ) → length xs ≤ i → get_or (xs ++ ys) i no_pair ≡ get_or ys (i - length xs) no_pair
get_right xs ys i le =
    let e : length xs + (i - length xs) ≡ i = omega arith in
    subst (λ n. get_or (xs ++ ys) n no_pair ≡ get_or ys (i - length xs) no_pair) e (get_or-append-add xs ys (i - length xs) no_pair)

NoneTwice-append : (xs ys : List Pair) → NoneTwice xs → NoneTwice ys → ((i j : ℕ) → i < length xs → j < length ys → get_or xs i no_pair ≡ get_or ys j no_pair → ⊥) → NoneTwice (xs ++ ys)
NoneTwice-append xs ys hx hy disjoint = λ i j in-i in-j same.
    let len : length (xs ++ ys) ≡ length xs + length ys = length-append xs ys in
    elim (below_or_past i (length xs)) [
      | inl bi ↦ elim (below_or_past j (length xs)) [
        | inl bj ↦ hx i j bi bj (sym (get_or_append_left xs ys no_pair i bi) ∙ (same ∙ get_or_append_left xs ys no_pair j bj))
        | inr pj ↦ absurd (disjoint i (j - length xs) bi (omega arith) (sym (get_or_append_left xs ys no_pair i bi) ∙ (same ∙ get_right xs ys j pj)))
      ]
      | inr pi ↦ elim (below_or_past j (length xs)) [
        | inl bj ↦ absurd (disjoint j (i - length xs) bj (omega arith) (sym (get_or_append_left xs ys no_pair j bj) ∙ (sym same ∙ get_right xs ys i pi)))
        | inr pj ↦
            let e : i - length xs ≡ j - length xs = hy (i - length xs) (j - length xs) (omega arith) (omega arith) (sym (get_right xs ys i pi) ∙ (same ∙ get_right xs ys j pj)) in
            omega arith
      ]
    ]

abbrev pair_of : Signed → ℕ → Pair
pair_of l i = record { id = i; literal = l }

pair_at : (l : Signed) (rows : List ℕ) (i : ℕ) → i < length rows → get_or (map (pair_of l) rows) i no_pair ≡ pair_of l (get_or rows i 0)
pair_at l rows i lt = get_or-map (pair_of l) rows i 0 no_pair lt

NoneTwice-map : (l : Signed) (rows : List ℕ) → AreApart rows → NoneTwice (map (pair_of l) rows)
NoneTwice-map l rows apart = λ i j in-i in-j same.
    let len : length (map (pair_of l) rows) ≡ length rows = length-map rows (pair_of l) in
    let a : i < length rows = omega arith in
    let b : j < length rows = omega arith in
    apart i j a b (ap (λ (p : Pair). p.id) (sym (pair_at l rows i a) ∙ (same ∙ pair_at l rows j b)))

-- ---- literals that steps make false

abbrev no_step : Step
no_step = record { literal = zero_literal; depth = 0; reason = None }

-- the literal is false by a step from one place up to another
pub record FalseAt (steps : List Step) (start end' : ℕ) (l : Signed) : Type 0 where
  pub place : ℕ
  pub from : start ≤ place
  pub below : place < end'
  pub within : place < length steps
  pub is : (get_or steps place no_step).literal ≡ opposite l

assigns_at : (steps : List Step) (k : ℕ) (d : Step) → k < length steps → Assigns steps (get_or steps k d).literal
assigns_at steps k d lt =
    let f : Step → Signed = λ s. s.literal in
    let len : length (map f steps) ≡ length steps = length-map steps f in
    subst (Contains (map f steps)) (get_or-map f steps k d d.literal lt) (Contains-get_or (map f steps) k d.literal (omega arith))

FalseAt-more : (steps added : List Step) (start a b : ℕ) (l : Signed) → a ≤ b → FalseAt steps start a l → FalseAt (steps ++ added) start b l
FalseAt-more steps added start a b l le h =
    let lt : h.place < a = h.below in
    let lt' : h.place < length steps = h.within in
    record {
      place = h.place;
      from = h.from;
      below = omega arith;
      within = omega (arith, length-append steps added);
      is = ap (λ (s : Step). s.literal) (get_or_append_left steps added no_step h.place h.within) ∙ h.is;
    }

FalseAt-on : (steps : List Step) (start end' : ℕ) (l : Signed) → FalseAt steps start end' l → IsFalseOn (drop start steps) l
FalseAt-on steps start end' l h =
    let from : start ≤ h.place = h.from in
    let within : h.place < length steps = h.within in
    let e : start + (h.place - start) ≡ h.place = omega arith in
    let here : get_or (drop start steps) (h.place - start) no_step ≡ get_or steps h.place no_step =
    get_or-drop start steps (h.place - start) no_step ∙ ap (λ n. get_or steps n no_step) e in
    subst (Assigns (drop start steps)) (ap (λ (s : Step). s.literal) here ∙ h.is)
    (assigns_at (drop start steps) (h.place - start) no_step (omega (arith, length-drop start steps)))

-- a literal that isn't on the trail's front wasn't made false there
not_yet : (steps : List Step) (start head : ℕ) (s : Step) → head ≤ length steps → (Assigns (take head steps) s.literal → ⊥) → FalseAt steps start head (opposite s.literal) → ⊥
not_yet steps start head s le fresh h =
    let below : h.place < head = h.below in
    let len : length (take head steps) ≡ head = length-take-le head steps le in
    fresh (subst (Assigns (take head steps)) (ap (λ (x : Step). x.literal) (get_or-take head steps h.place no_step below) ∙ (h.is ∙ opposite-opposite s.literal))
    (assigns_at (take head steps) h.place no_step (omega arith)))

-- ---- what the count rose by so far

pub record Looked (es : List Entry) (steps : List Step) (start head old new : ℕ) : Type 0 where
  pub pairs : List Pair
  pub none_twice : NoneTwice pairs
  pub having : All (λ (p : Pair). HasLiteral es p.literal p.id) pairs
  pub are_false : All (λ (p : Pair). FalseAt steps start head p.literal) pairs
  pub bound : new ≤ old + length pairs

pub Looked-start : (es : List Entry) (steps : List Step) (start n : ℕ) → Looked es steps start start n n
Looked-start es steps start n = record {
  pairs = [];
  none_twice = λ i j lt. absurd (omega (arith, lt));
  having = All-nil (λ (p : Pair). HasLiteral es p.literal p.id);
  are_false = All-nil (λ (p : Pair). FalseAt steps start start p.literal);
  bound = omega arith;
}

-- what a clause has it had before, whatever its watched literals
had : (es es' : List Entry) (f : Signed) (i : ℕ) → SameShape es es' → HasLiteral es' f i → HasLiteral es f i
had es es' f i shape h = record { live = sym (shape.live i) ∙ h.live; contained = subst (λ ls. Contains ls f) (shape.literals i) h.contained }

pub Looked-turn : (clauses : List Kept) (depth : ℕ) (es es' : List Entry) (steps steps' : List Step) (start head old n n' : ℕ) (s : Step) → start ≤ head → head < length steps → s ≡ get_or steps head s → (Assigns (take head steps) s.literal → ⊥)
    → SameShape es es' → Grows clauses depth steps steps' → LooksAt (opposite s.literal) es' n n' → Looked es steps start head old n → Looked es steps' start (head + 1) old n'
Looked-turn clauses depth es es' steps steps' start head old n n' s le lt is fresh shape grows at h =
    let f : Signed = opposite s.literal in
    let more : List Pair = map (pair_of f) at.rows in
    let here : FalseAt steps start (head + 1) f = record {
      place = head;
      from = le;
      below = omega arith;
      within = lt;
      is = ap (λ (x : Step). x.literal) (sym (is ∙ get_or_default steps head s no_step lt)) ∙ sym (opposite-opposite s.literal);
    } in
    let same : All (HasLiteral es f) at.rows = λ k d in'. had es es' f (get_or at.rows k d) shape (at.having k d in') in
    subst (λ (xs : List Step). Looked es xs start (head + 1) old n') (sym grows.gains) record {
      pairs = h.pairs ++ more;
      none_twice = NoneTwice-append h.pairs more h.none_twice (NoneTwice-map f at.rows at.apart)
          (λ i j in-i in-j e.
          let len : length more ≡ length at.rows = length-map at.rows (pair_of f) in
          let p : FalseAt steps start head (get_or h.pairs i no_pair).literal = All-get_or (λ (p : Pair). FalseAt steps start head p.literal) h.pairs i no_pair in-i h.are_false in
          let l : (get_or h.pairs i no_pair).literal ≡ f = ap (λ (p : Pair). p.literal) (e ∙ pair_at f at.rows j (omega arith)) in
          not_yet steps start head s (omega arith) fresh (subst (FalseAt steps start head) l p));
      having = All-append (λ (p : Pair). HasLiteral es p.literal p.id) h.pairs more h.having (All-map (λ (p : Pair). HasLiteral es p.literal p.id) (pair_of f) at.rows same);
      are_false = All-append (λ (p : Pair). FalseAt (steps ++ grows.added) start (head + 1) p.literal) h.pairs more
          (All-weaker (λ (p : Pair). FalseAt steps start head p.literal) (λ (p : Pair). FalseAt (steps ++ grows.added) start (head + 1) p.literal)
          (λ p x. FalseAt-more steps grows.added start head (head + 1) p.literal (omega arith) x) h.pairs h.are_false)
          (All-map (λ (p : Pair). FalseAt (steps ++ grows.added) start (head + 1) p.literal) (pair_of f) at.rows (λ k d in'. FalseAt-more steps grows.added start (head + 1) (head + 1) f (omega arith) here));
      bound = omega (arith, length-append h.pairs more, length-map at.rows (pair_of f), at.bound, h.bound);
    }

-- in the end
pub Looked-by : (es : List Entry) (steps : List Step) (start head old new : ℕ) → Looked es steps start head old new → LooksBy (drop start steps) (kept_from 0 es) old new
Looked-by es steps start head old new h = record {
  pairs = h.pairs;
  none_twice = h.none_twice;
  having = All-weaker (λ (p : Pair). HasLiteral es p.literal p.id) (λ (p : Pair). HasKept (kept_from 0 es) p.id (λ ls. Contains ls p.literal)) (λ p x. has_kept (λ ls. Contains ls p.literal) es p.id x.live x.contained) h.pairs h.having;
  are_false = All-weaker (λ (p : Pair). FalseAt steps start head p.literal) (λ (p : Pair). IsFalseOn (drop start steps) p.literal) (λ p x. FalseAt-on steps start head p.literal x) h.pairs h.are_false;
  bound = h.bound;
}

pub LooksBy-none : (steps : List Step) (es : List Entry) (n : ℕ) → LooksBy steps (kept_from 0 es) n n
LooksBy-none steps es n = record {
  pairs = [];
  none_twice = λ i j lt. absurd (omega (arith, lt));
  having = All-nil (λ (p : Pair). HasKept (kept_from 0 es) p.id (λ ls. Contains ls p.literal));
  are_false = All-nil (λ (p : Pair). IsFalseOn steps p.literal);
  bound = omega arith;
}

-- ---- two parts of a trail

pub Looked-front : (es : List Entry) (steps : List Step) (start head old new : ℕ) → Looked es steps start head old new → LooksBy (drop start (take head steps)) (kept_from 0 es) old new
Looked-front es steps start head old new h = record {
  pairs = h.pairs;
  none_twice = h.none_twice;
  having = All-weaker (λ (p : Pair). HasLiteral es p.literal p.id) (λ (p : Pair). HasKept (kept_from 0 es) p.id (λ ls. Contains ls p.literal)) (λ p x. has_kept (λ ls. Contains ls p.literal) es p.id x.live x.contained) h.pairs h.having;
  are_false = All-weaker (λ (p : Pair). FalseAt steps start head p.literal) (λ (p : Pair). IsFalseOn (drop start (take head steps)) p.literal) (λ p x. FalseAt-on (take head steps) start head p.literal (in_front p.literal x)) h.pairs h.are_false;
  bound = h.bound;
}
  where
    length_front : (n : ℕ) (xs : List Step) (k : ℕ) → k < n → k < length xs → k < length (take n xs)
    length_front n xs k a b = omega (arith, length-take n xs)

    in_front : (l : Signed) → FalseAt steps start head l → FalseAt (take head steps) start head l
    in_front l x =
        let below : x.place < head = x.below in
        let within : x.place < length steps = x.within in
        record {
          place = x.place;
          from = x.from;
          below = x.below;
          within = length_front head steps x.place below within;
          is = ap (λ (s : Step). s.literal) (get_or-take head steps x.place no_step x.below) ∙ x.is;
        }

-- what is on the trail up to a place isn't after it
apart_parts : (steps : List Step) (start head : ℕ) (l : Signed) → EachAfter IsFresh steps → Assigns (drop start (take head steps)) l → Assigns (drop head steps) l → ⊥
apart_parts steps start head l fresh a b =
    let f : Step → Signed = λ s. s.literal in
    let k : ℕ = head + b.0 in
    let len : length (map f (drop head steps)) ≡ length (drop head steps) = length-map (drop head steps) f in
    let in-b : b.0 < length (map f (drop head steps)) = b.1 in
    let lt : k < length steps = omega (arith, length-drop head steps) in
    let is : (get_or steps k no_step).literal ≡ l = ap f (sym (get_or-drop head steps b.0 no_step)) ∙ (sym (get_or-map f (drop head steps) b.0 no_step l (omega arith)) ∙ b.2) in
    let early : Assigns (take head steps) l = subst (λ xs. Assigns xs l) (take-append-drop start (take head steps)) (after_front (take start (take head steps)) (drop start (take head steps)) l a) in
    let before : Assigns (take k steps) l = Assigns-front head (take k steps) l (subst (λ xs. Assigns xs l) (sym (take-take head k steps (omega arith))) early) in
    (fresh k no_step lt).0 (subst (Assigns (take k steps)) (sym is) before)
  where
    after_front : (xs ys : List Step) (l : Signed) → Assigns ys l → Assigns (xs ++ ys) l
    after_front xs ys l c = rw (map-append (λ (s : Step). s.literal) xs ys) (Contains-append_right (map (λ (s : Step). s.literal) xs) (map (λ (s : Step). s.literal) ys) l c)

pub LooksBy-join : (clauses : List Kept) (steps : List Step) (start head a b c : ℕ) → EachAfter IsFresh steps → start ≤ head → LooksBy (drop start (take head steps)) clauses a b → LooksBy (drop head steps) clauses b c → LooksBy (drop start steps) clauses a c
LooksBy-join clauses steps start head a b c fresh le x y = record {
  pairs = x.pairs ++ y.pairs;
  none_twice = NoneTwice-append x.pairs y.pairs x.none_twice y.none_twice
      (λ i j in-i in-j e.
      apart_parts steps start head (opposite (get_or x.pairs i no_pair).literal) fresh (All-get_or (λ (p : Pair). IsFalseOn (drop start (take head steps)) p.literal) x.pairs i no_pair in-i x.are_false)
      (subst (λ (p : Pair). Assigns (drop head steps) (opposite p.literal)) (sym e) (All-get_or (λ (p : Pair). IsFalseOn (drop head steps) p.literal) y.pairs j no_pair in-j y.are_false)));
  having = All-append (λ (p : Pair). HasKept clauses p.id (λ ls. Contains ls p.literal)) x.pairs y.pairs x.having y.having;
  are_false = All-append (λ (p : Pair). IsFalseOn (drop start steps) p.literal) x.pairs y.pairs
      (All-weaker (λ (p : Pair). IsFalseOn (drop start (take head steps)) p.literal) (λ (p : Pair). IsFalseOn (drop start steps) p.literal) (λ p f. early (opposite p.literal) f) x.pairs x.are_false)
      (All-weaker (λ (p : Pair). IsFalseOn (drop head steps) p.literal) (λ (p : Pair). IsFalseOn (drop start steps) p.literal) (λ p f. late (opposite p.literal) f) y.pairs y.are_false);
  bound = omega (arith, length-append x.pairs y.pairs, x.bound, y.bound);
}
  where
    at_place : (n : ℕ) (xs : List Step) (l : Signed) → (k : ℕ) → n ≤ k → k < length xs → (get_or xs k no_step).literal ≡ l → Assigns (drop n xs) l
    at_place n xs l k from within is =
        let e : n + (k - n) ≡ k = omega arith in
        subst (Assigns (drop n xs)) (ap (λ (s : Step). s.literal) (get_or-drop n xs (k - n) no_step ∙ ap (λ m. get_or xs m no_step) e) ∙ is)
        (assigns_at (drop n xs) (k - n) no_step (omega (arith, length-drop n xs)))

    -- where a step of the rest of a list stands
    place_of : (n : ℕ) (xs : List Step) (l : Signed) → Assigns (drop n xs) l → (k : ℕ) × (n ≤ k) × (k < length xs) × ((get_or xs k no_step).literal ≡ l)
    place_of n xs l h =
        let f : Step → Signed = λ s. s.literal in
        let len : length (map f (drop n xs)) ≡ length (drop n xs) = length-map (drop n xs) f in
        let in-h : h.0 < length (map f (drop n xs)) = h.1 in
        (n + h.0, omega arith, omega (arith, length-drop n xs), ap f (sym (get_or-drop n xs h.0 no_step)) ∙ (sym (get_or-map f (drop n xs) h.0 no_step l (omega arith)) ∙ h.2))

    early : (l : Signed) → Assigns (drop start (take head steps)) l → Assigns (drop start steps) l
    early l h =
        let p = place_of start (take head steps) l h in
        let from : start ≤ p.0 = p.1 in
        let within : p.0 < length (take head steps) = p.2 in
        let below : p.0 < head = omega (arith, length-take head steps) in
        at_place start steps l p.0 from (omega (arith, length-take head steps)) (ap (λ (s : Step). s.literal) (sym (get_or-take head steps p.0 no_step below)) ∙ p.3)

    late : (l : Signed) → Assigns (drop head steps) l → Assigns (drop start steps) l
    late l h =
        let p = place_of head steps l h in
        let from : head ≤ p.0 = p.1 in
        at_place start steps l p.0 (omega arith) p.2 p.3
