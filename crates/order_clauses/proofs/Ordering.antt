-- The clauses of links in order.
use Rattle.std.proofs.Common.{◌≡◌, ◌≢◌, ◌⊎◌, inl, inr, ℕ, zero, suc, ◌<◌, ◌≤◌, ◌&&◌, ◌||◌, Bool, true, false, not, nat_eq, List, [], ◌∷◌, ◌++◌, length, get_or, All, Contains, refl, sym, ap, subst, ◌∙◌, arith}
use Rattle.std.specs.Prelude.{ℤ, int_le, if◌then◌else◌}
use Rattle.std.specs.List.{swap}
use Rattle.std.specs.List.Sorted.{IsSorted, IsPermutation}
use Rattle.std.proofs.lemmas.Bool.{cases_lt, eqb-true}
use Rattle.std.proofs.lemmas.Int.{ints}
use Rattle.std.proofs.lemmas.List.Edits.{swapped_from_swap, length-swap, Swapped}
use Rattle.std.proofs.lemmas.List.Elements.{All-cons, All-nil, All-head, All-tail, All-append, All-weaker}
use Rattle.std.proofs.lemmas.List.Sorted.{IsPermutation-keeps, All-permutation, Contains-permutation}
use Rattle.literals.specs.Signed.{Signed, opposite, sign, literal_true, some_true}
use Rattle.smt_meaning.specs.declared.clauses.Summand.{Summand}
use Rattle.smt_meaning.specs.declared.clauses.Atom.{Atom}
use Rattle.smt_meaning.specs.Term.{Tree, Interpretation}
use Rattle.smt_meaning.specs.Clause.{atom_true, sum_value}
use Rattle.search_port.specs.State.{atom_at}
use Rattle.clause_form.specs.Node.{HasNoAtomTwice}
use Rattle.atom_form.specs.Sums.{AreApart}
use Rattle.order_clauses.specs.declared.links.Link.{Link}
use Rattle.order_clauses.specs.Links.{literal_of, sum_at, IsLink, HasLink, link_cmp, implication, implied, between, between_neighbours, between_links}
use Rattle.order_clauses.specs.Axioms.{IsSound, AddsAxioms}
use Rattle.order_clauses.specs.Gathered.{AreDistinct, AreGathered}

-- ---- numbers stay different

same_or_not : (m n : ℕ) → (m ≡ n) ⊎ (m ≡ n → ⊥)
same_or_not m n = elim (cases_lt m n) [
  | inl less ↦ inr (λ e. omega (arith, e))
  | inr more ↦ elim (cases_lt n m) [ inl above ↦ inr (λ e. omega (arith, e)) | inr equal ↦ inl (omega arith) ]
]

abbrev Differ : List Link → Type 0
Differ links = (i j : ℕ) (d : Link) → i < length links → j < length links → (i ≡ j → ⊥) → (get_or links i d).number ≢ (get_or links j d).number

differ_from : (links : List Link) → AreDistinct links → Differ links
differ_from links h i j d li lj ne = elim (cases_lt i j) [
  | inl less ↦ h i j d less lj
  | inr more ↦ (λ e. h j i d (by more ne) li (sym e))
]
  where
    by : j ≤ i → (i ≡ j → ⊥) → j < i
    by m n = elim (cases_lt j i) [ inl less ↦ less | inr above ↦ absurd (n (omega arith)) ]

-- where an element of a list stood before a swap
record WasAt (links : List Link) (a b : ℕ) (d : Link) (m : ℕ) : Type 0 where
  place : ℕ
  within : place < length links
  same : get_or (swap links a b) m d ≡ get_or links place d
  which : ((m ≡ a) × (place ≡ b)) ⊎ (((m ≡ b) × (place ≡ a)) ⊎ ((m ≡ a → ⊥) × (m ≡ b → ⊥) × (place ≡ m)))

was_at : (links : List Link) (a b : ℕ) (d : Link) (m : ℕ) → a < length links → b < length links → m < length links → WasAt links a b d m
was_at links a b d m la lb lm = by (same_or_not m a) (same_or_not m b)
  where
    swapped : Swapped (λ i. get_or links i d) (λ i. get_or (swap links a b) i d) a b
    swapped = swapped_from_swap links (swap links a b) a b d la lb refl

    by : ((m ≡ a) ⊎ (m ≡ a → ⊥)) → ((m ≡ b) ⊎ (m ≡ b → ⊥)) → WasAt links a b d m
    by (inl e) x = record { place = b; within = lb; same = ap (λ i. get_or (swap links a b) i d) e ∙ swapped.0; which = inl (e, refl) }
    by (inr ne) (inl e) = record { place = a; within = la; same = ap (λ i. get_or (swap links a b) i d) e ∙ swapped.1; which = inr (inl (e, refl)) }
    by (inr ne) (inr nb) = record { place = m; within = lm; same = swapped.2 m ne nb; which = inr (inr (ne, nb, refl)) }

abbrev Which : ℕ → ℕ → ℕ → ℕ → Type 0
Which a b m x = ((m ≡ a) × (x ≡ b)) ⊎ (((m ≡ b) × (x ≡ a)) ⊎ ((m ≡ a → ⊥) × (m ≡ b → ⊥) × (x ≡ m)))

places_differ : (a b i j x y : ℕ) → Which a b i x → Which a b j y → (i ≡ j → ⊥) → x ≡ y → ⊥
places_differ a b i j x y (inl p) (inl q) ne e = ne (p.0 ∙ sym q.0)
places_differ a b i j x y (inl p) (inr (inl q)) ne e = ne (p.0 ∙ sym q.1 ∙ sym e ∙ p.1 ∙ sym q.0)
places_differ a b i j x y (inl p) (inr (inr q)) ne e = q.1 (sym q.2 ∙ sym e ∙ p.1)
places_differ a b i j x y (inr (inl p)) (inl q) ne e = ne (p.0 ∙ sym q.1 ∙ sym e ∙ p.1 ∙ sym q.0)
places_differ a b i j x y (inr (inl p)) (inr (inl q)) ne e = ne (p.0 ∙ sym q.0)
places_differ a b i j x y (inr (inl p)) (inr (inr q)) ne e = q.0 (sym q.2 ∙ sym e ∙ p.1)
places_differ a b i j x y (inr (inr p)) (inl q) ne e = p.1 (sym p.2 ∙ e ∙ q.1)
places_differ a b i j x y (inr (inr p)) (inr (inl q)) ne e = p.0 (sym p.2 ∙ e ∙ q.1)
places_differ a b i j x y (inr (inr p)) (inr (inr q)) ne e = ne (sym p.2 ∙ e ∙ q.2)

differ_swapped : (links : List Link) (a b : ℕ) → a < length links → b < length links → Differ links → Differ (swap links a b)
differ_swapped links a b la lb h i j d li lj ne =
    let size : length (swap links a b) ≡ length links = length-swap links a b in
    let x : WasAt links a b d i = was_at links a b d i la lb (omega arith) in
    let y : WasAt links a b d j = was_at links a b d j la lb (omega arith) in
    λ e. h x.place y.place d x.within y.within (places_differ a b i j x.place y.place x.which y.which ne)
    (ap (λ (l : Link). l.number) (sym x.same) ∙ e ∙ ap (λ (l : Link). l.number) y.same)

distinct_in_order : (links links' : List Link) → IsPermutation links links' → AreDistinct links → AreDistinct links'
distinct_in_order links links' p h =
    let kept : Differ links' = IsPermutation-keeps links Differ (differ_from links h) differ_swapped links' p in
    λ i j d less within. kept i j d (omega arith) within (λ e. omega (arith, e))

-- ---- one clause

not_opposite : (b : Bool) → b ≡ not b → ⊥
not_opposite true h = cc
not_opposite false h = cc

no_pair_at : (ls : List Signed) → HasNoAtomTwice ls → (l : Signed) (j k : ℕ) → j < length ls → k < length ls → get_or ls j l ≡ l → get_or ls k (opposite l) ≡ opposite l → ⊥
no_pair_at [] h l j k a b p q = absurd (omega arith)
no_pair_at (m ∷ ls) h l zero zero a b p q = not_opposite l.positive (ap (λ (x : Signed). x.positive) (sym p ∙ q))
no_pair_at (m ∷ ls) h l zero (suc k) a b p q = h.0 k (opposite l) (omega arith) (ap (λ (x : Signed). x.atom) p ∙ sym (ap (λ (x : Signed). x.atom) q))
no_pair_at (m ∷ ls) h l (suc j) zero a b p q = h.0 j l (omega arith) (ap (λ (x : Signed). x.atom) q ∙ sym (ap (λ (x : Signed). x.atom) p))
no_pair_at (m ∷ ls) h l (suc j) (suc k) a b p q = no_pair_at ls h.1 l j k (omega arith) (omega arith) p q

follows : (a b : Bool) → (a ≡ true → b ≡ true) → (not a || (b || false)) ≡ true
follows true true h = refl
follows true false h = absurd (let x : false ≡ true = h refl in cc)
follows false b h = refl

sign_not : (b v : Bool) → sign (not b) v ≡ not (sign b v)
sign_not true v = refl
sign_not false true = refl
sign_not false false = refl

up : (s k j : ℤ) → int_le k j ≡ true → int_le s k ≡ true → int_le s j ≡ true
up s k j h e = grind (arith, ints)

left : (a b : Bool) → (a && b) ≡ true → a ≡ true
left true b h = refl
left false b h = cc

right : (a b : Bool) → (a && b) ≡ true → b ≡ true
right true b h = h
right false b h = cc

module _ (table : List Atom) (sums : List (List Summand)) where
  implication_sound : (x y : Link) → IsLink table sums x → IsLink table sums y → x.number ≢ y.number → x.group ≡ y.group → int_le x.threshold y.threshold ≡ true → IsSound table (implication x y)
  implication_sound x y hx hy apart same less =
      let once : HasNoAtomTwice (implication x y) =
      (All-cons (λ (m : Signed). x.number ≢ m.atom) (literal_of y) [] apart (All-nil (λ (m : Signed). x.number ≢ m.atom)), (All-nil (λ (m : Signed). y.number ≢ m.atom), tt)) in
      let inside : All (λ (m : Signed). m.atom < length table) (implication x y) =
      All-cons (λ (m : Signed). m.atom < length table) (opposite (literal_of x)) (literal_of y ∷ []) hx.numbered
      (All-cons (λ (m : Signed). m.atom < length table) (literal_of y) [] hy.numbered (All-nil (λ (m : Signed). m.atom < length table))) in
      record {
        over = record {
          within = λ m c. subst (λ (l : Signed). l.atom < length table) c.2 (inside c.0 m c.1);
          no_pair = λ m a b. no_pair_at (implication x y) once m a.0 b.0 a.1 b.1 a.2 b.2;
        };
        once = once;
        valid = λ ts I. valid ts I;
      }
    where
      valid : (ts : List Tree) (I : Interpretation) → some_true (λ n. atom_true ts I (atom_at table n)) (implication x y) ≡ true
      valid ts I =
          let v : ℕ → Bool = λ n. atom_true ts I (atom_at table n) in
          let s : ℤ = sum_value ts I (sum_at sums x.group) in
          let second : literal_true v (literal_of y) ≡ int_le s y.threshold = hy.says ts I ∙ ap (λ g. int_le (sum_value ts I (sum_at sums g)) y.threshold) (sym same) in
          ap (λ b. b || (literal_true v (literal_of y) || false)) (sign_not x.positive (v x.number))
          ∙ follows (literal_true v (literal_of x)) (literal_true v (literal_of y)) (λ e. second ∙ up s x.threshold y.threshold less (sym (hx.says ts I) ∙ e))

  implied_sound : (x y : Link) → IsLink table sums x → IsLink table sums y → x.number ≢ y.number → All (IsSound table) (implied x y)
  implied_sound x y hx hy apart = by (nat_eq x.group y.group && int_le x.threshold y.threshold) refl
    where
      by : (b : Bool) → (nat_eq x.group y.group && int_le x.threshold y.threshold) ≡ b → All (IsSound table) (if b then implication x y ∷ [] else [])
      by true e =
          All-cons (IsSound table) (implication x y) []
          (implication_sound x y hx hy apart (eqb-true x.group y.group (left (nat_eq x.group y.group) (int_le x.threshold y.threshold) e)) (right (nat_eq x.group y.group) (int_le x.threshold y.threshold) e))
          (All-nil (IsSound table))
      by false e = All-nil (IsSound table)

  neighbours_sound : (x : Link) (ys : List Link) → All (IsLink table sums) (x ∷ ys) → AreDistinct (x ∷ ys) → All (IsSound table) (between_neighbours x ys)
  neighbours_sound x [] h distinct = All-nil (IsSound table)
  neighbours_sound x (y ∷ ys) h distinct =
      let own : IsLink table sums x = All-head (IsLink table sums) x (y ∷ ys) h in
      let rest : All (IsLink table sums) (y ∷ ys) = All-tail (IsLink table sums) x (y ∷ ys) h in
      let next : IsLink table sums y = All-head (IsLink table sums) y ys rest in
      let apart : x.number ≢ y.number = distinct 0 1 x (omega arith) (omega arith) in
      All-append (IsSound table) (between x y) (between_neighbours y ys)
      (All-append (IsSound table) (implied x y) (implied y x) (implied_sound x y own next apart) (implied_sound y x next own (λ e. apart (sym e))))
      (neighbours_sound y ys rest (λ i j d less within. distinct (suc i) (suc j) d (omega arith) (omega arith)))

  links_sound : (links : List Link) → All (IsLink table sums) links → AreDistinct links → All (IsSound table) (between_links links)
  links_sound [] h distinct = All-nil (IsSound table)
  links_sound (x ∷ xs) h distinct = neighbours_sound x xs h distinct

  module _ (links links' now : List Link) (g : AreGathered table (length table) sums links) (p : IsPermutation links links') (e : now ≡ links') where
    mean : All (IsLink table sums) now
    mean = subst (All (IsLink table sums)) (sym e) (All-permutation (IsLink table sums) links links' p g.mean)

    pub numbers_small : length table ≤ 2147483648 → All (λ (l : Link). l.number < 2147483648) now
    numbers_small few = All-weaker (IsLink table sums) (λ (l : Link). l.number < 2147483648) (λ l h. let less : l.number < length table = h.numbered in omega arith) now mean

    pub adds : AreApart sums → IsSorted link_cmp links' → (old new : List (List Signed)) → new ≡ old ++ between_links now → AddsAxioms table old new
    adds apart sorted old new put = record {
      added = between_links now;
      is = put;
      axioms = record {
        sums = sums;
        links = now;
        apart = apart;
        mean = mean;
        each = λ n s t at some.
            let h : HasLink sums links n s = g.each n s t at.0 at some in
            record { link = h.link; among = subst (λ ls. Contains ls h.link) (sym e) (Contains-permutation links links' h.link p h.among); number = h.number; turned_sum = h.turned_sum };
        sorted = subst (IsSorted link_cmp) (sym e) sorted;
        clauses = refl;
      };
      sound = links_sound now mean (subst AreDistinct (sym e) (distinct_in_order links links' p g.distinct));
    }
