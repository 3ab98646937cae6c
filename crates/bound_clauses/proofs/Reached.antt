-- What propagation over the axioms reaches from one literal.
use Rattle.std.proofs.Common.{◌≡◌, ◌≢◌, ℕ, zero, suc, Bool, true, false, nat_eq, List, [], ◌∷◌, ◌++◌, map, All, Contains, refl, sym, ap, subst, ◌∙◌, arith, eq-eqb}
use Rattle.std.specs.Prelude.{not, if◌then◌else◌, ℤ, pos, ◌+ℤ◌, neg_ℤ, int_le, ◌≤ℤ◌, ◌<ℤ◌}
use Rattle.std.proofs.lemmas.Int.{ints}
use Rattle.std.proofs.lemmas.Bool.{ne_eqb}
use Rattle.std.proofs.lemmas.List.Elements.{All-cons, All-nil, All-head, All-append, All-map, All-weaker, All-contains, All-contains_itself, Contains-append_left, Contains-append_right}
use Rattle.literals.specs.Signed.{Signed, sign, opposite, literal_true}
use Rattle.smt_meaning.specs.Forced.{Reaches, start, unit}
use Rattle.bound_clauses.specs.declared.axioms.Bound.{Bound}
use Rattle.bound_clauses.specs.declared.axioms.Link.{Link}
use Rattle.bound_clauses.specs.Chain.{of_sum, of_negation, chain_of, implication, between, between_neighbours, chain_clauses, axioms}
use Rattle.bound_clauses.specs.Laws.{Pairwise, IsAscending, numbers_of, AreRight, FollowsFrom, AxiomsForceAll}
use Rattle.bound_clauses.proofs.Whole.{true_le, le_true, false_le}
use Rattle.bound_clauses.proofs.Pairs.{NotAfter, All-of_chain, All-unmap, Pairwise-unmap, chain_ascending, All-of_append}
use Rattle.bound_clauses.proofs.Implied.{IsRight, opposite_true, links_right}

abbrev pub From : List (List Signed) → List Signed → Signed → Type 0
From cs given l = Reaches opposite cs given l

-- ---- from link to link

-- where the first is reached the second is; and where the second is refuted the first is
record Leads (cs : List (List Signed)) (x y : Link) : Type 0 where
  on : (given : List Signed) → From cs given x.literal → From cs given y.literal
  back : (given : List Signed) → From cs given (opposite y.literal) → From cs given (opposite x.literal)

not_not : (b : Bool) → not (not b) ≡ b
not_not true = refl
not_not false = refl

twice_opposite : (l : Signed) → opposite (opposite l) ≡ l
twice_opposite l = ap (λ b. record { atom = l.atom; positive = b }) (not_not l.positive)

-- by a clause of two literals the second is reached from the first, and the first refuted from the second
pub reached_on : (cs : List (List Signed)) (l m : Signed) → Contains cs (opposite l ∷ m ∷ []) → (given : List Signed) → From cs given l → From cs given m
reached_on cs l m c given r =
    unit (opposite l ∷ []) [] c
    (λ k. All-contains (λ k. From cs given (opposite k)) (opposite l ∷ []) k
    (All-cons (λ k. From cs given (opposite k)) (opposite l) [] (subst (From cs given) (sym (twice_opposite l)) r) (All-nil (λ k. From cs given (opposite k)))))

pub refuted_back : (cs : List (List Signed)) (l m : Signed) → Contains cs (opposite l ∷ m ∷ []) → (given : List Signed) → From cs given (opposite m) → From cs given (opposite l)
refuted_back cs l m c given r =
    unit [] (m ∷ []) c
    (λ k. All-contains (λ k. From cs given (opposite k)) (m ∷ []) k
    (All-cons (λ k. From cs given (opposite k)) m [] r (All-nil (λ k. From cs given (opposite k)))))

leads_self : (cs : List (List Signed)) (x : Link) → Leads cs x x
leads_self cs x = record { on = λ given h. h; back = λ given h. h }

leads_on : (cs : List (List Signed)) (x y z : Link) → Leads cs x y → Leads cs y z → Leads cs x z
leads_on cs x y z h k = record { on = λ given r. k.on given (h.on given r); back = λ given r. h.back given (k.back given r) }

leads_by : (cs : List (List Signed)) (x y : Link) → Contains cs (implication x y) → Leads cs x y
leads_by cs x y c = record { on = reached_on cs x.literal y.literal c; back = refuted_back cs x.literal y.literal c }

-- ---- along a chain

module _ (cs : List (List Signed)) where
  abbrev Has : List (List Signed) → Type 0
  Has ds = (c : List Signed) → Contains ds c → Contains cs c

  has_later : (x y : Link) (ys : List Link) → Has (between_neighbours x (y ∷ ys)) → Has (between_neighbours y ys)
  has_later x y ys h c k = h c (Contains-append_right (between x y) (between_neighbours y ys) c k)

  here : (x y : Link) (ys : List Link) → Has (between_neighbours x (y ∷ ys)) → Leads cs x y
  here x y ys h = leads_by cs x y (h (implication x y) (zero, omega arith, refl))

  back_in : (x y : Link) (b : Bool) → b ≡ true → Contains (if b then implication y x ∷ [] else []) (implication y x)
  back_in x y true e = (zero, omega arith, refl)
  back_in x y false e = absurd (cc)

  here_back : (x y : Link) (ys : List Link) → Has (between_neighbours x (y ∷ ys)) → NotAfter y x → Leads cs y x
  here_back x y ys h le =
      leads_by cs y x
      (h (implication y x) (Contains-append_left (between x y) (between_neighbours y ys) (implication y x)
      (Contains-append_right (implication x y ∷ []) (if int_le y.threshold x.threshold then implication y x ∷ [] else []) (implication y x)
      (back_in x y (int_le y.threshold x.threshold) (le_true y.threshold x.threshold le)))))

  -- to each later link
  up : (x : Link) (xs : List Link) → Has (between_neighbours x xs) → (y : Link) → Contains (x ∷ xs) y → Leads cs x y
  up x xs h y (zero, l, e) = subst (Leads cs x) e (leads_self cs x)
  up x [] h y (suc k, l, e) = absurd (omega (arith, l))
  up x (z ∷ zs) h y (suc k, l, e) = leads_on cs x z y (here x z zs h) (up z zs (has_later x z zs h) y (k, omega (arith, l), e))

  le_self : (a : ℤ) → a ≤ℤ a
  le_self a = omega (arith, ints)

  le_trans : (a b c : ℤ) → a ≤ℤ b → b ≤ℤ c → a ≤ℤ c
  le_trans a b c h k = omega (arith, ints)

  first_not_after : (x : Link) (xs : List Link) (y : Link) → Pairwise NotAfter (x ∷ xs) → Contains (x ∷ xs) y → NotAfter x y
  first_not_after x xs y p c = All-contains (NotAfter x) (x ∷ xs) y (All-cons (NotAfter x) x xs (le_self x.threshold) p.0) c

  -- and from a later one with the same threshold
  down : (x : Link) (xs : List Link) → Has (between_neighbours x xs) → Pairwise NotAfter (x ∷ xs) → (y : Link) → Contains (x ∷ xs) y → NotAfter y x → Leads cs y x
  down x xs h p y (zero, l, e) le = subst (λ z. Leads cs z x) e (leads_self cs x)
  down x [] h p y (suc k, l, e) le = absurd (omega (arith, l))
  down x (z ∷ zs) h p y (suc k, l, e) le =
      let c : Contains (z ∷ zs) y = (k, omega (arith, l), e) in
      let up_to : NotAfter x z = All-head (NotAfter x) z zs p.0 in
      leads_on cs y z x
      (down z zs (has_later x z zs h) p.1 y c (le_trans y.threshold x.threshold z.threshold le up_to))
      (here_back x z zs h (le_trans z.threshold y.threshold x.threshold (first_not_after z zs y p.1 c) le))

  has_rest : (z : Link) (zs : List Link) → Has (chain_clauses (z ∷ zs)) → Has (chain_clauses zs)
  has_rest z [] h c (k, l, e) = absurd (omega (arith, l))
  has_rest z (w ∷ ws) h c k = has_later z w ws h c k

  along : (xs : List Link) → Has (chain_clauses xs) → Pairwise NotAfter xs → (x y : Link) → Contains xs x → Contains xs y → NotAfter x y → Leads cs x y
  along [] h p x y (k, l, e) cy le = absurd (omega (arith, l))
  along (z ∷ zs) h p x y (zero, l, e) cy le = subst (λ w. Leads cs w y) e (up z zs h y cy)
  along (z ∷ zs) h p x y (suc j, l, e) (zero, m, f) le = subst (Leads cs x) f (down z zs h p x (suc j, l, e) (subst (NotAfter x) (sym f) le))
  along (z ∷ zs) h p x y (suc j, l, e) (suc k, m, f) le = along zs (has_rest z zs h) p.1 x y (j, omega (arith, l), e) (k, omega (arith, m), f) le

-- ---- signs for a value of the sum

record Entry : Type 0 where
  number : ℕ
  truth : Bool

abbrev looked_up : List Entry → ℕ → Bool
looked_up [] n = false
looked_up (e ∷ es) n = if nat_eq n e.number then e.truth else looked_up es n

chosen : (b x y : Bool) → b ≡ true → (if b then x else y) ≡ x
chosen true x y h = refl
chosen false x y h = cc

passed : (b x y : Bool) → b ≡ false → (if b then x else y) ≡ y
passed true x y h = cc
passed false x y h = refl

found : (es : List Entry) → Pairwise (λ (e f : Entry). e.number ≢ f.number) es → All (λ (e : Entry). looked_up es e.number ≡ e.truth) es
found [] h = All-nil (λ (e : Entry). looked_up [] e.number ≡ e.truth)
found (e ∷ es) h =
    All-cons (λ (f : Entry). looked_up (e ∷ es) f.number ≡ f.truth) e es (chosen (nat_eq e.number e.number) e.truth (looked_up es e.number) (eq-eqb e.number e.number refl))
    (All-weaker (λ (f : Entry). (e.number ≢ f.number) × (looked_up es f.number ≡ f.truth)) (λ (f : Entry). looked_up (e ∷ es) f.number ≡ f.truth)
    (λ f k. passed (nat_eq f.number e.number) e.truth (looked_up es f.number) (ne_eqb f.number e.number (λ same. k.0 (sym same))) ∙ k.1) es
    (λ k d l. (h.0 k d l, found es h.1 k d l)))

abbrev on_sum : ℤ → Bound → Entry
on_sum s b = record { number = b.number; truth = int_le s b.threshold }

abbrev on_negation : ℤ → Bound → Entry
on_negation s b = record { number = b.number; truth = int_le (neg_ℤ s) b.threshold }

abbrev entries : ℤ → List Bound → List Bound → List Entry
entries s bounds negated = map (on_sum s) bounds ++ map (on_negation s) negated

numbers_read : (s : ℤ) (bounds negated : List Bound) → map (λ (e : Entry). e.number) (entries s bounds negated) ≡ numbers_of bounds negated
numbers_read s [] [] = refl
numbers_read s [] (b ∷ bs) = ap (λ ns. b.number ∷ ns) (numbers_read s [] bs)
numbers_read s (b ∷ bs) negated = ap (λ ns. b.number ∷ ns) (numbers_read s bs negated)

signs_right : (s : ℤ) (bounds negated : List Bound) → Pairwise (λ (m n : ℕ). m ≢ n) (numbers_of bounds negated) → AreRight (looked_up (entries s bounds negated)) s bounds negated
signs_right s bounds negated apart =
    let all : List Entry = entries s bounds negated in
    let right : All (λ (e : Entry). looked_up all e.number ≡ e.truth) all =
    found all (Pairwise-unmap (λ m n. m ≢ n) (λ (e : Entry). e.number) all (subst (Pairwise (λ m n. m ≢ n)) (sym (numbers_read s bounds negated)) apart)) in
    let parts = All-of_append (λ (e : Entry). looked_up all e.number ≡ e.truth) (map (on_sum s) bounds) (map (on_negation s) negated) right in
    record {
      of_sum = All-unmap (λ (e : Entry). looked_up all e.number ≡ e.truth) (on_sum s) bounds parts.0;
      of_negation = All-unmap (λ (e : Entry). looked_up all e.number ≡ e.truth) (on_negation s) negated parts.1;
    }

-- ---- all that follows

-- a link of the chain on this atom
record HasLink (xs : List Link) (n : ℕ) : Type 0 where
  link : Link
  within : Contains xs link
  on : link.literal.atom ≡ n

link_of : (bounds negated : List Bound) (n : ℕ) → Contains (numbers_of bounds negated) n → HasLink (chain_of bounds negated) n
link_of bounds negated n c =
    let chain : List Link = chain_of bounds negated in
    let parts = All-of_chain (Contains chain) bounds negated (All-contains_itself chain) in
    All-contains (HasLink chain) (numbers_of bounds negated) n
    (All-append (HasLink chain) (map (λ (b : Bound). b.number) bounds) (map (λ (b : Bound). b.number) negated)
    (All-map (HasLink chain) (λ (b : Bound). b.number) bounds
    (All-weaker (λ b. Contains chain (of_sum b)) (λ (b : Bound). HasLink chain b.number) (λ b k. record { link = of_sum b; within = k; on = refl }) bounds parts.0))
    (All-map (HasLink chain) (λ (b : Bound). b.number) negated
    (All-weaker (λ b. Contains chain (of_negation b)) (λ (b : Bound). HasLink chain b.number) (λ b k. record { link = of_negation b; within = k; on = refl }) negated parts.1)))
    c

-- the link's literal, or its negation
abbrev side : Link → Bool → Signed
side x true = x.literal
side x false = opposite x.literal

record HasSide (x : Link) (l : Signed) : Type 0 where
  positive : Bool
  is : side x positive ≡ l

same_sign : (x : Link) (l : Signed) → x.literal.atom ≡ l.atom → HasSide x l
same_sign x l e = by_signs x.literal.positive l.positive refl refl
  where
    equal : (k : Signed) → k.atom ≡ l.atom → k.positive ≡ l.positive → k ≡ l
    equal k ea ep = ap (λ n. record { atom = n; positive = k.positive }) ea ∙ ap (λ b. record { atom = l.atom; positive = b }) ep

    by_signs : (p q : Bool) → x.literal.positive ≡ p → l.positive ≡ q → HasSide x l
    by_signs true true ep eq = record { positive = true; is = equal x.literal e (ep ∙ sym eq) }
    by_signs false false ep eq = record { positive = true; is = equal x.literal e (ep ∙ sym eq) }
    by_signs true false ep eq = record { positive = false; is = equal (opposite x.literal) e (ap not ep ∙ sym eq) }
    by_signs false true ep eq = record { positive = false; is = equal (opposite x.literal) e (ap not ep ∙ sym eq) }

side_true : (a : ℕ → Bool) (s : ℤ) (x : Link) (p : Bool) → IsRight a s x → literal_true a (side x p) ≡ sign p (int_le s x.threshold)
side_true a s x true h = h
side_true a s x false h = opposite_true a x.literal ∙ ap not h

module _ (j k : ℤ) where
  abbrev Implied : Bool → Bool → Type 0
  Implied p q = (s : ℤ) → sign p (int_le s j) ≡ true → sign q (int_le s k) ≡ true

  itself : (a : ℤ) → int_le a a ≡ true
  itself a = le_true a a (le_self a)
    where
      le_self : (b : ℤ) → b ≤ℤ b
      le_self b = omega (arith, ints)

  contrary : (b : Bool) → b ≡ true → not b ≡ true → ⊥
  contrary true e f = absurd (cc)
  contrary false e f = absurd (cc)

  -- both say that the sum is at most their threshold
  both_above : Implied true true → j ≤ℤ k
  both_above h = true_le j k (h j (itself j))

  -- both say that it is above
  both_below : Implied false false → k ≤ℤ j
  both_below h = by_test (int_le k j) refl
    where
      by_test : (b : Bool) → int_le k j ≡ b → k ≤ℤ j
      by_test true e = true_le k j e
      by_test false e = absurd (contrary (int_le k k) (itself k) (h k (ap not e)))

  never_below : Implied true false → ⊥
  never_below h = by_test (int_le j k) refl
    where
      less : int_le j k ≡ false → k ≤ℤ j
      less e = let l : k <ℤ j = false_le j k e in omega (arith, ints)

      by_test : (b : Bool) → int_le j k ≡ b → ⊥
      by_test true e = contrary (int_le j k) e (h j (itself j))
      by_test false e = contrary (int_le k k) (itself k) (h k (le_true k j (less e)))

  never_above : Implied false true → ⊥
  never_above h = by_test (int_le j k) refl
    where
      next : (a b : ℤ) → b ≤ℤ a → int_le (a +ℤ pos 1) b ≡ false
      next a b l = grind (arith, ints)

      less : int_le j k ≡ false → k ≤ℤ j
      less e = let l : k <ℤ j = false_le j k e in omega (arith, ints)

      by_test : (b : Bool) → int_le j k ≡ b → ⊥
      by_test true e = contrary (int_le (k +ℤ pos 1) k) (h (k +ℤ pos 1) (ap not (next k j (true_le j k e)))) (ap not (next k k (true_le k k (itself k))))
      by_test false e = contrary (int_le (j +ℤ pos 1) k) (h (j +ℤ pos 1) (ap not (next j j (true_le j j (itself j))))) (ap not (next j k (less e)))

module _ (bounds negated : List Bound) (up_bounds : IsAscending bounds) (up_negated : IsAscending negated) (apart : Pairwise (λ (m n : ℕ). m ≢ n) (numbers_of bounds negated)) where
  leads : (x y : Link) → Contains (chain_of bounds negated) x → Contains (chain_of bounds negated) y → NotAfter x y → Leads (axioms bounds negated) x y
  leads x y = along (axioms bounds negated) (chain_of bounds negated) (λ c k. k) (chain_ascending bounds negated up_bounds up_negated) x y

  reached : (x y : Link) (p q : Bool) → Contains (chain_of bounds negated) x → Contains (chain_of bounds negated) y → Implied x.threshold y.threshold p q
      → From (axioms bounds negated) (side x p ∷ []) (side y q)
  reached x y true true cx cy h = (leads x y cx cy (both_above x.threshold y.threshold h)).on (x.literal ∷ []) (start (zero, omega arith, refl))
  reached x y false false cx cy h = (leads y x cy cx (both_below x.threshold y.threshold h)).back (opposite x.literal ∷ []) (start (zero, omega arith, refl))
  reached x y true false cx cy h = absurd (never_below x.threshold y.threshold h)
  reached x y false true cx cy h = absurd (never_above x.threshold y.threshold h)

  implied : (x y : Link) (p q : Bool) → Contains (chain_of bounds negated) x → Contains (chain_of bounds negated) y → FollowsFrom bounds negated (side x p) (side y q)
      → Implied x.threshold y.threshold p q
  implied x y p q cx cy h s e =
      let signs : ℕ → Bool = looked_up (entries s bounds negated) in
      let right : AreRight signs s bounds negated = signs_right s bounds negated apart in
      let links : All (IsRight signs s) (chain_of bounds negated) = links_right signs s bounds negated right in
      sym (side_true signs s y q (All-contains (IsRight signs s) (chain_of bounds negated) y links cy))
      ∙ h signs s right (side_true signs s x p (All-contains (IsRight signs s) (chain_of bounds negated) x links cx) ∙ e)

pub axioms_forced : AxiomsForceAll
axioms_forced bounds negated l m up_bounds up_negated apart cl cm h =
    let x : HasLink (chain_of bounds negated) l.atom = link_of bounds negated l.atom cl in
    let y : HasLink (chain_of bounds negated) m.atom = link_of bounds negated m.atom cm in
    let p : HasSide x.link l = same_sign x.link l x.on in
    let q : HasSide y.link m = same_sign y.link m y.on in
    subst (λ k. From (axioms bounds negated) (k ∷ []) m) p.is
    (subst (From (axioms bounds negated) (side x.link p.positive ∷ [])) q.is
    (reached bounds negated up_bounds up_negated apart x.link y.link p.positive q.positive x.within y.within
    (implied bounds negated up_bounds up_negated apart x.link y.link p.positive q.positive x.within y.within
    (subst (λ k. FollowsFrom bounds negated k (side y.link q.positive)) (sym p.is) (subst (FollowsFrom bounds negated l) (sym q.is) h)))))
