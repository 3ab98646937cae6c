-- The atoms of (assert (<= 0 x 1)).
use Rattle.std.specs.Prelude.{◌&&◌}
use Rattle.std.proofs.Common.{◌≡◌, ℕ, zero, suc, ◌+◌, ◌<◌, ◌^◌, ◌⊎◌, inl, inr, ℤ, pos, negsuc, neg_ℤ, ◌≤ℤ◌, sym, ap, ◌∙◌, subst, refl, arith, List, [], ◌∷◌, length, Bool, true, false, Some, Contains}
use Rattle.std.proofs.lemmas.Int.{ints}
use Rattle.fraction128.specs.Gcd.{gcd_of}
use Rattle.fraction128.specs.Number.{whole}
use Rattle.fraction128.specs.Listed.{sum_over, reduced_by, sum_steps}
use Rattle.fraction128.specs.Whole.{is_in_range}
use Rattle.fraction128.specs.declared.Summand.{Summand}
use Rattle.fraction128.specs.declared.Side.{Side}
use Rattle.fraction128.specs.Grid.{leaf, turned, bound_number, number_fits, distance_fits}
use Rattle.smt_meaning.specs.declared.values.Sort.TheVariants.{Int as Ints}
use Rattle.smt_meaning.specs.declared.clauses.Atom.{Atom}
use Rattle.smt_meaning.specs.declared.clauses.Atom.TheVariants.{Truth, AtMost, Same}
use Rattle.smt_meaning.specs.Term.{Tree}
use Rattle.smt_meaning.specs.TreeShape.{place_of}
use Rattle.smt_meaning.specs.Parts.{IsPart}
use Rattle.smt_meaning.specs.Signature.{tree_sort}
use Rattle.smt_meaning.specs.Stack.{signature_of}
use Rattle.smt_meaning.specs.Atoms.{stack_atoms, pair_atoms}
use Rattle.smt_meaning.specs.Boxes.{IsInBox, asserted_atoms, term_at_most, negation_at_most}
use Rattle.smt_meaning.specs.CheckAtoms.{IsPartOfStack, IsLeaf, is_leaf, ComparesParts, BoundsInBox, IsFirstAtom, IsBoundOf, IsKnownSum, grid_sum, told}
use Rattle.smt_meaning.specs.Report.{most_units}
use Rattle.report_laws.specs.OneLeaf.{IsOverOneLeaf}
use Rattle.report_laws.specs.Five.{x}
use Rattle.report_laws.specs.BoxOfOne.{nought, one, chain, trees, frames, plus, minus, atoms, AtomsAreThese, SmallBoxIsNotSpent, SmallBoxIsInRange}
use Rattle.report_laws.proofs.Listed.{in_cons, in_none, AllOf, one_of}
use Rattle.report_laws.proofs.Limited.{one_leaf}
use Rattle.report_laws.proofs.Near.{HasNear, HasParts, nothing_leaves}

-- ---- parts

abbrev pub IsNumber : Tree → Type 0
IsNumber t = (t ≡ nought) ⊎ ((t ≡ x) ⊎ (t ≡ one))

pub part_is : (t : Tree) → IsPartOfStack frames t → (t ≡ chain) ⊎ IsNumber t
part_is t h = by_assertion h.assertion h.asserted h.part
  where
    by : IsPart t chain → (t ≡ chain) ⊎ IsNumber t
    by (inl e) = inl e
    by (inr (inl (inl e))) = inr (inl e)
    by (inr (inl (inr w))) = absurd w
    by (inr (inr (inl (inl e)))) = inr (inr (inl e))
    by (inr (inr (inl (inr w)))) = absurd w
    by (inr (inr (inr (inl (inl e))))) = inr (inr (inr e))
    by (inr (inr (inr (inl (inr w))))) = absurd w
    by (inr (inr (inr (inr w)))) = absurd w

    by_assertion : (a : Tree) → Contains (chain ∷ []) a → IsPart t a → (t ≡ chain) ⊎ IsNumber t
    by_assertion a c part = elim (in_cons chain a [] c) [ inl e ↦ by (subst (IsPart t) e part) | inr w ↦ absurd (in_none a w) ]

leaf_is : (t : ℕ) → IsLeaf trees frames t → t ≡ 1
leaf_is t h = by h.leaf (part_is h.leaf h.part.part) h.part.int h.is h.part.place_is
  where
    by : (l : Tree) → (l ≡ chain) ⊎ IsNumber l → tree_sort (signature_of frames) l ≡ Some Ints → is_leaf l ≡ true → place_of l trees ≡ t → t ≡ 1
    by l (inl e) int is place = absurd (let z = subst (λ u. tree_sort (signature_of frames) u ≡ Some Ints) e int in cc)
    by l (inr (inl e)) int is place = absurd (let z : false ≡ true = subst (λ u. is_leaf u ≡ true) e is in cc)
    by l (inr (inr (inl e))) int is place = sym place ∙ ap (λ u. place_of u trees) e
    by l (inr (inr (inr e))) int is place = absurd (let z : false ≡ true = subst (λ u. is_leaf u ≡ true) e is in cc)

-- ---- atoms

abbrev IsHere : Atom → Type 0
IsHere a = Contains atoms a

of_stack : (a : Atom) → Contains (stack_atoms trees frames) a → IsHere a
unfolding stack_atoms gcd_of
of_stack a c = one_of IsHere (Truth 3 ∷ AtMost minus (pos 0) ∷ AtMost plus (pos 1) ∷ []) ((0, omega arith, refl), ((1, omega arith, refl), ((2, omega arith, refl), tt))) a c

of_asserted : (a : Atom) → Contains (asserted_atoms trees frames) a → IsHere a
unfolding gcd_of
of_asserted a c = one_of IsHere (AtMost minus (pos 0) ∷ AtMost plus (pos 1) ∷ []) ((1, omega arith, refl), ((2, omega arith, refl), tt)) a c

abbrev Pairs : Tree → Tree → Type 0
Pairs s t = AllOf IsHere (pair_atoms trees (signature_of frames) s t)

chain_chain : Pairs chain chain
chain_chain = ((17, omega arith, refl), tt)

nought_nought : Pairs nought nought
unfolding gcd_of
nought_nought = ((8, omega arith, refl), ((5, omega arith, refl), ((5, omega arith, refl), tt)))

nought_x : Pairs nought x
unfolding gcd_of
nought_x = ((9, omega arith, refl), ((1, omega arith, refl), ((3, omega arith, refl), tt)))

nought_one : Pairs nought one
unfolding gcd_of
nought_one = ((10, omega arith, refl), ((6, omega arith, refl), ((7, omega arith, refl), tt)))

x_nought : Pairs x nought
unfolding gcd_of
x_nought = ((11, omega arith, refl), ((3, omega arith, refl), ((1, omega arith, refl), tt)))

x_x : Pairs x x
unfolding gcd_of
x_x = ((12, omega arith, refl), ((5, omega arith, refl), ((5, omega arith, refl), tt)))

x_one : Pairs x one
unfolding gcd_of
x_one = ((13, omega arith, refl), ((2, omega arith, refl), ((4, omega arith, refl), tt)))

one_nought : Pairs one nought
unfolding gcd_of
one_nought = ((14, omega arith, refl), ((7, omega arith, refl), ((6, omega arith, refl), tt)))

one_x : Pairs one x
unfolding gcd_of
one_x = ((15, omega arith, refl), ((4, omega arith, refl), ((2, omega arith, refl), tt)))

one_one : Pairs one one
unfolding gcd_of
one_one = ((16, omega arith, refl), ((5, omega arith, refl), ((5, omega arith, refl), tt)))

abbrev Sorts : Tree → Tree → Type 0
Sorts l r = tree_sort (signature_of frames) l ≡ tree_sort (signature_of frames) r

pair_of : (l r l' r' : Tree) → l ≡ l' → r ≡ r' → Pairs l' r' → Pairs l r
pair_of l r l' r' e f p = subst (λ t. Pairs t r) (sym e) (subst (Pairs l') (sym f) p)

no_number : (t : Tree) → IsNumber t → Sorts t chain → ⊥
no_number t (inl e) s = let z = subst (λ u. Sorts u chain) e s in cc
no_number t (inr (inl e)) s = let z = subst (λ u. Sorts u chain) e s in cc
no_number t (inr (inr e)) s = let z = subst (λ u. Sorts u chain) e s in cc

pairs : (l r : Tree) → (l ≡ chain) ⊎ IsNumber l → (r ≡ chain) ⊎ IsNumber r → Sorts l r → Pairs l r
pairs l r (inl e) (inl f) s = pair_of l r chain chain e f chain_chain
pairs l r (inl e) (inr n) s = absurd (no_number r n (subst (λ u. Sorts r u) e (sym s)))
pairs l r (inr n) (inl f) s = absurd (no_number l n (subst (Sorts l) f s))
pairs l r (inr (inl e)) (inr (inl f)) s = pair_of l r nought nought e f nought_nought
pairs l r (inr (inl e)) (inr (inr (inl f))) s = pair_of l r nought x e f nought_x
pairs l r (inr (inl e)) (inr (inr (inr f))) s = pair_of l r nought one e f nought_one
pairs l r (inr (inr (inl e))) (inr (inl f)) s = pair_of l r x nought e f x_nought
pairs l r (inr (inr (inl e))) (inr (inr (inl f))) s = pair_of l r x x e f x_x
pairs l r (inr (inr (inl e))) (inr (inr (inr f))) s = pair_of l r x one e f x_one
pairs l r (inr (inr (inr e))) (inr (inl f)) s = pair_of l r one nought e f one_nought
pairs l r (inr (inr (inr e))) (inr (inr (inl f))) s = pair_of l r one x e f one_x
pairs l r (inr (inr (inr e))) (inr (inr (inr f))) s = pair_of l r one one e f one_one

of_pair : (a : Atom) → ComparesParts trees frames a → IsHere a
of_pair a h = one_of IsHere (pair_atoms trees (signature_of frames) h.left h.right) (pairs h.left h.right (part_is h.left h.left_part) (part_is h.right h.right_part) h.one_sort) a h.among

low_end : (number : ℤ) → IsInBox trees frames 1 number → pos 0 ≤ℤ number
unfolding gcd_of
low_end number b = b.above (pos 0) (0, omega arith, refl)

high_end : (number : ℤ) → IsInBox trees frames 1 number → number ≤ℤ pos 1
unfolding gcd_of
high_end number b = b.below (pos 1) (1, omega arith, refl)

ends : (number : ℤ) → pos 0 ≤ℤ number → number ≤ℤ pos 1 → (number ≡ pos 0) ⊎ (number ≡ pos 1)
ends (pos zero) low high = inl refl
ends (pos (suc zero)) low high = inr refl
ends (pos (suc (suc n))) low high = absurd (omega (arith, ints, high))
ends (negsuc n) low high = absurd (omega (arith, ints, low))

of_box : (a : Atom) → BoundsInBox trees frames a → IsHere a
of_box a h = by h.term h.number (leaf_is h.term h.leaf) (h.in_box) h.among
  where
    at : (n : ℤ) → (n ≡ pos 0) ⊎ (n ≡ pos 1) → Contains (term_at_most 1 n ∷ negation_at_most 1 (neg_ℤ n) ∷ []) a → IsHere a
    at n (inl e) c = one_of IsHere (term_at_most 1 (pos 0) ∷ negation_at_most 1 (pos 0) ∷ []) ((3, omega arith, refl), ((1, omega arith, refl), tt)) a (subst (λ k. Contains (term_at_most 1 k ∷ negation_at_most 1 (neg_ℤ k) ∷ []) a) e c)
    at n (inr e) c = one_of IsHere (term_at_most 1 (pos 1) ∷ negation_at_most 1 (negsuc 0) ∷ []) ((2, omega arith, refl), ((4, omega arith, refl), tt)) a (subst (λ k. Contains (term_at_most 1 k ∷ negation_at_most 1 (neg_ℤ k) ∷ []) a) e c)

    by : (t : ℕ) (n : ℤ) → t ≡ 1 → IsInBox trees frames t n → Contains (term_at_most t n ∷ negation_at_most t (neg_ℤ n) ∷ []) a → IsHere a
    by t n e b c =
        let b' : IsInBox trees frames 1 n = subst (λ u. IsInBox trees frames u n) e b in
        at n (ends n (low_end n b') (high_end n b')) (subst (λ u. Contains (term_at_most u n ∷ negation_at_most u (neg_ℤ n) ∷ []) a) e c)

pub atoms_are_these : AtomsAreThese
atoms_are_these a (inl c) = of_stack a c
atoms_are_these a (inr (inl h)) = of_pair a h
atoms_are_these a (inr (inr h)) = of_box a h

-- ---- sums

abbrev IsOfX : Atom → Type 0
IsOfX (AtMost qs k) = (turned (grid_sum qs) ≡ []) ⊎ (turned (grid_sum qs) ≡ leaf 1)
IsOfX (Truth i) = Unit {0}
IsOfX (Same i j) = Unit {0}

all_of_x : AllOf IsOfX atoms
all_of_x = (tt, (inr refl, (inr refl, (inr refl, (inr refl, (inl refl, (inl refl, (inl refl, (tt, (tt, (tt, (tt, (tt, (tt, (tt, (tt, (tt, (tt, tt))))))))))))))))))

over_x : IsOverOneLeaf trees frames 1
over_x ps (IsKnownSum.of_leaf t h e) = inr (e ∙ ap leaf (leaf_is t h))
over_x ps (IsKnownSum.of_atom q k h e) = elim (one_of IsOfX atoms all_of_x (AtMost q k) (atoms_are_these (AtMost q k) h)) [ inl w ↦ inl (e ∙ w) | inr w ↦ inr (e ∙ w) ]

-- ---- units

enough : (n : ℕ) → 387420507 < n → length atoms + 3 ^ length atoms < n
enough n h = h

pub small_box : SmallBoxIsNotSpent
small_box limit branches us many spent = one_leaf trees frames 1 over_x limit branches us atoms atoms_are_these (enough (most_units limit) many) spent

-- ---- range

abbrev numbers : List ℤ
numbers = negsuc 0 ∷ pos 0 ∷ pos 1 ∷ pos 2 ∷ []

abbrev IsNear : ℤ → Type 0
IsNear k = Contains numbers k

both : (P : Bool → Type 0) → P true → P false → (b : Bool) → P b
both P h k true = h
both P h k false = k

no_leaf : {X : Type 0} → leaf 1 ≡ [] → X
no_leaf e = cc

abbrev HasNearBounds : Atom → Type 0
HasNearBounds (AtMost qs k) = leaf 1 ≡ turned (grid_sum qs) → (b : Bool) → IsNear (bound_number (told qs k b))
HasNearBounds (Truth i) = Unit {0}
HasNearBounds (Same i j) = Unit {0}

all_near : AllOf HasNearBounds atoms
all_near = (
  tt,
  (
    λ s. both (λ b. IsNear (bound_number (told minus (pos 0) b))) (1, omega arith, refl) (0, omega arith, refl),
    (
      λ s. both (λ b. IsNear (bound_number (told plus (pos 1) b))) (2, omega arith, refl) (3, omega arith, refl),
      (
        λ s. both (λ b. IsNear (bound_number (told plus (pos 0) b))) (1, omega arith, refl) (2, omega arith, refl),
        (
          λ s. both (λ b. IsNear (bound_number (told minus (negsuc 0) b))) (2, omega arith, refl) (1, omega arith, refl),
          (λ s. no_leaf s, (λ s. no_leaf s, (λ s. no_leaf s, (tt, (tt, (tt, (tt, (tt, (tt, (tt, (tt, (tt, (tt, tt))))))))))))),
        ),
      ),
    ),
  ),
)

bound_near : (side : Side) (k : ℤ) → IsBoundOf (IsFirstAtom trees frames) (leaf 1) side k → IsNear k
bound_near side k h = subst IsNear (sym h.number_is) (one_of HasNearBounds atoms all_near (AtMost h.terms h.most) (atoms_are_these (AtMost h.terms h.most) h.atom) h.sum_is h.positive)

abbrev Waits : Atom → Type 0
Waits (AtMost qs k) = (ps : List Summand) (b : Bool) → number_fits (record { sum = ps; number = k; holds = b }) ≡ true
Waits (Truth i) = Unit {0}
Waits (Same i j) = Unit {0}

waits : (k : ℤ) → ((ps : List Summand) → number_fits (record { sum = ps; number = k; holds = false }) ≡ true) → (ps : List Summand) (b : Bool) → number_fits (record { sum = ps; number = k; holds = b }) ≡ true
waits k h ps true = refl
waits k h ps false = h ps

all_wait : AllOf Waits atoms
all_wait = (
  tt,
  (
    waits (pos 0) (λ ps. refl),
    (
      waits (pos 1) (λ ps. refl),
      (
        waits (pos 0) (λ ps. refl),
        (
          waits (negsuc 0) (λ ps. refl),
          (
            waits (pos 0) (λ ps. refl),
            (
              waits (pos 1) (λ ps. refl),
              (
                waits (negsuc 0) (λ ps. refl),
                (tt, (tt, (tt, (tt, (tt, (tt, (tt, (tt, (tt, (tt, tt)))))))))),
              ),
            ),
          ),
        ),
      ),
    ),
  ),
)

abbrev Resting : ℤ → Type 0
Resting j = (j ≡ pos 0) ⊎ IsNear j

among_rests : (j : ℤ) → Resting j → Contains (pos 0 ∷ numbers) j
among_rests j (inl e) = (0, omega arith, sym e)
among_rests j (inr (i, lt, e)) = (suc i, omega (arith, lt), e)

abbrev Reaches : ℤ → ℤ → Type 0
Reaches k j = distance_fits k (whole j) ≡ true

all_reach : AllOf (λ (k : ℤ). AllOf (Reaches k) (pos 0 ∷ numbers)) numbers
unfolding gcd_of sum_over reduced_by sum_steps
all_reach = (
  (refl, (refl, (refl, (refl, (refl, tt))))),
  (
    (refl, (refl, (refl, (refl, (refl, tt))))),
    (
      (refl, (refl, (refl, (refl, (refl, tt))))),
      ((refl, (refl, (refl, (refl, (refl, tt))))), tt),
    ),
  ),
)

has_near : HasNear trees frames IsNear
has_near = record {
  over = over_x;
  bounds = bound_near;
  distances = λ k j near rests. one_of (Reaches k) (pos 0 ∷ numbers) (one_of (λ (i : ℤ). AllOf (Reaches i) (pos 0 ∷ numbers)) numbers all_reach k near) j (among_rests j rests);
  waiting = λ q p h. one_of Waits atoms all_wait (AtMost q p.number) (atoms_are_these (AtMost q p.number) h) p.sum p.holds;
  values = λ j rests. one_of (λ (i : ℤ). is_in_range i ≡ true) (pos 0 ∷ numbers) (refl, (refl, (refl, (refl, (refl, tt))))) j (among_rests j rests);
}

abbrev parts : List Tree
parts = chain ∷ nought ∷ x ∷ one ∷ []

among_parts : (t : Tree) → (t ≡ chain) ⊎ IsNumber t → Contains parts t
among_parts t (inl e) = (0, omega arith, sym e)
among_parts t (inr (inl e)) = (1, omega arith, sym e)
among_parts t (inr (inr (inl e))) = (2, omega arith, sym e)
among_parts t (inr (inr (inr e))) = (3, omega arith, sym e)

has_parts : HasParts trees frames parts
has_parts = record {
  each = λ t h. among_parts t (part_is t h);
  folding = (refl, (refl, (refl, (refl, tt))));
  comparing = (refl, (refl, (refl, (refl, tt))));
  pairs = ((refl, (refl, (refl, (refl, tt)))), ((refl, (refl, (refl, (refl, tt)))), ((refl, (refl, (refl, (refl, tt)))), ((refl, (refl, (refl, (refl, tt)))), tt))));
  bare = (tt, (tt, (tt, (tt, tt))));
  evaluating = λ I h. (ap (λ b. (true && ((b && true) && (true && true))) && true) h, (refl, (ap (λ b. b && true) h, (refl, tt))));
  leaf = record { assertion = chain; asserted = (0, omega arith, refl); part = inr (inr (inl (inl refl))) };
  int = refl;
  place = refl;
}

pub small_box_range : SmallBoxIsInRange
small_box_range = nothing_leaves trees frames IsNear has_near parts has_parts
