-- The list of a check's atoms has each, and is short.
use Rattle.std.specs.Prelude.{flat_map, ◌&&◌, int_le, nat_eq, if◌then◌else◌}
use Rattle.std.specs.List.{range_with_len}
use Rattle.std.proofs.Common.{◌≡◌, inl, inr, ℕ, zero, suc, ◌+◌, ◌*◌, ◌<◌, ◌≤◌, ℤ, pos, negsuc, ◌+ℤ◌, ◌-ℤ◌, ◌≤ℤ◌, neg_ℤ, sym, ap, subst, refl, arith, List, [], ◌∷◌, ◌++◌, map, length, Contains, Bool, true, false, eq-eqb, eqb-true, ap₂}
use Rattle.std.proofs.lemmas.Int.{ints}
use Rattle.std.proofs.Math.Nat.{mul-suc, mul_assoc}
use Rattle.std.proofs.lemmas.List.{length-append}
use Rattle.std.proofs.lemmas.List.Elements.{Contains-append_left, Contains-append_right, Contains-append_cases}
use Rattle.smt_meaning.specs.declared.clauses.Atom.{Atom}
use Rattle.smt_meaning.specs.declared.clauses.Atom.TheVariants.{Truth, AtMost, Same}
use Rattle.smt_meaning.specs.declared.clauses.Summand.{Summand}
use Rattle.smt_meaning.specs.Linear.{summand}
use Rattle.smt_meaning.specs.Term.{Tree, Trees, node, none, more, int_eq}
use Rattle.smt_meaning.specs.TreeShape.{tree_eq, place_of}
use Rattle.smt_meaning.specs.Parts.{IsPart, IsPartOfOne}
use Rattle.smt_meaning.specs.Signature.{tree_sort, is_int}
use Rattle.smt_meaning.specs.Stack.{Frame, signature_of, assertions_of}
use Rattle.smt_meaning.specs.Atoms.{pair_atoms, stack_atoms, at_most_atom}
use Rattle.smt_meaning.specs.Boxes.{IsInBox, asserted_atoms, term_at_most, negation_at_most}
use Rattle.smt_meaning.specs.CheckAtoms.{ComparesParts, BoundsInBox}
use Rattle.report_laws.proofs.Listed.{in_cons, in_none}
use Rattle.report_laws.proofs.Counted.{first_in, later_in, in_list, from_list}
use Rattle.report_laws.proofs.Boxed.{boxed_not_spent}
use Rattle.report_laws.specs.BoxedAtoms.{parts_of, parts_of_all, ends_at, greatest_of, least_of, whole_from, count_to, numbers_between, box_numbers, bounds_at, places, listed_atoms, AreAllParts, box_sizes, atom_count, PartsAreAll, ListHasEach, ListIsShort, SmallBoxesAreNotSpent}

-- ---- members

in_flat : {X Y : Type 0} (f : X → List Y) (xs : List X) (x : X) (y : Y) → Contains xs x → Contains (f x) y → Contains (flat_map f xs) y
in_flat f [] x y c d = absurd (in_none x c)
in_flat f (z ∷ xs) x y c d = elim (in_cons z x xs c) [
  | inl e ↦ Contains-append_left (f z) (flat_map f xs) y (subst (λ w. Contains (f w) y) e d)
  | inr later ↦ Contains-append_right (f z) (flat_map f xs) y (in_flat f xs x y later d)
]

mutual
  part_in : (t u : Tree) → IsPart t u → Contains (parts_of u) t
  part_in t (node h us) (inl e) = subst (Contains (node h us ∷ parts_of_all us)) (sym e) (first_in (node h us) (parts_of_all us))
  part_in t (node h us) (inr among) = later_in (node h us) t (parts_of_all us) (part_in_all t us among)

  part_in_all : (t : Tree) (us : Trees) → IsPartOfOne t us → Contains (parts_of_all us) t
  part_in_all t none among = absurd among
  part_in_all t (more u us) (inl here) = Contains-append_left (parts_of u) (parts_of_all us) t (part_in t u here)
  part_in_all t (more u us) (inr later) = Contains-append_right (parts_of u) (parts_of_all us) t (part_in_all t us later)

pub parts_are_all : PartsAreAll
parts_are_all frames t h = in_flat parts_of (assertions_of frames) h.assertion t h.asserted (part_in t h.assertion h.part)

range_in : (a n d : ℕ) → d < n → Contains (range_with_len a n) (a + d)
range_in a zero d lt = absurd (omega (arith, lt))
range_in a (suc n) zero lt = let e : a ≡ a + 0 = omega arith in subst (Contains (range_with_len a (suc n))) e (first_in a (range_with_len (a + 1) n))
range_in a (suc n) (suc d) lt =
    let e : (a + 1) + d ≡ a + suc d = omega arith in
    later_in a (a + suc d) (range_with_len (a + 1) n) (subst (Contains (range_with_len (a + 1) n)) e (range_in (a + 1) n d (omega (arith, lt))))

place_at_most : (t : Tree) (ts : List Tree) → place_of t ts ≤ length ts
place_at_most t [] = omega arith
place_at_most t (u ∷ ts) = by (tree_eq t u) (place_at_most t ts)
  where
    by : (b : Bool) → place_of t ts ≤ length ts → (if b then 0 else suc (place_of t ts)) ≤ suc (length ts)
    by true rest = omega arith
    by false rest = omega (arith, rest)

place_in : (t : Tree) (ts : List Tree) (i : ℕ) → place_of t ts ≡ i → Contains (places ts) i
place_in t ts i e = let most = place_at_most t ts in let same : 0 + i ≡ i = omega arith in subst (Contains (places ts)) same (range_in 0 (length ts + 1) i (omega (arith, most, e)))

-- ---- numbers of boxes

greatest_within : (k : ℤ) (js : List ℤ) (n : ℤ) → k ≤ℤ n → ((j : ℤ) → Contains js j → j ≤ℤ n) → greatest_of k js ≤ℤ n
greatest_within k [] n first rest = first
greatest_within k (j ∷ js) n first rest = greatest_within (if int_le k j then j else k) js n (by (int_le k j)) (λ i c. rest i (later_in j i js c))
  where
    by : (b : Bool) → (if b then j else k) ≤ℤ n
    by true = rest j (first_in j js)
    by false = first

least_within : (k : ℤ) (js : List ℤ) (n : ℤ) → n ≤ℤ k → ((j : ℤ) → Contains js j → n ≤ℤ j) → n ≤ℤ least_of k js
least_within k [] n first rest = first
least_within k (j ∷ js) n first rest = least_within (if int_le j k then j else k) js n (by (int_le j k)) (λ i c. rest i (later_in j i js c))
  where
    by : (b : Bool) → n ≤ℤ (if b then j else k)
    by true = rest j (first_in j js)
    by false = first

whole_in : (k : ℤ) (m d : ℕ) (n : ℤ) → n ≡ k +ℤ pos d → d < m → Contains (whole_from k m) n
whole_in k zero d n e lt = absurd (omega (arith, lt))
whole_in k (suc m) zero n e lt = let same : k ≡ n = omega (arith, ints, e) in subst (Contains (whole_from k (suc m))) same (first_in k (whole_from (k +ℤ pos 1) m))
whole_in k (suc m) (suc d) n e lt = later_in k n (whole_from (k +ℤ pos 1) m) (whole_in (k +ℤ pos 1) m d n (omega (arith, ints, e)) (omega (arith, lt)))

counted : (d : ℕ) (z : ℤ) → pos d ≤ℤ z → d < count_to z
counted d (pos n) h = omega (arith, ints, h)
counted d (negsuc n) h = absurd (omega (arith, ints, h))

from_to : (k j n z : ℤ) → z ≡ n -ℤ k → k ≤ℤ n → n ≤ℤ j → Contains (whole_from k (count_to (j -ℤ k))) n
from_to k j n (pos d) e low high = whole_in k (count_to (j -ℤ k)) d n (omega (arith, ints, e)) (counted d (j -ℤ k) (omega (arith, ints, e, high)))
from_to k j n (negsuc d) e low high = absurd (omega (arith, ints, e, low))

between : (ks js : List ℤ) (k j n : ℤ) → Contains ks k → Contains js j → ((i : ℤ) → Contains ks i → i ≤ℤ n) → ((i : ℤ) → Contains js i → n ≤ℤ i) → Contains (numbers_between ks js) n
between [] js k j n c d low high = absurd (in_none k c)
between (h ∷ ks) [] k j n c d low high = absurd (in_none j d)
between (h ∷ ks) (i ∷ js) k j n c d low high =
    from_to (greatest_of h ks) (least_of i js) n (n -ℤ greatest_of h ks) refl (greatest_within h ks n (low h (first_in h ks)) (λ l m. low l (later_in h l ks m)))
    (least_within i js n (high i (first_in i js)) (λ l m. high l (later_in i l js m)))

-- ---- ends

same_number : (t : ℕ) → nat_eq t t ≡ true
same_number t = eq-eqb t t refl

high_end : (t : ℕ) (k : ℤ) (xs : List Atom) → Contains xs (term_at_most t k) → Contains (flat_map (ends_at (pos 1) t) xs) k
high_end t k xs c = in_flat (ends_at (pos 1) t) xs (term_at_most t k) k c (subst (λ b. Contains (if b && true then k ∷ [] else []) k) (sym (same_number t)) (first_in k []))

low_end : (t : ℕ) (k : ℤ) (xs : List Atom) → Contains xs (negation_at_most t k) → Contains (flat_map (ends_at (negsuc 0) t) xs) k
low_end t k xs c = in_flat (ends_at (negsuc 0) t) xs (negation_at_most t k) k c (subst (λ b. Contains (if b && true then k ∷ [] else []) k) (sym (same_number t)) (first_in k []))

-- an end is that of an atom of the list
end_of : (d : ℤ) (t : ℕ) (xs : List Atom) (k : ℤ) → Contains (flat_map (ends_at d t) xs) k → (a : Atom) × Contains xs a × Contains (ends_at d t a) k
end_of d t [] k c = absurd (in_none k c)
end_of d t (a ∷ xs) k c = elim (Contains-append_cases (ends_at d t a) (flat_map (ends_at d t) xs) k c) [
  | inl here ↦ (a, first_in a xs, here)
  | inr later ↦ let h = end_of d t xs k later in (h.0, later_in a h.0 xs h.1, h.2)
]

same_whole : (m n : ℤ) → int_eq m n ≡ true → m ≡ n
same_whole (pos m) (pos n) e = ap pos (eqb-true m n e)
same_whole (negsuc m) (negsuc n) e = ap negsuc (eqb-true m n e)
same_whole (pos m) (negsuc n) e = cc
same_whole (negsuc m) (pos n) e = cc

-- that atom is the bound
end_is : (d : ℤ) (t : ℕ) (a : Atom) (k : ℤ) → Contains (ends_at d t a) k → a ≡ AtMost (summand t d ∷ []) k
end_is d t (Truth i) k c = absurd (in_none k c)
end_is d t (Same i j) k c = absurd (in_none k c)
end_is d t (AtMost [] j) k c = absurd (in_none k c)
end_is d t (AtMost (p ∷ q ∷ ps) j) k c = absurd (in_none k c)
end_is d t (AtMost (p ∷ []) j) k c = by (nat_eq p.term t) refl (int_eq p.coefficient d) refl c
  where
    one_is : k ≡ j → p.term ≡ t → p.coefficient ≡ d → AtMost (p ∷ []) j ≡ AtMost (summand t d ∷ []) k
    one_is same term coefficient = ap₂ (λ (q : Summand) i. AtMost (q ∷ []) i) (ap₂ (λ i z. summand i z) term coefficient) (sym same)

    by : (b : Bool) → nat_eq p.term t ≡ b → (e : Bool) → int_eq p.coefficient d ≡ e → Contains (if b && e then j ∷ [] else []) k → AtMost (p ∷ []) j ≡ AtMost (summand t d ∷ []) k
    by false f e g c = absurd (in_none k c)
    by true f false g c = absurd (in_none k c)
    by true f true g c = elim (in_cons j k [] c) [ inl same ↦ one_is same (eqb-true p.term t f) (same_whole p.coefficient d g) | inr past ↦ absurd (in_none k past) ]

module _ (ts : List Tree) (frames : List Frame) where
  number_in : (t : ℕ) (n : ℤ) → IsInBox ts frames t n → Contains (box_numbers ts frames t) n
  number_in t n b =
      between (map neg_ℤ lows) highs (neg_ℤ (neg_ℤ b.least)) b.greatest n (in_list neg_ℤ lows (neg_ℤ b.least) (low_end t (neg_ℤ b.least) asserted b.has_least))
      (high_end t b.greatest asserted b.has_greatest) above below
    where
      asserted : List Atom
      asserted = asserted_atoms ts frames

      lows : List ℤ
      lows = flat_map (ends_at (negsuc 0) t) (asserted_atoms ts frames)

      highs : List ℤ
      highs = flat_map (ends_at (pos 1) t) (asserted_atoms ts frames)

      above : (i : ℤ) → Contains (map neg_ℤ (flat_map (ends_at (negsuc 0) t) (asserted_atoms ts frames))) i → i ≤ℤ n
      above i c =
          let h = from_list neg_ℤ (flat_map (ends_at (negsuc 0) t) (asserted_atoms ts frames)) i c in
          let a = end_of (negsuc 0) t (asserted_atoms ts frames) h.0 h.1 in
          subst (λ z. z ≤ℤ n) (sym h.2) (b.above h.0 (subst (Contains (asserted_atoms ts frames)) (end_is (negsuc 0) t a.0 h.0 a.2) a.1))

      below : (i : ℤ) → Contains (flat_map (ends_at (pos 1) t) (asserted_atoms ts frames)) i → n ≤ℤ i
      below i c =
          let a = end_of (pos 1) t (asserted_atoms ts frames) i c in
          b.below i (subst (Contains (asserted_atoms ts frames)) (end_is (pos 1) t a.0 i a.2) a.1)

  module _ (parts : List Tree) where
    abbrev compared : List Atom
    compared = flat_map (λ s. flat_map (pair_atoms ts (signature_of frames) s) parts) parts

    abbrev boxed : List Atom
    boxed = flat_map (λ t. flat_map (bounds_at t) (box_numbers ts frames t)) (places ts)

    of_pair : AreAllParts frames parts → (a : Atom) → ComparesParts ts frames a → Contains compared a
    of_pair all a h =
        in_flat (λ s. flat_map (pair_atoms ts (signature_of frames) s) parts) parts h.left a (all h.left h.left_part)
        (in_flat (pair_atoms ts (signature_of frames) h.left) parts h.right a (all h.right h.right_part) h.among)

    of_box : (a : Atom) → BoundsInBox ts frames a → Contains boxed a
    of_box a h =
        in_flat (λ t. flat_map (bounds_at t) (box_numbers ts frames t)) (places ts) h.term a (place_in h.leaf.leaf ts h.term h.leaf.part.place_is)
        (in_flat (bounds_at h.term) (box_numbers ts frames h.term) h.number a (number_in h.term h.number h.in_box) h.among)

pub list_has_each : ListHasEach
list_has_each ts frames parts all a (inl c) = Contains-append_left (stack_atoms ts frames) (compared ts frames parts ++ boxed ts frames parts) a c
list_has_each ts frames parts all a (inr (inl h)) =
    Contains-append_right (stack_atoms ts frames) (compared ts frames parts ++ boxed ts frames parts) a (Contains-append_left (compared ts frames parts) (boxed ts frames parts) a (of_pair ts frames parts all a h))
list_has_each ts frames parts all a (inr (inr h)) =
    Contains-append_right (stack_atoms ts frames) (compared ts frames parts ++ boxed ts frames parts) a (Contains-append_right (compared ts frames parts) (boxed ts frames parts) a (of_box ts frames parts a h))

-- ---- lengths

flat_at_most : {X Y : Type 0} (f : X → List Y) (m : ℕ) (xs : List X) → ((x : X) → length (f x) ≤ m) → length (flat_map f xs) ≤ m * length xs
flat_at_most f m [] each = omega arith
flat_at_most f m (x ∷ xs) each =
    let rest : length (flat_map f xs) ≤ m * length xs = flat_at_most f m xs each in
    let first : length (f x) ≤ m = each x in
    let size : length (f x ++ flat_map f xs) ≡ length (f x) + length (flat_map f xs) = length-append (f x) (flat_map f xs) in
    let product : m * suc (length xs) ≡ m * length xs + m = mul-suc m (length xs) in
    omega (arith, rest, first, size, product)

three_at_most : (ts : List Tree) (frames : List Frame) (s t : Tree) → length (pair_atoms ts (signature_of frames) s t) ≤ 3
three_at_most ts frames s t = by (is_int (tree_sort (signature_of frames) s))
  where
    by : (b : Bool) → suc (length (if b then at_most_atom ts s t ∷ at_most_atom ts t s ∷ [] else [])) ≤ 3
    by true = omega arith
    by false = omega arith

boxes_at_most : (ts : List Tree) (frames : List Frame) (terms : List ℕ) → length (flat_map (λ t. flat_map (bounds_at t) (box_numbers ts frames t)) terms) ≤ 2 * box_sizes ts frames terms
boxes_at_most ts frames [] = omega arith
boxes_at_most ts frames (t ∷ terms) =
    let f : ℕ → List Atom = λ u. flat_map (bounds_at u) (box_numbers ts frames u) in
    let rest : length (flat_map f terms) ≤ 2 * box_sizes ts frames terms = boxes_at_most ts frames terms in
    let first : length (f t) ≤ 2 * length (box_numbers ts frames t) = flat_at_most (bounds_at t) 2 (box_numbers ts frames t) (λ n. omega arith) in
    let size : length (f t ++ flat_map f terms) ≡ length (f t) + length (flat_map f terms) = length-append (f t) (flat_map f terms) in
    omega (arith, rest, first, size)

pub list_is_short : ListIsShort
list_is_short ts frames parts =
    let some : List Atom = compared ts frames parts in
    let others : List Atom = boxed ts frames parts in
    let pairs : length some ≤ (3 * length parts) * length parts =
    flat_at_most (λ s. flat_map (pair_atoms ts (signature_of frames) s) parts) (3 * length parts) parts (λ s. flat_at_most (pair_atoms ts (signature_of frames) s) 3 parts (three_at_most ts frames s)) in
    let bounds : length others ≤ 2 * box_sizes ts frames (places ts) = boxes_at_most ts frames (places ts) in
    let product : (3 * length parts) * length parts ≡ 3 * (length parts * length parts) = mul_assoc 3 (length parts) (length parts) in
    let last : length (some ++ others) ≡ length some + length others = length-append some others in
    let all : length (stack_atoms ts frames ++ (some ++ others)) ≡ length (stack_atoms ts frames) + length (some ++ others) = length-append (stack_atoms ts frames) (some ++ others) in
    omega (arith, pairs, bounds, product, last, all)

pub small_boxes : SmallBoxesAreNotSpent
small_boxes ts frames limit branches us parts unlimited are all few spent =
    let short : length (listed_atoms ts frames parts) ≤ atom_count ts frames parts = list_is_short ts frames parts in
    boxed_not_spent ts frames limit branches us (listed_atoms ts frames parts) unlimited are (list_has_each ts frames parts all) (omega (arith, short, few)) spent
