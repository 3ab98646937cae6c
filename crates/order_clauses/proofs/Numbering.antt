-- The number of an atom is where it stands.
use Rattle.std.proofs.Common.{◌≡◌, inl, inr, ℕ, zero, suc, ◌<◌, ◌≤◌, ◌^◌, ◌&&◌, Bool, true, false, List, [], ◌∷◌, length, get_or, Contains, sym, ap, ◌∙◌, arith, refl, nat_eq, eq-eqb}
use Rattle.std.specs.Prelude.{◌⊎◌, if◌then◌else◌}
use Rattle.std.proofs.lemmas.Bool.{eqb-true}
use Rattle.smt_meaning.specs.declared.clauses.Summand.{Summand}
use Rattle.smt_meaning.specs.declared.clauses.Atom.{Atom}
use Rattle.smt_meaning.specs.declared.clauses.Atom.TheVariants.{Truth, AtMost, Same}
use Rattle.smt_meaning.specs.Term.{int_eq}
use Rattle.smt_laws.proofs.Both.{and_left, and_right}
use Rattle.smt_laws.proofs.SameValue.{int_eq-true, int_eq-self}
use Rattle.atom_form.specs.AtomTableNumbers.{IsAt, AreApart}
use Rattle.order_clauses.specs.Numbers.{sum_eq, atom_eq, number_in, IsNumberOf}

-- ---- equal atoms

both : (a b : Bool) → a ≡ true → b ≡ true → (a && b) ≡ true
both true b h k = k
both false b h k = cc

summand_of : (p q : Summand) → p.coefficient ≡ q.coefficient → p.term ≡ q.term → p ≡ q
summand_of p q c t = ap (λ z. record { coefficient = z; term = p.term }) c ∙ ap (λ n. record { coefficient = q.coefficient; term = n }) t

sum_is : (ps qs : List Summand) → sum_eq ps qs ≡ true → ps ≡ qs
sum_is [] [] h = refl
sum_is [] (q ∷ qs) h = absurd (let x : false ≡ true = h in cc)
sum_is (p ∷ ps) [] h = absurd (let x : false ≡ true = h in cc)
sum_is (p ∷ ps) (q ∷ qs) h =
    let head : (int_eq p.coefficient q.coefficient && nat_eq p.term q.term) ≡ true = and_left (int_eq p.coefficient q.coefficient && nat_eq p.term q.term) (sum_eq ps qs) h in
    ap (λ s. s ∷ ps)
    (summand_of p q (int_eq-true p.coefficient q.coefficient (and_left (int_eq p.coefficient q.coefficient) (nat_eq p.term q.term) head))
    (eqb-true p.term q.term (and_right (int_eq p.coefficient q.coefficient) (nat_eq p.term q.term) head)))
    ∙ ap (λ ss. q ∷ ss) (sum_is ps qs (and_right (int_eq p.coefficient q.coefficient && nat_eq p.term q.term) (sum_eq ps qs) h))

sum_own : (ps : List Summand) → sum_eq ps ps ≡ true
sum_own [] = refl
sum_own (p ∷ ps) =
    both (int_eq p.coefficient p.coefficient && nat_eq p.term p.term) (sum_eq ps ps)
    (both (int_eq p.coefficient p.coefficient) (nat_eq p.term p.term) (int_eq-self p.coefficient) (eq-eqb p.term p.term refl)) (sum_own ps)

atom_is : (a b : Atom) → atom_eq a b ≡ true → a ≡ b
atom_is (Truth p) (Truth q) h = ap Truth (eqb-true p q h)
atom_is (AtMost sum k) (AtMost sum' k') h =
    ap (λ s. AtMost s k) (sum_is sum sum' (and_left (sum_eq sum sum') (int_eq k k') h)) ∙ ap (AtMost sum') (int_eq-true k k' (and_right (sum_eq sum sum') (int_eq k k') h))
atom_is (Same i j) (Same i' j') h =
    ap (λ p. Same p j) (eqb-true i i' (and_left (nat_eq i i') (nat_eq j j') h)) ∙ ap (Same i') (eqb-true j j' (and_right (nat_eq i i') (nat_eq j j') h))
atom_is (Truth p) (AtMost sum k) h = absurd (let x : false ≡ true = h in cc)
atom_is (Truth p) (Same i j) h = absurd (let x : false ≡ true = h in cc)
atom_is (AtMost sum k) (Truth p) h = absurd (let x : false ≡ true = h in cc)
atom_is (AtMost sum k) (Same i j) h = absurd (let x : false ≡ true = h in cc)
atom_is (Same i j) (Truth p) h = absurd (let x : false ≡ true = h in cc)
atom_is (Same i j) (AtMost sum k) h = absurd (let x : false ≡ true = h in cc)

atom_own : (a : Atom) → atom_eq a a ≡ true
atom_own (Truth p) = eq-eqb p p refl
atom_own (AtMost sum k) = both (sum_eq sum sum) (int_eq k k) (sum_own sum) (int_eq-self k)
atom_own (Same i j) = both (nat_eq i i) (nat_eq j j) (eq-eqb i i refl) (eq-eqb j j refl)

-- ---- where it stands

at_later : (b : Atom) (bs : List Atom) (n : ℕ) (a : Atom) → IsAt bs n a → IsAt (b ∷ bs) (suc n) a
at_later b bs n a h = (let less : n < length bs = h.0 in omega arith, λ d. h.1 d)

found_by : (b : Atom) (bs : List Atom) (a : Atom) (t : Bool) → atom_eq a b ≡ t → (atom_eq a b ≡ false → IsAt bs (number_in bs a) a) → IsAt (b ∷ bs) (if t then 0 else suc (number_in bs a)) a
found_by b bs a true e h = (omega arith, λ d. sym (atom_is a b e))
found_by b bs a false e h = at_later b bs (number_in bs a) a (h e)

true_or_false : (b : Bool) → b ≡ true → b ≡ false → ⊥
true_or_false b p q = cc

found_at : (table : List Atom) (a : Atom) (k : ℕ) → k < length table → get_or table k a ≡ a → IsAt table (number_in table a) a
unfolding number_in
found_at [] a k h e = absurd (omega arith)
found_at (b ∷ bs) a zero h e = found_by b bs a (atom_eq a b) refl (λ n. absurd (true_or_false (atom_eq a b) (ap (atom_eq a) e ∙ atom_own a) n))
found_at (b ∷ bs) a (suc k) h e = found_by b bs a (atom_eq a b) refl (λ n. found_at bs a k (omega arith) e)

-- the number of an atom that stands there is where it stands
pub found : (table : List Atom) (a : Atom) → Contains table a → IsAt table (number_in table a) a
found table a c = found_at table a c.0 c.1 c.2

pub before_or_not : (m n : ℕ) → (m < n) ⊎ (m ≡ n) ⊎ (n < m)
before_or_not zero zero = inr (inl refl)
before_or_not zero (suc n) = inl (omega arith)
before_or_not (suc m) zero = inr (inr (omega arith))
before_or_not (suc m) (suc n) = elim (before_or_not m n) [ inl l ↦ inl (omega arith) | inr r ↦ elim r [ inl e ↦ inr (inl (ap suc e)) | inr g ↦ inr (inr (omega arith)) ] ]

one_place : (table : List Atom) (m n : ℕ) (a : Atom) → AreApart table → IsAt table m a → IsAt table n a → m ≡ n
one_place table m n a apart x y = elim (before_or_not m n) [
  | inl less ↦ absurd (apart m n a less y.0 (x.1 a ∙ sym (y.1 a)))
  | inr r ↦ elim r [ inl same ↦ same | inr more ↦ absurd (apart n m a more x.0 (y.1 a ∙ sym (x.1 a))) ]
]

pub contained : (table : List Atom) (n : ℕ) (a : Atom) → IsAt table n a → Contains table a
contained table n a h = (n, h.0, h.1 a)

-- where no atom stands twice, it is this number
pub number_is : (table : List Atom) (n : ℕ) (a : Atom) → AreApart table → IsAt table n a → n ≡ number_in table a
number_is table n a apart h = one_place table n (number_in table a) a apart h (found table a (contained table n a h))

-- one among so few
pub number_of : (table : List Atom) (n : ℕ) (a : Atom) → AreApart table → length table ≤ 2 ^ 31 → IsAt table n a → IsNumberOf table a n
number_of table n a apart few h = record {
  number = number_is table n a apart h;
  few = (let less : n < length table = h.0 in omega arith);
  has = contained table n a h;
}
