-- The numbers of atoms.
use Rattle.std.proofs.Common.{◌≡◌, inl, inr, ℕ, zero, suc, ◌<◌, ◌+◌, Bool, true, false, List, [], ◌∷◌, ◌++◌, map, length, take, get_or, All, Contains, slice_index, subst, sym, ap, ◌∙◌, arith, refl, nat_eq, eq-eqb}
use Rattle.std.specs.Prelude.{if◌then◌else◌}
use Rattle.std.proofs.lemmas.Bool.{eqb-true}
use Rattle.std.proofs.lemmas.List.{take_more, map-append}
use Rattle.std.proofs.lemmas.List.Elements.{All-nil, All-cons}
use Rattle.smt_meaning.specs.declared.clauses.Atom.{Atom}
use Rattle.smt_meaning.specs.declared.clauses.Atom.TheVariants.{Truth, AtMost, Same}
use Rattle.search_port.specs.State.{truth_atoms}
use Rattle.atom_form.specs.AtomTableNumbers.{IsAt, AreApart}
use Rattle.order_clauses.proofs.Numbering.{before_or_not}
use Rattle.first_clauses.specs.Numbers.{AreNumbers}

-- ---- one number more

pub numbers_more : (table atoms : List Atom) (ns : List ℕ) (a : Atom) (n : ℕ) → AreNumbers table atoms ns → IsAt table n a → AreNumbers table (atoms ++ a ∷ []) (ns ++ n ∷ [])
numbers_more table [] [] a n h i = (i, tt)
numbers_more table [] (m ∷ ns) a n h i = absurd h
numbers_more table (b ∷ atoms) [] a n h i = absurd h
numbers_more table (b ∷ atoms) (m ∷ ns) a n h i = (h.0, numbers_more table atoms ns a n h.1 i)

pub numbers_within : (table atoms : List Atom) (ns : List ℕ) → AreNumbers table atoms ns → All (λ n. n < length table) ns
numbers_within table [] [] h = All-nil (λ n. n < length table)
numbers_within table [] (m ∷ ns) h = absurd h
numbers_within table (b ∷ atoms) [] h = absurd h
numbers_within table (b ∷ atoms) (m ∷ ns) h = All-cons (λ n. n < length table) m ns h.0.0 (numbers_within table atoms ns h.1)

pub truths_more : (table : List Atom) (ps ns : List ℕ) (k n : ℕ) → AreNumbers table (truth_atoms (take k ps)) ns → k < length ps → IsAt table n (Truth (slice_index ps k)) → AreNumbers table (truth_atoms (take (k + 1) ps)) (ns ++ n ∷ [])
truths_more table ps ns k n h l i =
    let list : truth_atoms (take (k + 1) ps) ≡ truth_atoms (take k ps) ++ Truth (slice_index ps k) ∷ [] =
    ap truth_atoms (take_more ps k 0 l) ∙ map-append (λ (p : ℕ). Truth p) (take k ps) (slice_index ps k ∷ []) in
    subst (λ atoms. AreNumbers table atoms (ns ++ n ∷ [])) (sym list) (numbers_more table (truth_atoms (take k ps)) ns (Truth (slice_index ps k)) n h i)

-- ---- the number of a place

abbrev truth_eq : ℕ → Atom → Bool
truth_eq p (Truth q) = nat_eq p q
truth_eq p (AtMost sum k) = false
truth_eq p (Same i j) = false

-- of the truth of the term at this place; past the table where it has none
abbrev pub number_of : List Atom → ℕ → ℕ
number_of [] p = p
number_of (a ∷ atoms) p = if truth_eq p a then 0 else suc (number_of atoms p)

truth_eq_is : (p : ℕ) (a : Atom) → truth_eq p a ≡ true → a ≡ Truth p
truth_eq_is p (Truth q) h = ap Truth (sym (eqb-true p q h))
truth_eq_is p (AtMost sum k) h = cc
truth_eq_is p (Same i j) h = cc

truth_eq_own : (p : ℕ) (a : Atom) → a ≡ Truth p → truth_eq p a ≡ true
truth_eq_own p a e = ap (truth_eq p) e ∙ eq-eqb p p refl

truth_of_same : (p q : ℕ) → Truth p ≡ Truth q → p ≡ q
truth_of_same p q e = cc

zero_or_more : (n : ℕ) → 0 ≡ suc n → ⊥
zero_or_more n e = cc

same_before : (m n : ℕ) → suc m ≡ suc n → m ≡ n
same_before m n e = cc

apart_by : (a : Atom) (atoms : List Atom) (p q : ℕ) (b c : Bool) → truth_eq p a ≡ b → truth_eq q a ≡ c → (number_of atoms p ≡ number_of atoms q → p ≡ q)
    → (if b then 0 else suc (number_of atoms p)) ≡ (if c then 0 else suc (number_of atoms q)) → p ≡ q
apart_by a atoms p q true true x y rest e = truth_of_same p q (sym (truth_eq_is p a x) ∙ truth_eq_is q a y)
apart_by a atoms p q true false x y rest e = absurd (zero_or_more (number_of atoms q) e)
apart_by a atoms p q false true x y rest e = absurd (zero_or_more (number_of atoms p) (sym e))
apart_by a atoms p q false false x y rest e = rest (same_before (number_of atoms p) (number_of atoms q) e)

-- no two places have one
pub numbers_apart : (table : List Atom) (p q : ℕ) → number_of table p ≡ number_of table q → p ≡ q
numbers_apart [] p q e = e
numbers_apart (a ∷ atoms) p q e = apart_by a atoms p q (truth_eq p a) (truth_eq q a) refl refl (numbers_apart atoms p q) e

at_later : (a : Atom) (atoms : List Atom) (n : ℕ) (b : Atom) → IsAt atoms n b → IsAt (a ∷ atoms) (suc n) b
at_later a atoms n b h = (let less : n < length atoms = h.0 in omega arith, λ d. h.1 d)

found_by : (a : Atom) (atoms : List Atom) (p : ℕ) (b : Bool) → truth_eq p a ≡ b → (truth_eq p a ≡ false → IsAt atoms (number_of atoms p) (Truth p)) → IsAt (a ∷ atoms) (if b then 0 else suc (number_of atoms p)) (Truth p)
found_by a atoms p true e h = (omega arith, λ d. truth_eq_is p a e)
found_by a atoms p false e h = at_later a atoms (number_of atoms p) (Truth p) (h e)

true_or_false : (b : Bool) → b ≡ true → b ≡ false → ⊥
true_or_false b p q = cc

found_at : (table : List Atom) (p k : ℕ) → k < length table → get_or table k (Truth p) ≡ Truth p → IsAt table (number_of table p) (Truth p)
found_at [] p k h e = absurd (omega arith)
found_at (a ∷ atoms) p zero h e = found_by a atoms p (truth_eq p a) refl (λ n. absurd (true_or_false (truth_eq p a) (truth_eq_own p a e) n))
found_at (a ∷ atoms) p (suc k) h e = found_by a atoms p (truth_eq p a) refl (λ n. found_at atoms p k (omega arith) e)

pub found : (table : List Atom) (p : ℕ) → Contains table (Truth p) → IsAt table (number_of table p) (Truth p)
found table p c = found_at table p c.0 c.1 c.2

pub one_place : (table : List Atom) (m n : ℕ) (a : Atom) → AreApart table → IsAt table m a → IsAt table n a → m ≡ n
one_place table m n a apart x y = elim (before_or_not m n) [
  | inl less ↦ absurd (apart m n a less y.0 (x.1 a ∙ sym (y.1 a)))
  | inr r ↦ elim r [ inl same ↦ same | inr more ↦ absurd (apart n m a more x.0 (y.1 a ∙ sym (x.1 a))) ]
]

pub contained : (table : List Atom) (n : ℕ) (a : Atom) → IsAt table n a → Contains table a
contained table n a h = (n, h.0, h.1 a)

pub number_is : (table : List Atom) (n p : ℕ) → AreApart table → IsAt table n (Truth p) → n ≡ number_of table p
number_is table n p apart h = one_place table n (number_of table p) (Truth p) apart h (found table p (contained table n (Truth p) h))

pub numbers_are : (table : List Atom) (is ns : List ℕ) → AreApart table → AreNumbers table (truth_atoms is) ns → ns ≡ map (number_of table) is
numbers_are table [] [] apart h = refl
numbers_are table [] (n ∷ ns) apart h = absurd h
numbers_are table (i ∷ is) [] apart h = absurd h
numbers_are table (i ∷ is) (n ∷ ns) apart h =
    ap (λ k. k ∷ ns) (number_is table n i apart h.0) ∙ ap (λ ks. number_of table i ∷ ks) (numbers_are table is ns apart h.1)
