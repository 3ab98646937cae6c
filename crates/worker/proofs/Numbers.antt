-- The number of an atom in a table in which none stands twice.
use Rattle.std.proofs.Common.{◌≡◌, ℕ, zero, suc, ◌<◌, Bool, true, false, ◌&&◌, ◌++◌, List, [], ◌∷◌, length, ap, ◌∙◌, arith, refl, nat_eq}
use Rattle.std.specs.Prelude.{if◌then◌else◌, ℤ}
use Rattle.std.specs.Ordering.{int_eq}
use Rattle.std.specs.Bool.{Decides}
use Rattle.std.proofs.lemmas.Bool.Decides.{Decides-eqb, Decides-int_eq, Decides-and, Decides-like}
use Rattle.smt_meaning.specs.declared.clauses.Summand.{Summand}
use Rattle.smt_meaning.specs.declared.clauses.Atom.{Atom}
use Rattle.smt_meaning.specs.declared.clauses.Atom.TheVariants.{Truth, AtMost, Same}
use Rattle.smt_meaning.specs.Linear.{summand}
use Rattle.search_port.specs.State.{atom_at}

-- ---- whether two atoms are one

abbrev pub is_summand : Summand → Summand → Bool
is_summand p q = nat_eq p.term q.term && int_eq p.coefficient q.coefficient

abbrev pub is_sum : List Summand → List Summand → Bool
is_sum [] [] = true
is_sum (p ∷ ps) (q ∷ qs) = is_summand p q && is_sum ps qs
is_sum _ _ = false

abbrev pub is_same : Atom → Atom → Bool
is_same (Truth p) (Truth q) = nat_eq p q
is_same (Same i j) (Same k l) = nat_eq i k && nat_eq j l
is_same (AtMost ps k) (AtMost qs l) = is_sum ps qs && int_eq k l
is_same _ _ = false

one_summand : (p q : Summand) → Decides (is_summand p q) (p ≡ q)
one_summand p q =
    Decides-like (is_summand p q) (λ h. ap (λ (i : ℕ). summand i p.coefficient) h.0 ∙ ap (λ (k : ℤ). summand q.term k) h.1) (λ e. (ap (λ (r : Summand). r.term) e, ap (λ (r : Summand). r.coefficient) e))
    (Decides-and (nat_eq p.term q.term) (int_eq p.coefficient q.coefficient) (Decides-eqb p.term q.term) (Decides-int_eq p.coefficient q.coefficient))

one_sum : (ps qs : List Summand) → Decides (is_sum ps qs) (ps ≡ qs)
one_sum [] [] = (λ e. refl, λ e. refl)
one_sum [] (q ∷ qs) = (λ e. absurd cc, λ e. absurd cc)
one_sum (p ∷ ps) [] = (λ e. absurd cc, λ e. absurd cc)
one_sum (p ∷ ps) (q ∷ qs) =
    Decides-like (is_summand p q && is_sum ps qs) (λ h. (let here : p ≡ q = h.0 in let there : ps ≡ qs = h.1 in cc)) (λ e. (cc, cc))
    (Decides-and (is_summand p q) (is_sum ps qs) (one_summand p q) (one_sum ps qs))

are_one : (a b : Atom) → is_same a b ≡ true → a ≡ b
are_one (Truth p) (Truth q) h = ap Truth ((Decides-eqb p q).0 h)
are_one (Same i j) (Same k l) h =
    let both : (i ≡ k) × (j ≡ l) = (Decides-and (nat_eq i k) (nat_eq j l) (Decides-eqb i k) (Decides-eqb j l)).0 h in ap (λ n. Same n j) both.0 ∙ ap (λ n. Same k n) both.1
are_one (AtMost ps k) (AtMost qs l) h =
    let both : (ps ≡ qs) × (k ≡ l) = (Decides-and (is_sum ps qs) (int_eq k l) (one_sum ps qs) (Decides-int_eq k l)).0 h in ap (λ s. AtMost s k) both.0 ∙ ap (λ n. AtMost qs n) both.1
are_one (Truth p) (Same k l) h = absurd cc
are_one (Truth p) (AtMost qs l) h = absurd cc
are_one (Same i j) (Truth q) h = absurd cc
are_one (Same i j) (AtMost qs l) h = absurd cc
are_one (AtMost ps k) (Truth q) h = absurd cc
are_one (AtMost ps k) (Same i j) h = absurd cc

itself : (a : Atom) → is_same a a ≡ true
itself (Truth p) = (Decides-eqb p p).1 refl
itself (Same i j) = (Decides-and (nat_eq i i) (nat_eq j j) (Decides-eqb i i) (Decides-eqb j j)).1 (refl, refl)
itself (AtMost ps k) = (Decides-and (is_sum ps ps) (int_eq k k) (one_sum ps ps) (Decides-int_eq k k)).1 (refl, refl)

false_if : (b : Bool) → (b ≡ true → ⊥) → b ≡ false
false_if true h = absurd (h refl)
false_if false h = refl

-- ---- numbers

abbrev pub number_in : List Atom → Atom → ℕ
number_in [] a = 0
number_in (b ∷ table) a = if is_same b a then 0 else suc (number_in table a)

-- no atom stands twice
abbrev pub IsApart : List Atom → Type 0
IsApart table = (m n : ℕ) → m < length table → n < length table → atom_at table m ≡ atom_at table n → m ≡ n

-- an atom's number is its place
pub number_again : (table : List Atom) (n : ℕ) → IsApart table → n < length table → number_in table (atom_at table n) ≡ n
number_again [] n apart h = absurd (omega arith)
number_again (b ∷ table) zero apart h = ap (λ v. if v then 0 else suc (number_in table b)) (itself b)
number_again (b ∷ table) (suc n) apart h =
    let differ : is_same b (atom_at table n) ≡ false = false_if (is_same b (atom_at table n)) (λ e. not_both (apart 0 (suc n) (omega arith) (omega (arith, h)) (are_one b (atom_at table n) e))) in
    ap (λ v. if v then 0 else suc (number_in table (atom_at table n))) differ
    ∙ ap suc (number_again table n (λ i j l m e. (let same : suc i ≡ suc j = apart (suc i) (suc j) (omega (arith, l)) (omega (arith, m)) e in omega (arith, same))) (omega (arith, h)))
  where
    not_both : 0 ≡ suc n → ⊥
    not_both e = omega (arith, e)

-- ---- longer tables

-- earlier atoms have the same numbers
pub same_front : (table more : List Atom) (n : ℕ) → n < length table → atom_at (table ++ more) n ≡ atom_at table n
same_front [] more n h = absurd (omega arith)
same_front (a ∷ table) more zero h = refl
same_front (a ∷ table) more (suc n) h = same_front table more n (omega (arith, h))
