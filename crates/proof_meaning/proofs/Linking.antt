-- An equality of Ints and the bounds of its difference.
use Rattle.std.proofs.Common.{◌≡◌, ℕ, zero, suc, Bool, true, false, not, ◌||◌, ◌&&◌, List, map, ap, ap₂, sym, subst, ◌∙◌, refl, arith}
use Rattle.std.specs.Prelude.{IsTrue, ℤ, pos, negsuc, ◌+ℤ◌, ◌-ℤ◌, neg_ℤ, int_le, ◌≤ℤ◌}
use Rattle.std.proofs.lemmas.Int.{ints}
use Rattle.std.proofs.lemmas.Bool.Decides.{nat_tests}
use Rattle.smt_meaning.specs.declared.values.Value.{Value}
use Rattle.smt_meaning.specs.declared.values.Value.TheVariants.{Whole}
use Rattle.smt_meaning.specs.declared.clauses.Literal.{Literal}
use Rattle.smt_meaning.specs.Declaration.{Declaration}
use Rattle.smt_meaning.specs.Term.{Tree, Interpretation, tree_at, number_of, same_value, int_eq}
use Rattle.smt_meaning.specs.Clause.{some_true, atom_true, sum_value, value_at}
use Rattle.smt_meaning.specs.Atoms.{difference_of}
use Rattle.smt_meaning.specs.Linear.{Form, form_value, linear_form}
use Rattle.proof_meaning.specs.Proof.{meant, IsIntAt}
use Rattle.proof_meaning.specs.Rules.{folded_bound, link_clause, IsLink}
use Rattle.smt_laws.proofs.LinearLaw.{form_minus_value}
use Rattle.proof_meaning.proofs.Facts.{Facts}

pub same_bool : (p q : Bool) → (p ≡ true → q ≡ true) → (q ≡ true → p ≡ true) → p ≡ q
same_bool true q f g = sym (f refl)
same_bool false true f g = g refl
same_bool false false f g = refl

le_true : (a b : ℤ) → a ≤ℤ b → int_le a b ≡ true
le_true a b h = grind (arith, ints)

true_le : (a b : ℤ) → int_le a b ≡ true → a ≤ℤ b
true_le a b h = grind (arith, ints)

pub le_moved : (a c m n : ℤ) → a +ℤ c ≡ m -ℤ n → int_le a (neg_ℤ c) ≡ int_le m n
le_moved a c m n e =
    same_bool (int_le a (neg_ℤ c)) (int_le m n)
    (λ h. le_true m n (let k : a ≤ℤ neg_ℤ c = true_le a (neg_ℤ c) h in omega (arith, ints)))
    (λ h. le_true a (neg_ℤ c) (let k : m ≤ℤ n = true_le m n h in omega (arith, ints)))

eq_orders : (m n : ℤ) → int_eq m n ≡ (int_le m n && int_le n m)
eq_orders (pos m) (pos n) = grind (arith, nat_tests)
eq_orders (pos m) (negsuc n) = refl
eq_orders (negsuc m) (pos n) = refl
eq_orders (negsuc m) (negsuc n) = grind (arith, nat_tests)

-- the number of the term at a place
abbrev pub number_at : List Tree → Interpretation → ℕ → ℤ
number_at ts I i = number_of (value_at (map meant ts) I i)

pub difference_value : (ds : List Declaration) (ts : List Tree) (I : Interpretation) → Facts ds ts I → (i j : ℕ) → IsIntAt ds ts i → IsIntAt ds ts j
    → form_value (map meant ts) I (difference_of ts (tree_at ts i) (tree_at ts j)) ≡ number_at ts I i -ℤ number_at ts I j
difference_value ds ts I f i j hi hj =
    form_minus_value (map meant ts) I (linear_form ts (tree_at ts i)) (linear_form ts (tree_at ts j))
    ∙ ap (λ z. z -ℤ form_value (map meant ts) I (linear_form ts (tree_at ts j))) (sym (f.number i hi))
    ∙ ap (λ z. number_at ts I i -ℤ z) (sym (f.number j hj))

bound_value : (ds : List Declaration) (ts : List Tree) (I : Interpretation) → Facts ds ts I → (i j : ℕ) → IsIntAt ds ts i → IsIntAt ds ts j
    → atom_true (map meant ts) I (folded_bound ts i j) ≡ int_le (number_at ts I i) (number_at ts I j)
bound_value ds ts I facts i j hi hj =
    let f : Form = difference_of ts (tree_at ts i) (tree_at ts j) in
    le_moved (sum_value (map meant ts) I f.sum) f.constant (number_at ts I i) (number_at ts I j) (difference_value ds ts I facts i j hi hj)

same_orders : (v w : Value) → (m : ℤ) × (v ≡ Whole m) → (n : ℤ) × (w ≡ Whole n) → same_value v w ≡ (int_le (number_of v) (number_of w) && int_le (number_of w) (number_of v))
same_orders v w hv hw =
    subst (λ x. same_value x w ≡ (int_le (number_of x) (number_of w) && int_le (number_of w) (number_of x))) (sym hv.1)
    (subst (λ y. same_value (Whole hv.0) y ≡ (int_le hv.0 (number_of y) && int_le (number_of y) hv.0)) (sym hw.1) (eq_orders hv.0 hw.0))

first : (a b : Bool) → (not (a && b) || (a || false)) ≡ true
first true true = refl
first true false = refl
first false b = refl

second : (a b : Bool) → (not (a && b) || (b || false)) ≡ true
second true true = refl
second true false = refl
second false b = refl

third : (a b : Bool) → (not a || (not b || ((a && b) || false))) ≡ true
third true true = refl
third true false = refl
third false b = refl

clause_true : (ds : List Declaration) (ts : List Tree) (I : Interpretation) → Facts ds ts I → (i j n : ℕ) → IsIntAt ds ts i → IsIntAt ds ts j
    → IsTrue (some_true (map meant ts) I (link_clause ts i j n))
clause_true ds ts I f i j zero hi hj =
    ap₂ (λ x y. not x || (y || false)) (same_orders (value_at (map meant ts) I i) (value_at (map meant ts) I j) (f.int i hi) (f.int j hj)) (bound_value ds ts I f i j hi hj)
    ∙ first (int_le (number_at ts I i) (number_at ts I j)) (int_le (number_at ts I j) (number_at ts I i))
clause_true ds ts I f i j (suc zero) hi hj =
    ap₂ (λ x y. not x || (y || false)) (same_orders (value_at (map meant ts) I i) (value_at (map meant ts) I j) (f.int i hi) (f.int j hj)) (bound_value ds ts I f j i hj hi)
    ∙ second (int_le (number_at ts I i) (number_at ts I j)) (int_le (number_at ts I j) (number_at ts I i))
clause_true ds ts I f i j (suc (suc n)) hi hj =
    ap₂ (λ y z. not y || (not z || (same_value (value_at (map meant ts) I i) (value_at (map meant ts) I j) || false))) (bound_value ds ts I f i j hi hj) (bound_value ds ts I f j i hj hi)
    ∙ ap (λ x. not (int_le (number_at ts I i) (number_at ts I j)) || (not (int_le (number_at ts I j) (number_at ts I i)) || (x || false)))
    (same_orders (value_at (map meant ts) I i) (value_at (map meant ts) I j) (f.int i hi) (f.int j hj))
    ∙ third (int_le (number_at ts I i) (number_at ts I j)) (int_le (number_at ts I j) (number_at ts I i))

pub link_true : (ds : List Declaration) (ts : List Tree) (I : Interpretation) → Facts ds ts I → (i j n : ℕ) (ls : List Literal) → IsLink ds ts i j n ls
    → some_true (map meant ts) I ls ≡ true
link_true ds ts I f i j n ls h = subst (λ ms. some_true (map meant ts) I ms ≡ true) (sym h.clause) (clause_true ds ts I f i j n h.left h.right)
