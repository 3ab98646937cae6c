-- The tests for equal numbers and equal values.
use Rattle.std.proofs.Common.{◌≡◌, eq-eqb, ap, refl, true, false}
use Rattle.std.specs.Prelude.{ℤ, pos, negsuc}
use Rattle.std.proofs.lemmas.Bool.{eqb-true}
use Rattle.smt_meaning.specs.declared.values.Value.{Value}
use Rattle.smt_meaning.specs.declared.values.Value.TheVariants.{Truth, Whole, Element}
use Rattle.smt_meaning.specs.Term.{same_value, int_eq}

pub int_eq-true : (m n : ℤ) → int_eq m n ≡ true → m ≡ n
int_eq-true (pos m) (pos n) h = ap pos (eqb-true m n h)
int_eq-true (negsuc m) (negsuc n) h = ap negsuc (eqb-true m n h)
int_eq-true (pos m) (negsuc n) h = cc
int_eq-true (negsuc m) (pos n) h = cc

pub int_eq-self : (n : ℤ) → int_eq n n ≡ true
int_eq-self (pos n) = eq-eqb n n refl
int_eq-self (negsuc n) = eq-eqb n n refl

pub same_value-true : (v w : Value) → same_value v w ≡ true → v ≡ w
same_value-true (Truth true) (Truth true) h = refl
same_value-true (Truth false) (Truth false) h = refl
same_value-true (Truth true) (Truth false) h = cc
same_value-true (Truth false) (Truth true) h = cc
same_value-true (Truth a) (Whole n) h = cc
same_value-true (Truth a) (Element j) h = cc
same_value-true (Whole m) (Truth b) h = cc
same_value-true (Whole m) (Whole n) h = ap Whole (int_eq-true m n h)
same_value-true (Whole m) (Element j) h = cc
same_value-true (Element i) (Truth b) h = cc
same_value-true (Element i) (Whole n) h = cc
same_value-true (Element i) (Element j) h = ap Element (eqb-true i j h)

pub same_value-self : (v : Value) → same_value v v ≡ true
same_value-self (Truth true) = refl
same_value-self (Truth false) = refl
same_value-self (Whole n) = int_eq-self n
same_value-self (Element i) = eq-eqb i i refl
