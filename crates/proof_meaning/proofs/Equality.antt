-- The clauses of equality and truth.
use Rattle.std.proofs.Common.{◌≡◌, ℕ, Bool, true, false, not, ◌||◌, List, [], ◌∷◌, ap, subst, sym, ◌∙◌, refl}
use Rattle.std.specs.Prelude.{pos, negsuc, IsTrue}
use Rattle.std.proofs.lemmas.Bool.{eq-eqb}
use Rattle.smt_meaning.specs.declared.values.Value.{Value}
use Rattle.smt_meaning.specs.declared.values.Value.TheVariants.{Truth, Whole, Element}
use Rattle.smt_meaning.specs.Term.{Tree, Interpretation, same_value, bool_eq, truth_of}
use Rattle.smt_meaning.specs.Clause.{some_true, value_at}
use Rattle.proof_meaning.specs.Proof.{are_same}
use Rattle.proof_meaning.specs.Rules.{sym_clause, trans_clause, truth_clause, both_clause, neither_clause}
use Rattle.proof_meaning.proofs.Facts.{IsTruthAt}
use Rattle.proof_meaning.proofs.Alike.{same_is}

itself : (v : Value) → same_value v v ≡ true
itself (Truth true) = refl
itself (Truth false) = refl
itself (Whole (pos n)) = eq-eqb n n refl
itself (Whole (negsuc n)) = eq-eqb n n refl
itself (Element n) = eq-eqb n n refl

pub same_true : (ts : List Tree) (I : Interpretation) (i : ℕ) → IsTrue (some_true ts I (are_same i i ∷ []))
same_true ts I i = ap (λ b. b || false) (itself (value_at ts I i))

pub sym_true : (ts : List Tree) (I : Interpretation) (i j : ℕ) → IsTrue (some_true ts I (sym_clause i j))
sym_true ts I i j = by (value_at ts I i) (value_at ts I j) (same_value (value_at ts I i) (value_at ts I j)) refl
  where
    by : (v w : Value) (b : Bool) → same_value v w ≡ b → (not (same_value v w) || (same_value w v || false)) ≡ true
    by v w false e = ap (λ x. not x || (same_value w v || false)) e
    by v w true e =
        ap (λ x. not x || (same_value w v || false)) e ∙ subst (λ x. (same_value w x || false) ≡ true) (sym (same_is v w e)) (ap (λ b. b || false) (itself w))

pub trans_true : (ts : List Tree) (I : Interpretation) (i j k : ℕ) → IsTrue (some_true ts I (trans_clause i j k))
trans_true ts I i j k = by (value_at ts I i) (value_at ts I j) (value_at ts I k) (same_value (value_at ts I i) (value_at ts I j)) refl
  where
    either : (b : Bool) → (not b || (b || false)) ≡ true
    either true = refl
    either false = refl

    by : (u v w : Value) (b : Bool) → same_value u v ≡ b → (not (same_value u v) || (not (same_value v w) || (same_value u w || false))) ≡ true
    by u v w false e = ap (λ x. not x || (not (same_value v w) || (same_value u w || false))) e
    by u v w true e =
        ap (λ x. not x || (not (same_value v w) || (same_value u w || false))) e
        ∙ subst (λ x. (not (same_value v w) || (same_value x w || false)) ≡ true) (sym (same_is u v e)) (either (same_value v w))

-- what holds of any two truth values holds of the values of two Bools
of_truths : (ts : List Tree) (I : Interpretation) (i j : ℕ) → IsTruthAt ts I i → IsTruthAt ts I j → (f : Value → Value → Bool) → ((a b : Bool) → f (Truth a) (Truth b) ≡ true) → f (value_at ts I i) (value_at ts I j) ≡ true
of_truths ts I i j a b f h = ap (λ v. f v (value_at ts I j)) a.1 ∙ ap (f (Truth a.0)) b.1 ∙ h a.0 b.0

pub truth_true : (ts : List Tree) (I : Interpretation) (i j : ℕ) → IsTruthAt ts I i → IsTruthAt ts I j → IsTrue (some_true ts I (truth_clause i j))
truth_true ts I i j a b = of_truths ts I i j a b (λ v w. not (same_value v w) || (not (truth_of v) || (truth_of w || false))) by
  where
    by : (a b : Bool) → (not (bool_eq a b) || (not a || (b || false))) ≡ true
    by true true = refl
    by true false = refl
    by false true = refl
    by false false = refl

pub both_true : (ts : List Tree) (I : Interpretation) (i j : ℕ) → IsTruthAt ts I i → IsTruthAt ts I j → IsTrue (some_true ts I (both_clause i j))
both_true ts I i j a b = of_truths ts I i j a b (λ v w. not (truth_of v) || (not (truth_of w) || (same_value v w || false))) by
  where
    by : (a b : Bool) → (not a || (not b || (bool_eq a b || false))) ≡ true
    by true true = refl
    by true false = refl
    by false true = refl
    by false false = refl

pub neither_true : (ts : List Tree) (I : Interpretation) (i j : ℕ) → IsTruthAt ts I i → IsTruthAt ts I j → IsTrue (some_true ts I (neither_clause i j))
neither_true ts I i j a b = of_truths ts I i j a b (λ v w. truth_of v || (truth_of w || (same_value v w || false))) by
  where
    by : (a b : Bool) → (a || (b || (bool_eq a b || false))) ≡ true
    by true true = refl
    by true false = refl
    by false true = refl
    by false false = refl
