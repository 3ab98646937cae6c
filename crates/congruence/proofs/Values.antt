-- Values of terms, and of points.
use Rattle.std.proofs.Common.{◌≡◌, ℕ, suc, ◌+◌, Bool, true, false, List, refl, sym, ap, ◌∙◌, arith}
use Rattle.std.specs.Prelude.{IsTrue}
use Rattle.literals.specs.Signed.{sign}
use Rattle.smt_meaning.specs.declared.values.Sort.TheVariants.{Bool as Truths}
use Rattle.smt_meaning.specs.declared.values.Value.{Value}
use Rattle.smt_meaning.specs.declared.values.Value.TheVariants.{Truth, Whole, Element}
use Rattle.smt_meaning.specs.Term.{Tree, tree_at, Interpretation, value, truth_of, same_value}
use Rattle.smt_meaning.specs.Interpretation.{has_sort}
use Rattle.smt_laws.proofs.SameValue.{same_value-self}
use Rattle.point_closure.specs.Closure.{with_truths}
use Rattle.point_closure.specs.Laws.{point_value}

-- ---- the same value

pub same_value-false : (v w : Value) → same_value v w ≡ false → v ≡ w → ⊥
same_value-false v w h e = clash (ap (same_value v) (sym e) ∙ same_value-self v) h
  where
    clash : same_value v w ≡ true → same_value v w ≡ false → ⊥
    clash a b = cc

-- ---- truths

pub sign-true : (s b : Bool) → sign s b ≡ true → b ≡ s
sign-true true true h = refl
sign-true true false h = cc
sign-true false true h = cc
sign-true false false h = refl

pub truth_value : (v : Value) → IsTrue (has_sort v Truths) → v ≡ Truth (truth_of v)
truth_value (Truth b) h = refl
truth_value (Whole n) h = cc
truth_value (Element e) h = cc

-- ---- points

pub point_of_term : (ts : List Tree) (I : Interpretation) (t : ℕ) → point_value ts I (t + 2) ≡ value I (tree_at ts t)
point_of_term ts I t = ap (λ n. value I (tree_at (with_truths ts) n)) (let e : t + 2 ≡ suc (suc t) = omega arith in e)
