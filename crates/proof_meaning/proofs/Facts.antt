-- What the rules of proofs ask of the values of a proof's terms.
use Rattle.std.proofs.Common.{◌≡◌, ℕ, Bool, true, false, List, map, Some, ap, sym, subst, ◌∙◌, refl}
use Rattle.std.specs.Prelude.{IsTrue, ℤ}
use Rattle.smt_meaning.specs.declared.values.Sort.{Sort}
use Rattle.smt_meaning.specs.declared.values.Sort.TheVariants.{Bool as Truths, Int as Ints}
use Rattle.smt_meaning.specs.declared.values.Value.{Value}
use Rattle.smt_meaning.specs.declared.values.Value.TheVariants.{Truth as IsTruth, Whole, Element}
use Rattle.smt_meaning.specs.declared.nodes.Node.{Node}
use Rattle.smt_meaning.specs.Declaration.{Declaration}
use Rattle.smt_meaning.specs.Interpretation.{Interprets, has_sort}
use Rattle.smt_meaning.specs.Term.{Tree, Interpretation, tree_at, number_of}
use Rattle.smt_meaning.specs.Clause.{value_at}
use Rattle.smt_meaning.specs.Linear.{form_value, linear_form}
use Rattle.proof_meaning.specs.Proof.{term_sort, meant, AreTerms, IsBoolAt, IsIntAt}
use Rattle.smt_laws.proofs.SortLaw.{value_fits_sort}
use Rattle.proof_meaning.proofs.Meant.{meant_sort, meant_value_at}
use Rattle.proof_meaning.proofs.Folding.{form_is_value}
use Rattle.proof_meaning.proofs.Terms.{IsReadable, readable_at}

abbrev pub IsTruthAt : List Tree → Interpretation → ℕ → Type 0
IsTruthAt ts I i = (b : Bool) × (value_at ts I i ≡ IsTruth b)

-- the values are those of the trees that the terms stand for
pub record Facts (ds : List Declaration) (ts : List Tree) (I : Interpretation) : Type 0 where
  pub number : (i : ℕ) → IsIntAt ds ts i → number_of (value_at (map meant ts) I i) ≡ form_value (map meant ts) I (linear_form ts (tree_at ts i))
  pub bool : (i : ℕ) → IsBoolAt ds ts i → IsTruthAt (map meant ts) I i
  pub int : (i : ℕ) → IsIntAt ds ts i → (n : ℤ) × (value_at (map meant ts) I i ≡ Whole n)

bool_value : (v : Value) → IsTrue (has_sort v Truths) → (b : Bool) × (v ≡ IsTruth b)
bool_value (IsTruth b) h = (b, refl)
bool_value (Whole n) h = let e : false ≡ true = h in cc
bool_value (Element k) h = let e : false ≡ true = h in cc

whole_value : (v : Value) → IsTrue (has_sort v Ints) → (n : ℤ) × (v ≡ Whole n)
whole_value (Whole n) h = (n, refl)
whole_value (IsTruth b) h = let e : false ≡ true = h in cc
whole_value (Element k) h = let e : false ≡ true = h in cc

sorted_value : (ds : List Declaration) (ts : List Tree) (I : Interpretation) → Interprets ds I → (i : ℕ) (s : Sort) → term_sort ds (tree_at ts i) ≡ Some s
    → IsTrue (has_sort (value_at (map meant ts) I i) s)
sorted_value ds ts I int i s e =
    subst (λ v. IsTrue (has_sort v s)) (sym (meant_value_at ts I i)) (value_fits_sort ds I (meant (tree_at ts i)) s int (meant_sort ds (tree_at ts i) s e))

pub facts : (ds : List Declaration) (ns : List Node) (ts : List Tree) (I : Interpretation) → Interprets ds I → AreTerms ds ns ts → Facts ds ts I
facts ds ns ts I int terms = record {
  number = λ i h. (
      let r : IsReadable ds ts (tree_at ts i) = readable_at ds ns ts terms i h.0 in
      ap number_of (meant_value_at ts I i) ∙ form_is_value ds ts I (tree_at ts i) h.1 r.linear r.leaves_are
      );
  bool = λ i h. bool_value (value_at (map meant ts) I i) (sorted_value ds ts I int i Truths h.1);
  int = λ i h. whole_value (value_at (map meant ts) I i) (sorted_value ds ts I int i Ints h.1);
}
