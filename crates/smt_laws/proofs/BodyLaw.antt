-- The value of a tree with arguments put in for its parameters.
use Rattle.std.proofs.Common.{◌≡◌, ℕ, zero, suc, List, ap, refl, Option, Some, None, false, get_or}
use Rattle.smt_meaning.specs.declared.values.Value.{Value}
use Rattle.smt_meaning.specs.declared.values.Value.TheVariants.{Truth}
use Rattle.smt_meaning.specs.declared.terms.Head.{Head}
use Rattle.smt_meaning.specs.declared.terms.Head.TheVariants.{Numeral, Theory, Symbol, Place}
use Rattle.smt_meaning.specs.Declaration.{Declaration, Body}
use Rattle.smt_meaning.specs.Term.{Tree, Trees, node, none, more, Interpretation, apply_with, value_with, values_with}
use Rattle.smt_meaning.specs.TreeShape.{argument, put, put_all, put_at}
use Rattle.smt_meaning.specs.Sorts.{applied}
use Rattle.smt_meaning.specs.Environment.{declaration_value}

argument_value : (I : Interpretation) (ps : List Value) (ts : Trees) (k : ℕ) → value_with I ps (argument ts k) ≡ get_or (values_with I ps ts) k (Truth false)
argument_value I ps none k = refl
argument_value I ps (more t ts) zero = refl
argument_value I ps (more t ts) (suc k) = argument_value I ps ts k

put_at_value : (I : Interpretation) (ps : List Value) (ts : Trees) (h : Head) (us vs : Trees) → values_with I ps us ≡ values_with I (values_with I ps ts) vs
    → value_with I ps (put_at ts h us) ≡ apply_with I (values_with I ps ts) h (values_with I (values_with I ps ts) vs)
put_at_value I ps ts (Numeral n) us vs e = refl
put_at_value I ps ts (Theory o) us vs e = ap (apply_with I ps (Theory o)) e
put_at_value I ps ts (Symbol f) us vs e = ap (apply_with I ps (Symbol f)) e
put_at_value I ps ts (Place k) us vs e = argument_value I ps ts k

mutual
  pub put_value : (I : Interpretation) (ps : List Value) (ts : Trees) (t : Tree) → value_with I ps (put ts t) ≡ value_with I (values_with I ps ts) t
  put_value I ps ts (node h us) = put_at_value I ps ts h (put_all ts us) us (put_values I ps ts us)

  pub put_values : (I : Interpretation) (ps : List Value) (ts us : Trees) → values_with I ps (put_all ts us) ≡ values_with I (values_with I ps ts) us
  put_values I ps ts none = refl
  put_values I ps ts (more u us) = cc (put_value I ps ts u, put_values I ps ts us)

-- the tree of an application has the value of the function
pub applied_value : (I : Interpretation) (ps : List Value) (d : Declaration) (ts : Trees) → value_with I ps (applied d ts) ≡ declaration_value I d (values_with I ps ts)
applied_value I ps d ts = by_body d.body
  where
    by_body : (o : Option Body) → value_with I ps (elim o [ None ↦ node (Symbol d.id) ts | Some b ↦ put ts b.term ])
        ≡ (elim o [ None ↦ I d.id (values_with I ps ts) | Some b ↦ value_with I (values_with I ps ts) b.term ])
    by_body None = refl
    by_body (Some b) = put_value I ps ts b.term
