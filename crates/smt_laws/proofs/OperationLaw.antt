-- The tree of an operator that is applied has the operator's sort and value, and is linear.
use Rattle.std.proofs.Common.{◌≡◌, List, [], ◌∷◌, All, refl, subst, Option, Some, None}
use Rattle.std.specs.Prelude.{IsTrue}
use Rattle.std.proofs.lemmas.List.Elements.{All-head, All-tail}
use Rattle.smt_meaning.specs.declared.values.Sort.{Sort}
use Rattle.smt_meaning.specs.declared.terms.Head.{Head}
use Rattle.smt_meaning.specs.declared.terms.Head.TheVariants.{Numeral, Theory, Symbol, Place}
use Rattle.smt_meaning.specs.Declaration.{Declaration}
use Rattle.smt_meaning.specs.Term.{Tree, Trees, node, none, more}
use Rattle.smt_meaning.specs.TreeShape.{is_linear, operation}
use Rattle.smt_meaning.specs.Signature.{head_sort, cons_sort, with_sorts, tree_sort, tree_sorts}
use Rattle.smt_meaning.specs.Sorts.{Typed, trees_of}
use Rattle.smt_laws.specs.TermLaws.{OperationHasSort, OperationHasValue, OperationIsLinear}
use Rattle.smt_laws.proofs.PlacesLaw.{HasSort, HaveSorts, head_at, closed_sort}
use Rattle.smt_laws.proofs.Each.{EachOf}
use Rattle.smt_laws.proofs.Shapes.{Linear, operation_linear}
use Rattle.smt_laws.proofs.EnvironmentLaw.{operation_value}
use Rattle.smt_laws.proofs.SortLawsTermsLaw.{operation_sort}

open_head : (ds : List Declaration) (h : Head) (ss : List Sort) (s : Sort) → head_sort ds h ss ≡ Some s → head_at ds [] h ss ≡ Some s
open_head ds (Numeral n) ss s e = e
open_head ds (Theory o) ss s e = e
open_head ds (Symbol f) ss s e = e
open_head ds (Place k) ss s e = e

of_sorts : (ds : List Declaration) (h : Head) (us : Trees) (o : Option (List Sort)) (s : Sort) → with_sorts ds h o ≡ Some s → ((ss : List Sort) → o ≡ Some ss → HaveSorts ds [] us ss) → HasSort ds [] (node h us) s
of_sorts ds h us None s e k = absurd (cc)
of_sorts ds h us (Some ss) s e k = (ss, (k ss refl, open_head ds h ss s e))

of_first : (ds : List Declaration) (u : Tree) (us : Trees) (o : Option Sort) (r : Option (List Sort)) (ss : List Sort) → cons_sort o r ≡ Some ss
    → ((s : Sort) → o ≡ Some s → HasSort ds [] u s) → ((rs : List Sort) → r ≡ Some rs → HaveSorts ds [] us rs) → HaveSorts ds [] (more u us) ss
of_first ds u us None r ss e f g = absurd (cc)
of_first ds u us (Some s) None ss e f g = absurd (cc)
of_first ds u us (Some s) (Some rs) ss e f g = subst (HaveSorts ds [] (more u us)) (some_list (s ∷ rs) ss e) (f s refl, g rs refl)
  where
    some_list : (xs ys : List Sort) → Some xs ≡ Some ys → xs ≡ ys
    some_list xs ys h = cc

mutual
  open_sort : (ds : List Declaration) (t : Tree) (s : Sort) → tree_sort ds t ≡ Some s → HasSort ds [] t s
  open_sort ds (node h us) s e = of_sorts ds h us (tree_sorts ds us) s e (λ ss k. open_sorts ds us ss k)

  open_sorts : (ds : List Declaration) (us : Trees) (ss : List Sort) → tree_sorts ds us ≡ Some ss → HaveSorts ds [] us ss
  open_sorts ds none [] e = tt
  open_sorts ds none (s ∷ ss) e = absurd (cc)
  open_sorts ds (more u us) ss e = of_first ds u us (tree_sort ds u) (tree_sorts ds us) ss e (λ s k. open_sort ds u s k) (λ rs k. open_sorts ds us rs k)

pub operation_has_sort : OperationHasSort
operation_has_sort ds o us ss s e k f = closed_sort ds (operation o us) s (operation_sort ds [] o us ss s (open_sorts ds us ss e) k f)

pub operation_has_value : OperationHasValue
operation_has_value I o us = operation_value I [] o us

each_linear : (ts : List Typed) → All (λ (a : Typed). IsTrue (is_linear a.tree)) ts → EachOf Linear (trees_of ts)
each_linear [] h = tt
each_linear (a ∷ ts) h =
    (All-head (λ (b : Typed). IsTrue (is_linear b.tree)) a ts h, each_linear ts (All-tail (λ (b : Typed). IsTrue (is_linear b.tree)) a ts h))

pub operation_is_linear : OperationIsLinear
operation_is_linear o ts n k h = operation_linear o ts n k (each_linear ts h)
