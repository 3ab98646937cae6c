-- A name stands for its term: putting in nothing changes no term that has a sort.
use Rattle.std.proofs.Common.{◌≡◌, List, [], ◌∷◌, ◌++◌, map, ap, ◌∙◌, refl, Bool, true, false, Option, Some, None}
use Rattle.std.specs.Prelude.{if◌then◌else◌}
use Rattle.std.proofs.lemmas.List.{map-append}
use Rattle.smt_meaning.specs.declared.values.Sort.{Sort}
use Rattle.smt_meaning.specs.declared.terms.Head.{Head}
use Rattle.smt_meaning.specs.declared.terms.Head.TheVariants.{Numeral, Theory, Symbol, Place}
use Rattle.smt_meaning.specs.Declaration.{Declaration}
use Rattle.smt_meaning.specs.Term.{Tree, Trees, node, none, more}
use Rattle.smt_meaning.specs.TreeShape.{put, put_all, put_at, is_among, with_tree, with_parts, with_all_parts}
use Rattle.smt_meaning.specs.Signature.{tree_sort, tree_sorts, with_sorts, cons_sort}
use Rattle.smt_laws.specs.ClauseLaws.{NameStandsForTerm}

put_head : (ds : List Declaration) (h : Head) (o : Option (List Sort)) (s : Sort) (us : Trees) → with_sorts ds h o ≡ Some s → ((ss : List Sort) → o ≡ Some ss → put_all none us ≡ us)
    → put_at none h (put_all none us) ≡ node h us
put_head ds h None s us e k = absurd (cc)
put_head ds (Numeral n) (Some ss) s us e k = ap (node (Numeral n)) (k ss refl)
put_head ds (Theory o) (Some ss) s us e k = ap (node (Theory o)) (k ss refl)
put_head ds (Symbol f) (Some ss) s us e k = ap (node (Symbol f)) (k ss refl)
put_head ds (Place j) (Some ss) s us e k = absurd (cc)

first_sort : (o : Option Sort) (r : Option (List Sort)) (ss : List Sort) → cons_sort o r ≡ Some ss → (s : Sort) × (rs : List Sort) × (o ≡ Some s) × (r ≡ Some rs)
first_sort None r ss e = absurd (cc)
first_sort (Some s) None ss e = absurd (cc)
first_sort (Some s) (Some rs) ss e = (s, rs, refl, refl)

mutual
  -- a term that has a sort has no parameters
  pub put_nothing : (ds : List Declaration) (t : Tree) (s : Sort) → tree_sort ds t ≡ Some s → put none t ≡ t
  put_nothing ds (node h us) s e = put_head ds h (tree_sorts ds us) s us e (λ ss k. put_nothing_all ds us ss k)

  put_nothing_all : (ds : List Declaration) (us : Trees) (ss : List Sort) → tree_sorts ds us ≡ Some ss → put_all none us ≡ us
  put_nothing_all ds none ss e = refl
  put_nothing_all ds (more u us) ss e = let p : (s : Sort) × (rs : List Sort) × (tree_sort ds u ≡ Some s) × (tree_sorts ds us ≡ Some rs) = first_sort (tree_sort ds u) (tree_sorts ds us) ss e in
      ap (λ t. more t (put_all none us)) (put_nothing ds u p.0 p.2) ∙ ap (more u) (put_nothing_all ds us p.1 p.3)

-- ---- the trees that were judged in it

argument_sorts : (ds : List Declaration) (h : Head) (o : Option (List Sort)) (s : Sort) → with_sorts ds h o ≡ Some s → (ss : List Sort) × (o ≡ Some ss)
argument_sorts ds h None s e = absurd (cc)
argument_sorts ds h (Some ss) s e = (ss, refl)

abbrev Unchanged : List Tree → Type 0
Unchanged ts = map (put none) ts ≡ ts

unchanged_with : (ts : List Tree) (t : Tree) → put none t ≡ t → Unchanged ts → Unchanged (with_tree ts t)
unchanged_with ts t e k = by_cases (is_among t ts)
  where
    by_cases : (b : Bool) → Unchanged (if b then ts else ts ++ t ∷ [])
    by_cases true = k
    by_cases false = map-append (put none) ts (t ∷ []) ∙ ap (λ us. us ++ put none t ∷ []) k ∙ ap (λ u. ts ++ u ∷ []) e

mutual
  unchanged_parts : (ds : List Declaration) (ts : List Tree) (t : Tree) (s : Sort) → tree_sort ds t ≡ Some s → Unchanged ts → Unchanged (with_parts ts t)
  unchanged_parts ds ts (node h us) s e k =
      let p : (ss : List Sort) × (tree_sorts ds us ≡ Some ss) = argument_sorts ds h (tree_sorts ds us) s e in
      unchanged_with (with_all_parts ts us) (node h us) (put_nothing ds (node h us) s e) (unchanged_all_parts ds ts us p.0 p.1 k)

  unchanged_all_parts : (ds : List Declaration) (ts : List Tree) (us : Trees) (ss : List Sort) → tree_sorts ds us ≡ Some ss → Unchanged ts → Unchanged (with_all_parts ts us)
  unchanged_all_parts ds ts none ss e k = k
  unchanged_all_parts ds ts (more u us) ss e k = let p : (s : Sort) × (rs : List Sort) × (tree_sort ds u ≡ Some s) × (tree_sorts ds us ≡ Some rs) = first_sort (tree_sort ds u) (tree_sorts ds us) ss e in
      unchanged_all_parts ds (with_parts ts u) us p.1 p.3 (unchanged_parts ds ts u p.0 p.2 k)

pub named_term : NameStandsForTerm
named_term ds id n a e = (put_nothing ds a.tree a.sort e, unchanged_parts ds [] a.tree a.sort e refl)
