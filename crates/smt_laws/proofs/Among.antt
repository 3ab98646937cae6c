-- What stands in a list of trees, and still does when others join it.
use Rattle.std.proofs.Common.{◌≡◌, List, [], ◌∷◌, ◌++◌, map, ap, sym, subst, ◌∙◌, refl, Bool, true, false, ◌||◌}
use Rattle.std.specs.Prelude.{if◌then◌else◌}
use Rattle.smt_meaning.specs.Term.{Tree, Trees, node, none, more}
use Rattle.smt_meaning.specs.TreeShape.{tree_eq, is_among, with_tree, with_parts, with_all_parts}
use Rattle.smt_meaning.specs.Sorts.{with_all}
use Rattle.smt_laws.proofs.SameTree.{tree_eq-true, tree_eq-self}

abbrev pub Among : Tree → List Tree → Type 0
Among t ts = is_among t ts ≡ true

or_true : (b : Bool) → (b || true) ≡ true
or_true true = refl
or_true false = refl

pub among_first : (t : Tree) (us : List Tree) → Among t (t ∷ us)
among_first t us = ap (λ b. b || is_among t us) (tree_eq-self t)

pub among_one : (t : Tree) → Among t (t ∷ [])
among_one t = among_first t []

pub among_rest : (t u : Tree) (us : List Tree) → Among t us → Among t (u ∷ us)
among_rest t u us h = ap (λ b. tree_eq t u || b) h ∙ or_true (tree_eq t u)

-- it is the first, or among the others
among_cases : (P : Tree → Type 0) (t u : Tree) (us : List Tree) → P u → (Among t us → P t) → Among t (u ∷ us) → P t
among_cases P t u us h k e = go (tree_eq t u) refl e
  where
    go : (b : Bool) → tree_eq t u ≡ b → (b || is_among t us) ≡ true → P t
    go true p q = subst P (sym (tree_eq-true t u p)) h
    go false p q = k q

pub among_append : (t : Tree) (ts us : List Tree) → Among t ts → Among t (ts ++ us)
among_append t [] us h = absurd (cc)
among_append t (x ∷ ts) us h = among_cases (λ y. Among y (x ∷ ts ++ us)) t x ts (among_first x (ts ++ us)) (λ k. among_rest t x (ts ++ us) (among_append t ts us k)) h

pub among_last : (t : Tree) (us : List Tree) → Among t (us ++ t ∷ [])
among_last t [] = among_one t
among_last t (u ∷ us) = among_rest t u (us ++ t ∷ []) (among_last t us)

kept_with_tree : (t : Tree) (ts : List Tree) (u : Tree) → Among t ts → Among t (with_tree ts u)
kept_with_tree t ts u h = go (is_among u ts)
  where
    go : (b : Bool) → Among t (if b then ts else ts ++ u ∷ [])
    go true = h
    go false = among_append t ts (u ∷ []) h

mutual
  pub kept_with_parts : (t : Tree) (ts : List Tree) (u : Tree) → Among t ts → Among t (with_parts ts u)
  kept_with_parts t ts (node h us) k = kept_with_tree t (with_all_parts ts us) (node h us) (kept_with_all_parts t ts us k)

  pub kept_with_all_parts : (t : Tree) (ts : List Tree) (us : Trees) → Among t ts → Among t (with_all_parts ts us)
  kept_with_all_parts t ts none k = k
  kept_with_all_parts t ts (more u us) k = kept_with_all_parts t (with_parts ts u) us (kept_with_parts t ts u k)

among_with_tree : (t : Tree) (us : List Tree) → Among t (with_tree us t)
among_with_tree t us = go (is_among t us) refl
  where
    go : (b : Bool) → is_among t us ≡ b → Among t (if b then us else us ++ t ∷ [])
    go true e = e
    go false e = among_last t us

pub among_parts : (t : Tree) (us : List Tree) → Among t (with_parts us t)
among_parts (node h ts) us = among_with_tree (node h ts) (with_all_parts us ts)

pub kept_with_all : (t : Tree) (ts us : List Tree) → Among t ts → Among t (with_all ts us)
kept_with_all t ts [] h = h
kept_with_all t ts (u ∷ us) h = kept_with_all t (with_parts ts u) us (kept_with_parts t ts u h)

pub among_with_all : (t : Tree) (ts us : List Tree) → Among t us → Among t (with_all ts us)
among_with_all t ts [] h = absurd (cc)
among_with_all t ts (u ∷ us) h =
    among_cases (λ y. Among y (with_all (with_parts ts u) us)) t u us (kept_with_all u (with_parts ts u) us (among_parts u ts)) (λ k. among_with_all t (with_parts ts u) us k) h

pub among_map : (f : Tree → Tree) (t : Tree) (ts : List Tree) → Among t ts → Among (f t) (map f ts)
among_map f t [] h = absurd (cc)
among_map f t (u ∷ us) h = among_cases (λ y. Among (f y) (map f (u ∷ us))) t u us (among_first (f u) (map f us)) (λ k. among_rest (f t) (f u) (map f us) (among_map f t us k)) h
