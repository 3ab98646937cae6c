-- What each tree of a list has, and still each has when others with their parts join it.
use Rattle.std.proofs.Common.{◌≡◌, List, [], ◌∷◌, ◌++◌, All, sym, subst, refl, Bool, true, false, ◌||◌}
use Rattle.std.specs.Prelude.{if◌then◌else◌}
use Rattle.std.proofs.lemmas.List.Elements.{All-nil, All-cons}
use Rattle.smt_meaning.specs.declared.terms.Head.{Head}
use Rattle.smt_meaning.specs.Term.{Tree, Trees, node, none, more}
use Rattle.smt_meaning.specs.TreeShape.{tree_eq, is_among, with_tree, with_parts, with_all_parts}
use Rattle.smt_meaning.specs.Sorts.{with_all}
use Rattle.smt_laws.proofs.SameTree.{tree_eq-true}
use Rattle.smt_laws.proofs.Among.{Among}

abbrev pub Each : (Tree → Type 0) → List Tree → Type 0
Each P [] = Unit {0}
Each P (t ∷ ts) = P t × Each P ts

abbrev pub EachOf : (Tree → Type 0) → Trees → Type 0
EachOf P none = Unit {0}
EachOf P (more t ts) = P t × EachOf P ts

-- the arguments of a tree have what the tree has
abbrev pub Descends : (Tree → Type 0) → Type 0
Descends P = (h : Head) (us : Trees) → P (node h us) → EachOf P us

pub each_all : (P : Tree → Type 0) (ts : List Tree) → Each P ts → All P ts
each_all P [] h = All-nil P
each_all P (t ∷ ts) h = All-cons P t ts h.0 (each_all P ts h.1)

pub each_among : (P : Tree → Type 0) (t : Tree) (ts : List Tree) → Each P ts → Among t ts → P t
each_among P t [] h a = absurd (cc)
each_among P t (u ∷ us) h a = go (λ k. each_among P t us h.1 k) (tree_eq t u) refl a
  where
    go : (Among t us → P t) → (b : Bool) → tree_eq t u ≡ b → (b || is_among t us) ≡ true → P t
    go rest true e k = subst P (sym (tree_eq-true t u e)) h.0
    go rest false e k = rest k

pub of_among : (P : Tree → Type 0) (us : Trees) (ts : List Tree) → Each P ts → EachOf (λ u. Among u ts) us → EachOf P us
of_among P none ts h a = tt
of_among P (more u us) ts h a = (each_among P u ts h a.0, of_among P us ts h a.1)

each_more : (P : Tree → Type 0) (ts : List Tree) (t : Tree) → Each P ts → P t → Each P (ts ++ t ∷ [])
each_more P [] t h k = (k, tt)
each_more P (u ∷ ts) t h k = (h.0, each_more P ts t h.1 k)

each_with : (P : Tree → Type 0) (ts : List Tree) (t : Tree) → Each P ts → P t → Each P (with_tree ts t)
each_with P ts t h k = go (is_among t ts)
  where
    go : (b : Bool) → Each P (if b then ts else ts ++ t ∷ [])
    go true = h
    go false = each_more P ts t h k

mutual
  pub each_parts : (P : Tree → Type 0) (down : Descends P) (ts : List Tree) (t : Tree) → Each P ts → P t → Each P (with_parts ts t)
  each_parts P down ts (node h us) e k = each_with P (with_all_parts ts us) (node h us) (each_all_parts P down ts us e (down h us k)) k

  each_all_parts : (P : Tree → Type 0) (down : Descends P) (ts : List Tree) (us : Trees) → Each P ts → EachOf P us → Each P (with_all_parts ts us)
  each_all_parts P down ts none e k = e
  each_all_parts P down ts (more u us) e k = each_all_parts P down (with_parts ts u) us (each_parts P down ts u e k.0) k.1

pub each_with_all : (P : Tree → Type 0) (down : Descends P) (ts us : List Tree) → Each P ts → Each P us → Each P (with_all ts us)
each_with_all P down ts [] e k = e
each_with_all P down ts (u ∷ us) e k = each_with_all P down (with_parts ts u) us (each_parts P down ts u e k.0) k.1
