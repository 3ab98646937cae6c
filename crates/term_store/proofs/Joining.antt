-- Trees that join a list, and then another, join the other as they come.
use Rattle.std.proofs.Common.{◌≡◌, List, [], ◌∷◌, ◌++◌, Bool, true, false, ap, sym, subst, ◌∙◌, refl}
use Rattle.std.specs.Prelude.{if◌then◌else◌}
use Rattle.smt_meaning.specs.Term.{Tree, Trees, node, none, more}
use Rattle.smt_meaning.specs.TreeShape.{tree_eq, is_among, with_tree, with_parts, with_all_parts}
use Rattle.smt_meaning.specs.Sorts.{with_all}
use Rattle.smt_laws.specs.Again.{Stored}
use Rattle.smt_laws.proofs.Among.{Among}
use Rattle.smt_laws.proofs.StoredTrees.{either_way, EachStored, parts_again, all_parts_again, all_stored_after, each_stored_after}
use Rattle.smt_laws.proofs.SameTree.{tree_eq-true}

-- ---- one tree more

pub with_all-push : (ts us : List Tree) (t : Tree) → with_all ts (us ++ t ∷ []) ≡ with_parts (with_all ts us) t
with_all-push ts [] t = refl
with_all-push ts (u ∷ us) t = with_all-push (with_parts ts u) us t

pub with_all-append : (ts us vs : List Tree) → with_all ts (us ++ vs) ≡ with_all (with_all ts us) vs
with_all-append ts [] vs = refl
with_all-append ts (u ∷ us) vs = with_all-append (with_parts ts u) us vs

member : (ts us : List Tree) (t : Tree) → EachStored us ts → Among t us → Stored t ts
member ts [] t w h = absurd cc
member ts (u ∷ us) t w h =
    either_way (tree_eq t u) (is_among t us) (Stored t ts) (λ p. subst (λ x. Stored x ts) (sym (tree_eq-true t u p)) w.0) (λ k. member ts us t w.1 k) h

tree_last : (ts us : List Tree) (t : Tree) (all : List Tree) → all ≡ with_all ts us → with_parts all t ≡ with_tree all t → with_all ts (with_tree us t) ≡ with_tree all t
tree_last ts us t all e again = go (is_among t us) refl
  where
    stored : Among t us → Stored t all
    stored m = subst (Stored t) (sym e) (member (with_all ts us) us t (each_stored_after ts us) m)

    go : (b : Bool) → is_among t us ≡ b → with_all ts (if b then us else us ++ t ∷ []) ≡ with_tree all t
    go true m = sym e ∙ sym (parts_again all t (stored m)) ∙ again
    go false m = with_all-push ts us t ∙ ap (λ xs. with_parts xs t) (sym e) ∙ again

mutual
  joined_parts : (ts us : List Tree) (t : Tree) → with_all ts (with_parts us t) ≡ with_parts (with_all ts us) t
  joined_parts ts us (node h vs) =
      let all : List Tree = with_all_parts (with_all ts us) vs in
      tree_last ts (with_all_parts us vs) (node h vs) all (sym (joined_all_parts ts us vs)) (ap (λ xs. with_tree xs (node h vs)) (all_parts_again all vs (all_stored_after (with_all ts us) vs)))

  joined_all_parts : (ts us : List Tree) (vs : Trees) → with_all ts (with_all_parts us vs) ≡ with_all_parts (with_all ts us) vs
  joined_all_parts ts us none = refl
  joined_all_parts ts us (more v vs) = joined_all_parts ts (with_parts us v) vs ∙ ap (λ xs. with_all_parts xs vs) (joined_parts ts us v)

pub joined : (ts us vs : List Tree) → with_all ts (with_all us vs) ≡ with_all (with_all ts us) vs
joined ts us [] = refl
joined ts us (v ∷ vs) = joined ts (with_parts us v) vs ∙ ap (λ xs. with_all xs vs) (joined_parts ts us v)
