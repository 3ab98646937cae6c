-- Trees that were noted before are not noted again.
use Rattle.std.proofs.Common.{◌≡◌, List, [], ◌∷◌, ◌++◌, Bool, true, false, ap, sym, subst, ◌∙◌, refl, map}
use Rattle.std.specs.Prelude.{if◌then◌else◌}
use Rattle.smt_meaning.specs.declared.terms.Head.{Head}
use Rattle.smt_meaning.specs.declared.terms.Head.TheVariants.{Place, Numeral, Theory, Symbol}
use Rattle.smt_meaning.specs.Term.{Tree, Trees, node, none, more}
use Rattle.smt_meaning.specs.TreeShape.{tree_eq, is_among, with_tree, with_parts, with_all_parts, put, put_at, put_all, argument}
use Rattle.smt_meaning.specs.Sorts.{with_all}
use Rattle.smt_laws.specs.Again.{HasNoPlace, HaveNoPlace, NotedOnce, PutLeaves, Stored, AllStored, IsReady, AreReady, EachReady, RootsNoteAll}
use Rattle.smt_laws.proofs.Among.{Among}
use Rattle.smt_laws.proofs.StoredTrees.{either_way, EachStored, parts_again, all_parts_again, all_stored_after, stored_with_all, each_stored_after, each_longer, each_again}
use Rattle.smt_laws.proofs.SameTree.{tree_eq-true}

pub noted_once : NotedOnce
noted_once ts more' us = each_again (with_all ts us ++ more') us (each_longer us (with_all ts us) more' (each_stored_after ts us))

mutual
  put_same : (xs : Trees) (t : Tree) → HasNoPlace t → put xs t ≡ t
  put_same xs (node (Place k) us) h = absurd h
  put_same xs (node (Numeral n) us) h = ap (node (Numeral n)) (put_all_same xs us h)
  put_same xs (node (Theory o) us) h = ap (node (Theory o)) (put_all_same xs us h)
  put_same xs (node (Symbol f) us) h = ap (node (Symbol f)) (put_all_same xs us h)

  put_all_same : (xs us : Trees) → HaveNoPlace us → put_all xs us ≡ us
  put_all_same xs none h = refl
  put_all_same xs (more u us) h = ap (λ v. more v (put_all xs us)) (put_same xs u h.0) ∙ ap (more u) (put_all_same xs us h.1)

pub put_leaves : PutLeaves
put_leaves = put_same

-- ---- roots

noted_more : (xs : Trees) (ts l : List Tree) (r : Tree) → with_all ts (map (put xs) (l ++ r ∷ [])) ≡ with_parts (with_all ts (map (put xs) l)) (put xs r)
noted_more xs ts [] r = refl
noted_more xs ts (u ∷ l) r = noted_more xs (with_parts ts (put xs u)) l r

member : (xs : Trees) (ts l : List Tree) (r : Tree) → EachStored (map (put xs) l) ts → Among r l → Stored (put xs r) ts
member xs ts [] r w h = absurd (cc)
member xs ts (u ∷ l) r w h =
    either_way (tree_eq r u) (is_among r l) _ (λ p. subst (λ y. Stored (put xs y) ts) (sym (tree_eq-true r u p)) w.0) (λ k. member xs ts l r w.1 k) h

-- one root, where its parts are noted before it
root_last : (xs : Trees) (ts l : List Tree) (r : Tree) (all : List Tree) → all ≡ with_all ts (map (put xs) l) → with_parts all (put xs r) ≡ with_tree all (put xs r) → with_all ts (map (put xs) (with_tree l r)) ≡ with_tree all (put xs r)
root_last xs ts l r all e again = go (is_among r l) refl
  where
    stored : Among r l → Stored (put xs r) all
    stored m = subst (Stored (put xs r)) (sym e) (member xs (with_all ts (map (put xs) l)) l r (each_stored_after ts (map (put xs) l)) m)

    go : (b : Bool) → is_among r l ≡ b → with_all ts (map (put xs) (if b then l else (l ++ r ∷ []))) ≡ with_tree all (put xs r)
    go true m = sym e ∙ sym (parts_again all (put xs r) (stored m)) ∙ again
    go false m = noted_more xs ts l r ∙ ap (λ y. with_parts y (put xs r)) (sym e) ∙ again

again_node : (all : List Tree) (h : Head) (us : Trees) → AllStored us all → with_parts all (node h us) ≡ with_tree all (node h us)
again_node all h us w = ap (λ y. with_tree y (node h us)) (all_parts_again all us w)

stored_then : (all : List Tree) (t : Tree) → Stored t all → with_tree all t ≡ all
stored_then all (node h us) w = ap (λ b. if b then all else (all ++ node h us ∷ [])) w.0

node_same : (xs : Trees) (ts l : List Tree) (h : Head) (us : Trees) → ((vs : Trees) → put_at xs h vs ≡ node h vs)
    → with_all ts (map (put xs) (with_all_parts l us)) ≡ with_all_parts (with_all ts (map (put xs) l)) (put_all xs us)
    → with_all ts (map (put xs) (with_parts l (node h us))) ≡ with_parts (with_all ts (map (put xs) l)) (put xs (node h us))
node_same xs ts l h us plain e =
    let all : List Tree = with_all_parts (with_all ts (map (put xs) l)) (put_all xs us) in
    let kept : AllStored (put_all xs us) all = all_stored_after (with_all ts (map (put xs) l)) (put_all xs us) in
    let again : with_parts all (put xs (node h us)) ≡ with_tree all (put xs (node h us)) =
    ap (with_parts all) (plain (put_all xs us)) ∙ again_node all h (put_all xs us) kept ∙ ap (with_tree all) (sym (plain (put_all xs us))) in
    root_last xs ts (with_all_parts l us) (node h us) all (sym e) again
    ∙ ap (with_tree all) (plain (put_all xs us)) ∙ sym (ap (with_parts (with_all ts (map (put xs) l))) (plain (put_all xs us)))

mutual
  root_same : (xs : Trees) (ts l : List Tree) (r : Tree) → IsReady xs ts r → with_all ts (map (put xs) (with_parts l r)) ≡ with_parts (with_all ts (map (put xs) l)) (put xs r)
  root_same xs ts l (node (Place k) none) d =
      let w : Stored (argument xs k) (with_all ts (map (put xs) l)) = stored_with_all (argument xs k) (map (put xs) l) ts d.1 in
      let again : with_parts (with_all ts (map (put xs) l)) (argument xs k) ≡ with_tree (with_all ts (map (put xs) l)) (argument xs k) =
      parts_again (with_all ts (map (put xs) l)) (argument xs k) w ∙ sym (stored_then (with_all ts (map (put xs) l)) (argument xs k) w) in
      root_last xs ts l (node (Place k) none) (with_all ts (map (put xs) l)) refl again ∙ sym again
  root_same xs ts l (node (Place k) (more u us)) d = absurd (let e = d.0 in cc)
  root_same xs ts l (node (Numeral n) us) d = node_same xs ts l (Numeral n) us (λ vs. refl) (roots_same xs ts l us d)
  root_same xs ts l (node (Theory o) us) d = node_same xs ts l (Theory o) us (λ vs. refl) (roots_same xs ts l us d)
  root_same xs ts l (node (Symbol f) us) d = node_same xs ts l (Symbol f) us (λ vs. refl) (roots_same xs ts l us d)

  roots_same : (xs : Trees) (ts l : List Tree) (us : Trees) → AreReady xs ts us → with_all ts (map (put xs) (with_all_parts l us)) ≡ with_all_parts (with_all ts (map (put xs) l)) (put_all xs us)
  roots_same xs ts l none d = refl
  roots_same xs ts l (more u us) d = roots_same xs ts (with_parts l u) us d.1 ∙ ap (λ y. with_all_parts y (put_all xs us)) (root_same xs ts l u d.0)

each_same : (xs : Trees) (ts l rs : List Tree) → EachReady xs ts rs → with_all ts (map (put xs) (with_all l rs)) ≡ with_all (with_all ts (map (put xs) l)) (map (put xs) rs)
each_same xs ts l [] d = refl
each_same xs ts l (r ∷ rs) d = each_same xs ts (with_parts l r) rs d.1 ∙ ap (λ y. with_all y (map (put xs) rs)) (root_same xs ts l r d.0)

pub roots_note_all : RootsNoteAll
roots_note_all xs ts rs d = each_same xs ts [] rs d
