-- A list of different terms, each after its arguments, that joins the first of them again.
use Rattle.std.proofs.Common.{◌≡◌, ℕ, zero, suc, ◌+◌, ◌<◌, ◌≤◌, List, [], ◌∷◌, ◌++◌, length, get_or, take, drop, map, All, ap, sym, subst, ◌∙◌, refl, arith, append_assoc, append-nil, true}
use Rattle.std.specs.Prelude.{nat_lt, nat_eq}
use Rattle.std.proofs.lemmas.List.{get_or_append_left, length_push, length-append, take_at, take-append-drop, map-append}
use Rattle.std.proofs.lemmas.List.Elements.{All-head, All-tail}
use Rattle.std.proofs.Math.Seq.{get_or-append_seam}
use Rattle.std.proofs.lemmas.Bool.{and_parts}
use Rattle.smt_meaning.specs.declared.nodes.Node.{Node}
use Rattle.smt_meaning.specs.declared.terms.Head.{Head}
use Rattle.smt_meaning.specs.declared.terms.Head.TheVariants.{Numeral, Theory, Symbol, Place}
use Rattle.smt_meaning.specs.Term.{Tree, Trees, node, more, tree_at}
use Rattle.smt_meaning.specs.TreeShape.{put, put_at, put_all, with_parts}
use Rattle.smt_meaning.specs.Nodes.{pick, tree_of, trees_from, trees_of, AreNodes, AreNodesAfter}
use Rattle.smt_meaning.specs.Sorts.{with_all}
use Rattle.term_store.specs.Terms.{AreDifferent, AreComplete, IsNew}
use Rattle.term_store.proofs.NodeLemmas.{length-trees_of, trees_from-append, trees_of-push, trees_from-keeps, trees_of-take}
use Rattle.term_store.proofs.PlaceLemmas.{with_tree_new}
use Rattle.term_store.proofs.PartLemmas.{nodes_complete, parts_with}
use Rattle.smt_sorts.specs.Workshop.{AreOwn}
use Rattle.elaborate.specs.Own.{is_own_head, is_own_node, are_own_nodes}

-- ---- all terms join again

-- the trees that these nodes add
abbrev after : List Tree → List Node → List Tree
after c [] = []
after c (n ∷ ns) = tree_of c n ∷ after (c ++ tree_of c n ∷ []) ns

joins : (c : List Tree) (ns : List Node) → trees_from c ns ≡ c ++ after c ns
joins c [] = sym (append-nil c)
joins c (n ∷ ns) = joins (c ++ tree_of c n ∷ []) ns ∙ append_assoc c (tree_of c n ∷ []) (after (c ++ tree_of c n ∷ []) ns)

first_nodes : (pre ns : List Node) → AreNodes (pre ++ ns) → AreNodes pre
first_nodes pre ns a k d h =
    subst (λ (n : Node). All (λ i. i < k) n.arguments) (get_or_append_left pre ns d k h)
    (a k d (omega (arith, length-append pre ns)))

seam_node : (pre ns : List Node) (n : Node) → AreNodes (pre ++ n ∷ ns) → All (λ i. i < length pre) n.arguments
seam_node pre ns n a =
    subst (λ (m : Node). All (λ i. i < length pre) m.arguments) (get_or-append_seam pre n ns n)
    (a (length pre) n (let size : length (pre ++ n ∷ ns) ≡ length pre + length (n ∷ ns) = length-append pre (n ∷ ns) in omega arith))

seam_new : (pre ns : List Node) (n : Node) → AreDifferent (trees_of (pre ++ n ∷ ns)) → IsNew (trees_of pre) (tree_of (trees_of pre) n)
seam_new pre ns n d i h e =
    let c : List Tree = trees_of pre in
    let t : Tree = tree_of c n in
    let all : List Tree = trees_of (pre ++ n ∷ ns) in
    let whole : all ≡ trees_from (c ++ t ∷ []) ns = trees_from-append [] pre (n ∷ ns) in
    let size : length (c ++ t ∷ []) ≡ length c + 1 = length_push c t in
    let long : length all ≡ length pre + length (n ∷ ns) = length-trees_of (pre ++ n ∷ ns) ∙ length-append pre (n ∷ ns) in
    let short : length c ≡ length pre = length-trees_of pre in
    let at_i : tree_at all i ≡ tree_at c i = ap (λ us. tree_at us i) whole ∙ trees_from-keeps (c ++ t ∷ []) ns i _ (omega arith) ∙ get_or_append_left c (t ∷ []) _ i h in
    let at_end : tree_at all (length c) ≡ t = ap (λ us. tree_at us (length c)) whole ∙ trees_from-keeps (c ++ t ∷ []) ns (length c) _ (omega arith) ∙ get_or-append_seam c t [] _ in
    d i (length c) h (omega arith) (at_i ∙ e ∙ sym at_end)

goes : (pre ns : List Node) → AreNodes (pre ++ ns) → AreDifferent (trees_of (pre ++ ns)) → with_all (trees_of pre) (after (trees_of pre) ns) ≡ trees_of (pre ++ ns)
goes pre [] a d = ap trees_of (sym (append-nil pre))
goes pre (n ∷ ns) a d =
    let c : List Tree = trees_of pre in
    let t : Tree = tree_of c n in
    let before : AreNodes pre = first_nodes pre (n ∷ ns) a in
    let below : All (λ i. i < length c) n.arguments = subst (λ m. All (λ i. i < m) n.arguments) (sym (length-trees_of pre)) (seam_node pre ns n a) in
    let one : with_parts c t ≡ c ++ t ∷ [] = parts_with c n.head n.arguments (nodes_complete pre before) below ∙ with_tree_new t c (seam_new pre ns n d) in
    let pushed : trees_of (pre ++ n ∷ []) ≡ c ++ t ∷ [] = trees_of-push pre n in
    let same : (pre ++ n ∷ []) ++ ns ≡ pre ++ n ∷ ns = append_assoc pre (n ∷ []) ns in
    ap (λ us. with_all us (after (c ++ t ∷ []) ns)) one
    ∙ ap (λ us. with_all us (after us ns)) (sym pushed)
    ∙ goes (pre ++ n ∷ []) ns (subst AreNodes (sym same) a) (subst (λ ms. AreDifferent (trees_of ms)) (sym same) d)
    ∙ ap trees_of same

with_all-append : (ts us vs : List Tree) → with_all ts (us ++ vs) ≡ with_all (with_all ts us) vs
with_all-append ts [] vs = refl
with_all-append ts (u ∷ us) vs = with_all-append (with_parts ts u) us vs

pub stays : (c us : List Tree) → ((i : ℕ) → i < length us → with_parts c (tree_at us i) ≡ c) → with_all c us ≡ c
stays c [] h = refl
stays c (u ∷ us) h = ap (λ ts. with_all ts us) (h 0 (omega arith)) ∙ stays c us (λ i k. h (suc i) (omega arith))

pub joins_again : (ns : List Node) (ts first rest : List Tree) → ts ≡ trees_of ns → ts ≡ first ++ rest → AreNodes ns → AreDifferent ts → with_all first ts ≡ ts
joins_again ns ts first rest e f a d =
    let pre : List Node = take (length first) ns in
    let post : List Node = drop (length first) ns in
    let both : pre ++ post ≡ ns = take-append-drop (length first) ns in
    let size : length first ≤ length ns = omega (arith, length-trees_of ns, ap length e, ap length f, length-append first rest) in
    let begins : trees_of pre ≡ first = trees_of-take (length first) ns size ∙ ap (take (length first)) (sym e ∙ f) ∙ take_at first rest (length first) refl in
    let nodes : AreNodes (pre ++ post) = subst AreNodes (sym both) a in
    let different : AreDifferent (trees_of (pre ++ post)) = subst AreDifferent (e ∙ ap trees_of (sym both)) d in
    let complete : AreComplete first = subst AreComplete begins (nodes_complete pre (first_nodes pre post nodes)) in
    let whole : ts ≡ first ++ after first post =
    e ∙ ap trees_of (sym both) ∙ trees_from-append [] pre post ∙ ap (λ us. trees_from us post) begins ∙ joins first post in
    ap (with_all first) whole
    ∙ with_all-append first first (after first post)
    ∙ ap (λ us. with_all us (after first post)) (stays first first complete)
    ∙ ap (λ us. with_all us (after us post)) (sym begins)
    ∙ goes pre post nodes different
    ∙ ap trees_of both
    ∙ sym e

-- ---- the parameters put in for themselves

pub same_at : (f : Tree → Tree) (ts : List Tree) (i : ℕ) → map f ts ≡ ts → i < length ts → f (tree_at ts i) ≡ tree_at ts i
same_at f [] i e h = absurd (omega arith)
same_at f (t ∷ ts) zero e h = head_is (f t) t (map f ts) ts e
  where
    head_is : (a b : Tree) (as' bs : List Tree) → a ∷ as' ≡ b ∷ bs → a ≡ b
    head_is a b as' bs k = cc
same_at f (t ∷ ts) (suc i) e h = same_at f ts i (tail_is (f t) t (map f ts) ts e) (omega arith)
  where
    tail_is : (a b : Tree) (as' bs : List Tree) → a ∷ as' ≡ b ∷ bs → as' ≡ bs
    tail_is a b as' bs k = cc

same_picks : (xs : Trees) (ts : List Tree) (is : List ℕ) → map (put xs) ts ≡ ts → All (λ i. i < length ts) is → put_all xs (pick ts is) ≡ pick ts is
same_picks xs ts [] e h = refl
same_picks xs ts (i ∷ is) e h =
    ap (λ t. more t (put_all xs (pick ts is))) (same_at (put xs) ts i e (All-head (λ j. j < length ts) i is h))
    ∙ ap (more (tree_at ts i)) (same_picks xs ts is e (All-tail (λ j. j < length ts) i is h))

same_head : (n : ℕ) (xs : Trees) (ts : List Tree) (h : Head) (is : List ℕ) → AreOwn n xs → is_own_head n h is ≡ true → put_at xs h (pick ts is) ≡ node h (pick ts is)
same_head n xs ts (Numeral m) is own h = refl
same_head n xs ts (Theory o) is own h = refl
same_head n xs ts (Symbol f) is own h = refl
same_head n xs ts (Place k) [] own h = own k (let small : nat_lt k n ≡ true = (and_parts (nat_lt k n) true h).0 in grind arith)
same_head n xs ts (Place k) (i ∷ is) own h = absurd (let no : nat_eq (length (i ∷ is)) 0 ≡ true = (and_parts (nat_lt k n) (nat_eq (length (i ∷ is)) 0) h).1 in grind arith)

same_tree : (n : ℕ) (xs : Trees) (ts : List Tree) (m : Node) → AreOwn n xs → map (put xs) ts ≡ ts → is_own_node n m ≡ true → All (λ i. i < length ts) m.arguments → put xs (tree_of ts m) ≡ tree_of ts m
same_tree n xs ts m own e h a = ap (put_at xs m.head) (same_picks xs ts m.arguments e a) ∙ same_head n xs ts m.head m.arguments own h

first_of : (m : ℕ) (n : Node) (ns : List Node) → AreNodesAfter m (n ∷ ns) → All (λ i. i < m) n.arguments
first_of m n ns a = let same : m + 0 ≡ m = omega arith in subst (λ k. All (λ i. i < k) n.arguments) same (a 0 n (omega arith))

later_of : (m k : ℕ) (n : Node) (ns : List Node) → k ≡ m + 1 → AreNodesAfter m (n ∷ ns) → AreNodesAfter k ns
later_of m k n ns e a j d h = let same : m + suc j ≡ k + j = omega (arith, e) in subst (λ l. All (λ i. i < l) (get_or ns j d).arguments) same (a (suc j) d (omega arith))

pub own_stays : (n : ℕ) (xs : Trees) (ts : List Tree) (ms : List Node) → AreOwn n xs → map (put xs) ts ≡ ts → are_own_nodes n ms ≡ true → AreNodesAfter (length ts) ms
    → map (put xs) (trees_from ts ms) ≡ trees_from ts ms
own_stays n xs ts [] own e h a = e
own_stays n xs ts (m ∷ ms) own e h a =
    let parts = and_parts (is_own_node n m) (are_own_nodes n ms) h in
    let t : Tree = tree_of ts m in
    let here : put xs t ≡ t = same_tree n xs ts m own e parts.0 (first_of (length ts) m ms a) in
    let one : map (put xs) (ts ++ t ∷ []) ≡ ts ++ t ∷ [] = map-append (put xs) ts (t ∷ []) ∙ ap (λ us. us ++ put xs t ∷ []) e ∙ ap (λ u. ts ++ u ∷ []) here in
    own_stays n xs (ts ++ t ∷ []) ms own one parts.1 (later_of (length ts) (length (ts ++ t ∷ [])) m ms (length_push ts t) a)
