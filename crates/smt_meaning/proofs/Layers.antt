-- Lists of nodes in parts.
use Rattle.std.proofs.Common.{◌≡◌, ℕ, ◌+◌, ◌-◌, ◌<◌, List, zero, suc, [], ◌∷◌, ◌++◌, length, get_or, take, drop, All, inl, inr, ap, sym, subst, ◌∙◌, refl, arith, append_assoc, append-nil}
use Rattle.std.proofs.lemmas.List.{get_or_append_left, get_or-append_right, take_all, length-append, length-drop}
use Rattle.std.proofs.lemmas.Bool.{cases_lt}
use Rattle.smt_meaning.specs.declared.nodes.Node.{Node}
use Rattle.smt_meaning.specs.Term.{Tree}
use Rattle.smt_meaning.specs.Nodes.{AreNodes, AreNodesAfter, joined, tree_of, trees_from, trees_of}

pub joined-append : (ps qs : List (List Node)) → joined (ps ++ qs) ≡ joined ps ++ joined qs
joined-append [] qs = refl
joined-append (p ∷ ps) qs = ap (λ ns. p ++ ns) (joined-append ps qs) ∙ sym (append_assoc p (joined ps) (joined qs))

pub joined_push : (ps : List (List Node)) (p : List Node) → joined (ps ++ p ∷ []) ≡ joined ps ++ p
joined_push ps p = joined-append ps (p ∷ []) ∙ ap (λ ns. joined ps ++ ns) (append-nil p)

joined_split : (k : ℕ) (ps : List (List Node)) → joined (take k ps) ++ joined (drop k ps) ≡ joined ps
joined_split k [] = go k
  where
    go : (j : ℕ) → joined (take j []) ++ joined (drop j []) ≡ []
    go zero = refl
    go (suc j) = refl
joined_split zero (p ∷ ps) = refl
joined_split (suc k) (p ∷ ps) = append_assoc p (joined (take k ps)) (joined (drop k ps)) ∙ ap (λ ns. p ++ ns) (joined_split k ps)

pub one_layer : (ps : List (List Node)) (i : ℕ) (p ns copies all : List Node) → take (i + 1) ps ≡ take i ps ++ p ∷ [] → ns ≡ p → copies ≡ joined (take i ps) → all ≡ copies ++ ns → all ≡ joined (take (i + 1) ps)
one_layer ps i p ns copies all t e c h =
    h ∙ ap (λ xs. xs ++ ns) c ∙ ap (λ xs. joined (take i ps) ++ xs) e ∙ sym (joined_push (take i ps) p) ∙ sym (ap joined t)

pub layers_join : (ps shared all : List (List Node)) (k : ℕ) (last ns layer : List Node) → shared ≡ take k ps → last ≡ joined (take (length ps - k) (drop k ps)) → layer ≡ last ++ ns → all ≡ shared ++ layer ∷ []
    → joined all ≡ joined ps ++ ns
layers_join ps shared all k last ns layer s l p a =
    ap joined a ∙ joined_push shared layer ∙ ap (λ xs. joined xs ++ layer) s ∙ ap (λ xs. joined (take k ps) ++ xs) (p ∙ ap (λ xs. xs ++ ns) (l ∙ ap joined (take_all (length ps - k) (drop k ps) (omega (arith, length-drop k ps)))))
    ∙ sym (append_assoc (joined (take k ps)) (joined (drop k ps)) ns)
    ∙ ap (λ xs. xs ++ ns) (joined_split k ps)

pub trees_from-append : (ts : List Tree) (ns ms : List Node) → trees_from ts (ns ++ ms) ≡ trees_from (trees_from ts ns) ms
trees_from-append ts [] ms = refl
trees_from-append ts (n ∷ ns) ms = trees_from-append (ts ++ tree_of ts n ∷ []) ns ms

length-trees_from : (ts : List Tree) (ns : List Node) → length (trees_from ts ns) ≡ length ts + length ns
length-trees_from ts [] = omega arith
length-trees_from ts (n ∷ ns) =
    let one : length (ts ++ tree_of ts n ∷ []) ≡ length ts + 1 = length-append ts (tree_of ts n ∷ []) in
    let all : length (trees_from (ts ++ tree_of ts n ∷ []) ns) ≡ length (ts ++ tree_of ts n ∷ []) + length ns = length-trees_from (ts ++ tree_of ts n ∷ []) ns in
    omega (arith, one, all)

pub nodes_append : (ns ms all : List Node) (ts : List Tree) → all ≡ ns ++ ms → ts ≡ trees_of ns → AreNodes ns → AreNodesAfter (length ts) ms → AreNodes all
nodes_append ns ms all ts e t a b = subst AreNodes (sym e) go
  where
    size : length ts ≡ length ns
    size = let all : length (trees_of ns) ≡ 0 + length ns = length-trees_from [] ns in omega (arith, ap length t, all)

    go : AreNodes (ns ++ ms)
    go k d h =
        elim (cases_lt k (length ns)) [
          | inl below ↦ subst (λ (n : Node). All (λ i. i < k) n.arguments) (sym (get_or_append_left ns ms d k below)) (a k d below)
          | inr above ↦
              let j : ℕ = k - length ns in
              let short : j < length ms = omega (arith, length-append ns ms) in
              let there : length ts + j ≡ k = omega (arith, size) in
              subst (λ (n : Node). All (λ i. i < k) n.arguments) (sym (get_or-append_right ns ms (length ns) k d refl above))
              (subst (λ m. All (λ i. i < m) (get_or ms j d).arguments) there (b j d short))
        ]

pub trees_append : (ns ms all : List Node) (ts : List Tree) → all ≡ ns ++ ms → ts ≡ trees_of ns → trees_of all ≡ trees_from ts ms
trees_append ns ms all ts e t = ap trees_of e ∙ trees_from-append [] ns ms ∙ ap (λ us. trees_from us ms) (sym t)
