-- Nodes in parts, one part after another.
use Rattle.std.proofs.Common.{◌≡◌, ℕ, ◌+◌, ◌<◌, List, [], ◌∷◌, ◌++◌, length, get_or, take, drop, All, ap, sym, subst, ◌∙◌, refl, arith, append_assoc, append-nil}
use Rattle.std.proofs.lemmas.List.{get_or_append_left, get_or-append-add, length-append, take-append-drop}
use Rattle.smt_meaning.specs.declared.nodes.Node.{Node}
use Rattle.smt_meaning.specs.Nodes.{AreNodes, AreNodesAfter, joined}

joined-append : (ps qs : List (List Node)) → joined (ps ++ qs) ≡ joined ps ++ joined qs
joined-append [] qs = refl
joined-append (p ∷ ps) qs = ap (λ ns. p ++ ns) (joined-append ps qs) ∙ sym (append_assoc p (joined ps) (joined qs))

-- with one more part
pub joined_next : (ps : List (List Node)) (i : ℕ) (p : List Node) → take (i + 1) ps ≡ take i ps ++ p ∷ [] → joined (take (i + 1) ps) ≡ joined (take i ps) ++ p
joined_next ps i p t = ap joined t ∙ joined-append (take i ps) (p ∷ []) ∙ ap (λ ns. joined (take i ps) ++ ns) (append-nil p)

middle : (before ns rest : List Node) → AreNodes ((before ++ ns) ++ rest) → AreNodesAfter (length before) ns
middle before ns rest a k d h =
    let size : length ((before ++ ns) ++ rest) ≡ length (before ++ ns) + length rest = length-append (before ++ ns) rest in
    let two : length (before ++ ns) ≡ length before + length ns = length-append before ns in
    let here : get_or ((before ++ ns) ++ rest) (length before + k) d ≡ get_or ns k d =
    get_or_append_left (before ++ ns) rest d (length before + k) (omega arith) ∙ get_or-append-add before ns k d in
    subst (λ (n : Node). All (λ i. i < length before + k) n.arguments) here (a (length before + k) d (omega arith))

-- the next part comes after those before
pub next_part : (ps : List (List Node)) (i m : ℕ) (p ns : List Node) → take (i + 1) ps ≡ take i ps ++ p ∷ [] → ns ≡ p → AreNodes (joined ps) → length (joined (take i ps)) ≡ m → AreNodesAfter m ns
next_part ps i m p ns t e a size =
    let split : joined ps ≡ (joined (take i ps) ++ p) ++ joined (drop (i + 1) ps) =
    ap joined (sym (take-append-drop (i + 1) ps)) ∙ joined-append (take (i + 1) ps) (drop (i + 1) ps) ∙ ap (λ ms. ms ++ joined (drop (i + 1) ps)) (joined_next ps i p t) in
    subst (λ ms. AreNodesAfter m ms) (sym e) (subst (λ k. AreNodesAfter k p) size (middle (joined (take i ps)) p (joined (drop (i + 1) ps)) (subst AreNodes split a)))
