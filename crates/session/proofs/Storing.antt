-- Terms of a body that are stored one after another.
use Rattle.std.proofs.Common.{◌≡◌, ℕ, zero, suc, ◌+◌, ◌<◌, Bool, true, false, List, [], ◌∷◌, ◌++◌, length, take, map, ap, sym, subst, ◌∙◌, refl, arith, All, slice_index}
use Rattle.std.specs.Prelude.{if◌then◌else◌}
use Rattle.std.proofs.lemmas.List.{get_or_append_left, length-append, length-map, length_push, map-append}
use Rattle.std.proofs.lemmas.List.Elements.{All-head, All-tail, All-nil, All-cons}
use Rattle.smt_meaning.specs.declared.nodes.Node.{Node}
use Rattle.smt_meaning.specs.Term.{Tree, node, more, tree_at}
use Rattle.smt_meaning.specs.TreeShape.{is_among, with_tree}
use Rattle.smt_meaning.specs.Nodes.{pick, tree_of, trees_from, trees_of, joined, AreNodes, AreNodesAfter}
use Rattle.term_store.specs.Terms.{tree_with, IsPlace}
use Rattle.term_store.proofs.NodeLemmas.{length-trees_of, trees_from-append}
use Rattle.term_store.proofs.Layers.{joined_next, next_part}
use Rattle.session.specs.Stored.{AreStored}

-- ---- one term

abbrev Within : List Tree → ℕ → Type 0
Within ts i = i < length ts

tree_stays : (ts rest : List Tree) (i : ℕ) → i < length ts → tree_at (ts ++ rest) i ≡ tree_at ts i
tree_stays ts rest i h = get_or_append_left ts rest _ i h

trees_stay : (ts rest : List Tree) (is : List ℕ) → All (Within ts) is → map (tree_at (ts ++ rest)) is ≡ map (tree_at ts) is
trees_stay ts rest [] h = refl
trees_stay ts rest (i ∷ is) h =
    ap (λ t. t ∷ map (tree_at (ts ++ rest)) is) (tree_stays ts rest i (All-head (Within ts) i is h))
    ∙ ap (λ us. tree_at ts i ∷ us) (trees_stay ts rest is (All-tail (Within ts) i is h))

within_stays : (ts rest : List Tree) (is : List ℕ) → All (Within ts) is → All (Within (ts ++ rest)) is
within_stays ts rest [] h = All-nil (Within (ts ++ rest))
within_stays ts rest (i ∷ is) h =
    let lt : i < length ts = All-head (Within ts) i is h in
    let long : length (ts ++ rest) ≡ length ts + length rest = length-append ts rest in
    All-cons (Within (ts ++ rest)) i is (omega (arith, long, lt)) (within_stays ts rest is (All-tail (Within ts) i is h))

-- what is stored stays where one more tree joins
pub stays : (terms ts : List Tree) (t : Tree) (places : List ℕ) → AreStored terms ts places → AreStored terms (with_tree ts t) places
stays terms ts t places h = go (is_among t ts)
  where
    go : (b : Bool) → AreStored terms (if b then ts else ts ++ t ∷ []) places
    go true = h
    go false = record { trees = trees_stay ts (t ∷ []) places h.within ∙ h.trees; within = within_stays ts (t ∷ []) places h.within }

at_place : (ts : List Tree) (places : List ℕ) (i : ℕ) → i < length places → tree_at ts (slice_index places i) ≡ tree_at (map (tree_at ts) places) i
at_place ts [] i h = absurd (omega arith)
at_place ts (p ∷ ps) zero h = refl
at_place ts (p ∷ ps) (suc i) h = at_place ts ps i (omega arith)

pub within_at : (ts : List Tree) (places : List ℕ) (i : ℕ) → All (Within ts) places → i < length places → slice_index places i < length ts
within_at ts [] i a h = absurd (omega arith)
within_at ts (p ∷ ps) zero a h = All-head (Within ts) p ps a
within_at ts (p ∷ ps) (suc i) a h = within_at ts ps i (All-tail (Within ts) p ps a) (omega arith)

pub all_within_at : (ts : List Tree) (places is : List ℕ) → All (Within ts) places → All (λ i. i < length places) is → All (Within ts) (map (slice_index places) is)
all_within_at ts places [] a h = All-nil (Within ts)
all_within_at ts places (i ∷ is) a h =
    All-cons (Within ts) (slice_index places i) (map (slice_index places) is) (within_at ts places i a (All-head (λ j. j < length places) i is h))
    (all_within_at ts places is a (All-tail (λ j. j < length places) i is h))

picks_same : (ts : List Tree) (places is : List ℕ) → All (λ i. i < length places) is → pick ts (map (slice_index places) is) ≡ pick (map (tree_at ts) places) is
picks_same ts places [] h = refl
picks_same ts places (i ∷ is) h =
    ap (λ t. more t (pick ts (map (slice_index places) is))) (at_place ts places i (All-head (λ j. j < length places) i is h))
    ∙ ap (λ us. more (tree_at (map (tree_at ts) places) i) us) (picks_same ts places is (All-tail (λ j. j < length places) i is h))

all_push : (ts : List Tree) (is : List ℕ) (i : ℕ) → All (Within ts) is → i < length ts → All (Within ts) (is ++ i ∷ [])
all_push ts [] i a h = All-cons (Within ts) i [] h (All-nil (Within ts))
all_push ts (j ∷ is) i a h = All-cons (Within ts) j (is ++ i ∷ []) (All-head (Within ts) j is a) (all_push ts is i (All-tail (Within ts) j is a) h)

-- one more term is stored
pub one_stored : (ts us : List Tree) (places arguments : List ℕ) (n : Node) (place : ℕ) → All (Within ts) places → All (λ i. i < length places) n.arguments
    → arguments ≡ map (slice_index places) n.arguments → us ≡ with_tree ts (tree_with ts n.head arguments) → IsPlace us place (tree_with ts n.head arguments)
    → AreStored (map (tree_at ts) places ++ tree_of (map (tree_at ts) places) n ∷ []) us (places ++ place ∷ [])
one_stored ts us places arguments n place a h e new at =
    let before : AreStored (map (tree_at ts) places) us places =
    subst (λ vs. AreStored (map (tree_at ts) places) vs places) (sym new) (stays (map (tree_at ts) places) ts (tree_with ts n.head arguments) places (record { trees = refl; within = a })) in
    let tree : tree_at us place ≡ tree_of (map (tree_at ts) places) n =
    at.1 ∙ ap (λ is. node n.head (pick ts is)) e ∙ ap (node n.head) (picks_same ts places n.arguments h) in
    record {
      trees = map-append (tree_at us) places (place ∷ []) ∙ ap (λ xs. xs ++ tree_at us place ∷ []) before.trees ∙ ap (λ t. map (tree_at ts) places ++ t ∷ []) tree;
      within = all_push us places place before.within at.0;
    }

-- ---- many terms

pub count_stored : (terms ts : List Tree) (places : List ℕ) → AreStored terms ts places → length places ≡ length terms
count_stored terms ts places h = sym (length-map places (tree_at ts)) ∙ ap length h.trees

pub trees_push : (ns : List Node) (ts : List Tree) (n : Node) → trees_from ts (ns ++ n ∷ []) ≡ trees_from ts ns ++ tree_of (trees_from ts ns) n ∷ []
trees_push [] ts n = refl
trees_push (m ∷ ns) ts n = trees_push ns (ts ++ tree_of ts m ∷ []) n

-- after one more node
pub next_stored : (ts us : List Tree) (places places2 : List ℕ) (before all : List Node) (n : Node) (start : List Tree) → AreStored (trees_from start before) ts places
    → all ≡ before ++ n ∷ [] → AreStored (map (tree_at ts) places ++ tree_of (map (tree_at ts) places) n ∷ []) us places2 → AreStored (trees_from start all) us places2
next_stored ts us places places2 before all n start h e k =
    subst (λ xs. AreStored xs us places2) (sym (ap (trees_from start) e ∙ trees_push before start n))
    (subst (λ xs. AreStored (xs ++ tree_of xs n ∷ []) us places2) h.trees k)

pub one_more : (ts us : List Tree) (places places2 : List ℕ) (t : Tree) → AreStored (map (tree_at ts) places ++ t ∷ []) us places2 → length places2 ≡ length places + 1
one_more ts us places places2 t k =
    let a : length places2 ≡ length (map (tree_at ts) places ++ t ∷ []) = count_stored (map (tree_at ts) places ++ t ∷ []) us places2 k in
    let b : length (map (tree_at ts) places ++ t ∷ []) ≡ length (map (tree_at ts) places) + 1 = length_push (map (tree_at ts) places) t in
    let d : length (map (tree_at ts) places) ≡ length places = length-map places (tree_at ts) in
    omega (arith, a, b, d)

-- ---- parts of a list

-- the next part comes after what is stored of those before
pub part_nodes : (ps : List (List Node)) (i : ℕ) (p ns : List Node) (ts : List Tree) (places : List ℕ) → take (i + 1) ps ≡ take i ps ++ p ∷ [] → ns ≡ p → AreNodes (joined ps)
    → AreStored (trees_of (joined (take i ps))) ts places → AreNodesAfter (length places) ns
part_nodes ps i p ns ts places t e a h = next_part ps i (length places) p ns t e a (sym (length-trees_of (joined (take i ps))) ∙ sym (count_stored (trees_of (joined (take i ps))) ts places h))

-- after one more part
pub part_stored : (ps : List (List Node)) (i : ℕ) (p ns : List Node) (ts us : List Tree) (places places2 : List ℕ) → take (i + 1) ps ≡ take i ps ++ p ∷ [] → ns ≡ p
    → AreStored (trees_of (joined (take i ps))) ts places → AreStored (trees_from (map (tree_at ts) places) ns) us places2 → AreStored (trees_of (joined (take (i + 1) ps))) us places2
part_stored ps i p ns ts us places places2 t e h k =
    let all : trees_of (joined (take (i + 1) ps)) ≡ trees_from (trees_of (joined (take i ps))) p =
    ap trees_of (joined_next ps i p t) ∙ trees_from-append [] (joined (take i ps)) p in
    subst (λ xs. AreStored xs us places2) (sym all) (subst (λ xs. AreStored (trees_from xs p) us places2) h.trees (subst (λ ms. AreStored (trees_from (map (tree_at ts) places) ms) us places2) e k))

-- ---- what is stored

pub stands : (terms ts : List Tree) (places : List ℕ) (i : ℕ) → AreStored terms ts places → i < length terms → (slice_index places i < length ts) × (tree_at ts (slice_index places i) ≡ tree_at terms i)
stands terms ts places i h lt =
    let inside : i < length places = subst (λ n. i < n) (sym (count_stored terms ts places h)) lt in
    (within_at ts places i h.within inside, at_place ts places i inside ∙ ap (λ us. tree_at us i) h.trees)
