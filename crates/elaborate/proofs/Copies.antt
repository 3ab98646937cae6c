-- The parameters of a definition as places and as bindings, and the nodes of a list of terms.
use Rattle.std.proofs.Common.{◌≡◌, ℕ, zero, suc, ◌+◌, ◌<◌, ◌≤◌, List, [], ◌∷◌, ◌++◌, length, get_or, take, map, All, inl, inr, ap, sym, subst, ◌∙◌, refl, arith, false}
use Rattle.std.proofs.lemmas.List.{get_or_append_left, length_push, get_or-take}
use Rattle.std.proofs.lemmas.List.Elements.{All-head, All-tail}
use Rattle.std.proofs.Math.Seq.{get_or-append_seam}
use Rattle.std.proofs.lemmas.Bool.{cases_lt}
use Rattle.std.specs.Prelude.{nat_eq}
use Rattle.smt_meaning.specs.declared.terms.Head.TheVariants.{Place}
use Rattle.smt_meaning.specs.declared.nodes.Node.{Node}
use Rattle.smt_meaning.specs.Term.{Tree, node, none, tree_at}
use Rattle.smt_meaning.specs.TreeShape.{is_among, is_constant, is_linear, with_parts}
use Rattle.smt_meaning.specs.Nodes.{pick, tree_of, trees_from, AreNodesAfter}
use Rattle.smt_meaning.specs.Sorts.{Variable}
use Rattle.elaborate.specs.declared.Parameter.{Parameter}
use Rattle.elaborate.specs.Judged.{parameters_from}
use Rattle.elaborate.specs.Frames.{variable_at, AreBound}
use Rattle.smt_sorts.specs.Workshop.{places_from}
use Rattle.elaborate.specs.Bodies.{bindings_from}

-- ---- places

pub length-places : (k n : ℕ) → length (places_from k n) ≡ n
length-places k zero = refl
length-places k (suc n) = ap suc (length-places (k + 1) n)

pub places_push : (k n : ℕ) → places_from k (suc n) ≡ places_from k n ++ node (Place (k + n)) none ∷ []
places_push k zero = let e : k + 0 ≡ k = omega arith in rw e refl
places_push k (suc n) =
    let e : k + 1 + n ≡ k + suc n = omega arith in
    ap (λ ts. node (Place k) none ∷ ts) (places_push (k + 1) n ∙ ap (λ i. places_from (k + 1) n ++ node (Place i) none ∷ []) e)

differ : (m k : ℕ) → k < m → nat_eq m k ≡ false
differ m k h = grind arith

pub not_among : (m k n : ℕ) → k + n ≤ m → is_among (node (Place m) none) (places_from k n) ≡ false
not_among m k zero h = refl
not_among m k (suc n) h =
    let e : nat_eq m k ≡ false = differ m k (omega arith) in
    let rest : is_among (node (Place m) none) (places_from (k + 1) n) ≡ false = not_among m (k + 1) n (omega arith) in
    rw (e, rest) refl

pub place_joins : (n : ℕ) (ts us : List Tree) → ts ≡ places_from 0 n → us ≡ with_parts ts (node (Place n) none) → us ≡ places_from 0 (suc n)
place_joins n ts us e h =
    let zero_n : n ≡ 0 + n = omega arith in
    let absent : is_among (node (Place n) none) (places_from 0 n) ≡ false = not_among n 0 n (omega arith) in
    let made : with_parts (places_from 0 n) (node (Place n) none) ≡ places_from 0 n ++ node (Place n) none ∷ [] = rw absent refl in
    h ∙ ap (λ vs. with_parts vs (node (Place n) none)) e ∙ made ∙ ap (λ i. places_from 0 n ++ node (Place i) none ∷ []) zero_n ∙ sym (places_push 0 n)

pub place_at : (k n i : ℕ) (d : Tree) → i < n → get_or (places_from k n) i d ≡ node (Place (k + i)) none
place_at k zero i d h = absurd (omega arith)
place_at k (suc n) zero d h = let e : k + 0 ≡ k = omega arith in rw e refl
place_at k (suc n) (suc i) d h =
    let e : k + 1 + i ≡ k + suc i = omega arith in
    place_at (k + 1) n i d (omega arith) ∙ ap (λ j. node (Place j) none) e

pub trees_of_parameters : (k : ℕ) (ps : List Parameter) → map (λ (v : Variable). v.term.tree) (parameters_from k ps) ≡ places_from k (length ps)
trees_of_parameters k [] = refl
trees_of_parameters k (p ∷ ps) = ap (λ ts. node (Place k) none ∷ ts) (trees_of_parameters (k + 1) ps)

-- ---- bindings

own : (n k : ℕ) → k < n → tree_at (places_from 0 n) k ≡ node (Place k) none
own n k h = let zero_k : 0 + k ≡ k = omega arith in place_at 0 n k _ h ∙ ap (λ j. node (Place j) none) zero_k

pub variables_are : (n k : ℕ) (ps : List Parameter) → k + length ps ≤ n → map (variable_at (places_from 0 n)) (bindings_from k ps) ≡ parameters_from k ps
variables_are n k [] h = refl
variables_are n k (p ∷ ps) h =
    ap (λ t. record { name = p.name; term = record { tree = t; sort = p.sort } } ∷ map (variable_at (places_from 0 n)) (bindings_from (k + 1) ps)) (own n k (omega arith))
    ∙ ap (λ vs. record { name = p.name; term = record { tree = node (Place k) none; sort = p.sort } } ∷ vs) (variables_are n (k + 1) ps (omega arith))

pub parameters_bound : (n k : ℕ) (ps : List Parameter) → k + length ps ≤ n → AreBound (places_from 0 n) (bindings_from k ps)
parameters_bound n k [] h = tt
parameters_bound n k (p ∷ ps) h =
    let e = own n k (omega arith) in (
      record { within = omega (arith, length-places 0 n); constant = ap is_constant (sym e); linear = ap is_linear (sym e) },
      parameters_bound n (k + 1) ps (omega arith),
    )

-- ---- nodes

trees_from-append : (ts : List Tree) (ns ms : List Node) → trees_from ts (ns ++ ms) ≡ trees_from (trees_from ts ns) ms
trees_from-append ts [] ms = refl
trees_from-append ts (n ∷ ns) ms = trees_from-append (ts ++ tree_of ts n ∷ []) ns ms

pick_first : (ts : List Tree) (is : List ℕ) (m : ℕ) → m ≤ length ts → All (λ i. i < m) is → pick (take m ts) is ≡ pick ts is
pick_first ts [] m h all = refl
pick_first ts (i ∷ is) m h all =
    cc (get_or-take m ts i _ (All-head (λ j. j < m) i is all), pick_first ts is m h (All-tail (λ j. j < m) i is all))

take_push : (m : ℕ) (ts : List Tree) (d : Tree) → m < length ts → take (suc m) ts ≡ take m ts ++ get_or ts m d ∷ []
take_push m [] d h = absurd (omega arith)
take_push zero (t ∷ ts) d h = refl
take_push (suc m) (t ∷ ts) d h = ap (λ us. t ∷ us) (take_push m ts d (omega arith))

-- ---- nodes from a place on

-- so many trees are the first ones and those of these nodes
pub record AreFrom (ts : List Tree) (from' m : ℕ) (ns : List Node) : Type 0 where
  pub trees : trees_from (take from' ts) ns ≡ take m ts
  pub count : from' + length ns ≡ m
  pub earlier : AreNodesAfter from' ns

pub none_from : (ts : List Tree) (from' : ℕ) → AreFrom ts from' from' []
none_from ts from' = record { trees = refl; count = omega arith; earlier = λ k d h. absurd (omega arith) }

after_push : (m : ℕ) (ns : List Node) (n : Node) → AreNodesAfter m ns → All (λ i. i < m + length ns) n.arguments → AreNodesAfter m (ns ++ n ∷ [])
after_push m ns n nodes args k d h =
    elim (cases_lt k (length ns)) [
      | inl below ↦ rw (get_or_append_left ns (n ∷ []) d k below) (nodes k d below)
      | inr above ↦
          let at_end : length ns ≡ k = omega (arith, length_push ns n) in
          subst (λ j. All (λ i. i < m + j) (get_or (ns ++ n ∷ []) j d).arguments) at_end (rw (get_or-append_seam ns n [] d) args)
    ]

pub one_from : (ts : List Tree) (from' m : ℕ) (ns ms : List Node) (n : Node) → AreFrom ts from' m ns → m < length ts → ms ≡ ns ++ n ∷ [] → tree_at ts m ≡ tree_of ts n → All (λ i. i < m) n.arguments → AreFrom ts from' (suc m) ms
one_from ts from' m ns ms n f h e here all =
    subst (AreFrom ts from' (suc m)) (sym e) (record {
      trees =
          trees_from-append (take from' ts) ns (n ∷ []) ∙ ap (λ us. us ++ tree_of us n ∷ []) f.trees
          ∙ ap (λ us. take m ts ++ node n.head us ∷ []) (pick_first ts n.arguments m (omega arith) all)
          ∙ ap (λ t. take m ts ++ t ∷ []) (sym here)
          ∙ sym (take_push m ts _ h);
      count = omega (arith, length_push ns n, f.count);
      earlier = after_push from' ns n f.earlier (subst (λ j. All (λ i. i < j) n.arguments) (sym f.count) all);
    })
