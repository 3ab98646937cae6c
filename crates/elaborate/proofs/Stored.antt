-- One term more.
use Rattle.std.proofs.Common.{◌≡◌, ℕ, ◌<◌, List, [], ◌∷◌, ◌++◌, length, ap, sym, ◌∙◌, refl, Bool, true, false, ◌&&◌, All, map, append-nil}
use Rattle.std.specs.Prelude.{if◌then◌else◌}
use Rattle.std.proofs.lemmas.List.Elements.{All-nil, All-cons}
use Rattle.smt_meaning.specs.declared.values.Sort.{Sort}
use Rattle.smt_meaning.specs.declared.terms.Head.{Head}
use Rattle.smt_meaning.specs.Term.{Tree, node, more, tree_at}
use Rattle.smt_meaning.specs.TreeShape.{is_constant, are_constant, is_linear, are_linear, is_constant_head, is_linear_at, at_most_one_varies, is_among, with_tree, with_parts}
use Rattle.smt_meaning.specs.Nodes.{pick}
use Rattle.smt_meaning.specs.Sorts.{trees_of}
use Rattle.elaborate.specs.declared.value.Value.{Value}
use Rattle.elaborate.specs.Values.{id_of, typed, AreValues, IsLonger, all_constant, all_linear, one_varies, IsNode}

pub ids_below : (ts : List Tree) (vs : List Value) → AreValues ts vs → All (λ i. i < length ts) (map id_of vs)
ids_below ts [] h = All-nil (λ i. i < length ts)
ids_below ts (v ∷ vs) h = All-cons (λ i. i < length ts) v.id (map id_of vs) h.0.within (ids_below ts vs h.1)

pub picked : (ts : List Tree) (vs : List Value) → pick ts (map id_of vs) ≡ trees_of (map (typed ts) vs)
picked ts [] = refl
picked ts (v ∷ vs) = ap (λ us. more (tree_at ts v.id) us) (picked ts vs)

pub constants : (ts : List Tree) (vs : List Value) → AreValues ts vs → all_constant vs ≡ are_constant (trees_of (map (typed ts) vs))
constants ts [] h = refl
constants ts (v ∷ vs) h = ap (λ b. b && all_constant vs) h.0.constant ∙ ap (λ b. is_constant (tree_at ts v.id) && b) (constants ts vs h.1)

pub linears : (ts : List Tree) (vs : List Value) → AreValues ts vs → all_linear vs ≡ are_linear (trees_of (map (typed ts) vs))
linears ts [] h = refl
linears ts (v ∷ vs) h = ap (λ b. b && all_linear vs) h.0.linear ∙ ap (λ b. is_linear (tree_at ts v.id) && b) (linears ts vs h.1)

pub varying : (ts : List Tree) (vs : List Value) → AreValues ts vs → one_varies vs ≡ at_most_one_varies (trees_of (map (typed ts) vs))
varying ts [] h = refl
varying ts (v ∷ vs) h =
    ap (λ b. if b then one_varies vs else all_constant vs) h.0.constant
    ∙ ap (λ b. if is_constant (tree_at ts v.id) then b else all_constant vs) (varying ts vs h.1)
    ∙ ap (λ b. if is_constant (tree_at ts v.id) then at_most_one_varies (trees_of (map (typed ts) vs)) else b) (constants ts vs h.1)

pub longer_with : (ts us : List Tree) (t : Tree) → us ≡ with_tree ts t → IsLonger ts us
longer_with ts us t e = go (is_among t ts) e
  where
    go : (b : Bool) → us ≡ (if b then ts else (ts ++ t ∷ [])) → IsLonger ts us
    go true k = ([], k ∙ sym (append-nil ts))
    go false k = (t ∷ [], k)

pub longer_self : (ts us : List Tree) → us ≡ ts → IsLonger ts us
longer_self ts us e = ([], e ∙ sym (append-nil ts))

pub node_done : (h : Head) (s : Sort) (vs : List Value) (ts us : List Tree) (is : List ℕ) (v : Value) → AreValues ts vs → is ≡ map id_of vs → us ≡ with_parts ts (node h (pick ts is)) → v.id < length us → tree_at us v.id ≡ node h (pick ts is)
    → v.sort ≡ s → v.constant ≡ (is_constant_head h && all_constant vs) → v.linear ≡ (is_linear_at h (trees_of (map (typed ts) vs)) && all_linear vs) → IsNode h s vs ts us v
node_done h s vs ts us is v a e k within here sort c l =
    let args : pick ts is ≡ trees_of (map (typed ts) vs) = ap (pick ts) e ∙ picked ts vs in
    let tree : tree_at us v.id ≡ node h (trees_of (map (typed ts) vs)) = here ∙ ap (node h) args in
    record {
      trees = k ∙ ap (λ ws. with_parts ts (node h ws)) args;
      tree = tree;
      sort = sort;
      value = record {
        within = within;
        constant = c ∙ ap (λ b. is_constant_head h && b) (constants ts vs a) ∙ ap is_constant (sym tree);
        linear = l ∙ ap (λ b. is_linear_at h (trees_of (map (typed ts) vs)) && b) (linears ts vs a) ∙ ap is_linear (sym tree);
      };
    }
