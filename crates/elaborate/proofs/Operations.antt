-- The term of an operator with its arguments, stored after its quotients.
use Rattle.std.proofs.Common.{◌≡◌, ◌≢◌, ◌⊎◌, inl, inr, ℕ, ◌<◌, ◌+◌, List, [], ◌∷◌, length, drop, ap, sym, subst, ◌∙◌, refl, map, add-one, slice_index_or}
use Rattle.std.proofs.Math.Seq.{drop-cons}
use Rattle.std.specs.Prelude.{Result, Ok, Err, IfOk}
use Rattle.smt_meaning.specs.declared.values.Sort.{Sort}
use Rattle.smt_meaning.specs.declared.terms.Head.TheVariants.{Theory}
use Rattle.smt_meaning.specs.declared.terms.Operator.{Operator}
use Rattle.smt_meaning.specs.declared.terms.Operator.TheVariants.{Modulo, Divisible}
use Rattle.smt_meaning.specs.Term.{Tree, Trees, node, none, more, tree_at}
use Rattle.smt_meaning.specs.TreeShape.{operation, quotient_tree, divided_from, with_parts}
use Rattle.smt_meaning.specs.Sorts.{trees_of}
use Rattle.term_store.specs.Terms.{AreComplete}
use Rattle.elaborate.specs.declared.value.Value.{Value}
use Rattle.elaborate.specs.Values.{typed, IsValue, AreValues, IsLonger, IsNode, IsTerm, with_quotient}
use Rattle.elaborate.proofs.Dividing.{value_within}
use Rattle.elaborate.proofs.Grow.{tree_same}

pub node_term : (o : Operator) (s : Sort) (vs : List Value) (ts us : List Tree) (v : Value) → IsNode (Theory o) s vs ts us v → IsTerm (node (Theory o) (trees_of (map (typed ts) vs))) s ts us v
node_term o s vs ts us v k = record { trees = k.trees; tree = k.tree; sort = k.sort; value = k.value }

-- ---- by one divisor after another

-- a divided term, with what is left of the divisors
pub record IsDividing (s : Sort) (n : Value) (ds left : List Value) (ts us : List Tree) (v : Value) : Type 0 where
  pub trees : us ≡ with_parts ts (tree_at us v.id)
  pub last : divided_from (tree_at us v.id) (trees_of (map (typed ts) left)) ≡ divided_from (tree_at ts n.id) (trees_of (map (typed ts) ds))
  pub sort : v.sort ≡ s
  pub value : IsValue us v

pub dividing_begins : (s : Sort) (n v : Value) (ds : List Value) (ts : List Tree) → AreComplete ts → IsValue ts n → v.id ≡ n.id → v.sort ≡ s → IsValue ts v → IsDividing s n ds ds ts ts v
dividing_begins s n v ds ts complete h e f k = record {
  trees = sym (complete v.id k.within);
  last = ap (λ i. divided_from (tree_at ts i) (trees_of (map (typed ts) ds))) e;
  sort = f;
  value = k;
}

drop_at : (vs : List Value) (i : ℕ) (e : Value) → i < length vs → drop i vs ≡ slice_index_or vs i e ∷ drop (i + 1) vs
drop_at vs i e h = drop-cons vs i e h ∙ ap (λ k. slice_index_or vs i e ∷ drop k vs) (sym (add-one i))

pub dividing_goes_on : (s : Sort) (n e v w : Value) (ds : List Value) (i : ℕ) (ts us xs : List Tree) → IsLonger ts us → AreValues ts ds → i < length ds → IsDividing s n ds (drop i ds) ts us v
    → IsTerm (quotient_tree (tree_at us v.id) (tree_at us (slice_index_or ds i e).id)) s ts xs w → IsDividing s n ds (drop (i + 1) ds) ts xs w
dividing_goes_on s n e v w ds i ts us xs longer values within h k =
    let d : Value = slice_index_or ds i e in
    let rest : drop i ds ≡ d ∷ drop (i + 1) ds = drop_at ds i e within in
    let u : tree_at us d.id ≡ tree_at ts d.id = tree_same ts us d.id longer (value_within ts ds i e values within).within in
    record {
      trees = k.trees ∙ ap (with_parts ts) (sym k.tree);
      last =
          ap (λ t. divided_from t (trees_of (map (typed ts) (drop (i + 1) ds)))) (k.tree ∙ ap (quotient_tree (tree_at us v.id)) u)
          ∙ ap (λ vs. divided_from (tree_at us v.id) (trees_of (map (typed ts) vs))) (sym rest)
          ∙ h.last;
      sort = k.sort;
      value = k.value;
    }

pub dividing_ends : (s : Sort) (n v : Value) (ds left : List Value) (ts us : List Tree) → left ≡ [] → IsDividing s n ds left ts us v → IsTerm (divided_from (tree_at ts n.id) (trees_of (map (typed ts) ds))) s ts us v
dividing_ends s n v ds left ts us e h =
    let tree : tree_at us v.id ≡ divided_from (tree_at ts n.id) (trees_of (map (typed ts) ds)) = ap (λ vs. divided_from (tree_at us v.id) (trees_of (map (typed ts) vs))) (sym e) ∙ h.last in
    record { trees = h.trees ∙ ap (with_parts ts) tree; tree = tree; sort = h.sort; value = h.value }

-- ---- with its quotient beside it

not_two_quotient : (o : Operator) (ts : List Tree) (vs : List Value) → length vs ≢ 2 → node (Theory o) (trees_of (map (typed ts) vs)) ≡ with_quotient o (trees_of (map (typed ts) vs))
not_two_quotient o ts [] h = refl
not_two_quotient o ts (u ∷ []) h = refl
not_two_quotient o ts (u ∷ v ∷ []) h = absurd (h refl)
not_two_quotient o ts (u ∷ v ∷ w ∷ vs) h = refl

-- ---- by operator

pub modulo_is : (us : Trees) → with_quotient Modulo us ≡ operation Modulo us
modulo_is none = refl
modulo_is (more t none) = refl
modulo_is (more t (more u none)) = refl
modulo_is (more t (more u (more v us))) = refl

pub divisible_is : (us : Trees) → with_quotient Divisible us ≡ operation Divisible us
divisible_is none = refl
divisible_is (more t none) = refl
divisible_is (more t (more u none)) = refl
divisible_is (more t (more u (more v us))) = refl

left_over_is : (o : Operator) (us : Trees) → (o ≡ Modulo) ⊎ (o ≡ Divisible) → with_quotient o us ≡ operation o us
left_over_is o us (inl e) = subst (λ x. with_quotient x us ≡ operation x us) (sym e) (modulo_is us)
left_over_is o us (inr e) = subst (λ x. with_quotient x us ≡ operation x us) (sym e) (divisible_is us)

pub not_two_result : {E : Type 0} (o : Operator) (s : Sort) (vs : List Value) (ts us : List Tree) (r : Result Value E) → (o ≡ Modulo) ⊎ (o ≡ Divisible) → length vs ≢ 2 → IfOk r (λ v. IsNode (Theory o) s vs ts us v)
    → IfOk r (λ v. IsTerm (operation o (trees_of (map (typed ts) vs))) s ts us v)
not_two_result o s vs ts us (Ok v) is n h =
    subst (λ t. IsTerm t s ts us v) (not_two_quotient o ts vs n ∙ left_over_is o (trees_of (map (typed ts) vs)) is) (node_term o s vs ts us v h)
not_two_result o s vs ts us (Err e) is n h = tt
