-- Terms of a definition with arguments put in, one after another.
use Rattle.std.proofs.Common.{◌≡◌, ℕ, zero, suc, ◌<◌, ◌≤◌, List, [], ◌∷◌, ◌++◌, length, ap, sym, subst, ◌∙◌, refl, Bool, true, false, ◌&&◌, ◌||◌, not, map, All, Option, Some, None, get_or, arith}
use Rattle.std.specs.Prelude.{Result, Ok, Err, IfOk, slice_get}
use Rattle.std.proofs.lemmas.Option.{slice_get-get_or, slice_get_past}
use Rattle.std.proofs.lemmas.List.Elements.{All-head, All-tail}
use Rattle.std.proofs.lemmas.List.{map-append, length-map}
use Rattle.std.proofs.Common.{append_assoc}
use Rattle.smt_meaning.specs.declared.values.Sort.{Sort}
use Rattle.smt_meaning.specs.declared.values.Sort.TheVariants.{Bool as Truths}
use Rattle.smt_meaning.specs.declared.terms.Head.{Head}
use Rattle.smt_meaning.specs.declared.terms.Head.TheVariants.{Numeral, Theory, Symbol, Place}
use Rattle.smt_meaning.specs.declared.terms.Operator.TheVariants.{False}
use Rattle.smt_meaning.specs.declared.nodes.Node.{Node}
use Rattle.smt_meaning.specs.Term.{Tree, Trees, node, none, more, tree_at}
use Rattle.smt_meaning.specs.TreeShape.{argument, put, put_at, put_all, with_parts, is_constant, is_linear}
use Rattle.smt_meaning.specs.Nodes.{pick, tree_of, trees_from, trees_of as terms_of}
use Rattle.smt_meaning.specs.Declaration.{Declaration, Body}
use Rattle.smt_meaning.specs.declared.refusals.Refusal.TheVariants.{NotLinear}
use Rattle.smt_meaning.specs.Sorts.{Scope, done, refused, ◌>>◌, return, refuse, require, note, found, Rules, with_all, trees_of, all_are_linear, judge_symbol}
use Rattle.term_store.specs.Terms.{AreComplete}
use Rattle.elaborate.specs.declared.value.Value.{Value}
use Rattle.elaborate.specs.Values.{typed, IsValue, AreValues, IsLonger, IsNode, Comes, all_linear}
use Rattle.elaborate.specs.Putting.{value_at, IsPut, ArePut}
use Rattle.elaborate.proofs.Grow.{tree_same, values_grow}

-- ---- parameters

argument_in : (ts : List Tree) (vs : List Value) (k : ℕ) (v : Value) → slice_get vs k ≡ Some v → argument (trees_of (map (typed ts) vs)) k ≡ tree_at ts v.id
argument_in ts [] k v h = absurd cc
argument_in ts (w ∷ vs) zero v h = ap (λ (x : Value). tree_at ts x.id) (some_is w v h)
  where
    some_is : (a b : Value) → Some a ≡ Some b → a ≡ b
    some_is a b e = cc
argument_in ts (w ∷ vs) (suc k) v h = argument_in ts vs k v h

argument_out : (ts : List Tree) (vs : List Value) (k : ℕ) → slice_get vs k ≡ None → argument (trees_of (map (typed ts) vs)) k ≡ node (Theory False) none
argument_out ts [] k h = refl
argument_out ts (w ∷ vs) zero h = absurd cc
argument_out ts (w ∷ vs) (suc k) h = argument_out ts vs k h

value_in : (ts : List Tree) (vs : List Value) (k : ℕ) (v : Value) → slice_get vs k ≡ Some v → AreValues ts vs → IsValue ts v
value_in ts [] k v h a = absurd cc
value_in ts (w ∷ vs) zero v h a = subst (IsValue ts) (some_is w v h) a.0
  where
    some_is : (a b : Value) → Some a ≡ Some b → a ≡ b
    some_is a b e = cc
value_in ts (w ∷ vs) (suc k) v h a = value_in ts vs k v h a.1

pub got : (vs : List Value) (k : ℕ) (v : Value) → k < length vs → v ≡ get_or vs k v → slice_get vs k ≡ Some v
got vs k v h e = slice_get-get_or vs k v h ∙ ap Some (sym e)

pub got_none : (vs : List Value) (k : ℕ) → length vs ≤ k → slice_get vs k ≡ None
got_none vs k h = slice_get_past vs k h

pub put_argument : (ts : List Tree) (vs : List Value) (k : ℕ) (v : Value) → AreComplete ts → slice_get vs k ≡ Some v → AreValues ts vs
    → IsPut (trees_of (map (typed ts) vs)) (Place k) [] ts ts v
put_argument ts vs k v complete h a =
    let here : argument (trees_of (map (typed ts) vs)) k ≡ tree_at ts v.id = argument_in ts vs k v h in
    let is : IsValue ts v = value_in ts vs k v h a in
    record { trees = sym (complete v.id is.within) ∙ ap (with_parts ts) (sym here); tree = sym here; value = is }

pub put_false : (ts us : List Tree) (vs : List Value) (k : ℕ) (v : Value) → slice_get vs k ≡ None → IsNode (Theory False) Truths [] ts us v
    → IsPut (trees_of (map (typed ts) vs)) (Place k) [] ts us v
put_false ts us vs k v h n =
    let here : argument (trees_of (map (typed ts) vs)) k ≡ node (Theory False) none = argument_out ts vs k h in
    record { trees = n.trees ∙ ap (with_parts ts) (sym here); tree = n.tree ∙ sym here; value = n.value }

-- ---- other heads

pub put_node : (arguments : Trees) (h : Head) (s : Sort) (vs : List Value) (ts us : List Tree) (v : Value) → ((k : ℕ) → h ≡ Place k → ⊥) → IsNode h s vs ts us v → IsPut arguments h vs ts us v
put_node arguments (Numeral m) s vs ts us v n k = record { trees = k.trees; tree = k.tree; value = k.value }
put_node arguments (Theory o) s vs ts us v n k = record { trees = k.trees; tree = k.tree; value = k.value }
put_node arguments (Symbol f) s vs ts us v n k = record { trees = k.trees; tree = k.tree; value = k.value }
put_node arguments (Place i) s vs ts us v n k = absurd (n i refl)

-- the arguments of a parameter don't matter
pub put_place : (arguments : Trees) (k : ℕ) (vs : List Value) (ts us : List Tree) (v : Value) → IsPut arguments (Place k) [] ts us v → IsPut arguments (Place k) vs ts us v
put_place arguments k vs ts us v p = record { trees = p.trees; tree = p.tree; value = p.value }

value_at_in : (ts : List Tree) (vs : List Value) (i : ℕ) → AreValues ts vs → i < length vs → IsValue ts (value_at vs i)
value_at_in ts [] i a h = absurd (omega arith)
value_at_in ts (v ∷ vs) zero a h = a.0
value_at_in ts (v ∷ vs) (suc i) a h = value_at_in ts vs i a.1 (omega arith)

pub chosen_values : (ts : List Tree) (vs : List Value) (is : List ℕ) → AreValues ts vs → All (λ i. i < length vs) is → AreValues ts (map (value_at vs) is)
chosen_values ts vs [] a h = tt
chosen_values ts vs (i ∷ is) a h = (value_at_in ts vs i a (All-head (λ j. j < length vs) i is h), chosen_values ts vs is a (All-tail (λ j. j < length vs) i is h))

-- ---- one term more

heads_same : (a b : Tree) (as' bs : List Tree) → a ∷ as' ≡ b ∷ bs → a ≡ b
heads_same a b as' bs e = cc

tails_same : (a b : Tree) (as' bs : List Tree) → a ∷ as' ≡ b ∷ bs → as' ≡ bs
tails_same a b as' bs e = cc

same_place : (arguments : Trees) (ts terms : List Tree) (vs : List Value) (i : ℕ) → map (λ (v : Value). tree_at ts v.id) vs ≡ map (put arguments) terms → i < length vs
    → put arguments (tree_at terms i) ≡ tree_at ts (value_at vs i).id
same_place arguments ts [] [] i e h = absurd (omega arith)
same_place arguments ts [] (v ∷ vs) i e h = absurd (cc)
same_place arguments ts (t ∷ terms) [] i e h = absurd (omega arith)
same_place arguments ts (t ∷ terms) (v ∷ vs) zero e h = sym (heads_same (tree_at ts v.id) (put arguments t) _ _ e)
same_place arguments ts (t ∷ terms) (v ∷ vs) (suc i) e h = same_place arguments ts terms vs i (tails_same (tree_at ts v.id) (put arguments t) _ _ e) (omega arith)

put_arguments : (arguments : Trees) (ts terms : List Tree) (vs : List Value) (is : List ℕ) → map (λ (v : Value). tree_at ts v.id) vs ≡ map (put arguments) terms → All (λ i. i < length vs) is
    → put_all arguments (pick terms is) ≡ trees_of (map (typed ts) (map (value_at vs) is))
put_arguments arguments ts terms vs [] e h = refl
put_arguments arguments ts terms vs (i ∷ is) e h =
    ap (λ t. more t (put_all arguments (pick terms is))) (same_place arguments ts terms vs i e (All-head (λ j. j < length vs) i is h))
    ∙ ap (λ ws. more (tree_at ts (value_at vs i).id) ws) (put_arguments arguments ts terms vs is e (All-tail (λ j. j < length vs) i is h))

with_all_push : (ts us : List Tree) (t : Tree) → with_all ts (us ++ t ∷ []) ≡ with_parts (with_all ts us) t
with_all_push ts [] t = refl
with_all_push ts (u ∷ us) t = with_all_push (with_parts ts u) us t

pub values_push : (ts : List Tree) (vs : List Value) (v : Value) → AreValues ts vs → IsValue ts v → AreValues ts (vs ++ v ∷ [])
values_push ts [] v a h = (h, tt)
values_push ts (w ∷ vs) v a h = (a.0, values_push ts vs v a.1 h)

trees_stay : (ts us : List Tree) (vs : List Value) → IsLonger ts us → AreValues ts vs → map (λ (v : Value). tree_at us v.id) vs ≡ map (λ (v : Value). tree_at ts v.id) vs
trees_stay ts us [] l a = refl
trees_stay ts us (v ∷ vs) l a =
    ap (λ t. t ∷ map (λ (w : Value). tree_at us w.id) vs) (tree_same ts us v.id l a.0.within) ∙ ap (λ xs. tree_at ts v.id ∷ xs) (trees_stay ts us vs l a.1)

terms_push : (ns : List Node) (ts : List Tree) (n : Node) → trees_from ts (ns ++ n ∷ []) ≡ trees_from ts ns ++ tree_of (trees_from ts ns) n ∷ []
terms_push [] ts n = refl
terms_push (m ∷ ns) ts n = terms_push ns (ts ++ tree_of ts m ∷ []) n

pub one_put : (arguments : Trees) (before : List Tree) (ns : List Node) (n : Node) (vs : List Value) (ts us : List Tree) (v : Value) → ArePut arguments before (terms_of ns) vs ts → IsLonger ts us
    → All (λ i. i < length vs) n.arguments → IsPut arguments n.head (map (value_at vs) n.arguments) ts us v → ArePut arguments before (terms_of (ns ++ n ∷ [])) (vs ++ v ∷ []) us
one_put arguments before ns n vs ts us v p l h q =
    let args : put_all arguments (pick (terms_of ns) n.arguments) ≡ trees_of (map (typed ts) (map (value_at vs) n.arguments)) = put_arguments arguments ts (terms_of ns) vs n.arguments p.trees h in
    let this : put_at arguments n.head (trees_of (map (typed ts) (map (value_at vs) n.arguments))) ≡ put arguments (tree_of (terms_of ns) n) = ap (put_at arguments n.head) (sym args) in
    let terms : terms_of (ns ++ n ∷ []) ≡ terms_of ns ++ tree_of (terms_of ns) n ∷ [] = terms_push ns [] n in
    let puts : map (put arguments) (terms_of (ns ++ n ∷ [])) ≡ map (put arguments) (terms_of ns) ++ put arguments (tree_of (terms_of ns) n) ∷ [] =
    ap (map (put arguments)) terms ∙ map-append (put arguments) (terms_of ns) (tree_of (terms_of ns) n ∷ []) in
    record {
      values = values_push us vs v (values_grow ts us vs l p.values) q.value;
      trees =
          map-append (λ (w : Value). tree_at us w.id) vs (v ∷ [])
          ∙ ap (λ xs. xs ++ tree_at us v.id ∷ []) (trees_stay ts us vs l p.values ∙ p.trees)
          ∙ ap (λ t. map (put arguments) (terms_of ns) ++ t ∷ []) (q.tree ∙ this) ∙ sym puts;
      noted =
          q.trees ∙ ap (with_parts ts) this ∙ ap (λ xs. with_parts xs (put arguments (tree_of (terms_of ns) n))) p.noted
          ∙ sym (with_all_push before (map (put arguments) (terms_of ns)) (put arguments (tree_of (terms_of ns) n))) ∙ ap (with_all before) (sym puts);
    }

-- ---- all terms

pub all_put_linear : (ts : List Tree) (vs : List Value) → AreValues ts vs → all_linear vs ≡ all_are_linear (map (λ (v : Value). tree_at ts v.id) vs)
all_put_linear ts [] a = refl
all_put_linear ts (v ∷ vs) a = ap (λ b. b && all_linear vs) a.0.linear ∙ ap (λ b. is_linear (tree_at ts v.id) && b) (all_put_linear ts vs a.1)

pub put_false_result : {E : Type 0} (ts us : List Tree) (vs : List Value) (k : ℕ) (r : Result Value E) → slice_get vs k ≡ None → IfOk r (λ v. IsNode (Theory False) Truths [] ts us v)
    → IfOk r (λ v. IsPut (trees_of (map (typed ts) vs)) (Place k) [] ts us v)
put_false_result ts us vs k (Ok v) h n = put_false ts us vs k v h n
put_false_result ts us vs k (Err e) h n = n

pub longer_both : (ts us ws : List Tree) → IsLonger ts us → IsLonger us ws → IsLonger ts ws
longer_both ts us ws l m = (l.0 ++ m.0, m.1 ∙ ap (λ xs. xs ++ m.0) l.1 ∙ append_assoc ts l.0 m.0)

abbrev at : Scope → List Tree → Scope
at s us = record s { trees = us }

pub defined_is : (r : Rules) (d : Declaration) (b : Body) (xs : Trees) (s : Scope) (l : Bool) → d.body ≡ Some b → (not r.closed || all_are_linear (map (put xs) b.terms)) ≡ l
    → judge_symbol r d xs s ≡ (require l NotLinear >> (note (map (put xs) b.terms) >> found (put xs b.term) d.rank.result)) s
defined_is r d b xs s l e h =
    ap (λ (o : Option Body). (require (not r.closed || all_are_linear (elim o [ None ↦ node (Symbol d.id) xs ∷ [] | Some c ↦ map (put xs) c.terms ])) NotLinear
    >> (note (elim o [ None ↦ node (Symbol d.id) xs ∷ [] | Some c ↦ map (put xs) c.terms ]) >> found (elim o [ None ↦ node (Symbol d.id) xs | Some c ↦ put xs c.term ]) d.rank.result)) s) e
    ∙ ap (λ m. (require m NotLinear >> (note (map (put xs) b.terms) >> found (put xs b.term) d.rank.result)) s) h

refused_here : (us : List Tree) (t : Tree) (x : Sort) (s : Scope) → (require false NotLinear >> (note us >> found t x)) s ≡ refused NotLinear
unfolding ◌>>◌ return refuse require note found
refused_here us t x s = refl

pub done_here : (us : List Tree) (t : Tree) (x : Sort) (s : Scope) → (require true NotLinear >> (note us >> found t x)) s ≡ done (record { tree = t; sort = x }) (at s (with_all s.trees us))
unfolding ◌>>◌ return refuse require note found
done_here us t x s = refl

linear_is : (xs : Trees) (before : List Tree) (terms : List Tree) (vs : List Value) (ts : List Tree) → ArePut xs before terms vs ts → all_linear vs ≡ all_are_linear (map (put xs) terms)
linear_is xs before terms vs ts p = all_put_linear ts vs p.values ∙ ap all_are_linear p.trees

pub not_linear : (r : Rules) (d : Declaration) (b : Body) (xs : Trees) (s : Scope) (vs : List Value) (us : List Tree) → d.body ≡ Some b → ArePut xs s.trees b.terms vs us
    → (not r.closed || all_linear vs) ≡ false → judge_symbol r d xs s ≡ refused NotLinear
not_linear r d b xs s vs us e p l =
    defined_is r d b xs s false e (ap (λ m. not r.closed || m) (sym (linear_is xs s.trees b.terms vs us p)) ∙ l)
    ∙ refused_here (map (put xs) b.terms) (put xs b.term) d.rank.result s

pub any_default : (vs : List Value) (i : ℕ) (d e : Value) → i < length vs → get_or vs i d ≡ get_or vs i e
any_default [] i d e h = absurd (omega arith)
any_default (v ∷ vs) zero d e h = refl
any_default (v ∷ vs) (suc i) d e h = any_default vs i d e (omega arith)

pub count_put : (xs : Trees) (before : List Tree) (terms : List Tree) (vs : List Value) (ts : List Tree) → ArePut xs before terms vs ts → length vs ≡ length terms
count_put xs before terms vs ts p = sym (length-map vs (λ (v : Value). tree_at ts v.id)) ∙ ap length p.trees ∙ length-map terms (put xs)

pub definition_applied : (r : Rules) (d : Declaration) (b : Body) (xs : Trees) (s : Scope) (vs : List Value) (us : List Tree) (i : ℕ) → d.body ≡ Some b → ArePut xs s.trees b.terms vs us
    → (not r.closed || all_linear vs) ≡ true → i < length b.terms → tree_at b.terms i ≡ b.term → (v : Value) → v.id ≡ (value_at vs i).id → v.sort ≡ d.rank.result
    → v.constant ≡ (value_at vs i).constant → v.linear ≡ (value_at vs i).linear → Comes (judge_symbol r d xs) s us (Ok v)
definition_applied r d b xs s vs us i e p l within t v id sort constant linear =
    let inside : i < length vs = subst (λ n. i < n) (sym (count_put xs s.trees b.terms vs us p)) within in
    let is : IsValue us (value_at vs i) = value_at_in us vs i p.values inside in
    let tree : tree_at us v.id ≡ put xs b.term = ap (tree_at us) id ∙ sym (same_place xs us b.terms vs i p.trees inside) ∙ ap (put xs) t in (
      defined_is r d b xs s true e (ap (λ m. not r.closed || m) (sym (linear_is xs s.trees b.terms vs us p)) ∙ l)
          ∙ done_here (map (put xs) b.terms) (put xs b.term) d.rank.result s
          ∙ ap (λ (x : Tree). done (record { tree = x; sort = d.rank.result }) (at s (with_all s.trees (map (put xs) b.terms)))) (sym tree)
          ∙ ap (λ (x : Sort). done (record { tree = tree_at us v.id; sort = x }) (at s (with_all s.trees (map (put xs) b.terms)))) (sym sort)
          ∙ ap (λ (ts : List Tree). done (typed us v) (at s ts)) (sym p.noted),
      record {
        within = subst (λ j. j < length us) (sym id) is.within;
        constant = constant ∙ is.constant ∙ ap (λ j. is_constant (tree_at us j)) (sym id);
        linear = linear ∙ is.linear ∙ ap (λ j. is_linear (tree_at us j)) (sym id);
      },
    )
