-- Bounds under an interpretation.
use Rattle.std.proofs.Common.{◌≡◌, ℕ, Bool, true, false, List, [], ◌∷◌, ◌++◌, map, All, refl, sym, ap, ◌∙◌, arith}
use Rattle.std.specs.Prelude.{not, ◌&&◌, ◌||◌, ℤ, pos, negsuc, ◌+ℤ◌, ◌-ℤ◌, ◌*ℤ◌, neg_ℤ, int_le, IsTrue}
use Rattle.std.proofs.lemmas.List.Elements.{All-append, All-nil, All-head, All-tail, All-cons, All-weaker}
use Rattle.std.proofs.Math.IntN.{*ℤ-zero}
use Rattle.fraction128.proofs.Ring.{times-sum, times_assoc}
use Rattle.smt_meaning.specs.declared.clauses.Summand.{Summand}
use Rattle.smt_meaning.specs.declared.clauses.Atom.{Atom}
use Rattle.smt_meaning.specs.declared.clauses.Atom.TheVariants.{AtMost as BoundAtom}
use Rattle.smt_meaning.specs.declared.terms.Operator.{Operator}
use Rattle.smt_meaning.specs.declared.terms.Operator.TheVariants.{Subtract, AtMost, Less, AtLeast, Greater}
use Rattle.smt_meaning.specs.declared.terms.Head.TheVariants.{Theory}
use Rattle.smt_meaning.specs.Term.{Tree, node, none, more, tree_at, Interpretation, value, values, number_of, truth_of, operate}
use Rattle.smt_meaning.specs.TreeShape.{is_linear, is_among}
use Rattle.smt_meaning.specs.Clause.{value_at, sum_value, atom_true}
use Rattle.smt_meaning.specs.Linear.{Form, form_value, each_times, leaves}
use Rattle.smt_meaning.specs.Atoms.{difference_of}
use Rattle.smt_laws.specs.ClauseLaws.{LinearFormHasValue, NormalBoundHasValue}
use Rattle.bound_clauses.specs.declared.orders.Sense.{Sense}
use Rattle.bound_clauses.specs.declared.orders.Sense.TheVariants.{NotAbove, Below}
use Rattle.bound_clauses.specs.declared.axioms.Bound.{Bound}
use Rattle.bound_clauses.specs.Orders.{order, rising, falling, order_atoms, order_holds, bound_atom}
use Rattle.bound_clauses.specs.Laws.{IsReadable, BoundHasValue, InterpretationAgrees, OrderIsTied, OrderClausesAreTrue, EqualityIsTied, EqualityClausesAreTrue, ConstantHasValue, AreRight, AxiomsAreTrue, AxiomsHaveValue, negation_of}
use Rattle.bound_clauses.specs.Ties.{constant_clauses}
use Rattle.equality_clauses.specs.Ties.{literal}
use Rattle.equality_clauses.specs.Laws.{AllTrue}
use Rattle.literals.specs.Signed.{some_true}
use Rattle.smt_meaning.specs.Nodes.{pick}
use Rattle.bound_clauses.proofs.Whole.{le_moved, lt_moved}

both : (a b : Bool) → a ≡ true → b ≡ true → (a && b) ≡ true
both true b h k = k
both false b h k = cc

-- ---- one bound

module _ (linear : LinearFormHasValue) (normal : NormalBoundHasValue) (ts : List Tree) (I : Interpretation) where
  difference_value : (i j : ℕ) → IsReadable ts i → IsReadable ts j
      → form_value ts I (difference_of ts (tree_at ts i) (tree_at ts j)) ≡ number_of (value_at ts I i) -ℤ number_of (value_at ts I j)
  difference_value i j hi hj =
      sym (linear ts I (node (Theory Subtract) (more (tree_at ts i) (more (tree_at ts j) none)))
      (both (is_linear (tree_at ts i)) (is_linear (tree_at ts j) && true) hi.linear (both (is_linear (tree_at ts j)) true hj.linear refl))
      (All-append (λ u. IsTrue (is_among u ts)) (leaves (tree_at ts i)) (leaves (tree_at ts j) ++ []) hi.leaves_within (All-append (λ u. IsTrue (is_among u ts)) (leaves (tree_at ts j)) [] hj.leaves_within (All-nil (λ u. IsTrue (is_among u ts))))))

  pub bound_value : (s : Sense) (i j : ℕ) → IsReadable ts i → IsReadable ts j → atom_true ts I (bound_atom ts (order s i j)) ≡ order_holds (value_at ts I) (order s i j)
  bound_value NotAbove i j hi hj = let f : Form = difference_of ts (tree_at ts i) (tree_at ts j) in
      normal ts I f.sum (neg_ℤ f.constant)
      ∙ le_moved (sum_value ts I f.sum) f.constant (number_of (value_at ts I i)) (number_of (value_at ts I j)) (difference_value i j hi hj)
  bound_value Below i j hi hj = let f : Form = difference_of ts (tree_at ts i) (tree_at ts j) in
      normal ts I f.sum (neg_ℤ f.constant -ℤ pos 1)
      ∙ lt_moved (sum_value ts I f.sum) f.constant (number_of (value_at ts I i)) (number_of (value_at ts I j)) (difference_value i j hi hj)

pub bound_valued : LinearFormHasValue → NormalBoundHasValue → BoundHasValue
bound_valued linear normal ts I o hl hg = bound_value linear normal ts I o.sense o.lesser o.greater hl hg

-- ---- those of a comparison

module _ (has : BoundHasValue) (ts : List Tree) (I : Interpretation) where
  rising_read : (s : Sense) (i : ℕ) (js : List ℕ) → All (IsReadable ts) (i ∷ js) → map (atom_true ts I) (map (bound_atom ts) (rising s i js)) ≡ map (order_holds (value_at ts I)) (rising s i js)
  rising_read s i [] h = refl
  rising_read s i (j ∷ js) h = let later : All (IsReadable ts) (j ∷ js) = All-tail (IsReadable ts) i (j ∷ js) h in
      ap (λ b. b ∷ map (atom_true ts I) (map (bound_atom ts) (rising s j js)))
      (has ts I (order s i j) (All-head (IsReadable ts) i (j ∷ js) h) (All-head (IsReadable ts) j js later))
      ∙ ap (λ bs. order_holds (value_at ts I) (order s i j) ∷ bs) (rising_read s j js later)

  falling_read : (s : Sense) (i : ℕ) (js : List ℕ) → All (IsReadable ts) (i ∷ js) → map (atom_true ts I) (map (bound_atom ts) (falling s i js)) ≡ map (order_holds (value_at ts I)) (falling s i js)
  falling_read s i [] h = refl
  falling_read s i (j ∷ js) h = let later : All (IsReadable ts) (j ∷ js) = All-tail (IsReadable ts) i (j ∷ js) h in
      ap (λ b. b ∷ map (atom_true ts I) (map (bound_atom ts) (falling s j js)))
      (has ts I (order s j i) (All-head (IsReadable ts) j js later) (All-head (IsReadable ts) i (j ∷ js) h))
      ∙ ap (λ bs. order_holds (value_at ts I) (order s j i) ∷ bs) (falling_read s j js later)

  orders_read : (o : Operator) (is : List ℕ) → All (IsReadable ts) is → map (atom_true ts I) (map (bound_atom ts) (order_atoms o is)) ≡ map (order_holds (value_at ts I)) (order_atoms o is)
  orders_read AtMost (i ∷ is) h = rising_read NotAbove i is h
  orders_read Less (i ∷ is) h = rising_read Below i is h
  orders_read AtLeast (i ∷ is) h = falling_read NotAbove i is h
  orders_read Greater (i ∷ is) h = falling_read Below i is h
  orders_read o is h = refl

map-map : {A B : Type 0} (f : A → B) (g : ℕ → A) (ns : List ℕ) → map (λ n. f (g n)) ns ≡ map f (map g ns)
map-map f g [] = refl
map-map f g (n ∷ ns) = ap (λ xs. f (g n) ∷ xs) (map-map f g ns)

pub agrees : BoundHasValue → InterpretationAgrees
agrees has ts I atom o bounds is h e = map-map (atom_true ts I) atom bounds ∙ ap (map (atom_true ts I)) e ∙ orders_read has ts I o is h

-- ---- bounds of a sum and of its negation

each_times_value : (ts : List Tree) (I : Interpretation) (k : ℤ) (ps : List Summand) → sum_value ts I (each_times k ps) ≡ k *ℤ sum_value ts I ps
each_times_value ts I k [] = sym (*ℤ-zero k)
each_times_value ts I k (p ∷ ps) =
    ap (λ z. z +ℤ sum_value ts I (each_times k ps)) (times_assoc k p.coefficient (number_of (value_at ts I p.term)))
    ∙ ap (λ z. k *ℤ (p.coefficient *ℤ number_of (value_at ts I p.term)) +ℤ z) (each_times_value ts I k ps)
    ∙ sym (times-sum k (p.coefficient *ℤ number_of (value_at ts I p.term)) (sum_value ts I ps))

minus_one : (z : ℤ) → negsuc 0 *ℤ z ≡ neg_ℤ z
minus_one (pos n) = ap (λ m. neg_ℤ (pos m)) (omega arith)
minus_one (negsuc n) = ap pos (omega arith)

negation_value : (ts : List Tree) (I : Interpretation) (sum : List Summand) → sum_value ts I (negation_of sum) ≡ neg_ℤ (sum_value ts I sum)
negation_value ts I sum = each_times_value ts I (negsuc 0) sum ∙ minus_one (sum_value ts I sum)

on_sum : (ts : List Tree) (I : Interpretation) (atom : ℕ → Atom) (sum : List Summand) (b : Bound) → atom b.number ≡ BoundAtom sum b.threshold
    → atom_true ts I (atom b.number) ≡ int_le (sum_value ts I sum) b.threshold
on_sum ts I atom sum b e = ap (atom_true ts I) e

on_negation : (ts : List Tree) (I : Interpretation) (atom : ℕ → Atom) (sum : List Summand) (b : Bound) → atom b.number ≡ BoundAtom (negation_of sum) b.threshold
    → atom_true ts I (atom b.number) ≡ int_le (neg_ℤ (sum_value ts I sum)) b.threshold
on_negation ts I atom sum b e = ap (atom_true ts I) e ∙ ap (λ z. int_le z b.threshold) (negation_value ts I sum)

bounds_right : (ts : List Tree) (I : Interpretation) (atom : ℕ → Atom) (sum : List Summand) (bounds negated : List Bound)
    → All (λ (b : Bound). atom b.number ≡ BoundAtom sum b.threshold) bounds → All (λ (b : Bound). atom b.number ≡ BoundAtom (negation_of sum) b.threshold) negated
    → AreRight (λ n. atom_true ts I (atom n)) (sum_value ts I sum) bounds negated
bounds_right ts I atom sum bounds negated hs hn = record {
  of_sum = All-weaker (λ (b : Bound). atom b.number ≡ BoundAtom sum b.threshold) (λ (b : Bound). atom_true ts I (atom b.number) ≡ int_le (sum_value ts I sum) b.threshold)
      (on_sum ts I atom sum) bounds hs;
  of_negation = All-weaker (λ (b : Bound). atom b.number ≡ BoundAtom (negation_of sum) b.threshold)
      (λ (b : Bound). atom_true ts I (atom b.number) ≡ int_le (neg_ℤ (sum_value ts I sum)) b.threshold) (on_negation ts I atom sum) negated hn;
}

pub axioms_valued : AxiomsAreTrue → AxiomsHaveValue
axioms_valued are ts I atom sum bounds negated hb hn hs ht =
    are (λ n. atom_true ts I (atom n)) (sum_value ts I sum) bounds negated hb hn (bounds_right ts I atom sum bounds negated hs ht)

-- ---- the clauses

values_picked : (ts : List Tree) (I : Interpretation) (is : List ℕ) → values I (pick ts is) ≡ map (value_at ts I) is
values_picked ts I [] = refl
values_picked ts I (i ∷ is) = ap (λ vs. value_at ts I i ∷ vs) (values_picked ts I is)

pub order_true : OrderIsTied → InterpretationAgrees → OrderClausesAreTrue
order_true tied agree ts I atom o t p bounds is h readable is_truth is_node are_bounds =
    (tied o (value_at ts I) (λ n. atom_true ts I (atom n)) t bounds is h (agree ts I atom o bounds is readable are_bounds)).0
    (ap (atom_true ts I) is_truth ∙ ap (λ u. truth_of (value I u)) is_node ∙ ap (λ vs. truth_of (operate o vs)) (values_picked ts I is))

pub equality_true : EqualityIsTied → BoundHasValue → EqualityClausesAreTrue
equality_true tied has ts I atom same below above i j read_i read_j number_i number_j is_same is_below is_above =
    (tied (value_at ts I) (λ n. atom_true ts I (atom n)) same below above i j number_i number_j
    (ap (atom_true ts I) is_below ∙ has ts I (order NotAbove i j) read_i read_j) (ap (atom_true ts I) is_above ∙ has ts I (order NotAbove j i) read_j read_i)).0
    (ap (atom_true ts I) is_same)

pub constant_valued : ConstantHasValue
constant_valued ts I atom n k e = by_truth (int_le (pos 0) k) (ap (atom_true ts I) e)
  where
    or_false : (b : Bool) → (b || false) ≡ b
    or_false true = refl
    or_false false = refl

    by_truth : (b : Bool) → atom_true ts I (atom n) ≡ b → AllTrue (λ m. atom_true ts I (atom m)) (constant_clauses n b)
    by_truth true h = All-cons (λ ls. some_true (λ m. atom_true ts I (atom m)) ls ≡ true) (literal true n ∷ []) [] (or_false (atom_true ts I (atom n)) ∙ h) (All-nil (λ ls. some_true (λ m. atom_true ts I (atom m)) ls ≡ true))
    by_truth false h = All-cons (λ ls. some_true (λ m. atom_true ts I (atom m)) ls ≡ true) (literal false n ∷ []) [] (or_false (not (atom_true ts I (atom n))) ∙ ap not h) (All-nil (λ ls. some_true (λ m. atom_true ts I (atom m)) ls ≡ true))
