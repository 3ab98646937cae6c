-- Comparisons and the bounds of their neighbours.
use Rattle.std.proofs.Common.{◌≡◌, ◌≢◌, ℕ, zero, suc, Bool, true, false, List, [], ◌∷◌, ◌++◌, map, All, Contains, refl, sym, ap, subst, ◌∙◌, arith, inl, inr}
use Rattle.std.specs.Prelude.{if◌then◌else◌, ◌&&◌, ◌⊎◌, IsTrue, int_le, int_lt}
use Rattle.std.proofs.lemmas.List.Elements.{All-cons, All-nil, All-head, All-tail, All-contains, Contains-push}
use Rattle.smt_meaning.specs.declared.values.Value.{Value}
use Rattle.smt_meaning.specs.declared.values.Value.TheVariants.{Truth, Whole}
use Rattle.smt_meaning.specs.declared.terms.Operator.{Operator}
use Rattle.smt_meaning.specs.declared.terms.Operator.TheVariants.{AtMost, Less, AtLeast, Greater}
use Rattle.smt_meaning.specs.declared.clauses.Atom.{Atom}
use Rattle.smt_meaning.specs.declared.clauses.Atom.TheVariants.{Same}
use Rattle.smt_meaning.specs.Signature.{tree_sort, is_int}
use Rattle.smt_meaning.specs.TreeShape.{place_of}
use Rattle.smt_meaning.specs.Term.{Tree, tree_at, operate, truth_of, number_of, same_value, compare, int_ge, int_gt, chain_from}
use Rattle.smt_meaning.specs.Nodes.{pick}
use Rattle.smt_meaning.specs.Atoms.{of_neighbours_from, at_most_atom, below_atom}
use Rattle.equality_clauses.specs.Once.{is_in, taken, taken_all, once}
use Rattle.equality_clauses.proofs.OnceLemmas.{taken_old, taken_new, in_contains, All-once}
use Rattle.equality_clauses.proofs.Tying.{every, joined_true, joined_says}
use Rattle.bound_clauses.specs.declared.orders.Sense.{Sense}
use Rattle.bound_clauses.specs.declared.orders.Sense.TheVariants.{NotAbove, Below}
use Rattle.bound_clauses.specs.Orders.{order, rising, falling, order_atoms, both_orders, order_holds, atom_of, bound_atom}
use Rattle.bound_clauses.specs.Laws.{orders, OrdersAreComparisons, PairsAreCompared, OrderIsTied, IsNumber, EqualityIsTied}
use Rattle.bound_clauses.proofs.Whole.{same_bool, eq_orders}

-- ---- the atoms of a stack

module _ (ts : List Tree) (F : Tree → Tree → List Atom) (s : Sense) where
  rising_atoms : ((t u : Tree) → F t u ≡ atom_of s ts t u ∷ []) → (i : ℕ) (js : List ℕ) → of_neighbours_from F (tree_at ts i) (pick ts js) ≡ map (bound_atom ts) (rising s i js)
  rising_atoms e i [] = refl
  rising_atoms e i (j ∷ js) =
      ap (λ xs. xs ++ of_neighbours_from F (tree_at ts j) (pick ts js)) (e (tree_at ts i) (tree_at ts j))
      ∙ ap (λ xs. bound_atom ts (order s i j) ∷ xs) (rising_atoms e j js)

  falling_atoms : ((t u : Tree) → F t u ≡ atom_of s ts u t ∷ []) → (i : ℕ) (js : List ℕ) → of_neighbours_from F (tree_at ts i) (pick ts js) ≡ map (bound_atom ts) (falling s i js)
  falling_atoms e i [] = refl
  falling_atoms e i (j ∷ js) =
      ap (λ xs. xs ++ of_neighbours_from F (tree_at ts j) (pick ts js)) (e (tree_at ts i) (tree_at ts j))
      ∙ ap (λ xs. bound_atom ts (order s j i) ∷ xs) (falling_atoms e j js)

pub orders_compared : OrdersAreComparisons
orders_compared ts ds AtMost [] h = refl
orders_compared ts ds AtMost (i ∷ is) h = rising_atoms ts (λ s t. at_most_atom ts s t ∷ []) NotAbove (λ t u. refl) i is
orders_compared ts ds Less [] h = refl
orders_compared ts ds Less (i ∷ is) h = rising_atoms ts (λ s t. below_atom ts s t ∷ []) Below (λ t u. refl) i is
orders_compared ts ds AtLeast [] h = refl
orders_compared ts ds AtLeast (i ∷ is) h = falling_atoms ts (λ s t. at_most_atom ts t s ∷ []) NotAbove (λ t u. refl) i is
orders_compared ts ds Greater [] h = refl
orders_compared ts ds Greater (i ∷ is) h = falling_atoms ts (λ s t. below_atom ts t s ∷ []) Below (λ t u. refl) i is
orders_compared ts ds o is h = absurd (let x : false ≡ true = h in cc)

chosen : {A : Type 0} (b : Bool) (x y : A) → b ≡ true → (if b then x else y) ≡ x
chosen true x y h = refl
chosen false x y h = cc

pub pairs_compared : PairsAreCompared
pairs_compared ts ds i j h place_i place_j =
    let bounds : List Atom = map (bound_atom ts) (both_orders i j) in
    ap (λ k. Same k (place_of (tree_at ts j) ts) ∷ (if is_int (tree_sort ds (tree_at ts i)) then bounds else [])) place_i
    ∙ ap (λ k. Same i k ∷ (if is_int (tree_sort ds (tree_at ts i)) then bounds else [])) place_j
    ∙ ap (λ atoms. Same i j ∷ atoms) (chosen (is_int (tree_sort ds (tree_at ts i))) bounds [] h)

-- ---- each is true

left : (a b : Bool) → (a && b) ≡ true → a ≡ true
left true b h = refl
left false b h = cc

right : (a b : Bool) → (a && b) ≡ true → b ≡ true
right true b h = h
right false b h = cc

both : (a b : Bool) → a ≡ true → b ≡ true → (a && b) ≡ true
both true b h k = k
both false b h k = cc

true_or_false : (b : Bool) → (b ≡ true) ⊎ (b ≡ false)
true_or_false true = inl refl
true_or_false false = inr refl

-- what holds of those kept holds of all
pub All-of_once : (P : ℕ → Type 0) (kept ns : List ℕ) → All P (taken_all kept ns) → All P kept × All P ns
All-of_once P kept [] all = (all, All-nil P)
All-of_once P kept (n ∷ ns) all =
    let later : All P (taken kept n) × All P ns = All-of_once P (taken kept n) ns all in
    elim (true_or_false (is_in n kept)) [
      | inl e ↦ let before : All P kept = subst (All P) (taken_old kept n e) later.0 in (before, All-cons P n ns (All-contains P kept n before (in_contains kept n e)) later.1)
      | inr e ↦ let longer : All P (kept ++ n ∷ []) = subst (All P) (taken_new kept n e) later.0 in
          (shorter kept n longer, All-cons P n ns (All-contains P (kept ++ n ∷ []) n longer (Contains-push kept n)) later.1)
    ]
  where
    shorter : (xs : List ℕ) (x : ℕ) → All P (xs ++ x ∷ []) → All P xs
    shorter [] x h = All-nil P
    shorter (y ∷ ys) x h = All-cons P y ys (All-head P y (ys ++ x ∷ []) h) (shorter ys x (All-tail P y (ys ++ x ∷ []) h))

module _ (a : ℕ → Bool) where
  every_all : (ns : List ℕ) → every true (map a ns) ≡ true → All (λ n. a n ≡ true) ns
  every_all [] h = All-nil (λ n. a n ≡ true)
  every_all (n ∷ ns) h = All-cons (λ m. a m ≡ true) n ns (left (a n) (every true (map a ns)) h) (every_all ns (right (a n) (every true (map a ns)) h))

  all_every : (ns : List ℕ) → All (λ n. a n ≡ true) ns → every true (map a ns) ≡ true
  all_every [] h = refl
  all_every (n ∷ ns) h = both (a n) (every true (map a ns)) (All-head (λ m. a m ≡ true) n ns h) (all_every ns (All-tail (λ m. a m ≡ true) n ns h))

  every_once : (ns : List ℕ) → every true (map a (once ns)) ≡ every true (map a ns)
  every_once ns =
      same_bool (every true (map a (once ns))) (every true (map a ns))
      (λ h. all_every ns (All-of_once (λ n. a n ≡ true) [] ns (every_all (once ns) h)).1)
      (λ h. all_every (once ns) (All-once (λ n. a n ≡ true) ns (every_all ns h)))

-- ---- comparisons of values

module _ (v : ℕ → Value) (r : Value → Value → Bool) (s : Sense) where
  rising_every : ((i j : ℕ) → r (v i) (v j) ≡ order_holds v (order s i j)) → (i : ℕ) (js : List ℕ)
      → chain_from r (v i) (map v js) ≡ every true (map (order_holds v) (rising s i js))
  rising_every e i [] = refl
  rising_every e i (j ∷ js) =
      ap (λ x. x && chain_from r (v j) (map v js)) (e i j) ∙ ap (λ x. order_holds v (order s i j) && x) (rising_every e j js)

  falling_every : ((i j : ℕ) → r (v i) (v j) ≡ order_holds v (order s j i)) → (i : ℕ) (js : List ℕ)
      → chain_from r (v i) (map v js) ≡ every true (map (order_holds v) (falling s i js))
  falling_every e i [] = refl
  falling_every e i (j ∷ js) =
      ap (λ x. x && chain_from r (v j) (map v js)) (e i j) ∙ ap (λ x. order_holds v (order s j i) && x) (falling_every e j js)

pub order_every : (v : ℕ → Value) (o : Operator) (is : List ℕ) → IsTrue (orders o) → operate o (map v is) ≡ Truth (every true (map (order_holds v) (order_atoms o is)))
order_every v AtMost [] h = refl
order_every v AtMost (i ∷ is) h = ap Truth (rising_every v (compare int_le) NotAbove (λ i j. refl) i is)
order_every v Less [] h = refl
order_every v Less (i ∷ is) h = ap Truth (rising_every v (compare int_lt) Below (λ i j. refl) i is)
order_every v AtLeast [] h = refl
order_every v AtLeast (i ∷ is) h = ap Truth (falling_every v (compare int_ge) NotAbove (λ i j. refl) i is)
order_every v Greater [] h = refl
order_every v Greater (i ∷ is) h = ap Truth (falling_every v (compare int_gt) Below (λ i j. refl) i is)
order_every v o is h = absurd (let x : false ≡ true = h in cc)

pub order_tied : OrderIsTied
order_tied o v a t bounds is h agree =
    let whole : operate o (map v is) ≡ Truth (every true (map a (once bounds))) =
    order_every v o is h ∙ ap (λ bs. Truth (every true bs)) (sym agree) ∙ ap Truth (sym (every_once a bounds)) in
    (λ e. joined_true a true t (once bounds) (e ∙ ap truth_of whole), λ all. ap Truth (joined_says a true t (once bounds) all) ∙ sym whole)

-- ---- equalities

and_true : (b : Bool) → b ≡ (b && true)
and_true true = refl
and_true false = refl

pub same_orders : (v : ℕ → Value) (i j : ℕ) → IsNumber (v i) → IsNumber (v j)
    → same_value (v i) (v j) ≡ every true (order_holds v (order NotAbove i j) ∷ order_holds v (order NotAbove j i) ∷ [])
same_orders v i j number_i number_j =
    ap (λ x. same_value x (v j)) number_i ∙ ap (λ y. same_value (Whole (number_of (v i))) y) number_j ∙ eq_orders (number_of (v i)) (number_of (v j))
    ∙ ap (λ b. order_holds v (order NotAbove i j) && b) (and_true (order_holds v (order NotAbove j i)))

pub equality_tied : EqualityIsTied
equality_tied v a same below above i j number_i number_j is_below is_above =
    let pair : List ℕ = below ∷ above ∷ [] in
    let whole : same_value (v i) (v j) ≡ every true (map a (once pair)) =
    same_orders v i j number_i number_j ∙ ap (λ x. x && (order_holds v (order NotAbove j i) && true)) (sym is_below) ∙ ap (λ y. a below && (y && true)) (sym is_above) ∙ sym (every_once a pair) in
    (λ e. joined_true a true same (once pair) (e ∙ whole), λ all. joined_says a true same (once pair) all ∙ sym whole)

pub neither : (same below above : ℕ) → same ≢ below → same ≢ above → Contains (below ∷ above ∷ []) same → ⊥
neither same below above nb na (zero, l, e) = nb (sym e)
neither same below above nb na (suc zero, l, e) = na (sym e)
neither same below above nb na (suc (suc k), l, e) = absurd (omega (arith, l))
