-- Comparisons of Ints have the values that their operators make.
use Rattle.std.proofs.Common.{◌≡◌, ℕ, List, map, All, Contains, refl, sym, ap₂, ◌∙◌}
use Rattle.std.specs.Prelude.{IsTrue, ℤ, pos, ◌-ℤ◌, neg_ℤ, flat_map}
use Rattle.std.proofs.lemmas.List.Elements.{All-weaker}
use Rattle.smt_meaning.specs.declared.values.Value.{Value}
use Rattle.smt_meaning.specs.declared.values.Value.TheVariants.{Truth}
use Rattle.smt_meaning.specs.declared.values.Sort.TheVariants.{Bool as Truths}
use Rattle.smt_meaning.specs.declared.terms.Operator.{Operator}
use Rattle.smt_meaning.specs.declared.terms.Operator.TheVariants.{AtMost, Less, AtLeast, Greater}
use Rattle.smt_meaning.specs.declared.terms.Head.TheVariants.{Theory}
use Rattle.smt_meaning.specs.Term.{tree_at, number_of, truth_of, operate}
use Rattle.smt_meaning.specs.Linear.{Form, linear_form}
use Rattle.smt_meaning.specs.Atoms.{difference_of}
use Rattle.smt_meaning.specs.Ranges.{sum_at, form_at}
use Rattle.search_port.specs.State.{IsMadeTrue}
use Rattle.bound_clauses.specs.declared.orders.Sense.{Sense}
use Rattle.bound_clauses.specs.declared.orders.Sense.TheVariants.{NotAbove, Below}
use Rattle.bound_clauses.specs.declared.orders.Order.{Order}
use Rattle.bound_clauses.specs.Orders.{order, order_atoms, order_holds, bound_atom}
use Rattle.bound_clauses.specs.Ties.{order_clauses}
use Rattle.bound_clauses.specs.Laws.{orders}
use Rattle.bound_clauses.proofs.Whole.{le_moved, lt_moved}
use Rattle.check_atoms.specs.Parts.{IsMarked}
use Rattle.check_atoms.specs.OfStack.{IsNode}
use Rattle.order_clauses.specs.Clauses.{sort_at, bound_number, truth_number, of_bound, order_part}
use Rattle.order_clauses.specs.Decided.{IsGiven, FitsOrders, OrderPartIsDecided}
use Rattle.order_clauses.proofs.Soundness.{All-unmap, All-left, All-unflat, All-both}
use Rattle.exact_model.specs.Exact.{exact_at, number_at}
use Rattle.exact_model.specs.Sums.{number_of_place}
use Rattle.exact_model.specs.Operators.{HasValueOf}
use Rattle.exact_model.proofs.Forms.{form_minus_at}
use Rattle.exact_model.proofs.Comparing.{number_at_place}
use Rattle.exact_model.proofs.FullLogs.{Case, ts, first, normal_given, truth_told}

module _ (c : Case) where
  abbrev pub w : ℕ → ℤ
  w = number_at c.values

  abbrev pub v : ℕ → Value
  v = exact_at (ts c) c.values

  pub place_number : (i : ℕ) → number_of (v i) ≡ form_at w (linear_form (ts c) (tree_at (ts c) i))
  unfolding number_of_place
  place_number i = sym (number_at_place (ts c) c.values i)

  difference_at : (i j : ℕ) → form_at w (difference_of (ts c) (tree_at (ts c) i) (tree_at (ts c) j)) ≡ number_of (v i) -ℤ number_of (v j)
  difference_at i j =
      form_minus_at w (linear_form (ts c) (tree_at (ts c) i)) (linear_form (ts c) (tree_at (ts c) j)) ∙ ap₂ (λ x y. x -ℤ y) (sym (place_number i)) (sym (place_number j))

  -- its bound is numbered, and the clause of one of the empty sum is made true
  abbrev pub IsHeld : Order → Type 0
  IsHeld o = Contains (first c) (bound_atom (ts c) o) × All (IsMadeTrue c.fitting.log) (of_bound (ts c) (first c) o)

  pub order_told : (s : Sense) (i j : ℕ) → IsHeld (order s i j) → IsGiven c.fitting.log (bound_number (ts c) (first c) (order s i j)) (order_holds v (order s i j))
  order_told NotAbove i j has =
      let f : Form = difference_of (ts c) (tree_at (ts c) i) (tree_at (ts c) j) in
      normal_given c f.sum (neg_ℤ f.constant) (order_holds v (order NotAbove i j)) (le_moved (sum_at w f.sum) f.constant (number_of (v i)) (number_of (v j)) (difference_at i j)) has.0 has.1
  order_told Below i j has =
      let f : Form = difference_of (ts c) (tree_at (ts c) i) (tree_at (ts c) j) in
      normal_given c f.sum (neg_ℤ f.constant -ℤ pos 1) (order_holds v (order Below i j)) (lt_moved (sum_at w f.sum) f.constant (number_of (v i)) (number_of (v j)) (difference_at i j)) has.0 has.1

  -- the log tells of each such order what holds of the exact values
  pub orders_fit : (os : List Order) → All IsHeld os → FitsOrders v c.fitting.log (ts c) (first c) os
  orders_fit os has = All-weaker IsHeld (λ (o : Order). IsGiven c.fitting.log (bound_number (ts c) (first c) o) (order_holds v o)) (λ o h. order_told o.sense o.lesser o.greater h) os has

  pub orders_held : (os : List Order) → All (λ (o : Order). Contains (first c) (bound_atom (ts c) o)) os → All (IsMadeTrue c.fitting.log) (flat_map (of_bound (ts c) (first c)) os) → All IsHeld os
  orders_held os has made =
      All-both (λ (o : Order). Contains (first c) (bound_atom (ts c) o)) (λ (o : Order). All (IsMadeTrue c.fitting.log) (of_bound (ts c) (first c) o)) os has
      (All-unflat (IsMadeTrue c.fitting.log) (of_bound (ts c) (first c)) os made)

  orders_truth : (o : Operator) (vs : List Value) → IsTrue (orders o) → operate o vs ≡ Truth (truth_of (operate o vs))
  orders_truth AtMost vs h = refl
  orders_truth Less vs h = refl
  orders_truth AtLeast vs h = refl
  orders_truth Greater vs h = refl
  orders_truth o vs h = absurd cc

  pub order_has : OrderPartIsDecided → (p : ℕ) (o : Operator) (is : List ℕ) → IsTrue (orders o) → IsMarked c.marks p → IsNode (ts c) p (Theory o) is → sort_at c.fitting.check.sorts p ≡ Truths
      → All (IsMadeTrue c.fitting.log) (order_part (ts c) (first c) o p is) → HasValueOf (ts c) c.values p o is
  order_has decided p o is h m n own made =
      let os : List Order = order_atoms o is in
      let known : All (λ (q : Order). Contains (first c) (bound_atom (ts c) q)) os =
      All-unmap (Contains (first c)) (bound_atom (ts c)) os ((c.numbers c.stack c.marks (first c) c.fitting.check.decided.atoms p o is m n).comparison h) in
      let held : All IsHeld os =
      orders_held os known
      (All-left (IsMadeTrue c.fitting.log) (flat_map (of_bound (ts c) (first c)) os) (order_clauses (truth_number (first c) p) (map (bound_number (ts c) (first c)) os)) made) in
      truth_told c p (truth_of (operate o (map v is))) m own (decided v c.fitting.log (ts c) (first c) o p is h c.fitting.check.consistent (orders_fit os held) made)
      ∙ sym (orders_truth o (map v is) h)
