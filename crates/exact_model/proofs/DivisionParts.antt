-- `div`, `mod`, `abs` and divisibility, and sums, differences and products, have the values that their operators make.
use Rattle.std.proofs.Common.{◌≡◌, ◌≢◌, ℕ, true, false, List, [], ◌∷◌, ◌++◌, map, All, Contains, Option, Some, None, refl, sym, ap, ap₂, subst, ◌∙◌, arith}
use Rattle.std.specs.Prelude.{ℤ, pos, ◌+ℤ◌, ◌-ℤ◌, ◌*ℤ◌, int_le, IsTrue, flat_map, ◌&&◌}
use Rattle.std.proofs.lemmas.List.Elements.{All-nil, All-cons, All-head, All-weaker}
use Rattle.literals.specs.Signed.{Signed}
use Rattle.smt_meaning.specs.declared.values.Value.TheVariants.{Truth, Whole}
use Rattle.smt_meaning.specs.declared.values.Sort.TheVariants.{Bool as Truths, Int as Ints}
use Rattle.smt_meaning.specs.declared.terms.Operator.{Operator}
use Rattle.smt_meaning.specs.declared.terms.Operator.TheVariants.{Add, Subtract, Multiply, Divide, Modulo, Absolute, Divisible}
use Rattle.smt_meaning.specs.declared.terms.Head.TheVariants.{Numeral, Theory}
use Rattle.smt_meaning.specs.Term.{Tree, Trees, node, none, more, tree_at, truth_of, operate, Interpretation}
use Rattle.smt_meaning.specs.TreeShape.{is_divisor, is_constant, is_linear, are_linear, is_arithmetic, tree_eq, quotient_tree}
use Rattle.smt_meaning.specs.Linear.{Form, linear_form, form_times}
use Rattle.smt_meaning.specs.Division.{Limit, combined}
use Rattle.smt_meaning.specs.Nodes.{pick}
use Rattle.smt_meaning.specs.Ranges.{sum_at, form_at}
use Rattle.smt_laws.specs.Rows.{multiples_value, limit_holds, place_form, place_divisor}
use Rattle.smt_laws.proofs.Both.{and_left}
use Rattle.smt_laws.proofs.LinearLaw.{constant_bare}
use Rattle.smt_laws.proofs.DivisionLaw.{divisor_is}
use Rattle.search_port.specs.State.{IsMadeTrue}
use Rattle.pair_bounds.specs.declared.rows.RowLimit.{RowLimit}
use Rattle.pair_bounds.specs.declared.rows.Row.{Row}
use Rattle.pair_bounds.specs.Rows.{listed, limits, limit_of_row, placed_rows}
use Rattle.check_atoms.specs.Parts.{IsMarked}
use Rattle.check_atoms.specs.PartAtoms.{atom_of}
use Rattle.check_atoms.specs.declared.part.PartAtom.TheVariants.{Limit as LimitAtom}
use Rattle.check_atoms.specs.OfStack.{IsNode}
use Rattle.order_clauses.specs.Clauses.{has_rows, sort_at, limit_bound, limit_number, of_limit, of_other, row_clause, row_part, division_part}
use Rattle.order_clauses.specs.Needed.{limits_of_division}
use Rattle.order_clauses.specs.Decided.{IsGiven, number_at as value_number, FitsLimits, DividesBy, DivisionPartIsDecided}
use Rattle.order_clauses.proofs.Soundness.{All-unmap, All-left, All-right, All-flat, All-unflat, All-both}
use Rattle.exact_model.specs.Exact.{exact, exact_at}
use Rattle.exact_model.specs.Operators.{HasValueOf}
use Rattle.exact_model.proofs.Forms.{form_plus_at, form_times_at, bare_at}
use Rattle.exact_model.proofs.Heads.{sum_has}
use Rattle.exact_model.proofs.NormalBounds.{constant_moved}
use Rattle.exact_model.proofs.FullLogs.{Case, ts, first, within, normal_given, number_exact, truth_told}
use Rattle.exact_model.proofs.OrderParts.{w, v, place_number}
use Rattle.exact_model.proofs.PartSorts.{HasListed, arguments_marked, stands_here}

-- ---- divisors

any : Interpretation
any f vs = Truth false

divisor_constant : (t : Tree) → is_divisor t ≡ true → is_constant t ≡ true
divisor_constant (node (Numeral k) none) h = refl
divisor_constant (node (Theory Subtract) (more (node (Numeral k) none) none)) h = refl
divisor_constant t h = absurd cc

-- the second argument of a linear division is a divisor
second_divides : (o : Operator) (t u : Tree) (us : Trees) → IsTrue (has_rows o) → (o ≡ Absolute → ⊥) → is_linear (node (Theory o) (more t (more u us))) ≡ true → is_divisor u ≡ true
second_divides Divide t u none h other l = and_left (is_divisor u) (are_linear (more t (more u none))) l
second_divides Divide t u (more q us) h other l = absurd cc
second_divides Modulo t u none h other l = absurd cc
second_divides Modulo t u (more q none) h other l =
    and_left (is_divisor u) (tree_eq q (quotient_tree t u)) (and_left (is_divisor u && tree_eq q (quotient_tree t u)) (are_linear (more t (more u (more q none)))) l)
second_divides Modulo t u (more q (more r us)) h other l = absurd cc
second_divides Divisible t u none h other l = absurd cc
second_divides Divisible t u (more q none) h other l =
    and_left (is_divisor u) (tree_eq q (quotient_tree t u)) (and_left (is_divisor u && tree_eq q (quotient_tree t u)) (are_linear (more t (more u (more q none)))) l)
second_divides Divisible t u (more q (more r us)) h other l = absurd cc
second_divides Absolute t u us h other l = absurd (other refl)
second_divides o t u us h other l = absurd cc

module _ (c : Case) where
  linear_here : (p : ℕ) → IsMarked c.marks p → is_linear (tree_at (ts c) p) ≡ true
  linear_here p m = c.lawful.linear p _ (within c p m)

  -- ---- limits

  combined_at : (ms : List (ℤ × ℕ)) → form_at (w c) (combined (place_form (ts c)) ms) ≡ multiples_value (value_number (v c)) ms
  combined_at [] = refl
  combined_at (m ∷ ms) =
      form_plus_at (w c) (form_times m.0 (place_form (ts c) m.1)) (combined (place_form (ts c)) ms)
      ∙ ap₂ (λ x y. x +ℤ y) (form_times_at (w c) m.0 (place_form (ts c) m.1) ∙ ap (λ z. m.0 *ℤ z) (sym (place_number c m.1))) (combined_at ms)

  -- its bound is numbered, and the clause of one of the empty sum is made true
  abbrev IsHeld : RowLimit → Type 0
  IsHeld l = Contains (first c) (limit_bound (ts c) l) × All (IsMadeTrue c.fitting.log) (of_limit (ts c) (first c) l)

  abbrev IsTold : RowLimit → Type 0
  IsTold l = IsGiven c.fitting.log (limit_number (ts c) (first c) l) (limit_holds (value_number (v c)) (limit_of_row l))

  limit_told : (l : RowLimit) → IsHeld l → IsGiven c.fitting.log (limit_number (ts c) (first c) l) (limit_holds (value_number (v c)) (limit_of_row l))
  limit_told l has =
      let k : Limit ℕ = limit_of_row l in
      let f : Form = combined (place_form (ts c)) k.multiples in
      normal_given c f.sum (k.most -ℤ f.constant) (limit_holds (value_number (v c)) k)
      (constant_moved (sum_at (w c) f.sum) k.most f.constant ∙ ap (λ z. int_le z k.most) (combined_at k.multiples)) has.0 has.1

  abbrev IsNumbered : RowLimit → Type 0
  IsNumbered l = Contains (first c) (limit_bound (ts c) l)

  abbrev IsConstant : RowLimit → Type 0
  IsConstant l = All (IsMadeTrue c.fitting.log) (of_limit (ts c) (first c) l)

  others_constant : (o : Option RowLimit) → All (IsMadeTrue c.fitting.log) (of_other (ts c) (first c) o) → All IsConstant (listed o)
  others_constant None h = All-nil IsConstant
  others_constant (Some l) h = All-cons IsConstant l [] h (All-nil IsConstant)

  row_told : (p : ℕ) (r : Row) → All IsNumbered (limits r) × All (IsMadeTrue c.fitting.log) (row_part (ts c) (first c) p r) → All IsTold (limits r)
  row_told p r h =
      let one : List (List Signed) = of_limit (ts c) (first c) r.limit in
      let other : List (List Signed) = of_other (ts c) (first c) r.other in
      let both : All (IsMadeTrue c.fitting.log) (one ++ other) = All-left (IsMadeTrue c.fitting.log) (one ++ other) (row_clause (ts c) (first c) p r ∷ []) h.1 in
      All-weaker IsHeld IsTold limit_told (limits r)
      (All-both IsNumbered IsConstant (limits r) h.0
      (All-cons IsConstant r.limit (listed r.other) (All-left (IsMadeTrue c.fitting.log) one other both) (others_constant r.other (All-right (IsMadeTrue c.fitting.log) one other both))))

  module _ (p : ℕ) (o : Operator) (is : List ℕ) (m : IsMarked c.marks p) (n : IsNode (ts c) p (Theory o) is) (made : All (IsMadeTrue c.fitting.log) (division_part (ts c) (first c) o p is)) where
    limits_fit : FitsLimits (v c) c.fitting.log (ts c) (first c) (limits_of_division (ts c) o p is)
    limits_fit =
        let rows : List Row = placed_rows o (place_divisor (ts c) is) p is in
        let known : All IsNumbered (flat_map limits rows) =
        All-unmap (λ a. Contains (first c) (atom_of (ts c) a)) LimitAtom (flat_map limits rows)
        (All-unmap (Contains (first c)) (atom_of (ts c)) (map LimitAtom (flat_map limits rows)) (c.numbers c.stack c.marks (first c) c.fitting.check.decided.atoms p o is m n).division) in
        All-flat (λ r. All IsNumbered (limits r) × All (IsMadeTrue c.fitting.log) (row_part (ts c) (first c) p r)) IsTold limits (row_told p) rows
        (All-both (λ r. All IsNumbered (limits r)) (λ r. All (IsMadeTrue c.fitting.log) (row_part (ts c) (first c) p r)) rows (All-unflat IsNumbered limits rows known)
        (All-unflat (IsMadeTrue c.fitting.log) (row_part (ts c) (first c) p) rows made))

  divides_second : (a d : ℕ) (is : List ℕ) → is_divisor (tree_at (ts c) d) ≡ true → (value_number (v c) d ≡ place_divisor (ts c) (a ∷ d ∷ is)) × (place_divisor (ts c) (a ∷ d ∷ is) ≢ pos 0)
  divides_second a d is h = (
    place_number c d ∙ bare_at (w c) (linear_form (ts c) (tree_at (ts c) d)) (constant_bare (ts c) (tree_at (ts c) d) (divisor_constant (tree_at (ts c) d) h)),
    (divisor_is (ts c) any (tree_at (ts c) d) h).1,
  )

  linear_divides : (p : ℕ) (o : Operator) (a d : ℕ) (is : List ℕ) → IsMarked c.marks p → IsNode (ts c) p (Theory o) (a ∷ d ∷ is) → IsTrue (has_rows o) → (o ≡ Absolute → ⊥) → is_divisor (tree_at (ts c) d) ≡ true
  linear_divides p o a d is m n h other =
      second_divides o (tree_at (ts c) a) (tree_at (ts c) d) (pick (ts c) is) h other (subst (λ t. is_linear t ≡ true) n.tree (linear_here p m))

  divides : (p : ℕ) (o : Operator) (is : List ℕ) → IsMarked c.marks p → IsNode (ts c) p (Theory o) is → IsTrue (has_rows o) → DividesBy (v c) (ts c) o is
  divides p Absolute is m n h = tt
  divides p Divide (a ∷ d ∷ is) m n h = divides_second a d is (linear_divides p Divide a d is m n h (λ e. cc))
  divides p Modulo (a ∷ d ∷ is) m n h = divides_second a d is (linear_divides p Modulo a d is m n h (λ e. cc))
  divides p Divisible (a ∷ d ∷ is) m n h = divides_second a d is (linear_divides p Divisible a d is m n h (λ e. cc))
  divides p o (a ∷ d ∷ is) m n h = absurd cc
  divides p o [] m n h = tt
  divides p o (a ∷ []) m n h = tt

  module _ (decided : DivisionPartIsDecided) (p : ℕ) (is : List ℕ) (m : IsMarked c.marks p) where
    pub quotient_has : IsNode (ts c) p (Theory Divide) is → sort_at c.fitting.check.sorts p ≡ Ints → All (IsMadeTrue c.fitting.log) (division_part (ts c) (first c) Divide p is) → HasValueOf (ts c) c.values p Divide is
    quotient_has n own made =
        decided (v c) c.fitting.log (ts c) (first c) Divide p is refl (stands_here c p Divide is m n) c.fitting.check.consistent (divides p Divide is m n refl) (limits_fit p Divide is m n made) made (number_exact c p m own)

    pub remainder_has : IsNode (ts c) p (Theory Modulo) is → sort_at c.fitting.check.sorts p ≡ Ints → All (IsMadeTrue c.fitting.log) (division_part (ts c) (first c) Modulo p is) → HasValueOf (ts c) c.values p Modulo is
    remainder_has n own made =
        decided (v c) c.fitting.log (ts c) (first c) Modulo p is refl (stands_here c p Modulo is m n) c.fitting.check.consistent (divides p Modulo is m n refl) (limits_fit p Modulo is m n made) made (number_exact c p m own)

    pub absolute_has : IsNode (ts c) p (Theory Absolute) is → sort_at c.fitting.check.sorts p ≡ Ints → All (IsMadeTrue c.fitting.log) (division_part (ts c) (first c) Absolute p is) → HasValueOf (ts c) c.values p Absolute is
    absolute_has n own made =
        decided (v c) c.fitting.log (ts c) (first c) Absolute p is refl (stands_here c p Absolute is m n) c.fitting.check.consistent (divides p Absolute is m n refl) (limits_fit p Absolute is m n made) made (number_exact c p m own)

    pub divisible_has : IsNode (ts c) p (Theory Divisible) is → sort_at c.fitting.check.sorts p ≡ Truths → All (IsMadeTrue c.fitting.log) (division_part (ts c) (first c) Divisible p is)
        → HasValueOf (ts c) c.values p Divisible is
    divisible_has n own made =
        truth_told c p (truth_of (operate Divisible (map (v c) is))) m own
        (decided (v c) c.fitting.log (ts c) (first c) Divisible p is refl (stands_here c p Divisible is m n) c.fitting.check.consistent (divides p Divisible is m n refl) (limits_fit p Divisible is m n made) made)

  -- ---- sums, differences and products

  -- of one argument
  alone_exact : (p i : ℕ) → IsMarked c.marks i → sort_at c.fitting.check.sorts i ≡ Ints → v c p ≡ Whole (form_at (w c) (linear_form (ts c) (tree_at (ts c) i))) → v c p ≡ v c i
  alone_exact p i m int h = h ∙ ap Whole (sym (place_number c i)) ∙ sym (number_exact c i m int)

  sum_exact : (p i : ℕ) → IsNode (ts c) p (Theory Add) (i ∷ []) → v c p ≡ Whole (form_at (w c) (linear_form (ts c) (tree_at (ts c) i)))
  unfolding exact exact_at
  sum_exact p i n = ap (exact (ts c) c.values) n.tree

  product_exact : (p i : ℕ) → IsNode (ts c) p (Theory Multiply) (i ∷ []) → v c p ≡ Whole (form_at (w c) (linear_form (ts c) (tree_at (ts c) i)))
  unfolding exact exact_at
  product_exact p i n = ap (exact (ts c) c.values) n.tree

  pub arithmetic_has : (p : ℕ) (o : Operator) (is : List ℕ) → is_arithmetic o ≡ true → IsMarked c.marks p → IsNode (ts c) p (Theory o) is → All (HasListed c Ints) is → HasValueOf (ts c) c.values p o is
  arithmetic_has p Add [] a m n ints = absurd (let e : false ≡ true = stands_here c p Add [] m n in cc)
  arithmetic_has p Add (i ∷ []) a m n ints = alone_exact p i (All-head (IsMarked c.marks) i [] (arguments_marked c p Add (i ∷ []) m n)) (All-head (HasListed c Ints) i [] ints) (sum_exact p i n)
  arithmetic_has p Add (i ∷ j ∷ is) a m n ints = sum_has (ts c) c.values p Add (i ∷ j ∷ is) n.tree refl (omega arith) (linear_here p m)
  arithmetic_has p Subtract [] a m n ints = absurd (let e : false ≡ true = stands_here c p Subtract [] m n in cc)
  arithmetic_has p Subtract (i ∷ is) a m n ints = sum_has (ts c) c.values p Subtract (i ∷ is) n.tree refl (omega arith) (linear_here p m)
  arithmetic_has p Multiply [] a m n ints = absurd (let e : false ≡ true = stands_here c p Multiply [] m n in cc)
  arithmetic_has p Multiply (i ∷ []) a m n ints =
      alone_exact p i (All-head (IsMarked c.marks) i [] (arguments_marked c p Multiply (i ∷ []) m n)) (All-head (HasListed c Ints) i [] ints) (product_exact p i n)
  arithmetic_has p Multiply (i ∷ j ∷ is) a m n ints = sum_has (ts c) c.values p Multiply (i ∷ j ∷ is) n.tree refl (omega arith) (linear_here p m)
  arithmetic_has p o is a m n ints = absurd cc
