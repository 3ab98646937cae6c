-- The clauses of a division are true under every interpretation.
use Rattle.std.proofs.Common.{◌≡◌, ◌≢◌, ℕ, zero, suc, Bool, true, false, not, ◌&&◌, ◌||◌, List, [], ◌∷◌, ◌++◌, map, flat_map, All, Option, Some, None, ap, sym, subst, ◌∙◌, refl, arith}
use Rattle.std.specs.Prelude.{ℤ, pos, negsuc, ◌+ℤ◌, ◌-ℤ◌, ◌*ℤ◌, ◌≤ℤ◌, int_le, IsTrue}
use Rattle.std.specs.List.{list_all}
use Rattle.std.proofs.lemmas.Int.{ints}
use Rattle.std.proofs.lemmas.List.Elements.{All-nil, All-cons, All-head, All-tail, All-map}
use Rattle.smt_meaning.specs.declared.terms.Operator.{Operator}
use Rattle.smt_meaning.specs.declared.terms.Operator.TheVariants.{Subtract, Divide, Modulo, Absolute, Divisible}
use Rattle.smt_meaning.specs.declared.terms.Head.{Head}
use Rattle.smt_meaning.specs.declared.terms.Head.TheVariants.{Numeral, Theory}
use Rattle.smt_meaning.specs.Term.{Tree, Trees, node, none, more, tree_at, Interpretation, value, number_of, truth_of, int_eq, quotient, remainder}
use Rattle.smt_meaning.specs.TreeShape.{place_of, is_among, is_linear, are_linear, is_linear_at, is_divisor, tree_eq, quotient_tree}
use Rattle.smt_meaning.specs.Clause.{sum_value, value_at, atom_true, some_true}
use Rattle.smt_meaning.specs.Linear.{Form, form_value, form_times, linear_form, leaves, leaves_of}
use Rattle.smt_meaning.specs.Division.{Limit, Row, divisor_of, operator_rows, rows_at, row_fits, rows_fit, listed, combined}
use Rattle.smt_meaning.specs.Nodes.{pick}
use Rattle.smt_meaning.specs.Atoms.{division_clauses, limit_atom, row_atoms, positive, truth_literals, row_literals}
use Rattle.smt_laws.specs.Rows.{place_form, place_divisor, placed_literals, multiples_value, limit_holds, one_holds, truth_holds, row_holds, rows_hold}
use Rattle.smt_laws.specs.ClauseLaws.{LimitsHaveValues, IsRowOf, DivisorIsItsNumber, DivisionRowsHold, DivisionClausesAreTrue, DivisionAtomsByPlaces, DivisionFitsByPlaces, DivisionClausesByPlaces, DivisionHoldsByPlaces}
use Rattle.smt_laws.proofs.Both.{and_left, and_right}
use Rattle.smt_laws.proofs.Included.{All-included, included_left, included_right}
use Rattle.smt_laws.proofs.SameTree.{found_again, tree_eq-true}
use Rattle.smt_laws.proofs.LinearLaw.{form_times_value, form_plus_value, minus_one, has_value}
use Rattle.smt_laws.proofs.BoundLaw.{normal_bound_value}
use Rattle.smt_laws.proofs.RowLaw.{le_true, true_le, of_term, rows_force, absolute_forced}

-- ---- limits

same_test : (a b c d : ℤ) → (a ≤ℤ b → c ≤ℤ d) → (c ≤ℤ d → a ≤ℤ b) → int_le a b ≡ int_le c d
same_test a b c d f g = go (int_le a b) (int_le c d) refl refl
  where
    go : (x y : Bool) → int_le a b ≡ x → int_le c d ≡ y → int_le a b ≡ int_le c d
    go true y p q = p ∙ sym (le_true c d (f (true_le a b p)))
    go false true p q = le_true a b (g (true_le c d q)) ∙ sym q
    go false false p q = p ∙ sym q

-- a constant on the other side
moved : (s k c : ℤ) → int_le s (k -ℤ c) ≡ int_le (s +ℤ c) k
moved s k c = same_test s (k -ℤ c) (s +ℤ c) k (λ h. omega (arith, ints, h)) (λ h. omega (arith, ints, h))

module _ {A : Type 0} (ts : List Tree) (I : Interpretation) (form : A → Form) (value : A → ℤ) where
  abbrev HasValue : ℤ × A → Type 0
  HasValue m = form_value ts I (form m.1) ≡ value m.1

  combined_value : (ms : List (ℤ × A)) → All HasValue ms → form_value ts I (combined form ms) ≡ multiples_value value ms
  combined_value [] h = refl
  combined_value (m ∷ ms) h =
      form_plus_value ts I (form_times m.0 (form m.1)) (combined form ms)
      ∙ ap (λ z. z +ℤ form_value ts I (combined form ms)) (form_times_value ts I m.0 (form m.1) ∙ ap (λ z. m.0 *ℤ z) (All-head HasValue m ms h))
      ∙ ap (λ z. m.0 *ℤ value m.1 +ℤ z) (combined_value ms (All-tail HasValue m ms h))

  limit_value : (l : Limit A) → All HasValue l.multiples → atom_true ts I (limit_atom form l) ≡ limit_holds value l
  limit_value l h =
      normal_bound_value ts I (combined form l.multiples).sum (l.most -ℤ (combined form l.multiples).constant)
      ∙ moved (sum_value ts I (combined form l.multiples).sum) l.most (combined form l.multiples).constant
      ∙ ap (λ z. int_le z l.most) (combined_value l.multiples h)

pub limits_valued : (A : Type 0) → LimitsHaveValues A
limits_valued A ts I form value l h = limit_value ts I form value l h

-- ---- rows

both_or : (a b c d : Bool) → a ≡ c → b ≡ d → (a || b) ≡ (c || d)
both_or a b c d p q = rw (p, q)

module _ (ts : List Tree) (I : Interpretation) where
  abbrev number : Tree → ℤ
  number u = number_of (value I u)

  abbrev IsRead : Tree → Type 0
  IsRead u = form_value ts I (linear_form ts u) ≡ number u

  limits_value : (ls : List (Limit Tree)) → All (λ (l : Limit Tree). All (λ (m : ℤ × Tree). IsRead m.1) l.multiples) ls
      → some_true ts I (map positive (map (limit_atom (linear_form ts)) ls)) ≡ one_holds number ls
  limits_value [] h = refl
  limits_value (l ∷ ls) h =
      both_or (atom_true ts I (limit_atom (linear_form ts) l)) (some_true ts I (map positive (map (limit_atom (linear_form ts)) ls))) (limit_holds number l) (one_holds number ls)
      (limit_value ts I (linear_form ts) number l (All-head (λ (k : Limit Tree). All (λ (m : ℤ × Tree). IsRead m.1) k.multiples) l ls h))
      (limits_value ls (All-tail (λ (k : Limit Tree). All (λ (m : ℤ × Tree). IsRead m.1) k.multiples) l ls h))

  false_or : (b : Bool) → b ≡ (false || b)
  false_or b = refl

  row_value : (place : ℕ) (r : Row Tree) → IsRowOf IsRead r → some_true ts I (row_literals ts place r) ≡ row_holds number (truth_of (value_at ts I place)) r
  row_value place r h = go r.truth
    where
      go : (b : Option Bool) → some_true ts I (truth_literals place b ++ map positive (row_atoms (linear_form ts) r)) ≡ (truth_holds (truth_of (value_at ts I place)) b || one_holds number r.limits)
      go None = limits_value r.limits h
      go (Some b) = both_or _ (some_true ts I (map positive (row_atoms (linear_form ts) r))) _ (one_holds number r.limits) refl (limits_value r.limits h)

  abbrev IsTrueClause : Row Tree → ℕ → Type 0
  IsTrueClause r place = IsTrue (some_true ts I (row_literals ts place r))

  rows_true : (place : ℕ) (truth : Bool) (rows : List (Row Tree)) → truth_of (value_at ts I place) ≡ truth → All (IsRowOf IsRead) rows → rows_hold number truth rows ≡ true
      → All (λ r. IsTrueClause r place) rows
  rows_true place truth [] e h k = All-nil (λ r. IsTrueClause r place)
  rows_true place truth (r ∷ rows) e h k =
      All-cons (λ r. IsTrueClause r place) r rows
      (row_value place r (All-head (IsRowOf IsRead) r rows h) ∙ ap (λ b. row_holds number b r) e ∙ and_left (row_holds number truth r) (rows_hold number truth rows) k)
      (rows_true place truth rows e (All-tail (IsRowOf IsRead) r rows h) (and_right (row_holds number truth r) (rows_hold number truth rows) k))

  -- ---- terms

  are_read : (us : Trees) → are_linear us ≡ true → All (λ u. IsTrue (is_among u ts)) (leaves_of us) → All IsRead (listed us)
  are_read none l a = All-nil IsRead
  are_read (more u us) l a =
      All-cons IsRead u (listed us)
      (sym (has_value ts I u (and_left (is_linear u) (are_linear us) l) (All-included (λ x. IsTrue (is_among x ts)) _ _ (included_left (leaves u) (leaves_of us)) a)))
      (are_read us (and_right (is_linear u) (are_linear us) l) (All-included (λ x. IsTrue (is_among x ts)) _ _ (included_right (leaves u) (leaves_of us)) a))

  divisor_number : (n : Tree) → is_divisor n ≡ true → number n ≡ (linear_form ts n).constant
  divisor_number (node (Numeral k) none) h = refl
  divisor_number (node (Theory Subtract) (more (node (Numeral k) none) none)) h = sym (minus_one k)
  divisor_number n h = cc

  not_zero : (k : ℤ) → not (int_eq k (pos 0)) ≡ true → k ≢ pos 0
  not_zero (pos zero) h e = cc
  not_zero (pos (suc k)) h e = cc
  not_zero (negsuc k) h e = cc

  divisor_some : (n : Tree) → is_divisor n ≡ true → (linear_form ts n).constant ≢ pos 0
  divisor_some (node (Numeral k) none) h = not_zero k h
  divisor_some (node (Theory Subtract) (more (node (Numeral k) none) none)) h = λ e. let turned = minus_one k in not_zero k h (omega (arith, ints, turned, e))
  divisor_some n h = cc

  -- a leaf among the trees is read
  leaf_read : (t : Tree) → is_linear t ≡ true → leaves t ≡ t ∷ [] → is_among t ts ≡ true → IsRead t
  leaf_read t l e a = sym (has_value ts I t l (subst (λ us. All (λ x. IsTrue (is_among x ts)) us) (sym e) (All-cons (λ x. IsTrue (is_among x ts)) t [] a (All-nil (λ x. IsTrue (is_among x ts))))))

  -- the clauses of a term whose rows hold
  term_true : (o : Operator) (us : Trees) (truth : Bool) → is_linear (node (Theory o) us) ≡ true → All (λ u. IsTrue (is_among u ts)) (leaves_of us)
      → leaves (node (Theory o) us) ≡ node (Theory o) us ∷ [] → is_among (node (Theory o) us) ts ≡ true → truth_of (value_at ts I (place_of (node (Theory o) us) ts)) ≡ truth
      → rows_hold number truth (operator_rows o (divisor_of ts us) (node (Theory o) us) (listed us)) ≡ true
      → All (λ c. IsTrue (some_true ts I c)) (division_clauses ts (node (Theory o) us))
  term_true o us truth l a e m f h =
      let t : Tree = node (Theory o) us in
      let rows : List (Row Tree) = operator_rows o (divisor_of ts us) t (listed us) in
      All-map (λ c. IsTrue (some_true ts I c)) (row_literals ts (place_of t ts)) rows
      (rows_true (place_of t ts) truth rows f
      (of_term IsRead o (divisor_of ts us) t (listed us) (leaf_read t l e m) (are_read us (and_right (is_linear_at (Theory o) us) (are_linear us) l) a)) h)

  -- the value of a quotient in a tree
  quotient_number : (a n : Tree) → is_divisor n ≡ true → number (quotient_tree a n) ≡ quotient (number a) (linear_form ts n).constant
  quotient_number a n h = ap (quotient (number a)) (divisor_number n h)

  remainder_number : (a n : Tree) → is_divisor n ≡ true → remainder (number a) (number n) ≡ remainder (number a) (linear_form ts n).constant
  remainder_number a n h = ap (remainder (number a)) (divisor_number n h)

  -- the third argument is the quotient
  -- a remainder and a divisibility have their divisor and their quotient beside them
  beside : (a n q : Tree) (rest : Bool) → ((is_divisor n && tree_eq q (quotient_tree a n)) && rest) ≡ true → (is_divisor n ≡ true) × (number q ≡ quotient (number a) (linear_form ts n).constant)
  beside a n q rest l =
      let both = and_left (is_divisor n && tree_eq q (quotient_tree a n)) rest l in
      let divides = and_left (is_divisor n) (tree_eq q (quotient_tree a n)) both in
      (divides, ap number (tree_eq-true q (quotient_tree a n) (and_right (is_divisor n) (tree_eq q (quotient_tree a n)) both)) ∙ quotient_number a n divides)

  -- the rows of a linear term hold of the values
  rows_valued : (h : Head) (us : Trees) → is_linear (node h us) ≡ true → rows_hold number (truth_of (value I (node h us))) (rows_at ts h us) ≡ true
  rows_valued (Theory Divide) (more a (more n none)) l =
      let us : Trees = more a (more n none) in
      let d : is_divisor n ≡ true = and_left (is_linear_at (Theory Divide) us) (are_linear us) l in
      (rows_force number (truth_of (value I (node (Theory Divide) us))) (linear_form ts n).constant (divisor_some n d)).quotient_meets (node (Theory Divide) us) a n (quotient_number a n d)
  rows_valued (Theory Modulo) (more a (more n (more q none))) l =
      let us : Trees = more a (more n (more q none)) in
      let b = beside a n q (are_linear us) l in
      (rows_force number (truth_of (value I (node (Theory Modulo) us))) (linear_form ts n).constant (divisor_some n b.0)).remainder_meets (node (Theory Modulo) us) a n q b.1 (remainder_number a n b.0)
  rows_valued (Theory Divisible) (more a (more n (more q none))) l =
      let us : Trees = more a (more n (more q none)) in
      let b = beside a n q (are_linear us) l in
      (rows_force number (truth_of (value I (node (Theory Divisible) us))) (linear_form ts n).constant (divisor_some n b.0)).divisibility_meets (node (Theory Divisible) us) a n q
      b.1 (ap (λ z. int_eq z (pos 0)) (remainder_number a n b.0))
  rows_valued (Theory Absolute) (more a none) l =
      (absolute_forced number (truth_of (value I (node (Theory Absolute) (more a none))))).absolute_meets (divisor_of ts (more a none)) (node (Theory Absolute) (more a none)) a refl
  rows_valued h us l = refl

  -- those of a term that is a leaf among the trees
  leaf_true : (o : Operator) (us : Trees) → is_linear (node (Theory o) us) ≡ true → All (λ u. IsTrue (is_among u ts)) (leaves_of us) → leaves (node (Theory o) us) ≡ node (Theory o) us ∷ []
      → is_among (node (Theory o) us) ts ≡ true → All (λ c. IsTrue (some_true ts I c)) (division_clauses ts (node (Theory o) us))
  leaf_true o us l a e m =
      term_true o us (truth_of (value I (node (Theory o) us))) l a e m (ap (λ u. truth_of (value I u)) (found_again (node (Theory o) us) ts m)) (rows_valued (Theory o) us l)

pub clauses_true : DivisionClausesAreTrue
clauses_true ts I (Theory Divide) us l a m = leaf_true ts I Divide us l a refl m
clauses_true ts I (Theory Modulo) us l a m = leaf_true ts I Modulo us l a refl m
clauses_true ts I (Theory Divisible) us l a m = leaf_true ts I Divisible us l a refl m
clauses_true ts I (Theory Absolute) us l a m = leaf_true ts I Absolute us l a refl m
clauses_true ts I h us l a m = All-nil (λ c. IsTrue (some_true ts I c))

pub divisor_is : DivisorIsItsNumber
divisor_is ts I d h = (divisor_number ts I d h, divisor_some ts I d h)

pub rows_hold_of : DivisionRowsHold
rows_hold_of ts I (node h us) l = rows_valued ts I h us l

-- ---- by places

module _ (ts : List Tree) where
  -- the rows of an operator say the same of trees and of their places
  record Placed (o : Operator) (n : ℤ) (p : ℕ) (is : List ℕ) : Type 0 where
    atoms : flat_map (row_atoms (linear_form ts)) (operator_rows o n (tree_at ts p) (listed (pick ts is))) ≡ flat_map (row_atoms (place_form ts)) (operator_rows o n p is)
    fit : rows_fit ts (operator_rows o n (tree_at ts p) (listed (pick ts is))) ≡ list_all (row_fits (place_form ts)) (operator_rows o n p is)
    clauses : map (row_literals ts p) (operator_rows o n (tree_at ts p) (listed (pick ts is))) ≡ map (placed_literals ts p) (operator_rows o n p is)
    hold : (I : Interpretation) (truth : Bool)
        → rows_hold (λ u. number_of (value I u)) truth (operator_rows o n (tree_at ts p) (listed (pick ts is))) ≡ rows_hold (λ i. number_of (value_at ts I i)) truth (operator_rows o n p is)

  placed : (o : Operator) (n : ℤ) (p : ℕ) (is : List ℕ) → Placed o n p is
  placed Divide n p (a ∷ d ∷ []) = record { atoms = refl; fit = refl; clauses = refl; hold = λ I truth. refl }
  placed Modulo n p (a ∷ d ∷ q ∷ []) = record { atoms = refl; fit = refl; clauses = refl; hold = λ I truth. refl }
  placed Divisible n p (a ∷ d ∷ q ∷ []) = record { atoms = refl; fit = refl; clauses = refl; hold = λ I truth. refl }
  placed Absolute n p (a ∷ []) = record { atoms = refl; fit = refl; clauses = refl; hold = λ I truth. refl }
  placed o n p is = record { atoms = refl; fit = refl; clauses = refl; hold = λ I truth. refl }

  divisor_placed : (is : List ℕ) → divisor_of ts (pick ts is) ≡ place_divisor ts is
  divisor_placed [] = refl
  divisor_placed (a ∷ []) = refl
  divisor_placed (a ∷ d ∷ is) = refl

  -- the rows of the tree at a place
  rows_placed : (o : Operator) (p : ℕ) (is : List ℕ) → tree_at ts p ≡ node (Theory o) (pick ts is)
      → rows_at ts (Theory o) (pick ts is) ≡ operator_rows o (place_divisor ts is) (tree_at ts p) (listed (pick ts is))
  rows_placed o p is e =
      ap (λ n. operator_rows o n (node (Theory o) (pick ts is)) (listed (pick ts is))) (divisor_placed is) ∙ ap (λ t. operator_rows o (place_divisor ts is) t (listed (pick ts is))) (sym e)

pub placed_atoms : DivisionAtomsByPlaces
placed_atoms ts o p is e = ap (flat_map (row_atoms (linear_form ts))) (rows_placed ts o p is e) ∙ (placed ts o (place_divisor ts is) p is).atoms

pub placed_fits : DivisionFitsByPlaces
placed_fits ts o p is e = ap (rows_fit ts) (rows_placed ts o p is e) ∙ (placed ts o (place_divisor ts is) p is).fit

pub placed_clauses : DivisionClausesByPlaces
placed_clauses ts o p is e f =
    ap (division_clauses ts) e ∙ ap (λ q. map (row_literals ts q) (rows_at ts (Theory o) (pick ts is))) (ap (λ t. place_of t ts) (sym e) ∙ f)
    ∙ ap (map (row_literals ts p)) (rows_placed ts o p is e) ∙ (placed ts o (place_divisor ts is) p is).clauses

pub placed_rows_hold : DivisionHoldsByPlaces
placed_rows_hold ts I o p is e l =
    sym (ap (rows_hold (λ u. number_of (value I u)) (truth_of (value_at ts I p))) (rows_placed ts o p is e) ∙ (placed ts o (place_divisor ts is) p is).hold I (truth_of (value_at ts I p)))
    ∙ ap (λ t. rows_hold (λ u. number_of (value I u)) (truth_of (value I t)) (rows_at ts (Theory o) (pick ts is))) e
    ∙ rows_valued ts I (Theory o) (pick ts is) (subst (λ t. is_linear t ≡ true) e l)
