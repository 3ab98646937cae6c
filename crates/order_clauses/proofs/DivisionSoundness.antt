-- The clauses of divisions are sound.
use Rattle.std.proofs.Common.{◌≡◌, ◌≢◌, ℕ, zero, ◌<◌, ◌||◌, Bool, true, false, nat_eq, List, [], ◌∷◌, ◌++◌, map, length, get_or, All, Contains, Option, Some, None, refl, sym, ap, subst, ◌∙◌, arith}
use Rattle.std.specs.Prelude.{IsTrue, ℤ, if◌then◌else◌}
use Rattle.std.proofs.lemmas.Bool.{eqb-true, eqb-false}
use Rattle.std.proofs.lemmas.List.Elements.{All-cons, All-nil, All-head, All-tail, All-append, All-map, All-weaker, All-contains, Contains-append_right}
use Rattle.literals.specs.Signed.{Signed, sign, some_true}
use Rattle.smt_laws.proofs.Both.{and_left, and_right}
use Rattle.smt_laws.specs.ClauseLaws.{LinearFormHasValue, LimitsHaveValues, IsRowOf, RowsAreOfTheTerm, DivisionHoldsByPlaces}
use Rattle.smt_laws.specs.Rows.{limit_holds, one_holds, truth_holds, row_holds, rows_hold, place_form, place_divisor}
use Rattle.smt_meaning.specs.declared.terms.Operator.{Operator}
use Rattle.smt_meaning.specs.declared.terms.Head.TheVariants.{Theory}
use Rattle.smt_meaning.specs.declared.clauses.Atom.{Atom}
use Rattle.smt_meaning.specs.declared.clauses.Atom.TheVariants.{Truth}
use Rattle.smt_meaning.specs.Declaration.{Declaration}
use Rattle.smt_meaning.specs.Term.{Tree, node, tree_at, Interpretation, number_of, truth_of}
use Rattle.smt_meaning.specs.Nodes.{pick}
use Rattle.smt_meaning.specs.Clause.{value_at, atom_true, signed}
use Rattle.smt_meaning.specs.Linear.{form_value}
use Rattle.smt_meaning.specs.Division.{Limit, operator_rows}
use Rattle.search_port.specs.State.{atom_at}
use Rattle.clause_form.specs.Node.{HasNoAtomTwice}
use Rattle.pair_bounds.specs.declared.rows.RowLimit.{RowLimit}
use Rattle.pair_bounds.specs.declared.rows.Row.{Row}
use Rattle.pair_bounds.specs.Rows.{listed, limits, limit_of_row, row_of, placed_rows, RowsAreAtoms}
use Rattle.equality_clauses.specs.Ties.{literal, yes}
use Rattle.bound_clauses.specs.Laws.{IsReadable, ConstantIsOver, ConstantHasValue}
use Rattle.order_clauses.specs.Clauses.{limit_bound, limit_number, of_limit, of_other, unless_same, other_numbers, row_numbers, row_truth, row_clause, row_part, truth_number, division_part}
use Rattle.order_clauses.specs.Needed.{row_truth_atoms, atoms_of_row, atoms_of_division}
use Rattle.order_clauses.specs.Sound.{IsSound, AreSound}
use Rattle.order_clauses.proofs.Soundness.{All-unmap, All-flat, All-unflat, no_pair_at, number_read, number_within, number_apart, kind, normal_kind, constant_sound}
use Rattle.order_clauses.proofs.DivisionCauses.{truths_of_row, bounds_of_row}

-- ---- the numbers of a row

module _ (ts : List Tree) (table : List Atom) where
  pub others_are : (m : ℕ) (o : Option RowLimit) (Q : ℕ → Type 0) → ((l : RowLimit) → Contains (listed o) l → Q (limit_number ts table l)) → All Q (other_numbers ts table m o)
  others_are m None Q f = All-nil Q
  others_are m (Some l) Q f = by (nat_eq m (limit_number ts table l))
    where
      by : (b : Bool) → All Q (if b then [] else limit_number ts table l ∷ [])
      by true = All-nil Q
      by false = All-cons Q (limit_number ts table l) [] (f l (zero, omega arith, refl)) (All-nil Q)

  pub numbers_are : (r : Row) (Q : ℕ → Type 0) → ((l : RowLimit) → Contains (limits r) l → Q (limit_number ts table l)) → All Q (row_numbers ts table r)
  numbers_are r Q f =
      All-cons Q (limit_number ts table r.limit) (other_numbers ts table (limit_number ts table r.limit) r.other) (f r.limit (zero, omega arith, refl))
      (others_are (limit_number ts table r.limit) r.other Q (λ l c. f l (Contains-append_right (r.limit ∷ []) (listed r.other) l c)))

  numbers_once : (m : ℕ) (o : Option RowLimit) → HasNoAtomTwice (map yes (m ∷ other_numbers ts table m o))
  numbers_once m None = (All-nil (λ (l : Signed). m ≢ l.atom), tt)
  numbers_once m (Some l) = by (nat_eq m (limit_number ts table l)) refl
    where
      by : (b : Bool) → nat_eq m (limit_number ts table l) ≡ b → HasNoAtomTwice (map yes (m ∷ (if b then [] else limit_number ts table l ∷ [])))
      by true e = (All-nil (λ (k : Signed). m ≢ k.atom), tt)
      by false e = (
        All-cons (λ (k : Signed). m ≢ k.atom) (yes (limit_number ts table l)) [] (eqb-false m (limit_number ts table l) e) (All-nil (λ (k : Signed). m ≢ k.atom)),
        (All-nil (λ (k : Signed). limit_number ts table l ≢ k.atom), tt),
      )

  -- ---- what is true of the numbers

  or_again : (b : Bool) → (b || (b || false)) ≡ true → (b || false) ≡ true
  or_again true h = refl
  or_again false h = h

  module _ (signs : ℕ → Bool) (value : ℕ → ℤ) where
    abbrev IsRight : RowLimit → Type 0
    IsRight l = signs (limit_number ts table l) ≡ limit_holds value (limit_of_row l)

    two_true : (m n : ℕ) → (signs m || (signs n || false)) ≡ true → some_true signs (map yes (m ∷ unless_same m n)) ≡ true
    two_true m n both = by (nat_eq m n) refl
      where
        by : (b : Bool) → nat_eq m n ≡ b → some_true signs (map yes (m ∷ (if b then [] else n ∷ []))) ≡ true
        by true e = or_again (signs m) (ap (λ i. signs m || (signs i || false)) (eqb-true m n e) ∙ both)
        by false e = both

    numbers_true : (l : RowLimit) (o : Option RowLimit) → IsRight l → All IsRight (listed o) → one_holds value (map limit_of_row (l ∷ listed o)) ≡ true
        → some_true signs (map yes (limit_number ts table l ∷ other_numbers ts table (limit_number ts table l) o)) ≡ true
    numbers_true l None right others h = ap (λ b. b || false) right ∙ h
    numbers_true l (Some k) right others h =
        two_true (limit_number ts table l) (limit_number ts table k)
        (ap (λ b. b || (signs (limit_number ts table k) || false)) right ∙ ap (λ b. limit_holds value (limit_of_row l) || (b || false)) (All-head IsRight k [] others) ∙ h)

    truth_true : (t : ℕ) (b : Bool) → sign b (signs t) ≡ signed b (signs t)
    truth_true t true = refl
    truth_true t false = refl

    pub clause_true : (p : ℕ) (r : Row) (truth : Bool) → ((b : Bool) → r.truth ≡ Some b → signs (truth_number table p) ≡ truth) → All IsRight (limits r) → row_holds value truth (row_of r) ≡ true → some_true signs (row_clause ts table p r) ≡ true
    clause_true p r truth says right h = by r.truth refl h
      where
        numbers : one_holds value (map limit_of_row (limits r)) ≡ true → some_true signs (map yes (row_numbers ts table r)) ≡ true
        numbers k = numbers_true r.limit r.other (All-head IsRight r.limit (listed r.other) right) (All-tail IsRight r.limit (listed r.other) right) k

        either : (a b c : Bool) → (a || b) ≡ true → (b ≡ true → c ≡ true) → (a || c) ≡ true
        either true b c h f = refl
        either false b c h f = f h

        by : (o : Option Bool) → r.truth ≡ o → (truth_holds truth o || one_holds value (map limit_of_row (limits r))) ≡ true → some_true signs (row_truth table p o ++ map yes (row_numbers ts table r)) ≡ true
        by None e k = numbers k
        by (Some b) e k =
            either (sign b (signs (truth_number table p))) (one_holds value (map limit_of_row (limits r))) (some_true signs (map yes (row_numbers ts table r)))
            (ap (λ x. x || one_holds value (map limit_of_row (limits r))) (truth_true (truth_number table p) b ∙ ap (signed b) (says b e)) ∙ k) numbers

-- ---- soundness

module _ (ds : List Declaration) (ts : List Tree) (table : List Atom) (is_over : ConstantIsOver) (has_value : ConstantHasValue) where
  limit_sound : (l : RowLimit) → Contains table (limit_bound ts l) → AreSound ds ts table (of_limit ts table l)
  limit_sound l c = constant_sound ds ts table is_over has_value (limit_bound ts l) (limit_number ts table l) (number_within table (limit_bound ts l) c) (number_read table (limit_bound ts l) c)

  other_sound : (o : Option RowLimit) → All (Contains table) (map (limit_bound ts) (listed o)) → AreSound ds ts table (of_other ts table o)
  other_sound None h = All-nil (IsSound ds ts table)
  other_sound (Some l) h = limit_sound l (All-head (Contains table) (limit_bound ts l) [] h)

  limit_kind : (l : RowLimit) → kind (limit_bound ts l) ≡ 1
  limit_kind l = normal_kind _ _

  module _ (p : ℕ) (r : Row) (has : All (Contains table) (atoms_of_row ts p r)) where
    bounds : All (λ l. Contains table (limit_bound ts l)) (limits r)
    bounds = All-unmap (Contains table) (limit_bound ts) (limits r) (bounds_of_row ts table p r has)

    bound_of : (l : RowLimit) → Contains (limits r) l → Contains table (limit_bound ts l)
    bound_of l c = All-contains (λ k. Contains table (limit_bound ts k)) (limits r) l bounds c

    within : All (λ (m : Signed). m.atom < length table) (row_clause ts table p r)
    within =
        All-append (λ (m : Signed). m.atom < length table) (row_truth table p r.truth) (map yes (row_numbers ts table r)) (by r.truth (truths_of_row ts table p r has))
        (All-map (λ (m : Signed). m.atom < length table) yes (row_numbers ts table r) (numbers_are ts table r (λ n. n < length table) (λ l c. number_within table (limit_bound ts l) (bound_of l c))))
      where
        by : (o : Option Bool) → All (Contains table) (row_truth_atoms p o) → All (λ (m : Signed). m.atom < length table) (row_truth table p o)
        by None h = All-nil (λ (m : Signed). m.atom < length table)
        by (Some b) h =
            All-cons (λ (m : Signed). m.atom < length table) (literal b (truth_number table p)) [] (number_within table (Truth p) (All-head (Contains table) (Truth p) [] h)) (All-nil (λ (m : Signed). m.atom < length table))

    once : HasNoAtomTwice (row_clause ts table p r)
    once = by r.truth (truths_of_row ts table p r has)
      where
        alone : HasNoAtomTwice (map yes (row_numbers ts table r))
        alone = numbers_once ts table (limit_number ts table r.limit) r.other

        by : (o : Option Bool) → All (Contains table) (row_truth_atoms p o) → HasNoAtomTwice (row_truth table p o ++ map yes (row_numbers ts table r))
        by None h = alone
        by (Some b) h = (
          All-map (λ (m : Signed). truth_number table p ≢ m.atom) yes (row_numbers ts table r)
              (numbers_are ts table r (λ n. truth_number table p ≢ n)
              (λ l c. number_apart table (Truth p) (limit_bound ts l) (All-head (Contains table) (Truth p) [] h) (bound_of l c) (λ k. let one : kind (limit_bound ts l) ≡ 1 = limit_kind l in omega (arith, one, k)))),
          alone,
        )

    -- the bounds have the values that the row is about, and so has the truth
    abbrev pub IsMeant : Type 0
    IsMeant = (I : Interpretation) → All (IsRight ts table (λ n. atom_true ts I (atom_at table n)) (λ i. number_of (value_at ts I i))) (limits r)
        × IsTrue (row_holds (λ i. number_of (value_at ts I i)) (truth_of (value_at ts I p)) (row_of r))

    row_sound : IsMeant → AreSound ds ts table (row_part ts table p r)
    row_sound meant =
        All-append (IsSound ds ts table) (of_limit ts table r.limit ++ of_other ts table r.other) (row_clause ts table p r ∷ [])
        (All-append (IsSound ds ts table) (of_limit ts table r.limit) (of_other ts table r.other) (limit_sound r.limit (bound_of r.limit (zero, omega arith, refl)))
        (other_sound r.other (All-tail (Contains table) (limit_bound ts r.limit) (map (limit_bound ts) (listed r.other)) (bounds_of_row ts table p r has))))
        (All-cons (IsSound ds ts table) (row_clause ts table p r) [] (record {
          over = record {
            within = λ m c. All-contains (λ (x : Signed). x.atom < length table) (row_clause ts table p r) m within c;
            no_pair = λ m a b. no_pair_at (row_clause ts table p r) once m a.0 b.0 a.1 b.1 a.2 b.2;
          };
          once = once;
          valid = λ I i.
              clause_true ts table (λ n. atom_true ts I (atom_at table n)) (λ j. number_of (value_at ts I j)) p r (truth_of (value_at ts I p)) (λ b e. ap (atom_true ts I) (number_read table (Truth p) (has_truth b e)))
              (meant I).0 (meant I).1;
        }) (All-nil (IsSound ds ts table)))
      where
        has_truth : (b : Bool) → r.truth ≡ Some b → Contains table (Truth p)
        has_truth b e = All-head (Contains table) (Truth p) [] (subst (λ o. All (Contains table) (row_truth_atoms p o)) e (truths_of_row ts table p r has))

  -- ---- all rows

  module _ (form_value_is : LinearFormHasValue) (limit_value : LimitsHaveValues ℕ) (of_term : RowsAreOfTheTerm ℕ) (holds : DivisionHoldsByPlaces) (atoms_are : RowsAreAtoms)
      (o : Operator) (p : ℕ) (is : List ℕ) (e : tree_at ts p ≡ node (Theory o) (pick ts is)) (readable : All (IsReadable ts) (p ∷ is)) where
    rows_same : map row_of (placed_rows o (place_divisor ts is) p is) ≡ operator_rows o (place_divisor ts is) p is
    rows_same = (atoms_are ts o p is e).rows

    abbrev IsOver : Row → Type 0
    IsOver r = IsRowOf (Contains (p ∷ is)) (row_of r)

    over : All IsOver (placed_rows o (place_divisor ts is) p is)
    over =
        All-unmap (IsRowOf (Contains (p ∷ is))) row_of (placed_rows o (place_divisor ts is) p is)
        (subst (All (IsRowOf (Contains (p ∷ is)))) (sym rows_same) (of_term o (place_divisor ts is) p is))

    module _ (I : Interpretation) where
      abbrev value : ℕ → ℤ
      value i = number_of (value_at ts I i)

      abbrev truth : Bool
      truth = truth_of (value_at ts I p)

      each_holds : (rs : List Row) → IsTrue (rows_hold value truth (map row_of rs)) → All (λ (r : Row). IsTrue (row_holds value truth (row_of r))) rs
      each_holds [] h = All-nil (λ (r : Row). IsTrue (row_holds value truth (row_of r)))
      each_holds (r ∷ rs) h =
          All-cons (λ (r : Row). IsTrue (row_holds value truth (row_of r))) r rs (and_left (row_holds value truth (row_of r)) (rows_hold value truth (map row_of rs)) h)
          (each_holds rs (and_right (row_holds value truth (row_of r)) (rows_hold value truth (map row_of rs)) h))

      all_hold : All (λ (r : Row). IsTrue (row_holds value truth (row_of r))) (placed_rows o (place_divisor ts is) p is)
      all_hold =
          each_holds (placed_rows o (place_divisor ts is) p is)
          (subst (λ rs. IsTrue (rows_hold value truth rs)) (sym rows_same) (holds ts I o p is e (All-head (IsReadable ts) p is readable).linear))

      form_is : (m : ℤ × ℕ) → Contains (p ∷ is) m.1 → form_value ts I (place_form ts m.1) ≡ value m.1
      form_is m c = let r : IsReadable ts m.1 = All-contains (IsReadable ts) (p ∷ is) m.1 readable c in sym (form_value_is ts I (tree_at ts m.1) r.linear r.leaves_within)

      limit_right : (l : RowLimit) → Contains table (limit_bound ts l) → All (λ (m : ℤ × ℕ). Contains (p ∷ is) m.1) (limit_of_row l).multiples
          → atom_true ts I (atom_at table (limit_number ts table l)) ≡ limit_holds value (limit_of_row l)
      limit_right l c terms =
          ap (atom_true ts I) (number_read table (limit_bound ts l) c)
          ∙ limit_value ts I (place_form ts) value (limit_of_row l)
          (All-weaker (λ (m : ℤ × ℕ). Contains (p ∷ is) m.1) (λ (m : ℤ × ℕ). form_value ts I (place_form ts m.1) ≡ value m.1) form_is (limit_of_row l).multiples terms)

      limits_right : (ls : List RowLimit) → All (λ l. Contains table (limit_bound ts l)) ls → All (λ (l : Limit ℕ). All (λ (m : ℤ × ℕ). Contains (p ∷ is) m.1) l.multiples) (map limit_of_row ls)
          → All (IsRight ts table (λ n. atom_true ts I (atom_at table n)) value) ls
      limits_right ls c terms = λ k d h.
          limit_right (get_or ls k d) (c k d h) (All-unmap (λ (l : Limit ℕ). All (λ (m : ℤ × ℕ). Contains (p ∷ is) m.1) l.multiples) limit_of_row ls terms k d h)

    abbrev IsGood : Row → Type 0
    IsGood r = All (Contains table) (atoms_of_row ts p r) × IsOver r × ((I : Interpretation) → IsTrue (row_holds (value I) (truth I) (row_of r)))

    good_sound : (r : Row) → IsGood r → AreSound ds ts table (row_part ts table p r)
    good_sound r g = row_sound p r g.0 (λ I. (limits_right I (limits r) (bounds p r g.0) g.1, g.2 I))

    pub division_sound : All (Contains table) (atoms_of_division ts o p is) → AreSound ds ts table (division_part ts table o p is)
    division_sound has =
        All-flat IsGood (IsSound ds ts table) (row_part ts table p) good_sound (placed_rows o (place_divisor ts is) p is)
        (λ k d h. (All-unflat (Contains table) (atoms_of_row ts p) (placed_rows o (place_divisor ts is) p is) has k d h, over k d h, λ I. all_hold I k d h))
