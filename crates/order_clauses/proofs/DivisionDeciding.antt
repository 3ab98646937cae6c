-- What a consistent log that makes the clauses of a division true gives.
use Rattle.std.proofs.Common.{◌≡◌, ◌≢◌, ◌⊎◌, inl, inr, ℕ, zero, suc, ◌||◌, Bool, true, false, List, [], ◌∷◌, ◌++◌, map, length, All, Contains, Option, Some, None, refl, sym, ap, subst, ◌∙◌, arith, lit<}
use Rattle.std.specs.Prelude.{flat_map, IsTrue, ℤ, pos, negsuc, ◌-ℤ◌}
use Rattle.std.proofs.lemmas.Bool.{eqb-true}
use Rattle.std.proofs.lemmas.List.Elements.{All-cons, All-nil, All-head, All-tail, All-append, All-map, All-contains}
use Rattle.literals.specs.Signed.{Signed}
use Rattle.smt_laws.proofs.Both.{and_both}
use Rattle.smt_laws.specs.ClauseLaws.{DivisionRowsForce}
use Rattle.smt_laws.specs.Rows.{limit_holds, one_holds, truth_holds, row_holds, rows_hold, place_divisor}
use Rattle.smt_meaning.specs.declared.values.Value.{Value}
use Rattle.smt_meaning.specs.declared.values.Value.TheVariants.{Whole}
use Rattle.smt_meaning.specs.declared.terms.Operator.{Operator}
use Rattle.smt_meaning.specs.declared.terms.Operator.TheVariants.{Divide, Modulo, Absolute, Divisible}
use Rattle.smt_meaning.specs.declared.clauses.Atom.{Atom}
use Rattle.smt_meaning.specs.Term.{Tree, int_eq, absolute, quotient, remainder}
use Rattle.smt_meaning.specs.Signature.{stands_with}
use Rattle.smt_meaning.specs.Division.{always, unless, beyond, left_by}
use Rattle.search_port.specs.State.{IsConsistent, IsMadeTrue}
use Rattle.pair_bounds.specs.declared.rows.RowLimit.{RowLimit}
use Rattle.pair_bounds.specs.declared.rows.Row.{Row}
use Rattle.pair_bounds.specs.Rows.{limits, limit_of_row, row_of, placed_row, placed_rows}
use Rattle.equality_clauses.specs.Ties.{literal, yes}
use Rattle.order_clauses.specs.Clauses.{truth_number, limit_number, of_limit, of_other, row_numbers, row_truth, row_clause, row_part, division_part}
use Rattle.order_clauses.specs.Needed.{limits_of_division}
use Rattle.order_clauses.specs.Decided.{IsGiven, number_at, FitsLimits, DividesBy, HasOperatorsValue, DivisionPartIsDecided}
use Rattle.order_clauses.proofs.Soundness.{All-left, All-right}
use Rattle.order_clauses.proofs.DivisionRows.{IsSilent, quotient_silent, remainder_silent, absolute_silent}
use Rattle.order_clauses.proofs.DivisionSoundness.{numbers_are}

or_right : (a b : Bool) → b ≡ true → (a || b) ≡ true
or_right true b h = refl
or_right false b h = h

or_left : (a b : Bool) → a ≡ true → (a || b) ≡ true
or_left a b h = ap (λ x. x || b) h

one_of : (value : ℕ → ℤ) (ls : List RowLimit) (l : RowLimit) → Contains ls l → limit_holds value (limit_of_row l) ≡ true → one_holds value (map limit_of_row ls) ≡ true
one_of value [] l c h = absurd (omega (arith, c.1))
one_of value (k ∷ ls) l (zero, w, e) h =
    or_left (limit_holds value (limit_of_row k)) (one_holds value (map limit_of_row ls)) (ap (λ (x : RowLimit). limit_holds value (limit_of_row x)) e ∙ h)
one_of value (k ∷ ls) l (suc i, w, e) h =
    or_right (limit_holds value (limit_of_row k)) (one_holds value (map limit_of_row ls)) (one_of value ls l (i, omega arith, e) h)

module _ (v : ℕ → Value) (log : List Signed) (consistent : IsConsistent log) (ts : List Tree) (table : List Atom) (p : ℕ) where
  abbrev t : ℕ
  t = truth_number table p

  clash : (s : Bool) (n : ℕ) → Contains log (literal true n) → Contains log (literal false n) → ⊥
  clash s n a b = consistent (literal true n) a b

  given_true : (n : ℕ) (b : Bool) → IsGiven log n b → Contains log (yes n) → b ≡ true
  given_true n true g c = refl
  given_true n false g c = absurd (clash true n c g)

  -- the log has the truth that the row speaks of
  abbrev Says : Option Bool → Type 0
  Says o = (b : Bool) × (o ≡ Some b) × Contains log (literal b t)

  abbrev Made : Row → Type 0
  Made r = (one_holds (number_at v) (map limit_of_row (limits r)) ≡ true) ⊎ Says r.truth

  row_made : (r : Row) → FitsLimits v log ts table (limits r) → IsMadeTrue log (row_clause ts table p r) → Made r
  row_made r fits made =
      All-contains (λ l. Contains log l → Made r) (row_clause ts table p r) made.0
      (All-append (λ l. Contains log l → Made r) (row_truth table p r.truth) (map yes (row_numbers ts table r)) (said r.truth refl)
      (All-map (λ l. Contains log l → Made r) yes (row_numbers ts table r) (numbers_are ts table r (λ n. Contains log (yes n) → Made r) held))) made.1 made.2
    where
      held : (l : RowLimit) → Contains (limits r) l → Contains log (yes (limit_number ts table l)) → Made r
      held l c has =
          inl (one_of (number_at v) (limits r) l c
          (given_true (limit_number ts table l) (limit_holds (number_at v) (limit_of_row l))
          (All-contains (λ (k : RowLimit). IsGiven log (limit_number ts table k) (limit_holds (number_at v) (limit_of_row k))) (limits r) l fits c) has))

      said : (o : Option Bool) → r.truth ≡ o → All (λ l. Contains log l → Made r) (row_truth table p o)
      said None e = All-nil (λ l. Contains log l → Made r)
      said (Some b) e = All-cons (λ l. Contains log l → Made r) (literal b t) [] (λ c. inr (b, e, c)) (All-nil (λ l. Contains log l → Made r))

  made_at : (r : Row) → All (IsMadeTrue log) (row_part ts table p r) → IsMadeTrue log (row_clause ts table p r)
  made_at r h = All-head (IsMadeTrue log) (row_clause ts table p r) [] (All-right (IsMadeTrue log) (of_limit ts table r.limit ++ of_other ts table r.other) (row_clause ts table p r ∷ []) h)

  silent_holds : (b : Bool) (r : Row) → IsSilent r → Made r → row_holds (number_at v) b (row_of r) ≡ true
  silent_holds b r s (inl h) = or_right (truth_holds b r.truth) (one_holds (number_at v) (map limit_of_row (limits r))) h
  silent_holds b r s (inr says) = absurd (some_none says.0 (sym says.1 ∙ s))
    where
      some_none : (b : Bool) → Some b ≡ None → ⊥
      some_none b e = cc

  all_hold : (b : Bool) (rs : List Row) → All IsSilent rs → FitsLimits v log ts table (flat_map limits rs) → All (IsMadeTrue log) (flat_map (row_part ts table p) rs) → rows_hold (number_at v) b (map row_of rs) ≡ true
  all_hold b [] s fits made = refl
  all_hold b (r ∷ rs) s fits made =
      let Fits = λ (l : RowLimit). IsGiven log (limit_number ts table l) (limit_holds (number_at v) (limit_of_row l)) in
      and_both (row_holds (number_at v) b (row_of r)) (rows_hold (number_at v) b (map row_of rs))
      (silent_holds b r (All-head IsSilent r rs s)
      (row_made r (All-left Fits (limits r) (flat_map limits rs) fits) (made_at r (All-left (IsMadeTrue log) (row_part ts table p r) (flat_map (row_part ts table p) rs) made))))
      (all_hold b rs (All-tail IsSilent r rs s) (All-right Fits (limits r) (flat_map limits rs) fits) (All-right (IsMadeTrue log) (row_part ts table p r) (flat_map (row_part ts table p) rs) made))

  made_all : (rs : List Row) → FitsLimits v log ts table (flat_map limits rs) → All (IsMadeTrue log) (flat_map (row_part ts table p) rs) → All Made rs
  made_all [] fits made = All-nil Made
  made_all (r ∷ rs) fits made =
      let Fits = λ (l : RowLimit). IsGiven log (limit_number ts table l) (limit_holds (number_at v) (limit_of_row l)) in
      All-cons Made r rs (row_made r (All-left Fits (limits r) (flat_map limits rs) fits) (made_at r (All-left (IsMadeTrue log) (row_part ts table p r) (flat_map (row_part ts table p) rs) made)))
      (made_all rs (All-right Fits (limits r) (flat_map limits rs) fits) (All-right (IsMadeTrue log) (row_part ts table p r) (flat_map (row_part ts table p) rs) made))

  abbrev Holds : Bool → Row → Type 0
  Holds b r = row_holds (number_at v) b (row_of r) ≡ true

  hold_all : (b : Bool) (rs : List Row) → All (Holds b) rs → rows_hold (number_at v) b (map row_of rs) ≡ true
  hold_all b [] h = refl
  hold_all b (r ∷ rs) h =
      and_both (row_holds (number_at v) b (row_of r)) (rows_hold (number_at v) b (map row_of rs)) (All-head (Holds b) r rs h) (hold_all b rs (All-tail (Holds b) r rs h))

  -- ---- a divisibility

  module _ (force : DivisionRowsForce ℕ) (n : ℤ) (some : n ≢ pos 0) (a d q : ℕ) where
    abbrev rows : List Row
    rows = placed_rows Divisible n p (a ∷ d ∷ q ∷ [])

    abbrev first : Row
    first = placed_row (always (beyond a n q) (pos 0))

    abbrev second : Row
    second = placed_row (always (left_by a n q) (absolute n -ℤ pos 1))

    abbrev with_rest : Row
    with_rest = placed_row (unless true (beyond a n q) (negsuc 0))

    abbrev without : Row
    without = placed_row (unless false (left_by a n q) (pos 0))

    abbrev rest_is_none : Bool
    rest_is_none = int_eq (remainder (number_at v a) n) (pos 0)

    module _ (m : Made first) (k : Made second) where
      truth_by : (b : Bool) → Holds b with_rest → Holds b without → b ≡ rest_is_none
      truth_by b h i =
          (((force (number_at v) b).0 n some).divisibility_is p a d q
          (hold_all b rows
          (All-cons (Holds b) first (second ∷ with_rest ∷ without ∷ []) (silent_holds b first refl m)
          (All-cons (Holds b) second (with_rest ∷ without ∷ []) (silent_holds b second refl k)
          (All-cons (Holds b) with_rest (without ∷ []) h (All-cons (Holds b) without [] i (All-nil (Holds b)))))))).1

      true_or_false : (b : Bool) → true ≡ b → false ≡ b → ⊥
      true_or_false b x y = let e : true ≡ false = x ∙ sym y in cc

      same_bool : (b c : Bool) → Some b ≡ Some c → b ≡ c
      same_bool true true e = refl
      same_bool false false e = refl
      same_bool true false e = cc
      same_bool false true e = cc

      truth_given : Made with_rest → Made without → IsGiven log t rest_is_none
      truth_given (inl h) (inl i) =
          absurd (true_or_false rest_is_none
          (truth_by true (or_right (truth_holds true (Some true)) (one_holds (number_at v) (map limit_of_row (limits with_rest))) h) (or_right (truth_holds true (Some false)) (one_holds (number_at v) (map limit_of_row (limits without))) i))
          (truth_by false (or_right (truth_holds false (Some true)) (one_holds (number_at v) (map limit_of_row (limits with_rest))) h) (or_right (truth_holds false (Some false)) (one_holds (number_at v) (map limit_of_row (limits without))) i)))
      truth_given (inl h) (inr says) =
          subst (IsGiven log t) (truth_by false (or_right (truth_holds false (Some true)) (one_holds (number_at v) (map limit_of_row (limits with_rest))) h) refl)
          (subst (λ b. Contains log (literal b t)) (sym (same_bool false says.0 says.1)) says.2)
      truth_given (inr says) (inl i) =
          subst (IsGiven log t) (truth_by true refl (or_right (truth_holds true (Some false)) (one_holds (number_at v) (map limit_of_row (limits without))) i))
          (subst (λ b. Contains log (literal b t)) (sym (same_bool true says.0 says.1)) says.2)
      truth_given (inr says) (inr other) =
          absurd (clash true t (subst (λ b. Contains log (literal b t)) (sym (same_bool true says.0 says.1)) says.2) (subst (λ b. Contains log (literal b t)) (sym (same_bool false other.0 other.1)) other.2))

-- ---- the value of a term

none_true : (A : Type 0) → false ≡ true → A
none_true A e = absurd (let x : false ≡ true = e in cc)

module _ (force : DivisionRowsForce ℕ) (v : ℕ → Value) (log : List Signed) (ts : List Tree) (table : List Atom) (p : ℕ) (consistent : IsConsistent log) where
  abbrev Decides : Operator → List ℕ → Type 0
  Decides o is = IsTrue (stands_with o (length is)) → DividesBy v ts o is → FitsLimits v log ts table (limits_of_division ts o p is) → All (IsMadeTrue log) (division_part ts table o p is)
      → HasOperatorsValue v log table o p is

  of_quotient : (is : List ℕ) → Decides Divide is
  of_quotient [] s by fits made = none_true _ s
  of_quotient (a ∷ []) s by fits made = none_true _ s
  of_quotient (a ∷ d ∷ []) s by fits made = λ is.
      let n : ℤ = place_divisor ts (a ∷ d ∷ []) in
      let h = all_hold v log consistent ts table p false (placed_rows Divide n p (a ∷ d ∷ [])) (quotient_silent n p (a ∷ d ∷ [])) fits made in
      is ∙ ap Whole (((force (number_at v) false).0 n by.1).quotient_is p a d h ∙ ap (quotient (number_at v a)) (sym by.0))
  of_quotient (a ∷ d ∷ q ∷ is) s by fits made = absurd (let e : suc (suc (suc (length is))) ≡ 2 = eqb-true (suc (suc (suc (length is)))) 2 s in omega (arith, e))

  of_remainder : (is : List ℕ) → Decides Modulo is
  of_remainder [] s by fits made = none_true _ s
  of_remainder (a ∷ []) s by fits made = none_true _ s
  of_remainder (a ∷ d ∷ []) s by fits made = none_true _ s
  of_remainder (a ∷ d ∷ q ∷ []) s by fits made = λ is.
      let n : ℤ = place_divisor ts (a ∷ d ∷ q ∷ []) in
      let h = all_hold v log consistent ts table p false (placed_rows Modulo n p (a ∷ d ∷ q ∷ [])) (remainder_silent n p (a ∷ d ∷ q ∷ [])) fits made in
      is ∙ ap Whole ((((force (number_at v) false).0 n by.1).remainder_is p a d q h).1 ∙ ap (remainder (number_at v a)) (sym by.0))
  of_remainder (a ∷ d ∷ q ∷ i ∷ is) s by fits made = absurd (let e : suc (suc (suc (suc (length is)))) ≡ 3 = eqb-true (suc (suc (suc (suc (length is))))) 3 s in omega (arith, e))

  of_absolute : (is : List ℕ) → Decides Absolute is
  of_absolute [] s by fits made = none_true _ s
  of_absolute (a ∷ []) s by fits made = λ is.
      let n : ℤ = place_divisor ts (a ∷ []) in
      let h = all_hold v log consistent ts table p false (placed_rows Absolute n p (a ∷ [])) (absolute_silent n p (a ∷ [])) fits made in
      is ∙ ap Whole ((force (number_at v) false).1.absolute_is n p a h)
  of_absolute (a ∷ d ∷ is) s by fits made = absurd (let e : suc (suc (length is)) ≡ 1 = eqb-true (suc (suc (length is))) 1 s in omega (arith, e))

  of_divisibility : (is : List ℕ) → Decides Divisible is
  of_divisibility [] s by fits made = none_true _ s
  of_divisibility (a ∷ []) s by fits made = none_true _ s
  of_divisibility (a ∷ d ∷ []) s by fits made = none_true _ s
  of_divisibility (a ∷ d ∷ q ∷ []) s by fits made =
      let n : ℤ = place_divisor ts (a ∷ d ∷ q ∷ []) in
      let rs : List Row = placed_rows Divisible n p (a ∷ d ∷ q ∷ []) in
      let all = made_all v log consistent ts table p rs fits made in
      let e : Row = placed_row (always [] (pos 0)) in
      subst (λ k. IsGiven log (truth_number table p) (int_eq (remainder (number_at v a) k) (pos 0))) (sym by.0)
      (truth_given v log consistent ts table p force n by.1 a d q (all 0 e (lit< tt)) (all 1 e (lit< tt)) (all 2 e (lit< tt)) (all 3 e (lit< tt)))
  of_divisibility (a ∷ d ∷ q ∷ i ∷ is) s by fits made = absurd (let e : suc (suc (suc (suc (length is)))) ≡ 3 = eqb-true (suc (suc (suc (suc (length is))))) 3 s in omega (arith, e))

pub division_part_decided : DivisionRowsForce ℕ → DivisionPartIsDecided
division_part_decided force v log ts table Divide p is h s consistent by fits made = of_quotient force v log ts table p consistent is s by fits made
division_part_decided force v log ts table Modulo p is h s consistent by fits made = of_remainder force v log ts table p consistent is s by fits made
division_part_decided force v log ts table Absolute p is h s consistent by fits made = of_absolute force v log ts table p consistent is s by fits made
division_part_decided force v log ts table Divisible p is h s consistent by fits made = of_divisibility force v log ts table p consistent is s by fits made
division_part_decided force v log ts table o p is h s consistent by fits made = none_true _ h
