-- The truth of atoms by the values of terms is that under the interpretation that gives these values.
use Rattle.std.proofs.Common.{◌≡◌, ℕ, ◌+◌, ◌<◌, ◌≤◌, Bool, true, false, List, [], ◌∷◌, length, map, take, All, refl, sym, ap, subst, ◌∙◌, inl, inr}
use Rattle.std.specs.Prelude.{◌⊎◌, pos, ◌+ℤ◌, ◌*ℤ◌, int_le}
use Rattle.std.proofs.Common.{arith, ℤ, pos, ◌≤ℤ◌, ◌<ℤ◌, neg_ℤ, negsuc, ◌^◌}
use Rattle.std.specs.Prelude.{int_lt}
use Rattle.std.proofs.lemmas.Int.{ints}
use Rattle.std.proofs.lemmas.Bool.Decides.{nat_tests}
use Rattle.std.proofs.lemmas.Bool.{cases_lt}
use Rattle.std.proofs.lemmas.List.{get_or_past, take_more}
use Rattle.std.proofs.lemmas.List.Elements.{All-nil, All-cons, All-head, All-tail, All-weaker, All-take, All-push}
use Rattle.fraction128.specs.Whole.{InRange}
use Rattle.fraction128.specs.Dot.{dot_of}
use Rattle.literals.specs.Signed.{Signed, sign, literal_true}
use Rattle.smt_meaning.specs.declared.values.Value.{Value}
use Rattle.smt_meaning.specs.declared.values.Table.{Table}
use Rattle.smt_meaning.specs.declared.clauses.Summand.{Summand}
use Rattle.smt_meaning.specs.declared.clauses.Atom.{Atom}
use Rattle.smt_meaning.specs.declared.clauses.Atom.TheVariants.{Truth, AtMost, Same}
use Rattle.smt_meaning.specs.Term.{Tree, tree_at, value, Interpretation, number_of, truth_of, same_value}
use Rattle.smt_meaning.specs.Clause.{atom_true, atom_places, sum_places, sum_value}
use Rattle.smt_meaning.specs.Interpretation.{meaning}
use Rattle.smt_meaning.specs.Model.{Fits}
use Rattle.smt_meaning.specs.Stack.{assertions_of}
use Rattle.atom_form.specs.AtomTableNumbers.{IsAt}
use Rattle.search_port.specs.State.{atom_at, truth}
use Rattle.model_eval.specs.Walk.{is_marked}
use Rattle.exact_model.specs.Places.{value_at, AreValues, AllMarkedFit}
use Rattle.exact_model.specs.Atoms.{sum_by, atom_true_by, truth_by, pair_by, HasPlacesBelow, HasMarkedPlaces}
use Rattle.exact_model.specs.Verdict.{literal_at, truth_in, AreTrueIn, AreModels, IsFirstFalse, IsVerdict, IsVerdictBy}
use Rattle.exact_model.specs.declared.log.Verdict.{Verdict}
use Rattle.exact_model.specs.declared.log.Verdict.TheVariants.{AllTrue, False, Range}

-- ---- sums

pub dot_is : (values : List Value) (sum : List Summand) → dot_of (pos 0) (map (pair_by values) sum) ≡ sum_by values sum
dot_is values [] = refl
dot_is values (s ∷ sum) = ap (λ n. s.coefficient *ℤ number_of (value_at values s.term) +ℤ n) (dot_is values sum)

pub summands_below : (bound : ℕ) (sum : List Summand) → All (λ p. p < bound) (sum_places sum) → All (λ (s : Summand). s.term < bound) sum
summands_below bound [] h = All-nil (λ (s : Summand). s.term < bound)
summands_below bound (s ∷ sum) h =
    All-cons (λ (r : Summand). r.term < bound) s sum (All-head (λ p. p < bound) s.term (sum_places sum) h) (summands_below bound sum (All-tail (λ p. p < bound) s.term (sum_places sum) h))

-- ---- atoms under an interpretation

module _ (trees : List Tree) (marks : List Bool) (I : Interpretation) (values : List Value) (are : AreValues trees marks I values) where
  sum_is : (sum : List Summand) → All (λ p. is_marked marks p ≡ true) (sum_places sum) → sum_by values sum ≡ sum_value trees I sum
  sum_is [] h = refl
  sum_is (s ∷ sum) h =
      ap (λ v. s.coefficient *ℤ number_of v +ℤ sum_by values sum) (are.each s.term (All-head (λ p. is_marked marks p ≡ true) s.term (sum_places sum) h))
      ∙ ap (λ n. s.coefficient *ℤ number_of (value I (tree_at trees s.term)) +ℤ n) (sum_is sum (All-tail (λ p. is_marked marks p ≡ true) s.term (sum_places sum) h))

  -- an atom all of whose places are marked
  atom_is : (a : Atom) → HasMarkedPlaces marks a → atom_true_by values a ≡ atom_true trees I a
  atom_is (Truth p) h = ap truth_of (are.each p (All-head (λ q. is_marked marks q ≡ true) p [] h))
  atom_is (AtMost sum k) h = ap (λ n. int_le n k) (sum_is sum h)
  atom_is (Same p q) h =
      ap (λ v. same_value v (value_at values q)) (are.each p (All-head (λ r. is_marked marks r ≡ true) p (q ∷ []) h))
      ∙ ap (same_value (value I (tree_at trees p)))
      (are.each q (All-head (λ r. is_marked marks r ≡ true) q [] (All-tail (λ r. is_marked marks r ≡ true) p (q ∷ []) h)))

  module _ (atoms : List Atom) (all : All (HasMarkedPlaces marks) atoms) where
    pub literal_is : (l : Signed) → l.atom < length atoms → literal_true (truth_by values atoms) l ≡ literal_true (truth_in trees atoms I) l
    literal_is l less = ap (sign l.positive) (atom_is (atom_at atoms l.atom) (all l.atom (Truth 0) less))

    literals_true : (log : List Signed) → All (λ (l : Signed). l.atom < length atoms) log → All (λ l. literal_true (truth_by values atoms) l ≡ true) log → AreTrueIn trees atoms I log
    literals_true [] below h = All-nil (λ l. literal_true (truth_in trees atoms I) l ≡ true)
    literals_true (l ∷ log) below h =
        All-cons (λ m. literal_true (truth_in trees atoms I) m ≡ true) l log
        (sym (literal_is l (All-head (λ (m : Signed). m.atom < length atoms) l log below)) ∙ All-head (λ m. literal_true (truth_by values atoms) m ≡ true) l log h)
        (literals_true log (All-tail (λ (m : Signed). m.atom < length atoms) l log below) (All-tail (λ m. literal_true (truth_by values atoms) m ≡ true) l log h))

    first_false : (log : List Signed) (k : ℕ) → All (λ (l : Signed). l.atom < length atoms) log → IsFirstFalse (truth_by values atoms) log k → IsFirstFalse (truth_in trees atoms I) log k
    first_false log k below f = record {
      within = f.within;
      is_false = sym (literal_is (literal_at log k) (below k (record { atom = 0; positive = true }) f.within)) ∙ f.is_false;
      before = literals_true (take k log) (All-take (λ (l : Signed). l.atom < length atoms) k log below) f.before;
    }

-- ---- a model of each state with this log

pub are_models : (trees : List Tree) (marks : List Bool) (atoms : List Atom) (log : List Signed) (tables : List Table) → AreTrueIn trees atoms (meaning tables) log → AllMarkedFit trees marks (meaning tables)
    → AreModels trees marks atoms log tables
are_models trees marks atoms log tables h fit t about for asserted = record {
  tables_for = for;
  makes_true = subst (λ ls. All (λ l. literal_true (truth t.reading (meaning tables)) l ≡ true) ls) (sym about.log_is)
      (subst (λ table. All (λ l. literal_true (truth_in t.reading.trees table (meaning tables)) l ≡ true) log) (sym about.table_is)
      (subst (λ ts. All (λ l. literal_true (truth_in ts atoms (meaning tables)) l ≡ true) log) (sym about.trees_are) h));
  fits =
      All-weaker (λ u. (p : ℕ) × (is_marked marks p ≡ true) × (tree_at trees p ≡ u)) (Fits (meaning tables)) (λ u m. subst (Fits (meaning tables)) m.2 (fit m.0 m.1))
      (assertions_of t.reading.frames) asserted;
}

pub verdict_is : (trees : List Tree) (marks : List Bool) (tables : List Table) (values : List Value) (atoms : List Atom) (log : List Signed) (v : Verdict) → AreValues trees marks (meaning tables) values
    → AllMarkedFit trees marks (meaning tables) → All (HasMarkedPlaces marks) atoms → All (λ (l : Signed). l.atom < length atoms) log → IsVerdictBy values atoms log v → IsVerdict trees marks atoms log tables v
verdict_is trees marks tables values atoms log AllTrue are fit all below h =
    are_models trees marks atoms log tables (literals_true trees marks (meaning tables) values are atoms all log below h) fit
verdict_is trees marks tables values atoms log (False k) are fit all below h = first_false trees marks (meaning tables) values are atoms all log k below h
verdict_is trees marks tables values atoms log (Range i) are fit all below h = absurd h

-- ---- the places of atoms

mark_below : (marks : List Bool) (p : ℕ) → is_marked marks p ≡ true → p < length marks
mark_below marks p m = by (cases_lt p (length marks))
  where
    by : (p < length marks) ⊎ (length marks ≤ p) → p < length marks
    by (inl h) = h
    by (inr h) = let e : is_marked marks p ≡ false = get_or_past marks p false h in absurd cc

pub places_below : (marks : List Bool) (n : ℕ) (atoms : List Atom) → length marks ≡ n → All (HasMarkedPlaces marks) atoms → All (HasPlacesBelow n) atoms
places_below marks n atoms size all =
    All-weaker (HasMarkedPlaces marks) (HasPlacesBelow n) (λ a h. All-weaker (λ p. is_marked marks p ≡ true) (λ p. p < n) (λ p m. subst (λ k. p < k) size (mark_below marks p m)) (atom_places a) h) atoms all

pub places_of : (atoms : List Atom) (n k : ℕ) (a : Atom) → All (HasPlacesBelow n) atoms → IsAt atoms k a → HasPlacesBelow n a
places_of atoms n k a all at = subst (HasPlacesBelow n) (at.1 (Truth 0)) (all k (Truth 0) at.0)

-- ---- a log, one literal after another

pub true_so_far : (values : List Value) (atoms : List Atom) (log : List Signed) (k : ℕ) → k < length log → literal_true (truth_by values atoms) (literal_at log k) ≡ true
    → All (λ l. literal_true (truth_by values atoms) l ≡ true) (take k log) → All (λ l. literal_true (truth_by values atoms) l ≡ true) (take (k + 1) log)
true_so_far values atoms log k less here before =
    subst (λ ls. All (λ l. literal_true (truth_by values atoms) l ≡ true) ls) (sym (take_more log k (record { atom = 0; positive = true }) less))
    (All-push (λ l. literal_true (truth_by values atoms) l ≡ true) (take k log) (literal_at log k) before here)

-- ---- sums outside the range

pub past_sign : (s k : ℤ) → (InRange s → ⊥) → neg_ℤ (pos (2 ^ 127)) ≤ℤ k → k <ℤ pos (2 ^ 127) → int_lt s (pos 0) ≡ int_le s k
past_sign (pos m) (pos n) past low high = grind (arith, ints, nat_tests)
past_sign (pos m) (negsuc n) past low high = grind (arith, ints, nat_tests)
past_sign (negsuc m) (pos n) past low high = grind (arith, ints, nat_tests)
past_sign (negsuc m) (negsuc n) past low high = grind (arith, ints, nat_tests)
