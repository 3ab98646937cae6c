-- Bounds of two terms at any numbers, and equalities that are told as they are.
use Rattle.std.proofs.Common.{◌≡◌, ◌∙◌, ℕ, zero, suc, ◌+◌, ◌<◌, ◌≤◌, ◌⊎◌, inl, inr, Bool, true, false, List, [], ◌∷◌, length, get_or, below_more, refl, sym, ap, subst, arith}
use Rattle.std.specs.Prelude.{All, Contains, IfNone, IfOk, IfSome, MatchOption, Option, Some, None, Result, Ok, Err, not, ℤ, pos, ◌+ℤ◌, ◌*ℤ◌, neg_ℤ, int_le}
use mathlib.Core.Bool.{beq}
use Rattle.std.proofs.lemmas.List.{get_or_default}
use Rattle.std.proofs.lemmas.List.Elements.{All-nil, All-cons, All-contains, All-weaker}
use Rattle.literals.specs.Signed.{Signed, sign}
use Rattle.equality_clauses.specs.Ties.{literal}
use Rattle.smt_meaning.specs.declared.values.Value.TheVariants.{Whole}
use Rattle.smt_meaning.specs.declared.terms.Head.TheVariants.{Symbol}
use Rattle.smt_meaning.specs.declared.clauses.Summand.{Summand}
use Rattle.smt_meaning.specs.declared.clauses.Atom.TheVariants.{Truth, Same, AtMost}
use Rattle.smt_meaning.specs.Declaration.{Declaration}
use Rattle.smt_meaning.specs.Stack.{signature_of}
use Rattle.smt_laws.specs.TermLaws.{ValueHasItsSort}
use Rattle.smt_laws.specs.Flat.{FlatSaysTheSame}
use Rattle.atom_form.specs.AtomTableNumbers.{IsAt, AreApart}
use Rattle.search_port.specs.State.{TheoryState, AllFalseIn, IsFalseIn, IsMadeTrue, atom_at}
use Rattle.search_port.proofs.Forcing.{all_of}
use Rattle.search_port.specs.Calls.{IsLemma, IsConflict}
use Rattle.search_port.specs.declared.budget.Lemma.{Lemma}
use Rattle.congruence.specs.Clauses.{IsToldAtOneLevel}
use Rattle.bound_clauses.specs.Laws.{ConstantHasValue, EqualityIsDecided}
use Rattle.bound_log.specs.Clauses.{AreTied, at_bottom, tie_clauses}
use Rattle.sum_bounds.specs.Bounds.{AreWhole}
use Rattle.bound_log.specs.Told.{IsState}
use Rattle.bound_log.specs.Values as Values
use Rattle.bound_log.specs.Values.{numbers_of, AreMet, WholesHold}
use Rattle.closure_log.specs.Seen.{state_of}
use Rattle.theory_combine.specs.declared.parts.Parts.{Parts}
use Rattle.theory_combine.specs.declared.parts.Progress.{Progress}
use Rattle.theory_combine.specs.Held.{IsHeld, AllFit}
use Rattle.theory_combine.specs.Last.{IsLast}
use Rattle.theory_combine.specs.Pairs.{IsFit}
use Rattle.theory_combine.specs.Ready.{IsAtLast, IsAtMostAt}
use Rattle.theory_combine.specs.Settled.{number_there, AreAllTold, IsTiedIn, IsToldAsIs, IsToldWhereEmpty}
use Rattle.theory_combine.specs.Steps.{constant_clause}
use Rattle.theory_combine.proofs.Holding.{at_one_level}
use Rattle.theory_combine.proofs.Reaching.{last_whole}
use Rattle.theory_combine.proofs.Saying.{constant_is_lemma}
use Rattle.theory_combine.proofs.Tying.{numbers}
use Rattle.smt_meaning.specs.Term.{Tree, node, none, tree_at, Interpretation, number_of, value}
use Rattle.smt_meaning.specs.Clause.{sum_value, atom_true}
use Rattle.smt_meaning.specs.Linear.{Form, form_minus, form_value, linear_form}
use Rattle.smt_meaning.specs.Atoms.{sum_gcd, divided, each_divided, normal_bound, not_above_zero, difference_of}
use Rattle.smt_meaning.specs.Ranges.{sum_at, form_at}
use Rattle.smt_laws.proofs.LinearLaw.{form_minus_value}
use Rattle.smt_laws.proofs.BoundLaw.{normal_bound_value}
use Rattle.bound_clauses.specs.Ties.{equal_clauses}
use Rattle.bound_clauses.proofs.Pairs.{All-unmap}
use Rattle.bound_clauses.proofs.Whole.{le_moved}
use Rattle.closure_log.proofs.Reading.{one_place}

-- ---- bounds at any numbers: those of symbols

abbrev symbols : ℕ → ℕ → List Tree
symbols first zero = []
symbols first (suc n) = node (Symbol first) none ∷ symbols (suc first) n

symbol_at : (first n p : ℕ) → p < n → tree_at (symbols first n) p ≡ node (Symbol (first + p)) none
symbol_at first zero p less = absurd (omega (arith, less))
symbol_at first (suc n) zero less = ap (λ k. node (Symbol k) none) (omega arith)
symbol_at first (suc n) (suc p) less = symbol_at (suc first) n p (omega (arith, less)) ∙ ap (λ k. node (Symbol k) none) (omega arith)

first_symbol_at : (n p : ℕ) → p < n → tree_at (symbols 0 n) p ≡ node (Symbol p) none
first_symbol_at n p less = symbol_at 0 n p less ∙ ap (λ k. node (Symbol k) none) (omega arith)

-- a number above each term
abbrev above : List Summand → ℕ
above [] = 0
above (p ∷ ps) = p.term + 1 + above ps

module _ (w : ℕ → ℤ) where
  abbrev numbering : Interpretation
  numbering s vs = Whole (w s)

  sum_is : (n : ℕ) (ps : List Summand) → above ps ≤ n → sum_value (symbols 0 n) numbering ps ≡ sum_at w ps
  sum_is n [] le = refl
  sum_is n (p ∷ ps) le =
      ap (λ (t : Tree). p.coefficient *ℤ number_of (value numbering t) +ℤ sum_value (symbols 0 n) numbering ps) (first_symbol_at n p.term (omega (arith, le)))
      ∙ ap (λ z. p.coefficient *ℤ w p.term +ℤ z) (sum_is n ps (omega (arith, le)))

  form_is : (n : ℕ) (f : Form) → above f.sum ≤ n → form_value (symbols 0 n) numbering f ≡ form_at w f
  form_is n f le = ap (λ z. z +ℤ f.constant) (sum_is n f.sum le)

  -- the bound that a form is at most another holds exactly where its number is
  pub at_most_at : (f g : Form) (sum : List Summand) (k : ℤ) → AtMost sum k ≡ not_above_zero (form_minus f g) → int_le (sum_at w sum) k ≡ int_le (form_at w f) (form_at w g)
  at_most_at f g sum k e =
      let n : ℕ = above sum + above f.sum + above g.sum in
      let ts : List Tree = symbols 0 n in
      let d : Form = form_minus f g in
      ap (λ z. int_le z k) (sym (sum_is n sum (omega arith)))
      ∙ ap (atom_true ts numbering) e
      ∙ normal_bound_value ts numbering d.sum (neg_ℤ d.constant)
      ∙ le_moved (sum_value ts numbering d.sum) d.constant (form_value ts numbering f) (form_value ts numbering g) (form_minus_value ts numbering f g)
      ∙ ap (λ z. int_le z (form_value ts numbering g)) (form_is n f (omega arith))
      ∙ ap (λ z. int_le (form_at w f) z) (form_is n g (omega arith))

-- a normal bound is one of a sum
normal_sum : List Summand → ℤ → List Summand
normal_sum [] k = []
normal_sum (p ∷ ps) k = each_divided (pos (sum_gcd (p ∷ ps))) (p ∷ ps)

normal_threshold : List Summand → ℤ → ℤ
normal_threshold [] k = k
normal_threshold (p ∷ ps) k = divided k (pos (sum_gcd (p ∷ ps)))

normal_is : (ps : List Summand) (k : ℤ) → AtMost (normal_sum ps k) (normal_threshold ps k) ≡ normal_bound ps k
unfolding normal_sum normal_threshold
normal_is [] k = refl
normal_is (p ∷ ps) k = refl

same_sum : (w : ℕ → ℤ) (ps : List Summand) → Values.sum_at w ps ≡ sum_at w ps
same_sum w [] = refl
same_sum w (p ∷ ps) = ap (λ z. p.coefficient *ℤ w p.term +ℤ z) (same_sum w ps)

-- ---- what holds of one item more

pub more_hold : {A : Type 0} (P : A → Type 0) (xs : List A) (i : ℕ) (x : A) → i < length xs → x ≡ get_or xs i x → P x → ((j : ℕ) (d : A) → j < i → P (get_or xs j d)) → (j : ℕ) (d : A) → j < i + 1 → P (get_or xs j d)
more_hold P xs i x less is one before j d below =
    below_more (λ k. (e : _) → P (get_or xs k e)) i (λ k h e. before k e h) (λ e. subst P (is ∙ get_or_default xs i x e less) one) j below d

-- ---- literals that are told

other_sign : (b s : Bool) → (b ≡ s → ⊥) → b ≡ not s
other_sign true true h = absurd (h refl)
other_sign true false h = refl
other_sign false true h = refl
other_sign false false h = absurd (h refl)

pub differ : (b s : Bool) → beq b s ≡ false → b ≡ s → ⊥
differ true true d e = cc
differ true false d e = cc
differ false true d e = cc
differ false false d e = cc

pub told_false : (log : List Signed) (l : Signed) (b : Bool) → Contains log (literal b l.atom) → (b ≡ l.positive → ⊥) → IsFalseIn log l
told_false log l b told other = subst (λ (s : Bool). Contains log (literal s l.atom)) (other_sign b l.positive other) told

-- what a literal of each sign says
told_is : (log : List Signed) (n : ℕ) (b : Bool) → ((s : Bool) → Contains log (literal s n) → sign s b ≡ true) → Contains log (literal true n) ⊎ Contains log (literal false n) → Contains log (literal b n)
told_is log n true says (inl told) = told
told_is log n false says (inl told) = absurd (let e : false ≡ true = says true told in cc)
told_is log n true says (inr told) = absurd (let e : false ≡ true = says false told in cc)
told_is log n false says (inr told) = told

-- ---- a last check

module _ (p : Parts) (w : Progress) (at_last : IsAtLast p w) where
  last : IsLast (state_of p.stack.now w.atoms.atoms w.held.closure.log.items)
  last = last_whole p.stack.now w.stopped_at w.atoms.atoms w.held.closure.log.items at_last.ready.under_way.2 at_last.last

  held : IsHeld p.stack.now w.atoms.atoms w.held
  held = at_last.ready.under_way.1.held

  pub all_told : AreAllTold w.held
  all_told = record { told_at = held.told_at; full = λ l less. last.full l (subst (λ n. l.atom < n) held.size less) }

  pub within_places : (n : ℕ) → n < length w.atoms.atoms → n < length w.held.scan.places.items
  within_places n less = subst (λ m. n < m) (sym held.size) less

  -- a bound of the empty sum that is told other than it is
  pub constant_conflict : ConstantHasValue → (n : ℕ) (k : ℤ) (b : Bool) → IsAt w.atoms.atoms n (AtMost [] k) → Contains w.held.closure.log.items (literal b n) → (b ≡ int_le (pos 0) k → ⊥)
      → IsConflict (state_of p.stack.now w.atoms.atoms w.held.closure.log.items) (constant_clause n k)
  constant_conflict law n k b at told other = record {
    clause = constant_is_lemma law n k (state_of p.stack.now w.atoms.atoms w.held.closure.log.items).reading at;
    is_false =
        All-cons (IsFalseIn w.held.closure.log.items) (literal (int_le (pos 0) k) n) [] (told_false w.held.closure.log.items (literal (int_le (pos 0) k) n) b told other)
        (All-nil (IsFalseIn w.held.closure.log.items));
  }

  -- the clauses of an equality that has a number are lemmas
  module _ (flat_law : FlatSaysTheSame) (sort_law : ValueHasItsSort) (i j same low high : ℕ) (left : IsFit p.stack.now p.marks.items i) (right : IsFit p.stack.now p.marks.items j) (at : IsAt w.atoms.atoms same (Same i j))
      (is_low : IsAtMostAt p.stack.now.trees w.atoms.atoms i j low) (is_high : IsAtMostAt p.stack.now.trees w.atoms.atoms j i high) where
    -- an equality is no bound
    no_bound : (sum : List Summand) (k : ℤ) → Same i j ≡ normal_bound sum k → ⊥
    no_bound [] k e = cc
    no_bound (s ∷ sum) k e = cc

    other_than : (n : ℕ) (sum : List Summand) (k : ℤ) → IsAt w.atoms.atoms n (normal_bound sum k) → same ≡ n → ⊥
    other_than n sum k bound e = no_bound sum k (sym (at.1 (Truth 0)) ∙ ap (λ m. atom_at w.atoms.atoms m) e ∙ bound.1 (Truth 0))

    tied : AreTied (signature_of p.stack.now.frames) (state_of p.stack.now w.atoms.atoms w.held.closure.log.items) same low high i j
    tied =
        let ts : List Tree = p.stack.now.trees in
        let d : Form = difference_of ts (tree_at ts i) (tree_at ts j) in
        let e : Form = difference_of ts (tree_at ts j) (tree_at ts i) in
        record {
          same_within = at.0;
          low_within = is_low.0;
          high_within = is_high.0;
          other_than_low = other_than low d.sum (neg_ℤ d.constant) is_low;
          other_than_high = other_than high e.sum (neg_ℤ e.constant) is_high;
          is_same = at.1 (Truth 0);
          is_low = is_low.1 (Truth 0);
          is_high = is_high.1 (Truth 0);
          left = left.readable;
          right = right.readable;
          left_number = numbers flat_law sort_law p.stack.now p.marks.items i left;
          right_number = numbers flat_law sort_law p.stack.now p.marks.items j right;
        }

    pub tie_lemmas : (cs : List Lemma) → ((ds : List Declaration) (t : TheoryState) (k m : ℕ) → IsToldAtOneLevel ds t → AreTied ds t same low high k m → All (IsLemma t.reading) cs)
        → All (IsLemma (state_of p.stack.now w.atoms.atoms w.held.closure.log.items).reading) cs
    tie_lemmas cs law =
        law (signature_of p.stack.now.frames) (state_of p.stack.now w.atoms.atoms w.held.closure.log.items) i j
        (at_one_level flat_law p.stack.now w.atoms.atoms w.held at_last.ready.under_way.1.setting held) tied

  -- clauses of the theory are over numbers that are told
  pub lemmas_within : (cs : List Lemma) → All (IsLemma (state_of p.stack.now w.atoms.atoms w.held.closure.log.items).reading) cs → All (λ (c : Lemma). All (λ (l : Signed). l.atom < length w.held.scan.places.items) c.literals) cs
  lemmas_within cs lemmas =
      All-weaker (IsLemma (state_of p.stack.now w.atoms.atoms w.held.closure.log.items).reading) (λ (c : Lemma). All (λ (l : Signed). l.atom < length w.held.scan.places.items) c.literals)
      (λ c lemma. all_of (λ (l : Signed). l.atom < length w.held.scan.places.items) c.literals (λ l among. within_places l.atom (lemma.over.within l among))) cs lemmas

  -- those of which none is false tie each number of the equality
  made_tied : AreApart w.atoms.atoms → (i j same low high : ℕ) → IsAt w.atoms.atoms same (Same i j) → All (λ (c : Lemma). IsMadeTrue w.held.closure.log.items c.literals) (tie_clauses same low high) → IsTiedIn w.atoms.atoms w.held.closure.log.items i j low high
  made_tied apart i j same low high at made n other =
      subst (λ m. All (IsMadeTrue w.held.closure.log.items) (equal_clauses m low high)) (one_place w.atoms.atoms same n (Same i j) apart at other)
      (All-unmap (λ (c : Lemma). IsMadeTrue w.held.closure.log.items c.literals) at_bottom (equal_clauses same low high) made)

  found : (i j low high : ℕ) (cs : List Lemma) (o : Option Lemma) → All (IsLemma (state_of p.stack.now w.atoms.atoms w.held.closure.log.items).reading) cs
      → (All (λ (c : Lemma). IsMadeTrue w.held.closure.log.items c.literals) cs → IsTiedIn w.atoms.atoms w.held.closure.log.items i j low high)
      → IfSome o (λ (c : Lemma). Contains cs c × AllFalseIn w.held.closure.log.items c.literals) → IfNone o (All (λ (c : Lemma). IsMadeTrue w.held.closure.log.items c.literals) cs)
      → MatchOption o (IsTiedIn w.atoms.atoms w.held.closure.log.items i j low high) (IsConflict (state_of p.stack.now w.atoms.atoms w.held.closure.log.items))
  found i j low high cs None lemmas by broken quiet = by quiet
  found i j low high cs (Some c) lemmas by broken quiet =
      record { clause = All-contains (IsLemma (state_of p.stack.now w.atoms.atoms w.held.closure.log.items).reading) cs c lemmas broken.0; is_false = broken.1 }

  pub tie_found : AreApart w.atoms.atoms → (i j same low high : ℕ) (cs : List Lemma) (E : Type 0) (r : Result (Option Lemma) E) → IsAt w.atoms.atoms same (Same i j) → cs ≡ tie_clauses same low high
      → All (IsLemma (state_of p.stack.now w.atoms.atoms w.held.closure.log.items).reading) cs
      → IfOk r (λ o. IfSome o (λ (c : Lemma). Contains cs c × AllFalseIn w.held.closure.log.items c.literals)) → IfOk r (λ o. IfNone o (All (λ (c : Lemma). IsMadeTrue w.held.closure.log.items c.literals) cs))
      → IfOk r (λ o. MatchOption o (IsTiedIn w.atoms.atoms w.held.closure.log.items i j low high) (IsConflict (state_of p.stack.now w.atoms.atoms w.held.closure.log.items)))
  tie_found apart i j same low high cs E (Err e) at is lemmas broken quiet = tt
  tie_found apart i j same low high cs E (Ok o) at is lemmas broken quiet =
      found i j low high cs o lemmas (λ made. made_tied apart i j same low high at (subst (All (λ (c : Lemma). IsMadeTrue w.held.closure.log.items c.literals)) is made)) broken quiet

  -- ---- an equality is told as the values have it

  numbers_met : WholesHold → IsState w.held.bounds → AllFit w.held.bounds → AreWhole w.held.bounds.bounds → AreMet w.atoms.atoms (numbers_of w.held.bounds.bounds) w.held.closure.log.items
  numbers_met law state fits whole =
      subst (λ (ls : List Signed). AreMet w.atoms.atoms (numbers_of w.held.bounds.bounds) ls) held.same (law w.atoms.atoms w.held.bounds state held.knows whole fits.1)

  abbrev number : ℕ → ℤ
  number i = number_there p.stack.now.trees w.held.bounds.bounds i

  told_at_forms : AreMet w.atoms.atoms (numbers_of w.held.bounds.bounds) w.held.closure.log.items → (f g : Form) (n : ℕ) (sum : List Summand) (k : ℤ) → AtMost sum k ≡ not_above_zero (form_minus f g)
      → IsAt w.atoms.atoms n (AtMost sum k) → IsToldWhereEmpty w.atoms.atoms w.held.closure.log.items n
      → Contains w.held.closure.log.items (literal (int_le (form_at (numbers_of w.held.bounds.bounds) f) (form_at (numbers_of w.held.bounds.bounds) g)) n)
  told_at_forms met f g n [] k e at empty =
      subst (λ b. Contains w.held.closure.log.items (literal b n)) (at_most_at (numbers_of w.held.bounds.bounds) f g [] k e) (empty k (at.1 (Truth 0)))
  told_at_forms met f g n (q ∷ sum) k e at empty =
      let numbers_are : ℕ → ℤ = numbers_of w.held.bounds.bounds in
      told_is w.held.closure.log.items n (int_le (form_at numbers_are f) (form_at numbers_are g))
      (λ s told.
      subst (λ b. sign s b ≡ true) (ap (λ z. int_le z k) (same_sum numbers_are (q ∷ sum)) ∙ at_most_at numbers_are f g (q ∷ sum) k e)
      (met (literal s n) (q ∷ sum) k told (at.1 (Truth 0)) (λ none. cc)))
      (last.full (literal true n) at.0)

  bound_told : AreMet w.atoms.atoms (numbers_of w.held.bounds.bounds) w.held.closure.log.items → (i j n : ℕ) → IsAtMostAt p.stack.now.trees w.atoms.atoms i j n → IsToldWhereEmpty w.atoms.atoms w.held.closure.log.items n
      → Contains w.held.closure.log.items (literal (int_le (number i) (number j)) n)
  bound_told met i j n at empty =
      let ts : List Tree = p.stack.now.trees in
      let d : Form = difference_of ts (tree_at ts i) (tree_at ts j) in
      let is : AtMost (normal_sum d.sum (neg_ℤ d.constant)) (normal_threshold d.sum (neg_ℤ d.constant)) ≡ normal_bound d.sum (neg_ℤ d.constant) = normal_is d.sum (neg_ℤ d.constant) in
      told_at_forms met (linear_form ts (tree_at ts i)) (linear_form ts (tree_at ts j)) n (normal_sum d.sum (neg_ℤ d.constant)) (normal_threshold d.sum (neg_ℤ d.constant)) is (at.0, λ a. at.1 a ∙ sym is) empty

  pub is_told : EqualityIsDecided → WholesHold → IsState w.held.bounds → AllFit w.held.bounds → AreWhole w.held.bounds.bounds → (i j low high : ℕ)
      → IsAtMostAt p.stack.now.trees w.atoms.atoms i j low → IsAtMostAt p.stack.now.trees w.atoms.atoms j i high
      → IsToldWhereEmpty w.atoms.atoms w.held.closure.log.items low → IsToldWhereEmpty w.atoms.atoms w.held.closure.log.items high
      → IsTiedIn w.atoms.atoms w.held.closure.log.items i j low high → IsToldAsIs p.stack.now w.atoms.atoms w.held i j
  is_told decided law state fits whole i j low high is_low is_high low_empty high_empty tied n at =
      let met = numbers_met law state fits whole in
      decided (λ q. Whole (number q)) w.held.closure.log.items n low high i j held.told.consistent refl refl (bound_told met i j low is_low low_empty) (bound_told met j i high is_high high_empty) (tied n at)
