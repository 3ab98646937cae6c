-- What is known of the least value of x on the stack of (assert (<= 5 x)).
use Rattle.std.proofs.Common.{◌≡◌, ℕ, ℤ, pos, Bool, true, false, List, [], ◌∷◌, Option, Some, None, refl, ap, subst, arith, ◌&&◌}
use Rattle.std.specs.Prelude.{◌≤ℤ◌, ◌<ℤ◌, int_le, length, IsTrue}
use Rattle.std.proofs.lemmas.Int.{ints}
use Rattle.std.proofs.lemmas.List.Elements.{All-nil, All-cons, All-head}
use Rattle.smt_meaning.specs.declared.values.Table.{Table}
use Rattle.smt_meaning.specs.declared.reports.Report.{Report}
use Rattle.smt_meaning.specs.Term.{Tree, Interpretation, number_of, value, truth_of}
use Rattle.smt_meaning.specs.Interpretation.{Interprets, IsFunctionFor, meaning}
use Rattle.smt_meaning.specs.Stack.{Frame, Satisfies}
use Rattle.smt_meaning.specs.Model.{Fits}
use Rattle.smt_meaning.specs.Goal.{is_itself, least_number}
use Rattle.smt_meaning.specs.Least.{IsBest, IsModelFor, value_in}
use Rattle.smt_meaning.specs.Report.{AreReports, AreAllSpent, Shows}
use Rattle.report_laws.specs.Five.{x, low, trees, frames, constant_x}
use Rattle.report_laws.specs.Cores.{nothing_spent}
use Rattle.report_laws.specs.Minimum.{text, best, x_is, FiveIsLeast, NothingElseIsLeast, wanted_memory, SevenMayBeBest, SevenMayBeBestOfTwo, OneOfTwoIsNoBest, NoBoundFromAbove, NoModelWithoutBound, NothingBelowFive, NothingSpentIsNoBest}

-- ---- the assertion, and that x is itself

abbrev itself : Tree
itself = (is_itself text x).term

at_least_five : (v : ℤ) → IsTrue (int_le (pos 5) v && true) → pos 5 ≤ℤ v
at_least_five v h = by (int_le (pos 5) v) refl h
  where
    by : (b : Bool) → int_le (pos 5) v ≡ b → IsTrue (b && true) → pos 5 ≤ℤ v
    by true e w = grind (arith, ints)
    by false e w = absurd (cc)

holding : (J : Interpretation) → IsTrue (truth_of (value J low)) → pos 5 ≤ℤ number_of (value J x)
holding J h = at_least_five (number_of (J 0 [])) h

model_above : (i : List Table) → IsModelFor frames text x i → pos 5 ≤ℤ value_in i x
model_above i m = holding (meaning i) (All-head (Satisfies (meaning i)) low (itself ∷ []) m.holds)

-- ---- models

model_of : (v : ℤ) → IsTrue (truth_of (value (meaning (x_is v)) low)) → IsTrue (truth_of (value (meaning (x_is v)) itself))
    → Fits (meaning (x_is v)) low → Fits (meaning (x_is v)) itself → IsModelFor frames text x (x_is v)
model_of v h j f g = record {
  tables = (record { symbol = refl; rows = All-nil _; default = refl; no_two = λ i j d k l. absurd (omega (arith, l)); constants = λ e. refl }, tt);
  holds = All-cons (Satisfies (meaning (x_is v))) low (itself ∷ []) h (All-cons (Satisfies (meaning (x_is v))) itself [] j (All-nil (Satisfies (meaning (x_is v)))));
  fits = All-cons (Fits (meaning (x_is v))) low (itself ∷ []) f (All-cons (Fits (meaning (x_is v))) itself [] g (All-nil (Fits (meaning (x_is v)))));
}

-- ---- least values

pub five_is_least : FiveIsLeast
five_is_least = record {
  model = model_of (pos 5) refl refl refl refl;
  value_is = refl;
  least = λ J interprets h. holding J (All-head (Satisfies J) low [] h);
}

pub nothing_else : NothingElseIsLeast
unfolding Interprets
nothing_else v i m =
    let low_bound : pos 5 ≤ℤ v = subst (λ n. pos 5 ≤ℤ n) m.value_is (model_above i m.model) in
    let high_bound : v ≤ℤ pos 5 =
    m.least (meaning (x_is (pos 5))) (All-cons (IsFunctionFor (meaning (x_is (pos 5)))) constant_x [] (λ s vs hs. refl) (All-nil (IsFunctionFor (meaning (x_is (pos 5))))))
    (All-cons (Satisfies (meaning (x_is (pos 5)))) low [] refl (All-nil (Satisfies (meaning (x_is (pos 5)))))) in
    omega (arith, ints, low_bound, high_bound)

-- ---- the best that is known

abbrev Shown : List Tree → List Frame → ℤ → Report → Type 0
Shown ts fs limit r = Shows ts fs limit r.branches r.cause

memory_wanted : (ts : List Tree) (fs : List Frame) (limit : ℤ) → AreReports 1 ts fs limit (wanted_memory 0 ∷ [])
memory_wanted ts fs limit = record {
  one_each = refl;
  shown = All-cons (Shown ts fs limit) (wanted_memory 0) [] tt (All-nil (Shown ts fs limit));
}

both_wanted : (ts : List Tree) (fs : List Frame) (limit : ℤ) → AreReports 2 ts fs limit (wanted_memory 0 ∷ wanted_memory 1 ∷ [])
both_wanted ts fs limit = record {
  one_each = refl;
  shown = All-cons (Shown ts fs limit) (wanted_memory 0) (wanted_memory 1 ∷ []) tt (All-cons (Shown ts fs limit) (wanted_memory 1) [] tt (All-nil (Shown ts fs limit)));
}

six_below : pos 6 <ℤ pos 7
six_below = grind (arith, ints)

pub seven_may_be : SevenMayBeBest
seven_may_be limit = (model_of (pos 7) refl refl refl refl, six_below, memory_wanted _ _ limit)

pub seven_may_be_of_two : SevenMayBeBestOfTwo
seven_may_be_of_two limit = (model_of (pos 7) refl refl refl refl, six_below, both_wanted _ _ limit)

too_few_reports : (ts : List Tree) (fs : List Frame) (limit : ℤ) (r : Report) → AreReports 2 ts fs limit (r ∷ []) → ⊥
too_few_reports ts fs limit r h =
    let counts : ◌≡◌ {A = ℕ} 1 2 = ap (length {A = ℕ}) h.one_each in
    absurd (omega (arith, counts))

-- reports that show nothing of any stack are those of no best
none_is_best : (workers : ℕ) (limit : ℤ) (rs : List Report) → ((ts : List Tree) (fs : List Frame) → AreReports workers ts fs limit rs → ⊥)
    → (i : Option (List Table)) (b : Option ℤ) → IsBest workers trees frames limit text x (best i b rs) → ⊥
none_is_best workers limit rs none None None r = none _ _ r
none_is_best workers limit rs none None (Some b) r = absurd r
none_is_best workers limit rs none (Some i) None r = none _ _ r.2
none_is_best workers limit rs none (Some i) (Some b) r = none _ _ r.2

pub one_of_two_is_none : OneOfTwoIsNoBest
one_of_two_is_none limit i b r = none_is_best 2 limit (r ∷ []) (λ ts fs h. too_few_reports ts fs limit r h) i b

pub no_bound_from_above : NoBoundFromAbove
no_bound_from_above workers limit i b rs h r = absurd (omega (arith, ints, h, r.1))

pub no_model_without_bound : NoModelWithoutBound
no_model_without_bound workers limit i rs r = absurd (apart (value_in i x) (model_above i r.0) r.1)
  where
    apart : (v : ℤ) → pos 5 ≤ℤ v → v ≡ least_number → ⊥
    apart v h e = let below : pos 5 ≤ℤ least_number = subst (λ n. pos 5 ≤ℤ n) e h in absurd (grind (arith, ints))

pub nothing_below : NothingBelowFive
nothing_below workers limit i None rs r = model_above i r.0
nothing_below workers limit i (Some b) rs r = model_above i r.0

unspent : (workers : ℕ) (ts : List Tree) (fs : List Frame) (others : List Report) → AreReports workers ts fs (pos 5) (nothing_spent ∷ others) → ⊥
unspent workers ts fs others r =
    let spent : AreAllSpent ts fs (pos 5) [] [] = All-head (Shown ts fs (pos 5)) nothing_spent others r.shown in
    let none_spent : ◌≡◌ {A = ℕ} 0 5 = spent.count in
    absurd (omega (arith, none_spent))

pub nothing_spent_is_none : NothingSpentIsNoBest
nothing_spent_is_none workers i b others = none_is_best workers (pos 5) (nothing_spent ∷ others) (λ ts fs r. unspent workers ts fs others r) i b
