-- The terms' values meet the bounds that literals told say, turned or not.
use Rattle.std.proofs.Common.{◌≡◌, ℕ, Bool, true, false, List, [], ◌∷◌, map, ℤ, pos, ◌*ℤ◌, ◌≤ℤ◌, neg_ℤ, refl, sym, ap, ◌∙◌, subst, arith}
use Rattle.std.proofs.lemmas.Int.{ints}
use Rattle.std.proofs.lemmas.List.Elements.{All-contains}
use Rattle.fraction128.specs.declared.ratio.Ratio.{Ratio}
use Rattle.fraction128.specs.Number.{unreduced_sum, unreduced_product, whole}
use Rattle.fraction128.proofs.RingEquations.{var, sum, product, minus, solve}
use Rattle.fraction128.proofs.WholeNumbers.{wholes}
use Rattle.fraction128.specs.declared.Summand.{Summand}
use Rattle.fraction128.specs.Grid.{variable_of}
use Rattle.fraction128.specs.Lines.{sum_value}
use Rattle.simplex.proofs.Leaves.{leaf_found}
use Rattle.simplex_steps.specs.State.{values}
use Rattle.sum_bounds.specs.Bounds.{told_bound, told_side, told_number, MeetsSide, Meets, sums, leaf_values}
use Rattle.sum_bounds.specs.Clauses.{plain}
use Rattle.sum_bounds.proofs.ClauseLaws.{turned_by, value_turned}
use Rattle.bound_log.specs.Fractions.{FractionsHold, LeavesHaveValues}
use Rattle.bound_log.proofs.Wholes.{bounds_told}

-- ---- a sum and its negation

abbrev negated : List Summand → List Summand
negated ps = map (λ (p : Summand). record { coefficient = neg_ℤ p.coefficient; term = p.term }) ps

abbrev negation : Ratio → Ratio
negation x = record { numerator = neg_ℤ x.numerator; denominator = x.denominator }

negated_plus : (c : ℤ) (x y : Ratio) → unreduced_sum (unreduced_product (whole (neg_ℤ c)) x) (negation y) ≡ negation (unreduced_sum (unreduced_product (whole c) x) y)
negated_plus c x y =
    ap (λ (n : ℤ). let r : Ratio = record { numerator = n; denominator = (unreduced_sum (unreduced_product (whole c) x) y).denominator } in r)
    (solve wholes (c ∷ x.numerator ∷ pos y.denominator ∷ y.numerator ∷ pos (unreduced_product (whole c) x).denominator ∷ [])
    (sum (product (product (minus (var 0)) (var 1)) (var 2)) (product (minus (var 3)) (var 4)))
    (minus (sum (product (product (var 0) (var 1)) (var 2)) (product (var 3) (var 4)))) refl)

negated_value : (w : ℕ → Ratio) (ps : List Summand) → sum_value w (negated ps) ≡ negation (sum_value w ps)
negated_value w [] = refl
negated_value w (p ∷ ps) =
    ap (λ (y : Ratio). unreduced_sum (unreduced_product (whole (neg_ℤ p.coefficient)) (w p.term)) y) (negated_value w ps) ∙ negated_plus p.coefficient (w p.term) (sum_value w ps)

abbrev turned_value : Bool → Ratio → Ratio
turned_value = turned_by negation

-- ---- bounds

negated_times : (k d : ℤ) → neg_ℤ k *ℤ d ≡ neg_ℤ (k *ℤ d)
negated_times k d = solve wholes (k ∷ d ∷ []) (product (minus (var 0)) (var 1)) (minus (product (var 0) (var 1))) refl

-- what meets the bound of a literal that is told to hold is at most the number
at_most : (turned_ : Bool) (k : ℤ) (x : Ratio) → MeetsSide (told_side true turned_) (told_number true turned_ k) (turned_value turned_ x) → x.numerator ≤ℤ (k *ℤ pos x.denominator)
at_most false k x h = grind (arith, ints)
at_most true k x h = let e = negated_times k (pos x.denominator) in grind (arith, ints)

-- ---- the log

pub fractions_hold : FractionsHold
fractions_hold table s state knows met l sum_ k among positive is some =
    let w = leaf_values s.bounds in
    let o = bounds_told table s state knows l sum_ k among is some in
    let v = o.of in
    let meets : Meets (sums s.bounds) w (told_bound l v.variable v.turned k) =
    All-contains (Meets (sums s.bounds) w) s.bounds.told (told_bound l v.variable v.turned k) met o.told
    in
    let value : sum_value w (sums s.bounds v.variable) ≡ turned_value v.turned (sum_value w (plain sum_)) =
    ap (sum_value w) o.stands.sum ∙ value_turned (sum_value w) negation (plain sum_) (negated_value w (plain sum_)) ∙ ap (λ (b : Bool). turned_value b (sum_value w (plain sum_))) (sym o.stands.sign)
    in
    at_most v.turned k (sum_value w (plain sum_))
    (subst (λ (b : Bool). MeetsSide (told_side b v.turned) (told_number b v.turned k) (turned_value v.turned (sum_value w (plain sum_)))) positive
    (subst (λ (x : Ratio). MeetsSide (told_side l.positive v.turned) (told_number l.positive v.turned k) x) value meets))

pub leaves_have_values : LeavesHaveValues
leaves_have_values s state = (
  λ term. (state.bounds.solution.fractions (variable_of s.bounds.columns term)).positive,
  λ f first. ap (values s.bounds.columns) (leaf_found s.bounds.columns f.term f.variable state.bounds.apart first.known first.fraction.is_leaf) ∙ sym first.fraction.value,
)
