-- Whole numbers that meet the bounds told, and the literals that say these.
use Rattle.std.proofs.Common.{◌≡◌, ℕ, ◌<◌, Bool, true, false, List, [], ◌∷◌, map, length, ℤ, ◌+ℤ◌, ◌*ℤ◌, neg_ℤ, refl, sym, ap, ap₂, ◌∙◌, subst, arith}
use Rattle.std.specs.Prelude.{int_le, All, Contains}
use Rattle.std.proofs.lemmas.Int.{ints}
use Rattle.std.proofs.lemmas.List.Elements.{All-head, All-tail, All-contains}
use Rattle.fraction128.specs.declared.ratio.Ratio.{Ratio}
use Rattle.fraction128.specs.Number.{whole, unreduced_sum, unreduced_product}
use Rattle.fraction128.proofs.RingEquations.{var, sum, product, minus, unit, solve}
use Rattle.fraction128.proofs.WholeNumbers.{wholes}
use Rattle.fraction128.specs.declared.Summand.{Summand}
use Rattle.fraction128.specs.Grid.{is_turned, turned}
use Rattle.fraction128.specs.Lines.{sum_value}
use Rattle.smt_meaning.specs.declared.clauses.Summand as Places
use Rattle.smt_meaning.specs.declared.clauses.Atom.TheVariants.{AtMost}
use Rattle.smt_meaning.specs.Term.{Tree, Interpretation}
use Rattle.smt_meaning.specs.Clause as Clauses
use Rattle.smt_meaning.specs.Clause.{atom_true}
use Rattle.literals.specs.Signed.{Signed, sign}
use Rattle.search_port.specs.State.{atom_at}
use Rattle.sum_bounds.specs.declared.writing.SumVariable.{SumVariable}
use Rattle.sum_bounds.specs.Bounds.{StandsFor, Told, told_bound, told_side, told_number, MeetsSide, Meets, sums}
use Rattle.sum_bounds.specs.Clauses.{plain, WholesMeet, whole_values}
use Rattle.bound_log.specs.declared.said.Said.{Said}
use Rattle.bound_log.specs.declared.said.Said.TheVariants.{Nothing, Bound}
use Rattle.bound_log.specs.Told.{said_at, told_by}
use Rattle.bound_log.specs.Atoms.{Says, SaysBound}
use Rattle.bound_log.specs.Values.{sum_at, numbers_of, IsToldOf, BoundsAreTold, WholesHold, IsGiven, MetAreTrue}
use Rattle.bound_log.proofs.Breaking.{told_in}

-- ---- sums of whole numbers

sum_is_whole : (f : ℕ → ℤ) (ps : List Places.Summand) → sum_value (λ t. whole (f t)) (plain ps) ≡ whole (sum_at f ps)
sum_is_whole f [] = refl
sum_is_whole f (p ∷ ps) =
    ap (λ x. unreduced_sum (unreduced_product (whole p.coefficient) (whole (f p.term))) x) (sum_is_whole f ps)
    ∙ ap whole (solve wholes (p.coefficient ∷ f p.term ∷ sum_at f ps ∷ []) (sum (product (product (var 0) (var 1)) unit) (product (var 2) unit)) (sum (product (var 0) (var 1)) (var 2)) refl)

negated_is_whole : (f : ℕ → ℤ) (ps : List Places.Summand)
    → sum_value (λ t. whole (f t)) (map (λ (p : Summand). record { coefficient = neg_ℤ p.coefficient; term = p.term }) (plain ps)) ≡ whole (neg_ℤ (sum_at f ps))
negated_is_whole f [] = refl
negated_is_whole f (p ∷ ps) =
    ap (λ x. unreduced_sum (unreduced_product (whole (neg_ℤ p.coefficient)) (whole (f p.term))) x) (negated_is_whole f ps)
    ∙ ap whole
    (solve wholes (p.coefficient ∷ f p.term ∷ sum_at f ps ∷ []) (sum (product (product (minus (var 0)) (var 1)) unit) (product (minus (var 2)) unit))
    (minus (sum (product (var 0) (var 1)) (var 2))) refl)

abbrev turned_value : Bool → ℤ → ℤ
turned_value true z = neg_ℤ z
turned_value false z = z

turned_is_whole : (f : ℕ → ℤ) (ps : List Places.Summand) → sum_value (λ t. whole (f t)) (turned (plain ps)) ≡ whole (turned_value (is_turned (plain ps)) (sum_at f ps))
turned_is_whole f ps = by (is_turned (plain ps)) refl
  where
    by : (b : Bool) → is_turned (plain ps) ≡ b → sum_value (λ t. whole (f t)) (turned (plain ps)) ≡ whole (turned_value (is_turned (plain ps)) (sum_at f ps))
    by true e = rw e (negated_is_whole f ps)
    by false e = rw e (sum_is_whole f ps)

-- a literal is true of a whole number that meets its bound
bound_says : (positive turned_ : Bool) (z k : ℤ) → MeetsSide (told_side positive turned_) (told_number positive turned_ k) (whole (turned_value turned_ z)) → sign positive (int_le z k) ≡ true
bound_says true false z k h = grind (arith, ints)
bound_says true true z k h = grind (arith, ints)
bound_says false false z k h = grind (arith, ints)
bound_says false true z k h = grind (arith, ints)

-- ---- the log

pub bounds_told : BoundsAreTold
bounds_told table s state knows l sum_ k among is some = by (said_at s.said l.atom) refl
  where
    number : l.atom < length s.said
    number = All-contains (λ (m : Signed). m.atom < length s.said) s.log l state.numbered among

    says : Says s.bounds (atom_at table l.atom) (said_at s.said l.atom)
    says = knows.each l.atom (subst (λ n. l.atom < n) knows.as_many number)

    of_bound : (v : SumVariable) (n : ℤ) → said_at s.said l.atom ≡ Bound v n → SaysBound s.bounds (atom_at table l.atom) v n → IsToldOf s l sum_ k
    of_bound v n e w =
        let same : AtMost w.sum n ≡ AtMost sum_ k = sym w.atom ∙ is in
        let sum_is : w.sum ≡ sum_ = cc in
        let number_is : n ≡ k = cc in
        let own : Contains (told_by (said_at s.said l.atom) l) (told_bound l v.variable v.turned n) =
        subst (λ (d : Said). Contains (told_by d l) (told_bound l v.variable v.turned n)) (sym e) (0, omega arith, refl)
        in
        let told : Contains s.bounds.told (told_bound l v.variable v.turned n) =
        subst (λ (ts : List Told). Contains ts (told_bound l v.variable v.turned n)) (sym state.told) (told_in s.said s.log l (told_bound l v.variable v.turned n) among own)
        in
        record {
          of = v;
          stands = subst (λ ps. StandsFor s.bounds (plain ps) v) sum_is w.variable;
          told = subst (λ z. Contains s.bounds.told (told_bound l v.variable v.turned z)) number_is told;
        }

    by : (d : Said) → said_at s.said l.atom ≡ d → IsToldOf s l sum_ k
    by Nothing e = absurd (some (subst (Says s.bounds (atom_at table l.atom)) e says sum_ k is))
    by (Bound v n) e = of_bound v n e (subst (Says s.bounds (atom_at table l.atom)) e says)

pub wholes_hold : WholesMeet → WholesHold
wholes_hold law table s state knows are_whole met l sum_ k among is some =
    let f = numbers_of s.bounds in
    let o : IsToldOf s l sum_ k = bounds_told table s state knows l sum_ k among is some in
    let v = o.of in
    let meets : Meets (sums s.bounds) (whole_values s.bounds) (told_bound l v.variable v.turned k) =
    All-contains (Meets (sums s.bounds) (whole_values s.bounds)) s.bounds.told (told_bound l v.variable v.turned k) (law s.bounds are_whole met) o.told
    in
    let value : sum_value (whole_values s.bounds) (sums s.bounds v.variable) ≡ whole (turned_value v.turned (sum_at f sum_)) =
    ap (sum_value (whole_values s.bounds)) o.stands.sum ∙ turned_is_whole f sum_ ∙ ap (λ (b : Bool). whole (turned_value b (sum_at f sum_))) (sym o.stands.sign)
    in
    bound_says l.positive v.turned (sum_at f sum_) k (subst (λ (x : Ratio). MeetsSide (told_side l.positive v.turned) (told_number l.positive v.turned k) x) value meets)

-- ---- under an interpretation

sum_given : (ts : List Tree) (I : Interpretation) (f : ℕ → ℤ) (ps : List Places.Summand) → All (IsGiven ts I f) ps → Clauses.sum_value ts I ps ≡ sum_at f ps
sum_given ts I f [] h = refl
sum_given ts I f (p ∷ ps) h =
    ap₂ (λ x y. p.coefficient *ℤ x +ℤ y) (All-head (IsGiven ts I f) p ps h) (sum_given ts I f ps (All-tail (IsGiven ts I f) p ps h))

pub met_true : MetAreTrue
met_true r I f log met l sum_ k among is some given =
    ap (sign l.positive) (ap (atom_true r.trees I) is ∙ ap (λ z. int_le z k) (sum_given r.trees I f sum_ given)) ∙ met l sum_ k among is some
