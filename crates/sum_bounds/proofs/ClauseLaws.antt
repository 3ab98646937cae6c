-- Told bounds as clauses over whole numbers.
use Rattle.std.proofs.Common.{◌≡◌, ℕ, zero, suc, ◌<◌, Bool, true, false, not, List, [], ◌∷◌, map, length, get_or, ℤ, pos, ◌+ℤ◌, ◌*ℤ◌, neg_ℤ, sym, ap, ap₂, subst, ◌∙◌, refl, arith}
use Rattle.std.specs.Prelude.{int_le, Contains}
use Rattle.std.proofs.lemmas.Int.{ints}
use Rattle.std.proofs.lemmas.Bool.{or_parts}
use Rattle.fraction128.specs.declared.ratio.Ratio.{Ratio}
use Rattle.fraction128.specs.Number.{whole, unreduced_sum, unreduced_product}
use Rattle.fraction128.proofs.RingEquations.{var, sum, product, minus, unit, solve}
use Rattle.fraction128.proofs.WholeNumbers.{wholes}
use Rattle.fraction128.specs.declared.Summand.{Summand}
use Rattle.fraction128.specs.Grid.{is_turned, turned}
use Rattle.fraction128.specs.Lines.{sum_value}
use Rattle.smt_meaning.specs.declared.clauses.Summand as Places
use Rattle.smt_meaning.specs.Term.{Tree, Interpretation, number_of}
use Rattle.smt_meaning.specs.Clause as Clauses
use Rattle.smt_meaning.specs.Clause.{atom_true, value_at}
use Rattle.literals.specs.Signed.{Signed, opposite, literal_true, some_true, sign}
use Rattle.search_port.specs.State.{Reading, truth}
use Rattle.sum_bounds.specs.Bounds.{Told, told_side, told_number, MeetsSide, Meets, sums, leaf_values, IsConflict}
use Rattle.sum_bounds.specs.Clauses.{plain, IsSaid, ConflictsAreValid, WholesMeet, whole_values}
use Rattle.sum_bounds.specs.Wholes.{IsWholeConflict, WholeConflictsAreValid}
use Rattle.sum_bounds.proofs.Leaves.{whole_leaf}

-- the sum of whole numbers
pub whole_sum : (ℕ → ℤ) → List Summand → ℤ
whole_sum f [] = pos 0
whole_sum f (p ∷ ps) = p.coefficient *ℤ f p.term +ℤ whole_sum f ps

-- a sum of whole numbers over 1
pub sum_is_whole : (f : ℕ → ℤ) (ps : List Summand) → sum_value (λ t. whole (f t)) ps ≡ whole (whole_sum f ps)
unfolding whole_sum
sum_is_whole f [] = refl
sum_is_whole f (p ∷ ps) =
    ap (λ x. unreduced_sum (unreduced_product (whole p.coefficient) (whole (f p.term))) x) (sum_is_whole f ps)
    ∙ ap whole (solve wholes (p.coefficient ∷ f p.term ∷ whole_sum f ps ∷ []) (sum (product (product (var 0) (var 1)) unit) (product (var 2) unit)) (sum (product (var 0) (var 1)) (var 2)) refl)

-- the sum by an interpretation
pub places_sum : (ts : List Tree) (I : Interpretation) (ps : List Places.Summand) → Clauses.sum_value ts I ps ≡ whole_sum (λ t. number_of (value_at ts I t)) (plain ps)
unfolding whole_sum
places_sum ts I [] = refl
places_sum ts I (p ∷ ps) = ap (λ x. p.coefficient *ℤ number_of (value_at ts I p.term) +ℤ x) (places_sum ts I ps)

negated_sum : (f : ℕ → ℤ) (ps : List Summand) → whole_sum f (map (λ (p : Summand). record { coefficient = neg_ℤ p.coefficient; term = p.term }) ps) ≡ neg_ℤ (whole_sum f ps)
unfolding whole_sum
negated_sum f [] = refl
negated_sum f (p ∷ ps) =
    ap (λ x. neg_ℤ p.coefficient *ℤ f p.term +ℤ x) (negated_sum f ps)
    ∙ solve wholes (p.coefficient ∷ f p.term ∷ whole_sum f ps ∷ []) (sum (product (minus (var 0)) (var 1)) (minus (var 2))) (minus (sum (product (var 0) (var 1)) (var 2))) refl

-- a value, or its negation where the sum that it belongs to is turned
abbrev pub turned_by : {A : Type 0} → (A → A) → Bool → A → A
turned_by negation true x = negation x
turned_by negation false x = x

-- what a sum's negation negates is turned with the sum
pub value_turned : {A : Type 0} (value : List Summand → A) (negation : A → A) (ps : List Summand)
    → value (map (λ (p : Summand). record { coefficient = neg_ℤ p.coefficient; term = p.term }) ps) ≡ negation (value ps) → value (turned ps) ≡ turned_by negation (is_turned ps) (value ps)
value_turned value negation ps negated = by (is_turned ps) refl
  where
    by : (b : Bool) → is_turned ps ≡ b → value (turned ps) ≡ turned_by negation (is_turned ps) (value ps)
    by true e = rw e negated
    by false e = rw e refl

abbrev turned_value : Bool → ℤ → ℤ
turned_value = turned_by neg_ℤ

turned_sum : (f : ℕ → ℤ) (ps : List Summand) → whole_sum f (turned ps) ≡ turned_value (is_turned ps) (whole_sum f ps)
turned_sum f ps = value_turned (whole_sum f) neg_ℤ ps (negated_sum f ps)

-- a whole number meets a literal's bound where the literal is true of it
pub bound_holds : (positive turned_ : Bool) (z k : ℤ) → sign positive (int_le z k) ≡ true → MeetsSide (told_side positive turned_) (told_number positive turned_ k) (whole (turned_value turned_ z))
bound_holds true false z k h = grind (arith, ints)
bound_holds true true z k h = grind (arith, ints)
bound_holds false false z k h = grind (arith, ints)
bound_holds false true z k h = grind (arith, ints)

said_holds : (r : Reading) (sums : ℕ → List Summand) (t : Told) (I : Interpretation) → IsSaid r sums t → literal_true (truth r I) t.literal ≡ true
    → Meets sums (λ i. whole (number_of (value_at r.trees I i))) t
said_holds r sums t I said h =
    let ps = plain said.of in
    let f : ℕ → ℤ = λ i. number_of (value_at r.trees I i) in
    let is : truth r I t.literal.atom ≡ int_le (whole_sum f ps) said.number =
    ap (atom_true r.trees I) said.atom ∙ ap (λ z. int_le z said.number) (places_sum r.trees I said.of) in
    let holds = bound_holds t.literal.positive (is_turned ps) (whole_sum f ps) said.number (sym (ap (sign t.literal.positive) is) ∙ h) in
    let value : sum_value (λ i. whole (f i)) (sums t.variable) ≡ whole (turned_value (is_turned ps) (whole_sum f ps)) =
    ap (sum_value (λ i. whole (f i))) said.variable ∙ sum_is_whole f (turned ps) ∙ ap whole (turned_sum f ps) in
    subst (λ (x : Ratio). MeetsSide t.side t.number x) (sym value)
    (subst (λ (u : Told). MeetsSide u.side u.number (whole (turned_value (is_turned ps) (whole_sum f ps)))) (sym said.exact) holds)

-- the complement of a false literal is true
flipped : (v : ℕ → Bool) (l : Signed) → literal_true v (opposite l) ≡ false → literal_true v l ≡ true
flipped v l h = by l.positive (v l.atom) h
  where
    by : (p b : Bool) → sign (not p) b ≡ false → sign p b ≡ true
    by true true h = refl
    by true false h = absurd (let z : true ≡ false = h in cc)
    by false true h = absurd (let z : true ≡ false = h in cc)
    by false false h = refl

none_true : (v : ℕ → Bool) (ls : List Signed) → some_true v ls ≡ false → (k : ℕ) (d : Signed) → k < length ls → literal_true v (get_or ls k d) ≡ false
none_true v [] h k d lt = absurd (omega (arith, lt))
none_true v (l ∷ ls) h zero d lt = (or_parts (literal_true v l) (some_true v ls) h).0
none_true v (l ∷ ls) h (suc k) d lt = none_true v ls (or_parts (literal_true v l) (some_true v ls) h).1 k d (omega (arith, lt))

among_false : (v : ℕ → Bool) (ls : List Signed) (l : Signed) → some_true v ls ≡ false → Contains ls l → literal_true v l ≡ false
among_false v ls l h (k, lt, e) = subst (λ m. literal_true v m ≡ false) e (none_true v ls h k l lt)

pub whole_conflicts_valid : WholeConflictsAreValid
whole_conflicts_valid r level sums told ls said c I interprets = by (some_true (truth r I) ls) refl
  where
    by : (b : Bool) → some_true (truth r I) ls ≡ b → b ≡ true
    by true e = refl
    by false e =
        absurd (c.apart (λ i. number_of (value_at r.trees I i))
        (λ k d lt.
        let t = get_or c.bounds k d in
        let in_told = c.stand k d lt in
        said_holds r sums t I (subst (IsSaid r sums) in_told.2 (said in_told.0 t in_told.1)) (flipped (truth r I) t.literal (among_false (truth r I) ls (opposite t.literal) e (c.each k d lt)))))

-- what no numbers meet, no whole numbers meet
whole_of : (sums : ℕ → List Summand) (told : List Told) (ls : List Signed) → IsConflict sums told ls → IsWholeConflict sums told ls
whole_of sums told ls c =
    record { bounds = c.bounds; stand = c.stand; each = c.each; only = c.only; once = c.once; apart = λ f met. c.apart (λ i. whole (f i)) (λ i. omega arith) met }

pub conflicts_valid : ConflictsAreValid
conflicts_valid r level sums told ls said c = whole_conflicts_valid r level sums told ls said (whole_of sums told ls c)

-- ---- whole values

sum_same : (v w : ℕ → Ratio) (ps : List Summand) → ((t : ℕ) → v t ≡ w t) → sum_value v ps ≡ sum_value w ps
sum_same v w [] h = refl
sum_same v w (p ∷ ps) h = ap₂ (λ x y. unreduced_sum (unreduced_product (whole p.coefficient) x) y) (h p.term) (sum_same v w ps h)

over_one : (x : Ratio) → x.denominator ≡ 1 → x ≡ whole x.numerator
over_one x e = ap (λ (d : ℕ). let r : Ratio = record { numerator = x.numerator; denominator = d } in r) e

pub wholes_meet : WholesMeet
wholes_meet s are_whole met k d lt =
    let t = get_or s.told k d in
    subst (λ (x : Ratio). MeetsSide t.side t.number x)
    (sum_same (leaf_values s) (whole_values s) (sums s t.variable) (λ term. over_one (leaf_values s term) (whole_leaf s.columns term are_whole))) (met k d lt)
