-- Multiples of bounds as they are added: an entry for each leaf of each bound, and the constants apart.
use Rattle.std.specs.Prelude.{◌≡◌, ◌<◌, ◌^◌, ℕ, ℤ, pos, neg_ℤ, ◌+ℤ◌, Bool, true, false, ◌&&◌, ◌||◌, List, [], ◌∷◌, ◌++◌, All, Option, Some, None, nat_eq, nat_lt, if◌then◌else◌, map}
use Rattle.fraction128.specs.Whole.{InRange, is_in_range, first_outside}
use Rattle.fraction128.specs.declared.range.Range.{Range}
use Rattle.fraction128.specs.declared.ratio.Ratio.{Ratio}
use Rattle.fraction128.specs.Listed.{sum_of, sum_steps, product_of, product_steps}
use Rattle.fraction128.specs.Number.{whole, is_zero}
use Rattle.smt_meaning.specs.declared.clauses.Summand.{Summand}
use Rattle.smt_meaning.specs.declared.clauses.Atom.{Atom}
use Rattle.smt_meaning.specs.declared.clauses.Atom.TheVariants.{AtMost}
use Rattle.smt_meaning.specs.declared.clauses.Literal.{Literal}
use Rattle.proof_meaning.specs.declared.proof.Weighted.{Weighted}
use Rattle.smt_meaning.specs.Linear.{summand, sum_fits}
use Rattle.proof_meaning.specs.Rules.{IsFarkas}
use Rattle.linear_forms.specs.Sums.{IsSum, signed}
use Rattle.proof_terms.specs.Range.{multiplier, SumsFit}
use Rattle.proof_form.specs.declared.farkas_entries.Entry.{Entry}
use Rattle.proof_terms.specs.declared.verdict.Verdict.{Verdict}
use Rattle.proof_terms.specs.declared.verdict.Verdict.TheVariants.{Good, Wrong, Range as LeavesTheRange}

-- ---- what is at most 0 where a literal on a bound is false

abbrev pub signed_sum : Bool → List Summand → List Summand
signed_sum positive [] = []
signed_sum positive (p ∷ ps) = summand p.term (signed positive p.coefficient) ∷ signed_sum positive ps

abbrev pub signed_limit : Bool → ℤ → ℤ
signed_limit true k = k +ℤ pos 1
signed_limit false k = neg_ℤ k

abbrev pub atom_sum : Bool → Atom → List Summand
atom_sum positive (AtMost ps k) = signed_sum positive ps
atom_sum positive a = []

abbrev pub atom_constant : Bool → Atom → ℤ
atom_constant positive (AtMost ps k) = signed_limit positive k
atom_constant positive a = pos 0

abbrev pub is_bound : Atom → Bool
is_bound (AtMost ps k) = true
is_bound a = false

-- a multiplier above 0, and a literal on a bound
abbrev pub multiplies_bound : Weighted → Bool
multiplies_bound w = nat_lt 0 w.numerator && (nat_lt 0 w.denominator && is_bound w.literal.atom)

abbrev pub weighted_sum : Weighted → List Summand
weighted_sum w = atom_sum w.literal.positive w.literal.atom

abbrev pub weighted_constant : Weighted → ℤ
weighted_constant w = atom_constant w.literal.positive w.literal.atom

-- a multiplier above 0 and a bound on a sum of leaves below a number, with all numbers in the range
pub record IsMultiple (high : ℕ) (w : Weighted) : Type 0 where
  pub numerator_above : 0 < w.numerator
  pub numerator_in : w.numerator < 2 ^ 127
  pub denominator_above : 0 < w.denominator
  pub denominator_in : w.denominator < 2 ^ 127
  pub sum : List Summand
  pub limit : ℤ
  pub atom : w.literal.atom ≡ AtMost sum limit
  pub is_sum : IsSum high sum
  pub coefficients : sum_fits sum ≡ true
  pub limit_in : InRange limit

abbrev pub AreMultiples : List Weighted → Type 0
AreMultiples ws = (high : ℕ) × All (IsMultiple high) ws

-- ---- steps in the range

abbrev pub none_outside : Option Range → Bool
none_outside None = true
none_outside (Some step) = false

abbrev pub sum_inside : Ratio → Ratio → Bool
sum_inside x y = none_outside (first_outside (sum_steps x y))

abbrev pub multiple : Ratio → ℤ → Ratio
multiple m c = product_of m (whole c)

abbrev pub multiple_inside : Ratio → ℤ → Bool
multiple_inside m c = none_outside (first_outside (product_steps m (whole c)))

-- ---- entries

abbrev pub entry : ℕ → Ratio → Entry
entry leaf m = record { leaf = leaf; multiple = m }

abbrev pub entries_of : Ratio → List Summand → List Entry
entries_of m [] = []
entries_of m (p ∷ ps) = entry p.term (multiple m p.coefficient) ∷ entries_of m ps

abbrev pub multiples_inside : Ratio → List Summand → Bool
multiples_inside m [] = true
multiples_inside m (p ∷ ps) = multiple_inside m p.coefficient && multiples_inside m ps

abbrev pub entries_with : List Weighted → List Entry
entries_with [] = []
entries_with (w ∷ ws) = entries_of (multiplier w) (weighted_sum w) ++ entries_with ws

-- ---- constants

abbrev pub constant_multiple : Weighted → Ratio
constant_multiple w = multiple (multiplier w) (weighted_constant w)

-- adding a multiple of a number stays in the range
abbrev pub limit_inside : Ratio → Ratio → ℤ → Bool
limit_inside k m c = is_in_range c && (multiple_inside m c && sum_inside k (multiple m c))

abbrev pub constant_inside : Ratio → Weighted → Bool
constant_inside k w = limit_inside k (multiplier w) (weighted_constant w)

-- the constant so far and those of more bounds
abbrev pub constant_with : Ratio → List Weighted → Ratio
constant_with k [] = k
constant_with k (w ∷ ws) = constant_with (sum_of k (constant_multiple w)) ws

-- all multiples, and the sums of the constants, are in the range
abbrev pub parts_inside : Ratio → List Weighted → Bool
parts_inside k [] = true
parts_inside k (w ∷ ws) = (constant_inside k w && multiples_inside (multiplier w) (weighted_sum w)) && parts_inside (sum_of k (constant_multiple w)) ws

-- what is left after a bound: no sum of constants where a number leaves the range
abbrev pub AfterPart : Weighted → Ratio → List Entry → List Entry → Option Ratio → Type 0
AfterPart w k old new None = (constant_inside k w && multiples_inside (multiplier w) (weighted_sum w)) ≡ false
AfterPart w k old new (Some next) =
    ((constant_inside k w && multiples_inside (multiplier w) (weighted_sum w)) ≡ true) × (next ≡ sum_of k (constant_multiple w)) × (new ≡ old ++ entries_of (multiplier w) (weighted_sum w))

-- the same after all bounds
abbrev pub AfterParts : List Weighted → List Entry → List Entry → Option Ratio → Type 0
AfterParts ws old new None = parts_inside (whole (pos 0)) ws ≡ false
AfterParts ws old new (Some k) = (parts_inside (whole (pos 0)) ws ≡ true) × (k ≡ constant_with (whole (pos 0)) ws) × (new ≡ old ++ entries_with ws)

-- ---- leaves, whose entries stand side by side

-- the sum so far of a leaf: of the leaf before it, that leaf's
abbrev pub so_far : ℕ → Ratio → ℕ → Ratio
so_far last sum leaf = if nat_eq last leaf then sum else whole (pos 0)

abbrev pub leaves_inside : ℕ → Ratio → List Entry → Bool
leaves_inside last sum [] = true
leaves_inside last sum (e ∷ es) = sum_inside (so_far last sum e.leaf) e.multiple && leaves_inside e.leaf (sum_of (so_far last sum e.leaf) e.multiple) es

-- the sum of each leaf is 0
abbrev pub leaves_vanish : ℕ → Ratio → List Entry → Bool
leaves_vanish last sum [] = is_zero sum
leaves_vanish last sum (e ∷ es) = (nat_eq last e.leaf || is_zero sum) && leaves_vanish e.leaf (sum_of (so_far last sum e.leaf) e.multiple) es

-- ---- what the multiples come to

abbrev pub literals_of : List Weighted → List Literal
literals_of ws = map (λ (w : Weighted). w.literal) ws

abbrev pub ComeTo : List Weighted → Verdict → Type 0
ComeTo ws Good = SumsFit ws × IsFarkas ws (literals_of ws)
ComeTo ws Wrong = SumsFit ws × ((ls : List Literal) → IsFarkas ws ls → ⊥)
ComeTo ws LeavesTheRange = SumsFit ws → ⊥

abbrev pub verdict_by : Bool → Verdict
verdict_by true = Good
verdict_by false = Wrong
