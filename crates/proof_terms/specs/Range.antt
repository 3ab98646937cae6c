-- Where the numbers of a step of a proof leave the range from -(2^127 - 1) to 2^127 - 1.
use Rattle.std.specs.Prelude.{◌≡◌, ◌⊎◌, ◌<◌, ◌/◌, zero, suc, ℕ, ℤ, pos, Bool, true, false, ◌&&◌, List, [], ◌∷◌, ◌++◌, length, All, slice_get, Option, Some, None, nat_eq, if◌then◌else◌}
use Rattle.std.specs.List.{list_all}
use Rattle.fraction128.specs.Whole.{first_outside}
use Rattle.fraction128.specs.Gcd.{gcd_of}
use Rattle.fraction128.specs.declared.ratio.Ratio.{Ratio}
use Rattle.fraction128.specs.Listed.{sum_of, sum_steps, product_of, product_steps}
use Rattle.fraction128.specs.Number.{whole}
use Rattle.smt_meaning.specs.declared.terms.Head.TheVariants.{Theory}
use Rattle.smt_meaning.specs.declared.terms.Operator.{Operator}
use Rattle.smt_meaning.specs.declared.terms.Operator.TheVariants.{AtMost as IsAtMost, Less, AtLeast, Greater}
use Rattle.smt_meaning.specs.declared.nodes.Node.{Node}
use Rattle.smt_meaning.specs.declared.clauses.Summand.{Summand}
use Rattle.smt_meaning.specs.declared.clauses.Literal.{Literal}
use Rattle.proof_meaning.specs.declared.proof.Weighted.{Weighted}
use Rattle.proof_meaning.specs.declared.proof.Step.{Step}
use Rattle.proof_meaning.specs.declared.proof.Step.TheVariants.{Form as FormStep, Euclid, Link, Farkas}
use Rattle.smt_meaning.specs.Declaration.{Declaration}
use Rattle.smt_meaning.specs.Term.{Tree, tree_at}
use Rattle.smt_meaning.specs.Linear.{Form, folding_fits, form_fits}
use Rattle.smt_meaning.specs.Division.{Limit, Row, limit_fits}
use Rattle.proof_meaning.specs.Proof.{node_at, IsIntAt, IsLiteral}
use Rattle.smt_laws.specs.Rows.{place_form}
use Rattle.proof_meaning.specs.Rules.{HasRows, false_bound}
use Rattle.proof_read.specs.Written.{numbers_fit}
use Rattle.pair_bounds.specs.Pairs.{at_most_fits, below_fits}

-- ---- comparisons and links

abbrev pub neighbours_fit_from : (ℕ → ℕ → Bool) → ℕ → List ℕ → Bool
neighbours_fit_from fits i [] = true
neighbours_fit_from fits i (j ∷ js) = fits i j && neighbours_fit_from fits j js

abbrev pub neighbours_fit : (ℕ → ℕ → Bool) → List ℕ → Bool
neighbours_fit fits [] = true
neighbours_fit fits (i ∷ is) = neighbours_fit_from fits i is

abbrev pub not_above_fits : List Tree → ℕ → ℕ → Bool
not_above_fits ts i j = at_most_fits ts (tree_at ts i) (tree_at ts j)

abbrev pub less_fits : List Tree → ℕ → ℕ → Bool
less_fits ts i j = below_fits ts (tree_at ts i) (tree_at ts j)

-- the bounds by which the neighbours of a comparison compare
abbrev pub bounds_fit : List Tree → Operator → List ℕ → Bool
bounds_fit ts IsAtMost is = neighbours_fit (not_above_fits ts) is
bounds_fit ts Less is = neighbours_fit (less_fits ts) is
bounds_fit ts AtLeast is = neighbours_fit (λ i j. not_above_fits ts j i) is
bounds_fit ts Greater is = neighbours_fit (λ i j. less_fits ts j i) is
bounds_fit ts o is = true

-- folding the bounds of a comparison leaves the range
pub record FormLeaves (ds : List Declaration) (ns : List Node) (ts : List Tree) (i : ℕ) (ls : List Literal) : Type 0 where
  pub within : i < length ns
  pub operator : Operator
  pub head : (node_at ns i).head ≡ Theory operator
  pub literals : All (IsLiteral ds ts) ls
  pub outside : bounds_fit ts operator (node_at ns i).arguments ≡ false

abbrev pub link_fits : List Tree → ℕ → ℕ → ℕ → Bool
link_fits ts i j zero = not_above_fits ts i j
link_fits ts i j (suc zero) = not_above_fits ts j i
link_fits ts i j (suc (suc n)) = not_above_fits ts i j && not_above_fits ts j i

-- folding the difference of two terms does
pub record LinkLeaves (ds : List Declaration) (ts : List Tree) (i j which : ℕ) : Type 0 where
  pub which_is : which < 3
  pub left : IsIntAt ds ts i
  pub right : IsIntAt ds ts j
  pub outside : link_fits ts i j which ≡ false

-- ---- divisions

abbrev pub terms_fit : List Tree → List (ℤ × ℕ) → Bool
terms_fit ts [] = true
terms_fit ts (m ∷ ms) = folding_fits ts (tree_at ts m.1) && terms_fit ts ms

-- folding the terms of a limit, and its multiples of them, stays in the range
abbrev pub limit_stays : List Tree → Limit ℕ → Bool
limit_stays ts l = terms_fit ts l.multiples && limit_fits (place_form ts) l

abbrev pub row_stays : List Tree → Row ℕ → Bool
row_stays ts r = list_all (limit_stays ts) r.limits

-- folding the row of this number leaves it
pub record EuclidLeaves (ns : List Node) (ts : List Tree) (i n : ℕ) : Type 0 where
  pub within : i < length ns
  pub rows : List (Row ℕ)
  pub has : HasRows ts i (node_at ns i).head (node_at ns i).arguments rows
  pub row : Row ℕ
  pub row_is : slice_get rows n ≡ Some row
  pub outside : row_stays ts row ≡ false

-- ---- multiples of bounds: each leaf's multiples are added in the order in which they are written, and so are the constants

-- a fraction in lowest terms
abbrev pub lowest : ℕ → ℕ → Ratio
lowest a b = record { numerator = pos (a / gcd_of a b); denominator = b / gcd_of a b }

-- adding to x one multiple m * c after another stays in the range, by the listed steps of product and sum
abbrev pub AddsFit : Ratio → List (Ratio × ℤ) → Type 0
AddsFit x [] = Unit {0}
AddsFit x (p ∷ ps) =
    (first_outside (product_steps p.0 (whole p.1)) ≡ None)
    × (first_outside (sum_steps x (product_of p.0 (whole p.1))) ≡ None)
    × AddsFit (sum_of x (product_of p.0 (whole p.1))) ps

abbrev pub of_leaf : ℕ → Ratio → List Summand → List (Ratio × ℤ)
of_leaf x m [] = []
of_leaf x m (p ∷ ps) = if nat_eq x p.term then (m, p.coefficient) ∷ of_leaf x m ps else of_leaf x m ps

-- what is at most 0 where a weighted literal is false
abbrev pub form_of_weighted : Weighted → Option Form
form_of_weighted w = false_bound w.literal.positive w.literal.atom

abbrev pub multiplier : Weighted → Ratio
multiplier w = lowest w.numerator w.denominator

abbrev pub leaf_multiples : ℕ → Ratio → Option Form → List (Ratio × ℤ)
leaf_multiples x m None = []
leaf_multiples x m (Some f) = of_leaf x m f.sum

abbrev pub constant_multiples : Ratio → Option Form → List (Ratio × ℤ)
constant_multiples m None = []
constant_multiples m (Some f) = (m, f.constant) ∷ []

abbrev pub leaf_terms : ℕ → List Weighted → List (Ratio × ℤ)
leaf_terms x [] = []
leaf_terms x (w ∷ ws) = leaf_multiples x (multiplier w) (form_of_weighted w) ++ leaf_terms x ws

abbrev pub constant_terms : List Weighted → List (Ratio × ℤ)
constant_terms [] = []
constant_terms (w ∷ ws) = constant_multiples (multiplier w) (form_of_weighted w) ++ constant_terms ws

-- a multiplier above 0, and a literal on a bound
pub record IsWeighted (ds : List Declaration) (ts : List Tree) (w : Weighted) : Type 0 where
  pub numerator_above : 0 < w.numerator
  pub denominator_above : 0 < w.denominator
  pub literal : IsLiteral ds ts w.literal
  pub form : Form
  pub bound : form_of_weighted w ≡ Some form

abbrev pub FormFits : Weighted → Type 0
FormFits w = (f : Form) → form_of_weighted w ≡ Some f → form_fits f ≡ true

pub record SumsFit (ws : List Weighted) : Type 0 where
  pub forms : All FormFits ws
  pub leaves : (x : ℕ) → AddsFit (whole (pos 0)) (leaf_terms x ws)
  pub constants : AddsFit (whole (pos 0)) (constant_terms ws)

-- adding up leaves the range
pub record FarkasLeaves (ds : List Declaration) (ts : List Tree) (ws : List Weighted) : Type 0 where
  pub weighted : All (IsWeighted ds ts) ws
  pub outside : SumsFit ws → ⊥

-- ---- steps

abbrev pub RuleLeaves : List Declaration → List Node → List Tree → Step → Type 0
RuleLeaves ds ns ts (FormStep i ls) = FormLeaves ds ns ts i ls
RuleLeaves ds ns ts (Euclid i n) = EuclidLeaves ns ts i n
RuleLeaves ds ns ts (Link i j n) = LinkLeaves ds ts i j n
RuleLeaves ds ns ts (Farkas ws) = FarkasLeaves ds ts ws
RuleLeaves ds ns ts s = ⊥

-- a number that a step writes, or one on the way of its rule, leaves the range
abbrev pub LeavesRange : List Declaration → List Node → List Tree → Step → Type 0
LeavesRange ds ns ts s = (numbers_fit s ≡ false) ⊎ RuleLeaves ds ns ts s
