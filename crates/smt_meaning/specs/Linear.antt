-- Linear forms of Int terms.
use Rattle.std.specs.Prelude.{ℕ, zero, Bool, true, false, ◌&&◌, nat_eq, nat_lt, List, [], ◌∷◌, ◌++◌, map, ℤ, pos, negsuc, ◌+ℤ◌, ◌*ℤ◌, if◌then◌else◌}
use Rattle.fraction128.specs.Whole.{is_in_range}
use Rattle.smt_meaning.specs.declared.terms.Operator.TheVariants.{Add, Subtract, Multiply}
use Rattle.smt_meaning.specs.declared.terms.Head.{Head}
use Rattle.smt_meaning.specs.declared.terms.Head.TheVariants.{Numeral, Theory}
use Rattle.smt_meaning.specs.declared.clauses.Summand.{Summand}
use Rattle.smt_meaning.specs.Term.{Tree, Trees, node, none, more, Interpretation}
use Rattle.smt_meaning.specs.TreeShape.{place_of}
use Rattle.smt_meaning.specs.Clause.{sum_value}

-- a sum of coefficients times places, each place once, in ascending order and with a coefficient that isn't 0; and a constant
pub record Form : Type 0 where
  pub sum : List Summand
  pub constant : ℤ

abbrev pub form_value : List Tree → Interpretation → Form → ℤ
form_value ts I f = sum_value ts I f.sum +ℤ f.constant

-- ---- sums

abbrev pub summand : ℕ → ℤ → Summand
summand i c = record { coefficient = c; term = i }

abbrev pub is_zero : ℤ → Bool
is_zero (pos zero) = true
is_zero _ = false

abbrev pub unless_zero : ℕ → ℤ → List Summand → List Summand
unless_zero i c ps = if is_zero c then ps else summand i c ∷ ps

-- a term before, at or after the first place of a sum
abbrev pub placed : Bool → Bool → ℕ → ℤ → Summand → List Summand → List Summand → List Summand
placed true same i c p ps rest = unless_zero i c (p ∷ ps)
placed false true i c p ps rest = unless_zero i (c +ℤ p.coefficient) ps
placed false false i c p ps rest = p ∷ rest

-- a sum and one more term
abbrev pub with_term : ℕ → ℤ → List Summand → List Summand
with_term i c [] = unless_zero i c []
with_term i c (p ∷ ps) = placed (nat_lt i p.term) (nat_eq i p.term) i c p ps (with_term i c ps)

abbrev pub sums_added : List Summand → List Summand → List Summand
sums_added [] qs = qs
sums_added (p ∷ ps) qs = with_term p.term p.coefficient (sums_added ps qs)

abbrev pub each_times : ℤ → List Summand → List Summand
each_times k ps = map (λ (p : Summand). summand p.term (k *ℤ p.coefficient)) ps

abbrev pub sum_times : ℤ → List Summand → List Summand
sum_times k ps = if is_zero k then [] else each_times k ps

-- ---- forms

abbrev pub number_form : ℤ → Form
number_form n = record { sum = []; constant = n }

abbrev pub form_times : ℤ → Form → Form
form_times k f = record { sum = sum_times k f.sum; constant = k *ℤ f.constant }

abbrev pub form_plus : Form → Form → Form
form_plus f g = record { sum = sums_added f.sum g.sum; constant = f.constant +ℤ g.constant }

abbrev pub form_minus : Form → Form → Form
form_minus f g = form_plus f (form_times (negsuc zero) g)

-- a product of which one factor is a constant
abbrev pub form_product : Form → Form → Form
form_product f g = elim f.sum [ [] ↦ form_times f.constant g | p ∷ ps ↦ form_times g.constant f ]

abbrev pub fold_forms : (Form → Form → Form) → Form → List Form → Form
fold_forms op f [] = f
fold_forms op f (g ∷ gs) = fold_forms op (op f g) gs

abbrev pub folded : (Form → Form → Form) → List Form → Form
folded op [] = number_form (pos 0)
folded op (f ∷ fs) = fold_forms op f fs

abbrev pub difference_form : List Form → Form
difference_form (f ∷ []) = form_times (negsuc zero) f
difference_form fs = folded form_minus fs

-- what the head of an Int term makes of its arguments' forms; other terms are leaves
abbrev pub head_form : Head → List Form → Form → Form
head_form (Numeral n) fs leaf = number_form n
head_form (Theory Add) fs leaf = folded form_plus fs
head_form (Theory Subtract) fs leaf = difference_form fs
head_form (Theory Multiply) fs leaf = folded form_product fs
head_form _ fs leaf = leaf

abbrev pub leaf_form : List Tree → Tree → Form
leaf_form ts t = record { sum = summand (place_of t ts) (pos 1) ∷ []; constant = pos 0 }

abbrev mutual
  -- the form of an Int term, folded from the left
  pub linear_form : List Tree → Tree → Form
  linear_form ts (node h us) = head_form h (linear_forms ts us) (leaf_form ts (node h us))

  pub linear_forms : List Tree → Trees → List Form
  linear_forms ts none = []
  linear_forms ts (more u us) = linear_form ts u ∷ linear_forms ts us

-- ---- leaves

abbrev pub leaves_at : Head → Tree → List Tree → List Tree
leaves_at (Numeral n) t inner = []
leaves_at (Theory Add) t inner = inner
leaves_at (Theory Subtract) t inner = inner
leaves_at (Theory Multiply) t inner = inner
leaves_at _ t inner = t ∷ []

abbrev mutual
  -- the leaves of an Int term
  pub leaves : Tree → List Tree
  leaves (node h us) = leaves_at h (node h us) (leaves_of us)

  pub leaves_of : Trees → List Tree
  leaves_of none = []
  leaves_of (more u us) = leaves u ++ leaves_of us

-- ---- whether the folding stays within the range

abbrev pub sum_fits : List Summand → Bool
sum_fits [] = true
sum_fits (p ∷ ps) = is_in_range p.coefficient && sum_fits ps

abbrev pub form_fits : Form → Bool
form_fits f = sum_fits f.sum && is_in_range f.constant

abbrev pub folds_fit : (Form → Form → Form) → Form → List Form → Bool
folds_fit op f [] = form_fits f
folds_fit op f (g ∷ gs) = form_fits f && folds_fit op (op f g) gs

abbrev pub folded_fits : (Form → Form → Form) → List Form → Bool
folded_fits op [] = true
folded_fits op (f ∷ fs) = folds_fit op f fs

abbrev pub head_folding_fits : Head → List Form → Bool
head_folding_fits (Theory Add) fs = folded_fits form_plus fs
head_folding_fits (Theory Subtract) fs = folded_fits form_minus fs
head_folding_fits (Theory Multiply) fs = folded_fits form_product fs
head_folding_fits _ fs = true

abbrev mutual
  pub folding_fits : List Tree → Tree → Bool
  folding_fits ts (node h us) = foldings_fit ts us && head_folding_fits h (linear_forms ts us)

  pub foldings_fit : List Tree → Trees → Bool
  foldings_fit ts none = true
  foldings_fit ts (more u us) = folding_fits ts u && foldings_fit ts us
