-- Boxes that assertions make, and what shows that a number left the range.
use Rattle.std.proofs.Common.{◌≡◌, sym, Bool, true, false, List, [], ◌∷◌, refl, ap, subst, inl, inr, arith, ℤ, pos, negsuc, neg_ℤ, None, ◌≤ℤ◌}
use Rattle.std.proofs.lemmas.List.Elements.{Contains-append_right}
use Rattle.std.specs.Prelude.{codes, Contains}
use Rattle.fraction128.specs.Gcd.{gcd_of}
use Rattle.smt_meaning.specs.declared.values.Sort.TheVariants.{Int as Ints}
use Rattle.smt_meaning.specs.declared.terms.Operator.{Operator}
use Rattle.smt_meaning.specs.declared.terms.Operator.TheVariants.{And, AtMost as IsAtMost, Less, Multiply}
use Rattle.smt_meaning.specs.declared.terms.Head.TheVariants.{Numeral, Theory, Symbol as Function}
use Rattle.smt_meaning.specs.declared.clauses.Atom.{Atom}
use Rattle.smt_meaning.specs.declared.clauses.Atom.TheVariants.{AtMost}
use Rattle.smt_meaning.specs.declared.reports.RangeSeen.TheVariants.{Coefficient}
use Rattle.smt_meaning.specs.declared.reports.Cause.TheVariants.{Range}
use Rattle.smt_meaning.specs.Declaration.{Declaration}
use Rattle.smt_meaning.specs.Term.{Tree, node, none, more}
use Rattle.smt_meaning.specs.Stack.{Frame}
use Rattle.smt_meaning.specs.Boxes.{IsInBox, asserted_atoms, term_at_most, negation_at_most}
use Rattle.smt_meaning.specs.Report.{Shows}
use Rattle.smt_laws.proofs.Told.{false_true}
use Rattle.smt_laws.proofs.Reports.{in_head, in_cases, no_sums, none_in}

abbrev tree_x : Tree
tree_x = node (Function 0) none

abbrev whole_constant : Declaration
whole_constant = record { id = 0; name = codes "x"; rank = record { arguments = []; result = Ints }; body = None; is_sort = false; is_name = false }

abbrev numeral : ℤ → Tree
numeral n = node (Numeral n) none

abbrev two : Operator → Tree → Tree → Tree
two o s t = node (Theory o) (more s (more t none))

abbrev asserts : Tree → List Frame
asserts t = record { declared = whole_constant ∷ []; asserted = record { text = []; term = t } ∷ [] } ∷ []

-- ---- (and (<= 0 x) (< x 5)): from 0 to 4

abbrev low : Tree
low = two IsAtMost (numeral (pos 0)) tree_x

abbrev high : Tree
high = two Less tree_x (numeral (pos 5))

abbrev both : Tree
both = two And low high

abbrev trees : List Tree
trees = numeral (pos 0) ∷ tree_x ∷ low ∷ numeral (pos 5) ∷ high ∷ both ∷ []

abbrev said : List Atom
said = negation_at_most 1 (pos 0) ∷ term_at_most 1 (pos 4) ∷ []

said_are : asserted_atoms trees (asserts both) ≡ said
unfolding gcd_of
said_are = refl

abbrev number_of_bound : Atom → ℤ
number_of_bound (AtMost ps k) = k
number_of_bound _ = pos 0

abbrev first_coefficient : Atom → ℤ
first_coefficient (AtMost (p ∷ ps) k) = p.coefficient
first_coefficient _ = pos 0

abbrev is_negative : ℤ → Bool
is_negative (pos n) = false
is_negative (negsuc n) = true

only_low : (k : ℤ) → Contains said (negation_at_most 1 k) → pos 0 ≡ k
only_low k c = elim (in_cases (negation_at_most 1 (pos 0)) (negation_at_most 1 k) (term_at_most 1 (pos 4) ∷ []) c) [
  | inl e ↦ ap number_of_bound e
  | inr d ↦ elim (in_cases (term_at_most 1 (pos 4)) (negation_at_most 1 k) [] d) [
    | inl e ↦ let f : pos 1 ≡ negsuc 0 = ap first_coefficient e in absurd (false_true (ap is_negative f))
    | inr f ↦ absurd (none_in (negation_at_most 1 k) f)
  ]
]

only_high : (k : ℤ) → Contains said (term_at_most 1 k) → pos 4 ≡ k
only_high k c = elim (in_cases (negation_at_most 1 (pos 0)) (term_at_most 1 k) (term_at_most 1 (pos 4) ∷ []) c) [
  | inl e ↦ let f : negsuc 0 ≡ pos 1 = ap first_coefficient e in absurd (false_true (sym (ap is_negative f)))
  | inr d ↦ elim (in_cases (term_at_most 1 (pos 4)) (term_at_most 1 k) [] d) [
    | inl e ↦ ap number_of_bound e
    | inr f ↦ absurd (none_in (term_at_most 1 k) f)
  ]
]

four_is_in_box : IsInBox trees (asserts both) 1 (pos 4)
unfolding gcd_of
four_is_in_box = record {
  least = pos 0;
  greatest = pos 4;
  has_least = in_head (negation_at_most 1 (pos 0)) (term_at_most 1 (pos 4) ∷ []);
  has_greatest = Contains-append_right (negation_at_most 1 (pos 0) ∷ []) (term_at_most 1 (pos 4) ∷ []) (term_at_most 1 (pos 4)) (in_head (term_at_most 1 (pos 4)) []);
  above = λ k c. subst (λ n. neg_ℤ n ≤ℤ pos 4) (only_low k c) (omega arith);
  below = λ k c. subst (λ n. pos 4 ≤ℤ n) (only_high k c) (omega arith);
}

five_is_in_no_box : IsInBox trees (asserts both) 1 (pos 5) → ⊥
unfolding gcd_of
five_is_in_no_box b = absurd (omega (arith, b.below (pos 4) (Contains-append_right (negation_at_most 1 (pos 0) ∷ []) (term_at_most 1 (pos 4) ∷ []) (term_at_most 1 (pos 4)) (in_head (term_at_most 1 (pos 4)) []))))

-- ---- (<= (* 2 N) x), where N is the greatest number of the range

abbrev greatest_number : ℤ
greatest_number = pos 170141183460469231731687303715884105727

abbrev doubled : Tree
doubled = two Multiply (numeral (pos 2)) (numeral greatest_number)

abbrev compared : Tree
compared = two IsAtMost doubled tree_x

abbrev trees_past : List Tree
trees_past = numeral (pos 2) ∷ numeral greatest_number ∷ doubled ∷ tree_x ∷ compared ∷ []

-- the product's coefficient leaves the range
product_leaves : Shows trees_past (asserts compared) (pos 0) [] (Range (Coefficient 2))
product_leaves = record {
  sums = [];
  known = no_sums _;
  are_branches = tt;
  leaves = record {
    tree = doubled;
    part = record { assertion = compared; asserted = in_head compared []; part = inr (inl (inl refl)) };
    place_is = refl;
    leaves = inl refl;
  };
}
