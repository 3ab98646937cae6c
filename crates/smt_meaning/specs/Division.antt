-- What `div`, `mod`, `abs` and divisibility by a numeral say: for each such term the clauses that are true of it under every interpretation, and that no
-- other value of the term meets (SMT-LIB 2.6, theory Ints).
use Rattle.std.specs.Prelude.{Bool, true, false, ◌&&◌, List, [], ◌∷◌, ◌++◌, ℤ, pos, negsuc, neg_ℤ, ◌-ℤ◌, Option, Some, None}
use Rattle.std.specs.List.{list_all}
use Rattle.fraction128.specs.Whole.{is_in_range}
use Rattle.fraction128.specs.Division.{absolute}
use Rattle.smt_meaning.specs.declared.terms.Operator.{Operator}
use Rattle.smt_meaning.specs.declared.terms.Operator.TheVariants.{Divide, Modulo, Absolute, Divisible}
use Rattle.smt_meaning.specs.declared.terms.Head.{Head}
use Rattle.smt_meaning.specs.declared.terms.Head.TheVariants.{Theory}
use Rattle.smt_meaning.specs.Term.{Tree, Trees, node, none, more}
use Rattle.smt_meaning.specs.Linear.{Form, number_form, form_plus, form_times, form_fits, linear_form}

-- a sum of multiples of terms is at most a number
pub record Limit (A : Type 0) : Type 0 where
  pub multiples : List (ℤ × A)
  pub most : ℤ

-- one of the limits holds; or the term, where it is a Bool, has this value
pub record Row (A : Type 0) : Type 0 where
  pub truth : Option Bool
  pub limits : List (Limit A)

abbrev pub limit : {A : Type 0} → List (ℤ × A) → ℤ → Limit A
limit ms k = record { multiples = ms; most = k }

abbrev pub always : {A : Type 0} → List (ℤ × A) → ℤ → Row A
always ms k = record { truth = None; limits = limit ms k ∷ [] }

abbrev pub unless : {A : Type 0} → Bool → List (ℤ × A) → ℤ → Row A
unless b ms k = record { truth = Some b; limits = limit ms k ∷ [] }

-- n * q - a
abbrev pub beyond : {A : Type 0} → A → ℤ → A → List (ℤ × A)
beyond a n q = (n, q) ∷ (negsuc 0, a) ∷ []

-- a - n * q
abbrev pub left_by : {A : Type 0} → A → ℤ → A → List (ℤ × A)
left_by a n q = (pos 1, a) ∷ (neg_ℤ n, q) ∷ []

-- ---- the table

-- q = (div a n): n * q - a <= 0, and a - n * q <= |n| - 1
abbrev pub quotient_rows : {A : Type 0} → A → ℤ → A → List (Row A)
quotient_rows a n q = always (beyond a n q) (pos 0) ∷ always (left_by a n q) (absolute n -ℤ pos 1) ∷ []

-- m = (mod a n): those of q; m - a + n * q <= 0, and a - n * q - m <= 0
abbrev pub remainder_rows : {A : Type 0} → A → ℤ → A → A → List (Row A)
remainder_rows a n q m = quotient_rows a n q ++ always ((pos 1, m) ∷ beyond a n q) (pos 0) ∷ always ((negsuc 0, m) ∷ left_by a n q) (pos 0) ∷ []

-- D = ((_ divisible n) a): those of q; D or n * q - a <= -1, and not D or a - n * q <= 0
abbrev pub divisible_rows : {A : Type 0} → A → ℤ → A → List (Row A)
divisible_rows a n q = quotient_rows a n q ++ unless true (beyond a n q) (negsuc 0) ∷ unless false (left_by a n q) (pos 0) ∷ []

-- b = (abs a): a - b <= 0, -a - b <= 0, and b - a <= 0 or b + a <= 0
abbrev pub absolute_rows : {A : Type 0} → A → A → List (Row A)
absolute_rows a b =
    always ((pos 1, a) ∷ (negsuc 0, b) ∷ []) (pos 0) ∷ always ((negsuc 0, a) ∷ (negsuc 0, b) ∷ []) (pos 0)
    ∷ record { truth = None; limits = limit ((pos 1, b) ∷ (negsuc 0, a) ∷ []) (pos 0) ∷ limit ((pos 1, b) ∷ (pos 1, a) ∷ []) (pos 0) ∷ [] } ∷ []

-- the rows of a term with these arguments, where the divisor is a number, numbered from 0; with another operator it has none
abbrev pub operator_rows : {A : Type 0} → Operator → ℤ → A → List A → List (Row A)
operator_rows Divide n t (a ∷ d ∷ []) = quotient_rows a n t
operator_rows Modulo n t (a ∷ d ∷ q ∷ []) = remainder_rows a n q t
operator_rows Divisible n t (a ∷ d ∷ q ∷ []) = divisible_rows a n q
operator_rows Absolute n t (a ∷ []) = absolute_rows a t
operator_rows o n t us = []

-- ---- of a term

abbrev pub listed : Trees → List Tree
listed none = []
listed (more u us) = u ∷ listed us

-- the number of the second argument's form, the divisor
abbrev pub divisor_of : List Tree → Trees → ℤ
divisor_of ts (more a (more n us)) = (linear_form ts n).constant
divisor_of ts us = pos 0

abbrev pub rows_at : List Tree → Head → Trees → List (Row Tree)
rows_at ts (Theory o) us = operator_rows o (divisor_of ts us) (node (Theory o) us) (listed us)
rows_at ts h us = []

abbrev pub rows_of : List Tree → Tree → List (Row Tree)
rows_of ts (node h us) = rows_at ts h us

-- ---- its forms

-- a sum of multiples, folded from the right
abbrev pub combined : {A : Type 0} → (A → Form) → List (ℤ × A) → Form
combined form [] = number_form (pos 0)
combined form (m ∷ ms) = form_plus (form_times m.0 (form m.1)) (combined form ms)

-- it stays within the range
abbrev pub combined_fits : {A : Type 0} → (A → Form) → List (ℤ × A) → Bool
combined_fits form [] = true
combined_fits form (m ∷ ms) = combined_fits form ms && (form_fits (form_times m.0 (form m.1)) && form_fits (combined form (m ∷ ms)))

-- and so does the number that bounds its sum
abbrev pub limit_fits : {A : Type 0} → (A → Form) → Limit A → Bool
limit_fits form l = combined_fits form l.multiples && is_in_range (l.most -ℤ (combined form l.multiples).constant)

abbrev pub row_fits : {A : Type 0} → (A → Form) → Row A → Bool
row_fits form r = list_all (limit_fits form) r.limits

abbrev pub rows_fit : List Tree → List (Row Tree) → Bool
rows_fit ts rows = list_all (row_fits (linear_form ts)) rows
