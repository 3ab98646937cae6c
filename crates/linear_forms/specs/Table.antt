-- What a table knows of the forms of the first terms of a list.
use Rattle.std.specs.Prelude.{◌≡◌, ℕ, ◌+◌, ◌<◌, ◌≤◌, true, false, List, length, All, Option, None, MatchOption, slice_index_or, ℤ, pos, refl}
use Rattle.std.specs.Coded.{Coded, code_by, coded×, coded_ℕ, coded_ℤ, coded_list, coded_option}
use Rattle.smt_meaning.specs.declared.clauses.Summand.{Summand}
use Rattle.smt_meaning.specs.contracts.clauses.Summand as summand_type
use Rattle.smt_meaning.specs.declared.terms.Head.{Head}
use Rattle.smt_meaning.specs.Term.{Tree, node, tree_at}
use Rattle.smt_meaning.specs.Parts.{IsPart}
use Rattle.smt_meaning.specs.Linear.{Form, linear_form, linear_forms, number_form, folding_fits, foldings_fit, head_folding_fits, sum_fits}
use Rattle.term_store.specs.Terms.{tree_with, AreDifferent}
use Rattle.linear_forms.specs.Sums.{IsSum}

-- the form of a term, or the place of the part whose folding leaves the range
pub record Known : Type 0 where
  pub form : Form
  pub outside : Option ℕ

abbrev pub known_code : Coded Known
known_code =
    code_by (List Summand × (ℤ × Option ℕ)) (coded× (coded_list summand_type.the_row.coded) (coded× coded_ℤ (coded_option coded_ℕ)))
    (λ (k : Known). (k.form.sum, (k.form.constant, k.outside))) (λ p. record { form = record { sum = p.0; constant = p.1.0 }; outside = p.1.1 }) (λ _. refl)

abbrev pub table_code : Coded (List Known)
table_code = coded_list known_code

-- folding a term from the forms of its arguments leaves the range, and folding these doesn't
abbrev pub FoldsOutside : List Tree → Tree → Type 0
FoldsOutside ts (node h us) = (foldings_fit ts us ≡ true) × (head_folding_fits h (linear_forms ts us) ≡ false)

-- folding the term at a place leaves the range, and it does so at this part
pub record IsOutside (ts : List Tree) (place part : ℕ) : Type 0 where
  pub unfit : folding_fits ts (tree_at ts place) ≡ false
  pub is_part : IsPart (tree_at ts part) (tree_at ts place)
  pub before : part ≤ place
  pub own : FoldsOutside ts (tree_at ts part)

-- folding the term at a place stays in the range and gives this form
pub record HasForm (ts : List Tree) (place : ℕ) (f : Form) : Type 0 where
  pub fits : folding_fits ts (tree_at ts place) ≡ true
  pub form : linear_form ts (tree_at ts place) ≡ f
  pub is_sum : IsSum (place + 1) f.sum
  pub ranges : sum_fits f.sum ≡ true

abbrev pub IsKnown : List Tree → ℕ → Known → Type 0
IsKnown ts place k = MatchOption k.outside (HasForm ts place k.form) (IsOutside ts place)

-- the arguments of the term at a place stand before it
pub record IsLinked (ts : List Tree) (place : ℕ) : Type 0 where
  pub head : Head
  pub arguments : List ℕ
  pub tree : tree_at ts place ≡ tree_with ts head arguments
  pub earlier : All (λ i. i < place) arguments

abbrev pub nothing_known : Known
nothing_known = record { form = number_form (pos 0); outside = None }

abbrev pub known_at : List Known → ℕ → Known
known_at known k = slice_index_or known k nothing_known

-- what is known of the first so many terms
pub record AreFormsTo (ts : List Tree) (count : ℕ) (known : List Known) : Type 0 where
  pub size : length known ≡ count
  pub linked : (k : ℕ) → k < count → IsLinked ts k
  pub each : (k : ℕ) → k < count → IsKnown ts k (known_at known k)

-- what is known of all terms of a list of different terms
pub record AreForms (ts : List Tree) (known : List Known) : Type 0 where
  pub different : AreDifferent ts
  pub forms : AreFormsTo ts (length ts) known

-- what is known of some of the first terms, of this many at least
pub record HasFormsTo (ts : List Tree) (least : ℕ) (known : List Known) : Type 0 where
  pub more : least ≤ length known
  pub within : length known ≤ length ts
  pub forms : AreFormsTo ts (length known) known
