-- Whether the differences that comparisons of Int terms make, and the rows of divisions, stay within the range.
use Rattle.std.specs.Prelude.{Bool, true, ◌&&◌, List, ◌-ℤ◌, neg_ℤ, pos, if◌then◌else◌}
use Rattle.fraction128.specs.Whole.{is_in_range}
use Rattle.smt_meaning.specs.declared.terms.Operator.TheVariants.{Equal, Distinct, Ite, AtMost as IsAtMost, Less, AtLeast, Greater, Divide, Modulo, Absolute, Divisible}
use Rattle.smt_meaning.specs.declared.terms.Head.{Head}
use Rattle.smt_meaning.specs.declared.terms.Head.TheVariants.{Theory}
use Rattle.smt_meaning.specs.Declaration.{Declaration}
use Rattle.smt_meaning.specs.Term.{Tree, Trees, node, none, more}
use Rattle.smt_meaning.specs.Signature.{tree_sort, is_int}
use Rattle.smt_meaning.specs.Linear.{form_fits}
use Rattle.smt_meaning.specs.Division.{rows_at, rows_fit}
use Rattle.smt_meaning.specs.Atoms.{difference_of}

-- s <= t
abbrev pub pair_fits : List Tree → Tree → Tree → Bool
pair_fits ts s t = form_fits (difference_of ts s t)

-- s < t: the bound is one less
abbrev pub strict_pair_fits : List Tree → Tree → Tree → Bool
strict_pair_fits ts s t = pair_fits ts s t && is_in_range (neg_ℤ (difference_of ts s t).constant -ℤ pos 1)

-- terms of another sort make no difference
abbrev pub same_pair_fits : List Tree → List Declaration → Tree → Tree → Bool
same_pair_fits ts ds s t = if is_int (tree_sort ds s) then pair_fits ts s t else true

-- each two neighbours
abbrev pub neighbours_fit_from : (Tree → Tree → Bool) → Tree → Trees → Bool
neighbours_fit_from f t none = true
neighbours_fit_from f t (more u us) = f t u && neighbours_fit_from f u us

abbrev pub neighbours_fit : (Tree → Tree → Bool) → Trees → Bool
neighbours_fit f none = true
neighbours_fit f (more t ts) = neighbours_fit_from f t ts

abbrev pub each_fits_with : (Tree → Tree → Bool) → Tree → Trees → Bool
each_fits_with f t none = true
each_fits_with f t (more u us) = f t u && each_fits_with f t us

-- each two
abbrev pub pairs_fit : (Tree → Tree → Bool) → Trees → Bool
pairs_fit f none = true
pairs_fit f (more t ts) = each_fits_with f t ts && pairs_fit f ts

-- an `ite` with each branch
abbrev pub branches_fit : (Tree → Tree → Bool) → Tree → Trees → Bool
branches_fit f t (more c (more u (more v none))) = f t u && f t v
branches_fit f t us = true

-- the pairs that a term compares, or the rows of a division
abbrev pub comparison_fits : List Tree → List Declaration → Head → Trees → Bool
comparison_fits ts ds (Theory Equal) us = neighbours_fit (same_pair_fits ts ds) us
comparison_fits ts ds (Theory Distinct) us = pairs_fit (same_pair_fits ts ds) us
comparison_fits ts ds (Theory Ite) us = branches_fit (same_pair_fits ts ds) (node (Theory Ite) us) us
comparison_fits ts ds (Theory IsAtMost) us = neighbours_fit (pair_fits ts) us
comparison_fits ts ds (Theory Less) us = neighbours_fit (strict_pair_fits ts) us
comparison_fits ts ds (Theory AtLeast) us = neighbours_fit (λ s t. pair_fits ts t s) us
comparison_fits ts ds (Theory Greater) us = neighbours_fit (λ s t. strict_pair_fits ts t s) us
comparison_fits ts ds (Theory Divide) us = rows_fit ts (rows_at ts (Theory Divide) us)
comparison_fits ts ds (Theory Modulo) us = rows_fit ts (rows_at ts (Theory Modulo) us)
comparison_fits ts ds (Theory Absolute) us = rows_fit ts (rows_at ts (Theory Absolute) us)
comparison_fits ts ds (Theory Divisible) us = rows_fit ts (rows_at ts (Theory Divisible) us)
comparison_fits ts ds h us = true

abbrev pub compared_fits : List Tree → List Declaration → Tree → Bool
compared_fits ts ds (node h us) = comparison_fits ts ds h us
