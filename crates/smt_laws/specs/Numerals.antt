-- Whether the numerals of a term are in the range.
use Rattle.std.specs.Prelude.{Bool, true, ◌&&◌}
use Rattle.fraction128.specs.Whole.{is_in_range}
use Rattle.smt_meaning.specs.declared.terms.Head.{Head}
use Rattle.smt_meaning.specs.declared.terms.Head.TheVariants.{Numeral}
use Rattle.smt_meaning.specs.Term.{Tree, Trees, node, none, more}

abbrev pub head_in_range : Head → Bool
head_in_range (Numeral n) = is_in_range n
head_in_range _ = true

abbrev mutual
  -- each numeral in it is in the range
  pub numerals_fit : Tree → Bool
  numerals_fit (node h ts) = head_in_range h && all_numerals_fit ts

  pub all_numerals_fit : Trees → Bool
  all_numerals_fit none = true
  all_numerals_fit (more t ts) = numerals_fit t && all_numerals_fit ts
