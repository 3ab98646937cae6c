-- Laws of the kinds of problems.
use Rattle.std.specs.Prelude.{◌≡◌, true, List}
use Rattle.smt_meaning.specs.Stack.{Frame}
use Rattle.smt_meaning.specs.Kinds.{is_propositional, has_no_integers}

-- where each assertion is propositional, no part of one is an Int
abbrev pub PropositionalHasNoIntegers : Type 0
PropositionalHasNoIntegers = (frames : List Frame) → is_propositional frames ≡ true → has_no_integers frames ≡ true
