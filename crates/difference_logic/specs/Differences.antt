-- Differences between numbers that an interpretation gives to terms.
use Rattle.std.specs.Prelude.{◌≡◌, ℕ, zero, suc, Bool, true, List, ℤ, pos, ◌+ℤ◌, int_le, All}
use Rattle.literals.specs.Signed.{Signed, sign, literal_true}
use Rattle.smt_meaning.specs.declared.clauses.Summand.{Summand}
use Rattle.smt_meaning.specs.declared.clauses.Atom.{Atom}
use Rattle.smt_meaning.specs.Term.{Tree, Interpretation, number_of}
use Rattle.smt_meaning.specs.Clause.{value_at, sum_value}
use Rattle.congruence.specs.Justified.{truth_by}
use Rattle.difference_logic.specs.declared.difference.Difference.{Difference}

-- the number of a node: that of the first is 0, and that of each other is a term's
abbrev pub number_at : (ℕ → ℤ) → ℕ → ℤ
number_at f zero = pos 0
number_at f (suc term) = f term

-- the number of the end is at most the weight above that of the start
abbrev pub Holds : (ℕ → ℤ) → Difference → Type 0
Holds f d = int_le (number_at f d.to) (number_at f d.from +ℤ d.weight) ≡ true

-- the numbers that an interpretation gives the terms
abbrev pub numbers_by : List Tree → Interpretation → ℕ → ℤ
numbers_by ts I term = number_of (value_at ts I term)

-- whatever the terms' numbers are, the difference holds where the sum is at most the threshold, or where it isn't
abbrev pub SaysOf : List Summand → ℤ → Bool → Difference → Type 0
SaysOf sum threshold positive d =
    (ts : List Tree) (I : Interpretation) → sign positive (int_le (sum_value ts I sum) threshold) ≡ true → Holds (numbers_by ts I) d

-- it holds where all these literals on the atoms of a table are true
abbrev pub Follows : List Atom → List Signed → Difference → Type 0
Follows table ls d =
    (ts : List Tree) (I : Interpretation) → All (λ (l : Signed). literal_true (truth_by ts table I) l ≡ true) ls → Holds (numbers_by ts I) d
