-- The names of operators, in parts.
use Rattle.std.specs.Prelude.{ℕ, List, [], ◌∷◌, codes}
use Rattle.smt_meaning.specs.declared.terms.Operator.{Operator}
use Rattle.smt_meaning.specs.declared.terms.Operator.TheVariants.{Xor, Implies, Equal, Distinct, Ite, Add, Subtract, Multiply, AtMost, Less, AtLeast, Greater, Divide, Modulo, Absolute}

-- the last of them
abbrev pub number_operators : List (List ℕ × Operator)
number_operators =
    (codes "+", Add) ∷ (codes "-", Subtract) ∷ (codes "*", Multiply) ∷ (codes "<=", AtMost) ∷ (codes "<", Less) ∷ (codes ">=", AtLeast) ∷ (codes ">", Greater)
    ∷ (codes "div", Divide) ∷ (codes "mod", Modulo) ∷ (codes "abs", Absolute) ∷ []

abbrev pub later_operators : List (List ℕ × Operator)
later_operators = (codes "xor", Xor) ∷ (codes "=>", Implies) ∷ (codes "=", Equal) ∷ (codes "distinct", Distinct) ∷ (codes "ite", Ite) ∷ number_operators
