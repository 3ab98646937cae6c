-- Operators on numbers.
use Rattle.std.proofs.Common.{◌≡◌, List, [], ◌∷◌, refl}
use Rattle.std.specs.Prelude.{ℤ, ◌*ℤ◌, None}
use Rattle.smt_meaning.specs.declared.terms.Operator.{Operator}
use Rattle.smt_meaning.specs.declared.terms.Operator.TheVariants.{True, False, Not, And, Or, Xor, Implies, Equal, Distinct, Ite, Add, Subtract, Multiply, AtMost, Less, AtLeast, Greater, Divide, Modulo, Absolute, Divisible}
use Rattle.model_build.specs.declared.given.Given.{Given}
use Rattle.model_build.specs.WorkedOut.{combined, folded}

pub times_of : (o : Operator) (m n : ℤ) → (o ≡ Add → ⊥) → (o ≡ Subtract → ⊥) → combined o m n ≡ m *ℤ n
times_of Add m n a s = absurd (a refl)
times_of Subtract m n a s = absurd (s refl)
times_of True m n a s = refl
times_of False m n a s = refl
times_of Not m n a s = refl
times_of And m n a s = refl
times_of Or m n a s = refl
times_of Xor m n a s = refl
times_of Implies m n a s = refl
times_of Equal m n a s = refl
times_of Distinct m n a s = refl
times_of Ite m n a s = refl
times_of Multiply m n a s = refl
times_of AtMost m n a s = refl
times_of Less m n a s = refl
times_of AtLeast m n a s = refl
times_of Greater m n a s = refl
times_of Divide m n a s = refl
times_of Modulo m n a s = refl
times_of Absolute m n a s = refl
times_of Divisible m n a s = refl

pub folded_none : (o : Operator) (gs : List Given) → folded o None gs ≡ None
folded_none o [] = refl
folded_none o (g ∷ gs) = folded_none o gs
