-- Where the numbers that a step of a proof writes leave the range from -(2^127 - 1) to 2^127 - 1.
use Rattle.std.specs.Prelude.{ℕ, pos, Bool, true, ◌&&◌, List, [], ◌∷◌}
use Rattle.fraction128.specs.Whole.{is_in_range}
use Rattle.smt_meaning.specs.declared.clauses.Atom.{Atom}
use Rattle.smt_meaning.specs.declared.clauses.Atom.TheVariants.{AtMost}
use Rattle.smt_meaning.specs.declared.clauses.Literal.{Literal}
use Rattle.smt_meaning.specs.Linear.{sum_fits}
use Rattle.proof_meaning.specs.declared.proof.Weighted.{Weighted}
use Rattle.proof_meaning.specs.declared.proof.Step.{Step}
use Rattle.proof_meaning.specs.declared.proof.Step.TheVariants.{Form as FormStep, Round, Farkas, Res}

abbrev pub is_small : ℕ → Bool
is_small n = is_in_range (pos n)

abbrev pub atom_fits : Atom → Bool
atom_fits (AtMost ps k) = sum_fits ps && is_in_range k
atom_fits a = true

abbrev pub literals_fit : List Literal → Bool
literals_fit [] = true
literals_fit (l ∷ ls) = atom_fits l.atom && literals_fit ls

abbrev pub weights_fit : List Weighted → Bool
weights_fit [] = true
weights_fit (w ∷ ws) = (is_small w.numerator && (is_small w.denominator && atom_fits w.literal.atom)) && weights_fit ws

-- coefficients, limits, multipliers and divisors that a step writes are in the range
abbrev pub numbers_fit : Step → Bool
numbers_fit (FormStep i ls) = literals_fit ls
numbers_fit (Round l g) = atom_fits l.atom && is_small g
numbers_fit (Farkas ws) = weights_fit ws
numbers_fit (Res p q l) = atom_fits l.atom
numbers_fit s = true
