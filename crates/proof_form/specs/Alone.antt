-- What is found of an s-expression that stands in the place of a proof is one thing.
use Rattle.std.specs.Prelude.{◌≡◌, List}
use Rattle.smt_meaning.specs.Sexp.{Sexp}
use Rattle.smt_meaning.specs.Stack.{Frame}
use Rattle.proof_form.specs.Found.{IsFound}
use Rattle.proof_form.specs.declared.found.Found.{Found}

-- the cases of what is found exclude one another, and so do the numbers of terms and of steps
abbrev pub FoundIsOne : Type 0
FoundIsOne = (frames : List Frame) (x : Sexp) (f g : Found) → IsFound frames x f → IsFound frames x g → f ≡ g
