-- The names of steps and atoms.
use Rattle.std.specs.Prelude.{ℕ, List, [], ◌∷◌, Option, codes}
use Rattle.smt_meaning.specs.declared.terms.Operator.{Operator}
use Rattle.smt_meaning.specs.declared.terms.Operator.TheVariants as operator
use Rattle.smt_meaning.specs.declared.clauses.Atom.{Atom}
use Rattle.proof_meaning.specs.declared.proof.Step.{Step}
use Rattle.proof_meaning.specs.declared.proof.Step.TheVariants as Rule
use Rattle.smt_meaning.specs.Sexp.{Sexps}
use Rattle.proof_meaning.specs.Reading.{one_place, two_places, three_places, form_read, round_read, farkas_read, res_read, truth_read, same_read, at_most_read}
use Rattle.proof_read.specs.declared.read_names.StepName.{StepName}
use Rattle.proof_read.specs.declared.read_names.StepName.TheVariants.{Assert, Form, Pick, Euclid, Refl, Sym, Trans, Cong, Truth, Both, Neither, Link, Round, Farkas, Res}
use Rattle.proof_read.specs.declared.read_names.AtomName.{AtomName}
use Rattle.proof_read.specs.declared.read_names.AtomName.TheVariants.{Truth as IsTruth, Same, AtMost}

-- the names of steps, in three parts
abbrev pub last_step_names : List (List ℕ × StepName)
last_step_names = (codes "none", Neither) ∷ (codes "link", Link) ∷ (codes "round", Round) ∷ (codes "farkas", Farkas) ∷ (codes "res", Res) ∷ []

abbrev pub later_step_names : List (List ℕ × StepName)
later_step_names = (codes "sym", Sym) ∷ (codes "trans", Trans) ∷ (codes "cong", Cong) ∷ (codes "truth", Truth) ∷ (codes "both", Both) ∷ last_step_names

abbrev pub step_names : List (List ℕ × StepName)
step_names = (codes "assert", Assert) ∷ (codes "form", Form) ∷ (codes "pick", Pick) ∷ (codes "euclid", Euclid) ∷ (codes "refl", Refl) ∷ later_step_names

abbrev pub atom_names : List (List ℕ × AtomName)
atom_names = (codes "t", IsTruth) ∷ (codes "s", Same) ∷ (codes "le", AtMost) ∷ []

-- the last names of operators
abbrev pub number_operators : List (List ℕ × Operator)
number_operators =
    (codes "+", operator.Add) ∷ (codes "-", operator.Subtract) ∷ (codes "*", operator.Multiply) ∷ (codes "<=", operator.AtMost) ∷ (codes "<", operator.Less)
    ∷ (codes ">=", operator.AtLeast) ∷ (codes ">", operator.Greater) ∷ (codes "div", operator.Divide) ∷ (codes "mod", operator.Modulo)
    ∷ (codes "abs", operator.Absolute) ∷ []

abbrev pub later_operators : List (List ℕ × Operator)
later_operators =
    (codes "xor", operator.Xor) ∷ (codes "=>", operator.Implies) ∷ (codes "=", operator.Equal) ∷ (codes "distinct", operator.Distinct) ∷ (codes "ite", operator.Ite)
    ∷ number_operators

-- how what follows the name of a step is read
abbrev pub step_form : StepName → Sexps → Option Step
step_form Assert = two_places Rule.Assert
step_form Form = form_read
step_form Pick = two_places Rule.Pick
step_form Euclid = two_places Rule.Euclid
step_form Refl = one_place Rule.Refl
step_form Sym = two_places Rule.Sym
step_form Trans = three_places Rule.Trans
step_form Cong = two_places Rule.Cong
step_form Truth = two_places Rule.Truth
step_form Both = two_places Rule.Both
step_form Neither = two_places Rule.Neither
step_form Link = three_places Rule.Link
step_form Round = round_read
step_form Farkas = farkas_read
step_form Res = res_read

-- how what follows the name of an atom is read
abbrev pub atom_form : AtomName → Sexps → Option Atom
atom_form IsTruth = truth_read
atom_form Same = same_read
atom_form AtMost = at_most_read
