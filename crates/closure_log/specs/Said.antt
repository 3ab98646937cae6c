-- Steps that the truth of a term stands for.
use Rattle.std.specs.Prelude.{◌≡◌, ℕ, ◌+◌, Bool, true, List, length, All}
use Rattle.literals.specs.Signed.{Signed}
use Rattle.smt_meaning.specs.declared.clauses.Atom.{Atom}
use Rattle.smt_meaning.specs.declared.clauses.Atom.TheVariants.{Truth}
use Rattle.smt_meaning.specs.Declaration.{Declaration}
use Rattle.smt_meaning.specs.Term.{Tree}
use Rattle.search_port.specs.State.{atom_at}
use Rattle.point_closure.specs.declared.step.Step.{Step}
use Rattle.point_closure.specs.Whole.{IsWithin}
use Rattle.check_atoms.specs.Atoms.{is_bool_at}
use Rattle.congruence.specs.Justified.{IsJustified}

-- whatever literal tells that a Bool term has this truth justifies the steps, and they are among the points of the terms
pub record AreSaidBy (ts : List Tree) (t : ℕ) (v : Bool) (steps : List Step) : Type 0 where
  pub within : All (IsWithin (length ts + 2)) steps
  pub justified : (ds : List Declaration) (table : List Atom) (l : Signed) → atom_at table l.atom ≡ Truth t → is_bool_at ds ts t ≡ true → l.positive ≡ v → All (IsJustified ds ts table l) steps

-- the literal justifies the steps, and they are among the points of the terms
pub record AreSaid (ds : List Declaration) (ts : List Tree) (table : List Atom) (l : Signed) (steps : List Step) : Type 0 where
  pub within : All (IsWithin (length ts + 2)) steps
  pub justified : All (IsJustified ds ts table l) steps
