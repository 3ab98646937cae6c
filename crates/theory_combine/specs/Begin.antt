-- What a search begins with: nothing is told, and there is no branch.
use Rattle.std.specs.Prelude.{◌≡◌, ℕ, Bool, List, [], None}
use Rattle.fraction128.specs.Lines.{HasBasis, first_basis}
use Rattle.smt_meaning.specs.declared.clauses.Atom.{Atom}
use Rattle.smt_meaning.specs.Stack.{signature_of, assertions_of}
use Rattle.smt_meaning.specs.StackCommand.{Stack}
use Rattle.term_store.specs.Terms.{AreDifferent}
use Rattle.check_atoms.specs.Marks.{AreStackParts}
use Rattle.model_build.specs.Parts.{AreSortedParts}
use Rattle.atom_form.specs.AtomNumbersAtoms.{Atoms}
use Rattle.bound_log.specs.Atoms.{KnowsTheSame}
use Rattle.bound_log.specs.Told.{State, column_sums}
use Rattle.bound_log.specs.Pending.{plain_grid}
use Rattle.sum_bounds.specs.Written.{HasLeaf}
use Rattle.exact_model.specs.Places.{AreAtMarks}
use Rattle.theory_combine.specs.declared.start.Begun.{Begun}
use Rattle.theory_combine.specs.Columns.{HasKnownColumns}
use Rattle.theory_combine.specs.Numbering.{IsWhole}
use Rattle.theory_combine.specs.Pairs.{AreReadable}
use Rattle.theory_combine.specs.Shown.{AreOfAssertions, AreShown}

-- the marked terms are parts of the assertions, in order and without a second place
pub record AreMarkedParts (s : Stack) (marks : List Bool) : Type 0 where
  pub parts : AreSortedParts (signature_of s.frames) s.trees marks
  pub of_assertions : AreOfAssertions s marks
  pub different : AreDifferent s.trees

-- leaves get variables, those that have one keep it, and what is known and told stays
pub record AddsLeaves (s : Stack) (old new : State) : Type 0 where
  pub knows : KnowsTheSame old new
  pub columns : (table : List Atom) → HasKnownColumns s table old → HasKnownColumns s table new
  pub basis : HasBasis (first_basis (column_sums old)) (plain_grid old) → HasBasis (first_basis (column_sums new)) (plain_grid new)
  pub log : new.log ≡ old.log
  pub kept : (p : ℕ) → HasLeaf old.bounds.columns p → HasLeaf new.bounds.columns p

-- nothing is told of the parts of a stack and their atoms, and no pivot was made
pub record IsBegun (s : Stack) (marks : List Bool) (atoms : Atoms) (b : Begun) : Type 0 where
  pub parts : AreSortedParts (signature_of s.frames) s.trees marks
  pub readable : AreReadable s.trees marks
  pub of_assertions : AreStackParts s marks
  pub asserted : AreAtMarks s.trees marks (assertions_of s.frames)
  pub whole : IsWhole s marks atoms b.held
  pub log : b.held.closure.log.items ≡ []
  pub shown : AreShown s (column_sums b.held.bounds) [] None atoms.atoms
  pub basis : HasBasis (first_basis (column_sums b.held.bounds)) (plain_grid b.held.bounds)
