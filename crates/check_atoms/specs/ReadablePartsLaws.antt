-- Laws of the places at which parts of the assertions stand.
use Rattle.std.specs.Prelude.{ℕ, ◌<◌, List, length}
use Rattle.smt_meaning.specs.declared.commands.Command.{Command}
use Rattle.smt_meaning.specs.Term.{tree_at}
use Rattle.smt_meaning.specs.CheckAtoms.{IsPartOfStack}
use Rattle.smt_meaning.specs.StackCommand.{Stack, start, after_all}
use Rattle.scope_stack.specs.Shown.{IsLawful}
use Rattle.bound_clauses.specs.Laws.{IsReadable}

-- whatever commands come, each place at which a part of an assertion stands has a linear tree whose leaves are among the trees
abbrev pub PartsAreReadable : Type 0
PartsAreReadable =
    (cs : List Command) (p : ℕ) → IsPartOfStack (after_all start cs).frames (tree_at (after_all start cs).trees p) → IsReadable (after_all start cs).trees p

-- so it is on each lawful stack
abbrev pub LawfulPartsAreReadable : Type 0
LawfulPartsAreReadable = (s : Stack) (p : ℕ) → IsLawful s → IsPartOfStack s.frames (tree_at s.trees p) → IsReadable s.trees p

-- whatever commands come, each place of the list of trees has a linear tree whose leaves are among the trees
abbrev pub PlacesAreReadable : Type 0
PlacesAreReadable = (cs : List Command) (p : ℕ) → p < length (after_all start cs).trees → IsReadable (after_all start cs).trees p

-- so it is on each lawful stack
abbrev pub LawfulPlacesAreReadable : Type 0
LawfulPlacesAreReadable = (s : Stack) (p : ℕ) → IsLawful s → p < length s.trees → IsReadable s.trees p
