-- Laws of what the judgement of terms lets through: linear terms alone, numerals of the range, and symbols that were given.
use Rattle.std.specs.Prelude.{ℕ, ◌<◌, List, All, IsTrue}
use Rattle.smt_meaning.specs.declared.commands.Command.{Command}
use Rattle.smt_meaning.specs.Term.{Tree, tree_at}
use Rattle.smt_meaning.specs.TreeShape.{is_among, is_linear}
use Rattle.smt_meaning.specs.Parts.{IsPart}
use Rattle.smt_meaning.specs.Clause.{symbols}
use Rattle.smt_meaning.specs.Linear.{leaves, linear_form, form_fits, folding_fits}
use Rattle.smt_meaning.specs.Stack.{assertions_of}
use Rattle.smt_meaning.specs.StackCommand.{start, after_all}
use Rattle.smt_laws.specs.Numerals.{numerals_fit}

-- whatever commands come, each of the stack's trees is linear
abbrev pub TreesAreLinear : Type 0
TreesAreLinear = (cs : List Command) → All (λ (t : Tree). IsTrue (is_linear t)) (after_all start cs).trees

-- whatever commands come, each part of an assertion is linear
abbrev pub AssertionsAreLinear : Type 0
AssertionsAreLinear = (cs : List Command) → All (λ (t : Tree). (u : Tree) → IsPart u t → IsTrue (is_linear u)) (assertions_of (after_all start cs).frames)

-- the leaves of a part of a term are parts of it
abbrev pub LeavesAreParts : Type 0
LeavesAreParts = (t u : Tree) → IsPart u t → All (λ (v : Tree). IsPart v t) (leaves u)

-- whatever commands come, the leaves of each part of an assertion are among the stack's trees
abbrev pub LeavesAreAmongTheTrees : Type 0
LeavesAreAmongTheTrees =
    (cs : List Command)
    → All (λ (t : Tree). (u : Tree) → IsPart u t → All (λ (v : Tree). IsTrue (is_among v (after_all start cs).trees)) (leaves u)) (assertions_of (after_all start cs).frames)

-- whatever commands come, the numerals of each of the stack's trees are in the range
abbrev pub NumeralsAreInRange : Type 0
NumeralsAreInRange = (cs : List Command) → All (λ (t : Tree). IsTrue (numerals_fit t)) (after_all start cs).trees

-- whatever commands come, the id of each symbol in the stack's trees was given
abbrev pub SymbolsAreGiven : Type 0
SymbolsAreGiven = (cs : List Command) → All (λ (t : Tree). All (λ f. f < (after_all start cs).given) (symbols t)) (after_all start cs).trees

-- a term whose numerals are in the range, and whose folding stays there, has a form in the range
abbrev pub FoldedFormsFit : Type 0
FoldedFormsFit = (ts : List Tree) (t : Tree) → IsTrue (numerals_fit t) → IsTrue (folding_fits ts t) → IsTrue (form_fits (linear_form ts t))

-- so has the term at a place of a list of such terms
abbrev pub PlacedFormsFit : Type 0
PlacedFormsFit =
    (ts : List Tree) (p : ℕ) → All (λ (t : Tree). IsTrue (numerals_fit t)) ts → IsTrue (folding_fits ts (tree_at ts p)) → IsTrue (form_fits (linear_form ts (tree_at ts p)))
