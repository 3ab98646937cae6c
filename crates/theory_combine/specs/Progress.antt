-- What a search is about, and how far it has come.
use Rattle.std.specs.Prelude.{◌≡◌, None}
use Rattle.smt_meaning.specs.Stack.{signature_of, assertions_of}
use Rattle.search_port.specs.State.{TheoryState}
use Rattle.search_port.specs.Spending.{Spending}
use Rattle.search_port.specs.Calls.{Goes}
use Rattle.search_port.specs.Pivots.{KeepsPivots}
use Rattle.linear_forms.specs.Table.{AreForms}
use Rattle.check_atoms.specs.Marks.{AreStackParts}
use Rattle.model_build.specs.Parts.{AreSortedParts}
use Rattle.closure_log.specs.Seen.{state_of}
use Rattle.bound_log.specs.Told.{column_sums}
use Rattle.closure_log.specs.Parts.{AreWideXors}
use Rattle.closure_log.specs.Distinct.{AreAssertedDistincts}
use Rattle.exact_model.specs.Places.{AreAtMarks}
use Rattle.theory_combine.specs.declared.parts.Parts.{Parts}
use Rattle.theory_combine.specs.declared.parts.Progress.{Progress}
use Rattle.theory_combine.specs.Columns.{variables_of}
use Rattle.theory_combine.specs.Numbering.{table_of, IsNumbered, IsWhole}
use Rattle.theory_combine.specs.Pairs.{AreReadable}
use Rattle.theory_combine.specs.Shown.{AreShown}

-- the parts of a stack's assertions, which bounds can read, which are wide `xor`s, the assertions among them, and those that are wide `distinct`s
abbrev pub AreParts : Parts → Type 0
AreParts p =
    AreSortedParts (signature_of p.stack.now.frames) p.stack.now.trees p.marks.items × AreReadable p.stack.now.trees p.marks.items
    × AreStackParts p.stack.now p.marks.items × AreWideXors p.stack.now.trees p.marks.items p.wide_xors.items × AreAtMarks p.stack.now.trees p.marks.items (assertions_of p.stack.now.frames)
    × AreAssertedDistincts p.stack.now p.wide_distincts.items

-- the atoms that are told of, and what was told
abbrev pub state : Parts → Progress → TheoryState
state p w = state_of p.stack.now (table_of w.stopped_at w.atoms.atoms) w.held.closure.log.items

-- and the variables of the bounds
abbrev pub full_state : Parts → Progress → TheoryState
full_state p w = record { reading = (state p w).reading; log = (state p w).log; variables = variables_of w.stopped_at w.held.bounds }

-- linear forms of the terms, what is numbered and held, and what can be shown of it
abbrev pub IsProgress : Parts → Progress → Type 0
IsProgress p w =
    AreForms p.stack.now.trees w.forms × IsNumbered p.stack.now p.marks.items w.stopped_at w.atoms w.held
    × AreShown p.stack.now (column_sums w.held.bounds) w.branches w.seen (table_of w.stopped_at w.atoms.atoms)

-- and the search hasn't stopped
abbrev pub IsUnderWay : Parts → Progress → Type 0
IsUnderWay p w =
    AreForms p.stack.now.trees w.forms × IsWhole p.stack.now p.marks.items w.atoms w.held × (w.stopped_at ≡ None)
    × AreShown p.stack.now (column_sums w.held.bounds) w.branches w.seen w.atoms.atoms

-- what a call that may spend units leaves
abbrev pub Went : Parts → Progress → Progress → Spending → Spending → Type 0
Went p old new b c = IsProgress p new × Goes (state p old) (state p new) b c × KeepsPivots (full_state p old) (full_state p new) b c
