-- What a last check finds, where the values meet all bounds.
use Rattle.std.specs.Prelude.{◌<◌, List, length}
use Rattle.literals.specs.Signed.{Signed}
use Rattle.smt_meaning.specs.declared.clauses.Atom.{Atom}
use Rattle.smt_meaning.specs.StackCommand.{Stack}
use Rattle.search_port.specs.Calls.{IsModelOf}
use Rattle.closure_log.specs.Seen.{state_of}
use Rattle.theory_combine.specs.declared.model.Found.{Found}
use Rattle.theory_combine.specs.declared.model.Found.TheVariants.{Fine, Apart, Equal, Unfit}

-- tables that make each literal told true, or two applications among so many terms; of pairs of one value nothing is told, since only those that may get a number do
abbrev pub IsFound : Stack → List Atom → List Signed → Found → Type 0
IsFound s table log (Fine tables) = IsModelOf (state_of s table log) tables
IsFound s table log (Apart c) = (c.first < length s.trees) × (c.second < length s.trees)
IsFound s table log (Equal pairs) = Unit {0}
IsFound s table log Unfit = Unit {0}

-- two applications that clash are among the terms
abbrev pub IsClashFound : Stack → Found → Type 0
IsClashFound s (Fine tables) = Unit {0}
IsClashFound s (Apart c) = (c.first < length s.trees) × (c.second < length s.trees)
IsClashFound s (Equal pairs) = Unit {0}
IsClashFound s Unfit = Unit {0}
