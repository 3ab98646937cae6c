-- What the log of a last check decides.
use Rattle.std.proofs.Common.{List, length, refl}
use Rattle.smt_meaning.specs.declared.values.Sort.{Sort}
use Rattle.smt_meaning.specs.Stack.{signature_of}
use Rattle.smt_meaning.specs.StackCommand.{Stack}
use Rattle.scope_stack.specs.Facts.{AreSorts}
use Rattle.scope_stack.specs.Shown.{IsLawful}
use Rattle.closure_log.specs.Seen.{state_of}
use Rattle.first_clauses.specs.Holding.{IsDecided}
use Rattle.first_clauses.specs.Laws.{PartsHoldOfEach}
use Rattle.theory_combine.specs.declared.parts.Parts.{Parts}
use Rattle.theory_combine.specs.declared.parts.Progress.{Progress}
use Rattle.theory_combine.specs.Last.{IsLast}
use Rattle.theory_combine.specs.Progress.{AreParts}
use Rattle.theory_combine.specs.Ready.{IsAtLast}
use Rattle.theory_combine.proofs.Reaching.{last_whole}

-- each part of the stack, by whatever sorts it has
pub decided_at_last : PartsHoldOfEach → (p : Parts) (w : Progress) (sorts : List Sort) → IsLawful p.stack.now → AreSorts (signature_of p.stack.now.frames) p.stack.now.trees (length p.stack.now.trees) sorts
    → IsAtLast p w → IsDecided p.stack.now p.marks.items sorts w.atoms.atoms w.held.closure.log.items
decided_at_last of_each p w sorts law sorted at_last =
    let s : Stack = p.stack.now in
    let parts : AreParts p = at_last.ready.parts in
    let last : IsLast (state_of s w.atoms.atoms w.held.closure.log.items) = last_whole s w.stopped_at w.atoms.atoms w.held.closure.log.items at_last.ready.under_way.2 at_last.last in
    of_each (state_of s w.atoms.atoms w.held.closure.log.items).reading w.held.closure.log.items s p.marks.items sorts last.agreed.parts refl refl law parts.2 parts.0.size sorted
