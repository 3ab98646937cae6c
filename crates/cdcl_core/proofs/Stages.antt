-- How a turn comes from one stage to the next.
use Rattle.std.proofs.Common.{◌≡◌, ◌+◌, ◌<◌, ◌≤◌, length, ap, ◌∙◌, arith}
use Rattle.std.proofs.lemmas.List.{length-append, length_push}
use Rattle.clause_store.specs.declared.trail.Step.{Step}
use Rattle.clause_store.specs.Stored.{Stored}
use Rattle.search_port.specs.Calls.{Goes}
use Rattle.search_port.specs.Spending.{Spending}
use Rattle.search_port.specs.State.{Reading, TheoryState}
use Rattle.cdcl_core.specs.Turns.{IsNearer}
use Rattle.cdcl_core.proofs.Standing.{decided}

-- a decision brings the end nearer
pub decided-nearer : (s : Stored) (step : Step) (t : TheoryState) (b : Spending) → length s.trail.steps < s.trail.atoms → s.trail.atoms ≡ length t.reading.table → IsNearer s (decided s step) t b b
decided-nearer s step t b room known = λ m bounded.
    let more = length_push s.trail.steps step in
    let units = bounded.units in
    let atoms = bounded.atoms in omega arith

-- a call that spent nothing brought no atoms
pub still-known : (s : Stored) (t u : TheoryState) (b c : Spending) → Goes t u b c → length c.units ≤ length b.units → s.trail.atoms ≡ length t.reading.table → s.trail.atoms ≡ length u.reading.table
still-known s t u b c g none known =
    let units : length c.units ≡ length b.units + length g.added = ap (λ (x : Spending). length x.units) g.budget ∙ length-append b.units g.added in
    let table : length u.reading.table ≡ length t.reading.table + length g.grown.more = ap (λ (r : Reading). length r.table) g.grown.is ∙ length-append t.reading.table g.grown.more in
    let paid : length u.reading.table ≤ length t.reading.table + length g.added = g.paid in omega arith
