use Rattle.std.proofs.Common.{◌≡◌, ◌+◌, ◌++◌, slice_range, arith, refl, ap, ◌∙◌, subst}
use Rattle.std.proofs.lemmas.List.{take_rest}
use Rattle.smt_reader.specs.Parts.{Extends}
use Rattle.smt_reader.proofs.Scanned.{scan_extended, ends_at, closes_at, found_wrong, found_malformed}
use Rattle.smt_reader.proofs.scan.Scan.turn.Goals as goal

pub returns-in-Wrong-clause-ok : goal.returns-in-Wrong-clause-ok
returns-in-Wrong-clause-ok c = (found_wrong c.args.bytes.now c.args.self.now c.requires.scan (rw c.in-Wrong.is at c.requires.stops), c.requires.scan)

pub returns-in-Malformed-clause-ok : goal.returns-in-Malformed-clause-ok
returns-in-Malformed-clause-ok c = (found_malformed c.args.bytes.now c.args.self.now c.requires.scan (rw c.in-Malformed.is at c.requires.stops), c.requires.scan)

pub end_token-requires-clause-ends : goal.end_token-requires-clause-ends
end_token-requires-clause-ends c = ends_at c.args.bytes.now c.args.self.now c.requires.scan (rw c.in-Ends.is at c.requires.stops)

pub end_token-requires-in-Closes-clause-ends : goal.end_token-requires-in-Closes-clause-ends
end_token-requires-in-Closes-clause-ends c = closes_at c.args.bytes.now c.args.self.now c.requires.scan (rw c.in-Closes.is at c.requires.stops)

pub returns-in-Enters-clause-ok : goal.returns-in-Enters-clause-ok
returns-in-Enters-clause-ok c = c.enter.ensures.ok c.args.bytes.now c.requires.scan (rw c.in-Enters.is at c.requires.stops)

pub returns-in-Enters-clause-err : goal.returns-in-Enters-clause-err
returns-in-Enters-clause-err c = c.enter.ensures.err c.args.bytes.now c.requires.scan

pub returns-in-Leaves-clause-ok : goal.returns-in-Leaves-clause-ok
returns-in-Leaves-clause-ok c = c.leave.ensures.ok c.args.bytes.now c.requires.scan (rw c.in-Leaves.is at c.requires.stops)

pub returns-in-Leaves-clause-err : goal.returns-in-Leaves-clause-err
returns-in-Leaves-clause-err c = c.leave.ensures.err c.args.bytes.now c.requires.scan

pub returns-in-Begins-clause-ok : goal.returns-in-Begins-clause-ok
returns-in-Begins-clause-ok c = c.begin.ensures c.args.bytes.now c.requires.scan (rw c.in-Begins.is at c.requires.stops)

pub returns-in_ok-extend_from_slice-in-Adds-clause-ok : goal.returns-in_ok-extend_from_slice-in-Adds-clause-ok
returns-in_ok-extend_from_slice-in-Adds-clause-ok c =
    let bytes = c.args.bytes.now in
    let s = c.args.self.now in
    let part = c.in-Adds.part in
    let more = c.extends.result in
    let n : (s.looked + 1) + more ≡ s.looked + (1 + more) = omega arith in
    scan_extended bytes s _ part more c.requires.scan (rw c.in-Adds.is at c.requires.stops)
    (subst (λ left. Extends part part left more) (take_rest bytes (s.looked + 1)) c.extends.ensures)
    n refl refl (c.in_ok-extend_from_slice-in-Adds.ensures.items ∙ ap (λ to. s.content.items ++ slice_range bytes s.looked to) n) refl refl refl
