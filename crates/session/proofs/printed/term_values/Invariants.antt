use Rattle.std.proofs.Common.{◌≡◌, ◌++◌, drop}
use Rattle.smt_meaning.specs.Stack.{signature_of}
use Rattle.session.specs.Shown.{shown_terms}
use Rattle.session.proofs.printed.term_values.Given as goal

abbrev pub invariant-loop-place : goal.invariant-loop-place
invariant-loop-place l =
    let ds = signature_of l.stack.frames in
    l.out ++ shown_terms ds (drop l.place l.terms) (drop l.place l.asked) (drop l.place l.values) ≡ shown_terms ds l.terms l.asked l.values
