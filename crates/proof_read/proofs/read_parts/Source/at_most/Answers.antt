use Rattle.std.proofs.Common.{rules, sym}
use mir.Syntax.{w128}
use mir.Val.{SFits}
use Rattle.std.proofs.lemmas.Int.{to_z-of_z}
use Rattle.proof_read.proofs.ReadAtomForms.{no_bound_sum, fills_bound}
use Rattle.proof_read.proofs.read_parts.Source.at_most.Goals as goal

pub returns-in_default-2 : goal.returns-in_default-2
returns-in_default-2 c =
    no_bound_sum _ _ _ _ c.in-Some.ensures.0 c.in-Some.ensures.1 (rw c.in_default-2.is at c.in_ok-sum.ensures)

pub returns : goal.returns
returns c =
    let k = c.in-Some-integer.limit in
    let fits : SFits w128 k = search rules in
    rw (to_z-of_z w128 k fits)
    (fills_bound _ _ _ _ _ _ _ _ c.in-Some.ensures.0 c.in-Some.ensures.1 (rw c.in-Some-2.is at c.in_ok-sum.ensures) c.in-Some-integer.ensures.reads (sym c.if-not-is_end.ensures))
