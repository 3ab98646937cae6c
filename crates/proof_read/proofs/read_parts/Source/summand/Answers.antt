use Rattle.std.proofs.Common.{rules, ◌≡◌, pos, sym, arith}
use mir.Syntax.{w128}
use mir.Val.{SFits}
use Rattle.std.proofs.lemmas.Int.{to_z-of_z, ints}
use Rattle.proof_read.proofs.ReadSumForms.{takes_summand}
use Rattle.proof_read.proofs.read_parts.Source.summand.Goals as goal

pub returns : goal.returns
returns c =
    let k = c.in_ok-coefficient.coefficient in
    let fits : SFits w128 k = search rules in
    rw (to_z-of_z w128 k fits)
    (takes_summand _ _ _ _ _ _ _ _ c.in_ok-close.ensures.0 c.in_ok-close.ensures.1 c.in_ok-coefficient.ensures.reads c.in_ok-term.ensures (sym c.if-not-is_end.ensures) (λ e. let z : k ≡ pos 0 = c.in_ok-coefficient.ensures.zero.1 e in omega (arith, ints)))
