use Rattle.std.proofs.Common.{List, subst}
use Rattle.std.specs.Prelude.{IfOk, MatchOption}
use Rattle.literals.specs.Signed.{Signed}
use Rattle.search_port.specs.Calls.{IsConflict}
use Rattle.closure_log.specs.Parts.{KeepsXors}
use Rattle.closure_log.specs.Seen.{state_of}
use Rattle.theory_combine.proofs.xors.broken_xor.Goals as goal

pub returns : goal.returns
returns c =
    let s = c.args.stack.now in
    let atoms = c.args.atoms.now.atoms in
    subst (λ (log : List Signed). IfOk c.broken.result (λ o. MatchOption o (KeepsXors s.trees atoms log c.args.wide_xors.now) (IsConflict (state_of s atoms log)))) c.deref-2.ensures.value c.broken.ensures
