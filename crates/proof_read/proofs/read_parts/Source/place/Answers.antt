use Rattle.std.proofs.Common.{refl}
use Rattle.proof_read.specs.ReadParts.{any}
use Rattle.proof_read.specs.ReadNumbers.{is_up_to}
use Rattle.proof_read.proofs.ReadNumberLemmas.{takes_below, takes_far, is_below, is_not_below}
use Rattle.proof_read.proofs.read_parts.Source.place.Goals as goal

pub returns-in-Some-clause-reads : goal.returns-in-Some-clause-reads
returns-in-Some-clause-reads c = takes_below _ any (is_up_to c.args.most) _ _ _ _ c.in_ok-digits.ensures refl (is_below _ _ _ c.in-Some.ensures.0 c.in-Some.ensures.1) c.in-Some.ensures.0

pub returns-in-None-clause-reads : goal.returns-in-None-clause-reads
returns-in-None-clause-reads c = takes_far _ (is_up_to c.args.most) _ _ _ c.in_ok-digits.ensures (is_not_below _ _ c.in-None.ensures)
