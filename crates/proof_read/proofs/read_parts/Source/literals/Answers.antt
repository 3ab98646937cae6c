use Rattle.std.proofs.Common.{sym}
use Rattle.proof_meaning.specs.Reading.{literal_read}
use Rattle.proof_read.specs.ReadAtoms.{literal_fits, literal_near}
use Rattle.proof_read.proofs.ReadForms.{so_far_more, so_far_end, fills_as}
use Rattle.proof_read.proofs.ReadAtomForms.{all_literals_fit, all_literals_near}
use Rattle.proof_read.proofs.read_parts.Source.literals.Goals as goal

pub loop-alloc-preserved : goal.loop-alloc-preserved
loop-alloc-preserved c = so_far_more _ _ _ _ _ _ _ _ _ _ c.loop-alloc.invariant (rw c.in-Some.is at c.in_ok-literal.ensures) c.in_ok-push.ensures.ok

pub returns : goal.returns
returns c = fills_as _ _ _ _ _ _ _ _ _ all_literals_fit all_literals_near (so_far_end _ literal_read literal_fits literal_near _ _ _ c.loop-alloc.invariant (sym c.loop-alloc-test.ensures))
