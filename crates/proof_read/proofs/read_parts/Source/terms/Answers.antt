use Rattle.std.proofs.Common.{sym}
use Rattle.proof_meaning.specs.Reading.{number}
use Rattle.proof_read.specs.Reads.{is_term_number}
use Rattle.proof_read.specs.ReadParts.{any}
use Rattle.proof_read.proofs.ReadForms.{so_far_more, so_far_end, fills_as}
use Rattle.proof_read.proofs.ReadNodeForms.{any_fit, numbers_near_is}
use Rattle.proof_read.proofs.read_parts.Source.terms.Goals as goal

pub loop-at-preserved : goal.loop-at-preserved
loop-at-preserved c = so_far_more _ _ _ _ _ _ _ _ _ _ c.loop-at.invariant c.in-Some.ensures c.in_ok-push.ensures.ok

pub returns : goal.returns
returns c = fills_as _ _ _ _ _ _ _ _ _ any_fit numbers_near_is (so_far_end _ number any is_term_number _ _ _ c.loop-at.invariant (sym c.loop-at-test.ensures))
