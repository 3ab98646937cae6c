use Rattle.std.proofs.Common.{ap, sym}
use Rattle.proof_read.specs.declared.read_parts.Progress.{Progress}
use Rattle.proof_read.proofs.ReadLeafLemmas.{no_leaves, one_leaf_more, all_leaves}
use Rattle.proof_read.proofs.read_apart.leaf_digits.Goals as goal

pub loop-leaf-init : goal.loop-leaf-init
loop-leaf-init c = no_leaves _ _ _ _ (sym (ap (λ (p : Progress). p.place) c.new-at.ensures)) c.new-leaves.ensures.items

pub loop-leaf-preserved : goal.loop-leaf-preserved
loop-leaf-preserved c = one_leaf_more _ _ _ _ _ _ _ c.loop-leaf.invariant c.in-Some.ensures c.in_ok-push.ensures.items

pub returns : goal.returns
returns c = all_leaves _ _ _ _ c.loop-leaf.invariant c.in_default.ensures
