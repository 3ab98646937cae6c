use Rattle.std.proofs.Common.{subst}
use Rattle.term_store.specs.Terms.{AreDifferent}
use Rattle.closure_log.proofs.Wholeness.{has_classes}
use Rattle.closure_log.proofs.whole.classes_are_said.Goals as goal

pub returns : goal.returns
returns c =
    has_classes c.args.stack.now c.args.atoms.now.atoms c.args.log.now c.args.congruence.now c.requires (subst AreDifferent c.terms.ensures.trees c.len-different.ensures.different)
    c.classes_are_the_closure.ensures c.unions-unions.ensures.each
