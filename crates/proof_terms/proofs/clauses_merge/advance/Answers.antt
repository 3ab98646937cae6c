use Rattle.proof_terms.proofs.ClausesMerging.{step_left, step_right, step_both}
use Rattle.proof_terms.proofs.clauses_merge.advance.Goals as goal

pub returns-in_ok-push_unless-in-Left-clause-merged : goal.returns-in_ok-push_unless-in-Left-clause-merged
returns-in_ok-push_unless-in-Left-clause-merged c =
    let a = c.args in
    step_left a.left.now a.right.now a.code a.negation a.at.left a.at.right a.merged.now.items c.push_unless.new.merged.items c.requires.left c.requires.right c.requires.merged c.in-Left.ensures c.in_ok-push_unless-in-Left.ensures

pub returns-in_ok-push_unless-in-Right-clause-merged : goal.returns-in_ok-push_unless-in-Right-clause-merged
returns-in_ok-push_unless-in-Right-clause-merged c =
    let a = c.args in
    step_right a.left.now a.right.now a.code a.negation a.at.left a.at.right a.merged.now.items c.push_unless-in-Right.new.merged.items c.requires.left c.requires.right c.requires.merged c.in-Right.ensures
    c.in_ok-push_unless-in-Right.ensures

pub returns-in_ok-push-in-Both-clause-merged : goal.returns-in_ok-push-in-Both-clause-merged
returns-in_ok-push-in-Both-clause-merged c =
    let a = c.args in
    step_both a.left.now a.right.now a.code a.negation a.at.left a.at.right a.merged.now.items c.push.new.self.items c.requires.left c.requires.right c.requires.different c.requires.merged c.in-Both.ensures
    c.in_ok-push-in-Both.ensures.items
