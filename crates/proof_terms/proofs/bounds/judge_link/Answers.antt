use Rattle.std.proofs.Common.{Ok, ap, arith}
use Rattle.proof_meaning.specs.Rules.{link_clause}
use Rattle.proof_terms.proofs.BoundJoining.{joined_all}
use Rattle.proof_terms.proofs.BoundJudging.{link_good}
use Rattle.proof_terms.proofs.bounds.judge_link.Goals as goal

pub push_link-requires-clause-left : goal.push_link-requires-clause-left
push_link-requires-clause-left c =
    let int = (c.links_ints.ensures.is.0 c.if-not-links_ints.false).left_int.0 in
    let count = c.links_ints.ensures.count c.if-not-links_ints.false in
    omega (arith, int, count)

pub push_link-requires-clause-right : goal.push_link-requires-clause-right
push_link-requires-clause-right c =
    let int = (c.links_ints.ensures.is.0 c.if-not-links_ints.false).right_int.0 in
    let count = c.links_ints.ensures.count c.if-not-links_ints.false in
    omega (arith, int, count)

pub returns-clause-comes : goal.returns-clause-comes
returns-clause-comes c =
    let t = c.args.terms.now in
    let joined = c.in_ok-push_link.ensures.joined (ap Ok c.if-not-branch.false) in
    λ asserted.
    link_good t asserted c.args.clauses.now c.keep.new.self c.args.left c.args.right c.args.which (c.links_ints.ensures.terms c.if-not-links_ints.false) (c.links_ints.ensures.is.0 c.if-not-links_ints.false)
    (c.in_ok-push_link.ensures.fits (ap Ok c.if-not-branch.false)) (λ before kept.
    c.in_ok-keep.ensures.kept before (link_clause t.trees c.args.left c.args.right c.args.which) (joined.kept before kept)
    (joined_all c.args.clauses.now c.push_link.new.clauses c.new-codes.result.items c.push_link.new.codes.items (link_clause t.trees c.args.left c.args.right c.args.which) c.new-codes.ensures.items joined))
