use Rattle.std.proofs.lemmas.Bool.{leb-true}
use Rattle.clause_store.proofs.Outlasting.{outlasts-open, outlasts-from, not_le}
use Rattle.clause_store.proofs.choose.outlasts.Goals as goal

pub returns-then-not-is_false-clause-yes : goal.returns-then-not-is_false-clause-yes
returns-then-not-is_false-clause-yes c = λ t. outlasts-open c.args.trail.now.steps c.args.a c.args.b (c.is_false.ensures.says_false c.if-not-is_false.true)

pub returns-then-not-is_false-2-clause-no : goal.returns-then-not-is_false-2-clause-no
returns-then-not-is_false-2-clause-no c = λ t. outlasts-open c.args.trail.now.steps c.args.b c.args.a (c.is_false-2.ensures.says_false c.if-not-is_false-2.true)

pub returns-clause-yes : goal.returns-clause-yes
returns-clause-yes c = λ le.
    outlasts-from c.args.trail.now.steps c.args.a c.args.b c.negated.result c.negated-2.result c.depth_of.result c.depth_of-2.result c.negated.ensures c.negated-2.ensures c.depth_of.ensures c.depth_of-2.ensures
    (leb-true c.depth_of-2.result c.depth_of.result le)

pub returns-clause-no : goal.returns-clause-no
returns-clause-no c = λ le.
    outlasts-from c.args.trail.now.steps c.args.b c.args.a c.negated-2.result c.negated.result c.depth_of-2.result c.depth_of.result c.negated-2.ensures c.negated.ensures c.depth_of-2.ensures c.depth_of.ensures
    (not_le c.depth_of-2.result c.depth_of.result le)
