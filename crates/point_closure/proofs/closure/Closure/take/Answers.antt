use Rattle.std.proofs.Common.{sym}
use Rattle.point_closure.specs.declared.classes.Union.{Union}
use Rattle.point_closure.proofs.SoundLemmas.{justified_turned}
use Rattle.point_closure.proofs.ListsLemmas.{ok_then}
use Rattle.point_closure.proofs.KeepsLemmas.{united_left, united_right}
use Rattle.point_closure.proofs.closure.Closure.take.Goals as goal

pub unite-requires-else-index-clause-justified : goal.unite-requires-else-index-clause-justified
unite-requires-else-index-clause-justified c =
    justified_turned c.args.self.now.graph c.args.self.now.classes.unions c.args.self.now.steps.items c.args.next c.class_of-right.result c.class_of-left.result c.requires.pending

pub returns-then-index-clause-united : goal.returns-then-index-clause-united
returns-then-index-clause-united c =
    let n = c.args.next in
    let u : Union = record { gone = c.class_of-left.result; kept = c.class_of-right.result; from = n.left; to = n.right; reason = n.reason } in
    ok_then c.unite.result _ _ c.unite.ensures.unions (λ e.
    united_left c.args.self.now c.unite.new.self u n.left n.right e c.if-left-right.false (sym c.class_of-left.ensures.value) (sym c.class_of-right.ensures.value))

pub returns-else-index-clause-united : goal.returns-else-index-clause-united
returns-else-index-clause-united c =
    let n = c.args.next in
    let u : Union = record { gone = c.class_of-right.result; kept = c.class_of-left.result; from = n.right; to = n.left; reason = n.reason } in
    ok_then c.unite-else-index.result _ _ c.unite-else-index.ensures.unions (λ e.
    united_right c.args.self.now c.unite-else-index.new.self u n.left n.right e (λ h. c.if-left-right.false (sym h)) (sym c.class_of-right.ensures.value) (sym c.class_of-left.ensures.value))
