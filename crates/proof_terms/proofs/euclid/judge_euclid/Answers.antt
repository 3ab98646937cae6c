use Rattle.std.proofs.Common.{◌<◌, length, subst, arith}
use Rattle.proof_meaning.specs.Proof.{node_at}
use Rattle.pair_bounds.specs.Rows.{row_of}
use Rattle.proof_terms.specs.Terms.{ProofTerms}
use Rattle.proof_terms.specs.EuclidRows.{IsRowOrNone}
use Rattle.proof_terms.specs.EuclidCodes.{KeepsRow}
use Rattle.proof_terms.proofs.TermBounds.{if_ok}
use Rattle.proof_terms.proofs.EuclidJudging.{row_comes}
use Rattle.proof_terms.proofs.euclid.judge_euclid.Goals as goal

pub returns-in-Ok-Some-clause-comes : goal.returns-in-Ok-Some-clause-comes
returns-in-Ok-Some-clause-comes c = λ asserted.
    (let t = c.args.terms.now in
    let place = c.args.place in
    let n = node_at t.nodes place in
    let row = row_of c.in-Ok-Some.row in
    let found = subst (IsRowOrNone t.trees place n.head n.arguments c.args.which) c.in-Ok-Some.field-0-is c.in-Ok-Some.ensures.ok in
    let inside : place < length t.nodes = let h = c.if-place-len.false in let count = c.len.ensures.count in omega arith in
    if_ok c.keep_row.result _ _ c.keep_row.ensures.keeps (λ v k.
    row_comes t asserted c.args.clauses.now c.keep_row.new.clauses place c.args.which c.len.ensures.terms inside row found.0 v
    (subst (λ (u : ProofTerms). KeepsRow c.args.clauses.now c.keep_row.new.clauses u.trees place row v) c.row_at.ensures.same k)))
