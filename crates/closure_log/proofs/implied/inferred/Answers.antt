use Rattle.std.proofs.Common.{◌<◌, List, length, sym, subst, arith}
use Rattle.search_port.specs.State.{IsPressing}
use Rattle.search_port.specs.Calls.{AreNews}
use Rattle.search_port.specs.declared.budget.Lemma.{Lemma}
use Rattle.closure_log.proofs.PressingLemmas.{news_of}
use Rattle.closure_log.proofs.implied.inferred.Goals as goal

pub returns : goal.returns
returns c =
    let e = c.len.ensures in
    let f = c.if-len-eq0.false in
    let some : 0 < length c.args.clauses.items = grind arith in
    λ t b d pressing. subst (λ (cs : List Lemma). AreNews t b d cs (IsPressing t.log)) (sym c.from_vec.ensures) (news_of t b d c.args.clauses.items some pressing)
