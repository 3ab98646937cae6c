use Rattle.std.proofs.Common.{◌<◌, length, sym, subst, arith}
use Rattle.std.proofs.lemmas.List.{get_or_read}
use Rattle.congruence.specs.Reasons.{IsDiffering}
use Rattle.congruence.proofs.ConflictLemmas.{first_met, met_differs}
use Rattle.congruence.proofs.congruence.Congruence.first_differing.Goals as goal

pub index-requires : goal.index-requires
index-requires c =
    let item = c.in_ok-pair.ensures.item in
    let less : c.in_ok-pair.pair.now < length c.args.self.now.closure.pairs.items = ((c.met.ensures c.in_ok-pair.pair.now).0 (first_met c.met.result.now c.in_ok-pair.pair.now item.3.0 item.1)).0 in
    omega (arith, c.args.self.now.closure.pairs.ok)

pub returns-clause-some : goal.returns-clause-some
returns-clause-some c =
    let s = c.args.self.now.closure in
    let k = c.in_ok-pair.pair.now in
    let w = c.requires.recorded.whole in
    let item = c.in_ok-pair.ensures.item in
    let has = first_met c.met.result.now k item.3.0 item.1 in
    subst (IsDiffering s.graph s.steps.items) (sym (get_or_read s.pairs.items k c.index.result.now ((c.met.ensures k).0 has).0 c.index.ensures (record { left = 0; right = 0; step = 0 })))
    (met_differs s.graph s.steps.items s.pairs.items c.met.result.now k w.rest.differs c.met.ensures w.closure.parts.ends has)
