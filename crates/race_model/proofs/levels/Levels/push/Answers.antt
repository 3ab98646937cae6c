use Rattle.std.proofs.Common.{◌≡◌, ◌++◌, replicate, [], ap, ◌∙◌, arith, map}
use Rattle.race_model.specs.Base.{frame_of}
use Rattle.race_model.proofs.LevelLemmas.{pushed_is}
use Rattle.race_model.proofs.levels.Levels.push.Goals as goal

pub returns-clause-ok : goal.returns-clause-ok
returns-clause-ok c =
    let all : c.loop.counter ≡ c.args.count = omega arith in
    let items : c.loop.self.levels.items ≡ c.args.self.now.levels.items ++ replicate c.args.count (record { declared = []; asserted = [] }) =
    c.loop.invariant.items ∙ (λ i. c.reserve.ensures.items i ++ replicate (all i) (record { declared = []; asserted = [] })) in
    ap (λ ts. map (frame_of ts) c.loop.self.levels.items) c.loop.invariant.terms ∙ pushed_is c.args.self.now.terms c.args.self.now.levels.items c.loop.self.levels.items c.args.count items
