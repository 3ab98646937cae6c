use Rattle.std.proofs.Common.{◌≡◌, ◌+◌, ◌-◌, ◌<◌, ◌++◌, ◌∙◌, ap, get_or, arith, length}
use Rattle.std.proofs.lemmas.Result.{on_ok_weaker}
use Rattle.race_model.specs.declared.levels.Level.{Level}
use Rattle.race_model.specs.Base.{frame_of}
use Rattle.race_model.specs.Race.{formulas_of}
use Rattle.race_model.proofs.LevelLemmas.{gained, same_level, length-map}
use Rattle.race_model.proofs.levels.Levels.gain_newest.Goals as goal

pub returns-clause-ok : goal.returns-clause-ok
returns-clause-ok c =
    let ls = c.args.self.now.levels.items in
    let k = c.len-last.result - 1 in
    let m = c.gain.new.self in
    let a = c.args.addition in
    let size = c.args.self.now.levels.ok.0 in
    let some = length-map (frame_of c.args.self.now.terms) ls in
    let last : k + 1 ≡ length ls = omega arith in
    let inside : k < length ls = omega arith in
    let was : c.index_mut.result.now ≡ get_or ls k m = same_level ls k c.index_mut.result.now m inside c.index_mut.ensures.value in
    on_ok_weaker c.gain.result
    (λ h. gained c.args.self.now.terms ls k m (a.declared ++ a.named) (formulas_of a.formula) last
    (h.0 ∙ ap (λ (l : Level). l.declared ++ (a.declared ++ a.named)) was)
    (h.1 ∙ ap (λ (l : Level). l.asserted ++ formulas_of a.formula) was))
    c.gain.ensures.ok
