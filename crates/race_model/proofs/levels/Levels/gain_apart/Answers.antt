use Rattle.std.proofs.Common.{◌≡◌, ◌+◌, ◌-◌, ◌<◌, ◌++◌, ◌∙◌, ap, get_or, set, arith, length}
use Rattle.std.proofs.lemmas.List.{length-set}
use Rattle.race_model.specs.declared.levels.Level.{Level}
use Rattle.race_model.specs.Base.{frame_of}
use Rattle.race_model.specs.Race.{formulas_of}
use Rattle.race_model.proofs.LevelLemmas.{gained_apart, on_ok_both, other_level, same_level, length-map}
use Rattle.race_model.proofs.levels.Levels.gain_apart.Goals as goal

pub returns-clause-ok : goal.returns-clause-ok
returns-clause-ok c =
    let ls = c.args.self.now.levels.items in
    let k = c.len-last.result - 1 in
    let none = c.replace-base.new.dest in
    let base = c.gain_both-gained.new.base in
    let newest = c.gain_both-gained.new.newest in
    let a = c.args.addition in
    let size = c.args.self.now.levels.ok.0 in
    let some = length-map (frame_of c.args.self.now.terms) ls in
    let more : 1 < length ls = omega arith in
    let last : k + 1 ≡ length ls = omega arith in
    let inside : 0 < length ls = omega arith in
    let long : length (set ls 0 none) ≡ length ls = length-set ls 0 none in
    let within : k < length (set ls 0 none) = omega arith in
    let above : 0 < k = omega arith in
    let first : c.replace-base.result ≡ get_or ls 0 base = c.replace-base.ensures.value ∙ same_level ls 0 c.index_mut.result.now base inside c.index_mut.ensures.value in
    let newer : c.index_mut-2.result.now ≡ get_or ls k newest =
    same_level (set ls 0 none) k c.index_mut-2.result.now newest within c.index_mut-2.ensures.value ∙ other_level ls k none newest above in
    on_ok_both c.gain_both-gained.result _ _ _
    (λ h g. gained_apart c.args.self.now.terms ls k none base newest a.declared a.named (formulas_of a.formula) more last
    (h.0 ∙ ap (λ (l : Level). l.declared ++ a.declared) first)
    (h.1 ∙ ap (λ (l : Level). l.asserted) first)
    (g.0 ∙ ap (λ (l : Level). l.declared ++ a.named) newer)
    (g.1 ∙ ap (λ (l : Level). l.asserted ++ formulas_of a.formula) newer))
    c.gain_both-gained.ensures.base c.gain_both-gained.ensures.newest
