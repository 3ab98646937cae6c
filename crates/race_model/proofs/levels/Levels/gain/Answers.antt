use Rattle.std.proofs.Common.{◌≡◌, ◌≤◌, ◌∙◌, sym, true, false, arith, length, map}
use Rattle.std.proofs.lemmas.Result.{on_ok_weaker}
use Rattle.race_model.specs.Base.{base_of, assertion_of, frame_of}
use Rattle.race_model.specs.Race.{formulas_of}
use Rattle.race_model.proofs.LevelLemmas.{at_newest, length-map}
use Rattle.race_model.proofs.levels.Levels.gain.Goals.{else-global-via-then-global+else-len-gt1, else-global-via-else-global}
use Rattle.race_model.proofs.levels.Levels.gain.Goals as goal

pub returns-else-global-clause-ok : goal.returns-else-global-clause-ok
returns-else-global-clause-ok c =
    let frames = (base_of c.args.self.now).frames in
    let a = c.args.addition in
    let size = c.args.self.now.levels.ok.0 in
    let some = length-map (frame_of c.args.self.now.terms) c.args.self.now.levels.items in
    let few : c.args.global ≡ true → length frames ≤ 1 =
    elim c.else-global.branch [
      | else-global-via-then-global+else-len-gt1 w ↦ (λ t. omega (arith, size, some, w.len.ensures, w.if-len-gt1.false))
      | else-global-via-else-global w ↦ (λ t. let f : c.args.global ≡ false = w.if-global.false in let x : true ≡ false = sym t ∙ f in absurd (cc))
    ] in
    on_ok_weaker c.gain_newest.result
    (λ h. h ∙ at_newest c.args.global a.declared a.named (map (assertion_of c.args.self.now.terms) (formulas_of a.formula)) frames few)
    c.gain_newest.ensures.ok
