use Rattle.std.proofs.Common.{◌≡◌, ◌++◌, ◌∷◌, [], ℕ, List, sym, subst}
use Rattle.fraction128.specs.declared.Summand.{Summand}
use Rattle.tableau.specs.declared.sum.Part.{Part}
use Rattle.tableau.specs.Written.{AreParts}
use Rattle.simplex.specs.Sums.{AreMatched}
use Rattle.simplex_systems.specs.Parts.{IsPicked}
use Rattle.simplex_systems.specs.declared.system.Picked.{Picked}
use Rattle.simplex_systems.proofs.PartLemmas.{parts_push, matched_push}
use Rattle.simplex_systems.proofs.system.System.written.Goals as goal

-- src/system.rt:137:9
pub loop-place-preserved : goal.loop-place-preserved
loop-place-preserved c =
    let p : Picked = c.in_ok-picked.picked in
    let n : ℕ = c.args.self.now.table.count in
    let is : IsPicked n c.args.self.now.columns p = c.in_ok-picked.ensures in
    let sums : c.push.new.self ≡ c.loop-place.sum ++ p.summand ∷ [] = c.in_ok-push.ensures.ok in
    let parts : c.push-in-loop-place.new.self.items ≡ c.loop-place.parts.items ++ p.part ∷ [] = c.in_ok-push-2.ensures.items in (
      subst (AreParts n) (sym parts) (parts_push n c.args.self.now.columns c.loop-place.parts.items p c.loop-place.invariant.0 is),
      subst (λ (ps : List Part). AreMatched c.args.self.now.columns c.push.new.self ps) (sym parts)
          (subst (λ (ss : List Summand). AreMatched c.args.self.now.columns ss (c.loop-place.parts.items ++ p.part ∷ [])) (sym sums)
          (matched_push n c.args.self.now.columns c.loop-place.sum c.loop-place.parts.items p c.loop-place.invariant.1 is)),
    )
