use Rattle.std.proofs.Common.{rules, ◌≤◌, ℕ, List, length, subst}
use Rattle.std.proofs.lemmas.List.{take_all}
use Rattle.closure_log.specs.Parts.{KeepsXors}
use Rattle.closure_log.proofs.clause.broken.Goals as goal

pub returns : goal.returns
returns c =
    let last : length c.args.parts.now ≤ c.loop-place.place-index = search rules in
    subst (λ (ps : List ℕ). KeepsXors c.args.stack.now.trees c.args.atoms.now.atoms c.args.log.now ps) (take_all c.loop-place.place-index c.args.parts.now last) c.loop-place.invariant
