use Rattle.std.proofs.Common.{refl}
use Rattle.proof_meaning.specs.declared.proof.Step.TheVariants.{Pick}
use Rattle.proof_form.proofs.EqualitiesComes.{stays, comes_wrong}
use Rattle.proof_form.proofs.equalities.judge_pick.Goals as goal

pub returns-in-None : goal.returns-in-None
returns-in-None c =
    let a = c.args in
    let step = Pick a.place a.which in
    λ asserted. comes_wrong a.terms.now asserted a.clauses.now a.clauses.now step (stays a.terms.now step refl (λ h. h)) (λ before ls g. c.in-None.ensures.none g.condition g.first g.second g.node_is)
