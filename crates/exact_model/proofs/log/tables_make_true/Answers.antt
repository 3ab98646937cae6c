use Rattle.std.proofs.Common.{subst, sym}
use Rattle.std.proofs.lemmas.Result.{IfOk-weaker}
use Rattle.smt_meaning.specs.Interpretation.{meaning}
use Rattle.exact_model.specs.Places.{AreValues}
use Rattle.exact_model.specs.Verdict.{IsVerdictBy, IsVerdict}
use Rattle.exact_model.proofs.Deciding.{verdict_is}
use Rattle.exact_model.proofs.log.tables_make_true.Goals as goal

pub returns-in-Ok : goal.returns-in-Ok
returns-in-Ok c =
    let are : AreValues c.args.store.now.trees c.args.marks.now (meaning c.args.tables.now) c.as_slice.result.now =
    subst (AreValues c.args.store.now.trees c.args.marks.now (meaning c.args.tables.now)) (sym c.as_slice.ensures) c.in-Ok.ensures.values in
    IfOk-weaker c.judged.result (IsVerdictBy c.as_slice.result.now c.args.atoms.now.atoms c.args.log.now)
    (IsVerdict c.args.store.now.trees c.args.marks.now c.args.atoms.now.atoms c.args.log.now c.args.tables.now)
    (λ v h. verdict_is c.args.store.now.trees c.args.marks.now c.args.tables.now c.as_slice.result.now c.args.atoms.now.atoms c.args.log.now v are c.in-Ok.ensures.fits c.requires.atoms c.requires.log h)
    c.judged.ensures
