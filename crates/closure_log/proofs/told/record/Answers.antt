use Rattle.std.proofs.Common.{All, sym, subst}
use Rattle.std.specs.Prelude.{List}
use Rattle.smt_meaning.specs.Stack.{signature_of}
use Rattle.point_closure.specs.declared.step.Step.{Step}
use Rattle.congruence.specs.Justified.{IsJustified}
use Rattle.closure_log.proofs.Telling.{told_recorded}
use Rattle.closure_log.proofs.told.record.Goals as goal

pub returns-clause-told : goal.returns-clause-told
returns-clause-told c =
    let justified : All (IsJustified (signature_of c.args.stack.now.frames) c.args.stack.now.trees c.args.atoms.now.atoms c.args.literal) c.deref.result.now =
    subst (λ (ss : List Step). All (IsJustified (signature_of c.args.stack.now.frames) c.args.stack.now.trees c.args.atoms.now.atoms c.args.literal) ss) (sym c.deref.ensures.value) c.in_ok-say.ensures.justified in
    told_recorded c.args.stack.now c.args.atoms.now.atoms c.args.told.now.congruence c.record_all.new.congruence c.args.told.now.log.items c.args.told.now.starts.items c.deref.result.now c.args.literal c.requires.told
    c.record_all.ensures.records.partly c.record_all.ensures.records.graph
    (c.record_all.ensures.reasoned (signature_of c.args.stack.now.frames) c.args.stack.now.trees c.args.atoms.now.atoms c.args.told.now.log.items c.requires.told.reasoned c.requires.among justified)
