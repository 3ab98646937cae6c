use Rattle.std.proofs.Common.{subst}
use Rattle.smt_meaning.specs.Stack.{signature_of}
use Rattle.model_build.specs.Modelled.{IsModelled}
use Rattle.theory_combine.specs.Progress.{state}
use Rattle.theory_combine.proofs.SettleEnds.{give_exactly, settled_to_clash}
use Rattle.theory_combine.proofs.settle.settle_apart.Goals as goal

pub meet_clash-requires-clause-settled : goal.meet_clash-requires-clause-settled
meet_clash-requires-clause-settled c =
    settled_to_clash c.args.parts.now c.args.progress.now c.args.closure.now c.args.values.now c.args.given.now c.requires.met.at_last c.requires.parts c.requires.values c.requires.given c.requires.met.fits c.requires.met.whole

pub settle_tables-requires-clause-exact : goal.settle_tables-requires-clause-exact
settle_tables-requires-clause-exact c =
    let p = c.args.parts.now in
    let w = c.args.progress.now in
    let modelled : IsModelled (signature_of p.stack.now.frames) p.stack.now.trees c.args.given.now c.in-Ok-Tables.field-0 = c.in-Ok-Tables.ensures in
    let modelled_by = subst (IsModelled (signature_of p.stack.now.frames) p.stack.now.trees c.args.given.now) c.in-Ok-Tables.field-0-is modelled in
    give_exactly p w c.args.closure.now c.args.values.now c.args.given.now c.requires.met.at_last c.requires.parts c.requires.values c.requires.given c.numbers_are_found.ensures c.parts_have_numbers.ensures
    c.operators_are_decided.ensures c.comparisons_are_by_class.ensures c.choices_are_by_class.ensures c.distincts_are_by_class.ensures c.tables_give_exact_values.ensures c.laws.ensures c.requires.tellable c.in-Ok-Tables.tables modelled_by.1

pub returns-in-Ok-Clash : goal.returns-in-Ok-Clash
returns-in-Ok-Clash c =
    let met = c.meet_clash in
    record { went = met.ensures.went; found = c.checked.ensures (state c.args.parts.now met.new.progress) c.args.budget.now met.new.budget met.ensures.found }
