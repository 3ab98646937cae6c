use Rattle.std.proofs.Common.{Bool, List, refl, sym, subst}
use Rattle.smt_meaning.specs.Declaration.{Declaration}
use Rattle.smt_meaning.specs.Interpretation.{AreTablesFor}
use Rattle.smt_meaning.specs.Stack.{assertions_of}
use Rattle.smt_meaning.specs.StackCommand.{Stack}
use Rattle.smt_meaning.specs.Term.{Tree}
use Rattle.smt_laws.specs.Flat.{SaysTheSame}
use Rattle.closure_log.specs.Seen.{state_of}
use Rattle.exact_model.specs.Places.{AreAtMarks}
use Rattle.exact_model.specs.Verdict.{AreModels}
use Rattle.theory_combine.proofs.model.evaluate.Goals as goal

pub returns-in-AllTrue : goal.returns-in-AllTrue
returns-in-AllTrue c =
    let s : Stack = c.args.parts.now.stack.now in
    let w = c.args.progress.now in
    let trees : List Tree = c.terms.result.now.trees in
    let marks : List Bool = c.deref.result.now in
    let same : SaysTheSame s.frames = c.flat_says_the_same.ensures s.frames in
    let models : AreModels trees marks w.atoms.atoms c.deref-2.result.now c.args.tables = rw c.in-AllTrue.is at c.in_ok-verdict.ensures in
    let asserted : AreAtMarks s.trees marks (assertions_of s.frames) = subst (λ (ms : List Bool). AreAtMarks s.trees ms (assertions_of s.frames)) (sym c.deref.ensures.value) c.requires.ready.parts.4 in
    models (state_of s w.atoms.atoms w.held.closure.log.items) (record { trees_are = sym c.terms.ensures.trees; table_is = refl; log_is = sym c.deref-2.ensures.value })
    (subst (λ (ds : List Declaration). AreTablesFor ds c.args.tables) (sym same.signature) c.requires.tables)
    (subst (AreAtMarks trees marks) (sym same.assertions) (subst (λ (ts : List Tree). AreAtMarks ts marks (assertions_of s.frames)) (sym c.terms.ensures.trees) asserted))
