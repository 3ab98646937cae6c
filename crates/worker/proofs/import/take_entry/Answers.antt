use Rattle.std.proofs.Common.{All, Contains, subst, sym}
use Rattle.std.proofs.lemmas.List.Elements.{All-push, Contains-push}
use Rattle.cdcl_core.specs.Search.{IsAddable}
use Rattle.worker.specs.Import.{SaysSame}
use Rattle.worker.proofs.Carried.{of_some}
use Rattle.worker.proofs.import.take_entry.Goals as goal

pub returns-in_ok-push-clause-addable : goal.returns-in_ok-push-clause-addable
returns-in_ok-push-clause-addable g c =
    let r = (g.T.Theory.state c.args.theory.now).reading in
    subst (λ ms. All (IsAddable r) ms) (sym c.in_ok-push.ensures.ok)
    (All-push (IsAddable r) c.args.lemmas.now c.in-Some.lemma c.requires.addable (of_some (IsAddable r) _ c.in-Some.lemma c.in-Some.is c.in_ok-lemma.ensures.addable))

pub returns-in_ok-push-clause-taken : goal.returns-in_ok-push-clause-taken
returns-in_ok-push-clause-taken g c = λ few other may.
    let table = (g.T.Theory.state c.args.theory.now).reading.table in (
      c.in-Some.lemma,
      subst (λ ms. Contains ms c.in-Some.lemma) (sym c.in_ok-push.ensures.ok) (Contains-push c.args.lemmas.now c.in-Some.lemma),
      of_some (SaysSame table c.args.entry.now.clause.literals) _ c.in-Some.lemma c.in-Some.is c.in_ok-lemma.ensures.same,
    )
