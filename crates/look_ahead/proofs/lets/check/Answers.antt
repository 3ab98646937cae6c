use Rattle.std.proofs.Common.{ap, sym, ◌∙◌, Some}
use Rattle.look_ahead.specs.Lets.{names_of}
use Rattle.look_ahead.proofs.LetLemmas.{no_let, let_fine, let_refused, let_malformed, at_none, at_some, ok_then, err_then}
use Rattle.look_ahead.proofs.lets.check.Goals as goal

pub returns-in-None-clause-err : goal.returns-in-None-clause-err
returns-in-None-clause-err c = no_let _ c.in-None.ensures

pub returns-in-Ok-None-clause-err : goal.returns-in-Ok-None-clause-err
returns-in-Ok-None-clause-err c = let_malformed _ _ (c.in-Some.ensures.body, c.in-Some.ensures.is) (at_none _ _ _ c.in-Ok-None.field-0-is c.in-Ok-None.ensures)

pub returns-in-Ok-Some-clause-ok : goal.returns-in-Ok-Some-clause-ok
returns-in-Ok-Some-clause-ok c =
    let bound = at_some _ c.in-Ok-Some.names _ _ (c.in-Ok-Some.field-0-is) c.in-Ok-Some.ensures in
    ok_then c.check_names.result _ _ (λ f. let_fine _ _ _ (c.in-Some.ensures.body, c.in-Some.ensures.is) (bound ∙ ap (λ bs. Some (names_of bs)) (sym c.deref.ensures.value)) f) c.check_names.ensures.ok

pub returns-in-Ok-Some-clause-err : goal.returns-in-Ok-Some-clause-err
returns-in-Ok-Some-clause-err c =
    let bound = at_some _ c.in-Ok-Some.names _ _ (c.in-Ok-Some.field-0-is) c.in-Ok-Some.ensures in
    err_then c.check_names.result _ _ (λ e f. let_refused _ _ _ e (c.in-Some.ensures.body, c.in-Some.ensures.is) (bound ∙ ap (λ bs. Some (names_of bs)) (sym c.deref.ensures.value)) f) c.check_names.ensures.err
