use Rattle.std.proofs.Common.{◌≡◌, IfOk, ap, sym, subst, ◌∙◌}
use Rattle.smt_command.specs.Arguments.{left, first_by, parts, rest_of}
use Rattle.smt_command.specs.Values.{with_body}
use Rattle.smt_command.proofs.FunctionForm.{with_name}
use Rattle.smt_command.proofs.forms.define_fun.Goals as goal

pub returns : goal.returns
returns c =
    let ss = left c.args.arguments in
    let n = c.in-Some.name.now in
    let xs = left c.in-Some-list.inside in
    let ps = c.in-Some-2.parameters in
    let read = c.in-Some.ensures.read in
    let e =
    with_name ss n xs ps c.in-Some.ensures.bytes (c.in-Some-list.ensures.parts ∙ ap (first_by parts) read) (sym c.in-Some-2.is ∙ c.in_ok-parameters.ensures)
    ∙ ap (with_body n ps) (sym (c.in-Some-list.ensures.read ∙ ap rest_of read)) in
    subst (λ x. IfOk c.definition.result (λ r. r ≡ x)) (sym e) c.definition.ensures
