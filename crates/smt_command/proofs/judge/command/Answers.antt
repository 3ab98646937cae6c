use Rattle.std.proofs.Common.{Err, ap, sym, ◌∙◌}
use Rattle.smt_meaning.specs.declared.errors.Error.TheVariants.{UnknownCommand, Refused}
use Rattle.smt_meaning.specs.Sexp.{sexp}
use Rattle.smt_meaning.specs.Command.{command, within}
use Rattle.smt_command.specs.Arguments.{left}
use Rattle.smt_command.specs.FormOf.{form_of}
use Rattle.smt_command.proofs.Judged.{not_list, list_of, no_symbol, unknown, known}
use Rattle.smt_command.proofs.judge.command.Goals as goal

pub returns-in_default : goal.returns-in_default
returns-in_default c = not_list (sexp c.args.sexpr.now) (left c.whole.result) c.whole.ensures c.in_default.ensures.parts

pub returns-in_default-word : goal.returns-in_default-word
returns-in_default-word c =
    let xs = left c.in-Some.arguments in
    let s = list_of (sexp c.args.sexpr.now) (left c.whole.result) xs c.whole.ensures c.in-Some.ensures.parts in
    no_symbol xs c.in_default-word.ensures.bytes ∙ sym (ap command s)

pub returns-in_default-command_name : goal.returns-in_default-command_name
returns-in_default-command_name c =
    let xs = left c.in-Some.arguments in
    let s = list_of (sexp c.args.sexpr.now) (left c.whole.result) xs c.whole.ensures c.in-Some.ensures.parts in
    ap (λ n. Err (UnknownCommand n)) c.in_ok-copy.ensures ∙ unknown xs c.in-Some-word.name.now c.in-Some-word.ensures.bytes c.in_default-command_name.ensures ∙ sym (ap command s)

pub returns-in-Ok : goal.returns-in-Ok
returns-in-Ok c =
    let xs = left c.in-Some.arguments in
    let n = c.in-Some-word.name.now in
    let k = c.in-Some-command_name.known in
    let s = list_of (sexp c.args.sexpr.now) (left c.whole.result) xs c.whole.ensures c.in-Some.ensures.parts in
    ap (within n) (sym c.in-Ok.is ∙ c.in_ok-command.ensures ∙ ap (form_of k) c.in-Some-word.ensures.read)
    ∙ sym (known xs n k c.in-Some-word.ensures.bytes c.in-Some-command_name.ensures) ∙ sym (ap command s)

pub returns-in_ok-copy-in-Err : goal.returns-in_ok-copy-in-Err
returns-in_ok-copy-in-Err c =
    let xs = left c.in-Some.arguments in
    let n = c.in-Some-word.name.now in
    let k = c.in-Some-command_name.known in
    let s = list_of (sexp c.args.sexpr.now) (left c.whole.result) xs c.whole.ensures c.in-Some.ensures.parts in
    ap (λ m. Err (Refused m c.in-Err.refusal)) c.in_ok-copy-in-Err.ensures
    ∙ ap (within n) (sym c.in-Err.is ∙ c.in_ok-command.ensures ∙ ap (form_of k) c.in-Some-word.ensures.read)
    ∙ sym (known xs n k c.in-Some-word.ensures.bytes c.in-Some-command_name.ensures) ∙ sym (ap command s)
