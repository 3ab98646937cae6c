use Rattle.std.proofs.Common.{◌≡◌, ◌∙◌, ap, true, Some}
use Rattle.clap.specs.Words.{Rule, rule_of}
use Rattle.clap.specs.declared.builder.arg.Arg.{Arg}
use Rattle.clap.specs.declared.builder.action.ArgAction.TheVariants.{Set}
use Rattle.smt_words.proofs.command.needed.Goals as goal

-- the rule after one call, then after the next, and so on
pub returns-clause-rule : goal.returns-clause-rule
returns-clause-rule c =
    let name = c.args.name.now in
    let given = c.value_parser.ensures.given in
    let long : rule_of c.long.result ≡ record (rule_of c.new.result) { long = Some name } = ap rule_of c.long.ensures in
    let set : rule_of c.action.result ≡ record (rule_of c.long.result) { action = Some Set } = ap rule_of c.action.ensures in
    let parsed : rule_of c.value_parser.result ≡ record (rule_of c.action.result) { parser = c.value_parser.result.value_parser } = ap rule_of c.value_parser.ensures.others in
    let required : rule_of c.required.result ≡ record (rule_of c.value_parser.result) { required = true } = ap rule_of c.required.ensures in
    required
    ∙ ap (λ (r : Rule). record r { required = true })
    (parsed ∙ ap (λ v. record (rule_of c.action.result) { parser = v }) (given.1 ∙ ap Some given.2)
    ∙ ap (λ (r : Rule). record r { parser = Some c.args.parser })
    (set ∙ ap (λ (r : Rule). record r { action = Some Set }) (long ∙ ap (λ (r : Rule). record r { long = Some name }) c.new.ensures.rule)))

pub returns-clause-local : goal.returns-clause-local
returns-clause-local c =
    ap (λ (x : Arg). x.global) c.required.ensures ∙ ap (λ (x : Arg). x.global) c.value_parser.ensures.others ∙ ap (λ (x : Arg). x.global) c.action.ensures ∙ ap (λ (x : Arg). x.global) c.long.ensures
    ∙ c.new.ensures.optional.1
