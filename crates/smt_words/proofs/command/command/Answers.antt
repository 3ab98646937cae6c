use Rattle.std.proofs.Common.{true, ap, ap₂, codes, pos, ◌∙◌, ◌≡◌}
use Rattle.std.proofs.lemmas.Result.{IfOk-weaker}
use Rattle.clap.specs.Words.{App, app_of, rule_of, with_rule, with_subcommand}
use Rattle.clap.specs.Simple.{app_of_fields, on_top}
use Rattle.clap.proofs.SimpleLemmas.{plain_fields}
use Rattle.clap.specs.declared.builder.value_parser.ValueParser.TheVariants as vp
use Rattle.smt_words.specs.Words.{bare, generator, natural, option}
use Rattle.smt_words.proofs.command.command.Goals as goal

-- the command with the first option, then the second, and so on
pub returns : goal.returns
returns c =
    let one_to_16 : c.range.result ≡ vp.Signed (pos 1) (pos 16) = rw (c.value_parser.ensures, c.new.ensures.start, c.new.ensures.end) at c.range.ensures in
    let up_to_64 : c.range-2.result ≡ vp.Signed (pos 0) (pos 64) = rw (c.value_parser-3.ensures, c.new-2.ensures.start, c.new-2.ensures.end) at c.range-2.ensures in
    let workers : rule_of c.option-workers.result ≡ option (codes "workers") (codes "4") (vp.Signed (pos 1) (pos 16)) =
    c.option-workers.ensures.rule ∙ ap (option (codes "workers") (codes "4")) one_to_16 in
    let units : rule_of c.option-units.result ≡ option (codes "units") (codes "0") natural =
    c.option-units.ensures.rule ∙ ap (option (codes "units") (codes "0")) c.value_parser-2.ensures in
    let share : rule_of c.option-share.result ≡ option (codes "share") (codes "8") (vp.Signed (pos 0) (pos 64)) =
    c.option-share.ensures.rule ∙ ap (option (codes "share") (codes "8")) up_to_64 in
    let seed : rule_of c.option-seed.result ≡ option (codes "seed") (codes "0") natural =
    c.option-seed.ensures.rule ∙ ap (option (codes "seed") (codes "0")) c.value_parser-4.ensures in
    let helpless : app_of c.disable_help_flag.result ≡ on_top (λ s. record s { disable_help_flag = true }) (app_of c.new-3.result) = ap app_of_fields c.disable_help_flag.ensures in
    let nameless : app_of c.disable_version_flag.result ≡ on_top (λ s. record s { disable_version_flag = true }) (app_of c.disable_help_flag.result) = ap app_of_fields c.disable_version_flag.ensures in
    let topicless : app_of c.disable_help_subcommand.result ≡ on_top (λ s. record s { disable_help_subcommand = true }) (app_of c.disable_version_flag.result) = ap app_of_fields c.disable_help_subcommand.ensures in
    let bare_is : app_of c.disable_help_subcommand.result ≡ bare =
    topicless ∙ ap (on_top (λ s. record s { disable_help_subcommand = true }))
    (nameless ∙ ap (on_top (λ s. record s { disable_version_flag = true })) (helpless ∙ ap (on_top (λ s. record s { disable_help_flag = true })) c.new-3.ensures.app)) in
    let first = c.in_ok-arg.ensures.shape c.option-workers.ensures.local ∙ ap₂ with_rule bare_is workers in
    let second = c.in_ok-arg-2.ensures.shape c.option-units.ensures.local ∙ ap₂ with_rule first units in
    let third = c.in_ok-arg-3.ensures.shape c.option-share.ensures.local ∙ ap₂ with_rule second share in
    let fourth = c.in_ok-arg-4.ensures.shape c.option-seed.ensures.local ∙ ap₂ with_rule third seed in
    let sub : app_of c.in_ok-generator.generator ≡ generator = c.in_ok-generator.ensures in
    let local = (plain_fields c.in_ok-generator.generator (ap (λ (a : App). a.top.is_plain) sub)).globals in
    IfOk-weaker c.subcommand.result _ _ (λ r added. added.shape local ∙ ap₂ with_subcommand fourth (ap (λ (a : App). a.top) sub)) c.subcommand.ensures
