use Rattle.std.proofs.Common.{ap, ap₂, codes, pos, ◌∙◌, ◌≡◌}
use Rattle.std.proofs.lemmas.Result.{IfOk-weaker}
use Rattle.clap.specs.Words.{rule_of, with_rule}
use Rattle.clap.specs.declared.builder.value_parser.ValueParser.TheVariants as vp
use Rattle.smt_words.specs.Words.{natural, needed}
use Rattle.smt_words.proofs.command.generator.Goals as goal

pub returns : goal.returns
returns c =
    let up_to_2000 : c.range.result ≡ vp.Signed (pos 1) (pos 2000) = rw (c.value_parser-2.ensures, c.new.ensures.start, c.new.ensures.end) at c.range.ensures in
    let seed : rule_of c.needed-seed.result ≡ needed (codes "seed") natural = c.needed-seed.ensures.rule ∙ ap (needed (codes "seed")) c.value_parser.ensures in
    let size : rule_of c.needed-size.result ≡ needed (codes "size") (vp.Signed (pos 1) (pos 2000)) = c.needed-size.ensures.rule ∙ ap (needed (codes "size")) up_to_2000 in
    let first = c.in_ok-arg.ensures.shape c.needed-seed.ensures.local ∙ ap₂ with_rule c.new-2.ensures.app seed in
    IfOk-weaker c.arg-2.result _ _ (λ r added. added.shape c.needed-size.ensures.local ∙ ap₂ with_rule first size) c.arg-2.ensures
