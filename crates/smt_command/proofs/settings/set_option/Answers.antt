use Rattle.std.proofs.Common.{◌∙◌, ap, sym}
use Rattle.std.specs.Option.{option_map}
use Rattle.smt_meaning.specs.Seen.{seen}
use Rattle.smt_command.specs.Arguments.{left}
use Rattle.smt_command.specs.Values.{only_value}
use Rattle.smt_command.proofs.OptionForms.{set_option_known}
use Rattle.smt_command.proofs.settings.set_option.Goals as goal

pub returns-in-Some-option_name : goal.returns-in-Some-option_name
returns-in-Some-option_name c =
    c.setting.ensures
    ∙ sym (set_option_known (left c.args.arguments) c.in-Some.keyword.now (option_map seen c.in-Some-only_value.value) c.in-Some-option_name.name c.in-Some.ensures.bytes
    (c.in-Some-only_value.ensures ∙ ap only_value c.in-Some.ensures.read) c.in-Some-option_name.ensures)
