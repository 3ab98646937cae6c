-- The form of each command's arguments.
use Rattle.smt_meaning.specs.declared.commands.Command.TheVariants.{Exit, Reset, ResetAssertions, CheckSat, Push, Pop, GetModel, GetAssertions, GetAssignment, GetUnsatCore, GetUnsatAssumptions}
use Rattle.smt_meaning.specs.Command.{Form, bare, levels, set_logic, set_option, get_option, set_info, get_info, echo, declare_sort, define_sort, declare_const, declare_fun, define_fun, assert_form, get_value, check_sat_assuming, minimize, left_out}
use Rattle.smt_command.specs.declared.names.CommandName.{CommandName}
use Rattle.smt_command.specs.declared.names.CommandName.TheVariants as Named

abbrev pub form_of : CommandName → Form
form_of Named.SetLogic = set_logic
form_of Named.SetOption = set_option
form_of Named.GetOption = get_option
form_of Named.SetInfo = set_info
form_of Named.GetInfo = get_info
form_of Named.Echo = echo
form_of Named.Exit = bare Exit
form_of Named.Reset = bare Reset
form_of Named.ResetAssertions = bare ResetAssertions
form_of Named.DeclareSort = declare_sort
form_of Named.DefineSort = define_sort
form_of Named.DeclareConst = declare_const
form_of Named.DeclareFun = declare_fun
form_of Named.DefineFun = define_fun
form_of Named.Assert = assert_form
form_of Named.CheckSat = bare CheckSat
form_of Named.Push = levels Push
form_of Named.Pop = levels Pop
form_of Named.GetValue = get_value
form_of Named.GetModel = bare GetModel
form_of Named.GetAssertions = bare GetAssertions
form_of Named.CheckSatAssuming = check_sat_assuming
form_of Named.GetAssignment = bare GetAssignment
form_of Named.GetUnsatCore = bare GetUnsatCore
form_of Named.GetUnsatAssumptions = bare GetUnsatAssumptions
form_of Named.Minimize = minimize
form_of Named.LeftOut = left_out
