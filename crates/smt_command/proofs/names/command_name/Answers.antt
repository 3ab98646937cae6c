use Rattle.std.proofs.Common.{◌∙◌, ◌++◌, List, ℕ, map, refl}
use Rattle.smt_command.specs.declared.names.CommandName.{CommandName}
use Rattle.smt_command.specs.declared.names.CommandName.TheVariants.{LeftOut}
use Rattle.smt_command.specs.Names.{command_names, setting_names, session_names, declaration_names, stack_names, answer_names, refutation_names, left_out_names, goal_names, left_out}
use Rattle.smt_command.proofs.LookUps.{past, here, among, not_among}
use Rattle.smt_command.proofs.names.command_name.Goals as goal

abbrev behind_refutation : List (List ℕ × CommandName)
behind_refutation = map left_out left_out_names ++ goal_names

abbrev behind_answer : List (List ℕ × CommandName)
behind_answer = refutation_names ++ behind_refutation

abbrev behind_stack : List (List ℕ × CommandName)
behind_stack = answer_names ++ behind_answer

abbrev behind_declaration : List (List ℕ × CommandName)
behind_declaration = stack_names ++ behind_stack

abbrev behind_session : List (List ℕ × CommandName)
behind_session = declaration_names ++ behind_declaration

abbrev behind_setting : List (List ℕ × CommandName)
behind_setting = session_names ++ behind_session

pub returns-in-Some : goal.returns-in-Some
unfolding command_names
returns-in-Some c =
    here c.args.name.now setting_names behind_setting c.in-Some.found c.in-Some.ensures

pub returns-in-Some-session_name : goal.returns-in-Some-session_name
unfolding command_names
returns-in-Some-session_name c =
    here c.args.name.now session_names behind_session c.in-Some-session_name.found c.in-Some-session_name.ensures
    ∙ past c.args.name.now setting_names behind_setting c.in_default.ensures

pub returns-in-Some-declaration_name : goal.returns-in-Some-declaration_name
unfolding command_names
returns-in-Some-declaration_name c =
    here c.args.name.now declaration_names behind_declaration c.in-Some-declaration_name.found c.in-Some-declaration_name.ensures
    ∙ past c.args.name.now session_names behind_session c.in_default-session_name.ensures
    ∙ past c.args.name.now setting_names behind_setting c.in_default.ensures

pub returns-in-Some-stack_name : goal.returns-in-Some-stack_name
unfolding command_names
returns-in-Some-stack_name c =
    here c.args.name.now stack_names behind_stack c.in-Some-stack_name.found c.in-Some-stack_name.ensures
    ∙ past c.args.name.now declaration_names behind_declaration c.in_default-declaration_name.ensures
    ∙ past c.args.name.now session_names behind_session c.in_default-session_name.ensures
    ∙ past c.args.name.now setting_names behind_setting c.in_default.ensures

pub returns-in-Some-answer_name : goal.returns-in-Some-answer_name
unfolding command_names
returns-in-Some-answer_name c =
    here c.args.name.now answer_names behind_answer c.in-Some-answer_name.found c.in-Some-answer_name.ensures
    ∙ past c.args.name.now stack_names behind_stack c.in_default-stack_name.ensures
    ∙ past c.args.name.now declaration_names behind_declaration c.in_default-declaration_name.ensures
    ∙ past c.args.name.now session_names behind_session c.in_default-session_name.ensures
    ∙ past c.args.name.now setting_names behind_setting c.in_default.ensures

pub returns-in-Some-refutation_name : goal.returns-in-Some-refutation_name
unfolding command_names
returns-in-Some-refutation_name c =
    here c.args.name.now refutation_names behind_refutation c.in-Some-refutation_name.found c.in-Some-refutation_name.ensures
    ∙ past c.args.name.now answer_names behind_answer c.in_default-answer_name.ensures
    ∙ past c.args.name.now stack_names behind_stack c.in_default-stack_name.ensures
    ∙ past c.args.name.now declaration_names behind_declaration c.in_default-declaration_name.ensures
    ∙ past c.args.name.now session_names behind_session c.in_default-session_name.ensures
    ∙ past c.args.name.now setting_names behind_setting c.in_default.ensures

pub returns-then-is_left_out : goal.returns-then-is_left_out
unfolding command_names
returns-then-is_left_out c =
    here c.args.name.now (map left_out left_out_names) goal_names LeftOut (among c.args.name.now left_out LeftOut left_out_names (λ m. refl) c.if-is_left_out.ensures)
    ∙ past c.args.name.now refutation_names behind_refutation c.in_default-refutation_name.ensures
    ∙ past c.args.name.now answer_names behind_answer c.in_default-answer_name.ensures
    ∙ past c.args.name.now stack_names behind_stack c.in_default-stack_name.ensures
    ∙ past c.args.name.now declaration_names behind_declaration c.in_default-declaration_name.ensures
    ∙ past c.args.name.now session_names behind_session c.in_default-session_name.ensures
    ∙ past c.args.name.now setting_names behind_setting c.in_default.ensures

pub returns : goal.returns
unfolding command_names
returns c =
    c.goal_name.ensures
    ∙ past c.args.name.now (map left_out left_out_names) goal_names (not_among c.args.name.now left_out LeftOut left_out_names (λ m. refl) c.if-is_left_out.ensures)
    ∙ past c.args.name.now refutation_names behind_refutation c.in_default-refutation_name.ensures
    ∙ past c.args.name.now answer_names behind_answer c.in_default-answer_name.ensures
    ∙ past c.args.name.now stack_names behind_stack c.in_default-stack_name.ensures
    ∙ past c.args.name.now declaration_names behind_declaration c.in_default-declaration_name.ensures
    ∙ past c.args.name.now session_names behind_session c.in_default-session_name.ensures
    ∙ past c.args.name.now setting_names behind_setting c.in_default.ensures
