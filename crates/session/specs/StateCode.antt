-- A state as numbers and lists: how a proof stores one. No definition speaks of it.
use Rattle.std.specs.Prelude.{ℕ, List, Option, refl}
use Rattle.std.specs.Coded.{Coded, code_by, coded×, coded_ℕ, coded_list, coded_option}
use Rattle.smt_meaning.specs.declared.settings.Settings.{Settings}
use Rattle.smt_meaning.specs.declared.options.Options.{Options}
use Rattle.smt_meaning.specs.declared.answers.Mode.{Mode}
use Rattle.smt_meaning.specs.contracts.settings.Settings.{the_row as row_of_settings}
use Rattle.smt_meaning.specs.contracts.options.Options.{the_row as row_of_options}
use Rattle.smt_meaning.specs.contracts.answers.Mode.{the_row as row_of_mode}
use Rattle.smt_meaning.specs.StackCommand.{Stack}
use Rattle.smt_meaning.specs.State.{State}
use Rattle.smt_meaning.specs.Stack.{Frame}
use Rattle.scope_stack.specs.StackCode.{coded_frame, coded_stack}

abbrev coded_settings : Coded Settings
coded_settings = row_of_settings.coded

abbrev coded_options : Coded Options
coded_options = row_of_options.coded

abbrev coded_mode : Coded Mode
coded_mode = row_of_mode.coded

abbrev pub coded_state : Coded State
coded_state =
    code_by (Settings × (Option (List ℕ) × (Mode × (Options × (Stack × List Frame)))))
    (coded× coded_settings (coded× (coded_option (coded_list coded_ℕ)) (coded× coded_mode (coded× coded_options (coded× coded_stack (coded_list coded_frame))))))
    (λ (s : State). (s.settings, (s.logic, (s.mode, (s.options, (s.stack, s.above))))))
    (λ p. record { settings = p.0; logic = p.1.0; mode = p.1.1.0; options = p.1.1.1.0; stack = p.1.1.1.1.0; above = p.1.1.1.1.1 })
    (λ s. refl)
