-- The numbers of a command are those that a script may write.
use Rattle.std.proofs.Common.{◌≡◌, ℕ, Bool, true, false, List, [], ◌∷◌, refl, subst, Option, Some, None, Result, Ok, Err}
use Rattle.std.specs.Prelude.{ℤ, pos, IsTrue, bytes_eq, codes, if◌then◌else◌}
use Rattle.smt_meaning.specs.declared.tokens.Token.TheVariants.{Numeral, Text, Symbol, Keyword}
use Rattle.smt_meaning.specs.declared.refusals.Refusal.{Refusal}
use Rattle.smt_meaning.specs.declared.refusals.Refusal.TheVariants.{NumeralTooLarge, WrongArguments}
use Rattle.smt_meaning.specs.declared.errors.Error.{Error}
use Rattle.smt_meaning.specs.declared.options.Channel.TheVariants.{Stdout, Stderr}
use Rattle.smt_meaning.specs.declared.options.OptionName.{OptionName}
use Rattle.smt_meaning.specs.declared.options.OptionName.TheVariants as Named
use Rattle.smt_meaning.specs.declared.options.OptionSetting.{OptionSetting}
use Rattle.smt_meaning.specs.declared.options.OptionSetting.TheVariants.{PrintSuccess, RegularOutputChannel, DiagnosticOutputChannel, Verbosity, ReproducibleResourceLimit, RandomSeed, ProduceModels, ProduceAssertions, InteractiveMode, ProduceAssignments, GlobalDeclarations, ProduceUnsatCores, ProduceUnsatAssumptions}
use Rattle.smt_meaning.specs.declared.options.InfoName.{InfoName}
use Rattle.smt_meaning.specs.declared.commands.WrittenSort.{WrittenSort}
use Rattle.smt_meaning.specs.declared.commands.Parameter.{Parameter}
use Rattle.smt_meaning.specs.declared.commands.Command.{Command}
use Rattle.smt_meaning.specs.declared.commands.Command.TheVariants.{SetOption, Exit, Reset, ResetAssertions, DeclareSort, CheckSat, Push, Pop, GetModel, GetAssertions, GetAssignment, GetUnsatCore, GetUnsatAssumptions, LeftOut}
use Rattle.smt_meaning.specs.Sexp.{Sexp, Sexps, word, group, end, ◌▸◌}
use Rattle.smt_meaning.specs.Signature.{look_up}
use Rattle.smt_meaning.specs.Sorts.{decimal, is_small}
use Rattle.smt_meaning.specs.Command.{Form, forms, formed, within, command, with_numeral, truth_setting, numeral_setting, regular_channel, diagnostic_channel, setting, setting_of, get_option_of, get_info_of, option_names, info_names, bare, set_logic, set_option, get_option, set_info, get_info, echo, declare_sort, define_sort, define_sort_of, declare_const, declare_const_of, declare_fun, declare_fun_of, define_fun, define_fun_of, assert_form, levels, get_value, check_sat_assuming, minimize, each, symbol, written_sort, parameter}
use Rattle.smt_laws.specs.LanguageLaws.{HasWrittenNumbers, SetsWritten}

abbrev Good : Result Command Refusal → Type 0
Good (Ok c) = HasWrittenNumbers c
Good (Err r) = Unit {0}

-- ---- parts

small_good : (c : ℤ → Command) → ((k : ℕ) → IsTrue (is_small k) → HasWrittenNumbers (c (pos k))) → (k : ℕ) (b : Bool) → is_small k ≡ b
    → Good (if b then Ok (c (pos k)) else Err NumeralTooLarge)
small_good c h k true e = h k e
small_good c h k false e = tt

numeral_good : (c : ℤ → Command) → ((k : ℕ) → IsTrue (is_small k) → HasWrittenNumbers (c (pos k))) → (cs : List ℕ) → Good (with_numeral c cs)
numeral_good c h cs = small_good c h (decimal cs) (is_small (decimal cs)) refl

truth_good : (o : Bool → OptionSetting) → ((b : Bool) → SetsWritten (o b)) → (a b : Bool) → Good (if a then Ok (SetOption (o true)) else if b then Ok (SetOption (o false)) else Err WrongArguments)
truth_good o h true b = h true
truth_good o h false true = h false
truth_good o h false false = tt

truth_setting_good : (o : Bool → OptionSetting) → ((b : Bool) → SetsWritten (o b)) → (x : Sexp) → Good (truth_setting o x)
truth_setting_good o h (word (Symbol n)) = truth_good o h (bytes_eq n (codes "true")) (bytes_eq n (codes "false"))
truth_setting_good o h _ = tt

numeral_setting_good : (o : ℤ → OptionSetting) → ((k : ℕ) → IsTrue (is_small k) → SetsWritten (o (pos k))) → (x : Sexp) → Good (numeral_setting o x)
numeral_setting_good o h (word (Numeral cs)) = numeral_good (λ n. SetOption (o n)) h cs
numeral_setting_good o h _ = tt

either_good : (a : Bool) (c d : Result Command Refusal) → Good c → Good d → Good (if a then c else d)
either_good true c d g h = g
either_good false c d g h = h

regular_good : (x : Sexp) → Good (regular_channel x)
regular_good (word (Text t)) = either_good (bytes_eq t (codes "stdout")) (Ok (SetOption RegularOutputChannel)) (Ok LeftOut) tt tt
regular_good _ = tt

diagnostic_good : (x : Sexp) → Good (diagnostic_channel x)
diagnostic_good (word (Text t)) =
    either_good (bytes_eq t (codes "stdout")) (Ok (SetOption (DiagnosticOutputChannel Stdout))) (if bytes_eq t (codes "stderr") then Ok (SetOption (DiagnosticOutputChannel Stderr)) else Ok LeftOut) tt
    (either_good (bytes_eq t (codes "stderr")) (Ok (SetOption (DiagnosticOutputChannel Stderr))) (Ok LeftOut) tt tt)
diagnostic_good _ = tt

setting_good : (o : OptionName) (x : Sexp) → Good (setting o x)
setting_good Named.PrintSuccess x = truth_setting_good PrintSuccess (λ b. tt) x
setting_good Named.RegularOutputChannel x = regular_good x
setting_good Named.DiagnosticOutputChannel x = diagnostic_good x
setting_good Named.Verbosity x = numeral_setting_good Verbosity (λ k h. (k, refl, h)) x
setting_good Named.ReproducibleResourceLimit x = numeral_setting_good ReproducibleResourceLimit (λ k h. (k, refl, h)) x
setting_good Named.RandomSeed x = numeral_setting_good RandomSeed (λ k h. (k, refl, h)) x
setting_good Named.ProduceModels x = truth_setting_good ProduceModels (λ b. tt) x
setting_good Named.ProduceAssertions x = truth_setting_good ProduceAssertions (λ b. tt) x
setting_good Named.InteractiveMode x = truth_setting_good InteractiveMode (λ b. tt) x
setting_good Named.ProduceAssignments x = truth_setting_good ProduceAssignments (λ b. tt) x
setting_good Named.GlobalDeclarations x = truth_setting_good GlobalDeclarations (λ b. tt) x
setting_good Named.ProduceUnsatCores x = truth_setting_good ProduceUnsatCores (λ b. tt) x
setting_good Named.ProduceUnsatAssumptions x = truth_setting_good ProduceUnsatAssumptions (λ b. tt) x

setting_of_good : (o : Option OptionName) (x : Sexp) → Good (setting_of o x)
setting_of_good None x = tt
setting_of_good (Some o) x = setting_good o x

get_option_of_good : (o : Option OptionName) → HasWrittenNumbers (get_option_of o)
get_option_of_good None = tt
get_option_of_good (Some o) = tt

get_info_of_good : (i : Option InfoName) → HasWrittenNumbers (get_info_of i)
get_info_of_good None = tt
get_info_of_good (Some i) = tt

define_sort_of_good : (n : List ℕ) (ps : Option (List (List ℕ))) (s : Option WrittenSort) → Good (define_sort_of n ps s)
define_sort_of_good n None s = tt
define_sort_of_good n (Some ps) None = tt
define_sort_of_good n (Some ps) (Some s) = tt

declare_const_of_good : (n : List ℕ) (s : Option WrittenSort) → Good (declare_const_of n s)
declare_const_of_good n None = tt
declare_const_of_good n (Some s) = tt

declare_fun_of_good : (n : List ℕ) (ss : Option (List WrittenSort)) (s : Option WrittenSort) → Good (declare_fun_of n ss s)
declare_fun_of_good n None s = tt
declare_fun_of_good n (Some ss) None = tt
declare_fun_of_good n (Some ss) (Some s) = tt

define_fun_of_good : (n : List ℕ) (ps : Option (List Parameter)) (s : Option WrittenSort) (t : Sexp) → Good (define_fun_of n ps s t)
define_fun_of_good n None s t = tt
define_fun_of_good n (Some ps) None t = tt
define_fun_of_good n (Some ps) (Some s) t = tt

-- ---- forms

bare_good : (c : Command) → HasWrittenNumbers c → (ss : Sexps) → Good (bare c ss)
bare_good c h end = h
bare_good c h _ = tt

set_logic_good : (ss : Sexps) → Good (set_logic ss)
set_logic_good (word (Symbol n) ▸ end) = tt
set_logic_good _ = tt

set_option_good : (ss : Sexps) → Good (set_option ss)
set_option_good (word (Keyword k) ▸ word (Keyword v) ▸ end) = tt
set_option_good (word (Keyword k) ▸ v ▸ end) = setting_of_good (look_up k option_names) v
set_option_good _ = tt

get_option_good : (ss : Sexps) → Good (get_option ss)
get_option_good (word (Keyword k) ▸ end) = get_option_of_good (look_up k option_names)
get_option_good _ = tt

set_info_good : (ss : Sexps) → Good (set_info ss)
set_info_good (word (Keyword k) ▸ end) = tt
set_info_good (word (Keyword k) ▸ word (Keyword v) ▸ end) = tt
set_info_good (word (Keyword k) ▸ v ▸ end) = tt
set_info_good _ = tt

get_info_good : (ss : Sexps) → Good (get_info ss)
get_info_good (word (Keyword k) ▸ end) = get_info_of_good (look_up k info_names)
get_info_good _ = tt

echo_good : (ss : Sexps) → Good (echo ss)
echo_good (word (Text t) ▸ end) = tt
echo_good _ = tt

declare_sort_good : (ss : Sexps) → Good (declare_sort ss)
declare_sort_good (word (Symbol n) ▸ word (Numeral cs) ▸ end) = numeral_good (DeclareSort n) (λ k h. (k, refl, h)) cs
declare_sort_good _ = tt

define_sort_good : (ss : Sexps) → Good (define_sort ss)
define_sort_good (word (Symbol n) ▸ group ps ▸ s ▸ end) = define_sort_of_good n (each symbol ps) (written_sort s)
define_sort_good _ = tt

declare_const_good : (ss : Sexps) → Good (declare_const ss)
declare_const_good (word (Symbol n) ▸ s ▸ end) = declare_const_of_good n (written_sort s)
declare_const_good _ = tt

declare_fun_good : (ss : Sexps) → Good (declare_fun ss)
declare_fun_good (word (Symbol n) ▸ group ps ▸ s ▸ end) = declare_fun_of_good n (each written_sort ps) (written_sort s)
declare_fun_good _ = tt

define_fun_good : (ss : Sexps) → Good (define_fun ss)
define_fun_good (word (Symbol n) ▸ group ps ▸ s ▸ t ▸ end) = define_fun_of_good n (each parameter ps) (written_sort s) t
define_fun_good _ = tt

assert_good : (ss : Sexps) → Good (assert_form ss)
assert_good (t ▸ end) = tt
assert_good _ = tt

levels_good : (c : ℤ → Command) → ((k : ℕ) → IsTrue (is_small k) → HasWrittenNumbers (c (pos k))) → (ss : Sexps) → Good (levels c ss)
levels_good c h end = h 1 refl
levels_good c h (word (Numeral cs) ▸ end) = numeral_good c h cs
levels_good c h _ = tt

get_value_good : (ss : Sexps) → Good (get_value ss)
get_value_good (group (t ▸ ts) ▸ end) = tt
get_value_good _ = tt

assuming_good : (ss : Sexps) → Good (check_sat_assuming ss)
assuming_good (group ts ▸ end) = tt
assuming_good _ = tt

minimize_good : (ss : Sexps) → Good (minimize ss)
minimize_good (t ▸ end) = tt
minimize_good _ = tt

-- ---- the table of forms

AllGood : List (List ℕ × Form) → Type 0
AllGood [] = Unit {0}
AllGood (p ∷ ps) = ((ss : Sexps) → Good (p.1 ss)) × AllGood ps

forms_good : AllGood forms
unfolding AllGood
forms_good = (
  set_logic_good,
  (
    set_option_good,
    (
      get_option_good,
      (
        set_info_good,
        (
          get_info_good,
          (
            echo_good,
            (
              bare_good Exit tt,
              (
                bare_good Reset tt,
                (
                  bare_good ResetAssertions tt,
                  (
                    declare_sort_good,
                    (
                      define_sort_good,
                      (
                        declare_const_good,
                        (
                          declare_fun_good,
                          (
                            define_fun_good,
                            (
                              assert_good,
                              (
                                bare_good CheckSat tt,
                                (
                                  levels_good Push (λ k h. (k, refl, h)),
                                  (
                                    levels_good Pop (λ k h. (k, refl, h)),
                                    (
                                      get_value_good,
                                      (
                                        bare_good GetModel tt,
                                        (
                                          bare_good GetAssertions tt,
                                          (
                                            assuming_good,
                                            (
                                              bare_good GetAssignment tt,
                                              (
                                                λ ss. tt,
                                                (bare_good GetUnsatCore tt, (bare_good GetUnsatAssumptions tt, (λ ss. tt, (λ ss. tt, (λ ss. tt, (λ ss. tt, (minimize_good, tt))))))),
                                              ),
                                            ),
                                          ),
                                        ),
                                      ),
                                    ),
                                  ),
                                ),
                              ),
                            ),
                          ),
                        ),
                      ),
                    ),
                  ),
                ),
              ),
            ),
          ),
        ),
      ),
    ),
  ),
)

abbrev GoodReading : Result Command Error → Type 0
GoodReading (Ok c) = HasWrittenNumbers c
GoodReading (Err e) = Unit {0}

within_good : (n : List ℕ) (r : Result Command Refusal) → Good r → GoodReading (within n r)
within_good n (Ok c) h = h
within_good n (Err r) h = tt

choice_good : (n : List ℕ) (b : Bool) (f : Form) (rest : Option Form) (ss : Sexps) → Good (f ss) → GoodReading (formed n rest ss) → GoodReading (formed n (if b then Some f else rest) ss)
choice_good n true f rest ss g h = within_good n (f ss) g
choice_good n false f rest ss g h = h

formed_good : (n : List ℕ) (ps : List (List ℕ × Form)) → AllGood ps → (ss : Sexps) → GoodReading (formed n (look_up n ps) ss)
unfolding AllGood
formed_good n [] g ss = tt
formed_good n (p ∷ ps) g ss = choice_good n (bytes_eq n p.0) p.1 (look_up n ps) ss (g.0 ss) (formed_good n ps g.1 ss)

command_good : (x : Sexp) → GoodReading (command x)
unfolding command
command_good (group (word (Symbol n) ▸ ss)) = formed_good n forms forms_good ss
command_good _ = tt

pub numbers_written : (x : Sexp) (c : Command) → command x ≡ Ok c → HasWrittenNumbers c
numbers_written x c e = subst GoodReading e (command_good x)
