-- What the state says of a command: the logic, the mode, the kept model, and what is left of what was said.
use Rattle.std.proofs.Common.{◌≡◌, [], ◌∷◌, refl}
use Rattle.smt_meaning.specs.declared.reports.Cause.TheVariants.{Units, Memory}
use Rattle.smt_meaning.specs.declared.reports.Report.{Report}
use Rattle.smt_meaning.specs.Reading.{text_rest, mark_rest, quoted_rest, lexeme, comment_rest, is_word_byte, is_symbol_byte, is_printable, word_token}
use Rattle.smt_meaning.specs.Sorts.{◌>>=◌, ◌>>◌, return, refuse, require, required, the_scope, note, found, declare}
use Rattle.smt_meaning.specs.StackCommand.{judge_body, judged}
use Rattle.std.specs.Fmt.{digits}
use Rattle.smt_meaning.specs.Command.{command}
use Rattle.smt_meaning.specs.State.{effect}
use Rattle.smt_meaning.specs.Text.{symbol_text, text}
use Rattle.smt_laws.proofs.Script.{wrong_replies, says_so, finds, quiet, quiet_finds, a_model, no_model, no_answer}

-- a command that needs a logic sets one where none is set
logics : wrong_replies
    (says_so "(declare-const x Nope)(set-logic QF_UF)" "(error \"E13 unknown symbol: Nope\")\nsuccess\n"
    ∷ finds (a_model [] ∷ []) "(check-sat)(set-logic QF_UF)" "sat\n(error \"E10 logic already set\")\n"
    ∷ says_so "(declare-const x Int)(set-logic QF_UF)" "success\n(error \"E10 logic already set\")\n"
    ∷ says_so "(assert true)(set-logic QF_UF)" "success\n(error \"E10 logic already set\")\n"
    ∷ says_so "(set-option :produce-assertions true)(get-assertions)(set-logic QF_UF)" "success\n()\n(error \"E10 logic already set\")\n"
    ∷ says_so "(echo \"\")(get-info :name)(get-option :verbosity)(set-info :a)(reset-assertions)(declare-sort S 1)(set-logic ALL)" "\"\"\n(:name \"smt_cli\")\n0\nsuccess\nsuccess\nunsupported\nsuccess\n"
    ∷ says_so "(set-logic QF_UFLIA)" "success\n"
    ∷ says_so "(set-logic QF_UF)" "success\n"
    ∷ says_so "(set-logic QF_LIA)" "success\n"
    ∷ says_so "(set-logic QF_IDL)" "success\n"
    ∷ says_so "(set-logic QF_UFIDL)" "success\n"
    ∷ says_so "(set-logic ALL)" "success\n" ∷ [])
    ≡ []
unfolding text_rest mark_rest quoted_rest lexeme comment_rest is_word_byte is_symbol_byte is_printable word_token ◌>>=◌ ◌>>◌ return refuse require required the_scope note found declare judge_body judged digits command effect symbol_text text
logics = refl

-- what goes, and what stays
resets : wrong_replies
    (says_so "(reset-assertions)(set-option :produce-models true)(set-logic QF_UF)(reset-assertions)(set-option :produce-models false)(set-logic QF_UF)" "success\nsuccess\nsuccess\nsuccess\n(error \"E11 option too late: :produce-models\")\n(error \"E10 logic already set\")\n"
    ∷ quiet "(declare-const p Bool)(declare-sort S 0)(push 3)(reset-assertions)(declare-const p Bool)(declare-sort S 0)(pop)(assert p)" "(error \"E18 pop past level 0\")\n"
    ∷ quiet "(set-logic QF_UF)(declare-const p Bool)(reset)(set-option :produce-models true)(set-logic QF_LIA)(declare-const p Bool)(get-option :produce-models)" "success\nsuccess\nsuccess\nsuccess\ntrue\n"
    ∷ quiet "(push)(declare-const p Bool)(declare-sort S 0)(define-fun f () Int 1)(assert (! true :named n))(pop)(declare-sort S 0)(declare-const p S)(define-fun n () Int 1)(declare-fun f () Bool)(assert f)(assert n)(assert p)" "(error \"E17 not Bool\")\n(error \"E17 not Bool\")\n" ∷ [])
    ≡ []
unfolding text_rest mark_rest quoted_rest lexeme comment_rest is_word_byte is_symbol_byte is_printable word_token ◌>>=◌ ◌>>◌ return refuse require required the_scope note found declare judge_body judged digits command effect symbol_text text
resets = refl

-- a model is kept while the mode is sat
models : wrong_replies
    (quiet_finds (a_model [] ∷ []) "(check-sat)(set-option :verbosity 1)(echo \"\")(assert x)(check-sat-assuming (x))(get-proof)(get-value (1))(set-logic ALL)(push)(get-value (1))" "sat\n\"\"\n(error \"E13 unknown symbol: x\")\n(error \"E13 unknown symbol: x\")\nunsupported\n((1 1))\n(error \"E10 logic already set\")\n(error \"E20 no model\")\n"
    ∷ quiet_finds (a_model [] ∷ []) "(check-sat)(assert true)(get-model)" "sat\n(error \"E20 no model\")\n"
    ∷ quiet_finds (a_model [] ∷ []) "(check-sat)(declare-const x Int)(get-model)" "sat\n(error \"E20 no model\")\n"
    ∷ quiet_finds (a_model [] ∷ []) "(check-sat)(define-sort S () Int)(get-model)" "sat\n(error \"E20 no model\")\n"
    ∷ quiet_finds (a_model [] ∷ []) "(push)(check-sat)(pop)(get-model)" "sat\n(error \"E20 no model\")\n"
    ∷ quiet_finds (a_model [] ∷ []) "(check-sat)(reset-assertions)(get-model)" "sat\n(error \"E20 no model\")\n"
    ∷ quiet_finds (a_model [] ∷ no_model ∷ []) "(check-sat)(get-model)(check-sat)(get-model)" "sat\n()\nunsat\n(error \"E20 no model\")\n" ∷ [])
    ≡ []
unfolding text_rest mark_rest quoted_rest lexeme comment_rest is_word_byte is_symbol_byte is_printable word_token ◌>>=◌ ◌>>◌ return refuse require required the_scope note found declare judge_body judged digits command effect symbol_text text
models = refl

abbrev without_memory : Report
without_memory = record { worker = 0; cause = Memory; branches = [] }

abbrev without_units : Report
without_units = record { worker = 0; cause = Units []; branches = [] }

-- after an answer by unknown no model is kept, and its reason is told until the mode ends
unknown_answers : wrong_replies
    (quiet_finds (no_answer (without_units ∷ []) ∷ []) "(check-sat)(get-info :reason-unknown)(get-value (1))(get-model)(assert true)(get-info :reason-unknown)(get-model)" "unknown\n(:reason-unknown incomplete)\n(error \"E20 no model\")\n(error \"E20 no model\")\n(error \"E9 no unknown answer\")\n(error \"E20 no model\")\n"
    ∷ quiet_finds (no_answer (without_units ∷ without_memory ∷ []) ∷ []) "(check-sat)(echo \"\")(assert x)(set-option :verbosity 1)(get-info :reason-unknown)" "unknown\n\"\"\n(error \"E13 unknown symbol: x\")\n(:reason-unknown memout)\n"
    ∷ quiet_finds (no_answer (without_units ∷ []) ∷ a_model [] ∷ no_answer (without_memory ∷ []) ∷ no_model ∷ []) "(check-sat)(get-info :reason-unknown)(check-sat)(get-info :reason-unknown)(check-sat)(get-info :reason-unknown)(check-sat)(get-info :reason-unknown)" "unknown\n(:reason-unknown incomplete)\nsat\n(error \"E9 no unknown answer\")\nunknown\n(:reason-unknown memout)\nunsat\n(error \"E9 no unknown answer\")\n"
    ∷ finds (no_answer (without_units ∷ []) ∷ []) "(check-sat)(set-logic QF_UF)(set-option :random-seed 1)(reset)(get-info :reason-unknown)" "unknown\n(error \"E10 logic already set\")\n(error \"E11 option too late: :random-seed\")\nsuccess\n(error \"E9 no unknown answer\")\n" ∷ [])
    ≡ []
unfolding text_rest mark_rest quoted_rest lexeme comment_rest is_word_byte is_symbol_byte is_printable word_token ◌>>=◌ ◌>>◌ return refuse require required the_scope note found declare judge_body judged digits command effect symbol_text text
unknown_answers = refl

-- a refused command leaves nothing behind
refused : wrong_replies
    (quiet "(assert (and (! false :named n) y))(assert n)(declare-fun f (Int Nope) Int)(declare-const f Int)(define-fun g ((x Int)) Bool x)(declare-const g Bool)(assert (! 1 :named m))(declare-const m Bool)(assert m)(push 1)(pop 2)(pop)" "(error \"E13 unknown symbol: y\")\n(error \"E13 unknown symbol: n\")\n(error \"E13 unknown symbol: Nope\")\n(error \"E15 sorts differ: g\")\n(error \"E17 not Bool\")\n(error \"E18 pop past level 0\")\n"
    ∷ quiet "(set-option :produce-assertions true)(assert (+ 1 1))(assert (= 1 1))(get-assertions)" "(error \"E17 not Bool\")\n((= 1 1))\n" ∷ [])
    ≡ []
unfolding text_rest mark_rest quoted_rest lexeme comment_rest is_word_byte is_symbol_byte is_printable word_token ◌>>=◌ ◌>>◌ return refuse require required the_scope note found declare judge_body judged digits command effect symbol_text text
refused = refl

scripts : wrong_replies
    (says_so "" ""
    ∷ finds (a_model [] ∷ []) "(set-logic QF_UFLIA)(check-sat)(exit)" "success\nsat\nsuccess\n"
    ∷ finds (no_model ∷ []) "(set-option :print-success false)(declare-const p Bool)(assert p)(assert (not p))(check-sat)" "unsat\n"
    ∷ finds (no_model ∷ a_model [] ∷ []) "(set-option :print-success false)(push 1)(declare-fun f (Int) Int)(assert (not (= (f 0) (f 0))))(check-sat)(pop 1)(declare-fun f (Bool) Bool)(assert (f true))(check-sat)" "unsat\nsat\n"
    ∷ says_so "(set-logic QF_UF)(set-option :produce-models true)(set-logic QF_LIA)(get-option :produce-models)" "success\n(error \"E11 option too late: :produce-models\")\n(error \"E10 logic already set\")\nfalse\n"
    ∷ finds (a_model [] ∷ []) "(set-option :print-success false)(declare-const x Int)(declare-const x Bool)(declare-const + Int)(assert (and (! false :named n) y))(assert n)(assert (not true false))(assert (+ x true))(assert (= (* x x) 0))(assert x)(check-sat)" "(error \"E12 name already declared: x\")\n(error \"E24 reserved name: +\")\n(error \"E13 unknown symbol: y\")\n(error \"E13 unknown symbol: n\")\n(error \"E14 number of arguments: not\")\n(error \"E15 sorts differ: +\")\n(error \"E16 not linear\")\n(error \"E17 not Bool\")\nsat\n"
    ∷ quiet "foo(bar)(push x)(get-info :reason-unknown)(get-info :assertion-stack-levels)" "(error \"E6 not a command\")\n(error \"E7 unknown command: bar\")\n(error \"E8 wrong arguments: push\")\n(error \"E9 no unknown answer\")\n(:assertion-stack-levels 0)\n"
    ∷ quiet_finds (a_model [] ∷ []) "(declare-const x Int)(get-value (x))(pop 1)(check-sat)" "(error \"E20 no model\")\n(error \"E18 pop past level 0\")\nsat\n" ∷ [])
    ≡ []
unfolding text_rest mark_rest quoted_rest lexeme comment_rest is_word_byte is_symbol_byte is_printable word_token ◌>>=◌ ◌>>◌ return refuse require required the_scope note found declare judge_body judged digits command effect symbol_text text
scripts = refl
