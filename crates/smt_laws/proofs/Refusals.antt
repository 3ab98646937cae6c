-- Each refusal, with the least scripts that meet it.
use Rattle.std.proofs.Common.{◌≡◌, [], ◌∷◌, refl}
use Rattle.smt_meaning.specs.Reading.{text_rest, mark_rest, quoted_rest, lexeme, comment_rest, is_word_byte, is_symbol_byte, is_printable, word_token}
use Rattle.smt_meaning.specs.Sorts.{◌>>=◌, ◌>>◌, return, refuse, require, required, the_scope, note, found, declare}
use Rattle.smt_meaning.specs.StackCommand.{judge_body, judged}
use Rattle.std.specs.Fmt.{digits}
use Rattle.smt_meaning.specs.Command.{command}
use Rattle.smt_meaning.specs.State.{effect}
use Rattle.smt_meaning.specs.Text.{symbol_text, text}
use Rattle.smt_laws.proofs.Script.{wrong_replies, says_so, finds, quiet, a_model, no_model}

-- no list that begins with a symbol, and no command of the name
not_commands : wrong_replies
    (says_so "foo" "(error \"E6 not a command\")\n"
    ∷ says_so "()" "(error \"E6 not a command\")\n"
    ∷ says_so "(3)" "(error \"E6 not a command\")\n"
    ∷ says_so "((exit))" "(error \"E6 not a command\")\n"
    ∷ says_so "(let x)" "(error \"E6 not a command\")\n"
    ∷ says_so "(bar)" "(error \"E7 unknown command: bar\")\n"
    ∷ says_so "(|a b|)" "(error \"E7 unknown command: |a b|\")\n"
    ∷ says_so "(|let| x)" "(error \"E7 unknown command: |let|\")\n"
    ∷ says_so "(maximize x)" "(error \"E7 unknown command: maximize\")\n"
    ∷ says_so "(|check-sat| 1)" "(error \"E8 wrong arguments: check-sat\")\n" ∷ [])
    ≡ []
unfolding text_rest mark_rest quoted_rest lexeme comment_rest is_word_byte is_symbol_byte is_printable word_token ◌>>=◌ ◌>>◌ return refuse require required the_scope note found declare judge_body judged digits command effect symbol_text text
not_commands = refl

-- forms that a command has not
wrong_arguments : wrong_replies
    (says_so "(set-logic)" "(error \"E8 wrong arguments: set-logic\")\n"
    ∷ says_so "(set-logic 1)" "(error \"E8 wrong arguments: set-logic\")\n"
    ∷ says_so "(set-option :verbosity)" "(error \"E8 wrong arguments: set-option\")\n"
    ∷ says_so "(set-option :verbosity :k)" "(error \"E8 wrong arguments: set-option\")\n"
    ∷ says_so "(set-option :unknown :k)" "(error \"E8 wrong arguments: set-option\")\n"
    ∷ says_so "(set-option verbosity 1)" "(error \"E8 wrong arguments: set-option\")\n"
    ∷ says_so "(set-option :verbosity x)" "(error \"E8 wrong arguments: set-option\")\n"
    ∷ says_so "(set-option :print-success 1)" "(error \"E8 wrong arguments: set-option\")\n"
    ∷ says_so "(set-option :print-success yes)" "(error \"E8 wrong arguments: set-option\")\n"
    ∷ says_so "(set-option :regular-output-channel stdout)" "(error \"E8 wrong arguments: set-option\")\n"
    ∷ says_so "(get-option)" "(error \"E8 wrong arguments: get-option\")\n"
    ∷ says_so "(get-option verbosity)" "(error \"E8 wrong arguments: get-option\")\n"
    ∷ says_so "(set-info)" "(error \"E8 wrong arguments: set-info\")\n"
    ∷ says_so "(set-info :a 1 2)" "(error \"E8 wrong arguments: set-info\")\n"
    ∷ says_so "(set-info :a :b)" "(error \"E8 wrong arguments: set-info\")\n"
    ∷ says_so "(get-info :name 1)" "(error \"E8 wrong arguments: get-info\")\n"
    ∷ says_so "(echo hello)" "(error \"E8 wrong arguments: echo\")\n"
    ∷ says_so "(exit 1)" "(error \"E8 wrong arguments: exit\")\n"
    ∷ says_so "(reset ())" "(error \"E8 wrong arguments: reset\")\n"
    ∷ says_so "(reset-assertions 0)" "(error \"E8 wrong arguments: reset-assertions\")\n"
    ∷ says_so "(declare-sort S)" "(error \"E8 wrong arguments: declare-sort\")\n"
    ∷ says_so "(declare-sort S S)" "(error \"E8 wrong arguments: declare-sort\")\n"
    ∷ says_so "(define-sort S Int)" "(error \"E8 wrong arguments: define-sort\")\n"
    ∷ says_so "(define-sort S (1) Int)" "(error \"E8 wrong arguments: define-sort\")\n"
    ∷ says_so "(define-sort S () 1)" "(error \"E8 wrong arguments: define-sort\")\n"
    ∷ says_so "(declare-const x ())" "(error \"E8 wrong arguments: declare-const\")\n"
    ∷ says_so "(declare-const x (as S))" "(error \"E8 wrong arguments: declare-const\")\n"
    ∷ says_so "(declare-const 1 Int)" "(error \"E8 wrong arguments: declare-const\")\n"
    ∷ says_so "(declare-fun f Int)" "(error \"E8 wrong arguments: declare-fun\")\n"
    ∷ says_so "(declare-fun f (1) Int)" "(error \"E8 wrong arguments: declare-fun\")\n"
    ∷ says_so "(define-fun f (x) Int 1)" "(error \"E8 wrong arguments: define-fun\")\n"
    ∷ says_so "(define-fun f ((x Int y)) Int 1)" "(error \"E8 wrong arguments: define-fun\")\n"
    ∷ says_so "(define-fun f () 1 1)" "(error \"E8 wrong arguments: define-fun\")\n"
    ∷ says_so "(assert)" "(error \"E8 wrong arguments: assert\")\n"
    ∷ says_so "(assert :k)" "(error \"E8 wrong arguments: assert\")\n"
    ∷ says_so "(assert let)" "(error \"E8 wrong arguments: assert\")\n"
    ∷ says_so "(check-sat true)" "(error \"E8 wrong arguments: check-sat\")\n"
    ∷ says_so "(push x)" "(error \"E8 wrong arguments: push\")\n"
    ∷ says_so "(pop 1 1)" "(error \"E8 wrong arguments: pop\")\n"
    ∷ says_so "(get-value ())" "(error \"E8 wrong arguments: get-value\")\n"
    ∷ says_so "(get-value x)" "(error \"E8 wrong arguments: get-value\")\n"
    ∷ says_so "(get-model 1)" "(error \"E8 wrong arguments: get-model\")\n"
    ∷ says_so "(get-assertions 1)" "(error \"E8 wrong arguments: get-assertions\")\n" ∷ [])
    ≡ []
unfolding text_rest mark_rest quoted_rest lexeme comment_rest is_word_byte is_symbol_byte is_printable word_token ◌>>=◌ ◌>>◌ return refuse require required the_scope note found declare judge_body judged digits command effect symbol_text text
wrong_arguments = refl

-- a numeral past 2^127 - 1
numerals : wrong_replies
    (says_so "(set-option :verbosity 170141183460469231731687303715884105727)(set-option :verbosity 170141183460469231731687303715884105728)(get-option :verbosity)" "success\n(error \"E5 numeral past 128 bits\")\n170141183460469231731687303715884105727\n"
    ∷ says_so "(set-option :random-seed 170141183460469231731687303715884105728)" "(error \"E5 numeral past 128 bits\")\n"
    ∷ says_so "(set-option :reproducible-resource-limit 170141183460469231731687303715884105728)" "(error \"E5 numeral past 128 bits\")\n"
    ∷ says_so "(declare-sort S 170141183460469231731687303715884105728)" "(error \"E5 numeral past 128 bits\")\n"
    ∷ says_so "(push 170141183460469231731687303715884105728)" "(error \"E5 numeral past 128 bits\")\n"
    ∷ says_so "(pop 170141183460469231731687303715884105728)" "(error \"E5 numeral past 128 bits\")\n"
    ∷ says_so "(assert (= 0 170141183460469231731687303715884105728))" "(error \"E5 numeral past 128 bits\")\n" ∷ [])
    ≡ []
unfolding text_rest mark_rest quoted_rest lexeme comment_rest is_word_byte is_symbol_byte is_printable word_token ◌>>=◌ ◌>>◌ return refuse require required the_scope note found declare judge_body judged digits command effect symbol_text text
numerals = refl

-- what the state refuses
states : wrong_replies
    (says_so "(get-info :reason-unknown)" "(error \"E9 no unknown answer\")\n"
    ∷ says_so "(set-logic QF_UF)(set-logic QF_UF)" "success\n(error \"E10 logic already set\")\n"
    ∷ says_so "(push)(set-logic QF_UF)" "success\n(error \"E10 logic already set\")\n"
    ∷ says_so "(set-logic ALL)(set-option :produce-models true)" "success\n(error \"E11 option too late: :produce-models\")\n"
    ∷ says_so "(set-logic ALL)(set-option :produce-assertions true)" "success\n(error \"E11 option too late: :produce-assertions\")\n"
    ∷ says_so "(set-logic ALL)(set-option :interactive-mode true)" "success\n(error \"E11 option too late: :interactive-mode\")\n"
    ∷ says_so "(set-logic ALL)(set-option :random-seed 1)" "success\n(error \"E11 option too late: :random-seed\")\n"
    ∷ says_so "(set-logic ALL)(set-option :verbosity 1)(set-option :reproducible-resource-limit 9)(set-option :diagnostic-output-channel \"stdout\")" "success\nsuccess\nsuccess\nsuccess\n"
    ∷ says_so "(pop)" "(error \"E18 pop past level 0\")\n"
    ∷ says_so "(push 2)(pop 3)(pop 2)" "success\n(error \"E18 pop past level 0\")\nsuccess\n"
    ∷ says_so "(push 65536)" "(error \"E19 too many levels\")\n"
    ∷ says_so "(push 3)(push 65533)" "success\n(error \"E19 too many levels\")\n"
    ∷ says_so "(get-value (1))" "(error \"E20 no model\")\n"
    ∷ says_so "(get-model)" "(error \"E20 no model\")\n"
    ∷ finds (no_model ∷ []) "(check-sat)(get-value (1))(get-model)" "unsat\n(error \"E20 no model\")\n(error \"E20 no model\")\n"
    ∷ finds (a_model [] ∷ []) "(check-sat)(get-value (1))(get-model)(get-assertions)" "sat\n(error \"E21 option is off: :produce-models\")\n(error \"E21 option is off: :produce-models\")\n(error \"E21 option is off: :produce-assertions\")\n" ∷ [])
    ≡ []
unfolding text_rest mark_rest quoted_rest lexeme comment_rest is_word_byte is_symbol_byte is_printable word_token ◌>>=◌ ◌>>◌ return refuse require required the_scope note found declare judge_body judged digits command effect symbol_text text
states = refl

-- names that are declared already, that are the theories', and that nobody knows
names : wrong_replies
    (quiet "(declare-const x Int)(declare-const x Bool)(declare-fun x (Int) Int)(define-fun x () Int 1)" "(error \"E12 name already declared: x\")\n(error \"E12 name already declared: x\")\n(error \"E12 name already declared: x\")\n"
    ∷ quiet "(declare-sort S 0)(declare-sort S 0)(define-sort S () Int)(declare-const S S)" "(error \"E12 name already declared: S\")\n(error \"E12 name already declared: S\")\n"
    ∷ quiet "(define-fun f ((|a b| Int) (|a b| Int)) Int 1)" "(error \"E12 name already declared: |a b|\")\n"
    ∷ quiet "(assert (let ((x 1) (x 2)) true))" "(error \"E12 name already declared: x\")\n"
    ∷ quiet "(assert (! true :named n))(assert (! true :named n))" "(error \"E12 name already declared: n\")\n"
    ∷ quiet "(assert x)(assert (f 1))(declare-const y Nope)(declare-const y (Array Int Int))(declare-fun f (Nope) Int)(define-fun f ((y Nope)) Int 1)(define-sort T () Nope)" "(error \"E13 unknown symbol: x\")\n(error \"E13 unknown symbol: f\")\n(error \"E13 unknown symbol: Nope\")\n(error \"E13 unknown symbol: Array\")\n(error \"E13 unknown symbol: Nope\")\n(error \"E13 unknown symbol: Nope\")\n(error \"E13 unknown symbol: Nope\")\n"
    ∷ quiet "(assert |a b|)(assert |let|)(assert 1.5)(assert |1.5|)(assert #x1F)(assert #b01)(assert \"a\")(assert |\"a\"|)(assert \"\")(assert (forall ((x Int)) true))(assert (|forall| 1))(assert (rem 1 1))" "(error \"E13 unknown symbol: |a b|\")\n(error \"E13 unknown symbol: |let|\")\n(error \"E13 unknown symbol: 1.5\")\n(error \"E13 unknown symbol: |1.5|\")\n(error \"E13 unknown symbol: #x1F\")\n(error \"E13 unknown symbol: #b01\")\n(error \"E13 unknown symbol: \"\"a\"\"\")\n(error \"E13 unknown symbol: |\"\"a\"\"|\")\n(error \"E13 unknown symbol: \"\"\"\"\")\n(error \"E13 unknown symbol: forall\")\n(error \"E13 unknown symbol: |forall|\")\n(error \"E13 unknown symbol: rem\")\n"
    ∷ quiet "(declare-sort Bool 0)(define-sort Int () Bool)(declare-const + Int)(declare-fun div () Int)(define-fun => () Int 1)(assert (! true :named true))(declare-const Bool Bool)(declare-sort + 0)" "(error \"E24 reserved name: Bool\")\n(error \"E24 reserved name: Int\")\n(error \"E24 reserved name: +\")\n(error \"E24 reserved name: div\")\n(error \"E24 reserved name: =>\")\n(error \"E24 reserved name: true\")\n" ∷ [])
    ≡ []
unfolding text_rest mark_rest quoted_rest lexeme comment_rest is_word_byte is_symbol_byte is_printable word_token ◌>>=◌ ◌>>◌ return refuse require required the_scope note found declare judge_body judged digits command effect symbol_text text
names = refl

-- terms
terms : wrong_replies
    (quiet "(declare-fun f (Int) Int)(declare-const |a b| Int)(assert (not true false))(assert (f 1 2))(assert (|a b|))(assert f)(assert (let ((y 1)) (y)))" "(error \"E14 number of arguments: not\")\n(error \"E14 number of arguments: f\")\n(error \"E14 number of arguments: |a b|\")\n(error \"E14 number of arguments: f\")\n(error \"E14 number of arguments: y\")\n"
    ∷ quiet "(declare-const x Int)(assert (+ x true))(assert (ite true 1 true))(define-fun |a b| () Bool 1)(assert (= (* x x) 0))(define-fun d () Int (* x x))(assert (= d 0))(assert x)" "(error \"E15 sorts differ: +\")\n(error \"E15 sorts differ: ite\")\n(error \"E15 sorts differ: |a b|\")\n(error \"E16 not linear\")\n(error \"E16 not linear\")\n(error \"E17 not Bool\")\n"
    ∷ quiet "(define-fun f () Bool (! true :named n))(assert (let ((x true)) (! x :named n)))(assert (! true))(assert (let () true))(assert (let ((x)) true))(assert ())(assert (1 2))" "(error \"E8 wrong arguments: define-fun\")\n(error \"E8 wrong arguments: assert\")\n(error \"E8 wrong arguments: assert\")\n(error \"E8 wrong arguments: assert\")\n(error \"E8 wrong arguments: assert\")\n(error \"E8 wrong arguments: assert\")\n(error \"E8 wrong arguments: assert\")\n" ∷ [])
    ≡ []
unfolding text_rest mark_rest quoted_rest lexeme comment_rest is_word_byte is_symbol_byte is_printable word_token ◌>>=◌ ◌>>◌ return refuse require required the_scope note found declare judge_body judged digits command effect symbol_text text
terms = refl
