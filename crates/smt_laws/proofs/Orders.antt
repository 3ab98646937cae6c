-- Pairs of refusals, whose order a script tells apart.
use Rattle.std.proofs.Common.{◌≡◌, [], ◌∷◌, refl}
use Rattle.smt_meaning.specs.Reading.{text_rest, mark_rest, quoted_rest, lexeme, comment_rest, is_word_byte, is_symbol_byte, is_printable, word_token}
use Rattle.smt_meaning.specs.Sorts.{◌>>=◌, ◌>>◌, return, refuse, require, required, the_scope, note, found, declare}
use Rattle.smt_meaning.specs.StackCommand.{judge_body, judged}
use Rattle.std.specs.Fmt.{digits}
use Rattle.smt_meaning.specs.Command.{command}
use Rattle.smt_meaning.specs.State.{effect}
use Rattle.smt_meaning.specs.Text.{symbol_text, text}
use Rattle.smt_laws.proofs.Script.{wrong_replies, says_so, finds, quiet, quiet_finds, a_model}

-- an unknown option, the kind of the value, the numeral, the mode, and the channel
options : wrong_replies
    (says_so "(set-logic ALL)(set-option :unknown 170141183460469231731687303715884105728)(set-option :produce-models 3)(set-option :random-seed 170141183460469231731687303715884105728)(set-option :random-seed x)(set-option :regular-output-channel \"f\")(set-option :regular-output-channel 1)(set-option :diagnostic-output-channel \"f\")" "success\nunsupported\n(error \"E8 wrong arguments: set-option\")\n(error \"E5 numeral past 128 bits\")\n(error \"E8 wrong arguments: set-option\")\nunsupported\n(error \"E8 wrong arguments: set-option\")\nunsupported\n"
    ∷ says_so "(set-logic Nope)(set-logic QF_UF)(set-logic Nope)" "unsupported\nsuccess\n(error \"E10 logic already set\")\n" ∷ [])
    ≡ []
unfolding text_rest mark_rest quoted_rest lexeme comment_rest is_word_byte is_symbol_byte is_printable word_token ◌>>=◌ ◌>>◌ return refuse require required the_scope note found declare judge_body judged digits command effect symbol_text text
options = refl

-- in declarations and definitions: the form, the numeral, what is left out, the name, and the sorts from left to right
declarations : wrong_replies
    (quiet "(declare-sort Bool 170141183460469231731687303715884105728)(declare-sort Bool 1)(declare-sort Bool 0)" "(error \"E5 numeral past 128 bits\")\nunsupported\n(error \"E24 reserved name: Bool\")\n"
    ∷ quiet "(define-sort Int (x) 1)(define-sort Int (x) Nope)(define-sort Int () Nope)(define-sort S () Int)(define-sort S () Nope)" "(error \"E8 wrong arguments: define-sort\")\nunsupported\n(error \"E24 reserved name: Int\")\n(error \"E12 name already declared: S\")\n"
    ∷ quiet "(declare-fun + 3 Nope)(declare-fun + (Nope) Int)(declare-const x Int)(declare-fun x (Nope) Int)(declare-fun g (A B) C)(declare-fun g (Int B) C)(declare-fun g (Int) C)" "(error \"E8 wrong arguments: declare-fun\")\n(error \"E24 reserved name: +\")\n(error \"E12 name already declared: x\")\n(error \"E13 unknown symbol: A\")\n(error \"E13 unknown symbol: B\")\n(error \"E13 unknown symbol: C\")\n"
    ∷ quiet "(define-fun + ((x Int) (x 1)) Nope y)(define-fun + ((x Int) (x Int)) Nope y)(define-fun f ((x Int) (x Nope)) Nope y)(define-fun f ((x Nope) (x Int)) Nope y)(define-fun f ((x Int)) Nope y)(define-fun f ((x Int)) Bool y)(define-fun f ((x Int)) Bool x)" "(error \"E8 wrong arguments: define-fun\")\n(error \"E24 reserved name: +\")\n(error \"E12 name already declared: x\")\n(error \"E13 unknown symbol: Nope\")\n(error \"E13 unknown symbol: Nope\")\n(error \"E13 unknown symbol: y\")\n(error \"E15 sorts differ: f\")\n" ∷ [])
    ≡ []
unfolding text_rest mark_rest quoted_rest lexeme comment_rest is_word_byte is_symbol_byte is_printable word_token ◌>>=◌ ◌>>◌ return refuse require required the_scope note found declare judge_body judged digits command effect symbol_text text
declarations = refl

-- in a term: the head, the arguments from left to right, their number, their sorts, linearity; then that it is no Bool
assertions : wrong_replies
    (quiet "(declare-const x Int)(assert (nope ()))(assert (+ a ()))(assert (not x y))(assert (not x x))(assert (* x x true))(assert (* x x))(assert (+ x 1))(assert (! (! 1 :named a) :named a))" "(error \"E13 unknown symbol: nope\")\n(error \"E13 unknown symbol: a\")\n(error \"E13 unknown symbol: y\")\n(error \"E14 number of arguments: not\")\n(error \"E15 sorts differ: *\")\n(error \"E16 not linear\")\n(error \"E17 not Bool\")\n(error \"E12 name already declared: a\")\n"
    ∷ quiet "(assert (! y :named))(assert (! y :named +))(assert (! true :named + :named 1))(assert (! true :named 1 :named +))(assert (let ((v u) (v 1)) true))(assert (let ((v u) (w 1 2)) true))" "(error \"E13 unknown symbol: y\")\n(error \"E13 unknown symbol: y\")\n(error \"E24 reserved name: +\")\n(error \"E8 wrong arguments: assert\")\n(error \"E12 name already declared: v\")\n(error \"E8 wrong arguments: assert\")\n" ∷ [])
    ≡ []
unfolding text_rest mark_rest quoted_rest lexeme comment_rest is_word_byte is_symbol_byte is_printable word_token ◌>>=◌ ◌>>◌ return refuse require required the_scope note found declare judge_body judged digits command effect symbol_text text
assertions = refl

-- no model, the option, the term, the value
questions : wrong_replies
    (finds (a_model [] ∷ []) "(get-value (y))(get-model)(check-sat)(get-value (y))(get-model)" "(error \"E20 no model\")\n(error \"E20 no model\")\nsat\n(error \"E21 option is off: :produce-models\")\n(error \"E21 option is off: :produce-models\")\n"
    ∷ quiet_finds (a_model [] ∷ []) "(check-sat)(get-value (1 (+ 170141183460469231731687303715884105727 1) y))(get-value (1 (+ 170141183460469231731687303715884105727 1)))(get-value ((- (+ 170141183460469231731687303715884105727 1) 1)))(get-value ((ite true 1 (* 170141183460469231731687303715884105727 2))))(get-value ((! 1 :named n)))" "sat\n(error \"E13 unknown symbol: y\")\n(error \"E22 value past 128 bits\")\n(error \"E22 value past 128 bits\")\n(error \"E22 value past 128 bits\")\n(error \"E8 wrong arguments: get-value\")\n" ∷ [])
    ≡ []
unfolding text_rest mark_rest quoted_rest lexeme comment_rest is_word_byte is_symbol_byte is_printable word_token ◌>>=◌ ◌>>◌ return refuse require required the_scope note found declare judge_body judged digits command effect symbol_text text
questions = refl
