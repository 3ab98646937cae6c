-- The texts of replies.
use Rattle.std.proofs.Common.{◌≡◌, [], ◌∷◌, refl}
use Rattle.smt_meaning.specs.Reading.{text_rest, mark_rest, quoted_rest, lexeme, comment_rest, is_word_byte, is_symbol_byte, is_printable, word_token}
use Rattle.smt_meaning.specs.Sorts.{◌>>=◌, ◌>>◌, return, refuse, require, required, the_scope, note, found, declare}
use Rattle.smt_meaning.specs.StackCommand.{judge_body, judged}
use Rattle.std.specs.Fmt.{digits}
use Rattle.std.specs.Prelude.{ℕ, ℤ, pos, negsuc, true, false}
use Rattle.smt_meaning.specs.declared.values.Value.{Value}
use Rattle.smt_meaning.specs.declared.values.Value.TheVariants.{Truth, Whole, Element}
use Rattle.smt_meaning.specs.declared.values.Table.{Table}
use Rattle.smt_meaning.specs.Command.{command}
use Rattle.smt_meaning.specs.State.{effect}
use Rattle.smt_meaning.specs.Text.{symbol_text, text}
use Rattle.smt_laws.proofs.Script.{wrong_replies, says_so, finds, quiet, quiet_finds, a_model}

-- ---- tables of models, with the number of their symbol

abbrev constant : ℕ → Value → Table
constant id v = record { symbol = id; rows = []; default = v }

abbrev truth : ℕ → Table
truth id = constant id (Truth true)

abbrev number : ℕ → ℤ → Table
number id n = constant id (Whole n)

abbrev element : ℕ → ℕ → Table
element id n = constant id (Element n)

abbrev one_row : Table
one_row = record { symbol = 0; rows = record { arguments = Whole (pos 1) ∷ []; value = Whole (pos 5) } ∷ []; default = Whole (pos 0) }

abbrev two_arguments : Table
two_arguments = record { symbol = 0; rows = record { arguments = Whole (negsuc 0) ∷ Truth true ∷ []; value = Whole (pos 2) } ∷ []; default = Whole (pos 3) }

abbrev two_rows : Table
two_rows =
    record { symbol = 0; rows = record { arguments = Whole (pos 0) ∷ []; value = Truth true } ∷ record { arguments = Whole (negsuc 6) ∷ []; value = Truth true } ∷ []; default = Truth false }

abbrev on_elements : Table
on_elements = record { symbol = 3; rows = record { arguments = Element 0 ∷ []; value = Element 12 } ∷ []; default = Element 0 }

-- ---- texts

option_values : wrong_replies
    (says_so "(get-option :print-success)(get-option :regular-output-channel)(get-option :diagnostic-output-channel)(get-option :verbosity)(get-option :reproducible-resource-limit)(get-option :random-seed)(get-option :produce-models)(get-option :produce-assertions)(get-option :interactive-mode)" "true\n\"stdout\"\n\"stderr\"\n0\n0\n0\nfalse\nfalse\nfalse\n"
    ∷ says_so "(get-option :unknown)(get-option :produce-proofs)(get-option :produce-unsat-cores)(get-option :produce-unsat-assumptions)" "unsupported\nunsupported\nfalse\nfalse\n"
    ∷ says_so "(set-option :print-success true)(set-option :print-success false)(get-option :print-success)(set-option :print-success true)" "success\nfalse\nsuccess\n"
    ∷ quiet "(set-option :verbosity 12)(set-option :diagnostic-output-channel \"stdout\")(set-option :regular-output-channel \"stdout\")(set-option :reproducible-resource-limit 7)(set-option :random-seed 0)(set-option :produce-models true)(set-option :interactive-mode true)(get-option :verbosity)(get-option :diagnostic-output-channel)(get-option :regular-output-channel)(get-option :reproducible-resource-limit)(get-option :random-seed)(get-option :produce-models)(get-option :produce-assertions)(get-option :interactive-mode)" "12\n\"stdout\"\n\"stdout\"\n7\n0\ntrue\ntrue\ntrue\n"
    ∷ quiet "(set-option :interactive-mode true)(set-option :produce-assertions false)(get-option :interactive-mode)" "false\n"
    ∷ quiet "(set-option :verbosity 12)(reset)(get-option :verbosity)" "success\n0\n" ∷ [])
    ≡ []
unfolding text_rest mark_rest quoted_rest lexeme comment_rest is_word_byte is_symbol_byte is_printable word_token ◌>>=◌ ◌>>◌ return refuse require required the_scope note found declare judge_body judged digits command effect symbol_text text
option_values = refl

information : wrong_replies
    (says_so "(get-info :name)(get-info :version)(get-info :authors)(get-info :error-behavior)(get-info :assertion-stack-levels)(get-info :all-statistics)(get-info :nope)" "(:name \"smt_cli\")\n(:version \"1.0\")\n(:authors \"the smt_cli team\")\n(:error-behavior continued-execution)\n(:assertion-stack-levels 0)\nunsupported\nunsupported\n"
    ∷ quiet "(push)(push 11)(get-info :assertion-stack-levels)(pop 2)(get-info :assertion-stack-levels)(reset-assertions)(get-info :assertion-stack-levels)" "(:assertion-stack-levels 12)\n(:assertion-stack-levels 10)\n(:assertion-stack-levels 0)\n"
    ∷ says_so "(set-info :status sat)(set-info :source |a b|)(set-info :nothing)(set-info :x (a \"b\" 1))(set-info :smt-lib-version 2.6)" "success\nsuccess\nsuccess\nsuccess\nsuccess\n" ∷ [])
    ≡ []
unfolding text_rest mark_rest quoted_rest lexeme comment_rest is_word_byte is_symbol_byte is_printable word_token ◌>>=◌ ◌>>◌ return refuse require required the_scope note found declare judge_body judged digits command effect symbol_text text
information = refl

echoes : wrong_replies
    (says_so "(echo \"a\"\"b\")(echo \"\")(echo \"a b; (\")" "\"a\"\"b\"\n\"\"\n\"a b; (\"\n" ∷ [])
    ≡ []
unfolding text_rest mark_rest quoted_rest lexeme comment_rest is_word_byte is_symbol_byte is_printable word_token ◌>>=◌ ◌>>◌ return refuse require required the_scope note found declare judge_body judged digits command effect symbol_text text
echoes = refl

-- what is answered unsupported whatever its arguments
left_out : wrong_replies
    (says_so "(get-proof)(define-fun-rec f)(define-funs-rec)(declare-datatype)(declare-datatypes 1 2)(set-logic QF_UF)" "unsupported\nunsupported\nunsupported\nunsupported\nunsupported\nsuccess\n" ∷ [])
    ≡ []
unfolding text_rest mark_rest quoted_rest lexeme comment_rest is_word_byte is_symbol_byte is_printable word_token ◌>>=◌ ◌>>◌ return refuse require required the_scope note found declare judge_body judged digits command effect symbol_text text
left_out = refl

-- symbols are printed plainly or between bars
symbols : wrong_replies
    (finds (a_model (truth 0 ∷ truth 1 ∷ truth 2 ∷ truth 3 ∷ truth 4 ∷ truth 5 ∷ truth 6 ∷ truth 7 ∷ truth 8 ∷ []) ∷ []) "(set-option :print-success false)(set-option :produce-models true)(declare-const |x| Bool)(declare-const @a Bool)(declare-const .b Bool)(declare-const |a b| Bool)(declare-const |let| Bool)(declare-const |1a| Bool)(declare-const || Bool)(declare-const push Bool)(declare-const BINARY Bool)(check-sat)(get-value (x |@a| |.b| |a b| |let| |1a| || push |BINARY|))" "sat\n((x true) (@a true) (.b true) (|a b| true) (|let| true) (|1a| true) (|| true) (|push| true) (|BINARY| true))\n"
    ∷ says_so "(|assert| x)(|declare-const| minimize |Int|)(declare-const minimize Int)" "(error \"E13 unknown symbol: x\")\nsuccess\n(error \"E12 name already declared: minimize\")\n" ∷ [])
    ≡ []
unfolding text_rest mark_rest quoted_rest lexeme comment_rest is_word_byte is_symbol_byte is_printable word_token ◌>>=◌ ◌>>◌ return refuse require required the_scope note found declare judge_body judged digits command effect symbol_text text
symbols = refl

-- values, and models as in the formats
values : wrong_replies
    (quiet_finds (a_model (number 0 (negsuc 4) ∷ []) ∷ []) "(declare-const x Int)(assert (= x (- 5)))(check-sat)(get-value (x (- x) (+ x  5) (< x 0)))(get-model)" "sat\n((x (- 5)) ((- x) 5) ((+ x 5) 0) ((< x 0) true))\n((define-fun x () Int (- 5)))\n"
    ∷ quiet_finds (a_model [] ∷ []) "(check-sat)(get-model)(get-value ((let ((x 1)) (+ x 1)) (ite false 0 1)))" "sat\n()\n(((let ((x 1)) (+ x 1)) 2) ((ite false 0 1) 1))\n"
    ∷ quiet_finds (a_model (one_row ∷ []) ∷ []) "(declare-fun f (Int) Int)(assert (= (f 1) 5))(check-sat)(get-model)(get-value ((f 1) (f 2)))" "sat\n((define-fun f ((x!0 Int)) Int (ite (= x!0 1) 5 0)))\n(((f 1) 5) ((f 2) 0))\n"
    ∷ quiet_finds (a_model (two_arguments ∷ []) ∷ []) "(declare-fun g (Int Bool) Int)(assert (= (g (- 1) true) 2))(check-sat)(get-model)" "sat\n((define-fun g ((x!0 Int) (x!1 Bool)) Int (ite (and (= x!0 (- 1)) (= x!1 true)) 2 3)))\n"
    ∷ quiet_finds (a_model (two_rows ∷ truth 2 ∷ []) ∷ []) "(declare-fun |f g| (Int) Bool)(define-sort T () Bool)(declare-const p T)(define-fun d () Int 1)(check-sat)(get-model)" "sat\n((define-fun |f g| ((x!0 Int)) Bool (ite (= x!0 0) true (ite (= x!0 (- 7)) true false))) (define-fun p () Bool true))\n"
    ∷ quiet_finds (a_model (element 1 0 ∷ element 2 12 ∷ on_elements ∷ []) ∷ []) "(declare-sort |a b| 0)(declare-const c |a b|)(declare-const d |a b|)(declare-fun h (|a b|) |a b|)(check-sat)(get-value (c d))(get-model)" "sat\n((c (as |@a b!0| |a b|)) (d (as |@a b!12| |a b|)))\n((define-fun c () |a b| (as |@a b!0| |a b|)) (define-fun d () |a b| (as |@a b!12| |a b|)) (define-fun h ((x!0 |a b|)) |a b| (ite (= x!0 (as |@a b!0| |a b|)) (as |@a b!12| |a b|) (as |@a b!0| |a b|))))\n"
    ∷ quiet_finds (a_model (element 1 0 ∷ element 2 1 ∷ element 3 2 ∷ []) ∷ []) "(declare-sort S 0)(declare-const a S)(declare-const b S)(declare-const c S)(assert (distinct a b c))(check-sat)(get-value (a b c))" "sat\n((a (as @S!0 S)) (b (as @S!1 S)) (c (as @S!2 S)))\n"
    ∷ quiet_finds (a_model (number 0 (pos 170141183460469231731687303715884105727) ∷ []) ∷ []) "(declare-const x Int)(assert (= x 170141183460469231731687303715884105728))(assert (= x 170141183460469231731687303715884105727))(check-sat)(get-value (x))(get-value ((+ x 1)))" "(error \"E5 numeral past 128 bits\")\nsat\n((x 170141183460469231731687303715884105727))\n(error \"E22 value past 128 bits\")\n" ∷ [])
    ≡ []
unfolding text_rest mark_rest quoted_rest lexeme comment_rest is_word_byte is_symbol_byte is_printable word_token ◌>>=◌ ◌>>◌ return refuse require required the_scope note found declare judge_body judged digits command effect symbol_text text
values = refl

assertions : wrong_replies
    (quiet "(set-option :produce-assertions true)(get-assertions)(assert true)(push)(assert  (! (=>   false false)  :named  |a b| :k (1 #x0A 1.50 \"x\"\"y\" |let| let)))(get-assertions)(pop)(get-assertions)" "()\n(true (! (=> false false) :named |a b| :k (1 #x0A 1.50 \"x\"\"y\" |let| let)))\n(true)\n" ∷ [])
    ≡ []
unfolding text_rest mark_rest quoted_rest lexeme comment_rest is_word_byte is_symbol_byte is_printable word_token ◌>>=◌ ◌>>◌ return refuse require required the_scope note found declare judge_body judged digits command effect symbol_text text
assertions = refl
