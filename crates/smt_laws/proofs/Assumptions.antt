-- Checks under assumptions, declarations that stay, and assignments.
use Prim.Native.String.{String}
use Rattle.std.proofs.Common.{◌≡◌, ℕ, true, false, List, [], ◌∷◌, map, length, refl}
use Rattle.std.specs.Prelude.{ℤ, pos, codes}
use Rattle.smt_meaning.specs.declared.values.Table.{Table}
use Rattle.smt_meaning.specs.declared.values.Value.TheVariants.{Truth, Whole}
use Rattle.smt_meaning.specs.declared.reports.Cause.TheVariants.{Memory}
use Rattle.smt_meaning.specs.declared.reports.Report.{Report}
use Rattle.smt_meaning.specs.Stack.{Frame, signature_of, assertions_of}
use Rattle.smt_meaning.specs.Reading.{text_rest, mark_rest, quoted_rest, lexeme, comment_rest, is_word_byte, is_symbol_byte, is_printable, word_token}
use Rattle.smt_meaning.specs.Sorts.{◌>>=◌, ◌>>◌, return, refuse, require, required, the_scope, note, found, declare}
use Rattle.smt_meaning.specs.StackCommand.{judge_body, judged}
use Rattle.std.specs.Fmt.{digits}
use Rattle.smt_meaning.specs.Command.{command}
use Rattle.smt_meaning.specs.State.{State, checked_frames, start, effect}
use Rattle.smt_meaning.specs.Text.{symbol_text, text}
use Rattle.smt_laws.proofs.Script.{Found, script, runs, settings, wrong_replies, says_so, finds, quiet, quiet_finds, a_model, no_model, no_answer}

abbrev is_so : ℕ → Table
is_so f = record { symbol = f; rows = []; default = Truth true }

abbrev is_not : ℕ → Table
is_not f = record { symbol = f; rows = []; default = Truth false }

abbrev is_number : ℕ → ℤ → Table
is_number f n = record { symbol = f; rows = []; default = Whole n }

abbrev without_memory : Report
without_memory = record { worker = 0; cause = Memory; branches = [] }

-- terms of sort Bool, none of which is left after the check
assumptions : wrong_replies
    (quiet_finds (no_model ∷ a_model (is_not 0 ∷ is_so 1 ∷ []) ∷ a_model (is_so 0 ∷ is_not 1 ∷ []) ∷ []) "(declare-const p Bool)(declare-const q Bool)(assert (or p q))(check-sat-assuming ((not p) (not q)))(check-sat-assuming ((not p)))(get-value (p q))(check-sat)(get-value (p q))" "unsat\nsat\n((p false) (q true))\nsat\n((p true) (q false))\n"
    ∷ quiet_finds (a_model [] ∷ no_model ∷ []) "(set-option :produce-assertions true)(assert true)(check-sat-assuming ())(check-sat-assuming ((= 1 2) false))(get-assertions)(get-info :assertion-stack-levels)(push 2)(get-info :assertion-stack-levels)" "sat\nunsat\n(true)\n(:assertion-stack-levels 0)\n(:assertion-stack-levels 2)\n"
    ∷ quiet_finds (a_model (is_so 0 ∷ []) ∷ []) "(declare-const p Bool)(check-sat-assuming (p))(get-model)(check-sat-assuming (1))(get-model)(assert true)(get-model)" "sat\n((define-fun p () Bool true))\n(error \"E17 not Bool\")\n((define-fun p () Bool true))\n(error \"E20 no model\")\n"
    ∷ quiet_finds (no_answer (without_memory ∷ []) ∷ []) "(declare-const p Bool)(check-sat-assuming (p))(get-info :reason-unknown)(get-model)" "unknown\n(:reason-unknown memout)\n(error \"E20 no model\")\n"
    ∷ finds (no_model ∷ []) "(check-sat-assuming (false))(set-logic QF_UF)(set-option :produce-models true)" "unsat\n(error \"E10 logic already set\")\n(error \"E11 option too late: :produce-models\")\n" ∷ [])
    ≡ []
unfolding text_rest mark_rest quoted_rest lexeme comment_rest is_word_byte is_symbol_byte is_printable word_token ◌>>=◌ ◌>>◌ return refuse require required the_scope note found declare judge_body judged digits command effect symbol_text text
assumptions = refl

-- the form; then the terms, that each is Bool, and the levels
assumption_refusals : wrong_replies
    (quiet "(check-sat-assuming)(check-sat-assuming true)(check-sat-assuming (true) (true))(check-sat-assuming :k)" "(error \"E8 wrong arguments: check-sat-assuming\")\n(error \"E8 wrong arguments: check-sat-assuming\")\n(error \"E8 wrong arguments: check-sat-assuming\")\n(error \"E8 wrong arguments: check-sat-assuming\")\n"
    ∷ quiet "(declare-const p Bool)(check-sat-assuming (1 y))(check-sat-assuming (p 1))(check-sat-assuming (1 (not p p)))(check-sat-assuming (p (! p :named n)))(assert n)(check-sat-assuming (= p p))" "(error \"E13 unknown symbol: y\")\n(error \"E17 not Bool\")\n(error \"E14 number of arguments: not\")\n(error \"E8 wrong arguments: check-sat-assuming\")\n(error \"E13 unknown symbol: n\")\n(error \"E14 number of arguments: =\")\n"
    ∷ quiet "(push 65535)(check-sat-assuming (true))(check-sat-assuming (1))(check-sat-assuming (y))(pop 1)(push 2)" "(error \"E19 too many levels\")\n(error \"E17 not Bool\")\n(error \"E13 unknown symbol: y\")\n(error \"E19 too many levels\")\n" ∷ [])
    ≡ []
unfolding text_rest mark_rest quoted_rest lexeme comment_rest is_word_byte is_symbol_byte is_printable word_token ◌>>=◌ ◌>>◌ return refuse require required the_scope note found declare judge_body judged digits command effect symbol_text text
assumption_refusals = refl

-- declarations and definitions of level 0 outlive `pop` and `reset-assertions`, names go with their assertions
declarations_stay : wrong_replies
    (quiet_finds (a_model (is_so 0 ∷ []) ∷ a_model (is_not 0 ∷ []) ∷ []) "(set-option :global-declarations true)(push 1)(declare-const p Bool)(assert (not p))(pop 1)(assert p)(check-sat)(reset-assertions)(assert (not p))(check-sat)" "sat\nsat\n"
    ∷ quiet_finds (a_model [] ∷ a_model [] ∷ []) "(push 1)(declare-const p Bool)(assert (not p))(pop 1)(assert p)(check-sat)(reset-assertions)(assert (not p))(check-sat)" "(error \"E13 unknown symbol: p\")\nsat\n(error \"E13 unknown symbol: p\")\nsat\n"
    ∷ quiet "(set-option :global-declarations true)(push)(declare-sort S 0)(define-sort T () S)(declare-fun f (S) T)(define-fun d ((x T)) T (f x))(pop)(declare-const x T)(assert (= (d x) (f x)))(declare-const d Int)(declare-sort T 0)" "(error \"E12 name already declared: d\")\n(error \"E12 name already declared: T\")\n"
    ∷ says_so "(set-option :print-success false)(set-option :global-declarations true)(push)(declare-const p Bool)(assert (! p :named n))(define-fun d () Bool (not n))(pop)(assert n)(assert d)(assert (! p :named n))(reset-assertions)(assert n)(assert (! (not d) :named n))(reset)(assert p)" "(error \"E13 unknown symbol: n\")\n(error \"E13 unknown symbol: n\")\nsuccess\n(error \"E13 unknown symbol: p\")\n"
    ∷ quiet "(set-option :global-declarations true)(push)(declare-const x Nope)(define-fun f () Int true)(declare-const y Int)(assert (! y :named n))(pop)(assert x)(assert f)(assert n)(assert (= y 1))" "(error \"E13 unknown symbol: Nope\")\n(error \"E15 sorts differ: f\")\n(error \"E17 not Bool\")\n(error \"E13 unknown symbol: x\")\n(error \"E13 unknown symbol: f\")\n(error \"E13 unknown symbol: n\")\n"
    ∷ says_so "(get-option :global-declarations)(set-option :global-declarations 1)(set-option :global-declarations true)(get-option :global-declarations)(set-option :global-declarations false)(set-option :global-declarations true)(push)(set-option :global-declarations false)(get-option :global-declarations)(reset)(get-option :global-declarations)" "false\n(error \"E8 wrong arguments: set-option\")\nsuccess\ntrue\nsuccess\nsuccess\nsuccess\n(error \"E11 option too late: :global-declarations\")\ntrue\nsuccess\nfalse\n" ∷ [])
    ≡ []
unfolding text_rest mark_rest quoted_rest lexeme comment_rest is_word_byte is_symbol_byte is_printable word_token ◌>>=◌ ◌>>◌ return refuse require required the_scope note found declare judge_body judged digits command effect symbol_text text
declarations_stay = refl

-- the names of Bool terms in the order in which they were given
assignments : wrong_replies
    (quiet_finds (a_model (is_so 0 ∷ []) ∷ []) "(set-option :produce-assignments true)(declare-const p Bool)(assert (! p :named a))(assert (! (not (! (not p) :named b)) :named c))(check-sat)(get-assignment)" "sat\n((a true) (b false) (c true))\n"
    ∷ quiet_finds (a_model [] ∷ a_model [] ∷ []) "(set-option :produce-assignments true)(assert (= (! 1 :named one) 1))(check-sat)(get-assignment)(define-fun yes () Bool true)(assert (! yes :named |a b|))(check-sat-assuming (true))(get-assignment)" "sat\n()\nsat\n((|a b| true))\n"
    ∷ quiet_finds (a_model (is_so 0 ∷ []) ∷ []) "(set-option :produce-assignments true)(set-option :global-declarations true)(push)(declare-const p Bool)(assert (! p :named a))(push)(assert (! true :named b))(pop)(declare-const q Bool)(assert (! (or p q) :named c))(check-sat)(get-assignment)" "sat\n((a true) (c true))\n"
    ∷ quiet_finds (a_model [] ∷ no_model ∷ []) "(get-assignment)(check-sat)(get-assignment)(check-sat)(get-assignment)(get-assignment 1)" "(error \"E20 no model\")\nsat\n(error \"E21 option is off: :produce-assignments\")\nunsat\n(error \"E20 no model\")\n(error \"E8 wrong arguments: get-assignment\")\n"
    ∷ quiet_finds (a_model (is_number 0 (pos 170141183460469231731687303715884105727) ∷ []) ∷ a_model (is_number 0 (pos 1) ∷ []) ∷ []) "(set-option :produce-assignments true)(declare-const x Int)(assert (let ((y (! (= (+ x x) 2) :named a))) true))(check-sat)(get-assignment)(check-sat)(get-assignment)(get-value ((+ x x)))" "sat\n(error \"E22 value past 128 bits\")\nsat\n((a true))\n(((+ x x) 2))\n"
    ∷ says_so "(get-option :produce-assignments)(set-option :produce-assignments x)(set-option :produce-assignments true)(get-option :produce-assignments)(set-logic ALL)(set-option :produce-assignments false)" "false\n(error \"E8 wrong arguments: set-option\")\nsuccess\ntrue\nsuccess\n(error \"E11 option too late: :produce-assignments\")\n" ∷ [])
    ≡ []
unfolding text_rest mark_rest quoted_rest lexeme comment_rest is_word_byte is_symbol_byte is_printable word_token ◌>>=◌ ◌>>◌ return refuse require required the_scope note found declare judge_body judged digits command effect symbol_text text
assignments = refl

-- ---- what a check leaves

abbrev state_after : List Found → String → State
state_after found asked = (runs (record { state = start settings; found = found; written = [] }) (script (codes asked))).state

-- how many levels the stack has, how many assertions and declarations, how many levels and assertions the last check had, and how many terms were judged
abbrev counted : State → List ℕ
counted s =
    length s.stack.frames ∷ length (assertions_of s.stack.frames) ∷ length (signature_of s.stack.frames) ∷ length (checked_frames s) ∷ length (assertions_of (checked_frames s))
    ∷ length s.stack.trees ∷ []

left_after : map counted
    (state_after (no_model ∷ []) "(declare-const p Bool)(declare-const q Bool)(assert (or p q))(check-sat)"
    ∷ state_after (no_model ∷ []) "(declare-const p Bool)(declare-const q Bool)(assert (or p q))(check-sat-assuming ((not p) (not q)))"
    ∷ state_after (no_model ∷ []) "(declare-const p Bool)(declare-const q Bool)(assert (or p q))(check-sat-assuming ())"
    ∷ state_after (no_model ∷ a_model [] ∷ []) "(declare-const p Bool)(declare-const q Bool)(assert (or p q))(check-sat-assuming ((not p) (not q)))(check-sat)"
    ∷ state_after (no_model ∷ []) "(declare-const p Bool)(declare-const q Bool)(assert (or p q))(check-sat-assuming ((not p) (not q)))(push)"
    ∷ state_after [] "(declare-const p Bool)(declare-const q Bool)(assert (or p q))(check-sat-assuming ((not p) 1))" ∷ [])
    ≡ (1 ∷ 1 ∷ 2 ∷ 1 ∷ 1 ∷ 3 ∷ []) ∷ (1 ∷ 1 ∷ 2 ∷ 2 ∷ 3 ∷ 5 ∷ []) ∷ (1 ∷ 1 ∷ 2 ∷ 2 ∷ 1 ∷ 3 ∷ []) ∷ (1 ∷ 1 ∷ 2 ∷ 1 ∷ 1 ∷ 5 ∷ [])
    ∷ (2 ∷ 1 ∷ 2 ∷ 2 ∷ 1 ∷ 5 ∷ []) ∷ (1 ∷ 1 ∷ 2 ∷ 1 ∷ 1 ∷ 3 ∷ []) ∷ []
unfolding text_rest mark_rest quoted_rest lexeme comment_rest is_word_byte is_symbol_byte is_printable word_token ◌>>=◌ ◌>>◌ return refuse require required the_scope note found declare judge_body judged digits command effect symbol_text text
left_after = refl

-- how many declarations each level has
abbrev declared_at : State → List ℕ
declared_at s = map (λ (f : Frame). length f.declared) s.stack.frames

levels_of_declarations : map declared_at
    (state_after [] "(push 2)(declare-const p Bool)(declare-const q Bool)(assert (! p :named n))"
    ∷ state_after [] "(set-option :global-declarations true)(push 2)(declare-const p Bool)(declare-const q Bool)(assert (! p :named n))"
    ∷ state_after [] "(set-option :global-declarations true)(declare-const p Bool)(declare-const q Bool)(assert (! p :named n))(push 2)(assert (! p :named m))(reset-assertions)"
    ∷ state_after [] "(declare-const p Bool)(declare-const q Bool)(push 2)(reset-assertions)" ∷ [])
    ≡ (0 ∷ 0 ∷ 3 ∷ []) ∷ (2 ∷ 0 ∷ 1 ∷ []) ∷ (2 ∷ []) ∷ (0 ∷ []) ∷ []
unfolding text_rest mark_rest quoted_rest lexeme comment_rest is_word_byte is_symbol_byte is_printable word_token ◌>>=◌ ◌>>◌ return refuse require required the_scope note found declare judge_body judged digits command effect symbol_text text
levels_of_declarations = refl
