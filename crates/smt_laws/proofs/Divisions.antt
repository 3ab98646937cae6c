-- `div`, `mod`, `abs` and divisibility by a numeral: what they are, what is refused and in which order.
use Prim.Native.String.{String}
use Rattle.std.proofs.Common.{◌≡◌, ℕ, ℤ, pos, negsuc, Bool, true, false, ◌&&◌, List, [], ◌∷◌, map, length, refl}
use Rattle.std.specs.Prelude.{codes}
use Rattle.smt_meaning.specs.declared.values.Table.{Table}
use Rattle.smt_meaning.specs.declared.values.Value.TheVariants.{Whole}
use Rattle.smt_meaning.specs.Term.{Tree, value, truth_of, fits}
use Rattle.smt_meaning.specs.Interpretation.{meaning}
use Rattle.smt_meaning.specs.Stack.{assertions_of}
use Rattle.smt_meaning.specs.Reading.{text_rest, mark_rest, quoted_rest, lexeme, comment_rest, is_word_byte, is_symbol_byte, is_printable, word_token}
use Rattle.smt_meaning.specs.Sorts.{◌>>=◌, ◌>>◌, return, refuse, require, required, the_scope, note, found, declare}
use Rattle.smt_meaning.specs.StackCommand.{judge_body, judged}
use Rattle.std.specs.Fmt.{digits}
use Rattle.smt_meaning.specs.Command.{command}
use Rattle.smt_meaning.specs.State.{start, effect}
use Rattle.smt_meaning.specs.Text.{symbol_text, text}
use Rattle.smt_laws.proofs.Script.{script, runs, settings, wrong_replies, quiet, quiet_finds, a_model}

abbrev constant : ℕ → ℤ → Table
constant f n = record { symbol = f; rows = []; default = Whole n }

-- a negative dividend, divisors of both signs, and one divisor after another
values : wrong_replies
    (quiet_finds (a_model (constant 0 (negsuc 6) ∷ []) ∷ []) "(declare-const x Int)(assert (= x (- 7)))(check-sat)(get-value ((div x 2) (mod x 2) (div x (- 2)) (mod x (- 2)) (abs x) ((_ divisible 7) x) (div 100 7 2)))" "sat\n(((div x 2) (- 4)) ((mod x 2) 1) ((div x (- 2)) 4) ((mod x (- 2)) 1) ((abs x) 7) (((_ divisible 7) x) true) ((div 100 7 2) 7))\n"
    ∷ quiet_finds (a_model [] ∷ []) "(check-sat)(get-value ((div 7 2) (mod 7 2) (div 7 (- 2)) (mod 7 (- 2)) (div 0 5) (mod 0 (- 5)) (div (- 1) 5) (mod (- 1) 5) ((_ divisible 5) 0) ((_ divisible 5) (- 5)) ((_ divisible 5) 4) ((_ |divisible| 1) 4)))" "sat\n(((div 7 2) 3) ((mod 7 2) 1) ((div 7 (- 2)) (- 3)) ((mod 7 (- 2)) 1) ((div 0 5) 0) ((mod 0 (- 5)) 0) ((div (- 1) 5) (- 1)) ((mod (- 1) 5) 4) (((_ divisible 5) 0) true) (((_ divisible 5) (- 5)) true) (((_ divisible 5) 4) false) (((_ divisible 1) 4) true))\n"
    ∷ quiet_finds (a_model [] ∷ []) "(check-sat)(get-value ((div (- 170141183460469231731687303715884105727) (- 1)) (div (- 170141183460469231731687303715884105727) 170141183460469231731687303715884105727) (mod (- 1) 170141183460469231731687303715884105727) (abs (- 170141183460469231731687303715884105727)) ((_ divisible 170141183460469231731687303715884105727) 170141183460469231731687303715884105727)))(get-value ((div (+ 170141183460469231731687303715884105727 1) 2)))" "sat\n(((div (- 170141183460469231731687303715884105727) (- 1)) 170141183460469231731687303715884105727) ((div (- 170141183460469231731687303715884105727) 170141183460469231731687303715884105727) (- 1)) ((mod (- 1) 170141183460469231731687303715884105727) 170141183460469231731687303715884105726) ((abs (- 170141183460469231731687303715884105727)) 170141183460469231731687303715884105727) (((_ divisible 170141183460469231731687303715884105727) 170141183460469231731687303715884105727) true))\n(error \"E22 value past 128 bits\")\n"
    ∷ quiet_finds (a_model (constant 0 (pos 7) ∷ []) ∷ []) "(declare-const x Int)(define-fun half ((y Int)) Int (div y 2))(define-fun by ((a Int) (n Int)) Int (mod a n))(define-fun even ((y Int)) Bool ((_ divisible 2) y))(check-sat)(get-value ((even x) (even (+ x 1)) (half x) (by x 4) (by x (- 4)) (let ((n 3)) (div x n)) (let ((divisible 2)) ((_ divisible 7) x)) (div x 2 (- 2))))" "sat\n(((even x) false) ((even (+ x 1)) true) ((half x) 3) ((by x 4) 3) ((by x (- 4)) 3) ((let ((n 3)) (div x n)) 2) ((let ((divisible 2)) ((_ divisible 7) x)) true) ((div x 2 (- 2)) (- 1)))\n" ∷ [])
    ≡ []
unfolding text_rest mark_rest quoted_rest lexeme comment_rest is_word_byte is_symbol_byte is_printable word_token ◌>>=◌ ◌>>◌ return refuse require required the_scope note found declare judge_body judged digits command effect symbol_text text
values = refl

-- the first refusal of each term: the head, the arguments, their number, their sorts, and then the divisors
refusals : wrong_replies
    (quiet "(declare-const x Int)(assert (= x (div x 0)))(assert (= x (mod x 2 3)))(assert ((_ divisible 0) x))" "(error \"E16 not linear\")\n(error \"E14 number of arguments: mod\")\n(error \"E8 wrong arguments: assert\")\n"
    ∷ quiet "(declare-const x Int)(assert (= x (div x)))(assert (= x (div)))(assert div)(assert (= x (mod x)))(assert (= x (abs x x)))(assert (= x (abs)))(assert ((_ divisible 3)))(assert ((_ divisible 3) x x))" "(error \"E14 number of arguments: div\")\n(error \"E14 number of arguments: div\")\n(error \"E14 number of arguments: div\")\n(error \"E14 number of arguments: mod\")\n(error \"E14 number of arguments: abs\")\n(error \"E14 number of arguments: abs\")\n(error \"E14 number of arguments: divisible\")\n(error \"E14 number of arguments: divisible\")\n"
    ∷ quiet "(declare-const x Int)(assert (div true 0))(assert (mod x true))(assert (abs true))(assert ((_ divisible 3) true))(assert (div x y))(assert ((_ divisible 3) y))(assert ((_ divisible 3) true y))(assert (div x 1))(assert (mod x 0 0))" "(error \"E15 sorts differ: div\")\n(error \"E15 sorts differ: mod\")\n(error \"E15 sorts differ: abs\")\n(error \"E15 sorts differ: divisible\")\n(error \"E13 unknown symbol: y\")\n(error \"E13 unknown symbol: y\")\n(error \"E13 unknown symbol: y\")\n(error \"E17 not Bool\")\n(error \"E14 number of arguments: mod\")\n"
    ∷ quiet "(declare-const x Int)(assert ((_ divisible 0) y))(assert ((_ divisible 170141183460469231731687303715884105728) y))(assert ((_ divisible) x))(assert ((_ divisible 3 3) x))(assert ((_ divisible x) x))(assert ((_ divisible (3)) x))(assert ((_ divides 3) x))(assert ((as divisible Int) x))(assert ((divisible 3) x))(assert (() x))(assert (_ divisible 3))(assert ((_ divisible #x3) x))" "(error \"E8 wrong arguments: assert\")\n(error \"E5 numeral past 128 bits\")\n(error \"E8 wrong arguments: assert\")\n(error \"E8 wrong arguments: assert\")\n(error \"E8 wrong arguments: assert\")\n(error \"E8 wrong arguments: assert\")\n(error \"E8 wrong arguments: assert\")\n(error \"E8 wrong arguments: assert\")\n(error \"E8 wrong arguments: assert\")\n(error \"E8 wrong arguments: assert\")\n(error \"E13 unknown symbol: _\")\n(error \"E8 wrong arguments: assert\")\n"
    ∷ quiet "(declare-const x Int)(assert (= 0 (div x x)))(assert (= 0 (div x (- 0))))(assert (= 0 (div x (- (- 2)))))(assert (= 0 (div x (+ 1 1))))(assert (= 0 (div x (- 3 1))))(assert (= 0 (div x (div 4 2))))(assert (= 0 (div x 2 0)))(assert (= 0 (mod x (ite true 2 3))))" "(error \"E16 not linear\")\n(error \"E16 not linear\")\n(error \"E16 not linear\")\n(error \"E16 not linear\")\n(error \"E16 not linear\")\n(error \"E16 not linear\")\n(error \"E16 not linear\")\n(error \"E16 not linear\")\n"
    ∷ quiet "(declare-const x Int)(define-fun by ((n Int)) Int (div 7 n))(define-fun none ((y Int)) Int (mod y 0))(assert (= (by 2) 3))(assert (= (by (- 2)) 3))(assert (= (by 0) 3))(assert (= (by x) 3))(assert (= (none 1) 3))(define-fun two () Int 2)(assert (= (div x two) 1))(assert (= (by two) 3))" "(error \"E16 not linear\")\n(error \"E16 not linear\")\n(error \"E16 not linear\")\n"
    ∷ quiet "(declare-const x Int)(assert (= 0 (* x (div 4 2))))(assert (= 0 (* 2 (div x 2))))(assert (= 0 (* (mod x 2) (abs 3))))(assert (let ((div 1)) (= (div 1 2) 0)))(declare-fun abs (Int) Int)(declare-const mod Int)(declare-const divisible Int)(assert ((_ divisible 2) divisible))" "(error \"E16 not linear\")\n(error \"E16 not linear\")\n(error \"E14 number of arguments: div\")\n(error \"E24 reserved name: abs\")\n(error \"E24 reserved name: mod\")\n"
    ∷ quiet_finds (a_model [] ∷ []) "(check-sat)(get-value (((_ divisible 0) 1)))(get-value ((div 1 0)))(get-value ((mod 1 2) (abs true)))(get-value ((mod 1 2) ((_ divisible 2) true)))(define-fun f () Bool ((_ divisible 0) 1))(define-fun by ((n Int)) Bool ((_ divisible n) 4))" "sat\n(error \"E8 wrong arguments: get-value\")\n(error \"E16 not linear\")\n(error \"E15 sorts differ: abs\")\n(error \"E15 sorts differ: divisible\")\n(error \"E8 wrong arguments: define-fun\")\n(error \"E8 wrong arguments: define-fun\")\n"
    ∷ quiet "(declare-const x Int)(assert ((_ divisible 0) (div x 0)))(assert ((_ divisible 3) (div x 0)))(assert ((_ divisible 3) x (div x 0)))(assert ((_ divisible 3) true (div x 2)))(assert (let ((n 2)) ((_ divisible n) x)))(assert ((! (_ divisible 2) :named e) x))(assert ((_ divisible 2) (* x x)))" "(error \"E8 wrong arguments: assert\")\n(error \"E16 not linear\")\n(error \"E16 not linear\")\n(error \"E14 number of arguments: divisible\")\n(error \"E8 wrong arguments: assert\")\n(error \"E8 wrong arguments: assert\")\n(error \"E16 not linear\")\n"
    ∷ [])
    ≡ []
unfolding text_rest mark_rest quoted_rest lexeme comment_rest is_word_byte is_symbol_byte is_printable word_token ◌>>=◌ ◌>>◌ return refuse require required the_scope note found declare judge_body judged digits command effect symbol_text text
refusals = refl

-- no variable stands in a head that divides, whatever its name; in its argument one does
free : wrong_replies
    (quiet "(assert (let ((divisible 3)) (! ((_ divisible 2) 4) :named even)))(assert even)" ""
    ∷ quiet "(assert (let ((divisible 3)) (! ((_ divisible 2) divisible) :named even)))(assert even)" "(error \"E8 wrong arguments: assert\")\n(error \"E13 unknown symbol: even\")\n"
    ∷ quiet "(assert (let ((y 3)) (! ((_ divisible 2) y) :named odd)))(assert (let ((y 3)) (! (let ((y 4)) ((_ divisible 2) y)) :named even)))(assert even)" "(error \"E8 wrong arguments: assert\")\n" ∷ [])
    ≡ []
unfolding text_rest mark_rest quoted_rest lexeme comment_rest is_word_byte is_symbol_byte is_printable word_token ◌>>=◌ ◌>>◌ return refuse require required the_scope note found declare judge_body judged digits command effect symbol_text text
free = refl

-- ---- what is counted

abbrev counted : String → ℕ
counted asked = length (runs (record { state = start settings; found = []; written = [] }) (script (codes asked))).state.stack.trees

-- a `mod` and a divisibility count their quotient, and a `div` by several divisors one for each; what was judged before counts once, and a `div` by two
-- divisors is the `div` of a `div`
counts : map counted
    ("(declare-const x Int)"
    ∷ "(declare-const x Int)(assert (= (div x 2) 1))"
    ∷ "(declare-const x Int)(assert (= (mod x 2) 1))"
    ∷ "(declare-const x Int)(assert ((_ divisible 2) x))"
    ∷ "(declare-const x Int)(assert (= (div x 7 2) 1))"
    ∷ "(declare-const x Int)(assert (= (abs x) 1))"
    ∷ "(declare-const x Int)(assert (= (mod x 2) (div x 2)))"
    ∷ "(declare-const x Int)(assert (= (mod x 2) 1))(assert (= (mod x 2) 0))"
    ∷ "(declare-const x Int)(assert (= (mod x 2) 1))(assert ((_ divisible 2) x))"
    ∷ "(declare-const x Int)(assert ((_ divisible 2) x))(assert ((_ divisible 2) x))(assert (= (div x 2) 2))"
    ∷ "(declare-const x Int)(assert ((_ divisible 0) x))"
    ∷ "(declare-const x Int)(define-fun even ((y Int)) Bool ((_ divisible 2) y))"
    ∷ "(declare-const x Int)(define-fun even ((y Int)) Bool ((_ divisible 2) y))(assert (even x))"
    ∷ "(declare-const x Int)(assert (= (mod x 0) 1))"
    ∷ "(declare-const x Int)(assert (= (div x 7 2) (div (div x 7) 2)))"
    ∷ "(declare-const x Int)(define-fun odd ((y Int)) Bool (= (mod y 2) 1))"
    ∷ "(declare-const x Int)(define-fun odd ((y Int)) Bool (= (mod y 2) 1))(assert (odd x))" ∷ [])
    ≡ 0 ∷ 5 ∷ 6 ∷ 4 ∷ 7 ∷ 4 ∷ 5 ∷ 8 ∷ 7 ∷ 5 ∷ 0 ∷ 0 ∷ 4 ∷ 0 ∷ 6 ∷ 0 ∷ 6 ∷ []
unfolding text_rest mark_rest quoted_rest lexeme comment_rest is_word_byte is_symbol_byte is_printable word_token ◌>>=◌ ◌>>◌ return refuse require required the_scope note found declare judge_body judged digits command effect symbol_text text
counts = refl

-- ---- from 0 to 10 there is one number that leaves 2 by 3 and that 5 divides

abbrev asserted_by : String → List Tree
asserted_by asked = assertions_of (runs (record { state = start settings; found = []; written = [] }) (script (codes asked))).state.stack.frames

abbrev all_true : List Table → List Tree → Bool
all_true i [] = true
all_true i (t ∷ ts) = truth_of (value (meaning i) t) && (fits (meaning i) t && all_true i ts)

abbrev one_between : List Tree
one_between = asserted_by "(declare-const x Int)(assert (and (<= 0 x 10) (= (mod x 3) 2) ((_ divisible 5) x)))"

abbrev one_by_remainders : List Tree
one_by_remainders = asserted_by "(declare-const x Int)(assert (and (<= 0 x 10) (= (mod x 3) 2) (= (mod x 5) 0)))"

models : map (λ n. all_true (constant 0 n ∷ []) one_between) (negsuc 9 ∷ negsuc 0 ∷ pos 0 ∷ pos 1 ∷ pos 2 ∷ pos 3 ∷ pos 4 ∷ pos 5 ∷ pos 6 ∷ pos 7 ∷ pos 8 ∷ pos 9 ∷ pos 10 ∷ pos 20 ∷ [])
    ≡ false ∷ false ∷ false ∷ false ∷ false ∷ false ∷ false ∷ true ∷ false ∷ false ∷ false ∷ false ∷ false ∷ false ∷ []
unfolding text_rest mark_rest quoted_rest lexeme comment_rest is_word_byte is_symbol_byte is_printable word_token ◌>>=◌ ◌>>◌ return refuse require required the_scope note found declare judge_body judged digits command effect symbol_text text
models = refl

models_by_remainders : map (λ n. all_true (constant 0 n ∷ []) one_by_remainders) (negsuc 9 ∷ negsuc 0 ∷ pos 0 ∷ pos 1 ∷ pos 2 ∷ pos 3 ∷ pos 4 ∷ pos 5 ∷ pos 6 ∷ pos 7 ∷ pos 8 ∷ pos 9 ∷ pos 10 ∷ pos 20 ∷ [])
    ≡ false ∷ false ∷ false ∷ false ∷ false ∷ false ∷ false ∷ true ∷ false ∷ false ∷ false ∷ false ∷ false ∷ false ∷ []
unfolding text_rest mark_rest quoted_rest lexeme comment_rest is_word_byte is_symbol_byte is_printable word_token ◌>>=◌ ◌>>◌ return refuse require required the_scope note found declare judge_body judged digits command effect symbol_text text
models_by_remainders = refl

-- and it is what a model then says
found_one : wrong_replies
    (quiet_finds (a_model (constant 0 (pos 5) ∷ []) ∷ []) "(declare-const x Int)(assert (and (<= 0 x 10) (= (mod x 3) 2) ((_ divisible 5) x)))(check-sat)(get-value (x))" "sat\n((x 5))\n" ∷ [])
    ≡ []
unfolding text_rest mark_rest quoted_rest lexeme comment_rest is_word_byte is_symbol_byte is_printable word_token ◌>>=◌ ◌>>◌ return refuse require required the_scope note found declare judge_body judged digits command effect symbol_text text
found_one = refl
