-- Scripts whose assertions are propositional, and scripts whose assertions aren't.
use Prim.Native.String.{String}
use Rattle.std.proofs.Common.{◌≡◌, Bool, true, false, [], ◌∷◌, map, refl}
use Rattle.std.specs.Prelude.{codes}
use Rattle.smt_meaning.specs.Reading.{text_rest, mark_rest, quoted_rest, lexeme, comment_rest, is_word_byte, is_symbol_byte, is_printable, word_token}
use Rattle.smt_meaning.specs.Sorts.{◌>>=◌, ◌>>◌, return, refuse, require, required, the_scope, note, found, declare}
use Rattle.smt_meaning.specs.StackCommand.{judge_body, judged}
use Rattle.std.specs.Fmt.{digits}
use Rattle.smt_meaning.specs.Command.{command}
use Rattle.smt_meaning.specs.State.{start, effect}
use Rattle.smt_meaning.specs.Text.{symbol_text, text}
use Rattle.smt_meaning.specs.Kinds.{is_propositional}
use Rattle.smt_laws.proofs.Script.{script, runs, settings}

-- the stack that the script leaves
abbrev leaves_propositional : String → Bool
leaves_propositional asked = is_propositional (runs (record { state = start settings; found = []; written = [] }) (script (codes asked))).state.stack.frames

propositional : map leaves_propositional
    (""
    ∷ "(declare-const x Int)(declare-fun f (Int) Bool)"
    ∷ "(declare-const p Bool)(declare-fun q () Bool)(push)(assert (=> p (not q) (and true p)))(assert (xor p q))(assert (distinct p q))(assert (or (= p q p) (ite p q false)))"
    ∷ "(declare-const p Bool)(define-fun both ((a Bool) (b Bool)) Bool (and a b))(assert (let ((q p)) (both q p)))"
    ∷ "(declare-const p Bool)(assert (! p :named n))(assert (not n))" ∷ [])
    ≡ true ∷ true ∷ true ∷ true ∷ true ∷ []
unfolding text_rest mark_rest quoted_rest lexeme comment_rest is_word_byte is_symbol_byte is_printable word_token ◌>>=◌ ◌>>◌ return refuse require required the_scope note found declare judge_body judged digits command effect symbol_text text
propositional = refl

others : map leaves_propositional
    ("(declare-const x Int)(assert (= x x))"
    ∷ "(assert (< 0 1))"
    ∷ "(declare-fun f (Bool) Bool)(assert (f true))"
    ∷ "(declare-sort S 0)(declare-const a S)(declare-const p Bool)(assert p)(push)(assert (or p (distinct a a)))"
    ∷ "(declare-const x Int)(declare-const p Bool)(assert (= (ite p x 1) 2))"
    ∷ "(assert (= (div 4 2) (mod 4 3) (abs 1)))"
    ∷ "(assert ((_ divisible 2) 4))" ∷ [])
    ≡ false ∷ false ∷ false ∷ false ∷ false ∷ false ∷ false ∷ []
unfolding text_rest mark_rest quoted_rest lexeme comment_rest is_word_byte is_symbol_byte is_printable word_token ◌>>=◌ ◌>>◌ return refuse require required the_scope note found declare judge_body judged digits command effect symbol_text text
others = refl
