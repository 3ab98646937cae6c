-- A hash of a node's head and arguments, and of values. No public contract speaks of it.
use Rattle.std.specs.Prelude.{ℕ, ℤ, pos, ◌*◌, ◌/◌, ◌%◌, ◌^◌, Bool, List, [], ◌∷◌, bit_xor, int_lt, unsigned_abs, if◌then◌else◌}
use Rattle.smt_meaning.specs.declared.terms.Head.{Head}
use Rattle.smt_meaning.specs.declared.terms.Head.TheVariants.{Numeral, Theory, Symbol, Place}
use Rattle.smt_meaning.specs.declared.values.Value.{Value}
use Rattle.smt_meaning.specs.declared.values.Value.TheVariants.{Truth, Whole, Element}
use Rattle.smt_meaning.specs.TreeShape.{operator_number}

-- the state after one more word
unfoldable pub mixed : ℕ → ℕ → ℕ
mixed state word = (bit_xor state word * 0x9e37_79b9_7f4a_7c15) % 2 ^ 64

abbrev pub head_state : Head → ℕ
head_state (Numeral n) = mixed (mixed 1 (unsigned_abs n % 2 ^ 64)) (unsigned_abs n / 2 ^ 64)
head_state (Theory o) = mixed 2 (operator_number o)
head_state (Symbol f) = mixed 3 f
head_state (Place k) = mixed 4 k

abbrev pub truth_word : Bool → ℕ
truth_word p = if p then 1 else 0

abbrev pub number_state : ℕ → ℤ → ℕ
number_state state n = mixed (mixed (mixed state (truth_word (int_lt n (pos 0)))) (unsigned_abs n % 2 ^ 64)) (unsigned_abs n / 2 ^ 64)

-- the state after one more value
abbrev pub value_state : ℕ → Value → ℕ
value_state state (Truth p) = mixed state (truth_word p)
value_state state (Whole n) = number_state state n
value_state state (Element e) = mixed state e

abbrev pub words_state : ℕ → List ℕ → ℕ
words_state state [] = state
words_state state (w ∷ ws) = words_state (mixed state w) ws

-- the upper half of the last state
unfoldable pub node_hash : Head → List ℕ → ℕ
node_hash h is = words_state (head_state h) is / 2 ^ 32
