-- The terms that a proof writes.
use Rattle.std.specs.Prelude.{◌≡◌, ℕ, pos, Bool, List, [], ◌∷◌, Option, Some, None}
use Rattle.std.specs.Borrow.{Bor}
use Rattle.smt_meaning.specs.declared.tokens.Word.{Word}
use Rattle.smt_meaning.specs.declared.tokens.Token.{Token}
use Rattle.smt_meaning.specs.declared.tokens.Token.TheVariants.{Reserved}
use Rattle.smt_meaning.specs.declared.terms.Head.{Head}
use Rattle.smt_meaning.specs.declared.terms.Head.TheVariants.{Numeral as Number}
use Rattle.smt_meaning.specs.declared.nodes.Node.{Node}
use Rattle.smt_meaning.specs.Sexp.{Sexp, Sexps, word, group, end, ◌▸◌}
use Rattle.smt_meaning.specs.Sorts.{decimal, head_number}
use Rattle.smt_meaning.specs.Command.{each}
use Rattle.smt_meaning.specs.Declaration.{Declaration}
use Rattle.proof_meaning.specs.Reading.{with, number, head_read, numeral_read, divisor_read, node_read}
use Rattle.look_ahead.specs.Ahead.{ahead}
use Rattle.proof_read.specs.declared.read_parts.Progress.{Progress}
use Rattle.proof_read.specs.Reads.{is_term_number, numbers_near}
use Rattle.proof_read.specs.ReadParts.{Passes, Takes, any, first_by}

abbrev pub node_near : Node → Bool
node_near n = numbers_near n.arguments

-- ---- what is left of a term's list, by what stands at its head

-- after a numeral
abbrev pub numeral_only : List ℕ → Sexps → Option Node
numeral_only cs end = numeral_read cs
numeral_only cs (x ▸ ss) = None

-- after a name
abbrev pub application : List Declaration → List ℕ → Sexps → Option Node
application ds n ss = with (head_read ds n) (λ k. with (each number ss) (λ is. Some (record { head = k; arguments = is })))

-- the head `(_ divisible n)`
abbrev pub divisor_of : Option ℕ → Option Head
divisor_of o = with (divisor_read o) (λ n. Some (Number (pos n)))

abbrev pub divisor_head : Sexp → Option Head
divisor_head (group hs) = divisor_of (head_number hs)
divisor_head (word t) = None

-- such a head and a place
abbrev pub divisibility : Sexps → Option Node
divisibility (h ▸ s ▸ end) = with (divisor_head h) (λ k. with (number s) (λ i. Some (record { head = k; arguments = i ∷ [] })))
divisibility _ = None

abbrev pub in_term : List Declaration → Sexps → Option Node
in_term ds ss = node_read ds (group ss)

-- ---- a reserved word

abbrev pub reserved : Sexp → Option Word
reserved (word (Reserved w)) = Some w
reserved _ = None

abbrev pub HasReserved : List Token → Progress → Progress → Option Word → Type 0
HasReserved ts old new None = first_by reserved (ahead ts old.place) ≡ None
HasReserved ts old new (Some w) = Passes ts old new (Reserved w)

-- the digits of the number of such a head
abbrev pub HasDivisor : List Token → Progress → Progress → Option (Bor (List ℕ)) → Type 0
HasDivisor ts old new None = head_number (ahead ts old.place) ≡ None
HasDivisor ts old new (Some cs) = (head_number (ahead ts old.place) ≡ Some (decimal cs.now)) × (new.fits ≡ old.fits) × (new.near ≡ old.near)

-- such a head and a place, and no more
pub record IsDivided (ts : List Token) (old new : Progress) (k : Head) (i : ℕ) : Type 0 where
  pub middle : Progress
  pub head : Takes ts divisor_head any any old k middle
  pub argument : Takes ts number any is_term_number middle i new
  pub last : ahead ts new.place ≡ end

abbrev pub HasDivided : List Token → Progress → Progress → Option (Head × ℕ) → Type 0
HasDivided ts old new None = divisibility (ahead ts old.place) ≡ None
HasDivided ts old new (Some p) = IsDivided ts old new p.0 p.1
