-- What is read at a place among the tokens of a proof.
use Rattle.std.specs.Prelude.{◌≡◌, ◌^◌, ℕ, Bool, true, false, ◌&&◌, List, [], ◌∷◌, Some, nat_lt}
use Rattle.smt_meaning.specs.declared.tokens.Token.{Token}
use Rattle.smt_meaning.specs.declared.nodes.Node.{Node}
use Rattle.smt_meaning.specs.declared.clauses.Summand.{Summand}
use Rattle.smt_meaning.specs.declared.clauses.Atom.{Atom}
use Rattle.smt_meaning.specs.declared.clauses.Atom.TheVariants.{Truth, AtMost, Same}
use Rattle.smt_meaning.specs.declared.clauses.Literal.{Literal}
use Rattle.proof_meaning.specs.declared.proof.Weighted.{Weighted}
use Rattle.proof_meaning.specs.declared.proof.Step.{Step}
use Rattle.proof_meaning.specs.declared.proof.Step.TheVariants.{Assert, Form as FormStep, Pick, Euclid, Refl, Sym, Trans, Cong, Truth as TruthStep, Both, Neither, Link, Round, Farkas, Res}
use Rattle.smt_meaning.specs.Declaration.{Declaration}
use Rattle.smt_meaning.specs.Sexp.{Sexp, ◌▸◌}
use Rattle.proof_meaning.specs.Reading.{node_read, step_read}
use Rattle.look_ahead.specs.Ahead.{ahead}
use Rattle.proof_read.specs.Written.{numbers_fit}
use Rattle.proof_read.specs.declared.read.ReadStep.{ReadStep}
use Rattle.proof_read.specs.declared.read.ReadStep.TheVariants.{Step as IsStep, Wrong, Large}

-- ---- numbers of terms and of steps that are small enough to be any

abbrev pub is_term_number : ℕ → Bool
is_term_number i = nat_lt i (2 ^ 32)

abbrev pub is_step_number : ℕ → Bool
is_step_number n = nat_lt n (2 ^ 64)

abbrev pub leaves_near : List Summand → Bool
leaves_near [] = true
leaves_near (p ∷ ps) = is_term_number p.term && leaves_near ps

abbrev pub atom_near : Atom → Bool
atom_near (Truth i) = is_term_number i
atom_near (Same i j) = is_term_number i && is_term_number j
atom_near (AtMost ps k) = leaves_near ps

abbrev pub literals_near : List Literal → Bool
literals_near [] = true
literals_near (l ∷ ls) = atom_near l.atom && literals_near ls

abbrev pub weights_near : List Weighted → Bool
weights_near [] = true
weights_near (w ∷ ws) = atom_near w.literal.atom && weights_near ws

abbrev pub numbers_near : List ℕ → Bool
numbers_near [] = true
numbers_near (i ∷ is) = is_term_number i && numbers_near is

-- the terms and the steps that a step names
abbrev pub places_near : Step → Bool
places_near (Assert a i) = is_step_number a && is_term_number i
places_near (FormStep i ls) = is_term_number i && literals_near ls
places_near (Pick i n) = is_term_number i && is_step_number n
places_near (Euclid i n) = is_term_number i && is_step_number n
places_near (Refl i) = is_term_number i
places_near (Sym i j) = is_term_number i && is_term_number j
places_near (Trans i j k) = is_term_number i && (is_term_number j && is_term_number k)
places_near (Cong i j) = is_term_number i && is_term_number j
places_near (TruthStep i j) = is_term_number i && is_term_number j
places_near (Both i j) = is_term_number i && is_term_number j
places_near (Neither i j) = is_term_number i && is_term_number j
places_near (Link i j n) = is_term_number i && (is_term_number j && is_step_number n)
places_near (Round l g) = atom_near l.atom
places_near (Farkas ws) = weights_near ws
places_near (Res p q l) = is_step_number p && (is_step_number q && atom_near l.atom)

-- ---- what was read

-- of a step: it, that it is none or names a term or step that can't be there, or that a number that it writes leaves the range
abbrev pub IsReadStep : Sexp → ReadStep → Type 0
IsReadStep x (IsStep s) = (step_read x ≡ Some s) × (numbers_fit s ≡ true)
IsReadStep x Wrong = (s : Step) → step_read x ≡ Some s → (numbers_fit s ≡ true) × (places_near s ≡ false)
IsReadStep x Large = (s : Step) × (step_read x ≡ Some s) × (numbers_fit s ≡ false)

-- that a term is none, or names one that can't be there
abbrev pub IsNoNode : List Declaration → Sexp → Type 0
IsNoNode ds x = (n : Node) → node_read ds x ≡ Some n → numbers_near n.arguments ≡ false

-- an s-expression stands at a place, and what follows it in its list at another
abbrev pub StandsAt : List Token → ℕ → Sexp → ℕ → Type 0
StandsAt ts i x j = ahead ts i ≡ x ▸ ahead ts j
