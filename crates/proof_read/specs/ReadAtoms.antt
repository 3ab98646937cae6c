-- The atoms and the literals that a proof writes.
use Rattle.std.specs.Prelude.{ℕ, Bool, true, false, List, Option, Some, None, bytes_eq, codes, if◌then◌else◌}
use Rattle.smt_meaning.specs.declared.clauses.Atom.{Atom}
use Rattle.smt_meaning.specs.declared.clauses.Literal.{Literal}
use Rattle.smt_meaning.specs.Sexp.{Sexps, end, ◌▸◌}
use Rattle.smt_meaning.specs.Signature.{look_up}
use Rattle.proof_meaning.specs.Proof.{literal}
use Rattle.proof_meaning.specs.Reading.{with, atom_forms, signed_read}
use Rattle.proof_read.specs.Written.{atom_fits}
use Rattle.proof_read.specs.Reads.{atom_near}

abbrev pub literal_fits : Literal → Bool
literal_fits l = atom_fits l.atom

abbrev pub literal_near : Literal → Bool
literal_near l = atom_near l.atom

-- an atom, from behind its name
abbrev pub atom_after : List ℕ → Sexps → Option Atom
atom_after n ss = with (look_up n atom_forms) (λ f. f ss)

-- the negation of an atom, from behind `not`
abbrev pub negation_in : Sexps → Option Literal
negation_in (s ▸ end) = signed_read false s
negation_in _ = None

-- a literal, from behind the name that it begins with
abbrev pub literal_after : List ℕ → Sexps → Option Literal
literal_after n ss = if bytes_eq n (codes "not") then negation_in ss else with (atom_after n ss) (λ a. Some (literal true a))
