-- Atoms that aren't told of have no number below those that are.
use Rattle.std.proofs.Common.{◌∙◌, ℕ, ◌<◌, ◌≤◌, List, length, take, Contains, sym, arith}
use Rattle.std.specs.Prelude.{Option, Some, None}
use Rattle.std.proofs.lemmas.List.{length-take, get_or-take}
use Rattle.smt_meaning.specs.declared.clauses.Atom.{Atom}
use Rattle.atom_form.specs.AtomTableNumbers.{IsAt, AreApart}
use Rattle.theory_combine.specs.Numbering.{table_of}

pub beyond : (stopped_at : Option ℕ) (atoms : List Atom) (n : ℕ) (a : Atom) → AreApart atoms → IsAt atoms n a → length (table_of stopped_at atoms) ≤ n → Contains (table_of stopped_at atoms) a → ⊥
beyond None atoms n a apart at past there = let inside = at.0 in absurd (omega arith)
beyond (Some k) atoms n a apart at past there =
    let i : ℕ = there.0 in
    let inside : i < length (take k atoms) = there.1 in
    let low : i < k = omega (arith, inside, length-take k atoms) in
    let less : i < n = omega arith in
    apart i n a less at.0 (sym (get_or-take k atoms i a low) ∙ there.2 ∙ sym (at.1 a))
