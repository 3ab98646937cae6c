-- A flat list of clauses: the literals of all, and where each clause's stand.
use Rattle.std.specs.Prelude.{ℕ, ◌≤◌, List, map, All, slice_range}
use Rattle.literals.specs.Signed.{Signed}
use Rattle.clause_form.specs.declared.list.Part.{Part}

abbrev pub piece : List Signed → Part → List Signed
piece literals p = slice_range literals p.start p.end

abbrev pub pieces : List Signed → List Part → List (List Signed)
pieces literals ps = map (piece literals) ps

pub record IsWithin (size : ℕ) (p : Part) : Type 0 where
  pub order : p.start ≤ p.end
  pub short : p.end ≤ size

abbrev pub AreWithin : ℕ → List Part → Type 0
AreWithin size ps = All (IsWithin size) ps
