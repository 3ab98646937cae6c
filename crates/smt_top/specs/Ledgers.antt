-- What a ledger gains.
use Rattle.std.specs.Prelude.{◌≡◌, List, ◌++◌, ⊤, Option, Some, None}
use Rattle.smt_meaning.specs.declared.answers.Entry.{Entry}

-- These entries stand behind those that it had, where it tells them.
abbrev pub Gains : Option (List Entry) → List Entry → Option (List Entry) → Type 0
Gains None more new = ⊤
Gains (Some old) more new = new ≡ Some (old ++ more)
