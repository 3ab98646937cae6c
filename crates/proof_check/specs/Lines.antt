-- The line that is written of what was found, and the exit status.
use Rattle.std.specs.Prelude.{◌≡◌, ◌⊎◌, ℕ, List, ◌++◌, codes, Option, Some, None}
use Rattle.std.specs.Fmt.{decimal}
use Rattle.proof_form.specs.declared.found.Found.{Found}
use Rattle.proof_form.specs.declared.found.Found.TheVariants.{Yes, Node, No, Range, NoProof}

abbrev pub numbered : List ℕ → ℕ → List ℕ
numbered word n = word ++ decimal n ++ codes "\n"

abbrev pub line_of : Found → List ℕ
line_of Yes = codes "yes\n"
line_of (Node n) = numbered (codes "node ") n
line_of (No n) = numbered (codes "no ") n
line_of (Range n) = numbered (codes "range ") n
line_of NoProof = codes "no proof\n"

-- the status where the line is written
abbrev pub status_of : Found → ℕ
status_of Yes = 0
status_of (Node n) = 1
status_of (No n) = 1
status_of (Range n) = 8
status_of NoProof = 7

-- the statuses of a run: where something is found, its line's, or 4 where that isn't written; else 2, 3, 5 or 6
abbrev pub IsStatus : Option Found → ℕ → Type 0
IsStatus (Some f) status = (status ≡ status_of f) ⊎ (status ≡ 4)
IsStatus None status = (status ≡ 2) ⊎ (status ≡ 3) ⊎ (status ≡ 5) ⊎ (status ≡ 6)
