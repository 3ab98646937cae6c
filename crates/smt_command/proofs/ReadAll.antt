-- Lists that are read one s-expression after another.
use Rattle.std.proofs.Common.{ℕ, suc, List, ◌++◌, Option, Some, None}
use Rattle.smt_meaning.specs.Sexp.{Sexps, end, ◌▸◌}

abbrev pub count : Sexps → ℕ
count end = 0
count (s ▸ ss) = suc (count ss)

-- what was read, and then the rest, if all of it can be read
abbrev pub joined : {A : Type 0} → List A → Option (List A) → Option (List A)
joined xs None = None
joined xs (Some ys) = Some (xs ++ ys)
