-- The clauses of a node whose places get other names.
use Rattle.std.specs.Prelude.{◌≡◌, ℕ, ◌<◌, List, ◌++◌, map, All}
use Rattle.smt_meaning.specs.declared.terms.Operator.{Operator}
use Rattle.smt_meaning.specs.Forced.{Sign}
use Rattle.clause_form.specs.Signs.{sign}
use Rattle.clause_form.specs.NodeClauses.{node_clauses}
use Rattle.clause_form.specs.WideClauses.{wide_clauses}

abbrev pub renamed : (ℕ → ℕ) → Sign → Sign
renamed f s = sign (f s.place) s.positive

-- no two numbers below n get one name
abbrev pub Apart : (ℕ → ℕ) → ℕ → Type 0
Apart f n = (j k : ℕ) → j < n → k < n → f j ≡ f k → j ≡ k

-- they are the clauses of the node at the other places
abbrev pub NodeClausesRenamed : Type 0
NodeClausesRenamed =
    (f : ℕ → ℕ) (n : ℕ) (o : Operator) (t : ℕ) (xs : List ℕ) → Apart f n → All (λ i. i < n) xs
    → node_clauses o (f t) (map f xs) ++ wide_clauses o (f t) (map f xs) ≡ map (map (renamed f)) (node_clauses o t xs ++ wide_clauses o t xs)
