-- What propagation reaches, on an example: p follows from (p or q) and (not q), so propagation from nothing reaches p.
use Rattle.std.proofs.Common.{ℕ, List, [], ◌∷◌, refl, arith, Bool, true, false}
use Rattle.std.specs.Prelude.{not}
use Rattle.std.proofs.lemmas.List.Elements.{All-contains, All-cons, All-nil}
use Rattle.smt_meaning.specs.Forced.{Sign, Reaches, unit}

abbrev negated : Sign → Sign
negated s = record { place = s.place; positive = not s.positive }

abbrev sign : ℕ → Bool → Sign
sign i b = record { place = i; positive = b }

abbrev clauses : List (List Sign)
clauses = (sign 0 true ∷ sign 1 true ∷ []) ∷ (sign 1 false ∷ []) ∷ []

-- the unit clause (not q)
no_q : Reaches negated clauses [] (sign 1 false)
no_q = unit [] [] (1, omega arith, refl) (λ m h. absurd (omega (arith, h.1)))

-- so p is left of the other
p_reached : Reaches negated clauses [] (sign 0 true)
p_reached =
    unit [] (sign 1 true ∷ []) (0, omega arith, refl)
    (λ m. All-contains (λ m. Reaches negated clauses [] (negated m)) (sign 1 true ∷ []) m (All-cons (λ m. Reaches negated clauses [] (negated m)) (sign 1 true) [] no_q (All-nil _)))
