-- Parts that are added at the end.
use Rattle.std.proofs.Common.{◌≡◌, ℕ, ◌+◌, ◌<◌, ◌≤◌, ◌⊎◌, inl, inr, pos, sym, subst, arith, List, [], ◌∷◌, ◌++◌, length, get_or, length-append}
use Rattle.std.proofs.lemmas.List.{get_or_append_left, get_or_push}
use Rattle.std.proofs.lemmas.Bool.{cases_lt}
use Rattle.fraction128.specs.declared.Summand.{Summand}
use Rattle.fraction128.specs.declared.Column.{Column}
use Rattle.fraction128.specs.Grid.{leaf}
use Rattle.tableau.specs.declared.sum.Part.{Part}
use Rattle.tableau.specs.Written.{AreParts, IsPart}
use Rattle.simplex.specs.Sums.{AreMatched}
use Rattle.simplex_steps.specs.State.{column_in}
use Rattle.simplex_systems.specs.declared.system.Picked.{Picked}
use Rattle.simplex_systems.specs.Parts.{IsPicked}

abbrev no_part : Part
no_part = record { coefficient = pos 0; variable = 0 }

pub parts_push : (n : ℕ) (cs : List Column) (ps : List Part) (p : Picked) → AreParts n ps → IsPicked n cs p → AreParts n (ps ++ p.part ∷ [])
parts_push n cs ps p h picked k lt = by_place (cases_lt k (length ps))
  where
    by_place : (k < length ps) ⊎ (length ps ≤ k) → IsPart n (get_or (ps ++ p.part ∷ []) k no_part)
    by_place (inl below) = subst (IsPart n) (sym (get_or_append_left ps (p.part ∷ []) no_part k below)) (h k below)
    by_place (inr past) =
        let long : length (ps ++ p.part ∷ []) ≡ length ps + 1 = length-append ps (p.part ∷ []) in
        let last : length ps ≡ k = omega arith in
        subst (IsPart n) (sym (get_or_push ps p.part no_part k last)) picked.part

matched_more : (cs : List Column) (ss : List Summand) (ps : List Part) (s : Summand) (p : Part) → AreMatched cs ss ps → p.coefficient ≡ s.coefficient → (column_in cs p.variable).sum ≡ leaf s.term
    → AreMatched cs (ss ++ s ∷ []) (ps ++ p ∷ [])
matched_more cs [] [] s p h same stands = (same, stands, h)
matched_more cs (x ∷ ss) (y ∷ ps) s p h same stands = (h.0, h.1, matched_more cs ss ps s p h.2 same stands)
matched_more cs [] (y ∷ ps) s p h same stands = elim h [ ]
matched_more cs (x ∷ ss) [] s p h same stands = elim h [ ]

pub matched_push : (n : ℕ) (cs : List Column) (ss : List Summand) (ps : List Part) (p : Picked) → AreMatched cs ss ps → IsPicked n cs p
    → AreMatched cs (ss ++ p.summand ∷ []) (ps ++ p.part ∷ [])
matched_push n cs ss ps p h picked = matched_more cs ss ps p.summand p.part h picked.same picked.stands
