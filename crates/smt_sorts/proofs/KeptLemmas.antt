-- What a table keeps of the judgement of a definition.
use Rattle.std.proofs.Common.{◌≡◌, ℕ, zero, suc, ◌+◌, ◌<◌, List, [], ◌∷◌, ◌++◌, take, drop, Option, Some, None, subst, sym, arith}
use Rattle.std.specs.Prelude.{insert}
use Rattle.smt_meaning.specs.Declaration.{Declaration}
use Rattle.smt_sorts.specs.declared.workshop.Kept.{Kept}
use Rattle.smt_sorts.specs.Names.{Names, signature}
use Rattle.smt_sorts.specs.Listed.{Listed}
use Rattle.smt_sorts.specs.Leveled.{levels_of, IsLeveled}
use Rattle.smt_sorts.specs.Workshop.{IsOf, IsOfAny, IsKept}
use Rattle.smt_sorts.proofs.TableLemmas.{signature_is}

of_append : (ds es : List Declaration) (k : Kept) → IsOf ds k → IsOf es k → IsOf (ds ++ es) k
of_append [] es k h i = i
of_append (d ∷ ds) es k h i = (h.0, of_append ds es k h.1 i)

of_take : (n : ℕ) (ds : List Declaration) (k : Kept) → IsOf ds k → IsOf (take n ds) k
of_take zero ds k h = tt
of_take (suc n) [] k h = tt
of_take (suc n) (d ∷ ds) k h = (h.0, of_take n ds k h.1)

of_drop : (n : ℕ) (ds : List Declaration) (k : Kept) → IsOf ds k → IsOf (drop n ds) k
of_drop zero ds k h = h
of_drop (suc n) [] k h = tt
of_drop (suc n) (d ∷ ds) k h = of_drop n ds k h.1

pub kept_insert : (given n : ℕ) (ds : List Declaration) (d : Declaration) (kept : Option Kept) → d.id ≡ given → IsKept given ds kept → IsKept (given + 1) (insert ds n d) kept
kept_insert given n ds d None id h = tt
kept_insert given n ds d (Some k) id h =
    let below : k.id < given = h.0 in
    (omega arith, of_append (take n ds) (d ∷ drop n ds) k (of_take n ds k h.1) (λ e. absurd (omega (arith, e, id, below)), of_drop n ds k h.1))

pub kept_take : (given n : ℕ) (ds : List Declaration) (kept : Option Kept) → IsKept given ds kept → IsKept given (take n ds) kept
kept_take given n ds None h = tt
kept_take given n ds (Some k) h = (h.0, of_take n ds k h.1)

pub taken_of : (count given base : ℕ) (a : Listed) (t : Names) (kept was : Option Kept) → IsLeveled count given base a → record { levels = levels_of count a; given = given } ≡ t → kept ≡ was → IsKept given a.declarations was → IsOfAny (signature t) kept
taken_of count given base a t kept was l v e h = subst (λ (u : Names). IsOfAny (signature u) kept) v (subst (λ ds. IsOfAny ds kept) (sym (signature_is count given base a l)) (subst (IsOfAny a.declarations) (sym e) (go was h)))
  where
    go : (o : Option Kept) → IsKept given a.declarations o → IsOfAny a.declarations o
    go None k = tt
    go (Some x) k = k.1

pub kept_is : (count given base : ℕ) (a : Listed) (t : Names) (k : Kept) (kept : Option Kept) → IsLeveled count given base a → record { levels = levels_of count a; given = given } ≡ t → kept ≡ Some k → k.id < t.given → IsOf (signature t) k → IsKept given a.declarations kept
kept_is count given base a t k kept l v e below of =
    subst (IsKept given a.declarations) (sym e)
    (subst (λ (u : Names). k.id < u.given) (sym v) below, subst (λ ds. IsOf ds k) (signature_is count given base a l) (subst (λ (u : Names). IsOf (signature u) k) (sym v) of))
