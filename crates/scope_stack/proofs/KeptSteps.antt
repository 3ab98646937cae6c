-- What is kept of the definition that is added.
use Rattle.std.proofs.Common.{◌≡◌, ℕ, ◌<◌, Bool, true, false, List, [], ◌∷◌, ◌++◌, All, Option, Some, None, sym, subst, arith}
use Rattle.std.proofs.lemmas.List.Elements.{All-nil, All-cons, All-head, All-tail}
use Rattle.smt_meaning.specs.Declaration.{Declaration, Body}
use Rattle.smt_sorts.specs.declared.workshop.Workshop.{Workshop}
use Rattle.smt_sorts.specs.declared.workshop.Kept.{Kept}
use Rattle.smt_sorts.specs.Workshop.{IsWorkshop, IsWorkshopOf, IsOf}
use Rattle.smt_sorts.specs.Names.{all_of_levels, gaining}
use Rattle.elaborate.specs.Own.{IsLeft}
use Rattle.scope_stack.specs.Kept.{IsKeptOf}

module _ (k : Kept) where
  of_append : (ds es : List Declaration) → IsOf ds k → IsOf es k → IsOf (ds ++ es) k
  of_append [] es g h = h
  of_append (d ∷ ds) es g h = (g.0, of_append ds es g.1 h)

  -- earlier declarations have other ids
  of_before : (ds : List Declaration) (n : ℕ) → All (λ (e : Declaration). e.id < n) ds → k.id ≡ n → IsOf ds k
  of_before [] n below id = tt
  of_before (d ∷ ds) n below id = (
    λ h. absurd (let less : d.id < n = All-head (λ (e : Declaration). e.id < n) d ds below in omega (arith, h, id)),
    of_before ds n (All-tail (λ (e : Declaration). e.id < n) d ds below) id,
  )

  of_one : (d : Declaration) (b : Body) → d.body ≡ Some b → IsWorkshop b k.workshop → IsOf (d ∷ []) k
  of_one d b e w = (λ h. subst (λ (o : Option Body). IsWorkshopOf o k.workshop) (sym e) w, tt)

  before_left : (n : ℕ) (ds es : List Declaration) → All (λ (e : Declaration). e.id < n) (ds ++ es) → All (λ (e : Declaration). e.id < n) ds
  before_left n [] es h = All-nil (λ (e : Declaration). e.id < n)
  before_left n (d ∷ ds) es h =
      All-cons (λ (e : Declaration). e.id < n) d ds (All-head (λ (e : Declaration). e.id < n) d (ds ++ es) h) (before_left n ds es (All-tail (λ (e : Declaration). e.id < n) d (ds ++ es) h))

  before_right : (n : ℕ) (ds es : List Declaration) → All (λ (e : Declaration). e.id < n) (ds ++ es) → All (λ (e : Declaration). e.id < n) es
  before_right n [] es h = h
  before_right n (d ∷ ds) es h = before_right n ds es (All-tail (λ (e : Declaration). e.id < n) d (ds ++ es) h)

  module _ (d : Declaration) (n : ℕ) (b : Body) (id : k.id ≡ n) (body : d.body ≡ Some b) (w : IsWorkshop b k.workshop) where
    joined_of : (ds es : List Declaration) → All (λ (e : Declaration). e.id < n) (ds ++ es) → IsOf ((ds ++ d ∷ []) ++ es) k
    joined_of ds es h =
        of_append (ds ++ d ∷ []) es (of_append ds (d ∷ []) (of_before ds n (before_left n ds es h) id) (of_one d b body w)) (of_before es n (before_right n ds es h) id)

    gaining_of : (global : Bool) (dss : List (List Declaration)) → All (λ (e : Declaration). e.id < n) (all_of_levels dss) → IsOf (all_of_levels (gaining global (d ∷ []) dss)) k
    gaining_of true [] h = tt
    gaining_of true (ds ∷ dss) h = joined_of ds (all_of_levels dss) h
    gaining_of false [] h = tt
    gaining_of false (ds ∷ []) h = joined_of ds [] h
    gaining_of false (ds ∷ es ∷ dss) h =
        of_append ds (all_of_levels (gaining false (d ∷ []) (es ∷ dss))) (of_before ds n (before_left n ds (all_of_levels (es ∷ dss)) h) id)
        (gaining_of false (es ∷ dss) (before_right n ds (all_of_levels (es ∷ dss)) h))

pub kept_of : (global : Bool) (dss : List (List Declaration)) (all : List Declaration) (d : Declaration) (id n : ℕ) (b : Body) (w : Option Workshop)
    → All (λ (e : Declaration). e.id < n) (all_of_levels dss) → id ≡ n → d.body ≡ Some b → IsLeft b w → all ≡ all_of_levels (gaining global (d ∷ []) dss) → IsKeptOf all id w
kept_of global dss all d id n b None below i e l a = tt
kept_of global dss all d id n b (Some w) below i e l a =
    subst (λ es. IsOf es (record { id = id; workshop = w })) (sym a) (gaining_of (record { id = id; workshop = w }) d n b i e l global dss below)
