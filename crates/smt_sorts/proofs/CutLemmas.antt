-- What a refused command declared is taken back.
use Rattle.std.proofs.Common.{◌≡◌, ℕ, ◌<◌, ◌≤◌, min, true, false, cond, List, [], ◌∷◌, ◌++◌, map, refl, ap, ◌∙◌, arith, All, append-nil}
use Rattle.std.specs.Prelude.{filter}
use Rattle.std.proofs.lemmas.List.Elements.{All-head, All-tail, filter-append}
use Rattle.std.proofs.lemmas.Bool.Decides.{nat_tests}
use Rattle.smt_meaning.specs.Declaration.{Declaration}
use Rattle.smt_sorts.proofs.PairLemmas.{All-first, All-last}
use Rattle.smt_sorts.specs.Names.{Names, all_of_levels, on_newest, has_id_below, cut_to, HasGained}

below_is : (n : ℕ) (d : Declaration) → d.id < n → has_id_below n d ≡ true
below_is n d h = grind (arith, nat_tests)

above_is : (n : ℕ) (d : Declaration) → n ≤ d.id → has_id_below n d ≡ false
above_is n d h = grind (arith, nat_tests)

pub filter-kept : (n : ℕ) (ds : List Declaration) → All (λ (d : Declaration). d.id < n) ds → filter (has_id_below n) ds ≡ ds
filter-kept n [] h = refl
filter-kept n (d ∷ ds) h =
    ap (λ b. cond b (d ∷ filter (has_id_below n) ds) (filter (has_id_below n) ds)) (below_is n d (All-head (λ (e : Declaration). e.id < n) d ds h))
    ∙ ap (λ es. d ∷ es) (filter-kept n ds (All-tail (λ (e : Declaration). e.id < n) d ds h))

pub filter-gone : (n : ℕ) (ds : List Declaration) → All (λ (d : Declaration). n ≤ d.id) ds → filter (has_id_below n) ds ≡ []
filter-gone n [] h = refl
filter-gone n (d ∷ ds) h =
    ap (λ b. cond b (d ∷ filter (has_id_below n) ds) (filter (has_id_below n) ds)) (above_is n d (All-head (λ (e : Declaration). n ≤ e.id) d ds h))
    ∙ filter-gone n ds (All-tail (λ (e : Declaration). n ≤ e.id) d ds h)

pub cut-on_newest : (n : ℕ) (es : List Declaration) (dss : List (List Declaration)) → All (λ (d : Declaration). d.id < n) (all_of_levels dss) → All (λ (d : Declaration). n ≤ d.id) es
    → map (λ (ds : List Declaration). filter (has_id_below n) ds) (on_newest es dss) ≡ dss
cut-on_newest n es [] below later = refl
cut-on_newest n es (ds ∷ []) below later =
    ap (λ fs. fs ∷ [])
    (filter-append (has_id_below n) ds es
    ∙ ap (λ fs. fs ++ filter (has_id_below n) es) (filter-kept n ds (All-first (λ (d : Declaration). d.id < n) ds [] below))
    ∙ ap (λ fs. ds ++ fs) (filter-gone n es later) ∙ append-nil ds)
cut-on_newest n es (ds ∷ fs ∷ rest) below later =
    ap (λ gs. gs ∷ map (λ (hs : List Declaration). filter (has_id_below n) hs) (on_newest es (fs ∷ rest)))
    (filter-kept n ds (All-first (λ (d : Declaration). d.id < n) ds (all_of_levels (fs ∷ rest)) below))
    ∙ ap (λ gs. ds ∷ gs) (cut-on_newest n es (fs ∷ rest) (All-last (λ (d : Declaration). d.id < n) ds (all_of_levels (fs ∷ rest)) below) later)

-- to the ids that were given before: as before
pub cut_to-gained : (t now : Names) → HasGained t now → cut_to t.given now ≡ t
cut_to-gained t now h =
    let given : t.given ≤ now.given = h.given in
    let ids : min now.given t.given ≡ t.given = omega arith in
    let levels : map (λ (ds : List Declaration). filter (has_id_below t.given) ds) now.levels ≡ t.levels =
    ap (map (λ (ds : List Declaration). filter (has_id_below t.given) ds)) h.levels ∙ cut-on_newest t.given h.gained t.levels h.table.ids_given h.later in
    ap (λ dss. record { levels = dss; given = min now.given t.given }) levels ∙ ap (λ n. record { levels = t.levels; given = n }) ids
