-- A loop that puts a function's value in the place of each summand.
use Rattle.std.proofs.Common.{◌≡◌, ℕ, ◌+◌, ◌<◌, ◌≤◌, List, [], ◌∷◌, ◌++◌, length, get_or, set, take, drop, map, ap, sym, ◌∙◌, refl, arith, add-one}
use Rattle.std.proofs.lemmas.List.{take_more, take_all, drop_more, drop-set-lt, length-set, map-append}
use Rattle.std.proofs.lemmas.Grind.{drop_more_same}
use Rattle.std.proofs.Math.Seq.{take-suc-set}
use Rattle.smt_meaning.specs.declared.clauses.Summand.{Summand}

-- the first so many are the values, and the others as they were
pub record IsMapping (f : Summand → Summand) (old : List Summand) (i : ℕ) (new : List Summand) : Type 0 where
  pub size : length new ≡ length old
  pub made : take i new ≡ map f (take i old)
  pub rest : drop i new ≡ drop i old

module _ (f : Summand → Summand) (old : List Summand) where
  pub mapping_start : IsMapping f old 0 old
  mapping_start = record { size = refl; made = refl; rest = refl }

  module _ (i : ℕ) (new : List Summand) (m : IsMapping f old i new) where
    pub mapping_same : (d : Summand) → i < length old → get_or new i d ≡ get_or old i d
    mapping_same d h =
        let e : get_or new i d ∷ drop (i + 1) new ≡ get_or old i d ∷ drop (i + 1) old =
        sym (drop_more new i d (let s = m.size in omega arith)) ∙ m.rest ∙ drop_more old i d h in
        cc

    pub mapping_step : (d p : Summand) → i < length old → p ≡ f (get_or new i d) → IsMapping f old (i + 1) (set new i p)
    mapping_step d p h e =
        let inside : i < length new = let s = m.size in omega arith in
        record {
          size = length-set new i p ∙ m.size;
          made =
              ap (λ n. take n (set new i p)) (add-one i) ∙ take-suc-set new i p inside ∙ ap (λ xs. xs ++ p ∷ []) m.made ∙ ap (λ q. map f (take i old) ++ q ∷ []) (e ∙ ap f (mapping_same d h))
              ∙ sym (map-append f (take i old) (get_or old i d ∷ [])) ∙ ap (map f) (sym (take_more old i d h));
          rest = drop-set-lt (i + 1) new i p (omega arith) ∙ drop_more_same new old i m.rest;
        }

    pub mapping_end : length old ≤ i → new ≡ map f old
    mapping_end h = sym (take_all i new (let s = m.size in omega arith)) ∙ m.made ∙ ap (map f) (take_all i old h)
