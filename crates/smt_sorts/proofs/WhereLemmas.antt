-- The level of what has an id.
use Rattle.std.proofs.Common.{◌≡◌, ◌≢◌, ℕ, zero, suc, ◌+◌, ◌<◌, ◌≤◌, Bool, true, false, List, [], ◌∷◌, length, get_or, map, Contains, slice_index, None, refl, sym, ◌∙◌, subst, inl, inr, arith}
use Rattle.std.specs.Prelude.{nat_lt, AllPairs}
use Rattle.std.proofs.lemmas.Bool.{cases_lt, lt-ltb, ltb-true}
use Rattle.std.proofs.lemmas.List.Elements.{All-nil, All-cons, All-contains, Contains-append_cases, Contains-append_right}
use Rattle.smt_meaning.specs.declared.values.Sort.TheVariants.{Bool as Truths}
use Rattle.smt_meaning.specs.Declaration.{Declaration}
use Rattle.smt_sorts.specs.Names.{IsLevelOf}
use Rattle.smt_sorts.specs.Listed.{Listed, IsPlaceOf}
use Rattle.smt_sorts.specs.Leveled.{cons_if, levels_of, IsLeveled}
use Rattle.smt_sorts.proofs.LevelLemmas.{below_level, all_of-up_to}
use Rattle.smt_sorts.proofs.TableLemmas.{length-levels_of}

abbrev ids : List Declaration → List ℕ
ids ds = map (λ (d : Declaration). d.id) ds

-- ---- what is listed below a level

kept_if : (b : Bool) (d : Declaration) (ds : List Declaration) (f : ℕ) → Contains (ids ds) f → Contains (ids (cons_if b d ds)) f
kept_if true d ds f h = Contains-append_right (d.id ∷ []) (ids ds) f h
kept_if false d ds f h = h

first_if : (b : Bool) (d : Declaration) (ds : List Declaration) → b ≡ true → Contains (ids (cons_if b d ds)) d.id
first_if true d ds e = (0, omega arith, refl)
first_if false d ds e = absurd cc

stands_below : (m : ℕ) (ks : List ℕ) (ds : List Declaration) (i : ℕ) (d : Declaration) → length ks ≡ length ds → i < length ds → slice_index ks i < m → Contains (ids (below_level m ks ds)) (get_or ds i d).id
stands_below m [] [] i e size short less = absurd (omega arith)
stands_below m [] (d ∷ ds) i e size short less = absurd (omega arith)
stands_below m (k ∷ ks) [] i e size short less = absurd (omega arith)
stands_below m (k ∷ ks) (d ∷ ds) zero e size short less = first_if (nat_lt k m) d (below_level m ks ds) (lt-ltb k m less)
stands_below m (k ∷ ks) (d ∷ ds) (suc i) e size short less =
    kept_if (nat_lt k m) d (below_level m ks ds) (get_or ds i e).id (stands_below m ks ds i e (omega arith) (omega arith) less)

record StandsAt (m : ℕ) (ks : List ℕ) (ds : List Declaration) (f : ℕ) : Type 0 where
  place : ℕ
  within : place < length ds
  id_is : (d : Declaration) → (get_or ds place d).id ≡ f
  less : slice_index ks place < m

the_one : (f g : ℕ) → Contains (g ∷ []) f → f ≡ g
the_one f g c = All-contains (λ x. x ≡ g) (g ∷ []) f (All-cons (λ x. x ≡ g) g [] refl (All-nil (λ x. x ≡ g))) c

stands_in_if : (m k : ℕ) (ks : List ℕ) (d : Declaration) (ds es : List Declaration) (f : ℕ) (b : Bool) → nat_lt k m ≡ b → (Contains (ids es) f → StandsAt m ks ds f) → Contains (ids (cons_if b d es)) f
    → StandsAt m (k ∷ ks) (d ∷ ds) f
stands_in_if m k ks d ds es f true e later c =
    elim (Contains-append_cases (d.id ∷ []) (ids es) f c) [
      | inl a ↦ record { place = 0; within = omega arith; id_is = λ x. sym (the_one f d.id a); less = ltb-true k m e }
      | inr b ↦ let r : StandsAt m ks ds f = later b in let w : r.place < length ds = r.within in record { place = suc r.place; within = omega (arith, w); id_is = r.id_is; less = r.less }
    ]
stands_in_if m k ks d ds es f false e later c =
    let r : StandsAt m ks ds f = later c in let w : r.place < length ds = r.within in record { place = suc r.place; within = omega (arith, w); id_is = r.id_is; less = r.less }

stands_at : (m : ℕ) (ks : List ℕ) (ds : List Declaration) (f : ℕ) → Contains (ids (below_level m ks ds)) f → StandsAt m ks ds f
stands_at m [] ds f c = absurd (omega (arith, c.1))
stands_at m (k ∷ ks) [] f c = absurd (omega (arith, c.1))
stands_at m (k ∷ ks) (d ∷ ds) f c = stands_in_if m k ks d ds (below_level m ks ds) f (nat_lt k m) refl (stands_at m ks ds f) c

-- ---- the level of an id

-- one id stands at one place
one_place : (ds : List Declaration) (i j : ℕ) (d : Declaration) → AllPairs (λ (e f : Declaration). e.id ≢ f.id) ds → i < length ds → j < length ds → (get_or ds i d).id ≡ (get_or ds j d).id → i ≡ j
one_place ds i j d apart short within same =
    elim (cases_lt i j) [
      | inl less ↦ absurd (apart i j d less within same)
      | inr above ↦
          elim (cases_lt j i) [
            | inl less ↦ absurd (apart j i d less short (sym same))
            | inr equal ↦ omega arith
          ]
    ]

module _ (count given base : ℕ) (a : Listed) (f p l : ℕ) (h : IsLeveled count given base a) (at : IsPlaceOf a.declarations f p) (level : slice_index a.levels p ≡ l) where
  any : Declaration
  any = record { id = 0; name = []; rank = record { arguments = []; result = Truths }; body = None; is_sort = true; is_name = false }

  declared_there : Contains (ids (below_level (l + 1) a.levels a.declarations)) f
  declared_there =
      subst (Contains (ids (below_level (l + 1) a.levels a.declarations))) (at.id_is any) (stands_below (l + 1) a.levels a.declarations p any h.size at.within (omega (arith, level)))

  least_there : (k : ℕ) → StandsAt (k + 1) a.levels a.declarations f → l ≤ k
  least_there k s =
      let same : s.place ≡ p = one_place a.declarations s.place p any h.ids_apart s.within at.within (s.id_is any ∙ sym (at.id_is any)) in
      let less : slice_index a.levels p < k + 1 = subst (λ p. slice_index a.levels p < k + 1) same s.less in
      omega (arith, level, less)

  pub level_is : IsLevelOf (levels_of count a) f l
  unfolding levels_of
  level_is = record {
    declared = subst (λ ds. Contains (ids ds) f) (sym (all_of-up_to count l a.levels a.declarations h.size h.within h.order)) declared_there;
    least = λ k c. least_there k (stands_at (k + 1) a.levels a.declarations f (subst (λ ds. Contains (ids ds) f) (all_of-up_to count k a.levels a.declarations h.size h.within h.order) c));
  }

  pub level_within : l < length (levels_of count a)
  level_within =
      let size : length a.levels ≡ length a.declarations = h.size in
      let short : p < length a.declarations = at.within in
      let less : slice_index a.levels p < count = h.within p 0 (omega (arith, size, short)) in
      omega (arith, level, less, length-levels_of count a)
