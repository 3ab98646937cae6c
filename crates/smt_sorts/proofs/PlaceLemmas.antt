-- Places in lists that rise, and what has an id.
use Rattle.std.proofs.Common.{◌≡◌, ◌≢◌, ℕ, ◌+◌, ◌<◌, ◌≤◌, Bool, true, false, not, ◌&&◌, List, [], ◌∷◌, length, get_or, take, drop, All, Option, Some, None, refl, ap, sym, ◌∙◌, subst, inl, inr, arith}
use Rattle.std.specs.Prelude.{AllPairs, if◌then◌else◌}
use Rattle.std.specs.List.Sorted.{IsNonDecreasingBy, IsPartitionPoint}
use Rattle.std.proofs.lemmas.Bool.{cases_lt, cases_eq, eq-eqb, ne_eqb, ltb-true, ltb-false}
use Rattle.std.specs.Prelude.{nat_lt}
use Rattle.std.proofs.lemmas.List.{get_or-take, get_or-drop, length-take, length-drop, get_or_default}
use Rattle.std.proofs.lemmas.List.Elements.{All-head, All-tail}
use Rattle.smt_meaning.specs.Declaration.{Declaration}
use Rattle.smt_meaning.specs.Signature.{HasNoIdTwice, find_function, find_sort, function_with_id}
use Rattle.smt_meaning.specs.State.{name_of_sort}
use Rattle.smt_sorts.specs.declared.entries.Kind.TheVariants.{Function, Sort}
use Rattle.smt_sorts.specs.Listed.{is_named, first_that, has_id, name_if_sort, IsPlaceOf}
use Rattle.smt_sorts.proofs.FindLemmas.{first_at, first_none}

-- ---- where a list that rises passes a bound

pub non_decreasing : {X : Type 0} (n : X → ℕ) (xs : List X) → AllPairs (λ x y. n x ≤ n y) xs → IsNonDecreasingBy n xs
non_decreasing n xs h i j d order short =
    elim (cases_lt i j) [
      | inl less ↦ h i j d less short
      | inr above ↦ let same : i ≡ j = omega arith in subst (λ k. n (get_or xs i d) ≤ n (get_or xs k d)) same (omega arith)
    ]

pub below_point : {X : Type 0} (n : X → ℕ) (t : ℕ) (xs : List X) (i : ℕ) → IsPartitionPoint (λ x. nat_lt (n x) t ≡ true) (λ x. nat_lt (n x) t ≡ false) xs i → All (λ x. n x < t) (take i xs)
below_point n t xs i point k d short =
    let less : k < i = omega (arith, length-take i xs) in
    rw (get_or-take i xs k d less) (ltb-true (n (get_or xs k d)) t (point.0 k d (omega arith) less))

pub above_point : {X : Type 0} (n : X → ℕ) (t : ℕ) (xs : List X) (i : ℕ) → IsPartitionPoint (λ x. nat_lt (n x) t ≡ true) (λ x. nat_lt (n x) t ≡ false) xs i → All (λ x. t ≤ n x) (drop i xs)
above_point n t xs i point k d short =
    rw (get_or-drop i xs k d) (ltb-false (n (get_or xs (i + k) d)) t (point.1 (i + k) d (omega arith) (omega (arith, length-drop i xs))))

-- ---- what has an id

id_before : (ds : List Declaration) (id i k : ℕ) (d : Declaration) → All (λ (e : Declaration). e.id < id) (take i ds) → i ≤ length ds → k < i → has_id id (get_or ds k d) ≡ false
id_before ds id i k d below within less =
    let there : (get_or (take i ds) k d).id < id = below k d (omega (arith, length-take i ds)) in
    let here : (get_or ds k d).id < id = rw (get_or-take i ds k d less) at there in
    ne_eqb id (get_or ds k d).id (λ e. omega arith)

pub first_at_place : (ds : List Declaration) (id i : ℕ) (d : Declaration) → AllPairs (λ (e f : Declaration). e.id ≢ f.id) ds → IsPlaceOf ds id i → d ≡ get_or ds i d → first_that (has_id id) ds ≡ Some d
first_at_place ds id i d apart at here =
    first_at (has_id id) ds i d at.within (eq-eqb id (get_or ds i d).id (sym (at.id_is d)))
    (λ k less. ne_eqb id (get_or ds k d).id (λ same. apart k i d less at.within (sym same ∙ sym (at.id_is d)))) ∙ ap Some (sym here)

pub none_with_id : (ds : List Declaration) (id i : ℕ) (d : Declaration) → AllPairs (λ (e f : Declaration). e.id < f.id) ds → All (λ (e : Declaration). e.id < id) (take i ds)
    → All (λ (e : Declaration). id ≤ e.id) (drop i ds) → i < length ds → d ≡ get_or ds i d → d.id ≢ id → first_that (has_id id) ds ≡ None
none_with_id ds id i d rise below above short here other =
    first_none (has_id id) ds
    (λ k e within.
    elim (cases_lt k i) [
      | inl less ↦ id_before ds id i k e below (omega arith) less
      | inr from ↦
          let there : id ≤ (get_or (drop i ds) 0 d).id = above 0 d (omega (arith, length-drop i ds)) in
          let at : id ≤ d.id = rw (← here) at (subst (λ j. id ≤ (get_or ds j d).id) (let z : i + 0 ≡ i = omega arith in z) (rw (get_or-drop i ds 0 d) at there)) in
          elim (cases_lt i k) [
            | inl later ↦
                let less : (get_or ds i e).id < (get_or ds k e).id = rise i k e later within in
                let same : get_or ds i e ≡ d = get_or_default ds i e d short ∙ sym here in
                let apart : d.id < (get_or ds k e).id = subst (λ (f : Declaration). f.id < (get_or ds k e).id) same less in
                ne_eqb id (get_or ds k e).id (λ q. omega arith)
            | inr equal ↦
                let at_i : k ≡ i = omega arith in
                ap (λ j. has_id id (get_or ds j e)) at_i ∙ ap (has_id id) (get_or_default ds i e d short ∙ sym here) ∙ ne_eqb id d.id (λ q. other (sym q))
          ]
    ])

pub none_behind : (ds : List Declaration) (id i : ℕ) → All (λ (e : Declaration). e.id < id) (take i ds) → i ≡ length ds → first_that (has_id id) ds ≡ None
none_behind ds id i below all = first_none (has_id id) ds (λ k e within. id_before ds id i k e below (omega arith) (omega arith))

-- ---- the definitions of the language

pub found_function : (n : List ℕ) (ds : List Declaration) → find_function n ds ≡ first_that (is_named Function n) ds
found_function n [] = refl
found_function n (d ∷ ds) = ap (λ o. if is_named Function n d then Some d else o) (found_function n ds)

pub found_sort : (n : List ℕ) (ds : List Declaration) → find_sort n ds ≡ first_that (is_named Sort n) ds
found_sort n [] = refl
found_sort n (d ∷ ds) = ap (λ o. if is_named Sort n d then Some d else o) (found_sort n ds)

abbrev pub function_of : Option Declaration → Option Declaration
function_of None = None
function_of (Some d) = if d.is_sort then None else Some d

abbrev pub sort_name_of : Option Declaration → List ℕ
sort_name_of None = []
sort_name_of (Some d) = name_if_sort d

other_function : (f : ℕ) (ds : List Declaration) → All (λ (e : Declaration). f ≢ e.id) ds → function_with_id f ds ≡ None
other_function f [] other = refl
other_function f (d ∷ ds) other =
    ap (λ b. if b && not d.is_sort then Some d else function_with_id f ds) (ne_eqb f d.id (All-head (λ (e : Declaration). f ≢ e.id) d ds other))
    ∙ other_function f ds (All-tail (λ (e : Declaration). f ≢ e.id) d ds other)

other_name : (f : ℕ) (ds : List Declaration) → All (λ (e : Declaration). f ≢ e.id) ds → name_of_sort f ds ≡ []
other_name f [] other = refl
other_name f (d ∷ ds) other =
    ap (λ b. if b && d.is_sort then d.name else name_of_sort f ds) (ne_eqb f d.id (All-head (λ (e : Declaration). f ≢ e.id) d ds other))
    ∙ other_name f ds (All-tail (λ (e : Declaration). f ≢ e.id) d ds other)

function_here : (d : Declaration) (b : Bool) (rest : Option Declaration) → rest ≡ None → (if not b then Some d else rest) ≡ (if b then None else Some d)
function_here d true rest e = e
function_here d false rest e = refl

name_here : (n : List ℕ) (b : Bool) (rest : List ℕ) → rest ≡ [] → (if b then n else rest) ≡ (if b then n else [])
name_here n true rest e = refl
name_here n false rest e = e

pub function_by_id : (f : ℕ) (ds : List Declaration) → HasNoIdTwice ds → function_with_id f ds ≡ function_of (first_that (has_id f) ds)
function_by_id f [] h = refl
function_by_id f (d ∷ ds) h =
    elim (cases_eq f d.id) [
      | inl same ↦
          rw (eq-eqb f d.id same) (function_here d d.is_sort (function_with_id f ds) (other_function f ds (subst (λ i. All (λ (e : Declaration). i ≢ e.id) ds) (sym same) h.0)))
      | inr other ↦ rw (ne_eqb f d.id other) (function_by_id f ds h.1)
    ]

pub name_by_id : (f : ℕ) (ds : List Declaration) → HasNoIdTwice ds → name_of_sort f ds ≡ sort_name_of (first_that (has_id f) ds)
name_by_id f [] h = refl
name_by_id f (d ∷ ds) h =
    elim (cases_eq f d.id) [
      | inl same ↦
          rw (eq-eqb f d.id same) (name_here d.name d.is_sort (name_of_sort f ds) (other_name f ds (subst (λ i. All (λ (e : Declaration). i ≢ e.id) ds) (sym same) h.0)))
      | inr other ↦ rw (ne_eqb f d.id other) (name_by_id f ds h.1)
    ]
