-- Lists of levels: what the newest gains, and the levels of a list of declarations.
use Rattle.std.proofs.Common.{◌≡◌, ◌≢◌, ℕ, zero, suc, ◌+◌, ◌<◌, ◌≤◌, Bool, true, false, List, [], ◌∷◌, ◌++◌, length, map, take, drop, replicate, All, refl, ap, ap₂, sym, ◌∙◌, subst, inl, inr, arith, append_assoc, append-nil, add-one}
use Rattle.std.specs.Prelude.{filter, insert, nat_eq, nat_lt, AllPairs}
use Rattle.std.proofs.lemmas.Bool.{cases_lt, lt-ltb, le-ltb, eq-eqb, ne_eqb}
use Rattle.std.proofs.lemmas.List.{length-take, length-drop, length_push, take-append-drop, take-append-le, take_all, replicate_more, map-append}
use Rattle.std.proofs.lemmas.List.Concat.{flat_map-append}
use Rattle.std.proofs.lemmas.List.Elements.{All-head, All-tail, All-nil, All-cons, All-weaker, filter-append}
use Rattle.smt_meaning.specs.Declaration.{Declaration}
use Rattle.smt_meaning.specs.Stack.{stays}
use Rattle.smt_sorts.specs.Names.{all_of_levels, on_newest, on_base, base_of, has_id_below}
use Rattle.smt_sorts.specs.Leveled.{cons_if, at_level, levels_from}
use Rattle.smt_sorts.proofs.CutLemmas.{filter-kept, filter-gone}
use Rattle.smt_sorts.proofs.PairLemmas.{AllPairs-head, AllPairs-tail}

-- ---- the newest level

pub on_newest-nil : (dss : List (List Declaration)) → on_newest [] dss ≡ dss
on_newest-nil [] = refl
on_newest-nil (ds ∷ []) = ap (λ es. es ∷ []) (append-nil ds)
on_newest-nil (ds ∷ es ∷ rest) = ap (λ dss. ds ∷ dss) (on_newest-nil (es ∷ rest))

pub on_newest-on_newest : (es fs : List Declaration) (dss : List (List Declaration)) → on_newest fs (on_newest es dss) ≡ on_newest (es ++ fs) dss
on_newest-on_newest es fs [] = refl
on_newest-on_newest es fs (ds ∷ []) = ap (λ gs. gs ∷ []) (append_assoc ds es fs)
on_newest-on_newest es fs (ds ∷ gs ∷ []) = ap (λ dss. ds ∷ dss) (on_newest-on_newest es fs (gs ∷ []))
on_newest-on_newest es fs (ds ∷ gs ∷ hs ∷ rest) = ap (λ dss. ds ∷ dss) (on_newest-on_newest es fs (gs ∷ hs ∷ rest))

pub on_newest-push : (es ds : List Declaration) (dss : List (List Declaration)) → on_newest es (dss ++ ds ∷ []) ≡ dss ++ (ds ++ es) ∷ []
on_newest-push es ds [] = refl
on_newest-push es ds (fs ∷ []) = refl
on_newest-push es ds (fs ∷ gs ∷ rest) = ap (λ dss. fs ∷ dss) (on_newest-push es ds (gs ∷ rest))

-- ---- the declarations of one level

cons_if-append : (b : Bool) (d : Declaration) (ds es : List Declaration) → cons_if b d (ds ++ es) ≡ cons_if b d ds ++ es
cons_if-append true d ds es = refl
cons_if-append false d ds es = refl

at_level-none : (l : ℕ) (ks : List ℕ) → at_level l ks [] ≡ []
at_level-none l [] = refl
at_level-none l (k ∷ ks) = refl

pub at_level-append : (l : ℕ) (ks js : List ℕ) (ds es : List Declaration) → length ks ≡ length ds → at_level l (ks ++ js) (ds ++ es) ≡ at_level l ks ds ++ at_level l js es
at_level-append l [] js [] es size = refl
at_level-append l [] js (d ∷ ds) es size = absurd (omega arith)
at_level-append l (k ∷ ks) js [] es size = absurd (omega arith)
at_level-append l (k ∷ ks) js (d ∷ ds) es size =
    ap (cons_if (nat_eq k l) d) (at_level-append l ks js ds es (omega arith)) ∙ cons_if-append (nat_eq k l) d (at_level l ks ds) (at_level l js es)

at_level-split : (l n : ℕ) (ks : List ℕ) (ds : List Declaration) → length ks ≡ length ds → at_level l ks ds ≡ at_level l (take n ks) (take n ds) ++ at_level l (drop n ks) (drop n ds)
at_level-split l n ks ds size =
    ap (λ js. at_level l js ds) (sym (take-append-drop n ks)) ∙ ap (at_level l (take n ks ++ drop n ks)) (sym (take-append-drop n ds))
    ∙ at_level-append l (take n ks) (drop n ks) (take n ds) (drop n ds) (omega (arith, length-take n ks, length-take n ds))

-- no level is this one
at_level-other : (l : ℕ) (ks : List ℕ) (ds : List Declaration) → All (λ k. k ≢ l) ks → at_level l ks ds ≡ []
at_level-other l [] ds other = refl
at_level-other l (k ∷ ks) [] other = refl
at_level-other l (k ∷ ks) (d ∷ ds) other =
    ap (λ b. cons_if b d (at_level l ks ds)) (ne_eqb k l (All-head (λ j. j ≢ l) k ks other)) ∙ at_level-other l ks ds (All-tail (λ j. j ≢ l) k ks other)

cons_if-all : (P : Declaration → Type 0) (b : Bool) (d : Declaration) (ds : List Declaration) → P d → All P ds → All P (cons_if b d ds)
cons_if-all P true d ds here rest = All-cons P d ds here rest
cons_if-all P false d ds here rest = rest

-- a level holds only declarations of the list
at_level-all : (P : Declaration → Type 0) (l : ℕ) (ks : List ℕ) (ds : List Declaration) → All P ds → All P (at_level l ks ds)
at_level-all P l [] ds h = All-nil P
at_level-all P l (k ∷ ks) [] h = All-nil P
at_level-all P l (k ∷ ks) (d ∷ ds) h = cons_if-all P (nat_eq k l) d (at_level l ks ds) (All-head P d ds h) (at_level-all P l ks ds (All-tail P d ds h))

-- ---- all levels

levels_same : (n : ℕ) (ks js : List ℕ) (ds es : List Declaration) → ((l : ℕ) → l < n → at_level l ks ds ≡ at_level l js es) → levels_from n ks ds ≡ levels_from n js es
levels_same zero ks js ds es same = refl
levels_same (suc n) ks js ds es same =
    ap (λ dss. dss ++ at_level n ks ds ∷ []) (levels_same n ks js ds es (λ l less. same l (omega arith))) ∙ ap (λ fs. levels_from n js es ++ fs ∷ []) (same n (omega arith))

pub length-levels_from : (n : ℕ) (ks : List ℕ) (ds : List Declaration) → length (levels_from n ks ds) ≡ n
length-levels_from zero ks ds = refl
length-levels_from (suc n) ks ds = omega (arith, length_push (levels_from n ks ds) (at_level n ks ds), length-levels_from n ks ds)

take-levels_from : (m n : ℕ) (ks : List ℕ) (ds : List Declaration) → m ≤ n → take m (levels_from n ks ds) ≡ levels_from m ks ds
take-levels_from zero n ks ds h = refl
take-levels_from (suc m) zero ks ds h = absurd (omega arith)
take-levels_from (suc m) (suc n) ks ds h =
    elim (cases_lt m n) [
      | inl less ↦
          take-append-le (suc m) (levels_from n ks ds) (at_level n ks ds ∷ []) (omega (arith, length-levels_from n ks ds)) ∙ take-levels_from (suc m) n ks ds (omega arith)
      | inr above ↦
          let same : n ≡ m = omega arith in
          subst (λ k. take (suc k) (levels_from (suc n) ks ds) ≡ levels_from (suc k) ks ds) same
          (take_all (suc n) (levels_from (suc n) ks ds) (omega (arith, length-levels_from (suc n) ks ds)))
    ]

-- one declaration more, on the newest level
pub levels_from-push : (n : ℕ) (ks : List ℕ) (ds : List Declaration) (d : Declaration) → length ks ≡ length ds
    → levels_from (suc n) (ks ++ n ∷ []) (ds ++ d ∷ []) ≡ on_newest (d ∷ []) (levels_from (suc n) ks ds)
levels_from-push n ks ds d size =
    ap (λ dss. dss ++ at_level n (ks ++ n ∷ []) (ds ++ d ∷ []) ∷ [])
    (levels_same n (ks ++ n ∷ []) ks (ds ++ d ∷ []) ds
    (λ l less. at_level-append l ks (n ∷ []) ds (d ∷ []) size ∙ ap (λ b. at_level l ks ds ++ cons_if b d []) (ne_eqb n l (λ e. omega arith)) ∙ append-nil (at_level l ks ds)))
    ∙ ap (λ fs. levels_from n ks ds ++ fs ∷ []) (at_level-append n ks (n ∷ []) ds (d ∷ []) size ∙ ap (λ b. at_level n ks ds ++ cons_if b d []) (eq-eqb n n refl))
    ∙ sym (on_newest-push (d ∷ []) (at_level n ks ds) (levels_from n ks ds))

-- more levels, without declarations
pub levels_from-more : (n m : ℕ) (ks : List ℕ) (ds : List Declaration) → All (λ k. k < n) ks → levels_from (n + m) ks ds ≡ levels_from n ks ds ++ replicate m []
levels_from-more n zero ks ds below =
    let same : n + 0 ≡ n = omega arith in
    ap (λ k. levels_from k ks ds) same ∙ sym (append-nil (levels_from n ks ds))
levels_from-more n (suc m) ks ds below =
    let same : n + suc m ≡ suc (n + m) = omega arith in
    let last : replicate m [] ++ [] ∷ [] ≡ replicate {A = List Declaration} (suc m) [] = replicate_more m [] ∙ ap (λ k. replicate k []) (add-one m) in
    ap (λ k. levels_from k ks ds) same
    ∙ ap (λ fs. levels_from (n + m) ks ds ++ fs ∷ []) (at_level-other (n + m) ks ds (All-weaker (λ k. k < n) (λ k. k ≢ n + m) (λ k less e. omega arith) ks below))
    ∙ ap (λ dss. dss ++ [] ∷ []) (levels_from-more n m ks ds below)
    ∙ append_assoc (levels_from n ks ds) (replicate m []) ([] ∷ []) ∙ ap (λ dss. levels_from n ks ds ++ dss) last

-- the first levels, where the others' declarations are taken away
pub levels_from-fewer : (m n p : ℕ) (ks : List ℕ) (ds : List Declaration) → m ≤ n → length ks ≡ length ds → All (λ k. m ≤ k) (drop p ks)
    → levels_from m (take p ks) (take p ds) ≡ take m (levels_from n ks ds)
levels_from-fewer m n p ks ds fewer size above =
    levels_same m (take p ks) ks (take p ds) ds
    (λ l less. sym
    (at_level-split l p ks ds size
    ∙ ap (λ fs. at_level l (take p ks) (take p ds) ++ fs) (at_level-other l (drop p ks) (drop p ds) (All-weaker (λ k. m ≤ k) (λ k. k ≢ l) (λ k h e. omega arith) (drop p ks) above))
    ∙ append-nil (at_level l (take p ks) (take p ds))))
    ∙ sym (take-levels_from m n ks ds fewer)

cut_level : (ids l p : ℕ) (ks : List ℕ) (ds : List Declaration) → length ks ≡ length ds → All (λ (d : Declaration). d.id < ids) (take p ds) → All (λ (d : Declaration). ids ≤ d.id) (drop p ds)
    → filter (has_id_below ids) (at_level l ks ds) ≡ at_level l (take p ks) (take p ds)
cut_level ids l p ks ds size below above =
    ap (filter (has_id_below ids)) (at_level-split l p ks ds size)
    ∙ filter-append (has_id_below ids) (at_level l (take p ks) (take p ds)) (at_level l (drop p ks) (drop p ds))
    ∙ ap (λ fs. fs ++ filter (has_id_below ids) (at_level l (drop p ks) (drop p ds)))
    (filter-kept ids (at_level l (take p ks) (take p ds)) (at_level-all (λ (d : Declaration). d.id < ids) l (take p ks) (take p ds) below))
    ∙ ap (λ fs. at_level l (take p ks) (take p ds) ++ fs)
    (filter-gone ids (at_level l (drop p ks) (drop p ds)) (at_level-all (λ (d : Declaration). ids ≤ d.id) l (drop p ks) (drop p ds) above))
    ∙ append-nil (at_level l (take p ks) (take p ds))

-- the first of those up to a place, and the first of those from it on
abbrev pub both : {X : Type 0} → ℕ → ℕ → ℕ → List X → List X
both base b m xs = take b (take base xs) ++ take m (drop base xs)

-- up to a place and from it on, the declarations of later ids are taken away
pub record IsCut (ids base b m : ℕ) (ds : List Declaration) : Type 0 where
  pub base_below : All (λ (d : Declaration). d.id < ids) (take b (take base ds))
  pub base_above : All (λ (d : Declaration). ids ≤ d.id) (drop b (take base ds))
  pub below : All (λ (d : Declaration). d.id < ids) (take m (drop base ds))
  pub above : All (λ (d : Declaration). ids ≤ d.id) (drop m (drop base ds))

cut_both : (ids l base b m : ℕ) (ks : List ℕ) (ds : List Declaration) → length ks ≡ length ds → IsCut ids base b m ds
    → at_level l (both base b m ks) (both base b m ds) ≡ filter (has_id_below ids) (at_level l ks ds)
cut_both ids l base b m ks ds size h =
    let first_size : length (take base ks) ≡ length (take base ds) = omega (arith, length-take base ks, length-take base ds) in
    let last_size : length (drop base ks) ≡ length (drop base ds) = omega (arith, length-drop base ks, length-drop base ds) in
    at_level-append l (take b (take base ks)) (take m (drop base ks)) (take b (take base ds)) (take m (drop base ds)) (omega (arith, length-take b (take base ks), length-take b (take base ds)))
    ∙ ap₂ (λ es fs. es ++ fs) (sym (cut_level ids l b (take base ks) (take base ds) first_size h.base_below h.base_above)) (sym (cut_level ids l m (drop base ks) (drop base ds) last_size h.below h.above))
    ∙ sym (filter-append (has_id_below ids) (at_level l (take base ks) (take base ds)) (at_level l (drop base ks) (drop base ds)))
    ∙ ap (filter (has_id_below ids)) (sym (at_level-split l base ks ds size))

-- the levels without the declarations of later ids
pub levels_from-cut : (ids n base b m : ℕ) (ks : List ℕ) (ds : List Declaration) → length ks ≡ length ds → IsCut ids base b m ds
    → levels_from n (both base b m ks) (both base b m ds) ≡ map (λ (fs : List Declaration). filter (has_id_below ids) fs) (levels_from n ks ds)
levels_from-cut ids zero base b m ks ds size h = refl
levels_from-cut ids (suc n) base b m ks ds size h =
    ap (λ dss. dss ++ at_level n (both base b m ks) (both base b m ds) ∷ []) (levels_from-cut ids n base b m ks ds size h)
    ∙ ap (λ fs. map (λ (es : List Declaration). filter (has_id_below ids) es) (levels_from n ks ds) ++ fs ∷ []) (cut_both ids n base b m ks ds size h)
    ∙ sym (map-append (λ (es : List Declaration). filter (has_id_below ids) es) (levels_from n ks ds) (at_level n ks ds ∷ []))

-- ---- level 0

on_base-append : (es : List Declaration) (dss fss : List (List Declaration)) → 0 < length dss → on_base es (dss ++ fss) ≡ on_base es dss ++ fss
on_base-append es [] fss some = absurd (omega arith)
on_base-append es (ds ∷ dss) fss some = refl

base_of-append : (dss fss : List (List Declaration)) → 0 < length dss → base_of (dss ++ fss) ≡ base_of dss
base_of-append [] fss some = absurd (omega arith)
base_of-append (ds ∷ dss) fss some = refl

pub newest_is_base : (es : List Declaration) (dss : List (List Declaration)) → length dss ≡ 1 → on_base es dss ≡ on_newest es dss
newest_is_base es [] one = absurd (omega arith)
newest_is_base es (ds ∷ []) one = refl
newest_is_base es (ds ∷ fs ∷ rest) one = absurd (omega arith)

pub all_of-newest : (es : List Declaration) (dss : List (List Declaration)) → 0 < length dss → all_of_levels (on_newest es dss) ≡ all_of_levels dss ++ es
all_of-newest es [] some = absurd (omega arith)
all_of-newest es (ds ∷ []) some = append-nil (ds ++ es) ∙ ap (λ fs. fs ++ es) (sym (append-nil ds))
all_of-newest es (ds ∷ fs ∷ rest) some = ap (λ gs. ds ++ gs) (all_of-newest es (fs ∷ rest) (omega arith)) ∙ sym (append_assoc ds (all_of_levels (fs ∷ rest)) es)

none_at_base : (ks : List ℕ) (ds : List Declaration) → All (λ k. 1 ≤ k) ks → at_level 0 ks ds ≡ []
none_at_base ks ds above = at_level-other 0 ks ds (All-weaker (λ k. 1 ≤ k) (λ k. k ≢ 0) (λ k h e. omega arith) ks above)

pub all_at_base : (ks : List ℕ) (ds : List Declaration) → length ks ≡ length ds → All (λ k. k < 1) ks → at_level 0 ks ds ≡ ds
all_at_base [] [] size below = refl
all_at_base [] (d ∷ ds) size below = absurd (omega arith)
all_at_base (k ∷ ks) [] size below = absurd (omega arith)
all_at_base (k ∷ ks) (d ∷ ds) size below =
    let zero' : k < 1 = All-head (λ j. j < 1) k ks below in
    ap (λ b. cons_if b d (at_level 0 ks ds)) (eq-eqb k 0 (omega arith)) ∙ ap (λ fs. d ∷ fs) (all_at_base ks ds (omega arith) (All-tail (λ j. j < 1) k ks below))

-- level 0 holds the first declarations
pub at_base : (p : ℕ) (ks : List ℕ) (ds : List Declaration) → length ks ≡ length ds → All (λ k. k < 1) (take p ks) → All (λ k. 1 ≤ k) (drop p ks) → at_level 0 ks ds ≡ take p ds
at_base p ks ds size below above =
    at_level-split 0 p ks ds size
    ∙ ap₂ (λ es fs. es ++ fs) (all_at_base (take p ks) (take p ds) (omega (arith, length-take p ks, length-take p ds)) below) (none_at_base (drop p ks) (drop p ds) above)
    ∙ append-nil (take p ds)

above_stays : (l p : ℕ) (ks : List ℕ) (ds : List Declaration) (d : Declaration) → length ks ≡ length ds → at_level (suc l) (insert ks p 0) (insert ds p d) ≡ at_level (suc l) ks ds
above_stays l p ks ds d size =
    at_level-append (suc l) (take p ks) (0 ∷ drop p ks) (take p ds) (d ∷ drop p ds) (omega (arith, length-take p ks, length-take p ds))
    ∙ ap (λ b. at_level (suc l) (take p ks) (take p ds) ++ cons_if b d (at_level (suc l) (drop p ks) (drop p ds))) (ne_eqb 0 (suc l) (λ e. omega arith))
    ∙ sym (at_level-split (suc l) p ks ds size)

base_gains : (p : ℕ) (ks : List ℕ) (ds : List Declaration) (d : Declaration) → length ks ≡ length ds → All (λ k. 1 ≤ k) (drop p ks) → at_level 0 (insert ks p 0) (insert ds p d) ≡ at_level 0 ks ds ++ d ∷ []
base_gains p ks ds d size above =
    let none : at_level 0 (drop p ks) (drop p ds) ≡ [] = none_at_base (drop p ks) (drop p ds) above in
    at_level-append 0 (take p ks) (0 ∷ drop p ks) (take p ds) (d ∷ drop p ds) (omega (arith, length-take p ks, length-take p ds))
    ∙ ap (λ fs. at_level 0 (take p ks) (take p ds) ++ d ∷ fs) none
    ∙ ap (λ fs. fs ++ d ∷ []) (sym (at_level-split 0 p ks ds size ∙ ap (λ fs. at_level 0 (take p ks) (take p ds) ++ fs) none ∙ append-nil (at_level 0 (take p ks) (take p ds))))

-- one declaration more, on level 0
pub levels_from-base : (n p : ℕ) (ks : List ℕ) (ds : List Declaration) (d : Declaration) → length ks ≡ length ds → All (λ k. 1 ≤ k) (drop p ks)
    → levels_from (suc n) (insert ks p 0) (insert ds p d) ≡ on_base (d ∷ []) (levels_from (suc n) ks ds)
levels_from-base zero p ks ds d size above = ap (λ fs. fs ∷ []) (base_gains p ks ds d size above)
levels_from-base (suc n) p ks ds d size above =
    ap (λ dss. dss ++ at_level (suc n) (insert ks p 0) (insert ds p d) ∷ []) (levels_from-base n p ks ds d size above)
    ∙ ap (λ fs. on_base (d ∷ []) (levels_from (suc n) ks ds) ++ fs ∷ []) (above_stays n p ks ds d size)
    ∙ sym (on_base-append (d ∷ []) (levels_from (suc n) ks ds) (at_level (suc n) ks ds ∷ []) (omega (arith, length-levels_from (suc n) ks ds)))

-- level 0 alone
pub levels_from-based : (n : ℕ) (ks : List ℕ) (ds : List Declaration) → base_of (levels_from (suc n) ks ds) ≡ filter stays (at_level 0 ks ds) ∷ []
levels_from-based zero ks ds = refl
levels_from-based (suc n) ks ds =
    base_of-append (levels_from (suc n) ks ds) (at_level (suc n) ks ds ∷ []) (omega (arith, length-levels_from (suc n) ks ds)) ∙ levels_from-based n ks ds

-- ---- the levels hold each declaration once, in order

abbrev pub below_level : ℕ → List ℕ → List Declaration → List Declaration
below_level n [] ds = []
below_level n (k ∷ ks) [] = []
below_level n (k ∷ ks) (d ∷ ds) = cons_if (nat_lt k n) d (below_level n ks ds)

below_level-none : (n : ℕ) (ks : List ℕ) (ds : List Declaration) → All (λ k. n ≤ k) ks → below_level n ks ds ≡ []
below_level-none n [] ds above = refl
below_level-none n (k ∷ ks) [] above = refl
below_level-none n (k ∷ ks) (d ∷ ds) above =
    ap (λ b. cons_if b d (below_level n ks ds)) (le-ltb k n (All-head (λ j. n ≤ j) k ks above)) ∙ below_level-none n ks ds (All-tail (λ j. n ≤ j) k ks above)

below_level-all : (n : ℕ) (ks : List ℕ) (ds : List Declaration) → length ks ≡ length ds → All (λ k. k < n) ks → below_level n ks ds ≡ ds
below_level-all n [] [] size below = refl
below_level-all n [] (d ∷ ds) size below = absurd (omega arith)
below_level-all n (k ∷ ks) [] size below = refl
below_level-all n (k ∷ ks) (d ∷ ds) size below =
    ap (λ b. cons_if b d (below_level n ks ds)) (lt-ltb k n (All-head (λ j. j < n) k ks below)) ∙ ap (λ fs. d ∷ fs) (below_level-all n ks ds (omega arith) (All-tail (λ j. j < n) k ks below))

below_level-more : (n : ℕ) (ks : List ℕ) (ds : List Declaration) → AllPairs (λ j k. j ≤ k) ks → below_level (suc n) ks ds ≡ below_level n ks ds ++ at_level n ks ds
below_level-more n [] ds order = refl
below_level-more n (k ∷ ks) [] order = refl
below_level-more n (k ∷ ks) (d ∷ ds) order =
    let rest : below_level (suc n) ks ds ≡ below_level n ks ds ++ at_level n ks ds = below_level-more n ks ds (AllPairs-tail (λ i j. i ≤ j) k ks order) in
    elim (cases_lt k n) [
      | inl less ↦
          rw (lt-ltb k (suc n) (omega arith), lt-ltb k n less, ne_eqb k n (λ e. omega arith)) (ap (λ fs. d ∷ fs) rest)
      | inr above ↦
          elim (cases_lt n k) [
            | inl later ↦ rw (le-ltb k (suc n) (omega arith), le-ltb k n above, ne_eqb k n (λ e. omega arith)) rest
            | inr same ↦
                let none : below_level n ks ds ≡ [] = below_level-none n ks ds (All-weaker (λ j. k ≤ j) (λ j. n ≤ j) (λ j h. omega arith) ks (AllPairs-head (λ i j. i ≤ j) k ks order)) in
                rw (lt-ltb k (suc n) (omega arith), le-ltb k n above, eq-eqb k n (omega arith))
                (ap (λ fs. d ∷ fs) (rest ∙ ap (λ fs. fs ++ at_level n ks ds) none) ∙ ap (λ fs. fs ++ d ∷ at_level n ks ds) (sym none))
          ]
    ]

all_of-below : (n : ℕ) (ks : List ℕ) (ds : List Declaration) → AllPairs (λ j k. j ≤ k) ks → all_of_levels (levels_from n ks ds) ≡ below_level n ks ds
all_of-below zero ks ds order = sym (below_level-none 0 ks ds (λ k d short. omega arith))
all_of-below (suc n) ks ds order =
    flat_map-append (λ (fs : List Declaration). fs) (levels_from n ks ds) (at_level n ks ds ∷ [])
    ∙ ap (λ fs. fs ++ all_of_levels (at_level n ks ds ∷ [])) (all_of-below n ks ds order)
    ∙ ap (λ fs. below_level n ks ds ++ fs) (append-nil (at_level n ks ds)) ∙ sym (below_level-more n ks ds order)

pub all_of-levels_from : (n : ℕ) (ks : List ℕ) (ds : List Declaration) → length ks ≡ length ds → All (λ k. k < n) ks → AllPairs (λ j k. j ≤ k) ks → all_of_levels (levels_from n ks ds) ≡ ds
all_of-levels_from n ks ds size below order = all_of-below n ks ds order ∙ below_level-all n ks ds size below

-- those of the levels from 0 to k
pub all_of-up_to : (n k : ℕ) (ks : List ℕ) (ds : List Declaration) → length ks ≡ length ds → All (λ j. j < n) ks → AllPairs (λ i j. i ≤ j) ks
    → all_of_levels (take (k + 1) (levels_from n ks ds)) ≡ below_level (k + 1) ks ds
all_of-up_to n k ks ds size below order =
    elim (cases_lt k n) [
      | inl less ↦ ap all_of_levels (take-levels_from (k + 1) n ks ds (omega arith)) ∙ all_of-below (k + 1) ks ds order
      | inr above ↦
          ap all_of_levels (take_all (k + 1) (levels_from n ks ds) (omega (arith, length-levels_from n ks ds)))
          ∙ all_of-levels_from n ks ds size below order
          ∙ sym (below_level-all (k + 1) ks ds size (All-weaker (λ j. j < n) (λ j. j < k + 1) (λ j less. omega arith) ks below))
    ]
