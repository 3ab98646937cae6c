-- A table's declarations with their levels: what is true of each table, and what each call leaves.
use Rattle.std.proofs.Common.{◌≡◌, ◌≢◌, ℕ, zero, suc, ◌+◌, ◌-◌, ◌^◌, ◌<◌, ◌≤◌, min, Bool, true, false, List, [], ◌∷◌, ◌++◌, length, get_or, map, take, drop, replicate, All, None, refl, ap, ap₂, sym, ◌∙◌, subst, arith, append_assoc, append-nil, inl, inr, lit<}
use Rattle.std.specs.Prelude.{AllPairs, filter, insert}
use Rattle.std.proofs.lemmas.List.{length-take, length-drop, get_or-take, get_or-drop, take-take, take_all, drop_all, take-append-le, drop-append-le, drop-take}
use Rattle.std.proofs.lemmas.Bool.{cases_lt}
use Rattle.std.proofs.lemmas.List.Edits.{length-insert, insert_end}
use Rattle.std.proofs.lemmas.List.Elements.{All-nil, All-append, All-push, All-weaker, All-take, All-drop, All-filter}
use Rattle.std.proofs.lemmas.List.Kept.{AllPairs-filter}
use Rattle.std.proofs.lemmas.List.Quantifiers.{all_pairs_push}
use Rattle.smt_meaning.specs.Declaration.{Declaration}
use Rattle.smt_meaning.specs.Signature.{HasNoIdTwice}
use Rattle.smt_meaning.specs.Sorts.{most_symbols}
use Rattle.smt_meaning.specs.Stack.{stays}
use Rattle.smt_sorts.specs.Names.{Names, all_of_levels, signature, on_newest, on_base, base_of, gaining, with_declaration, has_id_below, AreApart, IsTable, HasGained}
use Rattle.smt_sorts.specs.Listed.{Listed, first_listed, inserted, without_range, is_named, kind_of, first_that}
use Rattle.smt_sorts.specs.Leveled.{at_level, levels_of, IsLeveled}
use Rattle.smt_sorts.proofs.PairLemmas.{AllPairs-nil, AllPairs-head, AllPairs-tail, AllPairs-take, AllPairs-insert, AllPairs-without, All-insert, All-without, take_inserted, drop_inserted, length-without, take_without, drop_without, without_first}
use Rattle.smt_sorts.proofs.ListedLemmas.{apart-insert, length-filter_le}
use Rattle.smt_sorts.proofs.LevelLemmas.{on_newest-nil, on_newest-on_newest, newest_is_base, all_of-newest, length-levels_from, levels_from-push, levels_from-base, levels_from-based, levels_from-more, levels_from-fewer, levels_from-cut, all_of-levels_from, all_at_base, at_base, IsCut}

-- ---- what is true of each table

no_id_twice : (ds : List Declaration) → AllPairs (λ (d e : Declaration). d.id ≢ e.id) ds → HasNoIdTwice ds
no_id_twice [] h = tt
no_id_twice (d ∷ ds) h = (
  AllPairs-head (λ (e f : Declaration). e.id ≢ f.id) d ds h,
  no_id_twice ds (AllPairs-tail (λ (e f : Declaration). e.id ≢ f.id) d ds h),
)

pub signature_is : (count given base : ℕ) (a : Listed) → IsLeveled count given base a → all_of_levels (levels_of count a) ≡ a.declarations
unfolding levels_of
signature_is count given base a h = all_of-levels_from count a.levels a.declarations h.size h.within h.order

pub new_inside : (count given base : ℕ) (a : Listed) (t : Names) (d : Declaration) → IsLeveled count given base a → record { levels = levels_of count a; given = given } ≡ t
    → first_that (is_named (kind_of d.is_sort) d.name) (signature t) ≡ None → first_that (is_named (kind_of d.is_sort) d.name) a.declarations ≡ None
new_inside count given base a t d h v new =
    ap (first_that (is_named (kind_of d.is_sort) d.name)) (sym (signature_is count given base a h) ∙ ap signature v) ∙ new

pub length-levels_of : (count : ℕ) (a : Listed) → length (levels_of count a) ≡ count
unfolding levels_of
length-levels_of count a = length-levels_from count a.levels a.declarations

pub IsTable-leveled : (count given base : ℕ) (a : Listed) → IsLeveled count given base a → IsTable (record { levels = levels_of count a; given = given })
IsTable-leveled count given base a h =
    let size : length (levels_of count a) ≡ count = length-levels_of count a in
    let all : a.declarations ≡ all_of_levels (levels_of count a) = sym (signature_is count given base a h) in
    let nonempty : 0 < count = h.nonempty in
    let few_levels : count < 2 ^ 32 = h.few_levels in
    record {
      nonempty = omega arith;
      few_levels = omega arith;
      few_ids = h.few_ids;
      ids_given = subst (All (λ (d : Declaration). d.id < given)) all h.ids_given;
      ids_apart = subst HasNoIdTwice all (no_id_twice a.declarations h.ids_apart);
      names_apart = subst (AllPairs AreApart) all h.apart;
    }

pub HasGained-none : (t : Names) → IsTable t → HasGained t t
HasGained-none t table = record {
  table = table;
  gained = [];
  levels = sym (on_newest-nil t.levels);
  all = sym (append-nil (signature t));
  later = All-nil (λ (d : Declaration). t.given ≤ d.id);
  given = omega arith;
}

-- ---- no declaration

pub IsLeveled-none : (given : ℕ) → given ≤ most_symbols → IsLeveled 1 given 0 (record { declarations = []; levels = [] })
IsLeveled-none given few_ids = record {
  nonempty = omega arith;
  few_levels = lit< tt;
  few_ids = few_ids;
  size = refl;
  within = All-nil (λ k. k < 1);
  order = AllPairs-nil (λ j k. j ≤ k);
  base_within = omega arith;
  at_base = All-nil (λ k. k < 1);
  above_base = All-nil (λ k. 1 ≤ k);
  ids_given = All-nil (λ (d : Declaration). d.id < given);
  ids_apart = AllPairs-nil (λ (d e : Declaration). d.id ≢ e.id);
  base_ids = AllPairs-nil (λ (d e : Declaration). d.id < e.id);
  above_ids = AllPairs-nil (λ (d e : Declaration). d.id < e.id);
  apart = AllPairs-nil AreApart;
}

-- ---- one declaration more, on level 0

module _ (count given base : ℕ) (a : Listed) (d : Declaration) (h : IsLeveled count given base a) (id : d.id ≡ given) where
  older : (ds : List Declaration) → All (λ (e : Declaration). e.id < given) ds → All (λ (e : Declaration). e.id < d.id) ds
  older ds = All-weaker (λ (e : Declaration). e.id < given) (λ (e : Declaration). e.id < d.id) (λ e less. omega arith) ds

  other : (ds : List Declaration) → All (λ (e : Declaration). e.id < given) ds → All (λ (e : Declaration). e.id ≢ d.id) ds
  other ds = All-weaker (λ (e : Declaration). e.id < given) (λ (e : Declaration). e.id ≢ d.id) (λ e less same. omega arith) ds

  another : (ds : List Declaration) → All (λ (e : Declaration). e.id < given) ds → All (λ (e : Declaration). d.id ≢ e.id) ds
  another ds = All-weaker (λ (e : Declaration). e.id < given) (λ (e : Declaration). d.id ≢ e.id) (λ e less same. omega arith) ds

  size_in : (p l : ℕ) → p ≤ length a.declarations → length (insert a.levels p l) ≡ length (insert a.declarations p d)
  size_in p l within = let size : length a.levels ≡ length a.declarations = h.size in omega (arith, length-insert a.levels p l, length-insert a.declarations p d)

  given_in : (p : ℕ) → All (λ (e : Declaration). e.id < given + 1) (insert a.declarations p d)
  given_in p = All-insert (λ (e : Declaration). e.id < given + 1) a.declarations p d (All-weaker (λ (e : Declaration). e.id < given) (λ (e : Declaration). e.id < given + 1) (λ e less. omega arith) a.declarations h.ids_given) (omega arith)

  apart_in : (p : ℕ) → AllPairs (λ (e f : Declaration). e.id ≢ f.id) (insert a.declarations p d)
  apart_in p =
      AllPairs-insert (λ (e f : Declaration). e.id ≢ f.id) a.declarations p d h.ids_apart
      (other (take p a.declarations) (All-take (λ (e : Declaration). e.id < given) p a.declarations h.ids_given))
      (another (drop p a.declarations) (All-drop (λ (e : Declaration). e.id < given) p a.declarations h.ids_given))

  rises : (ds : List Declaration) → AllPairs (λ (e f : Declaration). e.id < f.id) ds → All (λ (e : Declaration). e.id < given) ds → AllPairs (λ (e f : Declaration). e.id < f.id) (ds ++ d ∷ [])
  rises ds rise below = all_pairs_push (λ (e f : Declaration). e.id < f.id) ds d rise (older ds below)

  pub IsLeveled-base : given < most_symbols → first_that (is_named (kind_of d.is_sort) d.name) a.declarations ≡ None → IsLeveled count (given + 1) (base + 1) (inserted base d 0 a)
  IsLeveled-base room new =
      let size : length a.levels ≡ length a.declarations = h.size in
      let within : base ≤ length a.declarations = h.base_within in
      let levels_within : base ≤ length a.levels = omega arith in
      let some : 0 < count = h.nonempty in
      record {
        nonempty = h.nonempty;
        few_levels = h.few_levels;
        few_ids = omega arith;
        size = size_in base 0 within;
        within = All-insert (λ k. k < count) a.levels base 0 h.within some;
        order = AllPairs-insert (λ j k. j ≤ k) a.levels base 0 h.order (All-weaker (λ k. k < 1) (λ k. k ≤ 0) (λ k less. omega arith) (take base a.levels) h.at_base) (All-weaker (λ k. 1 ≤ k) (λ k. 0 ≤ k) (λ k less. omega arith) (drop base a.levels) h.above_base);
        base_within = omega (arith, length-insert a.declarations base d);
        at_base = subst (All (λ k. k < 1)) (sym (take_inserted a.levels base 0 levels_within)) (All-push (λ k. k < 1) (take base a.levels) 0 h.at_base (omega arith));
        above_base = subst (All (λ k. 1 ≤ k)) (sym (drop_inserted a.levels base 0 levels_within)) h.above_base;
        ids_given = given_in base;
        ids_apart = apart_in base;
        base_ids = subst (AllPairs (λ (e f : Declaration). e.id < f.id)) (sym (take_inserted a.declarations base d within)) (rises (take base a.declarations) h.base_ids (All-take (λ (e : Declaration). e.id < given) base a.declarations h.ids_given));
        above_ids = subst (AllPairs (λ (e f : Declaration). e.id < f.id)) (sym (drop_inserted a.declarations base d within)) h.above_ids;
        apart = apart-insert a.declarations base d h.apart new;
      }

  -- ---- and on the newest level, which is above

  pub IsLeveled-above : (level : ℕ) → given < most_symbols → first_that (is_named (kind_of d.is_sort) d.name) a.declarations ≡ None → level + 1 ≡ count → 1 ≤ level
      → IsLeveled count (given + 1) base (inserted (length a.declarations) d level a)
  IsLeveled-above level room new newest above =
      let size : length a.levels ≡ length a.declarations = h.size in
      let within : base ≤ length a.declarations = h.base_within in
      let last = length a.declarations in
      let all_levels : take last a.levels ≡ a.levels = take_all last a.levels (omega arith) in
      let no_levels : drop last a.levels ≡ [] = drop_all last a.levels (omega arith) in
      let first_levels : take base (insert a.levels last level) ≡ take base a.levels = take-append-le base (take last a.levels) (level ∷ drop last a.levels) (omega (arith, ap length all_levels)) ∙ ap (take base) all_levels in
      let rest_levels : drop base (insert a.levels last level) ≡ drop base a.levels ++ level ∷ [] =
      drop-append-le base (take last a.levels) (level ∷ drop last a.levels) (omega (arith, ap length all_levels)) ∙ ap₂ (λ js ks. drop base js ++ level ∷ ks) all_levels no_levels in
      let all_ds : take last a.declarations ≡ a.declarations = take_all last a.declarations (omega arith) in
      let no_ds : drop last a.declarations ≡ [] = drop_all last a.declarations (omega arith) in
      let first_ds : take base (insert a.declarations last d) ≡ take base a.declarations = take-append-le base (take last a.declarations) (d ∷ drop last a.declarations) (omega (arith, ap length all_ds)) ∙ ap (take base) all_ds in
      let rest_ds : drop base (insert a.declarations last d) ≡ drop base a.declarations ++ d ∷ [] =
      drop-append-le base (take last a.declarations) (d ∷ drop last a.declarations) (omega (arith, ap length all_ds)) ∙ ap₂ (λ es fs. drop base es ++ d ∷ fs) all_ds no_ds in
      record {
        nonempty = h.nonempty;
        few_levels = h.few_levels;
        few_ids = omega arith;
        size = size_in last level (omega arith);
        within = All-insert (λ k. k < count) a.levels last level h.within (omega arith);
        order = AllPairs-insert (λ j k. j ≤ k) a.levels last level h.order
            (All-take (λ k. k ≤ level) last a.levels (All-weaker (λ k. k < count) (λ k. k ≤ level) (λ k less. omega arith) a.levels h.within))
            (subst (All (λ k. level ≤ k)) (sym no_levels) (All-nil (λ k. level ≤ k)));
        base_within = omega (arith, length-insert a.declarations last d);
        at_base = subst (All (λ k. k < 1)) (sym first_levels) h.at_base;
        above_base = subst (All (λ k. 1 ≤ k)) (sym rest_levels) (All-push (λ k. 1 ≤ k) (drop base a.levels) level h.above_base above);
        ids_given = given_in last;
        ids_apart = apart_in last;
        base_ids = subst (AllPairs (λ (e f : Declaration). e.id < f.id)) (sym first_ds) h.base_ids;
        above_ids = subst (AllPairs (λ (e f : Declaration). e.id < f.id)) (sym rest_ds) (rises (drop base a.declarations) h.above_ids (All-drop (λ (e : Declaration). e.id < given) base a.declarations h.ids_given));
        apart = apart-insert a.declarations last d h.apart new;
      }

pub levels_of-base : (count given base : ℕ) (a : Listed) (d : Declaration) → IsLeveled count given base a → levels_of count (inserted base d 0 a) ≡ gaining true (d ∷ []) (levels_of count a)
unfolding levels_of
levels_of-base count given base a d h = go count h.nonempty
  where
    go : (n : ℕ) → 0 < n → levels_of n (inserted base d 0 a) ≡ on_base (d ∷ []) (levels_of n a)
    go zero some = absurd (omega arith)
    go (suc n) some = levels_from-base n base a.levels a.declarations d h.size h.above_base

inserted_end : (a : Listed) (d : Declaration) (level : ℕ) → length a.levels ≡ length a.declarations → inserted (length a.declarations) d level a ≡ record { declarations = a.declarations ++ d ∷ []; levels = a.levels ++ level ∷ [] }
inserted_end a d level size =
    ap₂ (λ es js. record { declarations = es; levels = js }) (insert_end a.declarations d) (ap (λ n. insert a.levels n level) (sym size) ∙ insert_end a.levels level)

pub levels_of-above : (count given base level : ℕ) (a : Listed) (d : Declaration) → IsLeveled count given base a → level + 1 ≡ count
    → levels_of count (inserted (length a.declarations) d level a) ≡ gaining false (d ∷ []) (levels_of count a)
unfolding levels_of
levels_of-above count given base level a d h at =
    let next : suc level ≡ count = omega arith in
    ap (levels_of count) (inserted_end a d level h.size)
    ∙ subst (λ n. levels_of n (record { declarations = a.declarations ++ d ∷ []; levels = a.levels ++ level ∷ [] }) ≡ on_newest (d ∷ []) (levels_of n a)) next
    (levels_from-push level a.levels a.declarations d h.size)

-- where level 0 is the newest, it is all one
pub base_or_newest : (global : Bool) (d : Declaration) (t : Names) → length t.levels ≡ 1 → with_declaration true d t ≡ with_declaration global d t
base_or_newest true d t one = refl
base_or_newest false d t one = ap (λ dss. record { levels = dss; given = t.given + 1 }) (newest_is_base (d ∷ []) t.levels one)

pub signature-named : (d : Declaration) (t new : Names) → 0 < length t.levels → new ≡ with_declaration false d t → signature new ≡ signature t ++ d ∷ []
signature-named d t new some same = ap signature same ∙ all_of-newest (d ∷ []) t.levels some

pub HasGained-declared : (t now new : Names) (d : Declaration) → HasGained t now → new ≡ with_declaration false d now → signature new ≡ signature now ++ d ∷ [] → d.id ≡ now.given → HasGained t new
HasGained-declared t now new d h same all id =
    let since : t.given ≤ now.given = h.given in
    let given : new.given ≡ now.given + 1 = ap (λ (n : Names). n.given) same in
    record {
      table = h.table;
      gained = h.gained ++ d ∷ [];
      levels = ap (λ (n : Names). n.levels) same ∙ ap (on_newest (d ∷ [])) h.levels ∙ on_newest-on_newest h.gained (d ∷ []) t.levels;
      all = all ∙ ap (λ ds. ds ++ d ∷ []) h.all ∙ append_assoc (signature t) h.gained (d ∷ []);
      later = All-push (λ (e : Declaration). t.given ≤ e.id) h.gained d h.later (omega arith);
      given = omega arith;
    }

-- ---- more and fewer levels

pub IsLeveled-more : (count given base more' : ℕ) (a : Listed) → IsLeveled count given base a → count + more' < 2 ^ 32 → IsLeveled (count + more') given base a
IsLeveled-more count given base more' a h few_levels =
    let nonempty : 0 < count = h.nonempty in
    record {
      nonempty = omega arith;
      few_levels = few_levels;
      few_ids = h.few_ids;
      size = h.size;
      within = All-weaker (λ k. k < count) (λ k. k < count + more') (λ k less. omega arith) a.levels h.within;
      order = h.order;
      base_within = h.base_within;
      at_base = h.at_base;
      above_base = h.above_base;
      ids_given = h.ids_given;
      ids_apart = h.ids_apart;
      base_ids = h.base_ids;
      above_ids = h.above_ids;
      apart = h.apart;
    }

pub levels_of-more : (count given base more' : ℕ) (a : Listed) → IsLeveled count given base a → levels_of (count + more') a ≡ levels_of count a ++ replicate more' []
unfolding levels_of
levels_of-more count given base more' a h = levels_from-more count more' a.levels a.declarations h.within

pub IsLeveled-first : (count given base count' m : ℕ) (a : Listed) → IsLeveled count given base a → 0 < count' → count' < 2 ^ 32 → All (λ k. k < count') (take (base + m) a.levels)
    → IsLeveled count' given base (first_listed (base + m) a)
IsLeveled-first count given base count' m a h nonempty few_levels within =
    let size : length a.levels ≡ length a.declarations = h.size in
    let base_within : base ≤ length a.declarations = h.base_within in
    record {
      nonempty = nonempty;
      few_levels = few_levels;
      few_ids = h.few_ids;
      size = omega (arith, length-take (base + m) a.levels, length-take (base + m) a.declarations);
      within = within;
      order = AllPairs-take (λ j k. j ≤ k) (base + m) a.levels h.order;
      base_within = omega (arith, length-take (base + m) a.declarations);
      at_base = subst (All (λ k. k < 1)) (sym (take-take base (base + m) a.levels (omega arith))) h.at_base;
      above_base = subst (All (λ k. 1 ≤ k)) (sym (drop-take base m a.levels)) (All-take (λ k. 1 ≤ k) m (drop base a.levels) h.above_base);
      ids_given = All-take (λ (d : Declaration). d.id < given) (base + m) a.declarations h.ids_given;
      ids_apart = AllPairs-take (λ (d e : Declaration). d.id ≢ e.id) (base + m) a.declarations h.ids_apart;
      base_ids = subst (AllPairs (λ (d e : Declaration). d.id < e.id)) (sym (take-take base (base + m) a.declarations (omega arith))) h.base_ids;
      above_ids = subst (AllPairs (λ (d e : Declaration). d.id < e.id)) (sym (drop-take base m a.declarations)) (AllPairs-take (λ (d e : Declaration). d.id < e.id) m (drop base a.declarations) h.above_ids);
      apart = AllPairs-take AreApart (base + m) a.declarations h.apart;
    }

-- the declarations of level 0 stand before the place where higher levels begin
base_before : (base n : ℕ) (ks : List ℕ) → All (λ k. k < 1) (take base ks) → All (λ k. 1 ≤ k) (drop n ks) → base ≤ length ks → base ≤ n
base_before base n ks below above within =
    elim (cases_lt n base) [
      | inl less ↦
          let zero' : get_or (take base ks) n 0 < 1 = below n 0 (omega (arith, length-take base ks)) in
          let at : get_or ks n 0 < 1 = rw (get_or-take base ks n 0 less) at zero' in
          let more : 1 ≤ get_or (drop n ks) 0 0 = above 0 0 (omega (arith, length-drop n ks)) in
          let also : 1 ≤ get_or ks (n + 0) 0 = rw (get_or-drop n ks 0 0) at more in
          let same : n + 0 ≡ n = omega arith in
          let here : 1 ≤ get_or ks n 0 = subst (λ k. 1 ≤ get_or ks k 0) same also in
          absurd (omega arith)
      | inr from ↦ from
    ]

pub IsLeveled-fewer : (count given base count' n : ℕ) (a : Listed) → IsLeveled count given base a → 0 < count' → count' < 2 ^ 32 → All (λ k. k < count') (take n a.levels) → All (λ k. count' ≤ k) (drop n a.levels)
    → IsLeveled count' given base (first_listed n a)
IsLeveled-fewer count given base count' n a h nonempty few_levels within above =
    let size : length a.levels ≡ length a.declarations = h.size in
    let base_within : base ≤ length a.declarations = h.base_within in
    let before : base ≤ n = base_before base n a.levels h.at_base (All-weaker (λ k. count' ≤ k) (λ k. 1 ≤ k) (λ k more. omega arith) (drop n a.levels) above) (omega arith) in
    let same : base + (n - base) ≡ n = omega arith in
    subst (λ k. IsLeveled count' given base (first_listed k a)) same
    (IsLeveled-first count given base count' (n - base) a h nonempty few_levels (subst (λ k. All (λ j. j < count') (take k a.levels)) (sym same) within))

pub levels_of-fewer : (count given base m n : ℕ) (a : Listed) → IsLeveled count given base a → m ≤ count → All (λ k. m ≤ k) (drop n a.levels) → levels_of m (first_listed n a) ≡ take m (levels_of count a)
unfolding levels_of
levels_of-fewer count given base m n a h fewer above = levels_from-fewer m count n a.levels a.declarations fewer h.size above

-- ---- fewer ids

pub IsLeveled-without : (count given base b : ℕ) (a : Listed) → IsLeveled count given base a → b ≤ base → IsLeveled count given b (without_range b base a)
IsLeveled-without count given base b a h fewer =
    let size : length a.levels ≡ length a.declarations = h.size in
    let within : base ≤ length a.declarations = h.base_within in
    let levels_within : b ≤ length a.levels = omega arith in
    let ds_within : b ≤ length a.declarations = omega arith in
    record {
      nonempty = h.nonempty;
      few_levels = h.few_levels;
      few_ids = h.few_ids;
      size = omega (arith, length-without a.levels b base fewer (omega arith), length-without a.declarations b base fewer within);
      within = All-without (λ k. k < count) a.levels b base h.within;
      order = AllPairs-without (λ j k. j ≤ k) a.levels b base fewer h.order;
      base_within = omega (arith, length-without a.declarations b base fewer within);
      at_base = subst (All (λ k. k < 1)) (take-take b base a.levels fewer ∙ sym (take_without a.levels b base levels_within)) (All-take (λ k. k < 1) b (take base a.levels) h.at_base);
      above_base = subst (All (λ k. 1 ≤ k)) (sym (drop_without a.levels b base levels_within)) h.above_base;
      ids_given = All-without (λ (d : Declaration). d.id < given) a.declarations b base h.ids_given;
      ids_apart = AllPairs-without (λ (d e : Declaration). d.id ≢ e.id) a.declarations b base fewer h.ids_apart;
      base_ids = subst (AllPairs (λ (d e : Declaration). d.id < e.id)) (take-take b base a.declarations fewer ∙ sym (take_without a.declarations b base ds_within)) (AllPairs-take (λ (d e : Declaration). d.id < e.id) b (take base a.declarations) h.base_ids);
      above_ids = subst (AllPairs (λ (d e : Declaration). d.id < e.id)) (sym (drop_without a.declarations b base ds_within)) h.above_ids;
      apart = AllPairs-without AreApart a.declarations b base fewer h.apart;
    }

pub IsLeveled-given : (count given given' base : ℕ) (a : Listed) → IsLeveled count given base a → given' ≤ given → All (λ (d : Declaration). d.id < given') a.declarations → IsLeveled count given' base a
IsLeveled-given count given given' base a h fewer ids_given =
    let few_ids : given ≤ most_symbols = h.few_ids in
    record {
      nonempty = h.nonempty;
      few_levels = h.few_levels;
      few_ids = omega (arith, few_ids, fewer);
      size = h.size;
      within = h.within;
      order = h.order;
      base_within = h.base_within;
      at_base = h.at_base;
      above_base = h.above_base;
      ids_given = ids_given;
      ids_apart = h.ids_apart;
      base_ids = h.base_ids;
      above_ids = h.above_ids;
      apart = h.apart;
    }

-- what is left where later ids are taken away
abbrev pub cut_at : ℕ → ℕ → ℕ → Listed → Listed
cut_at base b m a = without_range b base (first_listed (base + m) a)

pub levels_of-cut : (count given ids base b m : ℕ) (a : Listed) → IsLeveled count given base a → b ≤ base → IsCut ids base b m a.declarations
    → levels_of count (cut_at base b m a) ≡ map (λ (ds : List Declaration). filter (has_id_below ids) ds) (levels_of count a)
unfolding levels_of
levels_of-cut count given ids base b m a h fewer cut =
    ap₂ (λ js es. levels_of count (record { declarations = es; levels = js })) (without_first a.levels b base m fewer) (without_first a.declarations b base m fewer)
    ∙ levels_from-cut ids count base b m a.levels a.declarations h.size cut

pub IsLeveled-cut : (count given given' ids base b m : ℕ) (a : Listed) → IsLeveled count given base a → b ≤ base → IsCut ids base b m a.declarations → given' ≡ min given ids
    → IsLeveled count given' b (cut_at base b m a)
IsLeveled-cut count given given' ids base b m a h fewer cut least =
    let first = IsLeveled-first count given base count m a h h.nonempty h.few_levels (All-take (λ k. k < count) (base + m) a.levels h.within) in
    let left = IsLeveled-without count given base b (first_listed (base + m) a) first fewer in
    let ids_below : All (λ (d : Declaration). d.id < ids) (cut_at base b m a).declarations =
    subst (All (λ (d : Declaration). d.id < ids)) (sym (without_first a.declarations b base m fewer))
    (All-append (λ (d : Declaration). d.id < ids) (take b (take base a.declarations)) (take m (drop base a.declarations)) cut.base_below cut.below) in
    IsLeveled-given count given given' b (cut_at base b m a) left (omega arith)
    (λ k d short. let one : (get_or (cut_at base b m a).declarations k d).id < ids = ids_below k d short in let two : (get_or (cut_at base b m a).declarations k d).id < given = left.ids_given k d short in omega (arith, one, two, least))

-- ---- level 0 alone

-- level 0 without names
abbrev pub based_at : ℕ → Listed → Listed
based_at base a = record {
  declarations = filter stays (take base a.declarations);
  levels = take (length (filter stays (take base a.declarations))) (take base a.levels);
}

pub IsLeveled-based : (count given base : ℕ) (a : Listed) → IsLeveled count given base a → IsLeveled 1 given (length (filter stays (take base a.declarations))) (based_at base a)
IsLeveled-based count given base a h =
    let size : length a.levels ≡ length a.declarations = h.size in
    let left = length (filter stays (take base a.declarations)) in
    let few : left ≤ length (take base a.declarations) = length-filter_le stays (take base a.declarations) in
    let same_size : length (take left (take base a.levels)) ≡ left = omega (arith, few, length-take left (take base a.levels), length-take base a.levels, length-take base a.declarations) in
    let zeros : All (λ k. k < 1) (take left (take base a.levels)) = All-take (λ k. k < 1) left (take base a.levels) h.at_base in
    let no_levels : drop left (take left (take base a.levels)) ≡ [] = drop_all left (take left (take base a.levels)) (omega arith) in
    let no_ds : drop left (filter stays (take base a.declarations)) ≡ [] = drop_all left (filter stays (take base a.declarations)) (omega arith) in
    let all_ds : take left (filter stays (take base a.declarations)) ≡ filter stays (take base a.declarations) = take_all left (filter stays (take base a.declarations)) (omega arith) in
    record {
      nonempty = omega arith;
      few_levels = lit< tt;
      few_ids = h.few_ids;
      size = same_size;
      within = zeros;
      order = AllPairs-take (λ j k. j ≤ k) left (take base a.levels) (AllPairs-take (λ j k. j ≤ k) base a.levels h.order);
      base_within = omega arith;
      at_base = All-take (λ k. k < 1) left (take left (take base a.levels)) zeros;
      above_base = subst (All (λ k. 1 ≤ k)) (sym no_levels) (All-nil (λ k. 1 ≤ k));
      ids_given = All-filter stays (λ (d : Declaration). d.id < given) (take base a.declarations) (All-take (λ (d : Declaration). d.id < given) base a.declarations h.ids_given);
      ids_apart = AllPairs-filter (λ (d e : Declaration). d.id ≢ e.id) stays (take base a.declarations) (AllPairs-take (λ (d e : Declaration). d.id ≢ e.id) base a.declarations h.ids_apart);
      base_ids = subst (AllPairs (λ (d e : Declaration). d.id < e.id)) (sym all_ds) (AllPairs-filter (λ (d e : Declaration). d.id < e.id) stays (take base a.declarations) h.base_ids);
      above_ids = subst (AllPairs (λ (d e : Declaration). d.id < e.id)) (sym no_ds) (AllPairs-nil (λ (d e : Declaration). d.id < e.id));
      apart = AllPairs-filter AreApart stays (take base a.declarations) (AllPairs-take AreApart base a.declarations h.apart);
    }

pub levels_of-based : (count given base : ℕ) (a : Listed) → IsLeveled count given base a → levels_of 1 (based_at base a) ≡ base_of (levels_of count a)
unfolding levels_of
levels_of-based count given base a h =
    let b = IsLeveled-based count given base a h in
    ap (λ es. es ∷ []) (all_at_base (based_at base a).levels (based_at base a).declarations b.size b.within ∙ ap (filter stays) (sym (at_base base a.levels a.declarations h.size h.at_base h.above_base)))
    ∙ sym (go count h.nonempty)
  where
    go : (n : ℕ) → 0 < n → base_of (levels_of n a) ≡ filter stays (at_level 0 a.levels a.declarations) ∷ []
    go zero some = absurd (omega arith)
    go (suc n) some = levels_from-based n a.levels a.declarations
