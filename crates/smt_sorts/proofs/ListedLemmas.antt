-- A list of declarations with levels: one more, the first of them, and some taken away.
use Rattle.std.proofs.Common.{◌≡◌, ℕ, ◌+◌, ◌≤◌, min, Bool, true, false, cond, List, [], ◌∷◌, ◌++◌, length, get_or, map, take, drop, All, None, sym, ap, ◌∙◌, inl, inr, arith}
use Rattle.std.specs.Prelude.{AllPairs, insert, filter}
use Rattle.std.proofs.lemmas.List.{length-take, take-take, take_all, take-map}
use Rattle.std.proofs.lemmas.Bool.{cases_lt}
use Rattle.std.proofs.lemmas.List.Edits.{length-insert}
use Rattle.std.proofs.lemmas.List.Elements.{All-take, All-drop, All-weaker}
use Rattle.std.proofs.lemmas.List.Kept.{AllPairs-filter}
use Rattle.smt_meaning.specs.Declaration.{Declaration}
use Rattle.smt_meaning.specs.Stack.{stays}
use Rattle.smt_sorts.specs.Names.{AreApart}
use Rattle.smt_sorts.specs.Listed.{is_named, kind_of, first_that, hash_of, IsListed}
use Rattle.smt_sorts.proofs.FindLemmas.{none_passes, apart_unnamed}
use Rattle.smt_sorts.proofs.PairLemmas.{AllPairs-take, AllPairs-insert, AllPairs-without, length-without}

-- what stays of an index where a list is the same up to a place
pub hashed_before : (ds es : List Declaration) (hashes : List ℕ) (place indexed m : ℕ) → hashes ≡ map hash_of (take indexed ds) → take place es ≡ take place ds → m ≡ min indexed place
    → take place hashes ≡ map hash_of (take m es)
hashed_before ds es hashes place indexed m hashed same least =
    ap (take place) hashed ∙ take-map hash_of place (take indexed ds) ∙ ap (map hash_of) (first place indexed m same least)
  where
    first : (place indexed m : ℕ) → take place es ≡ take place ds → m ≡ min indexed place → take place (take indexed ds) ≡ take m es
    first place indexed m same least =
        elim (cases_lt indexed place) [
          | inl less ↦
              let at : m ≡ indexed = omega arith in
              take_all place (take indexed ds) (omega (arith, length-take indexed ds)) ∙ sym (take-take indexed place ds (omega arith))
              ∙ ap (take indexed) (sym same) ∙ take-take indexed place es (omega arith) ∙ ap (λ n. take n es) (sym at)
          | inr above ↦
              let at : m ≡ place = omega arith in
              take-take place indexed ds above ∙ sym same ∙ ap (λ n. take n es) (sym at)
        ]

apart_new : (ds : List Declaration) (d : Declaration) → first_that (is_named (kind_of d.is_sort) d.name) ds ≡ None → All (λ (e : Declaration). AreApart e d) ds
apart_new ds d new k e short = apart_unnamed (get_or ds k e) d (none_passes (is_named (kind_of d.is_sort) d.name) ds new k e short)

pub AreApart-sym : (d e : Declaration) → AreApart d e → AreApart e d
AreApart-sym d e apart names kinds = apart (sym names) (sym kinds)

pub apart-insert : (ds : List Declaration) (n : ℕ) (d : Declaration) → AllPairs AreApart ds → first_that (is_named (kind_of d.is_sort) d.name) ds ≡ None → AllPairs AreApart (insert ds n d)
apart-insert ds n d apart new =
    AllPairs-insert AreApart ds n d apart (All-take (λ (e : Declaration). AreApart e d) n ds (apart_new ds d new))
    (All-weaker (λ (e : Declaration). AreApart e d) (AreApart d) (λ e h. AreApart-sym e d h) (drop n ds) (All-drop (λ (f : Declaration). AreApart f d) n ds (apart_new ds d new)))

pub IsListed-insert : (ds : List Declaration) (levels hashes after : List ℕ) (indexed m n : ℕ) (d : Declaration) (level : ℕ) → IsListed ds levels hashes indexed → n ≤ length ds
    → first_that (is_named (kind_of d.is_sort) d.name) ds ≡ None → m ≤ length (insert ds n d) → after ≡ map hash_of (take m (insert ds n d)) → IsListed (insert ds n d) (insert levels n level) after m
IsListed-insert ds levels hashes after indexed m n d level listed within new few hashed =
    let size : length levels ≡ length ds = listed.size in
    record {
      size = omega (arith, length-insert levels n level, length-insert ds n d);
      apart = apart-insert ds n d listed.apart new;
      within = few;
      hashed = hashed;
    }

pub IsListed-take : (ds : List Declaration) (levels hashes : List ℕ) (indexed m n : ℕ) → IsListed ds levels hashes indexed → m ≡ min indexed n → IsListed (take n ds) (take n levels) (take n hashes) m
IsListed-take ds levels hashes indexed m n listed least =
    let size : length levels ≡ length ds = listed.size in
    let within : indexed ≤ length ds = listed.within in
    record {
      size = omega (arith, length-take n levels, length-take n ds);
      apart = AllPairs-take AreApart n ds listed.apart;
      within = omega (arith, length-take n ds);
      hashed = hashed_before ds (take n ds) hashes n indexed m listed.hashed (take-take n n ds (omega arith)) least;
    }

pub IsListed-without : (ds : List Declaration) (levels hashes after : List ℕ) (indexed m from to : ℕ) → IsListed ds levels hashes indexed → from ≤ to → to ≤ length ds
    → m ≤ length (take from ds ++ drop to ds) → after ≡ map hash_of (take m (take from ds ++ drop to ds)) → IsListed (take from ds ++ drop to ds) (take from levels ++ drop to levels) after m
IsListed-without ds levels hashes after indexed m from to listed order within few hashed =
    let size : length levels ≡ length ds = listed.size in
    record {
      size = omega (arith, length-without levels from to order (omega arith), length-without ds from to order within);
      apart = AllPairs-without AreApart ds from to order listed.apart;
      within = few;
      hashed = hashed;
    }

filter_le : (p : Declaration → Bool) (d : Declaration) (ds : List Declaration) (b : Bool) → length (filter p ds) ≤ length ds → length (cond b (d ∷ filter p ds) (filter p ds)) ≤ length ds + 1
filter_le p d ds true h = omega (arith, h)
filter_le p d ds false h = omega (arith, h)

pub length-filter_le : (p : Declaration → Bool) (ds : List Declaration) → length (filter p ds) ≤ length ds
length-filter_le p [] = omega arith
length-filter_le p (d ∷ ds) = let h : length (cond (p d) (d ∷ filter p ds) (filter p ds)) ≤ length ds + 1 = filter_le p d ds (p d) (length-filter_le p ds) in omega (arith, h)

pub IsListed-names : (ds : List Declaration) (levels hashes after : List ℕ) (indexed m n : ℕ) → IsListed ds levels hashes indexed → n ≡ length (filter stays ds)
    → m ≤ length (filter stays ds) → after ≡ map hash_of (take m (filter stays ds)) → IsListed (filter stays ds) (take n levels) after m
IsListed-names ds levels hashes after indexed m n listed left few hashed =
    let size : length levels ≡ length ds = listed.size in
    record {
      size = omega (arith, length-take n levels, length-filter_le stays ds);
      apart = AllPairs-filter AreApart stays ds listed.apart;
      within = few;
      hashed = hashed;
    }
