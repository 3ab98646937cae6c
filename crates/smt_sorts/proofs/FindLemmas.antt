-- The first declaration that passes a test, and the walk along the places of a hash that finds it.
use Rattle.std.proofs.Common.{◌≡◌, ℕ, zero, suc, ◌<◌, ◌≤◌, Bool, true, false, not, List, [], ◌∷◌, ◌++◌, length, get_or, map, All, Option, Some, None, refl, sym, ap, ◌∙◌, inl, inr, arith}
use Rattle.std.specs.Prelude.{if◌then◌else◌, bytes_eq, AllPairs}
use Rattle.std.proofs.lemmas.List.{get_or-map, length-map}
use Rattle.std.proofs.lemmas.List.Elements.{All-head, All-tail}
use Rattle.std.proofs.lemmas.Bool.{cases_lt, and_parts, and_from, false_from_ne_true, not-true}
use Rattle.std.proofs.lemmas.Slice.Eq.{bytes_eq-Decides}
use Rattle.smt_meaning.specs.Declaration.{Declaration}
use Rattle.term_store.specs.Latest.{latest, last_place}
use Rattle.term_store.proofs.LatestLemmas.{latest_le, latest_finds, latest_sent}
use Rattle.smt_sorts.specs.declared.entries.Kind.{Kind}
use Rattle.smt_sorts.specs.declared.entries.Kind.TheVariants.{Function, Sort}
use Rattle.smt_sorts.specs.Names.{AreApart}
use Rattle.smt_sorts.specs.Listed.{is_of_kind, is_named, kind_of, first_that, name_hash, hash_of}

-- ---- the first that passes

pub first_at : (p : Declaration → Bool) (ds : List Declaration) (i : ℕ) (d : Declaration) → i < length ds → p (get_or ds i d) ≡ true → ((j : ℕ) → j < i → p (get_or ds j d) ≡ false)
    → first_that p ds ≡ Some (get_or ds i d)
first_at p [] i d short named before = absurd (omega arith)
first_at p (e ∷ ds) zero d short named before = ap (λ b. if b then Some e else first_that p ds) named
first_at p (e ∷ ds) (suc i) d short named before =
    ap (λ b. if b then Some e else first_that p ds) (before 0 (omega arith)) ∙ first_at p ds i d (omega arith) named (λ j less. before (suc j) (omega arith))

pub first_none : (p : Declaration → Bool) (ds : List Declaration) → All (λ (d : Declaration). p d ≡ false) ds → first_that p ds ≡ None
first_none p [] none = refl
first_none p (d ∷ ds) none =
    ap (λ b. if b then Some d else first_that p ds) (All-head (λ (e : Declaration). p e ≡ false) d ds none) ∙ first_none p ds (All-tail (λ (e : Declaration). p e ≡ false) d ds none)

none_here : (p : Declaration → Bool) (d : Declaration) (ds : List Declaration) (b : Bool) → (if b then Some d else first_that p ds) ≡ None → (b ≡ false) × (first_that p ds ≡ None)
none_here p d ds true e = cc
none_here p d ds false e = (refl, e)

pub none_passes : (p : Declaration → Bool) (ds : List Declaration) → first_that p ds ≡ None → All (λ (d : Declaration). p d ≡ false) ds
none_passes p [] e k d short = absurd (omega arith)
none_passes p (f ∷ ds) e zero d short = (none_here p f ds (p f) e).0
none_passes p (f ∷ ds) e (suc k) d short = none_passes p ds (none_here p f ds (p f) e).1 k d (omega arith)

-- in two lists, one behind the other
pub first_behind : (p : Declaration → Bool) (ds es : List Declaration) → first_that p ds ≡ None → first_that p (ds ++ es) ≡ first_that p es
first_behind p [] es none = refl
first_behind p (d ∷ ds) es none =
    let here = none_here p d ds (p d) none in
    ap (λ b. if b then Some d else first_that p (ds ++ es)) here.0 ∙ first_behind p ds es here.1

some_stays : (d e : Declaration) (b : Bool) (o o' : Option Declaration) → (o ≡ Some e → o' ≡ Some e) → (if b then Some d else o) ≡ Some e → (if b then Some d else o') ≡ Some e
some_stays d e true o o' h k = k
some_stays d e false o o' h k = h k

pub first_before : (p : Declaration → Bool) (ds es : List Declaration) (e : Declaration) → first_that p ds ≡ Some e → first_that p (ds ++ es) ≡ Some e
first_before p [] es e found = absurd (cc)
first_before p (d ∷ ds) es e found = some_stays d e (p d) (first_that p ds) (first_that p (ds ++ es)) (first_before p ds es e) found

-- ---- names

same_kind : (k : Kind) (d e : Declaration) → is_of_kind k d ≡ true → is_of_kind k e ≡ true → d.is_sort ≡ e.is_sort
same_kind Sort d e one other = cc
same_kind Function d e one other = not-true d.is_sort one ∙ sym (not-true e.is_sort other)

named_name : (k : Kind) (n : List ℕ) (d : Declaration) → is_named k n d ≡ true → n ≡ d.name
named_name k n d named = (bytes_eq-Decides n d.name).0 (and_parts (bytes_eq n d.name) (is_of_kind k d) named).0

pub named_once : (k : Kind) (n : List ℕ) (d e : Declaration) → AreApart d e → is_named k n e ≡ true → is_named k n d ≡ false
named_once k n d e apart named =
    false_from_ne_true (is_named k n d)
    (λ also. apart (sym (named_name k n d also) ∙ named_name k n e named)
    (same_kind k d e (and_parts (bytes_eq n d.name) (is_of_kind k d) also).1 (and_parts (bytes_eq n e.name) (is_of_kind k e) named).1))

kind_of_own : (d : Declaration) (b : Bool) → d.is_sort ≡ b → is_of_kind (kind_of b) d ≡ true
kind_of_own d true e = e
kind_of_own d false e = ap not e

-- a declaration that isn't found under the name of another of its kind is apart from it
pub apart_unnamed : (d e : Declaration) → is_named (kind_of e.is_sort) e.name d ≡ false → AreApart d e
apart_unnamed d e unnamed names kinds =
    let named : is_named (kind_of e.is_sort) e.name d ≡ true =
    and_from (bytes_eq e.name d.name) (is_of_kind (kind_of e.is_sort) d) ((bytes_eq-Decides e.name d.name).1 (sym names)) (kind_of_own d e.is_sort kinds) in
    cc

-- ---- the walk

named_hash : (k : Kind) (n : List ℕ) (d : Declaration) → is_named k n d ≡ true → hash_of d ≡ name_hash n
named_hash k n d named = ap name_hash (sym (named_name k n d named))

-- no place from the link on passes
pub record Seeks (ds : List Declaration) (hashes : List ℕ) (k : Kind) (n : List ℕ) (link : ℕ) : Type 0 where
  pub within : link ≤ length ds
  pub sent : (j : ℕ) → link ≡ suc j → get_or hashes j 0 ≡ name_hash n
  pub passed : (i : ℕ) (d : Declaration) → link ≤ i → i < length ds → is_named k n (get_or ds i d) ≡ false

hash_at : (ds : List Declaration) (hashes : List ℕ) (i : ℕ) (d : Declaration) → hashes ≡ map hash_of ds → i < length ds → get_or hashes i 0 ≡ hash_of (get_or ds i d)
hash_at ds hashes i d hashed short = ap (λ hs. get_or hs i 0) hashed ∙ get_or-map hash_of ds i d 0 short

-- below a bound, a place behind the last one of the hash doesn't pass
behind_last : (ds : List Declaration) (hashes : List ℕ) (k : Kind) (n : List ℕ) (m i : ℕ) (d : Declaration) → hashes ≡ map hash_of ds → i < length ds → i < m
    → last_place hashes (name_hash n) m ≤ i → is_named k n (get_or ds i d) ≡ false
behind_last ds hashes k n m i d hashed short below behind =
    false_from_ne_true (is_named k n (get_or ds i d))
    (λ named.
    let found : i < latest (λ j. get_or hashes j 0) (name_hash n) m = latest_finds (λ j. get_or hashes j 0) (name_hash n) m i below (hash_at ds hashes i d hashed short ∙ named_hash k n (get_or ds i d) named) in
    omega arith)

pub seeks_start : (ds : List Declaration) (hashes : List ℕ) (k : Kind) (n : List ℕ) (hash link : ℕ) → hashes ≡ map hash_of ds → hash ≡ name_hash n → link ≡ last_place hashes hash (length hashes)
    → Seeks ds hashes k n link
seeks_start ds hashes k n hash link hashed same last =
    let size : length hashes ≡ length ds = ap length hashed ∙ length-map ds hash_of in
    let here : link ≡ last_place hashes (name_hash n) (length hashes) = last ∙ ap (λ h. last_place hashes h (length hashes)) same in
    let below : latest (λ j. get_or hashes j 0) (name_hash n) (length hashes) ≤ length hashes = latest_le (λ j. get_or hashes j 0) (name_hash n) (length hashes) in
    record {
      within = omega arith;
      sent = λ j e. latest_sent (λ i. get_or hashes i 0) (name_hash n) (length hashes) j (sym here ∙ e);
      passed = λ i d from short. behind_last ds hashes k n (length hashes) i d hashed short (omega arith) (omega arith);
    }

pub record Next (ds : List Declaration) (hashes : List ℕ) (k : Kind) (n : List ℕ) (link next : ℕ) : Type 0 where
  pub less : next < link
  pub seeks : Seeks ds hashes k n next

pub seeks_next : (ds : List Declaration) (hashes : List ℕ) (k : Kind) (n : List ℕ) (link next j : ℕ) → hashes ≡ map hash_of ds → Seeks ds hashes k n link → link ≡ suc j
    → ((d : Declaration) → is_named k n (get_or ds j d) ≡ false) → next ≡ last_place hashes (get_or hashes j 0) j → Next ds hashes k n link next
seeks_next ds hashes k n link next j hashed s at other last =
    let within : link ≤ length ds = s.within in
    let here : next ≡ last_place hashes (name_hash n) j = last ∙ ap (λ h. last_place hashes h j) (s.sent j at) in
    let below : latest (λ i. get_or hashes i 0) (name_hash n) j ≤ j = latest_le (λ i. get_or hashes i 0) (name_hash n) j in
    record {
      less = omega arith;
      seeks = record {
        within = omega arith;
        sent = λ i e. latest_sent (λ i. get_or hashes i 0) (name_hash n) j i (sym here ∙ e);
        passed = λ i d from short.
            elim (cases_lt i link) [
              | inr above ↦ s.passed i d above short
              | inl under ↦
                  elim (cases_lt i j) [
                    | inl less ↦ behind_last ds hashes k n j i d hashed short less (omega arith)
                    | inr more' ↦ let last' : j ≡ i = omega arith in ap (λ m. is_named k n (get_or ds m d)) (sym last') ∙ other d
                  ]
            ];
      };
    }

pub seeks_end : (ds : List Declaration) (hashes : List ℕ) (k : Kind) (n : List ℕ) (link : ℕ) → Seeks ds hashes k n link → link ≡ 0 → first_that (is_named k n) ds ≡ None
seeks_end ds hashes k n link s e = first_none (is_named k n) ds (λ i d short. s.passed i d (omega arith) short)

pub first_named : (ds : List Declaration) (k : Kind) (n : List ℕ) (i : ℕ) (d : Declaration) → AllPairs AreApart ds → i < length ds → d ≡ get_or ds i d → is_named k n d ≡ true
    → first_that (is_named k n) ds ≡ Some d
first_named ds k n i d apart short here named =
    let at : is_named k n (get_or ds i d) ≡ true = ap (is_named k n) (sym here) ∙ named in
    first_at (is_named k n) ds i d short at (λ j less. named_once k n (get_or ds j d) (get_or ds i d) (apart j i d less short) at) ∙ ap Some (sym here)
