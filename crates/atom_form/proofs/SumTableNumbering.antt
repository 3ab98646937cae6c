-- The search for a sum, and a sum more.
use Rattle.std.proofs.Common.{◌≡◌, ◌≢◌, ℕ, Bool, true, false, ◌+◌, ◌-◌, ◌<◌, ◌≤◌, List, [], ◌∷◌, ◌++◌, length, get_or, take, drop, map, suc, sym, ap, subst, ◌∙◌, inl, inr, arith, refl}
use Rattle.std.specs.Prelude.{Contains, ◌⊎◌, slice_range}
use Rattle.std.proofs.lemmas.Bool.{cases_lt}
use Rattle.std.proofs.lemmas.List.{get_or_default, get_or-map, length-map, map-append, length_push, get_or_push, get_or_append_left, length-append, length-drop, take-append-le, drop-append-le, drop_at, take_all}
use Rattle.std.proofs.lemmas.List.Quantifiers.{all_pairs_push}
use Rattle.term_store.specs.Latest.{last_place}
use Rattle.smt_meaning.specs.declared.clauses.Summand.{Summand}
use Rattle.atom_form.specs.declared.sum_table.Span.{Span}
use Rattle.atom_form.specs.SumTableHash.{sum_hash}
use Rattle.atom_form.specs.Sums.{IsAt, Numbered, IsTable, AreApart, AreLaid, sum_in, sums_in}
use Rattle.term_store.proofs.Links.{IsLink, Goes, goes, goes_on}

-- the sum isn't at a place from the link on
pub record Passed (sums : List (List Summand)) (keys : List ℕ) (s : List Summand) (hash link : ℕ) : Type 0 where
  pub is_link : IsLink keys hash link
  pub passed : (k : ℕ) (d : List Summand) → link ≤ k → k < length sums → get_or sums k d ≢ s

module _ (sums : List (List Summand)) (keys : List ℕ) (s : List Summand) (hash : ℕ) (hashed : keys ≡ map sum_hash sums) (is_hash : hash ≡ sum_hash s) where
  length-keys : length keys ≡ length sums
  length-keys = ap length hashed ∙ length-map sums sum_hash

  key_at : (k : ℕ) (d : List Summand) → k < length sums → get_or sums k d ≡ s → get_or keys k 0 ≡ hash
  key_at k d h e = ap (λ xs. get_or xs k 0) hashed ∙ get_or-map sum_hash sums k d 0 h ∙ ap sum_hash e ∙ sym is_hash

  pub passed_start : (link : ℕ) → link ≡ last_place keys hash (length keys) → Passed sums keys s hash link
  passed_start link e =
      let g = goes keys hash (length keys) link (omega arith) e in
      record { is_link = g.is_link; passed = λ k d above less same. g.others k above (omega (arith, length-keys)) (key_at k d less same) }

  pub passed_on : (link next : ℕ) (x : List Summand) (b : Bool) → Passed sums keys s hash link → 0 < link → IsAt sums (link - 1) x → (x ≡ s → b ≡ true) → b ≡ false
      → next ≡ last_place keys (get_or keys (link - 1) 0) (link - 1) → Passed sums keys s hash next × (next < link)
  passed_on link next x b p some at found not_found e =
      let g = goes_on keys hash link next p.is_link some e in
      let down = g.down in
      (record { is_link = g.is_link; passed = λ k d above less same. by g k d above less same (cases_lt k (link - 1)) (cases_lt k link) }, omega arith)
    where
      by : Goes keys hash (link - 1) next → (k : ℕ) (d : List Summand) → next ≤ k → k < length sums → get_or sums k d ≡ s → (k < link - 1) ⊎ (link - 1 ≤ k) → (k < link) ⊎ (link ≤ k) → ⊥
      by g k d above less same (inl below) u = g.others k above below (key_at k d less same)
      by g k d above less same (inr from) (inl below) =
          let here : link - 1 ≡ k = omega arith in
          let t : b ≡ true = found (sym (at.1 d) ∙ ap (λ n. get_or sums n d) here ∙ same) in
          let f : true ≡ false = sym t ∙ not_found in
          cc
      by g k d above less same (inr from) (inr beyond) = p.passed k d beyond less same

  pub passed_all : (link : ℕ) → Passed sums keys s hash link → link ≤ 0 → Contains sums s → ⊥
  passed_all link p none (k, h, e) = p.passed k s (omega arith) h e

  -- a link within the places
  pub link_within : (link : ℕ) → Passed sums keys s hash link → link ≤ length sums
  link_within link p = let a = p.is_link.within in omega (arith, length-keys)

-- ---- the list of summands

pub length-sums : (all : List Summand) (spans : List Span) → length (sums_in all spans) ≡ length spans
length-sums all spans = length-map spans (sum_in all)

pub read_at : (all : List Summand) (spans : List Span) (k : ℕ) (d : Span) (s : List Summand) → k < length spans → s ≡ sum_in all (get_or spans k d) → IsAt (sums_in all spans) k s
read_at all spans k d s h e = (omega (arith, length-sums all spans), λ x. get_or-map (sum_in all) spans k d x h ∙ sym e)

-- a part of a list is the same part of the longer list
range-append : (xs ys : List Summand) (i j : ℕ) → i ≤ j → j ≤ length xs → slice_range (xs ++ ys) i j ≡ slice_range xs i j
range-append xs ys i j o h = ap (take (j - i)) (drop-append-le i xs ys (omega arith)) ∙ take-append-le (j - i) (drop i xs) ys (omega (arith, length-drop i xs))

-- the part behind a list
range-behind : (xs ys : List Summand) (i j : ℕ) → i ≡ length xs → j ≡ length (xs ++ ys) → slice_range (xs ++ ys) i j ≡ ys
range-behind xs ys i j e f =
    ap (λ k. take (j - k) (drop k (xs ++ ys))) e ∙ ap (take (j - length xs)) (drop_at xs ys (length xs) refl) ∙ take_all (j - length xs) ys (omega (arith, length-append xs ys))

laid_head : (size : ℕ) (s : Span) (ss : List Span) → AreLaid size (s ∷ ss) → s.end ≤ size
laid_head size s ss l = l.ends 0 s (omega arith)

laid_tail : (size : ℕ) (s : Span) (ss : List Span) → AreLaid size (s ∷ ss) → AreLaid size ss
laid_tail size s ss l = record { starts = λ k d h. l.starts (suc k) d (omega arith); ends = λ k d h. l.ends (suc k) d (omega arith) }

sums-append : (all more : List Summand) (spans : List Span) → AreLaid (length all) spans → sums_in (all ++ more) spans ≡ sums_in all spans
sums-append all more [] l = refl
sums-append all more (s ∷ ss) l =
    ap (λ x. x ∷ sums_in (all ++ more) ss) (range-append all more s.start s.end (l.starts 0 s (omega arith)) (laid_head (length all) s ss l)) ∙ ap (λ xs. sum_in all s ∷ xs) (sums-append all more ss (laid_tail (length all) s ss l))

-- ---- a sum more

module _ (all : List Summand) (spans : List Span) (keys : List ℕ) (t : IsTable all spans keys) (s : List Summand) (new : Contains (sums_in all spans) s → ⊥) where
  module _ (more : List Summand) (longer : List Span) (hash : ℕ) (is_hash : hash ≡ sum_hash s) (e : more ≡ all ++ s) (f : longer ≡ spans ++ record { start = length all; end = length more } ∷ []) where
    pub sums_push : sums_in more longer ≡ sums_in all spans ++ s ∷ []
    sums_push =
        ap (sums_in more) f ∙ map-append (sum_in more) spans (record { start = length all; end = length more } ∷ [])
        ∙ ap (λ xs. xs ++ slice_range more (length all) (length more) ∷ []) (ap (λ x. sums_in x spans) e ∙ sums-append all s spans t.laid)
        ∙ ap (λ x. sums_in all spans ++ x ∷ []) (ap (λ x. slice_range x (length all) (length more)) e ∙ range-behind all s (length all) (length more) refl (ap length e))

    laid_push : AreLaid (length more) longer
    laid_push = record {
      starts = λ k d h. subst (λ xs. (get_or xs k d).start ≤ (get_or xs k d).end) (sym f) (start_at k d (cases_lt k (length spans)) (subst (λ xs. k < length xs) f h));
      ends = λ k d h. subst (λ xs. (get_or xs k d).end ≤ length more) (sym f) (end_at k d (cases_lt k (length spans)) (subst (λ xs. k < length xs) f h));
    }
      where
        size : length more ≡ length all + length s
        size = ap length e ∙ length-append all s

        last : Span
        last = record { start = length all; end = length more }

        start_at : (k : ℕ) (d : Span) → (k < length spans) ⊎ (length spans ≤ k) → k < length (spans ++ last ∷ []) → (get_or (spans ++ last ∷ []) k d).start ≤ (get_or (spans ++ last ∷ []) k d).end
        start_at k d (inl less) h = rw (get_or_append_left spans (last ∷ []) d k less) (t.laid.starts k d less)
        start_at k d (inr from) h = let here : length spans ≡ k = omega (arith, length_push spans last) in rw (get_or_push spans last d k here) (omega (arith, size))

        end_at : (k : ℕ) (d : Span) → (k < length spans) ⊎ (length spans ≤ k) → k < length (spans ++ last ∷ []) → (get_or (spans ++ last ∷ []) k d).end ≤ length more
        end_at k d (inl less) h = rw (get_or_append_left spans (last ∷ []) d k less) (let l = t.laid.ends k d less in omega (arith, size))
        end_at k d (inr from) h = let here : length spans ≡ k = omega (arith, length_push spans last) in rw (get_or_push spans last d k here) (omega arith)

    pub table_push : (ks : List ℕ) → ks ≡ keys ++ hash ∷ [] → IsTable more longer ks
    table_push ks g = record {
      laid = laid_push;
      hashed = g ∙ ap (λ xs. xs ++ hash ∷ []) t.hashed ∙ ap (λ h. map sum_hash (sums_in all spans) ++ h ∷ []) is_hash ∙ sym (map-append sum_hash (sums_in all spans) (s ∷ [])) ∙ ap (map sum_hash) (sym sums_push);
      apart = subst AreApart (sym sums_push) (all_pairs_push (λ (x y : List Summand). x ≢ y) (sums_in all spans) s t.apart (λ k d h same. new (k, h, get_or_default (sums_in all spans) k s d h ∙ same)));
    }

pub numbered_new : (old new : List (List Summand)) (s : List Summand) (n : ℕ) → n ≡ length old → new ≡ old ++ s ∷ [] → (Contains old s → ⊥) → Numbered old new s n true
numbered_new old new s n size e none = record {
  at = subst (λ xs. IsAt xs n s) (sym e) (omega (arith, size, length_push old s), λ d. get_or_push old s d n (sym size));
  added = λ t. (e, none);
  same = λ f. absurd (let x : true ≡ false = f in cc);
}
