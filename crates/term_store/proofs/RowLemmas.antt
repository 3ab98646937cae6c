-- Rows as they are kept: a row at its place, one more, and fewer; and lists in which each item names places before it.
use Rattle.std.proofs.Common.{◌≡◌, ℕ, zero, suc, ◌-◌, ◌<◌, ◌≤◌, List, [], ◌∷◌, ◌++◌, length, get_or, take, drop, map, All, inl, inr, subst, sym, ap, ◌∙◌, arith, refl}
use Rattle.std.specs.List.{slice_range}
use Rattle.std.proofs.lemmas.List.{length-append, get_or_append_left, length_push, get_or_push, get_or-take, length-take-le, take-append-le, take-append-drop, drop-append-le, length-drop, map-append, length-map, take-map, drop_at, take_all, get_or_default}
use Rattle.std.proofs.Math.Seq.{get_or-append_seam}
use Rattle.std.proofs.lemmas.Bool.{cases_lt}
use Rattle.term_store.specs.declared.rows.Entry.{Entry}
use Rattle.term_store.specs.Rows.{row_of, rows_of, AreLaid}

-- ---- where the rows stand

pub map_at : {A B : Type 0} (f : A → B) (xs : List A) (k : ℕ) (d : B) (x : A) → k < length xs → get_or (map f xs) k d ≡ f (get_or xs k x)
map_at f [] k d x h = absurd (omega arith)
map_at f (y ∷ xs) zero d x h = refl
map_at f (y ∷ xs) (suc k) d x h = map_at f xs k d x (omega arith)

module _ {H : Type 0} where
  pub length-rows : (numbers : List ℕ) (es : List (Entry H)) → length (rows_of numbers es) ≡ length es
  length-rows numbers es = length-map es (row_of numbers)

  row_of_left : (numbers more' : List ℕ) (e : Entry H) → e.start ≤ e.end → e.end ≤ length numbers → row_of (numbers ++ more') e ≡ row_of numbers e
  row_of_left numbers more' e order within =
      ap (λ is. (e.head, is))
      (ap (take (e.end - e.start)) (drop-append-le e.start numbers more' (omega arith))
      ∙ take-append-le (e.end - e.start) (drop e.start numbers) more' (omega (arith, length-drop e.start numbers)))

  laid_tail : (size : ℕ) (e : Entry H) (es : List (Entry H)) → AreLaid size (e ∷ es) → AreLaid size es
  laid_tail size e es laid = record {
    starts = λ k d h. laid.starts (suc k) d (omega arith);
    ends = λ k d h. laid.ends (suc k) d (omega arith);
    order = λ j k d less h. laid.order (suc j) (suc k) d (omega arith) (omega arith);
  }

  rows_left : (numbers more' : List ℕ) (es : List (Entry H)) → AreLaid (length numbers) es → rows_of (numbers ++ more') es ≡ rows_of numbers es
  rows_left numbers more' [] laid = refl
  rows_left numbers more' (e ∷ es) laid =
      let first : row_of (numbers ++ more') e ≡ row_of numbers e = row_of_left numbers more' e (laid.starts 0 e (omega arith)) (laid.ends 0 e (omega arith)) in
      let rest : rows_of (numbers ++ more') es ≡ rows_of numbers es = rows_left numbers more' es (laid_tail (length numbers) e es laid) in
      cc

  rows_take : (numbers : List ℕ) (es : List (Entry H)) (m : ℕ) → m ≤ length numbers → AreLaid m es → rows_of (take m numbers) es ≡ rows_of numbers es
  rows_take numbers es m short laid =
      let size : length (take m numbers) ≡ m = length-take-le m numbers short in
      sym (rows_left (take m numbers) (drop m numbers) es (subst (λ n. AreLaid n es) (sym size) laid))
      ∙ ap (λ is. rows_of is es) (take-append-drop m numbers)

  -- ---- one more, and a cut

  pub rows_push : (numbers more' : List ℕ) (es : List (Entry H)) (e : Entry H) → AreLaid (length numbers) es → e.start ≡ length numbers → e.end ≡ length (numbers ++ more')
      → rows_of (numbers ++ more') (es ++ e ∷ []) ≡ rows_of numbers es ++ (e.head, more') ∷ []
  rows_push numbers more' es e laid start end =
      let part : slice_range (numbers ++ more') e.start e.end ≡ more' =
      ap (take (e.end - e.start)) (ap (λ n. drop n (numbers ++ more')) start ∙ drop_at numbers more' (length numbers) refl)
      ∙ take_all (e.end - e.start) more' (omega (arith, length-append numbers more')) in
      let last : row_of (numbers ++ more') e ≡ (e.head, more') = ap (λ is. (e.head, is)) part in
      map-append (row_of (numbers ++ more')) es (e ∷ [])
      ∙ ap (λ ns. ns ++ row_of (numbers ++ more') e ∷ []) (rows_left numbers more' es laid)
      ∙ ap (λ n. rows_of numbers es ++ n ∷ []) last

  pub laid_push : (size more' : ℕ) (es : List (Entry H)) (e : Entry H) → AreLaid size es → e.start ≡ size → e.end ≡ more' → size ≤ more' → AreLaid more' (es ++ e ∷ [])
  laid_push size more' es e laid start end larger = record {
    starts = λ k d h.
        elim (cases_lt k (length es)) [
          | inl below ↦ rw (get_or_append_left es (e ∷ []) d k below) (laid.starts k d below)
          | inr above ↦ rw (get_or_push es e d k (omega (arith, length_push es e))) (omega arith)
        ];
    ends = λ k d h.
        elim (cases_lt k (length es)) [
          | inl below ↦ let old = laid.ends k d below in rw (get_or_append_left es (e ∷ []) d k below) (omega arith)
          | inr above ↦ rw (get_or_push es e d k (omega (arith, length_push es e))) (omega arith)
        ];
    order = λ j k d less h.
        let short : j < length es = omega (arith, length_push es e) in
        let old = laid.ends j d short in
        elim (cases_lt k (length es)) [
          | inl below ↦ rw (get_or_append_left es (e ∷ []) d k below, get_or_append_left es (e ∷ []) d j short) (laid.order j k d less below)
          | inr above ↦ rw (get_or_push es e d k (omega (arith, length_push es e)), get_or_append_left es (e ∷ []) d j short) (omega arith)
        ];
  }

  laid_take : (size k : ℕ) (d : Entry H) (es : List (Entry H)) → AreLaid size es → k < length es → AreLaid (get_or es k d).start (take k es)
  laid_take size k d es laid short =
      let long : length (take k es) ≡ k = length-take-le k es (omega arith) in
      record {
        starts = λ i b h. rw (get_or-take k es i b (omega arith)) (laid.starts i b (omega arith));
        ends = λ i b h. rw (get_or-take k es i b (omega arith), get_or_default es i b d (omega arith)) (laid.order i k d (omega arith) short);
        order = λ i j b less h. rw (get_or-take k es i b (omega arith), get_or-take k es j b (omega arith)) (laid.order i j b less (omega arith));
      }

  pub record Cut (rows : List (H × List ℕ)) (es : List (Entry H)) (numbers : List ℕ) : Type 0 where
    pub laid : AreLaid (length numbers) es
    pub view : rows_of numbers es ≡ rows

  pub rows_cut : (k : ℕ) (d : Entry H) (es : List (Entry H)) (numbers : List ℕ) → AreLaid (length numbers) es → k < length es
      → Cut (take k (rows_of numbers es)) (take k es) (take (get_or es k d).start numbers)
  rows_cut k d es numbers all short =
      let m : ℕ = (get_or es k d).start in
      let starts : m ≤ (get_or es k d).end = all.starts k d short in
      let ends : (get_or es k d).end ≤ length numbers = all.ends k d short in
      let size : length (take m numbers) ≡ m = length-take-le m numbers (omega arith) in
      let laid : AreLaid m (take k es) = laid_take (length numbers) k d es all short in
      record {
        laid = subst (λ n. AreLaid n (take k es)) (sym size) laid;
        view = rows_take numbers (take k es) m (omega arith) laid ∙ sym (take-map (row_of numbers) k es);
      }

-- ---- places before each item

abbrev pub AreEarlier : {A : Type 0} → (A → List ℕ) → List A → Type 0
AreEarlier {A} f xs = (k : ℕ) (d : A) → k < length xs → All (λ i. i < k) (f (get_or xs k d))

module _ {A : Type 0} (f : A → List ℕ) where
  pub earlier_push : (xs : List A) (x : A) → AreEarlier f xs → All (λ i. i < length xs) (f x) → AreEarlier f (xs ++ x ∷ [])
  earlier_push xs x earlier below k d h =
      elim (cases_lt k (length xs)) [
        | inl less ↦ rw (get_or_append_left xs (x ∷ []) d k less) (earlier k d less)
        | inr above ↦
            let at_end : length xs ≡ k = omega (arith, length_push xs x) in
            subst (λ j. All (λ i. i < j) (f (get_or (xs ++ x ∷ []) j d))) at_end (rw (get_or-append_seam xs x [] d) below)
      ]

  pub earlier_take : (xs : List A) (m : ℕ) → m ≤ length xs → AreEarlier f xs → AreEarlier f (take m xs)
  earlier_take xs m short earlier k d h =
      let size : length (take m xs) ≡ m = length-take-le m xs short in
      rw (get_or-take m xs k d (omega arith)) (earlier k d (omega arith))
