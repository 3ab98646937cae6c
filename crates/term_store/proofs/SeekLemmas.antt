-- The walk along the places of a hash that finds the newest item of a name.
use Rattle.std.proofs.Common.{◌≡◌, ℕ, zero, suc, ◌<◌, ◌≤◌, ◌+◌, ◌-◌, Bool, true, false, List, [], ◌∷◌, length, get_or, take, Some, None, sym, ap, ◌∙◌, arith}
use Rattle.std.specs.Prelude.{if◌then◌else◌, bytes_eq, reverse}
use Rattle.std.proofs.lemmas.List.{get_or-map, length-map, take_more, take_all, reverse-append, get_or_default}
use Rattle.std.proofs.lemmas.Bool.{false_from_ne_true}
use Rattle.std.proofs.lemmas.Slice.Eq.{bytes_eq-Decides}
use Rattle.term_store.specs.Latest.{latest, last_place}
use Rattle.term_store.proofs.LatestLemmas.{latest_le, latest_finds, latest_sent}
use Rattle.term_store.specs.Newest.{first_named, newest_named, name_hash, hashes_of, IsNewest}

-- the newest of the first items, with one more
newest_more : {T : Type 0} (name : T → List ℕ) (n : List ℕ) (xs : List T) (k : ℕ) (d : T) (b : Bool) → k < length xs → bytes_eq n (name (get_or xs k d)) ≡ b
    → newest_named name n (take (k + 1) xs) ≡ (if b then Some (get_or xs k d) else newest_named name n (take k xs))
newest_more name n xs k d b short e =
    ap (λ ys. first_named name n (reverse ys)) (take_more xs k d short) ∙ ap (first_named name n) (reverse-append (take k xs) (get_or xs k d ∷ []))
    ∙ ap (λ c. if c then Some (get_or xs k d) else newest_named name n (take k xs)) e

with_item : {T : Type 0} (P : Type 0) (xs : List T) → 0 < length xs → (T → P) → P
with_item P [] h f = absurd (omega arith)
with_item P (x ∷ xs) h f = f x

-- places without the name are skipped
newest_skips : {T : Type 0} (name : T → List ℕ) (n : List ℕ) (xs : List T) (low more : ℕ) → low + more ≤ length xs
    → ((i : ℕ) (d : T) → low ≤ i → i < low + more → bytes_eq n (name (get_or xs i d)) ≡ false)
    → newest_named name n (take (low + more) xs) ≡ newest_named name n (take low xs)
newest_skips name n xs low zero within others = let same : low + zero ≡ low = omega arith in ap (λ k. newest_named name n (take k xs)) same
newest_skips {T} name n xs low (suc more) within others =
    let last : low + suc more ≡ low + more + 1 = omega arith in
    ap (λ k. newest_named name n (take k xs)) last
    ∙ with_item (newest_named name n (take (low + more + 1) xs) ≡ newest_named name n (take (low + more) xs)) xs (omega arith)
    (λ d. newest_more name n xs (low + more) d false (omega arith) (others (low + more) d (omega arith) (omega arith)))
    ∙ newest_skips name n xs low more (omega arith) (λ i d from below. others i d from (omega arith))

-- no place from the link on has the name
pub record Seeks {T : Type 0} (name : T → List ℕ) (xs : List T) (hashes n : List ℕ) (link : ℕ) : Type 0 where
  pub within : link ≤ length xs
  pub sent : (j : ℕ) → link ≡ suc j → get_or hashes j 0 ≡ name_hash n
  pub passed : newest_named name n xs ≡ newest_named name n (take link xs)

hash_at : {T : Type 0} (name : T → List ℕ) (xs : List T) (hashes : List ℕ) (i : ℕ) (d : T) → hashes ≡ hashes_of name xs → i < length xs → get_or hashes i 0 ≡ name_hash (name (get_or xs i d))
hash_at {T} name xs hashes i d hashed short = ap (λ hs. get_or hs i 0) hashed ∙ get_or-map (λ (x : T). name_hash (name x)) xs i d 0 short

-- below a bound, a place behind the last one of the hash has another name
behind_last : {T : Type 0} (name : T → List ℕ) (xs : List T) (hashes n : List ℕ) (m i : ℕ) (d : T) → hashes ≡ hashes_of name xs → i < length xs → i < m
    → last_place hashes (name_hash n) m ≤ i → bytes_eq n (name (get_or xs i d)) ≡ false
behind_last name xs hashes n m i d hashed short below behind =
    false_from_ne_true (bytes_eq n (name (get_or xs i d)))
    (λ named.
    let same : n ≡ name (get_or xs i d) = (bytes_eq-Decides n (name (get_or xs i d))).0 named in
    let found : i < latest (λ j. get_or hashes j 0) (name_hash n) m = latest_finds (λ j. get_or hashes j 0) (name_hash n) m i below (hash_at name xs hashes i d hashed short ∙ ap name_hash (sym same)) in
    omega arith)

-- from a bound down to the last place of the hash below it
passes : {T : Type 0} (name : T → List ℕ) (xs : List T) (hashes n : List ℕ) (m next : ℕ) → hashes ≡ hashes_of name xs → m ≤ length xs → next ≡ last_place hashes (name_hash n) m
    → newest_named name n (take m xs) ≡ newest_named name n (take next xs)
passes name xs hashes n m next hashed within here =
    let below : latest (λ j. get_or hashes j 0) (name_hash n) m ≤ m = latest_le (λ j. get_or hashes j 0) (name_hash n) m in
    let all : next + (m - next) ≡ m = omega arith in
    ap (λ k. newest_named name n (take k xs)) (sym all)
    ∙ newest_skips name n xs next (m - next) (omega arith) (λ i d from less. behind_last name xs hashes n m i d hashed (omega arith) (omega arith) (omega arith))

pub seeks_start : {T : Type 0} (name : T → List ℕ) (xs : List T) (hashes n : List ℕ) (hash link : ℕ) → hashes ≡ hashes_of name xs → hash ≡ name_hash n → link ≡ last_place hashes hash (length hashes)
    → Seeks name xs hashes n link
seeks_start {T} name xs hashes n hash link hashed same last =
    let size : length hashes ≡ length xs = ap length hashed ∙ length-map xs (λ (x : T). name_hash (name x)) in
    let here : link ≡ last_place hashes (name_hash n) (length xs) = last ∙ ap (λ h. last_place hashes h (length hashes)) same ∙ ap (last_place hashes (name_hash n)) size in
    let below : latest (λ j. get_or hashes j 0) (name_hash n) (length xs) ≤ length xs = latest_le (λ j. get_or hashes j 0) (name_hash n) (length xs) in
    record {
      within = omega arith;
      sent = λ j e. latest_sent (λ i. get_or hashes i 0) (name_hash n) (length xs) j (sym here ∙ e);
      passed = ap (newest_named name n) (sym (take_all (length xs) xs (omega arith))) ∙ passes name xs hashes n (length xs) link hashed (omega arith) here;
    }

pub record Next {T : Type 0} (name : T → List ℕ) (xs : List T) (hashes n : List ℕ) (link next : ℕ) : Type 0 where
  pub less : next < link
  pub seeks : Seeks name xs hashes n next

pub seeks_next : {T : Type 0} (name : T → List ℕ) (xs : List T) (hashes n : List ℕ) (link next j : ℕ) (d : T) → hashes ≡ hashes_of name xs → Seeks name xs hashes n link → link ≡ j + 1
    → bytes_eq n (name (get_or xs j d)) ≡ false → next ≡ last_place hashes (get_or hashes j 0) j → Next name xs hashes n link next
seeks_next name xs hashes n link next j d hashed s at other last =
    let within : link ≤ length xs = s.within in
    let here : next ≡ last_place hashes (name_hash n) j = last ∙ ap (λ h. last_place hashes h j) (s.sent j (omega arith)) in
    let below : latest (λ i. get_or hashes i 0) (name_hash n) j ≤ j = latest_le (λ i. get_or hashes i 0) (name_hash n) j in
    record {
      less = omega arith;
      seeks = record {
        within = omega arith;
        sent = λ i e. latest_sent (λ k. get_or hashes k 0) (name_hash n) j i (sym here ∙ e);
        passed = s.passed ∙ ap (λ k. newest_named name n (take k xs)) at ∙ newest_more name n xs j d false (omega arith) other ∙ passes name xs hashes n j next hashed (omega arith) here;
      };
    }

pub seeks_end : {T : Type 0} (name : T → List ℕ) (xs : List T) (hashes n : List ℕ) (link : ℕ) → Seeks name xs hashes n link → link ≡ 0 → newest_named name n xs ≡ None
seeks_end name xs hashes n link s e = s.passed ∙ ap (λ k. newest_named name n (take k xs)) e

pub seeks_found : {T : Type 0} (name : T → List ℕ) (xs : List T) (hashes n : List ℕ) (link j : ℕ) (d : T) → Seeks name xs hashes n link → link ≡ j + 1 → bytes_eq n (name (get_or xs j d)) ≡ true
    → IsNewest name n xs j
seeks_found name xs hashes n link j d s at named =
    let within : link ≤ length xs = s.within in
    record {
      within = omega arith;
      newest = λ e. s.passed ∙ ap (λ k. newest_named name n (take k xs)) at ∙ newest_more name n xs j e true (omega arith) (ap (λ x. bytes_eq n (name x)) (get_or_default xs j e d (omega arith)) ∙ named);
    }
