-- An index of hashes: a walk along a chain, one place more, and one place less.
use Rattle.std.proofs.Common.{◌≡◌, ◌≢◌, ℕ, zero, suc, ◌+◌, ◌-◌, ◌^◌, ◌<◌, ◌≤◌, List, [], ◌∷◌, ◌++◌, length, get_or, set, replicate, take, refl, sym, ap, ◌∙◌, subst, inl, inr, arith, add-one, lit<}
use Rattle.std.proofs.lemmas.Bool.{cases_eq, cases_lt}
use Rattle.std.proofs.lemmas.List.{length-set, length-replicate, get_or_append_left, get_or_push, get_or-set_same, get_or-set_other, get_or-replicate, length_push, length-take-le, take_more_set}
use Rattle.std.proofs.lemmas.Nat.{and_le_r}
use Rattle.term_store.specs.declared.index.Link.{Link}
use Rattle.term_store.specs.Latest.{latest, last_place, hashes_of, bucket_of, bucket_at, AreLinked, IsIndex, IsOnChain}
use Rattle.term_store.proofs.LatestLemmas.{latest_here, latest_skips, latest_le, latest_sent, latest_again, latest_within, latest_same}

pub hash_at : (links : List Link) (k : ℕ) (d : Link) → k < length links → get_or (hashes_of links) k 0 ≡ (get_or links k d).hash
hash_at [] k d h = absurd (omega arith)
hash_at (l ∷ ls) zero d h = refl
hash_at (l ∷ ls) (suc k) d h = hash_at ls k d (omega arith)

pub length-hashes : (links : List Link) → length (hashes_of links) ≡ length links
length-hashes [] = refl
length-hashes (l ∷ ls) = ap suc (length-hashes ls)

pub hashes-append : (links more' : List Link) → hashes_of (links ++ more') ≡ hashes_of links ++ hashes_of more'
hashes-append [] more' = refl
hashes-append (l ∷ ls) more' = ap (λ hs. l.hash ∷ hs) (hashes-append ls more')

pub bucket_within : (count h : ℕ) → 0 < count → bucket_of count h < count
bucket_within count h some = omega (arith, and_le_r h (count - 1))

-- ---- a walk

pub follow_stops : (links : List Link) (hash link j : ℕ) (d : Link) → link ≡ suc j → link ≤ length links → (get_or links j d).hash ≡ hash
    → last_place (hashes_of links) hash link ≡ link
follow_stops links hash link j d e within same =
    rw e (latest_here (λ k. get_or (hashes_of links) k 0) hash j (hash_at links j d (omega arith) ∙ same))

pub record Goes (links : List Link) (hash link next : ℕ) : Type 0 where
  pub less : next < link
  pub chain : IsOnChain links hash next
  pub same : last_place (hashes_of links) hash next ≡ last_place (hashes_of links) hash link

pub follow_goes : (links : List Link) (hash link j : ℕ) (d : Link) → link ≡ suc j → IsOnChain links hash link → (get_or links j d).hash ≢ hash
    → Goes links hash link (get_or links j d).before
follow_goes links hash link j d e chain other =
    let f : ℕ → ℕ = bucket_at links chain.count in
    let g : ℕ → ℕ = λ k. get_or (hashes_of links) k 0 in
    let b : ℕ = bucket_of chain.count hash in
    let within : link ≤ length links = chain.within in
    let short : j < length links = omega arith in
    let from : suc j ≡ latest f b (suc j) = subst (λ n. n ≡ latest f b n) e chain.from in
    let in_bucket : f j ≡ b = latest_sent f b (suc j) j (sym from) in
    let next : (get_or links j d).before ≡ latest f b j = chain.linked.at j d short ∙ ap (λ n. latest f n j) in_bucket in
    let below : latest f b j ≤ j = latest_le f b j in
    record {
      less = omega arith;
      chain = record { count = chain.count; linked = chain.linked; from = next ∙ sym (latest_again f b j) ∙ ap (latest f b) (sym next); within = omega arith };
      same = ap (latest g hash) next ∙ latest_within f g b hash j (λ k at. ap (bucket_of chain.count) at)
          ∙ sym (latest_skips g hash j (λ at. other (sym (hash_at links j d short) ∙ at))) ∙ ap (latest g hash) (sym e);
    }

-- ---- one place more or less

bucket_at_left : (links : List Link) (new : Link) (count k : ℕ) → k < length links → bucket_at (links ++ new ∷ []) count k ≡ bucket_at links count k
bucket_at_left links new count k h =
    ap (bucket_of count) (ap (λ hs. get_or hs k 0) (hashes-append links (new ∷ [])) ∙ get_or_append_left (hashes_of links) (new.hash ∷ []) 0 k (omega (arith, length-hashes links)))

bucket_at_last : (links : List Link) (new : Link) (count : ℕ) → bucket_at (links ++ new ∷ []) count (length links) ≡ bucket_of count new.hash
bucket_at_last links new count =
    ap (bucket_of count) (ap (λ hs. get_or hs (length links) 0) (hashes-append links (new ∷ [])) ∙ get_or_push (hashes_of links) new.hash 0 (length links) (length-hashes links))

latest_left : (links : List Link) (new : Link) (count b m : ℕ) → m ≤ length links → latest (bucket_at (links ++ new ∷ []) count) b m ≡ latest (bucket_at links count) b m
latest_left links new count b m h =
    latest_same (bucket_at (links ++ new ∷ []) count) (bucket_at links count) b m (λ k less. bucket_at_left links new count k (omega arith))

linked_more : (links : List Link) (new : Link) (count : ℕ) → AreLinked count links → new.before ≡ latest (bucket_at links count) (bucket_of count new.hash) (length links)
    → AreLinked count (links ++ new ∷ [])
linked_more links new count linked before = record {
  at = λ k d short.
      elim (cases_lt k (length links)) [
        | inl less ↦
            ap (λ (l : Link). l.before) (get_or_append_left links (new ∷ []) d k less) ∙ linked.at k d less
            ∙ sym (latest_left links new count (bucket_at links count k) k (omega arith))
            ∙ ap (λ b. latest (bucket_at (links ++ new ∷ []) count) b k) (sym (bucket_at_left links new count k less))
        | inr above ↦
            let here : length links ≡ k = omega (arith, length_push links new) in
            subst (λ m. (get_or (links ++ new ∷ []) m d).before ≡ latest (bucket_at (links ++ new ∷ []) count) (bucket_at (links ++ new ∷ []) count m) m) here
            (ap (λ (l : Link). l.before) (get_or_push links new d (length links) refl) ∙ before
            ∙ sym (latest_left links new count (bucket_of count new.hash) (length links) (omega arith))
            ∙ ap (λ b. latest (bucket_at (links ++ new ∷ []) count) b (length links)) (sym (bucket_at_last links new count)))
      ];
}

linked_less : (links : List Link) (new : Link) (count : ℕ) → AreLinked count (links ++ new ∷ []) → AreLinked count links
linked_less links new count linked = record {
  at = λ k d short.
      ap (λ (l : Link). l.before) (sym (get_or_append_left links (new ∷ []) d k short)) ∙ linked.at k d (omega (arith, length_push links new))
      ∙ latest_left links new count (bucket_at (links ++ new ∷ []) count k) k (omega arith)
      ∙ ap (λ b. latest (bucket_at links count) b k) (bucket_at_left links new count k short);
}

last_before : (links : List Link) (new : Link) (count : ℕ) → AreLinked count (links ++ new ∷ []) → new.before ≡ latest (bucket_at links count) (bucket_of count new.hash) (length links)
last_before links new count linked =
    ap (λ (l : Link). l.before) (sym (get_or_push links new new (length links) refl)) ∙ linked.at (length links) new (omega (arith, length_push links new))
    ∙ latest_left links new count (bucket_at (links ++ new ∷ []) count (length links)) (length links) (omega arith)
    ∙ ap (λ b. latest (bucket_at links count) b (length links)) (bucket_at_last links new count)

pub IsIndex-push : (links : List Link) (buckets : List ℕ) (new : Link) (at n : ℕ) → IsIndex links buckets → length links < length buckets → length links + 1 < 2 ^ 32
    → at ≡ bucket_of (length buckets) new.hash → new.before ≡ get_or buckets at 0 → n ≡ length links + 1 → IsIndex (links ++ new ∷ []) (set buckets at n)
IsIndex-push links buckets new at n index room few place before size =
    let count : ℕ = length buckets in
    let within : at < length buckets = subst (λ k. k < length buckets) (sym place) (bucket_within count new.hash (omega arith)) in
    let same : length (set buckets at n) ≡ length buckets = length-set buckets at n in
    let old : new.before ≡ latest (bucket_at links count) (bucket_of count new.hash) (length links) = before ∙ index.last at within ∙ ap (λ b. latest (bucket_at links count) b (length links)) place in
    record {
      room = omega (arith, length_push links new);
      few = omega (arith, length_push links new);
      last = λ b short.
          rw (same, length_push links new, add-one)
          (elim (cases_eq b at) [
            | inl here ↦
                subst (λ k. get_or (set buckets at n) k 0 ≡ latest (bucket_at (links ++ new ∷ []) count) k (suc (length links))) (sym here)
                (get_or-set_same buckets at n 0 within ∙ size ∙ add-one (length links)
                ∙ sym (latest_here (bucket_at (links ++ new ∷ []) count) at (length links) (bucket_at_last links new count ∙ sym place)))
            | inr other ↦
                get_or-set_other buckets at b n 0 other ∙ index.last b (omega arith) ∙ sym (latest_left links new count b (length links) (omega arith))
                ∙ sym (latest_skips (bucket_at (links ++ new ∷ []) count) b (length links) (λ e. other (sym e ∙ bucket_at_last links new count ∙ sym place)))
          ]);
      linked = rw same (linked_more links new count index.linked old);
    }

pub IsIndex-pop : (links : List Link) (buckets : List ℕ) (new : Link) (at : ℕ) → IsIndex (links ++ new ∷ []) buckets
    → at ≡ bucket_of (length buckets) new.hash → IsIndex links (set buckets at new.before)
IsIndex-pop links buckets new at index place =
    let count : ℕ = length buckets in
    let size : length (links ++ new ∷ []) ≡ length links + 1 = length_push links new in
    let room : length (links ++ new ∷ []) ≤ length buckets = index.room in
    let few : length (links ++ new ∷ []) < 2 ^ 32 = index.few in
    let within : at < length buckets = subst (λ k. k < length buckets) (sym place) (bucket_within count new.hash (omega arith)) in
    let same : length (set buckets at new.before) ≡ length buckets = length-set buckets at new.before in
    record {
      room = omega arith;
      few = omega arith;
      last = λ b short.
          rw same
          (elim (cases_eq b at) [
            | inl here ↦
                subst (λ k. get_or (set buckets at new.before) k 0 ≡ latest (bucket_at links count) k (length links)) (sym here)
                (get_or-set_same buckets at new.before 0 within ∙ last_before links new count index.linked ∙ ap (λ k. latest (bucket_at links count) k (length links)) (sym place))
            | inr other ↦
                get_or-set_other buckets at b new.before 0 other ∙ index.last b (omega arith)
                ∙ ap (latest (bucket_at (links ++ new ∷ []) count) b) (size ∙ add-one (length links))
                ∙ latest_skips (bucket_at (links ++ new ∷ []) count) b (length links) (λ e. other (sym e ∙ bucket_at_last links new count ∙ sym place))
                ∙ latest_left links new count b (length links) (omega arith)
          ]);
      linked = rw same (linked_less links new count index.linked);
    }

pub IsIndex-none : (count : ℕ) → IsIndex [] (replicate count 0)
IsIndex-none count = record {
  room = omega arith;
  few = lit< tt;
  last = λ b short. let size : length (replicate {A = ℕ} count 0) ≡ count = length-replicate count 0 in get_or-replicate count b 0 0 (omega arith);
  linked = record { at = λ k d short. absurd (omega arith) };
}

-- ---- where a walk starts

pub record Starts (links : List Link) (hash link m : ℕ) : Type 0 where
  pub chain : IsOnChain links hash link
  pub same : last_place (hashes_of links) hash link ≡ last_place (hashes_of links) hash m

starts : (links : List Link) (count hash link m : ℕ) → AreLinked count links → m ≤ length links → link ≡ latest (bucket_at links count) (bucket_of count hash) m → Starts links hash link m
starts links count hash link m linked short e =
    let f : ℕ → ℕ = bucket_at links count in
    let b : ℕ = bucket_of count hash in
    let below : latest f b m ≤ m = latest_le f b m in
    record {
      chain = record { count = count; linked = linked; from = e ∙ sym (latest_again f b m) ∙ ap (latest f b) (sym e); within = omega arith };
      same = ap (latest (λ k. get_or (hashes_of links) k 0) hash) e ∙ latest_within f (λ k. get_or (hashes_of links) k 0) b hash m (λ k at. ap (bucket_of count) at);
    }

pub starts_last : (links : List Link) (buckets : List ℕ) (hash at link : ℕ) → IsIndex links buckets → at < length buckets → at ≡ bucket_of (length buckets) hash
    → link ≡ get_or buckets at 0 → Starts links hash link (length links)
starts_last links buckets hash at link index short place e =
    starts links (length buckets) hash link (length links) index.linked (omega arith)
    (e ∙ index.last at short ∙ ap (λ b. latest (bucket_at links (length buckets)) b (length links)) place)

pub starts_before : (links : List Link) (buckets : List ℕ) (k : ℕ) (l : Link) → IsIndex links buckets → k < length links → l ≡ get_or links k l → Starts links l.hash l.before k
starts_before links buckets k l index short e =
    starts links (length buckets) l.hash l.before k index.linked (omega arith)
    (ap (λ (m : Link). m.before) e ∙ index.linked.at k l short
    ∙ ap (λ h. latest (bucket_at links (length buckets)) (bucket_of (length buckets) h) k) (hash_at links k l short ∙ ap (λ (m : Link). m.hash) (sym e)))

-- ---- a place filed anew

pub hashes-set : (links : List Link) (i : ℕ) (new d : Link) → i < length links → new.hash ≡ (get_or links i d).hash → hashes_of (set links i new) ≡ hashes_of links
hashes-set [] i new d short e = absurd (omega arith)
hashes-set (l ∷ ls) zero new d short e = ap (λ h. h ∷ hashes_of ls) e
hashes-set (l ∷ ls) (suc i) new d short e = ap (λ hs. l.hash ∷ hs) (hashes-set ls i new d (omega arith) e)

pub IsIndex-fill : (links : List Link) (buckets : List ℕ) (new : Link) (i at : ℕ) → IsIndex (take i links) buckets → i < length links → length links ≤ length buckets → length links < 2 ^ 32
    → at ≡ bucket_of (length buckets) new.hash → new.before ≡ get_or buckets at 0 → IsIndex (take (i + 1) (set links i new)) (set buckets at (i + 1))
IsIndex-fill links buckets new i at index short room few place before =
    let size : length (take i links) ≡ i = length-take-le i links (omega arith) in
    rw (take_more_set links i new short)
    (IsIndex-push (take i links) buckets new at (i + 1) index (omega arith) (omega arith) place before (omega arith))
