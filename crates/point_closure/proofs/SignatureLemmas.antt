-- Signatures, and the places of a hash.
use Rattle.std.proofs.Common.{◌≡◌, ℕ, suc, ◌+◌, ◌<◌, ◌≤◌, Bool, true, false, List, [], ◌∷◌, length, map, get_or, refl, sym, ap, ◌∙◌, subst, inl, inr, arith}
use Rattle.std.proofs.lemmas.Bool.{cases_eq, cases_lt}
use Rattle.std.proofs.lemmas.List.{length-map, get_or-map}
use Rattle.term_store.specs.Latest.{latest, last_place}
use Rattle.term_store.proofs.LatestLemmas.{latest_le, latest_finds, latest_sent}
use Rattle.point_closure.specs.declared.classes.Union.{Union}
use Rattle.point_closure.specs.Closure.{Point}
use Rattle.point_closure.specs.declared.pending.Pending.{Pending}
use Rattle.point_closure.specs.Signature.{signature, Filed}
use Rattle.point_closure.specs.Rest.{Begins, AreTied, Pairs, Looks}
use Rattle.point_closure.proofs.RestLemmas.{tied_more}

-- lists of one class list agree at each place
pub map_at : (f : ℕ → ℕ) (is js : List ℕ) (k : ℕ) → map f is ≡ map f js → k < length is → k < length js → f (get_or is k 0) ≡ f (get_or js k 0)
map_at f is js k e less_i less_j = sym (get_or-map f is k 0 0 less_i) ∙ ap (λ xs. get_or xs k 0) e ∙ get_or-map f js k 0 0 less_j

pub map_length : (f : ℕ → ℕ) (is js : List ℕ) → map f is ≡ map f js → length is ≡ length js
map_length f is js e = sym (length-map is f) ∙ ap length e ∙ length-map js f

pub map_from : (f : ℕ → ℕ) (is js : List ℕ) → length is ≡ length js → ((k : ℕ) → k < length is → f (get_or is k 0) ≡ f (get_or js k 0)) → map f is ≡ map f js
map_from f [] [] size e = refl
map_from f [] (j ∷ js) size e = absurd (omega arith)
map_from f (i ∷ is) [] size e = absurd (omega arith)
map_from f (i ∷ is) (j ∷ js) size e = cc (e 0 (omega arith), map_from f is js (omega arith) (λ k less. e (suc k) (omega arith)))

-- ---- the walk along the places of one hash

pub record Walks (ps : List Point) (us : List Union) (t : Filed) (pending : List Pending) (hash i link : ℕ) (found : Bool) : Type 0 where
  pub within : link ≤ length t.points
  pub sent : (p : ℕ) → link ≡ suc p → get_or t.hashes p 0 ≡ hash
  pub pairs : Pairs ps us t pending hash i link found

pub walk_starts : (ps : List Point) (us : List Union) (t : Filed) (pending : List Pending) (hash i link : ℕ) → link ≡ last_place t.hashes hash (length t.points) → Walks ps us t pending hash i link false
walk_starts ps us t pending hash i link e = record {
  within = subst (λ n. n ≤ length t.points) (sym e) (latest_le (λ k. get_or t.hashes k 0) hash (length t.points));
  sent = λ p is. latest_sent (λ k. get_or t.hashes k 0) hash (length t.points) p (sym e ∙ is);
  pairs = record {
    tied = λ k le less at one. absurd (let h : k < latest (λ j. get_or t.hashes j 0) hash (length t.points) = latest_finds (λ j. get_or t.hashes j 0) hash (length t.points) k less at in omega arith);
    some = λ h. cc;
    none = λ h k le less at one. (let l : k < latest (λ j. get_or t.hashes j 0) hash (length t.points) = latest_finds (λ j. get_or t.hashes j 0) hash (length t.points) k less at in omega arith);
  };
}

pub place_before : (t : Filed) (place next : ℕ) → next ≡ last_place t.hashes (get_or t.hashes place 0) place → next < place + 1
place_before t place next e = let le : latest (λ k. get_or t.hashes k 0) (get_or t.hashes place 0) place ≤ place = latest_le (λ k. get_or t.hashes k 0) (get_or t.hashes place 0) place in omega arith

pub walk_next : (ps : List Point) (us : List Union) (t : Filed) (xs ys : List Pending) (hash i link place next : ℕ) (found found' : Bool) → link ≡ place + 1 → Begins xs ys → Looks ps us t ys i place found found'
    → next ≡ last_place t.hashes (get_or t.hashes place 0) place → Walks ps us t xs hash i link found → Walks ps us t ys hash i next found'
walk_next ps us t xs ys hash i link place next found found' at b looks e w =
    let f : ℕ → ℕ = λ k. get_or t.hashes k 0 in
    let within : link ≤ length t.points = w.within in
    let here : get_or t.hashes place 0 ≡ hash = w.sent place (omega arith) in
    let e' : next ≡ latest f hash place = e ∙ ap (λ h. latest f h place) here in
    let le : latest f hash place ≤ place = latest_le f hash place in
    let beyond : (k : ℕ) → next ≤ k → get_or t.hashes k 0 ≡ hash → place ≤ k = λ k low is. elim (cases_lt k place) [
      | inl before ↦ absurd (let l : k < latest f hash place = latest_finds f hash place k before is in omega arith)
      | inr above ↦ above
    ] in
    record {
      within = omega arith;
      sent = λ p is. latest_sent f hash place p (sym e' ∙ is);
      pairs = record {
        tied = λ k low less is one. elim (cases_eq k place) [
          | inl same ↦ subst (λ n. AreTied us ys (get_or t.points n 0) i) (sym same) (looks.congruent (subst (λ n. signature ps us (get_or t.points n 0) ≡ signature ps us i) same one)).1
          | inr other ↦ tied_more us xs ys (get_or t.points k 0) i b (w.pairs.tied k (let l : place ≤ k = beyond k low is in omega arith) less is one)
        ];
        some = λ h. elim looks.decides [
          | inl one ↦ (place, omega arith, here, one, (looks.congruent one).1)
          | inr none ↦ let old = w.pairs.some (sym (looks.other none) ∙ h) in (old.0, old.1, old.2, old.3, tied_more us xs ys (get_or t.points old.0 0) i b old.4)
        ];
        none = λ h k low less is one. elim (cases_eq k place) [
          | inl same ↦ true_not_false (sym (looks.congruent (subst (λ n. signature ps us (get_or t.points n 0) ≡ signature ps us i) same one)).0 ∙ h)
          | inr other ↦ elim looks.decides [
            | inl here_one ↦ true_not_false (sym (looks.congruent here_one).0 ∙ h)
            | inr different ↦ w.pairs.none (sym (looks.other different) ∙ h) k (let l : place ≤ k = beyond k low is in omega arith) less is one
          ]
        ];
      };
    }
  where
    true_not_false : true ≡ false → ⊥
    true_not_false e = cc
