-- The search for a key among the places that a hash index goes through.
use Rattle.std.proofs.Common.{◌≡◌, ◌≢◌, ℕ, ◌-◌, ◌<◌, ◌≤◌, List, length, get_or, sym, ap, ◌∙◌, arith, Bool, true, false, inl, inr, map, ◌⊎◌}
use Rattle.term_store.specs.Latest.{last_place}
use Rattle.term_store.proofs.Links.{IsLink, Goes, goes, goes_on}
use Rattle.std.specs.Prelude.{Contains}
use Rattle.std.proofs.lemmas.Bool.{cases_lt}
use Rattle.std.proofs.lemmas.List.{get_or_default, get_or-map, length-map}

-- the key isn't at a place from the link on
pub record Passed {K : Type 0} (items : List K) (hashes : List ℕ) (x : K) (hash link : ℕ) : Type 0 where
  pub is_link : IsLink hashes hash link
  pub passed : (k : ℕ) (d : K) → link ≤ k → k < length items → get_or items k d ≢ x

module _ {K : Type 0} (hash_of : K → ℕ) (items : List K) (hashes : List ℕ) (x : K) (hash : ℕ) (hashed : hashes ≡ map hash_of items) (is_hash : hash ≡ hash_of x) where
  length-hashes : length hashes ≡ length items
  length-hashes = ap length hashed ∙ length-map items hash_of

  hash_at : (k : ℕ) (d : K) → k < length items → get_or items k d ≡ x → get_or hashes k 0 ≡ hash
  hash_at k d h e = ap (λ ns. get_or ns k 0) hashed ∙ get_or-map hash_of items k d 0 h ∙ ap hash_of e ∙ sym is_hash

  pub passed_start : (link : ℕ) → link ≡ last_place hashes hash (length hashes) → Passed items hashes x hash link
  passed_start link e =
      let g = goes hashes hash (length hashes) link (omega arith) e in
      record { is_link = g.is_link; passed = λ k d above less same. g.others k above (omega (arith, length-hashes)) (hash_at k d less same) }

  pub passed_on : (link next : ℕ) (y : K) (b : Bool) → Passed items hashes x hash link → 0 < link → (get_or items (link - 1) y ≡ x → b ≡ true) → b ≡ false
      → next ≡ last_place hashes (get_or hashes (link - 1) 0) (link - 1) → Passed items hashes x hash next × (next < link)
  passed_on link next y b p some found not_found e =
      let g = goes_on hashes hash link next p.is_link some e in
      let down = g.down in
      (record { is_link = g.is_link; passed = λ k d above less same. by g k d above less same (cases_lt k (link - 1)) (cases_lt k link) }, omega arith)
    where
      by : Goes hashes hash (link - 1) next → (k : ℕ) (d : K) → next ≤ k → k < length items → get_or items k d ≡ x → (k < link - 1) ⊎ (link - 1 ≤ k) → (k < link) ⊎ (link ≤ k) → ⊥
      by g k d above less same (inl below) u = g.others k above below (hash_at k d less same)
      by g k d above less same (inr from) (inl below) =
          let here : link - 1 ≡ k = omega arith in
          let t : b ≡ true = found (ap (λ n. get_or items n y) here ∙ get_or_default items k y d less ∙ same) in
          let f : true ≡ false = sym t ∙ not_found in
          cc
      by g k d above less same (inr from) (inr beyond) = p.passed k d beyond less same

  pub passed_all : (link : ℕ) → Passed items hashes x hash link → link ≤ 0 → Contains items x → ⊥
  passed_all link p none (k, h, e) = p.passed k x (omega arith) h e
