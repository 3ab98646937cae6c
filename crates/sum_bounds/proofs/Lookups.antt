-- The search for a sum among those of the variables.
use Rattle.std.proofs.Common.{◌≡◌, ◌≢◌, ℕ, Bool, true, false, ◌-◌, ◌<◌, ◌≤◌, ◌⊎◌, inl, inr, List, length, get_or, sym, ap, ◌∙◌, arith}
use Rattle.std.proofs.lemmas.Bool.{cases_lt}
use Rattle.std.proofs.lemmas.List.{get_or-map, length-map}
use Rattle.fraction128.specs.declared.Summand.{Summand}
use Rattle.fraction128.specs.declared.Column.{Column}
use Rattle.term_store.specs.Latest.{last_place}
use Rattle.term_store.proofs.Links.{IsLink, Goes, goes, goes_on}
use Rattle.simplex_steps.specs.State.{column_in, no_column}
use Rattle.sum_bounds.specs.Hash.{sum_hash}
use Rattle.sum_bounds.specs.Bounds.{sum_hashes}

-- the sum isn't that of a variable from the link on
pub record Passed (cs : List Column) (keys : List ℕ) (ps : List Summand) (link : ℕ) : Type 0 where
  pub is_link : IsLink keys (sum_hash ps) link
  pub passed : (k : ℕ) → link ≤ k → k < length cs → (column_in cs k).sum ≢ ps

module _ (cs : List Column) (keys : List ℕ) (ps : List Summand) (hashed : keys ≡ sum_hashes cs) where
  pub length-keys : length keys ≡ length cs
  length-keys = ap length hashed ∙ length-map cs (λ (c : Column). sum_hash c.sum)

  key_at : (k : ℕ) → k < length cs → (column_in cs k).sum ≡ ps → get_or keys k 0 ≡ sum_hash ps
  key_at k h e = ap (λ xs. get_or xs k 0) hashed ∙ get_or-map (λ (c : Column). sum_hash c.sum) cs k no_column 0 h ∙ ap sum_hash e

  pub passed_start : (hash link : ℕ) → hash ≡ sum_hash ps → link ≡ last_place keys hash (length keys) → Passed cs keys ps link
  passed_start hash link is e =
      let g = goes keys (sum_hash ps) (length keys) link (omega arith) (e ∙ ap (λ h. last_place keys h (length keys)) is) in
      record { is_link = g.is_link; passed = λ k above less same. g.others k above (omega (arith, length-keys)) (key_at k less same) }

  pub passed_on : (link next : ℕ) (b : Bool) → Passed cs keys ps link → 0 < link → ((column_in cs (link - 1)).sum ≡ ps → b ≡ true) → b ≡ false
      → next ≡ last_place keys (get_or keys (link - 1) 0) (link - 1) → Passed cs keys ps next × (next < link)
  passed_on link next b p some found not_found e =
      let g = goes_on keys (sum_hash ps) link next p.is_link some e in
      let down = g.down in
      (record { is_link = g.is_link; passed = λ k above less same. by g k above less same (cases_lt k (link - 1)) (cases_lt k link) }, omega arith)
    where
      by : Goes keys (sum_hash ps) (link - 1) next → (k : ℕ) → next ≤ k → k < length cs → (column_in cs k).sum ≡ ps → (k < link - 1) ⊎ (link - 1 ≤ k) → (k < link) ⊎ (link ≤ k) → ⊥
      by g k above less same (inl below) u = g.others k above below (key_at k less same)
      by g k above less same (inr from) (inl below) =
          let here : k ≡ link - 1 = omega arith in
          let t : b ≡ true = found (sym (ap (λ n. (column_in cs n).sum) here) ∙ same) in
          let f : true ≡ false = sym t ∙ not_found in
          absurd (cc)
      by g k above less same (inr from) (inr beyond) = p.passed k beyond less same

  pub passed_all : (link : ℕ) → Passed cs keys ps link → link ≤ 0 → (k : ℕ) → k < length cs → (column_in cs k).sum ≢ ps
  passed_all link p none k h = p.passed k (omega arith) h

  pub within : (link : ℕ) → Passed cs keys ps link → 0 < link → link - 1 < length cs
  within link p some = let w = p.is_link.within in omega (arith, w, length-keys)
