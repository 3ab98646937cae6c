-- A row that is found by the hash of its arguments.
use Rattle.std.proofs.Common.{◌≡◌, ◌≢◌, ℕ, zero, suc, ◌-◌, ◌<◌, ◌≤◌, Bool, true, false, List, [], ◌∷◌, ◌++◌, length, drop, get_or, refl, sym, ap, subst, ◌∙◌, inl, inr, arith}
use Rattle.std.specs.Prelude.{◌&&◌, slice_get, IfSome}
use Rattle.std.proofs.lemmas.Bool.{cases_eq, cases_lt}
use Rattle.std.proofs.lemmas.List.{get_or_append_left, get_or_push, length_push}
use Rattle.smt_meaning.specs.declared.values.Row.{Row}
use Rattle.smt_meaning.specs.declared.values.Value.{Value}
use Rattle.smt_meaning.specs.Term.{same_value}
use Rattle.smt_meaning.specs.Interpretation.{same_values, look}
use Rattle.smt_laws.proofs.SameValue.{same_value-true}
use Rattle.term_store.specs.Latest.{latest, last_place}
use Rattle.term_store.proofs.LatestLemmas.{latest_here, latest_skips, latest_le, latest_sent, latest_again}
use Rattle.model_eval.specs.Rows.{values_hash, row_hashes}

-- ---- equal values

both : (a b : Bool) → a && b ≡ true → (a ≡ true) × (b ≡ true)
both true true h = (refl, refl)
both true false h = absurd cc
both false b h = absurd cc

same_values-true : (vs ws : List Value) → same_values vs ws ≡ true → vs ≡ ws
same_values-true [] [] h = refl
same_values-true [] (w ∷ ws) h = cc
same_values-true (v ∷ vs) [] h = cc
same_values-true (v ∷ vs) (w ∷ ws) h =
    let each = both (same_value v w) (same_values vs ws) h in
    ap (λ x. x ∷ vs) (same_value-true v w each.0) ∙ ap (λ xs. w ∷ xs) (same_values-true vs ws each.1)

false_by : (b : Bool) → (b ≡ true → ⊥) → b ≡ false
false_by true h = absurd (h refl)
false_by false h = refl

other_hash : (vs ws : List Value) → values_hash ws ≢ values_hash vs → same_values vs ws ≡ false
other_hash vs ws h = false_by (same_values vs ws) (λ e. h (sym (ap values_hash (same_values-true vs ws e))))

-- ---- rows from the last

pub length-row_hashes : (rs : List Row) → length (row_hashes rs) ≡ length rs
length-row_hashes [] = refl
length-row_hashes (r ∷ rs) = length_push (row_hashes rs) (values_hash r.arguments) ∙ omega (arith, length-row_hashes rs)

-- one row more, in front
pub row_hashes-more : (rs : List Row) (i h : ℕ) → i < length rs → IfSome (slice_get rs i) (λ r. h ≡ values_hash r.arguments)
    → row_hashes (drop i rs) ≡ row_hashes (drop (suc i) rs) ++ h ∷ []
row_hashes-more [] i h short e = absurd (omega arith)
row_hashes-more (r ∷ rs) zero h short e = ap (λ n. row_hashes rs ++ n ∷ []) (sym e)
row_hashes-more (r ∷ rs) (suc i) h short e = row_hashes-more rs i h (omega arith) e

-- the row whose hash stands at this place
record IsRowAt (rs : List Row) (m : ℕ) : Type 0 where
  row : Row
  here : drop (length rs - suc m) rs ≡ row ∷ drop (length rs - m) rs
  hash : get_or (row_hashes rs) m 0 ≡ values_hash row.arguments

row_at : (rs : List Row) (m : ℕ) → m < length rs → IsRowAt rs m
row_at [] m h = absurd (omega arith)
row_at (r ∷ rs) m h =
    elim (cases_lt m (length rs)) [
      | inl less ↦
          let rest = row_at rs m less in
          let top : length (r ∷ rs) - suc m ≡ suc (length rs - suc m) = omega arith in
          let top' : length (r ∷ rs) - m ≡ suc (length rs - m) = omega arith in
          record {
            row = rest.row;
            here = rw (top, top') rest.here;
            hash = get_or_append_left (row_hashes rs) (values_hash r.arguments ∷ []) 0 m (omega (arith, length-row_hashes rs)) ∙ rest.hash;
          }
      | inr above ↦
          let last : m ≡ length rs = omega arith in
          let top : length (r ∷ rs) - suc m ≡ 0 = omega arith in
          let top' : length (r ∷ rs) - m ≡ 1 = omega arith in
          record {
            row = r;
            here = rw (top, top') refl;
            hash = get_or_push (row_hashes rs) (values_hash r.arguments) 0 m (length-row_hashes rs ∙ sym last);
          }
    ]

look_past : (r : Row) (rs : List Row) (default : Value) (vs : List Value) → same_values vs r.arguments ≡ false → look (r ∷ rs) default vs ≡ look rs default vs
look_past r rs default vs h = rw h refl

-- rows with other hashes are passed over
pub look_last : (rs : List Row) (default : Value) (vs : List Value) (m : ℕ) → m ≤ length rs
    → look (drop (length rs - last_place (row_hashes rs) (values_hash vs) m) rs) default vs ≡ look (drop (length rs - m) rs) default vs
look_last rs default vs zero h = refl
look_last rs default vs (suc m) h =
    let g : ℕ → ℕ = λ k. get_or (row_hashes rs) k 0 in
    let at = row_at rs m (omega arith) in
    elim (cases_eq (g m) (values_hash vs)) [
      | inl same ↦ ap (λ n. look (drop (length rs - n) rs) default vs) (latest_here g (values_hash vs) m same)
      | inr other ↦
          ap (λ n. look (drop (length rs - n) rs) default vs) (latest_skips g (values_hash vs) m other) ∙ look_last rs default vs m (omega arith)
          ∙ sym (look_past at.row (drop (length rs - m) rs) default vs (other_hash vs at.row.arguments (λ e. other (at.hash ∙ e))))
          ∙ ap (λ (xs : List Row). look xs default vs) (sym at.here)
    ]

-- ---- the search for a row

-- no row before the one that the link names has these arguments
pub record Seeks (rs : List Row) (default : Value) (vs : List Value) (link : ℕ) : Type 0 where
  pub within : link ≤ length rs
  pub from : link ≡ last_place (row_hashes rs) (values_hash vs) link
  pub same : look (drop (length rs - link) rs) default vs ≡ look rs default vs

seeks_from : (rs : List Row) (default : Value) (vs : List Value) (m link : ℕ) → m ≤ length rs → link ≡ last_place (row_hashes rs) (values_hash vs) m
    → look (drop (length rs - m) rs) default vs ≡ look rs default vs → Seeks rs default vs link
seeks_from rs default vs m link short e same =
    let g : ℕ → ℕ = λ k. get_or (row_hashes rs) k 0 in
    let below : latest g (values_hash vs) m ≤ m = latest_le g (values_hash vs) m in
    record {
      within = omega arith;
      from = e ∙ sym (latest_again g (values_hash vs) m) ∙ ap (latest g (values_hash vs)) (sym e);
      same = ap (λ n. look (drop (length rs - n) rs) default vs) e ∙ look_last rs default vs m short ∙ same;
    }

pub seeks_start : (rs : List Row) (default : Value) (vs : List Value) (link : ℕ) → link ≡ last_place (row_hashes rs) (values_hash vs) (length (row_hashes rs)) → Seeks rs default vs link
seeks_start rs default vs link e =
    let none : length rs - length rs ≡ 0 = omega arith in
    seeks_from rs default vs (length rs) link (omega arith) (e ∙ ap (last_place (row_hashes rs) (values_hash vs)) (length-row_hashes rs)) (rw none refl)

pub record Next (rs : List Row) (default : Value) (vs : List Value) (link next : ℕ) : Type 0 where
  pub less : next < link
  pub seeks : Seeks rs default vs next

drop_head : (rs : List Row) (i : ℕ) (r d : Row) (xs : List Row) → drop i rs ≡ r ∷ xs → get_or rs i d ≡ r
drop_head [] zero r d xs e = absurd cc
drop_head [] (suc i) r d xs e = absurd cc
drop_head (x ∷ rs) zero r d xs e = cc
drop_head (x ∷ rs) (suc i) r d xs e = drop_head rs i r d xs e

-- a row with other arguments is passed over, and the rows with other hashes before the next
pub seeks_next : (rs : List Row) (default : Value) (vs : List Value) (link next : ℕ) (r : Row) → Seeks rs default vs link → 0 < link → r ≡ get_or rs (length rs - link) r
    → same_values vs r.arguments ≡ false → next ≡ last_place (row_hashes rs) (get_or (row_hashes rs) (link - 1) 0) (link - 1) → Next rs default vs link next
seeks_next rs default vs link next r s some e h last =
    let j : ℕ = link - 1 in
    let up : link ≡ suc j = omega arith in
    let within : link ≤ length rs = s.within in
    let short : j < length rs = omega arith in
    let at = row_at rs j short in
    let here : drop (length rs - link) rs ≡ at.row ∷ drop (length rs - j) rs = subst (λ n. drop (length rs - n) rs ≡ at.row ∷ drop (length rs - j) rs) (sym up) at.here in
    let is : r ≡ at.row = e ∙ drop_head rs (length rs - link) at.row r (drop (length rs - j) rs) here in
    let rest : look (at.row ∷ drop (length rs - j) rs) default vs ≡ look rs default vs = ap (λ (xs : List Row). look xs default vs) (sym here) ∙ s.same in
    let g : ℕ → ℕ = λ k. get_or (row_hashes rs) k 0 in
    let hash : g j ≡ values_hash vs = latest_sent g (values_hash vs) link j (sym s.from ∙ up) in
    let last' : next ≡ last_place (row_hashes rs) (values_hash vs) j = last ∙ ap (λ n. last_place (row_hashes rs) n j) hash in
    let below : latest g (values_hash vs) j ≤ j = latest_le g (values_hash vs) j in
    record {
      less = omega arith;
      seeks = seeks_from rs default vs j next (omega arith) last' (sym (look_past at.row (drop (length rs - j) rs) default vs (ap (λ (x : Row). same_values vs x.arguments) (sym is) ∙ h)) ∙ rest);
    }
