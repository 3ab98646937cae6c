-- Tables whose symbols ascend: one more of them, and where the table of a symbol stands.
use Rattle.std.proofs.Common.{◌≡◌, ◌≢◌, ℕ, zero, suc, ◌+◌, ◌<◌, ◌≤◌, true, false, List, [], ◌∷◌, ◌++◌, length, take, drop, get_or, All, Some, None, refl, sym, ap, subst, ◌∙◌, inl, inr, arith}
use Rattle.std.specs.Prelude.{slice_get, nat_lt}
use Rattle.std.specs.List.Sorted.{IsNonDecreasingBy, IsPartitionPoint}
use Rattle.std.proofs.lemmas.Bool.{cases_lt, eq-eqb, ne_eqb, ltb-true, ltb-false}
use Rattle.std.proofs.lemmas.List.{get_or-take, get_or-drop, length-take, length-drop}
use Rattle.std.proofs.lemmas.List.Elements.{All-head, All-tail, All-push}
use Rattle.std.proofs.lemmas.List.Quantifiers.{all_pairs_push}
use Rattle.std.proofs.lemmas.Option.{slice_get_within, get_or_from_slice_get}
use Rattle.smt_meaning.specs.declared.values.Table.{Table}
use Rattle.model_eval.specs.Tables.{here_or_later, first_place, Ascend}
use Rattle.model_eval.proofs.TableLemmas.{take_one}

-- ---- one table more

next_take : (ts : List Table) (i : ℕ) (t : Table) → slice_get ts i ≡ Some t → take i ts ++ t ∷ [] ≡ take (i + 1) ts
next_take ts i t e = let next : suc i ≡ i + 1 = omega arith in sym (take_one ts i t e) ∙ ap (λ n. take n ts) next

pub under_more : (ts : List Table) (i next : ℕ) (t : Table) → slice_get ts i ≡ Some t → next ≤ t.symbol → All (λ (u : Table). u.symbol < next) (take i ts)
    → All (λ (u : Table). u.symbol < t.symbol + 1) (take (i + 1) ts)
under_more ts i next t e from under =
    subst (λ (us : List Table). All (λ (u : Table). u.symbol < t.symbol + 1) us) (next_take ts i t e)
    (All-push (λ (u : Table). u.symbol < t.symbol + 1) (take i ts) t (λ k d short. let low = under k d short in omega arith) (omega arith))

pub ascend_more : (ts : List Table) (i next : ℕ) (t : Table) → slice_get ts i ≡ Some t → next ≤ t.symbol → All (λ (u : Table). u.symbol < next) (take i ts)
    → Ascend (take i ts) → Ascend (take (i + 1) ts)
ascend_more ts i next t e from under rising =
    subst Ascend (next_take ts i t e) (all_pairs_push (λ (u v : Table). u.symbol < v.symbol) (take i ts) t rising (λ k d short. let low = under k d short in omega arith))

-- ---- where the symbols pass one

pub non_decreasing : (ts : List Table) → Ascend ts → IsNonDecreasingBy (λ (t : Table). t.symbol) ts
non_decreasing ts rising i j d order short =
    elim (cases_lt i j) [
      | inl less ↦ let low : (get_or ts i d).symbol < (get_or ts j d).symbol = rising i j d less short in omega arith
      | inr above ↦ let same : i ≡ j = omega arith in subst (λ k. (get_or ts i d).symbol ≤ (get_or ts k d).symbol) same (omega arith)
    ]

pub below_point : (ts : List Table) (q i : ℕ) → IsPartitionPoint (λ (t : Table). nat_lt t.symbol q ≡ true) (λ (t : Table). nat_lt t.symbol q ≡ false) ts i → All (λ (t : Table). t.symbol < q) (take i ts)
below_point ts q i point k d short =
    let less : k < i = omega (arith, length-take i ts) in
    rw (get_or-take i ts k d less) (ltb-true (get_or ts k d).symbol q (point.0 k d (omega arith) less))

pub above_point : (ts : List Table) (q i : ℕ) → IsPartitionPoint (λ (t : Table). nat_lt t.symbol q ≡ true) (λ (t : Table). nat_lt t.symbol q ≡ false) ts i → All (λ (t : Table). q ≤ t.symbol) (drop i ts)
above_point ts q i point k d short =
    rw (get_or-drop i ts k d) (ltb-false (get_or ts (i + k) d).symbol q (point.1 (i + k) d (omega arith) (omega (arith, length-drop i ts))))

-- ---- the place of a symbol

pub place_here : (ts : List Table) (q i : ℕ) (t : Table) → All (λ (u : Table). u.symbol < q) (take i ts) → slice_get ts i ≡ Some t → t.symbol ≡ q → first_place ts q ≡ Some i
place_here [] q i t below e same = absurd cc
place_here (x ∷ ts) q zero t below e same =
    let is : x ≡ t = cc in
    ap (λ b. here_or_later b (first_place ts q)) (eq-eqb x.symbol q (ap (λ (y : Table). y.symbol) is ∙ same))
place_here (x ∷ ts) q (suc i) t below e same =
    let low : x.symbol < q = All-head (λ (u : Table). u.symbol < q) x (take i ts) below in
    ap (λ b. here_or_later b (first_place ts q)) (ne_eqb x.symbol q (λ h. omega arith))
    ∙ ap (here_or_later false) (place_here ts q i t (All-tail (λ (u : Table). u.symbol < q) x (take i ts) below) e same)

no_place : (ts : List Table) (q : ℕ) → All (λ (u : Table). u.symbol ≢ q) ts → first_place ts q ≡ None
no_place [] q other = refl
no_place (x ∷ ts) q other =
    ap (λ b. here_or_later b (first_place ts q)) (ne_eqb x.symbol q (All-head (λ (u : Table). u.symbol ≢ q) x ts other))
    ∙ ap (here_or_later false) (no_place ts q (All-tail (λ (u : Table). u.symbol ≢ q) x ts other))

before : (ts : List Table) (q i k : ℕ) (d : Table) → All (λ (u : Table). u.symbol < q) (take i ts) → i ≤ length ts → k < i → (get_or ts k d).symbol < q
before ts q i k d below within less =
    let there : (get_or (take i ts) k d).symbol < q = below k d (omega (arith, length-take i ts)) in
    rw (get_or-take i ts k d less) at there

pub none_behind : (ts : List Table) (q i : ℕ) → All (λ (u : Table). u.symbol < q) (take i ts) → i ≡ length ts → first_place ts q ≡ None
none_behind ts q i below all = no_place ts q (λ k d short h. let low = before ts q i k d below (omega arith) (omega arith) in omega arith)

pub none_between : (ts : List Table) (q i : ℕ) (t : Table) → Ascend ts → All (λ (u : Table). u.symbol < q) (take i ts) → All (λ (u : Table). q ≤ u.symbol) (drop i ts)
    → slice_get ts i ≡ Some t → t.symbol ≢ q → first_place ts q ≡ None
none_between ts q i t rising below above e other =
    no_place ts q
    (λ k d short h.
    let within : i < length ts = slice_get_within ts i t e in
    let at_t : get_or ts i d ≡ t = get_or_from_slice_get ts i t d e in
    elim (cases_lt k i) [
      | inl less ↦ let low = before ts q i k d below (omega arith) less in omega arith
      | inr from ↦
          let there : q ≤ (get_or (drop i ts) 0 d).symbol = above 0 d (omega (arith, length-drop i ts)) in
          let start : i + 0 ≡ i = omega arith in
          let here : q ≤ t.symbol = rw at_t at (subst (λ j. q ≤ (get_or ts j d).symbol) start (rw (get_or-drop i ts 0 d) at there)) in
          elim (cases_lt i k) [
            | inl later ↦
                let less : t.symbol < (get_or ts k d).symbol = rw at_t at (rising i k d later short) in
                omega arith
            | inr equal ↦
                let same : k ≡ i = omega arith in
                other (ap (λ (u : Table). u.symbol) (sym at_t) ∙ ap (λ j. (get_or ts j d).symbol) (sym same) ∙ h)
          ]
    ])
