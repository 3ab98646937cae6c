-- The places of tables: of one more, and what stands there.
use Rattle.std.proofs.Common.{◌≡◌, ℕ, zero, suc, ◌+◌, ◌<◌, List, [], ◌∷◌, ◌++◌, length, take, Bool, true, false, cond, nat_eq, Option, Some, None, is_some, sym, ap, subst, ◌∙◌, arith, refl}
use Rattle.std.specs.Prelude.{slice_get, if◌then◌else◌}
use Rattle.std.proofs.lemmas.Grind.{common_steps}
use Rattle.std.proofs.lemmas.Bool.{eqb-true}
use Rattle.std.proofs.lemmas.Option.{slice_get_within}
use Rattle.smt_meaning.specs.declared.values.Table.{Table}
use Rattle.smt_meaning.specs.declared.values.Value.{Value}
use Rattle.smt_meaning.specs.declared.values.Value.TheVariants.{Truth}
use Rattle.smt_meaning.specs.Interpretation.{meaning, look}
use Rattle.model_eval.specs.Tables.{here_or_later, first_place, place_with}

push_one : (b : Bool) → here_or_later b None ≡ place_with None b 0
push_one true = refl
push_one false = refl

push_more : (c : Bool) (o : Option ℕ) (b : Bool) (n : ℕ) → here_or_later c (place_with o b n) ≡ place_with (here_or_later c o) b (suc n)
push_more true o b n = refl
push_more false None true n = refl
push_more false None false n = refl
push_more false (Some i) b n = refl

-- one more table
pub first_place_push : (ts : List Table) (t : Table) (q : ℕ) → first_place (ts ++ t ∷ []) q ≡ place_with (first_place ts q) (nat_eq t.symbol q) (length ts)
first_place_push [] t q = push_one (nat_eq t.symbol q)
first_place_push (x ∷ ts) t q =
    let last : suc (length ts) ≡ length (x ∷ ts) = grind (arith, common_steps) in
    ap (here_or_later (nat_eq x.symbol q)) (first_place_push ts t q) ∙ push_more (nat_eq x.symbol q) (first_place ts q) (nat_eq t.symbol q) (length ts)
    ∙ ap (place_with (first_place (x ∷ ts) q) (nat_eq t.symbol q)) last

within_by : (b : Bool) (o : Option ℕ) (n i : ℕ) → ((j : ℕ) → o ≡ Some j → j < n) → here_or_later b o ≡ Some i → i < suc n
within_by true o n i h e = let z : 0 ≡ i = cc in omega arith
within_by false None n i h e = absurd cc
within_by false (Some j) n i h e = let z : suc j ≡ i = cc in let below = h j refl in omega arith

-- a place is one of the list's
pub first_place_within : (ts : List Table) (q i : ℕ) → first_place ts q ≡ Some i → i < length ts
first_place_within [] q i e = absurd cc
first_place_within (x ∷ ts) q i e =
    let last : suc (length ts) ≡ length (x ∷ ts) = grind (arith, common_steps) in
    subst (λ n. i < n) last (within_by (nat_eq x.symbol q) (first_place ts q) (length ts) i (λ j h. first_place_within ts q j h) e)

turned : (a b : ℕ) → nat_eq a b ≡ nat_eq b a
turned a b = grind arith

module _ (x : Table) (ts : List Table) (q : ℕ) (vs : List Value) where
  at_by : (b : Bool) (o : Option ℕ) (i : ℕ) (t : Table) → ((j : ℕ) → o ≡ Some j → slice_get ts j ≡ Some t → meaning ts q vs ≡ look t.rows t.default vs)
      → here_or_later b o ≡ Some i → slice_get (x ∷ ts) i ≡ Some t → (if b then look x.rows x.default vs else meaning ts q vs) ≡ look t.rows t.default vs
  at_by true o i t later e g =
      let z : i ≡ 0 = cc in
      let g' : slice_get (x ∷ ts) 0 ≡ Some t = subst (λ n. slice_get (x ∷ ts) n ≡ Some t) z g in
      let same : x ≡ t = cc in
      ap (λ (y : Table). look y.rows y.default vs) same
  at_by false None i t later e g = absurd cc
  at_by false (Some j) i t later e g =
      let z : i ≡ suc j = cc in
      later j refl (subst (λ n. slice_get (x ∷ ts) n ≡ Some t) z g)

  none_by : (b : Bool) (o : Option ℕ) → (o ≡ None → meaning ts q vs ≡ Truth false) → here_or_later b o ≡ None → (if b then look x.rows x.default vs else meaning ts q vs) ≡ Truth false
  none_by true o later e = absurd cc
  none_by false None later e = later refl
  none_by false (Some j) later e = absurd cc

-- the table at the first place gives the symbol's value
pub meaning_at : (ts : List Table) (q : ℕ) (vs : List Value) (i : ℕ) (t : Table) → first_place ts q ≡ Some i → slice_get ts i ≡ Some t → meaning ts q vs ≡ look t.rows t.default vs
meaning_at [] q vs i t e g = absurd cc
meaning_at (x ∷ ts) q vs i t e g =
    rw (turned q x.symbol) (at_by x ts q vs (nat_eq x.symbol q) (first_place ts q) i t (λ j h k. meaning_at ts q vs j t h k) e g)

pub meaning_none : (ts : List Table) (q : ℕ) (vs : List Value) → first_place ts q ≡ None → meaning ts q vs ≡ Truth false
meaning_none [] q vs e = refl
meaning_none (x ∷ ts) q vs e = rw (turned q x.symbol) (none_by x ts q vs (nat_eq x.symbol q) (first_place ts q) (λ h. meaning_none ts q vs h) e)

kept_by : (symbol q place : ℕ) (b : Bool) (o o' : Option ℕ) → (b ≡ true → o' ≡ o) → is_some o ≡ true → o' ≡ place_with o' b place
kept_by symbol q place b o (Some i) same some = refl
kept_by symbol q place false o None same some = refl
kept_by symbol q place true None None same some = absurd cc
kept_by symbol q place true (Some i) None same some = absurd (let e : None ≡ Some i = same refl in cc)

-- a symbol that has a place keeps it
pub place_kept : (at : ℕ → Option ℕ) (symbol q place : ℕ) → is_some (at symbol) ≡ true → at q ≡ place_with (at q) (nat_eq symbol q) place
place_kept at symbol q place some = kept_by symbol q place (nat_eq symbol q) (at symbol) (at q) (λ e. ap at (sym (eqb-true symbol q e))) some

new_by : (place : ℕ) (b : Bool) (o o' : Option ℕ) → (b ≡ true → o' ≡ o) → is_some o ≡ false → cond b (Some place) o' ≡ place_with o' b place
new_by place true None o' same none = rw (same refl) refl
new_by place true (Some i) o' same none = absurd cc
new_by place false o None same none = refl
new_by place false o (Some i) same none = refl

-- a symbol that has none gets one
pub place_new : (at : ℕ → Option ℕ) (symbol q place : ℕ) → is_some (at symbol) ≡ false → cond (nat_eq symbol q) (Some place) (at q) ≡ place_with (at q) (nat_eq symbol q) place
place_new at symbol q place none = new_by place (nat_eq symbol q) (at symbol) (at q) (λ e. ap at (sym (eqb-true symbol q e))) none

pub take_one : (xs : List Table) (i : ℕ) (t : Table) → slice_get xs i ≡ Some t → take (suc i) xs ≡ take i xs ++ t ∷ []
take_one [] i t e = absurd cc
take_one (x ∷ xs) zero t e = let same : x ≡ t = cc in ap (λ (y : Table). y ∷ []) same
take_one (x ∷ xs) (suc i) t e = ap (λ (ys : List Table). x ∷ ys) (take_one xs i t e)

shorter : (i : ℕ) (xs : List Table) → i < length xs → length (take i xs) ≡ i
shorter i xs l = grind (arith, common_steps)

-- the places of one table more
pub place_more : (ts : List Table) (i : ℕ) (t : Table) (q : ℕ) → slice_get ts i ≡ Some t → place_with (first_place (take i ts) q) (nat_eq t.symbol q) i ≡ first_place (take (i + 1) ts) q
place_more ts i t q e =
    let next : suc i ≡ i + 1 = omega arith in
    let size : i ≡ length (take i ts) = sym (shorter i ts (slice_get_within ts i t e)) in
    ap (place_with (first_place (take i ts) q) (nat_eq t.symbol q)) size ∙ sym (first_place_push (take i ts) t q) ∙ ap (λ (xs : List Table). first_place xs q) (sym (take_one ts i t e))
    ∙ ap (λ n. first_place (take n ts) q) next
