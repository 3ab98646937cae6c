-- The table as it is made keeps the rule, and the claims at the start.
use Rattle.std.proofs.Common.{◌≡◌, ℕ, zero, suc, ◌+◌, ◌<◌, ◌≤◌, List, [], ◌∷◌, ◌++◌, length, map, eqb, sym, refl, ap, ◌∙◌, subst, inl, arith, eq-eqb, ne_eqb, add-one, ◌-◌}
use Rattle.std.proofs.lemmas.List.{map-append}
use Rattle.atomic_table.specs.Table.{Me, Splits}
use Rattle.atomic_table.specs.declared.shared.Seat.{Seat}
use Rattle.race_model.specs.declared.shelf.Shelf.{Ghosts}
use Rattle.race_cell.specs.declared.race.Pass.{Pass}
use Rattle.race_cell.specs.Passes.{claim_of}
use Rattle.race_cell.proofs.Keeps.{splits}
use Rattle.std.specs.Prelude.{Option as Maybe}
use mathlib.Core.Option.{some, some-injective, some-ne-none}
use mathlib.Core.Logic.{dite}
use native.Mathlib.Decide.{ℕ_discrete}
use lib.ListN.{get_elem?}
use Rattle.atomic_table.specs.Table.{opening}
use Rattle.race_model.specs.Shelves.{ShelfState}
use Rattle.race_cell.specs.declared.view.Claim.{Claim}
use Rattle.race_cell.specs.declared.view.View.{View}
use Rattle.race_cell.specs.Rules.{total, weight, FitsClaim, Fits, Kept, fresh, fresh_from, with_claims, opening_view, without_head, with_head, claim}

pub length-fresh : (w k : ℕ) → length (fresh_from w k) ≡ k
length-fresh w zero = refl
length-fresh w (suc k) = ap suc (length-fresh (suc w) k)

none_below : (x w k : ℕ) → x < w → total (λ (c : Claim). weight (eqb c.worker x)) (fresh_from w k) ≡ 0
none_below x w zero lt = refl
none_below x w (suc k) lt = let e : weight (eqb w x) ≡ 0 = ap weight (ne_eqb w x (λ h. omega arith)) in let t = none_below x (suc w) k (omega arith) in omega arith

one_each : (x w k : ℕ) → total (λ (c : Claim). weight (eqb c.worker x)) (fresh_from w k) ≤ 1
one_each x w zero = omega arith
one_each x w (suc k) = dite (ℕ_discrete w x)
    (λ same. let e : weight (eqb w x) ≡ 1 = ap weight (eq-eqb w x same) in let t = none_below x (suc w) k (omega arith) in omega arith)
    (λ other. let e : weight (eqb w x) ≡ 0 = ap weight (ne_eqb w x other) in let t = one_each x (suc w) k in omega arith)

fresh_fits : (n w k : ℕ) → w + k ≤ n → (i : ℕ) (c : Claim) → get_elem? (fresh_from w k) i ≡ some c → FitsClaim n [] 0 0 c
fresh_fits n w zero le i c e = absurd (some-ne-none c (sym e))
fresh_fits n w (suc k) le zero c e = subst (FitsClaim n [] 0 0) (some-injective (fresh w) c e) record { known = omega arith; saw = record { since = []; whole = refl; idle = refl }; own = refl; found = λ ne. absurd (ne refl); place = λ h. absurd (cc) }
fresh_fits n w (suc k) le (suc i) c e = fresh_fits n (suc w) k (omega arith) i c e

module _ {S : Type 0} (state : S → ShelfState) where
  pub opens : (y : S) (n : ℕ) → n ≤ (state y).room → n < 256 → Kept state (state y) n (opening (0 ∷ 0 ∷ 0 ∷ []) (y ∷ []) (opening_view y n))
  opens y n roomy small = record {
    log = [];
    turn = 0;
    winner = 0;
    at = 0;
    words = refl;
    slot = inl (refl, (y, refl, record { held = refl; based = refl; ended = refl; room = omega arith; global = refl }));
    won = (omega arith, omega arith);
    legal = tt;
    room = roomy;
    few = small;
    holders = refl;
    count = let t = length-fresh 0 n in omega arith;
    apart = λ x. let t = one_each x 0 n in omega arith;
    each = one;
  }
    where
      one : (id : ℕ) (v : View S) → get_elem? (opening_view y n ∷ []) id ≡ some v → Fits state (state y) n [] 0 0 v
      one zero v e = subst (Fits state (state y) n [] 0 0) (some-injective (opening_view y n) v e) record { claims = fresh_fits n 0 n (omega arith); based = λ _. refl; holds = λ h. absurd (cc) }
      one (suc id) v e = absurd (some-ne-none v (sym e))

  -- the first claim of several goes to a seat of its own
  pub may_split : (b : ShelfState) (n id : ℕ) (m : Me S (View S)) (b' : Maybe S) (w k : ℕ) → m ≡ (with_claims b' (fresh_from w (suc k)), []) → Splits (Kept state b n) id m.0 (without_head m.0) (with_head m.0)
  may_split b n id m b' w k e = subst (λ (z : Me S (View S)). Splits (Kept state b n) id z.0 (without_head z.0) (with_head z.0)) (sym e) (splits state b n id b' (fresh w) (fresh_from (suc w) k))

fresh-snoc : (w k : ℕ) → fresh_from w (suc k) ≡ fresh_from w k ++ fresh (w + k) ∷ []
fresh-snoc w zero = let e : w ≡ w + 0 = omega arith in ap (λ x. fresh x ∷ []) e
fresh-snoc w (suc k) = let e : suc w + k ≡ w + suc k = omega arith in ap (λ l. fresh w ∷ l) (fresh-snoc (suc w) k ∙ ap (λ x. fresh_from (suc w) k ++ fresh x ∷ []) e)

module _ {S : Type 0} where
  pub left_over : (m m' : Me S (View S)) (b : Maybe S) (w k n : ℕ) → w + suc k ≡ n → w < n - 1 → m ≡ (with_claims b (fresh_from w (suc k)), []) → m' ≡ (without_head m.0, m.1)
      → (k' : ℕ) × (w + 1 + suc k' ≡ n) × (m' ≡ (with_claims b (fresh_from (w + 1) (suc k')), []))
  left_over m m' b w zero n e lt is after = absurd (omega arith)
  left_over m m' b w (suc k) n e lt is after = (
    k,
    omega arith,
    after ∙ (ap (λ (z : Me S (View S)). (without_head z.0, z.1)) is ∙ ap (λ x. (with_claims b (fresh_from x (suc k)), [])) (sym (add-one w))),
  )

module _ {S : Type 0} {G : Ghosts S} where
  pub deals : (items items' : List (Pass S G)) (p : Pass S G) (w : ℕ) → items' ≡ items ++ p ∷ [] → map claim_of items ≡ fresh_from 0 w → claim_of p ≡ fresh w → map claim_of items' ≡ fresh_from 0 (w + 1)
  deals items items' p w e is new =
      let z : w ≡ 0 + w = omega arith in
      ap (map claim_of) e ∙ (map-append claim_of items (p ∷ []) ∙ ((λ i. is i ++ new i ∷ []) ∙ (ap (λ x. fresh_from 0 w ++ fresh x ∷ []) z ∙ (sym (fresh-snoc 0 w) ∙ ap (fresh_from 0) (sym (add-one w))))))

  pub right_claim : (p : Pass S G) (seat : Seat S (View S)) (m : Me S (View S)) (b : Maybe S) (w k : ℕ) → p.seat ≡ seat → seat.me ≡ (with_head m.0, []) → m ≡ (with_claims b (fresh_from w (suc k)), []) → claim_of p ≡ fresh w
  right_claim p seat m b w k e f g = ap (λ (z : Seat S (View S)). claim z.me.0) e ∙ (ap (λ (z : Me S (View S)). claim z.0) f ∙ ap (λ (z : Me S (View S)). claim (with_head z.0)) g)

  pub last_claim : (p : Pass S G) (seat : Seat S (View S)) (b : Maybe S) (w k : ℕ) → p.seat ≡ seat → seat.me ≡ (with_claims b (fresh_from w (suc k)), []) → claim_of p ≡ fresh w
  last_claim p seat b w k e f = ap (λ (z : Seat S (View S)). claim z.me.0) e ∙ ap (λ (z : Me S (View S)). claim z.0) f
