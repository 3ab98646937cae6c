-- The winner that a worker found has won.
use Rattle.std.proofs.Common.{◌≡◌, ℕ, zero, suc, ◌+◌, ◌<◌, ◌≢◌, List, [], ◌∷◌, length, take, drop, get_or, sym, refl, ap, ◌∙◌, subst, arith}
use Rattle.std.specs.Prelude.{Contains}
use Rattle.std.proofs.lemmas.List.Elements.{Contains-append_left, Contains-append_right}
use mathlib.Core.Option.{some}
use lib.ListN.{get_elem?}
use Rattle.race_model.specs.Shelves.{ShelfState}
use Rattle.race_cell.specs.declared.action.Action.{Action}
use Rattle.race_cell.specs.declared.action.Action.TheVariants.{Win}
use Rattle.race_cell.specs.declared.view.Claim.{Claim}
use Rattle.race_cell.specs.Actions.{actions_by}
use Rattle.race_cell.specs.Rules.{FitsClaim, fresh_from, history}
use Rattle.race_cell.specs.Laws.{FreshAreInOrder, WinnerHasWon}
use Rattle.race_cell.proofs.Lists.{by_own, by-append}

there : (cs : List Claim) (i : ℕ) (d : Claim) → i < length cs → get_elem? cs i ≡ some (get_or cs i d)
there [] i d lt = absurd (omega arith)
there (c ∷ cs) zero d lt = refl
there (c ∷ cs) (suc i) d lt = there cs i d (omega arith)

stands : (w at : ℕ) (log : List Action) → Contains (actions_by w (history (suc w) at log)) (Win w)
stands w at log =
    let here : Contains (Win w ∷ []) (Win w) = (0, omega arith, refl) in
    let own : Contains (actions_by w (Win w ∷ [])) (Win w) = subst (λ l. Contains l (Win w)) (sym (by_own w (Win w) refl)) here in
    let later : Contains (actions_by w (Win w ∷ drop at log)) (Win w) = subst (λ l. Contains l (Win w)) (sym (by-append w (Win w ∷ []) (drop at log))) (Contains-append_left (actions_by w (Win w ∷ [])) (actions_by w (drop at log)) (Win w) own) in
    subst (λ l. Contains l (Win w)) (sym (by-append w (take at log) (Win w ∷ drop at log))) (Contains-append_right (actions_by w (take at log)) (actions_by w (Win w ∷ drop at log)) (Win w) later)

has_own : (n : ℕ) (log : List Action) (winner at w : ℕ) (c : Claim) → winner ≡ suc w → c.worker ≡ w → FitsClaim n log winner at c → Contains c.own (Win w)
has_own n log winner at w c e is f =
    let same : actions_by w (history (suc w) at log) ≡ c.own = sym (f.own ∙ λ i. actions_by (is i) (history (e i) at log)) in
    subst (λ l. Contains l (Win w)) same (stands w at log)

module _ {S : Type 0} (state : S → ShelfState) where
  pub winner_has_won : WinnerHasWon state
  winner_has_won b n claims y e order size c among w found =
      let place : get_elem? claims among.0 ≡ some c = there claims among.0 c among.1 ∙ ap some among.2 in
      let some-one : c.found ≢ 0 = λ none. (let f = found in omega arith) in
      let next : w + 1 ≡ suc w = omega arith in
      let winner : e.winner ≡ suc w = (e.each among.0 c place).found some-one ∙ (found ∙ next) in
      let most = e.won in
      let few : w < n = omega arith in
      let inside : w < length claims = omega arith in
      (few, λ d. has_own n e.log e.winner e.at w (get_or claims w d) winner (order w d inside) (e.each w (get_or claims w d) (there claims w d inside)))

from : (w k i : ℕ) (d : Claim) → i < k → (get_or (fresh_from w k) i d).worker ≡ w + i
from w zero i d lt = absurd (omega arith)
from w (suc k) zero d lt = omega arith
from w (suc k) (suc i) d lt = let e : suc w + i ≡ w + suc i = omega arith in from (suc w) k i d (omega arith) ∙ e

length-fresh_from : (w k : ℕ) → length (fresh_from w k) ≡ k
length-fresh_from w zero = refl
length-fresh_from w (suc k) = ap suc (length-fresh_from (suc w) k)

pub fresh_in_order : FreshAreInOrder
fresh_in_order n = (λ i d lt. (let size = length-fresh_from 0 n in let e : 0 + i ≡ i = omega arith in from 0 n i d (omega arith) ∙ e), length-fresh_from 0 n)
