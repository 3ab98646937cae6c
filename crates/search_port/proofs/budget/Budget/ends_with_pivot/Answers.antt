use Rattle.std.proofs.Common.{◌≡◌, ℕ, ◌+◌, ◌-◌, ◌∙◌, rules, zero, suc, true, false, List, [], ◌∷◌, length, get_or, refl, sym, subst, arith}
use Rattle.fraction128.specs.declared.Line.{Line}
use Rattle.search_port.specs.declared.budget.Spent.{Spent}
use Rattle.search_port.specs.declared.budget.Spent.TheVariants.{Learnt, Numbered, Pivot}
use Rattle.search_port.specs.Spending.{Spending}
use Rattle.search_port.specs.Pivots.{EndsOtherwise}
use Rattle.search_port.proofs.budget.Budget.ends_with_pivot.Goals as goal

ends_pivot : (us : List Spent) (k : ℕ) (d : Spent) (l : Line) → k + 1 ≡ length us → get_or us k d ≡ Pivot l → EndsOtherwise us → ⊥
ends_pivot [] k d l e is h = absurd (omega (arith, e))
ends_pivot (u ∷ []) zero d l e is h = subst (λ (x : Spent). EndsOtherwise (x ∷ [])) is h
ends_pivot (u ∷ []) (suc k) d l e is h = absurd (omega (arith, e))
ends_pivot (u ∷ v ∷ us) zero d l e is h = absurd (omega (arith, e))
ends_pivot (u ∷ v ∷ us) (suc k) d l e is h = ends_pivot (v ∷ us) k d l (omega (arith, e)) is h

other_one : (u : Spent) → ((l : Line) → u ≡ Pivot l → ⊥) → EndsOtherwise (u ∷ [])
other_one (Learnt c) h = tt
other_one (Numbered n) h = tt
other_one (Pivot l) h = h l refl

ends_other : (us : List Spent) (k : ℕ) (d : Spent) → k + 1 ≡ length us → ((l : Line) → get_or us k d ≡ Pivot l → ⊥) → EndsOtherwise us
ends_other [] k d e h = tt
ends_other (u ∷ []) zero d e h = other_one u h
ends_other (u ∷ []) (suc k) d e h = absurd (omega (arith, e))
ends_other (u ∷ v ∷ us) zero d e h = absurd (omega (arith, e))
ends_other (u ∷ v ∷ us) (suc k) d e h = ends_other (v ∷ us) k d (omega (arith, e)) h

pub returns-in-Pivot-clause-yes : goal.returns-in-Pivot-clause-yes
returns-in-Pivot-clause-yes c t =
    let size : c.len-count.result ≡ length c.self.inside.units.items = search rules in
    let some : c.len-count.result ≡ 0 → ⊥ = c.if-count-eq0.false in
    let last : c.len-count.result - 1 + 1 ≡ length c.self.inside.units.items = omega arith in
    let pivot : EndsOtherwise c.self.inside.units.items → ⊥ = ends_pivot c.self.inside.units.items (c.len-count.result - 1) c.index.result.now c.in-Pivot.field-0 last (sym c.index.ensures ∙ c.in-Pivot.is) in
    subst (λ (b : Spending). EndsOtherwise b.units → ⊥) c.self.view_is pivot

pub returns-in_default : goal.returns-in_default
returns-in_default c =
    let size : c.len-count.result ≡ length c.self.inside.units.items = search rules in
    let some : c.len-count.result ≡ 0 → ⊥ = c.if-count-eq0.false in
    let last : c.len-count.result - 1 + 1 ≡ length c.self.inside.units.items = omega arith in
    let other : EndsOtherwise c.self.inside.units.items = ends_other c.self.inside.units.items (c.len-count.result - 1) c.index.result.now last (λ l e. c.in_default.not-Pivot l (c.index.ensures ∙ e)) in
    record {
      yes = λ e. absurd (never e);
      no = λ e. subst (λ (b : Spending). EndsOtherwise b.units) c.self.view_is other;
    }
  where
    never : false ≡ true → ⊥
    never e = cc
