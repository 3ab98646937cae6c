use Rattle.std.proofs.Common.{◌≡◌, ℕ, ◌+◌, ◌<◌, ◌⊎◌, Bool, true, false, inl, inr, sym, subst, ap, refl, arith}
use Rattle.literals.specs.Signed.{Signed, opposite}
use Rattle.clause_store.specs.declared.trail.Step.{Step}
use Rattle.clause_store.specs.Trail.{Assigns, StatusOf}
use Rattle.clause_store.specs.declared.trail.Status.{Status}
use Rattle.clause_store.specs.declared.trail.Status.TheVariants.{Open, True, False}
use Rattle.std.proofs.Common.{List}
use Rattle.cdcl_core.proofs.order.first_open.Goals as goal

pub returns-in-Open : goal.returns-in-Open
returns-in-Open c = record {
  known = (let n = c.atoms-atom-end.ensures.atoms in let a : c.new-literal.result.atom ≡ c.loop-atom.atom = ap (λ (l : Signed). l.atom) c.new-literal.ensures in omega arith);
  is_open = c.in-Open.ensures;
  room = omega arith;
}

has_value : (steps : List Step) (l : Signed) (s : Status) → StatusOf steps l s → (s ≡ Open → ⊥) → Assigns steps l ⊎ Assigns steps (opposite l)
has_value steps l Open h ne = absurd (ne refl)
has_value steps l True h ne = inl h.0
has_value steps l False h ne = inr h.0

both_signs : (steps : List Step) (a : ℕ) → Assigns steps (record { atom = a; positive = false }) ⊎ Assigns steps (record { atom = a; positive = true }) → (b : Bool)
    → Assigns steps (record { atom = a; positive = b }) ⊎ Assigns steps (opposite (record { atom = a; positive = b }))
both_signs steps a (inl h) true = inr h
both_signs steps a (inr h) true = inl h
both_signs steps a (inl h) false = inl h
both_signs steps a (inr h) false = inr h

below_or_at : (a n : ℕ) → a < n + 1 → (a < n) ⊎ (a ≡ n)
below_or_at a n h = grind arith

pub loop-atom-preserved : goal.loop-atom-preserved
loop-atom-preserved c m lt =
    let l : Signed = record { atom = c.loop-atom.atom; positive = false } in
    let here : Assigns c.args.store.now.trail.steps l ⊎ Assigns c.args.store.now.trail.steps (opposite l) =
    has_value c.args.store.now.trail.steps l c.status.result (subst (λ x. StatusOf c.args.store.now.trail.steps x c.status.result) c.new-literal.ensures c.status.ensures) c.in_default.not-Open in
    elim (below_or_at m.atom c.loop-atom.atom lt) [
      | inl less ↦ c.loop-atom.invariant m less
      | inr at ↦ both_signs c.args.store.now.trail.steps m.atom (subst (λ n. Assigns c.args.store.now.trail.steps (record { atom = n; positive = false }) ⊎ Assigns c.args.store.now.trail.steps (record { atom = n; positive = true })) (sym at) here) m.positive
    ]
