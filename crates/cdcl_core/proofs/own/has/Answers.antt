use Rattle.std.proofs.Common.{◌≡◌, ℕ, ◌+◌, ◌<◌, true, false, List, eqb-true, eq-eqb, get_or, inl, inr, ◌⊎◌, sym, subst, ap, ◌∙◌, arith}
use Rattle.std.proofs.lemmas.List.{get_or_default}
use Rattle.literals.specs.Signed.{Signed, packed}
use Rattle.literals.proofs.Packing.{packed-injective}
use Rattle.cdcl_core.proofs.own.has.Goals as goal

before-or-at : (k i : ℕ) → k < i + 1 → (k < i) ⊎ (k ≡ i)
before-or-at k i h = grind arith

never : true ≡ false → ⊥
never e = cc

pub loop-other-preserved : goal.loop-other-preserved
loop-other-preserved c k lt e =
    let ls : List Signed = c.args.literals.now in
    elim (before-or-at k c.loop-other.other-index lt) [
      | inl before ↦ c.loop-other.invariant k before e
      | inr at ↦
          let here : get_or ls c.loop-other.other-index c.args.literal ≡ c.args.literal = subst (λ (n : ℕ). get_or ls n c.args.literal ≡ c.args.literal) at e in
          let same : c.other-item.result ≡ c.args.literal = c.other-item.is ∙ get_or_default ls c.loop-other.other-index c.other-item.result c.args.literal c.loop-other-test.true ∙ here in
          never (sym (eq-eqb (packed c.other-item.result) (packed c.args.literal) (ap packed same)) ∙ sym c.eq.ensures ∙ c.if-eq.false)
    ]

pub returns-then-eq-clause-yes : goal.returns-then-eq-clause-yes
returns-then-eq-clause-yes c e =
    let ls : List Signed = c.args.literals.now in
    let same : c.other-item.result ≡ c.args.literal = packed-injective c.other-item.result c.args.literal (eqb-true (packed c.other-item.result) (packed c.args.literal) (sym c.eq.ensures ∙ c.if-eq.true)) in (
      c.loop-other.other-index,
      c.loop-other-test.true,
      sym (get_or_default ls c.loop-other.other-index c.other-item.result c.args.literal c.loop-other-test.true) ∙ sym c.other-item.is ∙ same,
    )

pub returns-clause-no : goal.returns-clause-no
returns-clause-no c e among = c.loop-other.invariant among.0 (let lt = among.1 in let end = c.loop-other-test.false in omega (arith, lt, end)) among.2
