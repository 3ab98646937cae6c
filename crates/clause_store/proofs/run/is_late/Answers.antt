use Rattle.std.proofs.Common.{◌≡◌, ◌<◌, ℕ, List, ap, sym, ◌∙◌, length, get_or, nat_eq, not, false, arith}
use Rattle.std.proofs.lemmas.Bool.Decides.{nat_tests}
use Rattle.std.proofs.lemmas.List.{get_or_default}
use Rattle.clause_store.specs.declared.trail.Step.{Step}
use Rattle.clause_store.proofs.Froms.{last-from, last-none, step_at, no_step}
use Rattle.clause_store.proofs.run.is_late.Goals as goal

equal : (a b : ℕ) → not (nat_eq a b) ≡ false → a ≡ b
equal a b h = grind (arith, nat_tests)

pub returns-then-head-steps-clause-no : goal.returns-then-head-steps-clause-no
returns-then-head-steps-clause-no c = λ t.
    let le = c.if-head-steps.true in
    last-none c.args.trail.now.steps c.args.trail.now.depth c.args.head (omega (arith, ap (λ (xs : List Step). length xs) c.steps-steps.ensures.steps))

pub returns-clause-no : goal.returns-clause-no
returns-clause-no c = λ t.
    let steps : List Step = c.args.trail.now.steps in
    let own : List Step = c.steps-steps.result.now in
    let s : Step = c.index-steps-head.result in
    let below = c.if-head-steps.false in
    let lt : c.args.head < length steps = omega (arith, ap (λ (xs : List Step). length xs) c.steps-steps.ensures.steps) in
    let at : step_at steps c.args.head ≡ get_or own c.args.head s = get_or_default steps c.args.head no_step s lt ∙ ap (λ (xs : List Step). get_or xs c.args.head s) (sym c.steps-steps.ensures.steps) in
    last-from steps c.args.trail.now.depth c.args.head c.steps-steps.ensures.in_order lt
    (ap (λ (x : Step). x.depth) at ∙ (equal (get_or own c.args.head s).depth c.depth.result t ∙ c.depth.ensures))
