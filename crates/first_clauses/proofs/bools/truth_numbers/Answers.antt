use Rattle.std.proofs.Common.{rules, ◌≡◌, ◌++◌, ◌∷◌, [], ℕ, List, subst, sym}
use Rattle.std.proofs.lemmas.List.{take_all}
use Rattle.search_port.specs.State.{truth_atoms}
use Rattle.first_clauses.specs.Numbers.{AreNumbers}
use Rattle.first_clauses.proofs.Numbering.{truths_more}
use Rattle.first_clauses.proofs.bools.truth_numbers.Goals as goal

pub loop-place-preserved : goal.loop-place-preserved
loop-place-preserved c =
    let pushed : c.push.new.self.items ≡ c.loop-place.numbers.items ++ c.in-Some.number ∷ [] = search rules in
    subst (AreNumbers c.args.atoms.now.atoms _) (sym pushed)
    (truths_more c.args.atoms.now.atoms c.args.places.now c.loop-place.numbers.items c.loop-place.place-index c.in-Some.number c.loop-place.invariant c.loop-place-test.true c.in-Some.ensures.some)

pub returns : goal.returns
returns c =
    subst (λ (ps : List ℕ). AreNumbers c.args.atoms.now.atoms (truth_atoms ps) c.loop-place.numbers.items) (take_all c.loop-place.place-index c.args.places.now c.loop-place-test.false) c.loop-place.invariant
