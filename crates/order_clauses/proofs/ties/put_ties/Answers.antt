use Rattle.std.proofs.Common.{rules, ◌≡◌, [], ◌∷◌, ◌++◌, Contains, All, subst, ◌∙◌}
use Rattle.std.specs.Prelude.{flat_map}
use Rattle.std.proofs.lemmas.List.{take_all}
use Rattle.std.proofs.lemmas.Result.{err_from_is_err_and}
use Rattle.order_clauses.specs.Clauses.{same_number, tie}
use Rattle.order_clauses.specs.Needed.{atoms_of_pair}
use Rattle.order_clauses.proofs.Causes.{one_pair}
use Rattle.order_clauses.proofs.Steps.{map_step, flat_step, All-flat_step}
use Rattle.order_clauses.proofs.ties.put_ties.Goals as goal

pub returns-in_err-number-clause-cause : goal.returns-in_err-number-clause-cause
returns-in_err-number-clause-cause g c =
    let p = err_from_is_err_and c.from_residual.result c.from_residual.ensures.1 in
    rw (p.1, p.2)
    (one_pair g.trees c.args.atoms.now.atoms c.args.are_ints c.args.pairs.now c.loop-pair.pair-index _ c.in_err-number.field-0.0 c.loop-pair-test.true c.in_err-number.ensures.cause)

pub loop-pair-preserved : goal.loop-pair-preserved
loop-pair-preserved g c =
    let table = c.args.atoms.now.atoms in
    let pairs = c.args.pairs.now in
    let k = c.loop-pair.pair-index in
    let pushed : c.push.new.self.items ≡ c.loop-pair.numbers.items ++ c.in_ok-number.number ∷ [] = search rules in (
      c.put_tie.ensures.same ∙ c.loop-pair.invariant.0,
      map_step pairs k _ c.loop-pair-test.true (same_number table) c.loop-pair.numbers.items c.push.new.self.items c.in_ok-number.number c.loop-pair.invariant.1 pushed c.in_ok-number.ensures.number,
      All-flat_step pairs k _ c.loop-pair-test.true (Contains table) (atoms_of_pair g.trees c.args.are_ints) c.loop-pair.invariant.2 c.in_ok-number.ensures.has,
      flat_step pairs k _ c.loop-pair-test.true (tie g.trees table c.args.are_ints) c.args.clauses.now c.loop-pair.clauses c.put_tie.new.clauses c.loop-pair.invariant.3 c.in_ok-number.ensures.put,
    )

pub returns-clause-has : goal.returns-clause-has
returns-clause-has g c =
    subst (λ qs. All (Contains c.args.atoms.now.atoms) (flat_map (atoms_of_pair g.trees c.args.are_ints) qs)) (take_all c.loop-pair.pair-index c.args.pairs.now c.loop-pair-test.false) c.loop-pair.invariant.2
