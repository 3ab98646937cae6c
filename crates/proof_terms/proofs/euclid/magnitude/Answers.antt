use Rattle.std.proofs.Common.{◌≡◌, length, List, ℕ, sym, subst, arith}
use Rattle.std.specs.Prelude.{slice_index_or}
use Rattle.smt_meaning.specs.declared.terms.Head.TheVariants.{Theory}
use Rattle.smt_meaning.specs.declared.terms.Operator.TheVariants.{Absolute}
use Rattle.proof_terms.specs.declared.euclid.Division.TheVariants.{Magnitude}
use Rattle.proof_terms.specs.EuclidRows.{IsDivision}
use Rattle.proof_terms.proofs.EuclidDivisions.{one_of, magnitude_division}
use Rattle.proof_terms.proofs.euclid.magnitude.Goals as goal

pub returns-then-arguments-eq1 : goal.returns-then-arguments-eq1
returns-then-arguments-eq1 c = λ ts i below.
    (let js = c.args.arguments.now in
    let a = slice_index_or js 0 0 in
    let size : length js ≡ 1 = c.if-arguments-eq1.true in
    subst (λ (xs : List ℕ). IsDivision ts i (Theory Absolute) xs (Magnitude a)) (sym (one_of js size)) (magnitude_division ts i a (below 0 0 (omega (arith, size)))))
