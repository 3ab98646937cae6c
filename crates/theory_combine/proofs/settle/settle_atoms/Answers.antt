use Rattle.std.proofs.Common.{◌≡◌, ◌∙◌, below_more, subst}
use Rattle.theory_combine.specs.declared.parts.Progress.{Progress}
use Rattle.theory_combine.specs.Settling.{IsAtomTold}
use Rattle.theory_combine.proofs.settle.settle_atoms.Goals as goal

pub loop-number-preserved : goal.loop-number-preserved
loop-number-preserved c =
    let p = c.args.parts.now in
    let w = c.args.progress.now in
    let loop = c.loop-number in
    let told : IsAtomTold p w loop.number = subst (λ (v : Progress). IsAtomTold p v loop.number) loop.invariant.same c.in-None.ensures.none in
    let same : c.settle_atom.new.progress ≡ loop.progress = c.in-None.ensures.same in
    let unspent : c.settle_atom.new.budget ≡ loop.budget = c.in-None.ensures.unspent in
    record {
      same = same ∙ loop.invariant.same;
      unspent = unspent ∙ loop.invariant.unspent;
      told = below_more (λ n. IsAtomTold p w n) loop.number loop.invariant.told told;
    }
