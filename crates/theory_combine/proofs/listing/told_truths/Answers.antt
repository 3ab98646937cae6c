use Rattle.std.proofs.Common.{◌≡◌, ◌∙◌, ◌+◌, ◌≤◌, ◌++◌, ◌∷◌, [], Bool, false, List, length, sym, ap, subst, arith}
use Rattle.smt_meaning.specs.Term.{Tree}
use Rattle.std.proofs.lemmas.List.{length_push}
use Rattle.theory_combine.specs.Settling.{AreToldTruths, HasToldTruth}
use Rattle.theory_combine.proofs.SettleSteps.{pushed}
use Rattle.theory_combine.proofs.listing.told_truths.Goals as goal

pub loop-place-preserved : goal.loop-place-preserved
loop-place-preserved c =
    let w = c.args.progress.now in
    let table = w.atoms.atoms in
    let log = w.held.closure.log.items in
    let count = c.loop-place.place in
    let old : List Bool = c.loop-place.truths.items in
    let inv = c.loop-place.invariant in
    let size : length old ≡ count = inv.size in
    let items : c.push.new.self.items ≡ old ++ c.truth_of.result ∷ [] = c.in_ok-push.ensures.items in
    record {
      size = ap (λ (bs : List Bool). length bs) items ∙ length_push old c.truth_of.result ∙ ap (λ n. n + 1) size;
      each = subst (λ (bs : List Bool). AreToldTruths table log (count + 1) bs) (sym items) (pushed (HasToldTruth table log) old false c.truth_of.result count size inv.each c.truth_of.ensures);
    }

pub returns-clause-each : goal.returns-clause-each
returns-clause-each c = λ q less.
    let past : length c.args.parts.now.stack.now.trees ≤ c.loop-place.place = omega (arith, c.len-place-end.ensures.value, ap (λ (ts : List Tree). length ts) c.terms.ensures.trees) in
    c.loop-place.invariant.each q (omega arith)
