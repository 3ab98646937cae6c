use Rattle.std.proofs.Common.{◌≡◌, ◌<◌, ◌∙◌, Err, length, take, ap, arith}
use Rattle.std.proofs.lemmas.List.{length-take-le}
use Rattle.term_store.specs.Terms.{Terms}
use Rattle.proof_terms.proofs.TermHeldLemmas.{copied_more}
use Rattle.proof_terms.proofs.terms_held.copy.Goals as goal

pub loop-place-preserved : goal.loop-place-preserved
loop-place-preserved c =
    let ok = c.in-Ok.ensures.ok in
    let inside : c.loop-place.place < length c.args.terms.now.trees = omega (arith, c.len-place-end.ensures.value) in
    record {
      limit = ap (λ (s : Terms). s.limit) ok ∙ c.loop-place.invariant.limit;
      trees =
          ap (λ (s : Terms). s.trees) ok
          ∙ copied_more c.args.terms.now.trees c.loop-place.place c.node-node.result.head c.node-node.result.arguments.now c.len-place-end.ensures.different inside c.node-node.ensures.tree c.node-node.ensures.earlier c.loop-place.copy.trees c.loop-place.invariant.trees;
    }

-- the copy has fewer terms than there may be
pub unreachable-requires : goal.unreachable-requires
unreachable-requires c =
    let inside : c.loop-place.place < length c.args.terms.now.trees = omega (arith, c.len-place-end.ensures.value) in
    let copied : length c.loop-place.copy.trees ≡ length (take c.loop-place.place c.args.terms.now.trees) = ap length c.loop-place.invariant.trees in
    let many : length (take c.loop-place.place c.args.terms.now.trees) ≡ c.loop-place.place = length-take-le c.loop-place.place c.args.terms.now.trees (omega (arith, inside)) in
    let full : length c.loop-place.copy.trees ≡ c.loop-place.copy.limit = (c.in-Err-Full.ensures.full.0 (ap Err c.in-Err-Full.field-0-is)).0 in
    let limit : c.loop-place.copy.limit ≡ c.args.terms.now.limit = c.loop-place.invariant.limit in
    omega (arith, inside, copied, many, full, limit, c.len-place-end.ensures.within)
