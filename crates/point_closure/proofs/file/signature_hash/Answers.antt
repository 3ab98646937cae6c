use Rattle.std.proofs.Common.{◌≡◌, ◌/◌, map, arith, sym, ap, ◌∙◌}
use Rattle.std.proofs.lemmas.List.{at_drop_all}
use Rattle.term_store.specs.Hash.{words_state}
use Rattle.point_closure.specs.Closure.{point_at}
use Rattle.point_closure.specs.Unions.{root_of}
use Rattle.point_closure.specs.Signature.{signature_hash, shape_state}
use Rattle.point_closure.proofs.file.signature_hash.Goals as goal

pub returns : goal.returns
unfolding signature_hash
returns c =
    let us = c.args.classes.now.unions in
    let p = point_at c.args.graph.now c.args.point in
    let all : c.loop-argument.state ≡ words_state (shape_state p.shape) (map (root_of us) p.arguments) =
    sym (at_drop_all (λ xs. words_state c.loop-argument.state (map (root_of us) xs)) c.arguments-arguments.result.now c.loop-argument.argument-index (omega arith)) ∙ c.loop-argument.invariant in
    ap (λ s. s / 4294967296) all
