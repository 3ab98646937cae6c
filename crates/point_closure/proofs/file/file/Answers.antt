use Rattle.std.proofs.Common.{◌≡◌, Bool, false, inl, subst}
use Rattle.std.specs.Prelude.{IsTrue}
use Rattle.point_closure.specs.Closure.{point_at, takes_part}
use Rattle.point_closure.specs.Rest.{Pairs}
use Rattle.point_closure.proofs.FileLemmas.{file_new}
use Rattle.point_closure.proofs.file.file.Goals as goal

pub returns-in_ok-push-clause-ok : goal.returns-in_ok-push-clause-ok
returns-in_ok-push-clause-ok c =
    let ps = c.args.graph.now in
    let us = c.args.classes.now.unions in
    let takes : IsTrue (takes_part (point_at ps c.args.point).shape) = cc in
    let none : c.in_ok-pair_found.field-0 ≡ false = cc in
    inl (
      takes,
      file_new ps us c.args.table.now c.push.new.self c.pair_found.new.pending.items c.args.point c.signature_hash-hash.result c.requires.sizes c.signature_hash-hash.ensures
          (subst (λ (b : Bool). Pairs ps us c.args.table.now c.pair_found.new.pending.items c.signature_hash-hash.result c.args.point 0 b) none c.in_ok-pair_found.ensures.ok) c.in_ok-push.ensures.ok,
    )
