use Rattle.std.proofs.Common.{◌≡◌, drop, map}
use Rattle.term_store.specs.Hash.{words_state}
use Rattle.point_closure.specs.Closure.{point_at}
use Rattle.point_closure.specs.Unions.{root_of}
use Rattle.point_closure.specs.Signature.{shape_state}
use Rattle.point_closure.proofs.file.signature_hash.Given as goal

abbrev pub invariant-loop-argument : goal.invariant-loop-argument
invariant-loop-argument l =
    words_state l.state (map (root_of l.classes.unions) (drop l.argument-index l.arguments)) ≡ words_state (shape_state (point_at l.graph l.point).shape) (map (root_of l.classes.unions) (point_at l.graph l.point).arguments)
