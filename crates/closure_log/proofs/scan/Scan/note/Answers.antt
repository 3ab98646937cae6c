use Rattle.std.proofs.Common.{◌∷◌, ◌++◌, [], sym, subst}
use Rattle.std.specs.Prelude.{slice_set}
use Rattle.closure_log.specs.Places.{ArePlaces}
use Rattle.closure_log.proofs.Scanning.{noted_push, noted_same}
use Rattle.closure_log.proofs.scan.Scan.note.Goals as goal

pub returns-clause-joined : goal.returns-clause-joined
returns-clause-joined c = λ log h is_open last.
    subst (λ n. ArePlaces (log ++ c.args.literal ∷ []) (slice_set c.args.self.now.places.items n c.args.place)) (sym c.atom.ensures)
    (noted_push log c.args.self.now.places.items c.args.literal c.args.place h is_open c.requires last)

pub returns-clause-same : goal.returns-clause-same
returns-clause-same c = λ log h is_open.
    subst (λ n. ArePlaces log (slice_set c.args.self.now.places.items n c.args.place)) (sym c.atom.ensures)
    (noted_same log c.args.self.now.places.items c.args.literal c.args.place h is_open)
