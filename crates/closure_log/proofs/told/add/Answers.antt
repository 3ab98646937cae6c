use Rattle.std.proofs.Common.{rules, ◌≡◌, ◌∷◌, ◌++◌, [], length, sym, subst}
use Rattle.std.specs.Prelude.{ℕ, List}
use Rattle.literals.specs.Signed.{Signed}
use Rattle.closure_log.specs.Told.{IsTold}
use Rattle.closure_log.proofs.Telling.{told_push}
use Rattle.closure_log.proofs.told.add.Goals as goal

pub record-requires-clause-told : goal.record-requires-clause-told
record-requires-clause-told c =
    let start : c.len-start.result ≡ length c.args.told.now.congruence.reasons.items = search rules in
    subst (λ (ls : List Signed). IsTold c.args.stack.now c.args.atoms.now.atoms c.args.told.now.congruence ls c.push_told.new.starts.items) (sym c.in_ok-push_told.ensures.ok.0)
    (subst (λ (ns : List ℕ). IsTold c.args.stack.now c.args.atoms.now.atoms c.args.told.now.congruence (c.args.told.now.log.items ++ c.args.literal ∷ []) ns) (sym c.in_ok-push_told.ensures.ok.1)
    (told_push c.args.stack.now c.args.atoms.now.atoms c.args.told.now.congruence c.args.told.now.log.items c.args.told.now.starts.items c.args.literal c.len-start.result c.requires.told c.requires.numbered
    c.requires.is_open start))
