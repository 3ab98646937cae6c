use Rattle.std.proofs.Common.{◌≡◌, ◌<◌, List, length, get_or, ap, sym, subst, ◌∙◌, arith}
use Rattle.std.proofs.lemmas.List.Elements.{Contains-get_or}
use Rattle.literals.specs.Signed.{Signed}
use Rattle.clause_store.specs.Stored.{Kept, Stored}
use Rattle.search_port.specs.State.{Reading, TheoryState}
use Rattle.search_port.specs.Valid.{FollowsAt, IsOver}
use Rattle.cdcl_core.specs.Search.{Stands, IsQuietBelow}
use Rattle.cdcl_core.proofs.Standing.{stands-added, quiet-undone}
use Rattle.cdcl_core.proofs.insert.add_at.Goals as goal

pub add-requires : goal.add-requires
add-requires g c =
    let t : TheoryState = g.T.Theory.state c.args.theory.now in
    let atoms : c.undo.new.store.trail.atoms ≡ length t.reading.table = ap (λ (s : Stored). s.trail.atoms) c.undo.ensures.undone ∙ c.requires.known in
    let over : IsOver (length t.reading.table) c.as_slice-literals.result.now = subst (IsOver (length t.reading.table)) (sym c.as_slice-literals.ensures) c.requires.addable.1 in
    record { known = λ k d lt. subst (λ n. (get_or c.as_slice-literals.result.now k d).atom < n) (sym atoms) (over.within _ (Contains-get_or c.as_slice-literals.result.now k d lt)) }

pub returns-clause-stands : goal.returns-clause-stands
returns-clause-stands g c =
    let t : TheoryState = g.T.Theory.state c.args.theory.now in
    let u : TheoryState = g.T.Theory.state c.undo.new.theory in
    let ls : List Signed = c.as_slice-literals.result.now in
    let kept : Kept = record { id = c.in_ok-add.field-0; literals = ls; level = c.args.clause.level } in
    let same : ls ≡ c.args.clause.literals = c.as_slice-literals.ensures in
    let atoms : c.undo.new.store.trail.atoms ≡ length t.reading.table = ap (λ (s : Stored). s.trail.atoms) c.undo.ensures.undone ∙ c.requires.known in
    let over : IsOver (length t.reading.table) ls = subst (IsOver (length t.reading.table)) (sym same) c.requires.addable.1 in
    let over2 : IsOver c.undo.new.store.trail.atoms ls = subst (λ n. IsOver n ls) (sym atoms) over in
    let follows : FollowsAt t.reading c.args.clause.level ls = subst (FollowsAt t.reading c.args.clause.level) (sym same) c.requires.addable.0 in
    let follows2 : FollowsAt u.reading c.args.clause.level ls = subst (λ (r : Reading). FollowsAt r c.args.clause.level ls) (sym c.undo.ensures.reading) follows in
    let quiet : IsQuietBelow c.args.store.now ls c.args.depth = subst (λ xs. IsQuietBelow c.args.store.now xs c.args.depth) (sym same) c.requires.quiet in
    let quiet2 : IsQuietBelow c.undo.new.store ls c.undo.new.store.trail.depth =
    subst (λ (s : Stored). IsQuietBelow s ls s.trail.depth) (sym c.undo.ensures.undone) (quiet-undone c.args.store.now ls c.args.depth c.args.depth (omega arith) quiet) in
    subst (λ (s : Stored). Stands s u) (sym c.in_ok-add.ensures.added)
    (stands-added c.undo.new.store u kept follows2 over2 quiet2 c.undo.ensures.stands)
