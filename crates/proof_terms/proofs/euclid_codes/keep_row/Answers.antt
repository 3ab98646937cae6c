use Rattle.std.proofs.Common.{Ok, ap, map}
use Rattle.smt_meaning.specs.Atoms.{row_atoms, positive, truth_literals}
use Rattle.pair_bounds.specs.Rows.{row_of}
use Rattle.smt_laws.specs.Rows.{place_form, placed_literals}
use Rattle.proof_terms.proofs.BoundJoining.{joined_two, joined_all}
use Rattle.proof_terms.proofs.euclid_codes.keep_row.Goals as goal

pub returns-clause-keeps : goal.returns-clause-keeps
returns-clause-keeps c =
    let ts = c.args.terms.now.trees in
    let row = row_of c.args.row in
    let both =
    joined_two c.args.clauses.now c.push_value.new.clauses c.push_limits.new.clauses c.new-codes.result.items c.push_value.new.codes.items c.push_limits.new.codes.items (truth_literals c.args.place row.truth)
    (map positive (row_atoms (place_form ts) row)) c.in_ok-push_value.ensures (c.in_ok-push_limits.ensures.joined (ap Ok c.if-not-branch.false)) in (
      c.in_ok-push_limits.ensures.fits (ap Ok c.if-not-branch.false),
      λ before kept.
          c.in_ok-keep.ensures.kept before (placed_literals ts c.args.place row) (both.kept before kept)
          (joined_all c.args.clauses.now c.push_limits.new.clauses c.new-codes.result.items c.push_limits.new.codes.items (placed_literals ts c.args.place row) c.new-codes.ensures.items both),
    )
