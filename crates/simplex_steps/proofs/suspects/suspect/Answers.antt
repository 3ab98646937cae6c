use Rattle.std.proofs.Common.{◌∙◌, ap, sym, subst, arith, ◌<◌, length}
use Rattle.std.proofs.lemmas.List.{get_or_default}
use Rattle.simplex_steps.specs.declared.moves.Moved.{Moved}
use Rattle.simplex_steps.specs.Suspects.{Listing, Covers}
use Rattle.simplex_steps.proofs.SuspectLemmas.{covers_added, listed_more, all_listed}
use Rattle.simplex_steps.proofs.suspects.suspect.Goals as goal

pub returns-in_err-add-2-clause-covers : goal.returns-in_err-add-2-clause-covers
returns-in_err-add-2-clause-covers c =
    subst (λ (s : Listing). Covers s c.args.columns.now) (sym c.in_err-add-2.ensures.err)
    (covers_added c.args.suspects.now c.add.new.self c.args.columns.now c.args.one c.requires.covers c.requires.one c.in_ok-add.ensures.ok)

pub loop-change-init : goal.loop-change-init
loop-change-init c =
    let one = covers_added c.args.suspects.now c.add.new.self c.args.columns.now c.args.one c.requires.covers c.requires.one c.in_ok-add.ensures.ok in (
      covers_added c.add.new.self c.add-2.new.self c.args.columns.now c.args.other one c.requires.other c.in_ok-add-2.ensures.ok,
      c.in_ok-add-2.ensures.ok.keeps c.args.one c.in_ok-add.ensures.ok.has,
      c.in_ok-add-2.ensures.ok.has,
      λ k d lt. absurd (omega (arith, lt)),
    )

pub loop-change-preserved : goal.loop-change-preserved
loop-change-preserved c =
    let a = c.in_ok-add-3.ensures.ok in
    let n = c.loop-change.change-index in
    let ms = c.args.moved.now in
    let lt : n < length ms = omega arith in
    let is = λ (d : Moved). ap (λ (m : Moved). m.variable) (c.change-item.is ∙ get_or_default ms n c.change-item.result d lt) in (
      covers_added c.loop-change.suspects c.add-in-loop-change.new.self c.args.columns.now c.change-item.result.variable c.loop-change.invariant.0
          (subst (λ v. v < length c.args.columns.now) (sym (is c.change-item.result)) (c.requires.moved n c.change-item.result lt)) a,
      a.keeps c.args.one c.loop-change.invariant.1,
      a.keeps c.args.other c.loop-change.invariant.2,
      listed_more c.loop-change.suspects c.add-in-loop-change.new.self ms n c.change-item.result.variable lt c.loop-change.invariant.3 is a,
    )

pub returns-clause-listed : goal.returns-clause-listed
returns-clause-listed c =
    all_listed c.loop-change.suspects.variables c.args.moved.now c.loop-change.change-index c.args.one c.args.other (omega arith) c.loop-change.invariant.1 c.loop-change.invariant.2 c.loop-change.invariant.3
