use Rattle.std.proofs.Common.{rules, ◌≡◌, ◌<◌, ℕ, ◌∷◌, [], None, false, List, take, length, slice_index_or, arith, refl, sym, subst}
use Rattle.std.proofs.lemmas.List.Elements.{Contains-get_or}
use Rattle.closure_log.specs.Read.{IsRead}
use Rattle.closure_log.proofs.Reading.{none_read, read_same, one_more, whole_read, later}
use Rattle.closure_log.proofs.read.read_part.Goals as goal

pub returns-then-not-branch : goal.returns-then-not-branch
returns-then-not-branch c = (c.args.place, (0, omega arith, refl), c.in_ok-read_term.ensures.stops c.if-not-branch.true)

pub loop-argument-init : goal.loop-argument-init
loop-argument-init c =
    c.in_ok-read_term.ensures.goes c.if-not-branch.false []
    (read_same c.args.atoms.now.atoms c.args.log.now [] [] c.unread-read.result.clause.items None c.unread-read.result.open_truth false c.unread-read.result.is_odd (sym c.unread-read.ensures.clause)
    (sym c.unread-read.ensures.open) (sym c.unread-read.ensures.odd) (none_read c.args.atoms.now.atoms c.args.log.now))

pub loop-argument-preserved : goal.loop-argument-preserved
loop-argument-preserved c =
    let new = c.read_term-in-loop-argument.new.read in
    let less : c.loop-argument.argument-index < length c.args.arguments.now = search rules in
    subst (λ (ps : List ℕ). IsRead c.args.atoms.now.atoms c.args.log.now ps new.clause.items new.open_truth new.is_odd) (sym (one_more c.args.place c.args.arguments.now c.loop-argument.argument-index 0 less))
    (c.in_ok-read_term-2.ensures.goes c.if-not-branch-2.false (c.args.place ∷ take c.loop-argument.argument-index c.args.arguments.now) c.loop-argument.invariant)

pub returns-then-not-branch-2 : goal.returns-then-not-branch-2
returns-then-not-branch-2 c =
    let less : c.loop-argument.argument-index < length c.args.arguments.now = search rules in
    let k = c.loop-argument.argument-index in (
      slice_index_or c.args.arguments.now k 0,
      later c.args.place c.args.arguments.now (slice_index_or c.args.arguments.now k 0) (Contains-get_or c.args.arguments.now k 0 less),
      c.in_ok-read_term-2.ensures.stops c.if-not-branch-2.true,
    )

pub returns : goal.returns
returns c =
    let last : length c.args.arguments.now ≡ c.loop-argument.argument-index = search rules in
    whole_read c.args.atoms.now.atoms c.args.log.now c.args.place c.args.arguments.now c.loop-argument.argument-index c.loop-argument.read.clause.items c.loop-argument.read.open_truth
    c.loop-argument.read.is_odd last c.loop-argument.invariant
