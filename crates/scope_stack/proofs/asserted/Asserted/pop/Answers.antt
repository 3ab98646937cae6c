use Rattle.std.proofs.Common.{◌≡◌, ◌+◌, ◌-◌, ◌<◌, ◌≤◌, length, take, arith, ap, sym, ◌∙◌, suc, get_or}
use Rattle.std.proofs.lemmas.List.{length-take-le}
use Rattle.scope_stack.specs.Pieces.{pieces, AreCuts}
use Rattle.scope_stack.proofs.PieceLemmas.{pieces-take, cuts-take, cut_before, length-pieces}
use Rattle.scope_stack.proofs.asserted.Asserted.pop.Goals as goal

pub overflow_sub-kept : goal.overflow_sub-kept
overflow_sub-kept c =
    let n : length c.args.self.now ≡ length c.self.inside.starts.items + 1 = ap length (sym c.self.view_is) ∙ length-pieces 0 c.self.inside.items.items c.self.inside.starts.items in
    omega (arith, n, c.requires, c.len.ensures, c.self.inside.starts.ok)

pub invariant_of-self : goal.invariant_of-self
invariant_of-self c =
    let starts = c.self.inside.starts.items in
    let start = c.index-start.result.now in
    let kept = c.len.result - c.args.levels in
    let n : length c.args.self.now ≡ length starts + 1 = ap length (sym c.self.view_is) ∙ length-pieces 0 c.self.inside.items.items starts in
    let lt : kept < length starts = omega (arith, c.if-levels-gt0.true, c.len.ensures, c.self.inside.starts.ok, n, c.requires) in
    let at : get_or starts kept start ≡ start = sym c.index-start.ensures in
    let le : get_or starts kept start ≤ length c.self.inside.items.items = cut_before 0 _ starts kept start c.self.invariant lt in
    let short : length (take start c.self.inside.items.items) ≡ start = length-take-le start c.self.inside.items.items (omega (arith, at, le)) in
    let cuts : AreCuts 0 (get_or starts kept start) (take kept starts) = cuts-take 0 _ starts kept start c.self.invariant lt in
    rw (c.truncate-then-levels-gt0.ensures.items, c.truncate.ensures.items, short) (rw at at cuts)

pub returns-then-levels-gt0 : goal.returns-then-levels-gt0
returns-then-levels-gt0 c =
    let items = c.self.inside.items.items in
    let starts = c.self.inside.starts.items in
    let start = c.index-start.result.now in
    let kept = c.len.result - c.args.levels in
    let n : length c.args.self.now ≡ length starts + 1 = ap length (sym c.self.view_is) ∙ length-pieces 0 items starts in
    let lt : kept < length starts = omega (arith, c.if-levels-gt0.true, c.len.ensures, c.self.inside.starts.ok, n, c.requires) in
    let at : get_or starts kept start - 0 ≡ start = omega (arith, c.index-start.ensures) in
    let count : length c.args.self.now - c.args.levels ≡ suc kept = omega (arith, n, c.len.ensures, c.self.inside.starts.ok, n, c.requires) in
    let cut : pieces 0 (take (get_or starts kept start - 0) items) (take kept starts) ≡ take (suc kept) (pieces 0 items starts) = pieces-take 0 items starts _ kept start c.self.invariant lt in
    rw (c.truncate-then-levels-gt0.ensures.items, c.truncate.ensures.items, count, ← c.self.view_is) (rw at at cut)
