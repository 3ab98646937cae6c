use Rattle.std.proofs.Common.{◌≡◌, ◌<◌, ◌≤◌, List, [], ◌∷◌, length, inl, inr, arith}
use Rattle.search_port.specs.Spending.{Spending}
use Rattle.cdcl_core.specs.Search.{AreAmong}
use Rattle.cdcl_core.specs.Turns.{Adds, HearsAll, HearsSome, IsPartly, PutsDown}
use Rattle.cdcl_core.proofs.Adding.{heard-after, on-err, on-ok, puts-none, puts-nothing, puts-some}
use Rattle.cdcl_core.proofs.Gains.{among-both}
use Rattle.cdcl_core.proofs.Moves.{turns-both}
use Rattle.cdcl_core.proofs.solve.hear.Goals as goal

pub returns-in-Err-clause-some : goal.returns-in-Err-clause-some
returns-in-Err-clause-some g c = inl (c.look.ensures.later, c.look.ensures.adds.puts)

pub returns-then-after-before-clause-turns : goal.returns-then-after-before-clause-turns
returns-then-after-before-clause-turns g c =
    turns-both AreAmong among-both c.args.store.now c.look.new.store c.look-then-after-before.new.store (g.T.Theory.state c.args.theory.now) (g.T.Theory.state c.look.new.theory) (g.T.Theory.state c.look-then-after-before.new.theory) c.args.budget.now c.look.new.budget c.look-then-after-before.new.budget
    c.look.ensures.adds.turns c.look-then-after-before.ensures.adds.turns

pub returns-then-after-before-clause-pivots : goal.returns-then-after-before-clause-pivots
returns-then-after-before-clause-pivots g c =
    heard-after (g.T.Theory.state c.args.theory.now) (g.T.Theory.state c.look.new.theory) (g.T.Theory.state c.look-then-after-before.new.theory) c.args.budget.now c.look.new.budget c.look-then-after-before.new.budget c.look-then-after-before.result
    c.look.ensures.adds.turns.spends.counts c.look.ensures.adds.turns.spends.keeps c.in-Ok.ensures.pivots c.look-then-after-before.ensures.pivots

pub returns-then-after-before-clause-all : goal.returns-then-after-before-clause-all
returns-then-after-before-clause-all g c =
    let b : Spending = c.args.budget.now in
    let m : Spending = c.look.new.budget in
    let d : Spending = c.look-then-after-before.new.budget in
    let adds : Adds c.args.store.now c.look.new.store (g.T.Theory.state c.args.theory.now) (g.T.Theory.state c.look.new.theory) b m = c.look.ensures.adds in
    let limit : m.limit ≡ b.limit = adds.turns.limit in
    let l1 = c.left-before.ensures in
    let l2 = c.left-after.ensures in
    let lt : length b.units < length m.units = (let test = c.if-after-before.true in omega arith) in
    let puts : PutsDown b m = puts-some b m lt adds.puts in
    let none : IsPartly m d = puts-none m d puts.other c.look-then-after-before.ensures.adds.puts in
    on-ok (HearsAll (λ (calls : List Spending). g.H.Hook.later c.args.hook.now calls c.look-then-after-before.new.hook) b d) c.look-then-after-before.result
    (inr (m, g.met.H.Hook.later_both c.args.hook.now c.look.new.hook c.look-then-after-before.new.hook (b ∷ []) (m ∷ []) c.look.ensures.later c.look-then-after-before.ensures.later, puts, none))

pub returns-then-after-before-clause-some : goal.returns-then-after-before-clause-some
returns-then-after-before-clause-some g c =
    let b : Spending = c.args.budget.now in
    let m : Spending = c.look.new.budget in
    let d : Spending = c.look-then-after-before.new.budget in
    let adds : Adds c.args.store.now c.look.new.store (g.T.Theory.state c.args.theory.now) (g.T.Theory.state c.look.new.theory) b m = c.look.ensures.adds in
    let limit : m.limit ≡ b.limit = adds.turns.limit in
    let l1 = c.left-before.ensures in
    let l2 = c.left-after.ensures in
    let lt : length b.units < length m.units = (let test = c.if-after-before.true in omega arith) in
    let puts : PutsDown b m = puts-some b m lt adds.puts in
    let none : IsPartly m d = puts-none m d puts.other c.look-then-after-before.ensures.adds.puts in
    on-err (HearsSome (λ (calls : List Spending). g.H.Hook.later c.args.hook.now calls c.look-then-after-before.new.hook) b d) c.look-then-after-before.result
    (inr (m, g.met.H.Hook.later_both c.args.hook.now c.look.new.hook c.look-then-after-before.new.hook (b ∷ []) (m ∷ []) c.look.ensures.later c.look-then-after-before.ensures.later, puts, none))

pub returns-clause-all : goal.returns-clause-all
returns-clause-all g c =
    let b : Spending = c.args.budget.now in
    let m : Spending = c.look.new.budget in
    let adds : Adds c.args.store.now c.look.new.store (g.T.Theory.state c.args.theory.now) (g.T.Theory.state c.look.new.theory) b m = c.look.ensures.adds in
    let limit : m.limit ≡ b.limit = adds.turns.limit in
    let l1 = c.left-before.ensures in
    let l2 = c.left-after.ensures in
    let le : length m.units ≤ length b.units = (let test = c.if-after-before.false in omega arith) in
    inl (c.look.ensures.later, puts-nothing b m le adds.puts)
