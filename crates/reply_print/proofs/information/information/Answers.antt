use Rattle.std.proofs.Common.{[], ◌∷◌, ◌++◌, ◌≡◌, codes, rules}
use Rattle.std.specs.Fmt.{decimal}
use Rattle.reply_print.proofs.Appends.{appended}
use Rattle.reply_print.proofs.information.information.Goals as goal

pub returns-in_ok-natural-in-AssertionStackLevels : goal.returns-in_ok-natural-in-AssertionStackLevels
returns-in_ok-natural-in-AssertionStackLevels c =
    let same : c.from.result ≡ c.in-AssertionStackLevels.levels = search rules in
    let n = decimal c.from.result in
    let start = c.args.out.now in
    let mid = c.append-in-AssertionStackLevels.new.self in
    let new = c.push.new.self in
    rw (c.in-AssertionStackLevels.is, ← same)
    (appended c.push.result start mid new (codes "(:assertion-stack-levels ") (n ++ 41 ∷ []) c.in_ok-append-in-AssertionStackLevels.ensures.ok
    (appended c.push.result mid c.natural.new.out new n (41 ∷ []) c.in_ok-natural-in-AssertionStackLevels.ensures c.push.ensures.ok))
