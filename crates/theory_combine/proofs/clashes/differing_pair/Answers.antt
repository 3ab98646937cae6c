use Rattle.theory_combine.proofs.Clashing.{application_is, same_size, wanted_arguments, wanted_applications}
use Rattle.theory_combine.proofs.clashes.differing_pair.Goals as goal

pub first_apart-requires-clause-size : goal.first_apart-requires-clause-size
first_apart-requires-clause-size c =
    let p = c.args.parts.now in
    let w = c.args.progress.now in
    let k = c.args.closure.now in
    let gs = c.args.given.now in
    let law = c.laws.ensures in
    let h = c.requires.settled in
    let i = c.args.clash.first in
    let j = c.args.clash.second in
    let is = c.arguments_at-left.result.now in
    let js = c.arguments_at-right.result.now in
    let clash = c.requires.clash.clash in
    let f = clash.symbol in
    let a = application_is p w k gs law h i f is clash.first (c.arguments_at-left.ensures.node f clash.first.symbol) in
    let b = application_is p w k gs law h j f js clash.second (c.arguments_at-right.ensures.node f clash.second.symbol) in
    same_size p w k gs law h i j f is js a b clash.alike c.requires.clash.in_range

pub returns-in-Some : goal.returns-in-Some
returns-in-Some c =
    let p = c.args.parts.now in
    let w = c.args.progress.now in
    let k = c.args.closure.now in
    let gs = c.args.given.now in
    let law = c.laws.ensures in
    let h = c.requires.settled in
    let i = c.args.clash.first in
    let j = c.args.clash.second in
    let is = c.arguments_at-left.result.now in
    let js = c.arguments_at-right.result.now in
    let clash = c.requires.clash.clash in
    let f = clash.symbol in
    let a = application_is p w k gs law h i f is clash.first (c.arguments_at-left.ensures.node f clash.first.symbol) in
    let b = application_is p w k gs law h j f js clash.second (c.arguments_at-right.ensures.node f clash.second.symbol) in
    wanted_arguments p w k gs law h i j f is js a b clash.alike c.requires.clash.in_range c.in-Some.pair c.in-Some.ensures.some

pub returns-in-None : goal.returns-in-None
returns-in-None c =
    let p = c.args.parts.now in
    let w = c.args.progress.now in
    let k = c.args.closure.now in
    let gs = c.args.given.now in
    let law = c.laws.ensures in
    let h = c.requires.settled in
    let i = c.args.clash.first in
    let j = c.args.clash.second in
    let is = c.arguments_at-left.result.now in
    let js = c.arguments_at-right.result.now in
    let clash = c.requires.clash.clash in
    let f = clash.symbol in
    let a = application_is p w k gs law h i f is clash.first (c.arguments_at-left.ensures.node f clash.first.symbol) in
    let b = application_is p w k gs law h j f js clash.second (c.arguments_at-right.ensures.node f clash.second.symbol) in
    wanted_applications p w k gs law h i j f is js a b clash.alike c.requires.clash.in_range clash.differ c.in-None.ensures.none
