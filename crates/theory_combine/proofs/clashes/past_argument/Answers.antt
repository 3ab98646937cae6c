use Rattle.std.proofs.Common.{◌≡◌, ◌∙◌, false, true, All, Contains, ap}
use Rattle.model_build.specs.Given.{given_at, is_past, has_past}
use Rattle.theory_combine.specs.Argument.{IsPastArgument}
use Rattle.theory_combine.specs.Clashing.{IsClashInRange}
use Rattle.theory_combine.proofs.Clashing.{application_is, none_past, none_so, past_of, some_so}
use Rattle.theory_combine.proofs.clashes.past_argument.Goals as goal

pub returns-clause-some : goal.returns-clause-some
returns-clause-some c =
    let p = c.args.parts.now in
    let w = c.args.progress.now in
    let gs = c.args.given.now in
    let clash = c.requires.clash in
    let is = c.arguments_at-arguments.result.now in
    let i = c.args.clash.first in
    let a = application_is c.args.parts.now c.args.progress.now c.args.closure.now gs c.laws.ensures c.requires.settled i clash.symbol is clash.first (c.arguments_at-arguments.ensures.node clash.symbol clash.first.symbol) in
    some_so c.first_past.result (λ j. Contains is j × (is_past (given_at gs j) ≡ true)) (IsPastArgument p.stack.now w.held.bounds.bounds)
    (λ j x. past_of p w c.args.closure.now gs c.laws.ensures c.requires.settled c.flat_says_the_same.ensures c.facts.ensures.bounds.apart c.args.clash.first clash.symbol j is a x.0 x.1) c.first_past.ensures.some

pub returns-clause-none : goal.returns-clause-none
returns-clause-none c =
    let gs = c.args.given.now in
    let clash = c.requires.clash in
    let is = c.arguments_at-arguments.result.now in
    let i = c.args.clash.first in
    let a = application_is c.args.parts.now c.args.progress.now c.args.closure.now gs c.laws.ensures c.requires.settled i clash.symbol is clash.first (c.arguments_at-arguments.ensures.node clash.symbol clash.first.symbol) in
    none_so c.first_past.result (All (λ j. is_past (given_at gs j) ≡ false) is) (IsClashInRange c.args.parts.now gs c.args.clash)
    (λ (all : All (λ j. is_past (given_at gs j) ≡ false) is). record { clash = clash; in_range = ap has_past a.given ∙ none_past gs is all }) c.first_past.ensures.none
