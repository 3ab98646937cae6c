use Rattle.std.proofs.Common.{rules, ◌≡◌, subst, sym}
use Rattle.std.specs.Prelude.{All}
use Rattle.search_port.specs.Calls.{IsLemma}
use Rattle.bound_log.specs.Clauses.{branch_clauses}
use Rattle.bound_log.proofs.Lemmas.{branches_are_lemmas}
use Rattle.bound_log.proofs.branches.branch_lemmas.Goals as goal

pub returns-clause-lemmas : goal.returns-clause-lemmas
returns-clause-lemmas c = λ ds t term floor told h.
    let is : c.push-2.new.self ≡ branch_clauses c.args.below c.args.above = search rules in
    subst (All (IsLemma t.reading)) (sym is) (branches_are_lemmas c.branches_hold.ensures.valid ds t c.args.below c.args.above term floor told h)
