use Rattle.std.proofs.Common.{rules, ◌≡◌, ◌∷◌, ◌++◌, [], List, All, sym, subst}
use Rattle.std.proofs.lemmas.List.Elements.{All-push}
use Rattle.search_port.specs.declared.budget.Lemma.{Lemma}
use Rattle.congruence.specs.Implied.{IsPressingLemma}
use Rattle.closure_log.proofs.implied.keep.Goals as goal

pub returns-in_ok-push-in-Some : goal.returns-in_ok-push-in-Some
returns-in_ok-push-in-Some c = λ t some all.
    let pushed : c.push.new.self.items ≡ c.args.clauses.now.items ++ c.in-Some.clause ∷ [] = search rules in
    let pressing : IsPressingLemma t c.in-Some.clause = rw c.in-Some.is at some in
    subst (λ (cs : List Lemma). All (IsPressingLemma t) cs) (sym pushed) (All-push (IsPressingLemma t) c.args.clauses.now.items c.in-Some.clause all pressing)
