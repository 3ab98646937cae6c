use Rattle.std.proofs.Common.{List, All, length, sym, subst, ◌<◌, ◌∙◌, length}
use Rattle.literals.specs.Signed.{Signed}
use Rattle.search_port.specs.Calls.{IsLemma}
use Rattle.search_port.specs.declared.budget.Lemma.{Lemma}
use Rattle.closure_log.specs.Seen.{state_of}
use Rattle.theory_combine.proofs.Settling.{all_told, lemmas_within, tie_found, tie_lemmas}
use Rattle.theory_combine.proofs.settled.untrue_tie.Goals as goal

pub first_false-requires-clause-told : goal.first_false-requires-clause-told
first_false-requires-clause-told c = all_told c.args.parts.now c.args.progress.now c.requires.at_last

pub first_false-requires-clause-within : goal.first_false-requires-clause-within
first_false-requires-clause-within c =
    let p = c.args.parts.now in
    let w = c.args.progress.now in
    let lemmas : All (IsLemma (state_of p.stack.now w.atoms.atoms w.held.closure.log.items).reading) c.in_ok-clauses-in-Some.clauses =
    tie_lemmas p w c.requires.at_last c.flat_says_the_same.ensures c.value_has_its_sort.ensures c.args.pair.left c.args.pair.right c.in-Some.same c.args.low c.args.high c.requires.left c.requires.right c.in-Some.ensures.some c.requires.low
    c.requires.high c.in_ok-clauses-in-Some.clauses c.in_ok-clauses-in-Some.ensures.lemmas in
    subst (λ (cs : List Lemma). All (λ (d : Lemma). All (λ (l : Signed). l.atom < length w.held.scan.places.items) d.literals) cs) (sym c.as_slice.ensures) (lemmas_within p w c.requires.at_last c.in_ok-clauses-in-Some.clauses lemmas)

pub returns-in-None : goal.returns-in-None
returns-in-None c = λ n at. absurd (c.in-None.ensures.none (n, at.0, at.1 _))

pub returns-in_ok-clauses-in-Some : goal.returns-in_ok-clauses-in-Some
returns-in_ok-clauses-in-Some c =
    let p = c.args.parts.now in
    let w = c.args.progress.now in
    let cs = c.in_ok-clauses-in-Some.clauses in
    let lemmas : All (IsLemma (state_of p.stack.now w.atoms.atoms w.held.closure.log.items).reading) cs =
    tie_lemmas p w c.requires.at_last c.flat_says_the_same.ensures c.value_has_its_sort.ensures c.args.pair.left c.args.pair.right c.in-Some.same c.args.low c.args.high c.requires.left c.requires.right c.in-Some.ensures.some c.requires.low
    c.requires.high cs c.in_ok-clauses-in-Some.ensures.lemmas in
    tie_found p w c.requires.at_last c.are_apart.ensures c.args.pair.left c.args.pair.right c.in-Some.same c.args.low c.args.high c.as_slice.result.now _ c.first_false.result c.in-Some.ensures.some (c.as_slice.ensures ∙ c.in_ok-clauses-in-Some.ensures.clauses)
    (subst (λ (ds : List Lemma). All (IsLemma (state_of p.stack.now w.atoms.atoms w.held.closure.log.items).reading) ds) (sym c.as_slice.ensures) lemmas) c.first_false.ensures.some c.first_false.ensures.none
