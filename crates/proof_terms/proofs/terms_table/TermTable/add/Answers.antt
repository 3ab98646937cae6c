use Rattle.std.proofs.Common.{rules, ◌≡◌, ◌<◌, ◌∙◌, true, false, List, length, All, sym, ap, subst, refl, arith}
use Rattle.smt_meaning.specs.Stack.{signature_of}
use Rattle.smt_meaning.specs.Nodes.{trees_of}
use Rattle.proof_terms.specs.declared.terms_facts.Fact.{Fact}
use Rattle.proof_terms.specs.declared.terms_table.TermTable.{TermTable}
use Rattle.proof_terms.specs.TermFacts.{facts_at, places_at}
use Rattle.proof_terms.specs.TermTable.{CanEnter}
use Rattle.proof_terms.proofs.TermFiling.{trees_count, places_below, gathered_below}
use Rattle.proof_terms.proofs.TermEntering.{no_term, term_is}
use Rattle.proof_terms.proofs.terms_table.TermTable.add.Goals as goal
use Rattle.proof_terms.proofs.terms_table.TermTable.add.Goals.{In-Some}

pub returns-then-not-are_below-clause-other : goal.returns-then-not-are_below-clause-other
returns-then-not-are_below-clause-other c = λ _. (
  λ term.
      (let t = c.args.self.now in
      let count = c.requires.filed.places_count in
      let size = trees_count (signature_of c.args.stack.now.frames) c.args.stack.now.trees t.nodes t.places.items t.distinct.store.trees t.distinct.facts.items c.requires.filed in
      let same : length (trees_of t.nodes) ≡ c.len-count.result = omega arith in
      let yes : c.are_below.result ≡ true = c.are_below.ensures.1 (subst (λ n. All (λ i. i < n) c.args.arguments.now) same term.earlier) in
      let no' : c.are_below.result ≡ false = c.if-not-are_below.true in
      cc),
  refl,
)

pub gather-requires-clause-placed : goal.gather-requires-clause-placed
gather-requires-clause-placed c =
    let t = c.args.self.now in
    subst (All (λ p. p < length c.deref-2.result.now)) (sym c.deref.ensures.value)
    (subst (λ (fs : List Fact). All (λ p. p < length fs) t.places.items) (sym c.deref-2.ensures.value)
    (places_below (signature_of c.args.stack.now.frames) c.args.stack.now.trees t.nodes t.places.items t.distinct.store.trees t.distinct.facts.items c.requires.filed))

can : (c : In-Some)
    → CanEnter (signature_of c.args.stack.now.frames) c.args.stack.now.trees
    (let t : TermTable = record c.args.self.now { arguments = c.gather.new.arguments } in t) c.args.head c.args.arguments.now c.in-Some.sort
can c =
    let t = c.args.self.now in
    let count = c.requires.filed.places_count in
    let below : All (λ i. i < c.len-count.result) c.args.arguments.now = c.are_below.ensures.0 (search rules) in
    let same : c.len-count.result ≡ length t.nodes = omega arith in
    record {
      table = record { filed = c.requires.filed; held = c.requires.held; complete = c.requires.complete; held_different = c.requires.held_different; forms = c.requires.forms };
      room = omega arith;
      below = subst (λ n. All (λ i. i < n) c.args.arguments.now) same below;
      places = c.in_ok-gather.ensures.places ∙ ap (λ ps. places_at ps c.args.arguments.now) c.deref.ensures.value;
      facts = c.in_ok-gather.ensures.facts ∙ ap (λ fs. facts_at fs (places_at c.deref.result.now c.args.arguments.now)) c.deref-2.ensures.value ∙ ap (λ ps. facts_at t.distinct.facts.items (places_at ps c.args.arguments.now)) c.deref.ensures.value;
      may = c.in-Some.ensures.some;
    }

pub judge_gathered-requires : goal.judge_gathered-requires
judge_gathered-requires c =
    let t = c.args.self.now in
    let count = c.requires.filed.places_count in
    let below : All (λ i. i < c.len-count.result) c.args.arguments.now = c.are_below.ensures.0 (search rules) in
    let same : c.len-count.result ≡ length t.nodes = omega arith in
    subst (All (λ p. p < length t.distinct.store.trees)) (sym (c.in_ok-gather.ensures.places ∙ ap (λ ps. places_at ps c.args.arguments.now) c.deref.ensures.value))
    (gathered_below (signature_of c.args.stack.now.frames) c.args.stack.now.trees t.nodes t.places.items t.distinct.store.trees t.distinct.facts.items c.requires.filed c.args.arguments.now
    (subst (λ n. All (λ i. i < n) c.args.arguments.now) same below))

pub returns-in_err-enter-in-Some-clause-table : goal.returns-in_err-enter-in-Some-clause-table
returns-in_err-enter-in-Some-clause-table c =
    c.enter.ensures.table (signature_of c.args.stack.now.frames) c.args.stack.now.trees (can (goal.at.returns-in_err-enter-in-Some-clause-table c).In-Some)

pub returns-in_ok-enter-in-Some-clause-table : goal.returns-in_ok-enter-in-Some-clause-table
returns-in_ok-enter-in-Some-clause-table c =
    c.enter.ensures.table (signature_of c.args.stack.now.frames) c.args.stack.now.trees (can (goal.at.returns-in_ok-enter-in-Some-clause-table c).In-Some)

pub returns-in_ok-enter-in-Some-clause-term : goal.returns-in_ok-enter-in-Some-clause-term
returns-in_ok-enter-in-Some-clause-term c = λ _. (
  term_is (signature_of c.args.stack.now.frames) c.args.stack.now.trees (let t : TermTable = record c.args.self.now { arguments = c.gather.new.arguments } in t) c.args.head c.args.arguments.now c.in-Some.sort
      (can (goal.at.returns-in_ok-enter-in-Some-clause-term c).In-Some),
  c.in_ok-enter-in-Some.ensures.ok,
)

pub returns-in-None-clause-other : goal.returns-in-None-clause-other
returns-in-None-clause-other c = λ _. (
  let t = c.args.self.now in
      let count = c.requires.filed.places_count in
      let below : All (λ i. i < c.len-count.result) c.args.arguments.now = c.are_below.ensures.0 (search rules) in
      let same : c.len-count.result ≡ length t.nodes = omega arith in
      no_term (signature_of c.args.stack.now.frames) c.args.stack.now.trees t.nodes t.places.items t.distinct.store.trees t.distinct.facts.items c.args.head c.args.arguments.now
      c.gather.new.arguments.places.items c.gather.new.arguments.facts.items c.requires.filed
      (subst (λ n. All (λ i. i < n) c.args.arguments.now) same below)
      (c.in_ok-gather.ensures.places ∙ ap (λ ps. places_at ps c.args.arguments.now) c.deref.ensures.value)
      (c.in_ok-gather.ensures.facts ∙ ap (λ fs. facts_at fs (places_at c.deref.result.now c.args.arguments.now)) c.deref-2.ensures.value ∙ ap (λ ps. facts_at t.distinct.facts.items (places_at ps c.args.arguments.now)) c.deref.ensures.value)
      c.in-None.ensures.none,
  refl,
)
