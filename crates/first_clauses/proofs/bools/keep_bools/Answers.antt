use Rattle.std.proofs.Common.{◌≡◌, ◌<◌, ◌≤◌, ◌^◌, List, ◌++◌, subst, sym, ap, ◌∙◌, length, All, Contains, arith}
use Rattle.std.proofs.lemmas.List.Elements.{All-weaker, All-tail}
use Rattle.literals.specs.Signed.{Signed}
use Rattle.clause_form.specs.Node.{literals_of_node}
use Rattle.smt_meaning.specs.declared.clauses.Atom.TheVariants.{Truth}
use Rattle.search_port.specs.State.{truth_atoms}
use Rattle.first_clauses.specs.Turned.{IsKeptTurned}
use Rattle.first_clauses.proofs.Numbering.{numbers_within}
use Rattle.first_clauses.proofs.PartClausesKeeping.{on_ok}
use Rattle.first_clauses.specs.CheckClausesFirst.{HasTruths}
use Rattle.first_clauses.proofs.Following.{clauses_are}
use Rattle.first_clauses.proofs.bools.keep_bools.Goals as goal

pub truth_numbers-requires : goal.truth_numbers-requires
truth_numbers-requires c = All-tail (λ p. Contains c.args.atoms.now.atoms (Truth p)) c.args.place c.args.arguments.now c.requires.numbered

pub put_node-requires-clause-number : goal.put_node-requires-clause-number
put_node-requires-clause-number c =
    let few : length c.args.atoms.now.atoms ≤ 2 ^ 31 = c.are_few.ensures in
    let less : c.in-Some.number < length c.args.atoms.now.atoms = c.in-Some.ensures.some.0 in
    omega arith

pub put_node-requires-clause-arguments : goal.put_node-requires-clause-arguments
put_node-requires-clause-arguments c =
    let few : length c.args.atoms.now.atoms ≤ 2 ^ 31 = c.are_few.ensures in
    subst (All (λ n. n < 2 ^ 31)) (sym c.deref.ensures.value)
    (All-weaker (λ n. n < length c.args.atoms.now.atoms) (λ n. n < 2 ^ 31) (λ n l. omega arith) c.truth_numbers.new.numbers.items
    (numbers_within c.args.atoms.now.atoms (truth_atoms c.args.arguments.now) c.truth_numbers.new.numbers.items c.in_ok-truth_numbers.ensures))

pub keep_all_turned-requires-clause-follow : goal.keep_all_turned-requires-clause-follow
keep_all_turned-requires-clause-follow c =
    clauses_are c.flat_says_the_same.ensures c.args.stack.now c.args.atoms.now.atoms c.requires.declared c.value_has_its_sort.ensures c.node_clauses_hold.ensures c.in-Some.number c.args.place c.args.operator c.args.arguments.now
    c.truth_numbers.new.numbers.items c.deref.result.now c.clear.new.self c.put_node.new.clauses c.requires.sorted c.in-Some.ensures.some c.requires.node c.requires.earlier c.in_ok-truth_numbers.ensures
    c.deref.ensures.value c.clear.ensures c.in_ok-put_node.ensures

pub returns-clause-has : goal.returns-clause-has
returns-clause-has c =
    let trees = c.args.stack.now.trees in
    let table = c.args.atoms.now.atoms in
    let numbers = c.truth_numbers.new.numbers.items in
    let clauses = c.keep_all_turned.new.store.clauses in
    let same : c.put_node.new.clauses ≡ literals_of_node c.args.operator c.in-Some.number numbers =
    c.in_ok-put_node.ensures ∙ (ap (λ (cs : List (List Signed)). cs ++ literals_of_node c.args.operator c.in-Some.number c.deref.result.now) c.clear.ensures ∙ ap (literals_of_node c.args.operator c.in-Some.number) c.deref.ensures.value) in
    on_ok c.keep_all_turned.result (All (IsKeptTurned trees table clauses) c.put_node.new.clauses) (HasTruths trees table clauses c.args.place c.args.operator c.args.arguments.now) c.keep_all_turned.ensures.has
    (λ all. record {
      number = c.in-Some.number;
      numbers = numbers;
      here = c.in-Some.ensures.some;
      are = c.in_ok-truth_numbers.ensures;
      kept = subst (All (IsKeptTurned trees table clauses)) same all;
    })
