use Rattle.std.proofs.Common.{rules, ◌≡◌, ◌<◌, ◌≤◌, ◌^◌, map, length, Contains, All, subst, ap, ◌∙◌, arith}
use Rattle.std.specs.Prelude.{flat_map}
use Rattle.std.proofs.lemmas.List.Elements.{All-head, All-cons, All-same, All-weaker}
use Rattle.std.proofs.lemmas.Result.{err_from_is_err_and}
use Rattle.smt_meaning.specs.declared.clauses.Atom.TheVariants.{Truth}
use Rattle.order_clauses.specs.declared.pairs.Pair.{Pair}
use Rattle.order_clauses.specs.Pairs.{pairs_of, same_atom}
use Rattle.order_clauses.specs.Clauses.{same_number}
use Rattle.order_clauses.specs.Needed.{orders_tied, atoms_of_pair, atoms_of_equality}
use Rattle.order_clauses.proofs.Causes.{by_missing, behind}
use Rattle.order_clauses.proofs.Pairing.{pairs_both}
use Rattle.order_clauses.proofs.Soundness.{numbers_within, sames_known}
use Rattle.order_clauses.proofs.parts.put_equality_part.Goals as goal

pub returns-in_err-number-clause-cause : goal.returns-in_err-number-clause-cause
returns-in_err-number-clause-cause g c =
    let p = err_from_is_err_and c.from_residual.result c.from_residual.ensures.1 in
    rw (p.1, p.2)
    (by_missing g.trees c.args.atoms.now.atoms (flat_map (orders_tied c.args.are_ints) (pairs_of c.args.operator c.args.arguments.now)) (atoms_of_equality g.trees c.args.are_ints c.args.operator c.args.place c.args.arguments.now) c.in_err-number.field-0.0 c.in_err-number.ensures.err.0
    (λ all. c.in_err-number.ensures.err.1 (All-head (Contains c.args.atoms.now.atoms) (Truth c.args.place) (flat_map (atoms_of_pair g.trees c.args.are_ints) (pairs_of c.args.operator c.args.arguments.now)) all)))

pub put_ties-requires : goal.put_ties-requires
put_ties-requires g c =
    let listed : c.deref.result.now ≡ pairs_of c.args.operator c.args.arguments.now = search rules in (
      c.requires.1.0,
      (
        All-same (λ (q : Pair). (q.left < length g.trees) × (q.right < length g.trees)) c.deref.result.now (pairs_of c.args.operator c.args.arguments.now) listed
            (pairs_both (λ i. i < length g.trees) c.args.operator c.args.arguments.now c.requires.1.1),
        c.clear-2.ensures.items,
      ),
    )

pub returns-in_err-put_ties-clause-cause : goal.returns-in_err-put_ties-clause-cause
returns-in_err-put_ties-clause-cause g c =
    let listed : c.deref.result.now ≡ pairs_of c.args.operator c.args.arguments.now = search rules in
    let p = err_from_is_err_and c.from_residual-in_err-put_ties.result c.from_residual-in_err-put_ties.ensures.1 in
    rw (p.1, p.2)
    (behind g.trees c.args.atoms.now.atoms (flat_map (orders_tied c.args.are_ints) c.deref.result.now) (flat_map (orders_tied c.args.are_ints) (pairs_of c.args.operator c.args.arguments.now)) (Truth c.args.place) (flat_map (atoms_of_pair g.trees c.args.are_ints) c.deref.result.now) (flat_map (atoms_of_pair g.trees c.args.are_ints) (pairs_of c.args.operator c.args.arguments.now)) c.in_err-put_ties.field-0.0 (ap (flat_map (orders_tied c.args.are_ints)) listed) (ap (flat_map (atoms_of_pair g.trees c.args.are_ints)) listed)
    c.in_err-put_ties.ensures.cause)

pub put_comparison-requires-clause-pairs : goal.put_comparison-requires-clause-pairs
put_comparison-requires-clause-pairs g c =
    let table = c.args.atoms.now.atoms in
    let few : length table ≤ 2 ^ 31 = c.are_few.ensures in
    let numbers : c.deref-2.result.now ≡ map (same_number table) c.deref.result.now = c.deref-2.ensures.value ∙ c.in_ok-put_ties.ensures.numbers in
    All-same (λ n. n < 2 ^ 31) c.deref-2.result.now (map (same_number table) c.deref.result.now) numbers
    (All-weaker (λ n. n < length table) (λ n. n < 2 ^ 31) (λ n l. omega arith) (map (same_number table) c.deref.result.now)
    (numbers_within table same_atom c.deref.result.now (sames_known g.trees table c.args.are_ints c.deref.result.now c.in_ok-put_ties.ensures.has)))

pub returns-clause-has : goal.returns-clause-has
returns-clause-has g c =
    let known = Contains c.args.atoms.now.atoms in
    let listed : c.deref.result.now ≡ pairs_of c.args.operator c.args.arguments.now = search rules in
    All-cons known (Truth c.args.place) (flat_map (atoms_of_pair g.trees c.args.are_ints) (pairs_of c.args.operator c.args.arguments.now)) c.in_ok-number.ensures.found.has
    (subst (λ qs. All known (flat_map (atoms_of_pair g.trees c.args.are_ints) qs)) listed c.in_ok-put_ties.ensures.has)
