use Rattle.std.proofs.Common.{rules, ◌≡◌, ◌<◌, ◌++◌, List, map, true, false, length, slice_index_or, subst, sym, ap₂, ◌∙◌, All, arith}
use Rattle.std.proofs.lemmas.List.Elements.{All-weaker}
use Rattle.std.proofs.lemmas.Result.{on_ok_weaker, MatchResult-weaker}
use Rattle.std.specs.Prelude.{ℤ}
use Rattle.fraction128.proofs.Integers.{same_bits}
use Rattle.smt_meaning.specs.Term.{Tree, tree_at}
use Rattle.term_store.specs.Terms.{tree_with}
use Rattle.check_atoms.specs.declared.part.PartAtom.{PartAtom}
use Rattle.check_atoms.specs.PartAtoms.{atom_of, wanted_of, sort_in}
use Rattle.check_atoms.specs.Divisors.{IsDivisorOf}
use Rattle.check_atoms.specs.Numbering.{Adds, RefusesOne, IsWithin}
use Rattle.check_atoms.proofs.PartPlaces.{wanted_within}
use Rattle.check_atoms.proofs.Stacks.{wanted, sort_there, arguments_marked, same_wanted, part_more, no_part, part_refused, divisor_refused, node_here}
use Rattle.check_atoms.proofs.atoms.number_part.Goals as goal

pub returns-then-not-marks-id-clause-ok : goal.returns-then-not-marks-id-clause-ok
returns-then-not-marks-id-clause-ok c =
    let none : slice_index_or c.args.marks.now c.args.id false ≡ false = search rules in
    no_part c.args.stack.now c.args.marks.now c.laws.ensures c.requires.parts c.args.id c.args.atoms.now.atoms none c.requires.atoms

pub is_asserted_distinct-truth_alone-requires-clause-sorted : goal.is_asserted_distinct-truth_alone-requires-clause-sorted
is_asserted_distinct-truth_alone-requires-clause-sorted c =
    let s = c.args.stack.now in
    let marks = c.args.marks.now in
    let h = c.node-node.result.head in
    let is = c.node-node.result.arguments.now in
    let marked : slice_index_or marks c.args.id false ≡ true = search rules in
    let tree : tree_at s.trees c.args.id ≡ tree_with s.trees h is = subst (λ (ts : List Tree). tree_at ts c.args.id ≡ tree_with ts h is) c.terms.ensures.trees c.node-node.ensures.tree in
    let node = node_here s.trees c.args.id h is c.requires.within tree c.node-node.ensures.earlier in
    λ k d l. sort_there s marks c.laws.ensures c.requires.parts c.sorts-sorts.result.now c.sorts-sorts.ensures _ (arguments_marked s marks c.laws.ensures c.requires.parts c.args.id h is marked node k d l)

pub number_all-requires-clause-within : goal.number_all-requires-clause-within
number_all-requires-clause-within c =
    let s = c.args.stack.now in
    let h = c.node-node.result.head in
    let is = c.node-node.result.arguments.now in
    let d = c.in-Ok.divisor in
    let b = c.is_asserted_distinct-truth_alone.result in
    let divisor : IsDivisorOf s.trees h is d = c.in-Ok.ensures.ok s.trees c.requires.forms in
    let listed : c.deref.result.now ≡ wanted_of (sort_in c.sorts-sorts.result.now) b d c.args.id h is =
    c.deref.ensures.value ∙ c.in_ok-add_wanted.ensures ∙ ap₂ (λ (xs : List PartAtom) (z : ℤ). xs ++ wanted_of (sort_in c.sorts-sorts.result.now) b z c.args.id h is) c.clear.ensures.items (same_bits d divisor.in_range) in
    let size : length c.args.forms.now ≡ length s.trees = c.requires.forms.forms.size in
    let within : c.args.id < length s.trees = c.requires.within in
    let here : c.args.id < length c.args.forms.now = omega (arith, size, within) in
    subst (λ (xs : List PartAtom). All (IsWithin (length c.args.forms.now)) xs) (sym listed)
    (wanted_within (sort_in c.sorts-sorts.result.now) b d (length c.args.forms.now) c.args.id h is divisor.in_range here
    (All-weaker (λ i. i < c.args.id) (λ i. i < length c.args.forms.now) (λ i l. omega (arith, l, here)) is c.node-node.ensures.earlier))

pub returns-clause-ok : goal.returns-clause-ok
returns-clause-ok c =
    let s = c.args.stack.now in
    let marks = c.args.marks.now in
    let h = c.node-node.result.head in
    let is = c.node-node.result.arguments.now in
    let d = c.in-Ok.divisor in
    let b = c.is_asserted_distinct-truth_alone.result in
    let divisor : IsDivisorOf s.trees h is d = c.in-Ok.ensures.ok s.trees c.requires.forms in
    let marked : slice_index_or marks c.args.id false ≡ true = search rules in
    let tree : tree_at s.trees c.args.id ≡ tree_with s.trees h is = subst (λ (ts : List Tree). tree_at ts c.args.id ≡ tree_with ts h is) c.terms.ensures.trees c.node-node.ensures.tree in
    let node = node_here s.trees c.args.id h is c.requires.within tree c.node-node.ensures.earlier in
    let listed : c.deref.result.now ≡ wanted s c.args.id h is b =
    c.deref.ensures.value ∙ c.in_ok-add_wanted.ensures ∙ ap₂ (λ (xs : List PartAtom) (z : ℤ). xs ++ wanted_of (sort_in c.sorts-sorts.result.now) b z c.args.id h is) c.clear.ensures.items (same_bits d divisor.in_range)
    ∙ same_wanted s marks c.laws.ensures c.requires.parts c.sorts-sorts.result.now c.sorts-sorts.ensures b d c.args.id h is divisor marked node in
    on_ok_weaker c.number_all.result
    (λ a. part_more s marks c.laws.ensures c.requires.parts b c.args.id h is c.args.atoms.now.atoms c.number_all.new.atoms.atoms c.is_asserted_distinct-truth_alone.ensures.yes marked node c.requires.atoms
    (subst (λ (xs : List PartAtom). Adds (length s.trees) c.args.atoms.now.atoms (map (atom_of s.trees) xs) c.number_all.new.atoms.atoms) listed a))
    (c.number_all.ensures.ok s.trees c.requires.forms)

pub returns-clause-err : goal.returns-clause-err
returns-clause-err c =
    let s = c.args.stack.now in
    let marks = c.args.marks.now in
    let h = c.node-node.result.head in
    let is = c.node-node.result.arguments.now in
    let d = c.in-Ok.divisor in
    let b = c.is_asserted_distinct-truth_alone.result in
    let divisor : IsDivisorOf s.trees h is d = c.in-Ok.ensures.ok s.trees c.requires.forms in
    let marked : slice_index_or marks c.args.id false ≡ true = search rules in
    let tree : tree_at s.trees c.args.id ≡ tree_with s.trees h is = subst (λ (ts : List Tree). tree_at ts c.args.id ≡ tree_with ts h is) c.terms.ensures.trees c.node-node.ensures.tree in
    let node = node_here s.trees c.args.id h is c.requires.within tree c.node-node.ensures.earlier in
    let listed : c.deref.result.now ≡ wanted s c.args.id h is b =
    c.deref.ensures.value ∙ c.in_ok-add_wanted.ensures ∙ ap₂ (λ (xs : List PartAtom) (z : ℤ). xs ++ wanted_of (sort_in c.sorts-sorts.result.now) b z c.args.id h is) c.clear.ensures.items (same_bits d divisor.in_range)
    ∙ same_wanted s marks c.laws.ensures c.requires.parts c.sorts-sorts.result.now c.sorts-sorts.ensures b d c.args.id h is divisor marked node in
    MatchResult-weaker c.number_all.result (c.number_all.ensures.err s.trees c.requires.forms) (λ u t. t)
    (λ e r. part_refused s marks c.laws.ensures c.requires.parts b c.args.id h is e marked node (subst (λ (xs : List PartAtom). RefusesOne s.trees c.args.id xs e) listed r))

pub returns-in-Err-clause-err : goal.returns-in-Err-clause-err
returns-in-Err-clause-err c =
    let s = c.args.stack.now in
    let marks = c.args.marks.now in
    let h = c.node-node.result.head in
    let is = c.node-node.result.arguments.now in
    let marked : slice_index_or marks c.args.id false ≡ true = search rules in
    let tree : tree_at s.trees c.args.id ≡ tree_with s.trees h is = subst (λ (ts : List Tree). tree_at ts c.args.id ≡ tree_with ts h is) c.terms.ensures.trees c.node-node.ensures.tree in
    let node = node_here s.trees c.args.id h is c.requires.within tree c.node-node.ensures.earlier in
    divisor_refused s marks c.laws.ensures c.requires.parts c.args.id h is c.refusal_of_divisor.result marked node
    (c.refusal_of_divisor.ensures s.trees is (c.in-Err.ensures.err s.trees c.requires.forms))
