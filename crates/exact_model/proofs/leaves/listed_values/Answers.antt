use Rattle.std.proofs.Common.{◌≡◌, ◌+◌, ◌<◌, ◌≤◌, length, List, false, subst, sym, ap, ◌∙◌, rules, arith}
use Rattle.std.specs.Prelude.{slice_index_or}
use Rattle.smt_meaning.specs.declared.values.Value.{Value}
use Rattle.smt_meaning.specs.declared.values.Sort.TheVariants.{Bool as Truths}
use Rattle.smt_meaning.specs.Term.{Tree, tree_at}
use Rattle.smt_meaning.specs.CheckAtoms.{is_leaf}
use Rattle.check_atoms.specs.Parts.{IsMarked}
use Rattle.exact_model.specs.Leaves.{IsListedBy, AreListedBy}
use Rattle.exact_model.proofs.Listing.{listed_pushed, listed_by_sort, all_may_be, have_values}
use Rattle.exact_model.proofs.leaves.listed_values.Goals as goal

pub loop-place-preserved : goal.loop-place-preserved
loop-place-preserved c =
    let s = c.args.stack.now in
    let marks = c.args.marks.now in
    let b = c.args.bounds.now in
    let truths = c.args.truths.now in
    let elements = c.args.elements.now in
    let sorts = c.sorts-sorts.result.now in
    let p = c.loop-place.place in
    let v = c.value_of.result in
    let count : length c.push.new.self.items ≡ c.loop-place.place + 1 = search rules in
    let less : p < length s.trees = subst (λ (ts : List Tree). p < length ts) c.terms-store.ensures.trees (search rules) in
    let here : IsMarked marks p → IsListedBy b p (is_leaf (tree_at s.trees p)) (slice_index_or truths p false) (slice_index_or elements p 0) (slice_index_or sorts p Truths) v =
    subst (λ (ts : List Tree). IsMarked marks p → IsListedBy b p (is_leaf (tree_at ts p)) (slice_index_or truths p false) (slice_index_or elements p 0) (slice_index_or sorts p Truths) v)
    c.terms-store.ensures.trees c.value_of.ensures in
    record {
      count = count;
      each = subst (λ (vs : List Value). AreListedBy s marks b truths elements (p + 1) vs) (sym c.in_ok-push.ensures.items)
          (listed_pushed s marks b truths elements p c.loop-place.listed.items v c.loop-place.invariant.count c.loop-place.invariant.each
          (listed_by_sort s marks b truths elements sorts c.sorts-sorts.ensures p v less here));
    }

pub returns-clause-may_be : goal.returns-clause-may_be
returns-clause-may_be c =
    let s = c.args.stack.now in
    let past : c.len-place-end.result ≤ c.loop-place.place = search rules in
    let size : c.len-place-end.result ≡ length s.trees = c.len-place-end.ensures.value ∙ ap (λ (ts : List Tree). length ts) c.terms-store.ensures.trees in
    all_may_be s c.args.marks.now c.args.bounds.now c.args.truths.now c.args.elements.now c.loop-place.listed.items (λ p r less. c.loop-place.invariant.each p r (omega (arith, past, size, less)))

pub returns-clause-have : goal.returns-clause-have
returns-clause-have c =
    let s = c.args.stack.now in
    let past : c.len-place-end.result ≤ c.loop-place.place = search rules in
    let size : c.len-place-end.result ≡ length s.trees = c.len-place-end.ensures.value ∙ ap (λ (ts : List Tree). length ts) c.terms-store.ensures.trees in
    have_values s c.args.marks.now c.args.bounds.now c.args.truths.now c.args.elements.now c.loop-place.listed.items (λ p r less. c.loop-place.invariant.each p r (omega (arith, past, size, less)))
