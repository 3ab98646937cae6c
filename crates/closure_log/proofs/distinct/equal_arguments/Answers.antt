use Rattle.std.proofs.Common.{rules, ◌≡◌, ℕ, ◌<◌, ◌≤◌, ◌+◌, length, sym, ap, ◌∙◌, subst, arith}
use Rattle.std.specs.Prelude.{List, slice_index, slice_index_or}
use Rattle.std.proofs.lemmas.List.{length-set}
use Rattle.point_closure.specs.Unions.{root_of}
use Rattle.closure_log.proofs.Distincts.{newest_more, equal_by_class, apart_by_class}
use Rattle.closure_log.proofs.distinct.equal_arguments.Goals as goal

pub loop-later-preserved : goal.loop-later-preserved
loop-later-preserved c =
    let newest : List ℕ = c.loop-later.newest in
    let at = c.class_of-class.result in
    let later = c.loop-later.later in
    let size : length newest ≡ length c.args.newest.now = c.loop-later.invariant.0 in
    let few : at < length c.args.congruence.now.closure.graph = c.class_of-class.ensures.within in
    let inside : at < length newest = omega (arith, size, c.requires.size, few) in
    let class : ℕ → ℕ = λ e. root_of c.args.congruence.now.closure.classes.unions (slice_index_or c.args.terms.now e 0 + 2) in
    let here : at ≡ class later = c.class_of-class.ensures.value in
    let found : (e : ℕ) → e < later → class e ≡ class later → slice_index newest at ≡ e = λ e less same. ap (λ n. slice_index newest n) (here ∙ sym same) ∙ c.loop-later.invariant.1 e less in (
      length-set newest at later ∙ size,
      newest_more newest class at later here inside c.loop-later.invariant.1 (λ e less same.
          c.are_equal.ensures.apart c.if-are_equal.false (subst (λ n. n < later) (sym (found e less same)) less)
          (equal_by_class c.args.congruence.now c.classes_are_the_closure.ensures c.requires.recorded c.unions-unions.ensures.each (slice_index_or c.args.terms.now (slice_index newest at) 0)
          (slice_index_or c.args.terms.now later 0) (ap class (found e less same) ∙ same))),
    )

pub returns-clause-apart : goal.returns-clause-apart
returns-clause-apart c =
    let last : length c.args.terms.now ≤ c.loop-later.later = search rules in
    apart_by_class c.args.congruence.now c.classes_are_the_closure.ensures c.requires.recorded c.unions-unions.ensures.each c.args.terms.now c.loop-later.newest c.loop-later.later last c.loop-later.invariant.1
