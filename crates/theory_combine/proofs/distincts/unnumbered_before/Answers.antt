use Rattle.std.proofs.Common.{◌≡◌, ◌∙◌, ◌-◌, ℕ, List, sym, ap, subst, refl}
use Rattle.std.specs.Prelude.{slice_index_or}
use Rattle.theory_combine.specs.declared.distincts.IntArgument.{IntArgument}
use Rattle.theory_combine.specs.ByValue.{AreTellableAt, argument_at}
use Rattle.theory_combine.specs.Settling.{AreTellable}
use Rattle.theory_combine.proofs.ByValue.{tellable_before, one_more_back}
use Rattle.theory_combine.proofs.distincts.unnumbered_before.Goals as goal

pub returns-then-not-have_one_value-clause-none : goal.returns-then-not-have_one_value-clause-none
returns-then-not-have_one_value-clause-none c =
    let xs : List IntArgument = c.args.ints.now in
    let b : ℕ = c.args.later in
    let back : ℕ = c.loop-back.back in
    let first : c.int_at-earlier.result ≡ argument_at xs (b - 1 - back) = c.int_at-earlier.ensures in
    let last : c.int_at-last.result ≡ argument_at xs b = c.int_at-last.ensures in
    tellable_before c.args.parts.now c.args.progress.now c.args.given.now c.args.arguments.now xs c.requires.sorted b back c.loop-back-test.true c.requires.later
    (λ same. c.if-not-have_one_value.ensures.no refl (ap (λ (x : IntArgument). x.value) first ∙ same ∙ sym (ap (λ (x : IntArgument). x.value) last))) c.loop-back.invariant

pub loop-back-preserved : goal.loop-back-preserved
loop-back-preserved c =
    let is : List ℕ = c.args.arguments.now in
    let gs = c.args.given.now in
    let xs : List IntArgument = c.args.ints.now in
    let b : ℕ = c.args.later in
    let back : ℕ = c.loop-back.back in
    let first : c.int_at-earlier.result ≡ argument_at xs (b - 1 - back) = c.int_at-earlier.ensures in
    let last : c.int_at-last.result ≡ argument_at xs b = c.int_at-last.ensures in
    let told : AreTellable c.args.parts.now c.args.progress.now gs (slice_index_or is c.int_at-earlier.result.number 0) (slice_index_or is c.int_at-last.result.number 0) = c.in-None.ensures.none in
    let one : AreTellableAt c.args.parts.now c.args.progress.now gs is (argument_at xs (b - 1 - back)) (argument_at xs b) =
    subst (λ (y : IntArgument). AreTellableAt c.args.parts.now c.args.progress.now gs is (argument_at xs (b - 1 - back)) y) last (subst (λ (x : IntArgument). AreTellableAt c.args.parts.now c.args.progress.now gs is x c.int_at-last.result) first (λ same. told)) in
    one_more_back c.args.parts.now c.args.progress.now gs is xs c.requires.sorted b back c.loop-back-test.true one c.loop-back.invariant
