use Rattle.std.proofs.Common.{◌≡◌, ◌∙◌, List, length, map, ap, sym, subst, true, false}
use Rattle.std.specs.Prelude.{OnOk, OnErr, Result, Ok, Err, is_err}
use Rattle.std.proofs.lemmas.Result.{IfOk-weaker}
use Rattle.smt_meaning.specs.Core.{IsReduced}
use Rattle.smt_meaning.specs.Stack.{HasNoModel, assertions_of}
use Rattle.smt_meaning.specs.StackCommand.{Stack}
use Rattle.scope_stack.specs.declared.answers.Assertion.{Assertion}
use Rattle.scope_stack.specs.Carries.{under}
use Rattle.scope_stack.specs.Inside.{asserted_by}
use Rattle.scope_stack.specs.Raised.{MayAssertAbove, StandsAbove}
use Rattle.goal_search.specs.Tries.{AreCandidates}
use Rattle.session.proofs.Raising.{reduced_under}
use Rattle.session.proofs.cores.core_under.Goals as goal

at_ok : {T E : Type 0} (r : Result T E) (P : Type 0) → is_err r ≡ false → OnOk r P → P
at_ok (Ok x) P e h = h
at_ok (Err x) P e h = absurd cc

at_err : {T E : Type 0} (r : Result T E) (P : Type 0) → is_err r ≡ true → OnErr r P → P
at_err (Ok x) P e h = absurd cc
at_err (Err x) P e h = h

pub raise-requires : goal.raise-requires
raise-requires g c =
    let old = c.args.stack.now in
    let seen : c.into_stack-seen.result ≡ old = c.into_stack-seen.ensures.same ∙ c.replace.ensures.value in
    let again : c.in_ok-again.again ≡ c.args.assumptions.now = c.in_ok-again.ensures ∙ c.as_slice.ensures in
    subst (λ (s : Stack). MayAssertAbove c.in_ok-again.again s) (sym seen) (subst (λ (xs : List Assertion). MayAssertAbove xs old) (sym again) c.requires.refuted.again)

pub core-held-requires : goal.core-held-requires
core-held-requires g c =
    let old = c.args.stack.now in
    let seen : c.into_stack-seen.result ≡ old = c.into_stack-seen.ensures.same ∙ c.replace.ensures.value in
    let again : c.in_ok-again.again ≡ c.args.assumptions.now = c.in_ok-again.ensures ∙ c.as_slice.ensures in
    let raised : c.raise.new.self ≡ under (map (asserted_by c.into_stack-seen.result.trees) c.in_ok-again.again) c.into_stack-seen.result =
    at_ok c.raise.result _ (sym c.is_err.ensures.value ∙ c.if-is_err.false) c.raise.ensures.ok in
    let above_old : c.raise.new.self ≡ under (map (asserted_by old.trees) c.args.assumptions.now) old =
    raised ∙ ap (λ (s : Stack). under (map (asserted_by s.trees) c.in_ok-again.again) s) seen ∙ ap (λ (xs : List Assertion). under (map (asserted_by old.trees) xs) old) again in
    record {
      may = c.requires.may;
      workers = c.requires.workers;
      candidates = subst (λ (s : Stack). AreCandidates 0 (length (assertions_of s.frames)) c.args.candidates.now) (sym above_old) c.requires.candidates;
      none = subst (λ (s : Stack). HasNoModel s.frames) (sym above_old) c.requires.refuted.none;
    }

pub lower-requires : goal.lower-requires
lower-requires g c =
    subst StandsAbove (sym c.core-held.ensures.stays) (at_ok c.raise.result _ (sym c.is_err.ensures.value ∙ c.if-is_err.false) c.raise.ensures.stands)

pub returns-then-is_err-clause-stays : goal.returns-then-is_err-clause-stays
returns-then-is_err-clause-stays g c =
    let same : c.raise.new.self ≡ c.into_stack-seen.result = at_err c.raise.result _ (sym c.is_err.ensures.value ∙ c.if-is_err.true) c.raise.ensures.err in
    let seen : c.into_stack-seen.result ≡ c.args.stack.now = c.into_stack-seen.ensures.same ∙ c.replace.ensures.value in
    c.of.ensures ∙ same ∙ seen

pub returns-clause-stays : goal.returns-clause-stays
returns-clause-stays g c =
    let old = c.args.stack.now in
    let seen : c.into_stack-seen.result ≡ old = c.into_stack-seen.ensures.same ∙ c.replace.ensures.value in
    let again : c.in_ok-again.again ≡ c.args.assumptions.now = c.in_ok-again.ensures ∙ c.as_slice.ensures in
    let raised : c.raise.new.self ≡ under (map (asserted_by c.into_stack-seen.result.trees) c.in_ok-again.again) c.into_stack-seen.result =
    at_ok c.raise.result _ (sym c.is_err.ensures.value ∙ c.if-is_err.false) c.raise.ensures.ok in
    let under_old : c.core-held.new.stack ≡ under (map (asserted_by c.into_stack-seen.result.trees) c.in_ok-again.again) c.into_stack-seen.result = c.core-held.ensures.stays ∙ raised in
    c.of-2.ensures ∙ c.lower.ensures (map (asserted_by c.into_stack-seen.result.trees) c.in_ok-again.again) c.into_stack-seen.result under_old ∙ seen

pub returns-clause-core : goal.returns-clause-core
returns-clause-core g c =
    let old = c.args.stack.now in
    let seen : c.into_stack-seen.result ≡ old = c.into_stack-seen.ensures.same ∙ c.replace.ensures.value in
    let again : c.in_ok-again.again ≡ c.args.assumptions.now = c.in_ok-again.ensures ∙ c.as_slice.ensures in
    let raised : c.raise.new.self ≡ under (map (asserted_by c.into_stack-seen.result.trees) c.in_ok-again.again) c.into_stack-seen.result =
    at_ok c.raise.result _ (sym c.is_err.ensures.value ∙ c.if-is_err.false) c.raise.ensures.ok in
    let above_old : c.raise.new.self ≡ under (map (asserted_by old.trees) c.args.assumptions.now) old =
    raised ∙ ap (λ (s : Stack). under (map (asserted_by s.trees) c.in_ok-again.again) s) seen ∙ ap (λ (xs : List Assertion). under (map (asserted_by old.trees) xs) old) again in
    IfOk-weaker c.core-held.result _ _
    (λ hs h.
    reduced_under old c.args.assumptions.now c.args.settings.now.workers c.args.settings.now.units c.args.candidates.now hs c.requires.refuted.again
    (subst (λ (s : Stack). IsReduced c.args.settings.now.workers s.trees s.frames c.args.settings.now.units c.args.candidates.now hs) above_old h))
    c.core-held.ensures.core
