use Rattle.std.proofs.Common.{◌≡◌, ℕ, ◌+◌, ◌++◌, ◌∷◌, [], List, Contains, take, ap, ◌∙◌, subst, sym}
use Rattle.std.proofs.lemmas.List.{take_more}
use Rattle.std.proofs.lemmas.List.Elements.{Contains-get_or}
use Rattle.literals.specs.Signed.{Signed}
use Rattle.cdcl_core.proofs.Spans.{first-latest, first-longest}
use Rattle.cdcl_core.specs.Quiet.{IsLongest}
use Rattle.cdcl_core.proofs.quiet.look.Goals as goal

pub loop-literal-init : goal.loop-literal-init
loop-literal-init c =
    let ls : List Signed = c.args.literals.now in
    let among : Contains ls c.index-literals-0.result = subst (Contains ls) (sym c.index-literals-0.is) (Contains-get_or ls 0 c.index-literals-0.result c.requires.some) in
    record {
      latest = first-latest c.args.store.now.trail.steps ls c.index-literals-0.result c.span_of-first.result among c.span_of-first.ensures;
      longest = first-longest c.args.store.now.trail.steps c.index-literals-0.result c.span_of-first.result c.span_of-first.ensures;
    }

pub loop-literal-preserved : goal.loop-literal-preserved
loop-literal-preserved c =
    let ls : List Signed = c.args.literals.now in
    let i : ℕ = c.loop-literal.literal-index in
    let among : Contains ls c.literal-item.result = subst (Contains ls) (sym c.literal-item.is) (Contains-get_or ls i c.literal-item.result c.loop-literal-test.true) in
    let more : take (i + 1) ls ≡ take i ls ++ c.literal-item.result ∷ [] = take_more ls i c.literal-item.result c.loop-literal-test.true ∙ ap (λ l. take i ls ++ l ∷ []) (sym c.literal-item.is) in
    record {
      latest = c.joined-latest.ensures.latest c.args.store.now.trail.steps ls among c.span_of.ensures c.loop-literal.invariant.latest;
      longest = subst (λ seen. IsLongest c.args.store.now.trail.steps seen c.joined-latest.result) (sym more) (c.joined-latest.ensures.longest c.args.store.now.trail.steps (take i ls) c.span_of.ensures c.loop-literal.invariant.longest);
    }
