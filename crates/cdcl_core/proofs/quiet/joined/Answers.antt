use Rattle.std.proofs.Common.{◌≡◌, true, false, nat_eq, eqb-true, eq-eqb, sym, ap, ◌∙◌}
use Rattle.literals.specs.Signed.{Signed, packed}
use Rattle.literals.proofs.Packing.{packed-injective}
use Rattle.cdcl_core.proofs.Spans.{latest-same, latest-longer, latest-shorter, longest-longer, longest-same, longest-shorter}
use Rattle.cdcl_core.proofs.quiet.joined.Goals as goal

differ : (l m : Signed) → false ≡ nat_eq (packed l) (packed m) → l ≡ m → ⊥
differ l m h e = never (h ∙ eq-eqb (packed l) (packed m) (ap packed e))
  where
    never : false ≡ true → ⊥
    never e = cc

pub returns-then-eq : goal.returns-then-eq
returns-then-eq c =
    let same : c.args.literal ≡ c.args.latest.literal = packed-injective c.args.literal c.args.latest.literal (eqb-true (packed c.args.literal) (packed c.args.latest.literal) (sym c.eq.ensures ∙ c.if-eq.true)) in
    record {
      latest = λ steps ls among lasts latest. latest-same steps ls c.args.latest c.args.literal c.args.span among lasts latest c.least-from.result c.least-from.ensures;
      longest = λ steps seen lasts longest. longest-same steps seen c.args.latest c.args.literal c.args.span lasts longest c.least-from.result c.least-from.ensures same;
    }

pub returns-then-span-latest : goal.returns-then-span-latest
returns-then-span-latest c = record {
  latest = λ steps ls among lasts latest.
      latest-longer steps ls c.args.latest c.args.literal c.args.span among lasts latest c.least-from.result c.least-from.ensures (differ c.args.literal c.args.latest.literal c.if-eq.ensures) c.if-span-latest.true;
  longest = λ steps seen lasts longest.
      longest-longer steps seen c.args.latest c.args.literal c.args.span lasts longest c.least-from.result c.least-from.ensures c.if-span-latest.true;
}

pub returns : goal.returns
returns c = record {
  latest = λ steps ls among lasts latest.
      latest-shorter steps ls c.args.latest c.args.literal c.args.span among lasts latest c.least-from.result c.greatest-both.result c.least-from.ensures c.greatest-both.ensures (differ c.args.literal c.args.latest.literal c.if-eq.ensures) c.if-span-latest.false;
  longest = λ steps seen lasts longest.
      longest-shorter steps seen c.args.latest c.args.literal c.args.span lasts longest c.least-from.result c.greatest-both.result c.least-from.ensures c.greatest-both.ensures c.if-span-latest.false;
}
