use Rattle.std.proofs.Common.{◌≡◌, ◌∷◌, [], ◌∙◌, true, arith, refl, subst, sym, ap}
use Rattle.smt_meaning.specs.Reading.{IsSExpr, Opens, Completes}
use Rattle.smt_reader.specs.declared.part.Part.TheVariants.{Blank}
use Rattle.smt_reader.specs.declared.scan.Scan.{Scan}
use Rattle.smt_reader.specs.Scan.{Goes, start_of}
use Rattle.smt_reader.proofs.Scans.{part_single}
use Rattle.smt_reader.proofs.Scanned.{scan_on, found_ready, comes_ready}
use Rattle.smt_reader.proofs.scan.Scan.end_token.Goals as goal

pub ready-requires : goal.ready-requires
ready-requires c =
    let s = c.args.self.now in
    let bytes = c.args.bytes.now in
    let e = c.requires.ends in
    let pushed = c.in_ok-push_token.ensures.ok e.t e.is in
    let one = part_single s.part (start_of bytes s) s.content.items e.t e.is in
    let none : s.depth ≡ 0 = sym (ap (λ x. x.depth) pushed) ∙ c.if-self-eq0.true in
    let found = found_ready bytes s e.t e.first c.args.next c.requires.scan e.ends e.within (subst (Completes s.depth) (sym one) none) true in
    subst IsSExpr (sym (ap (λ x. x.tokens) pushed)) found.0

pub returns-then-self-eq0-clause-ok : goal.returns-then-self-eq0-clause-ok
returns-then-self-eq0-clause-ok c =
    let s = c.args.self.now in
    let bytes = c.args.bytes.now in
    let e = c.requires.ends in
    let pushed = c.in_ok-push_token.ensures.ok e.t e.is in
    let one = part_single s.part (start_of bytes s) s.content.items e.t e.is in
    let none : s.depth ≡ 0 = sym (ap (λ x. x.depth) pushed) ∙ c.if-self-eq0.true in
    comes_ready bytes _ _ _ _ c.args.next c.ready.ensures.ready (ap (λ x. x.tokens) pushed)
    (found_ready bytes s e.t e.first c.args.next c.requires.scan e.ends e.within (subst (Completes s.depth) (sym one) none))
    c.ready.ensures.anew

pub returns-clause-ok : goal.returns-clause-ok
returns-clause-ok c =
    let s = c.args.self.now in
    let bytes = c.args.bytes.now in
    let e = c.requires.ends in
    let pushed = c.in_ok-push_token.ensures.ok e.t e.is in
    let one = part_single s.part (start_of bytes s) s.content.items e.t e.is in
    let same = ap (λ x. x.depth) pushed in
    subst (Goes bytes s) (sym (c.go_on.ensures ∙ ap {A = Scan} {B = Scan} (λ x. record x { looked = c.args.next; part = Blank; start = c.args.next }) pushed))
    (scan_on bytes s _ e.t e.first c.args.next c.requires.scan e.ends e.onward e.within
    refl refl refl refl (subst (λ x. Opens s.depth (x ∷ []) s.depth) (sym one) (omega (arith, same), refl))
    (λ none. absurd (omega (arith, same))) (λ some. refl))
