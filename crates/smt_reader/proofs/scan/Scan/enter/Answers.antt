use Rattle.std.proofs.Common.{◌+◌, drop, arith, refl, subst, sym, length-drop}
use Rattle.smt_meaning.specs.declared.tokens.Token.TheVariants.{Enter}
use Rattle.smt_reader.specs.declared.part.Turn.TheVariants.{Enters}
use Rattle.smt_reader.specs.Scan.{Goes}
use Rattle.smt_reader.proofs.Scanned.{scan_on, enters_at, found_nesting, within_stop}
use Rattle.smt_reader.proofs.scan.Scan.enter.Goals as goal

pub returns-then-self-ge-MOST_OPEN-clause-ok : goal.returns-then-self-ge-MOST_OPEN-clause-ok
returns-then-self-ge-MOST_OPEN-clause-ok c bytes scan stops = (found_nesting bytes c.args.self.now scan stops c.if-self-ge-MOST_OPEN.true, scan)

pub returns-clause-ok : goal.returns-clause-ok
returns-clause-ok c bytes scan stops =
    let s = c.args.self.now in
    let from = c.outermost-self.ensures in
    subst (Goes bytes s) (sym c.go_on.ensures)
    (scan_on bytes s _ Enter (drop s.looked bytes) (s.looked + 1) scan (enters_at bytes s scan stops) (omega arith) (within_stop bytes s.part s.looked Enters stops)
    refl refl refl c.in_ok-push.ensures.ok (c.if-self-ge-MOST_OPEN.false, refl)
    (λ none. omega (arith, from.first none, scan.within, length-drop s.looked bytes)) (λ some. from.inner some))
