use Rattle.smt_meaning.specs.Reading.{IsSExpr, shapes, closing}
use Rattle.smt_reader.proofs.Runs.{shapes-push}
use Rattle.std.proofs.Common.{◌+◌, ◌++◌, ◌∷◌, [], drop, arith, refl, subst, sym}
use Rattle.smt_meaning.specs.declared.tokens.Token.TheVariants.{Leave}
use Rattle.smt_reader.specs.declared.part.Turn.TheVariants.{Leaves}
use Rattle.smt_reader.specs.Scan.{Goes}
use Rattle.smt_reader.proofs.Scanned.{scan_on, leaves_at, found_closing, found_ready, comes_ready, within_stop}
use Rattle.smt_reader.proofs.scan.Scan.leave.Goals as goal

pub returns-then-self-eq0-clause-ok : goal.returns-then-self-eq0-clause-ok
returns-then-self-eq0-clause-ok c bytes scan stops = (found_closing bytes c.args.self.now scan stops c.if-self-eq0.true, scan)

pub returns-then-self-eq1-clause-ok : goal.returns-then-self-eq1-clause-ok
returns-then-self-eq1-clause-ok c bytes scan stops =
    let s = c.args.self.now in
    comes_ready bytes _ _ _ (s.tokens ++ Leave ∷ []) (s.looked + 1) c.ready.ensures.ready c.in_ok-push.ensures.ok
    (found_ready bytes s Leave (drop s.looked bytes) (s.looked + 1) scan (leaves_at bytes s scan stops) (within_stop bytes s.part s.looked Leaves stops) c.if-self-eq1.true)
    c.ready.ensures.anew

pub returns-clause-ok : goal.returns-clause-ok
returns-clause-ok c bytes scan stops =
    let s = c.args.self.now in
    subst (Goes bytes s) (sym c.go_on.ensures)
    (scan_on bytes s _ Leave (drop s.looked bytes) (s.looked + 1) scan (leaves_at bytes s scan stops) (omega arith) (within_stop bytes s.part s.looked Leaves stops)
    refl refl refl c.in_ok-push.ensures.ok (omega arith, refl) (λ none. absurd (omega arith)) (λ some. refl))

pub ready-requires : goal.ready-requires
ready-requires c =
    let tokens = c.args.self.now.tokens in
    subst IsSExpr (sym c.in_ok-push.ensures.ok) (shapes tokens, c.args.self.now.depth, closing, shapes-push tokens Leave, c.requires.opens, c.if-self-eq1.true)
