use Rattle.std.proofs.Common.{refl, subst, sym, ◌∙◌}
use Rattle.smt_reader.specs.Scan.{IsScan}
use Rattle.smt_reader.proofs.Scanned.{scan_anew}
use Rattle.smt_reader.proofs.scan.Scan.ready.Goals as goal

pub returns-clause-anew : goal.returns-clause-anew
returns-clause-anew c unread = subst (IsScan unread) (sym c.go_on.ensures) (scan_anew unread _ refl refl refl (c.replace-tokens.ensures.after ∙ c.new.ensures) refl)
