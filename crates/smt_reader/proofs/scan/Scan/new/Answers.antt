use Rattle.std.proofs.Common.{refl}
use Rattle.smt_reader.proofs.Scanned.{scan_anew}
use Rattle.smt_reader.proofs.scan.Scan.new.Goals as goal

pub returns : goal.returns
returns c unread = scan_anew unread _ refl refl refl c.new-2.ensures refl
