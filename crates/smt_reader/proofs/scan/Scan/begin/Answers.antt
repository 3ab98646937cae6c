use Rattle.std.proofs.Common.{refl}
use Rattle.smt_reader.proofs.Scanned.{scan_begun}
use Rattle.smt_reader.proofs.scan.Scan.begin.Goals as goal

pub returns : goal.returns
returns c bytes scan stops = scan_begun bytes c.args.self.now _ c.args.part scan stops refl refl refl c.clear.ensures.items refl refl refl
