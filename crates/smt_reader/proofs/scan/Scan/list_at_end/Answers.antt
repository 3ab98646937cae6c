use Rattle.smt_reader.proofs.Scanned.{found_open}
use Rattle.smt_reader.proofs.scan.Scan.list_at_end.Goals as goal

pub returns-in_default : goal.returns-in_default
returns-in_default c bytes scan all = (found_open bytes c.args.self.now scan all c.requires c.ending.result c.in_default.not-Formless c.ending.ensures, scan)
