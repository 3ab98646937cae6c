use Rattle.std.proofs.Common.{refl}
use Rattle.std.specs.Prelude.{Some}
use Rattle.smt_sorts.proofs.KeptLemmas.{kept_is}
use Rattle.smt_sorts.proofs.table.Table.keep.Goals as goal

pub invariant_of-self : goal.invariant_of-self
invariant_of-self c = (c.self.invariant.0, kept_is c.self.inside.count c.self.inside.given c.self.inside.base c.self.inside.entries c.args.self.now c.args.kept (Some c.args.kept) c.self.invariant.0 c.self.view_is refl c.requires.given c.requires.of)
