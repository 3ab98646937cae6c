use Rattle.std.proofs.Common.{sym}
use Rattle.elaborate.proofs.Named.{name_found, name_not_found}
use Rattle.elaborate.proofs.naming.BoundNames.binds.Goals as goal

pub returns-in-Some : goal.returns-in-Some
returns-in-Some c = sym (name_found c.args.name.now c.args.self.now.bindings.now _ (sym c.in-Some.ensures))

pub returns-in-None : goal.returns-in-None
returns-in-None c = sym (name_not_found c.args.name.now c.args.self.now.bindings.now (sym c.in-None.ensures))
