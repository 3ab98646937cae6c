use Rattle.std.proofs.Common.{refl, sym, subst}
use Rattle.literals.specs.Signed.{opposite}
use Rattle.closure_log.specs.Told.{CanTell}
use Rattle.closure_log.proofs.implied.implied_sign.Goals as goal

pub implied-requires : goal.implied-requires
implied-requires c = record { setting = c.requires.setting; told = c.requires.told; numbered = c.requires.numbered; is_open = c.requires.open c.args.literal refl }

pub implied-requires-in-None : goal.implied-requires-in-None
implied-requires-in-None c =
    subst (CanTell c.args.stack.now c.args.atoms.now.atoms c.args.told.now.congruence c.args.told.now.log.items c.args.told.now.starts.items) (sym c.negated.ensures)
    (record { setting = c.requires.setting; told = c.requires.told; numbered = c.requires.numbered; is_open = c.requires.open (opposite c.args.literal) refl })
