use Rattle.std.proofs.Common.{◌-◌, length}
use Rattle.tableau.proofs.holders.skip.Given as goal

abbrev pub decreases-loop-here : goal.decreases-loop-here
decreases-loop-here l = length l.entries - l.here
