use Rattle.simplex_steps.proofs.Bases as Bases
use Rattle.simplex_steps.proofs.bases_determine_rows.Goals as goal

pub returns : goal.returns
returns c = Bases.bases_determine
