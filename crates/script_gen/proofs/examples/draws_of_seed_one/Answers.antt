use Rattle.std.proofs.Common.{refl}
use Rattle.rand_core.specs.Pcg32Seed.{pcg32_seed}
use Rattle.rand_core.specs.Steps.{word_bytes, u32_at}
use Rattle.script_gen.specs.Draws.{draws}
use Rattle.script_gen.proofs.examples.draws_of_seed_one.Goals as goal

pub returns : goal.returns
unfolding pcg32_seed word_bytes u32_at draws
returns c = refl
