use Rattle.std.proofs.Common.{◌≡◌, ◌∙◌, ℕ, refl, sym, ap, slice_index}
use Rattle.std.specs.Fmt.{digits}
use Rattle.rand_core.specs.Pcg32Seed.{pcg32_seed}
use Rattle.rand_core.specs.Steps.{word_bytes, u32_at}
use Rattle.script_gen.specs.Draws.{draws}
use Rattle.script_gen.specs.Script.{declarations, bounds, image, choice, all_facts, checks, round_text, rounds, script}
use Rattle.script_gen.specs.Examples.{smallest, invented}
use Rattle.script_gen.proofs.examples.smallest_script.Goals as goal

made : script 1 1 ≡ smallest
unfolding pcg32_seed word_bytes u32_at draws digits declarations bounds image choice all_facts checks round_text rounds
made = refl

pub returns-clause-made : goal.returns-clause-made
returns-clause-made c = made

apart : ◌≡◌ {A = ℕ} 52 50 → ⊥
apart e = cc

-- the two differ at one byte
differ : smallest ≡ invented → ⊥
differ same = apart (ap (λ s. slice_index s 218) same)

pub returns-clause-not_invented : goal.returns-clause-not_invented
returns-clause-not_invented c same = differ (sym made ∙ same)
