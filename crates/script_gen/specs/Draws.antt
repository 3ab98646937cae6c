-- The numbers that a generator gives (O'Neill's PCG32, with the streams of `rand_pcg`).
use Rattle.std.specs.Prelude.{ℕ, zero, suc, ◌%◌, List, [], ◌∷◌}
use Rattle.rand_core.specs.Pcg32Seed.{pcg32_seed}
use Rattle.rand_pcg.specs.Lcg.{Lcg}
use Rattle.rand_pcg.specs.Pcg.{pcg32, pcg32_of_seed}

-- The generator of a seed.
abbrev pub seeded : ℕ → Lcg
seeded seed = pcg32_of_seed (pcg32_seed 16 seed)

-- The next word modulo the bound, and the generator after it.
abbrev pub draw : ℕ → Lcg → ℕ × Lcg
draw bound g = ((pcg32 g).0 % bound, (pcg32 g).1)

-- So many draws, in order, and the generator after them.
unfoldable pub draws : ℕ → ℕ → Lcg → List ℕ × Lcg
draws bound zero g = ([], g)
draws bound (suc n) g =
    let rest = draws bound n (draw bound g).1 in
    ((draw bound g).0 ∷ rest.0, rest.1)
