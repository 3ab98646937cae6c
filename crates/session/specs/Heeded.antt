-- The settings that a check heeds.
use Rattle.std.specs.Prelude.{◌%◌, ◌^◌, unsigned_abs}
use Rattle.smt_meaning.specs.declared.settings.Settings.{Settings}
use Rattle.smt_meaning.specs.declared.options.Options.{Options}

-- those of the words, with the limit and the seed of the options
abbrev pub heeded : Options → Settings → Settings
heeded o s = record s { units = o.reproducible_resource_limit; seed = unsigned_abs o.random_seed % 2 ^ 64 }
