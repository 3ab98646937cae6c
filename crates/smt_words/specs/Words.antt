-- The words of the command line, by what `clap` makes of them.
use Rattle.std.specs.Prelude.{ℕ, Bool, true, List, [], ◌∷◌, Option, Some, pos, codes, option_map, unwrap_or}
use Rattle.std.specs.Str.Parse.{digits_value, without_leading_plus}
use Rattle.clap.specs.Words.{App, Row, Rule, Text, matches_of, new_app, new_rule, one_of, takes}
use Rattle.clap.specs.Words.{subcommand_of, with_rule, with_subcommand}
use Rattle.clap.specs.Simple.{on_top}
use Rattle.clap.specs.declared.builder.action.ArgAction.TheVariants.{Set}
use Rattle.clap.specs.declared.builder.value_parser.ValueParser.{ValueParser}
use Rattle.clap.specs.declared.builder.value_parser.ValueParser.TheVariants.{Signed, Unsigned}
use Rattle.smt_meaning.specs.declared.settings.Settings.{Settings}
use Rattle.smt_words.specs.declared.Generated.{Generated}

-- the option `--name` with one value, which passes the parser, and this default
abbrev pub option : Text → Text → ValueParser → Rule
option name default parser = record (new_rule name) {
  long = Some name;
  action = Some Set;
  defaults = default ∷ [];
  parser = Some parser;
}

-- a program whose name comes first, with no word for help or a version
abbrev pub bare : App
bare = on_top (λ s. record s {
  disable_help_flag = true;
  disable_version_flag = true;
  disable_help_subcommand = true;
}) (new_app (codes "smt_cli"))

-- numbers of 0 to 2^64 - 1
abbrev pub natural : ValueParser
natural = Unsigned 0 18446744073709551615

-- the same option without a default, which has to be given
abbrev pub needed : Text → ValueParser → Rule
needed name parser = record (new_rule name) {
  long = Some name;
  action = Some Set;
  parser = Some parser;
  required = true;
}

-- `gen --seed K --size N`
abbrev pub generator : App
generator = with_rule
    (with_rule (new_app (codes "gen")) (needed (codes "seed") natural))
    (needed (codes "size") (Signed (pos 1) (pos 2000)))

-- `smt_cli [--workers N] [--units U] [--share L] [--seed K]`, and after these words perhaps `gen`
abbrev pub program : App
program = with_subcommand
    (with_rule
    (with_rule
    (with_rule
    (with_rule bare (option (codes "workers") (codes "4") (Signed (pos 1) (pos 16))))
    (option (codes "units") (codes "0") natural))
    (option (codes "share") (codes "8") (Signed (pos 0) (pos 64))))
    (option (codes "seed") (codes "0") natural))
    generator.top

-- `clap` takes the words
abbrev pub are_taken : List Text → Bool
are_taken words = takes program words

-- the number that stands in the matches for an option
abbrev pub number_in : List Row → Text → ℕ
number_in rows id = digits_value 10 (without_leading_plus (unwrap_or (one_of id rows) []))

-- the settings are the numbers in `clap`'s matches, where an option that isn't given has its default
abbrev pub settings_of : List Text → Settings
settings_of words = record {
  workers = number_in (matches_of program words) (codes "workers");
  units = pos (number_in (matches_of program words) (codes "units"));
  share = number_in (matches_of program words) (codes "share");
  seed = number_in (matches_of program words) (codes "seed");
}

-- the numbers of `gen`, where the words have it
abbrev pub generated_of : List Text → Option Generated
generated_of words = option_map (λ p. record {
  seed = number_in p.1 (codes "seed");
  size = number_in p.1 (codes "size");
}) (subcommand_of program words)
