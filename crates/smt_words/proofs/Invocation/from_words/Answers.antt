use Rattle.std.proofs.Common.{◌≡◌, ◌∙◌, ℕ, ℤ, arith, to_z, of_z, ap, ap₂, codes, map, option_map, refl, pos, string_bytes, sym, List}
use Rattle.std.specs.Int.{w128}
use Rattle.std.proofs.lemmas.Int.{to_z_pos}
use Rattle.clap.specs.Words.{Row, Text, found_of, fault_of, is_simple, is_simple_and_free, matches_of, rows_of, takes}
use Rattle.smt_meaning.specs.declared.settings.Settings.{Settings}
use Rattle.smt_words.specs.Words.{number_in, program, settings_of}
use Rattle.smt_words.proofs.Options.{generated_is, given_seed, given_size, none_generated, parsed_subcommand, caused_by, in_bounds, seed_number, share_number, some_number, taken_without_fault, units_number, value_is, workers_number}
use Rattle.smt_words.proofs.Invocation.from_words.Goals as goal
use Rattle.smt_words.proofs.Invocation.from_words.Goals.{in-Some, in-None}

pub unwrap-requires : goal.unwrap-requires
unwrap-requires c = some_number _ (codes "workers") 1 16 _ (workers_number c.in_ok-command.command c.in_ok-matches.matches c.in_ok-command.ensures c.in_ok-matches.ensures.parsed _ c.get_one.ensures.value)

pub unwrap-requires-2 : goal.unwrap-requires-2
unwrap-requires-2 c = some_number _ (codes "units") 0 18446744073709551615 _ (units_number c.in_ok-command.command c.in_ok-matches.matches c.in_ok-command.ensures c.in_ok-matches.ensures.parsed _ c.get_one-2.ensures.value)

pub unwrap-requires-3 : goal.unwrap-requires-3
unwrap-requires-3 c = some_number _ (codes "share") 0 64 _ (share_number c.in_ok-command.command c.in_ok-matches.matches c.in_ok-command.ensures c.in_ok-matches.ensures.parsed _ c.get_one-3.ensures.value)

pub unwrap-requires-in-Some : goal.unwrap-requires-in-Some
unwrap-requires-in-Some c =
    let words = map string_bytes c.args.words.now.items in
    let told = parsed_subcommand c.in_ok-command.command c.in_ok-matches.matches _ words c.in_ok-command.ensures (ap (map string_bytes) c.as_slice.ensures.value)
    c.in_ok-matches.ensures.matches c.in_ok-matches.ensures.kinds in
    let rows = c.in-Some.ensures.rows ∙ ap (option_map (λ (p : Text × List Row). p.1)) told.1 in
    some_number _ (codes "seed") 0 18446744073709551615 _ (given_seed words c.in-Some.given.now _ told.0 rows c.get_one-in-Some.ensures.value)

pub unwrap-requires-in-Some-2 : goal.unwrap-requires-in-Some-2
unwrap-requires-in-Some-2 c =
    let words = map string_bytes c.args.words.now.items in
    let told = parsed_subcommand c.in_ok-command.command c.in_ok-matches.matches _ words c.in_ok-command.ensures (ap (map string_bytes) c.as_slice.ensures.value)
    c.in_ok-matches.ensures.matches c.in_ok-matches.ensures.kinds in
    let rows = c.in-Some.ensures.rows ∙ ap (option_map (λ (p : Text × List Row). p.1)) told.1 in
    some_number _ (codes "size") 1 2000 _ (given_size words c.in-Some.given.now _ told.0 rows c.get_one-in-Some-2.ensures.value)

pub returns-clause-generated : goal.returns-clause-generated
returns-clause-generated c =
    let words = map string_bytes c.args.words.now.items in
    let told = parsed_subcommand c.in_ok-command.command c.in_ok-matches.matches _ words c.in_ok-command.ensures (ap (map string_bytes) c.as_slice.ensures.value)
    c.in_ok-matches.ensures.matches c.in_ok-matches.ensures.kinds in
    elim c.match-subcommand.branch [
      | in-Some w ↦
          let m = w.in-Some.given.now in
          let rows = w.in-Some.ensures.rows ∙ ap (option_map (λ (p : Text × List Row). p.1)) told.1 in
          let seed = value_is m (codes "seed") 0 18446744073709551615 _ _ _ (given_seed words m _ told.0 rows w.get_one-in-Some.ensures.value) w.unwrap-in-Some.ensures refl in
          let size = value_is m (codes "size") 1 2000 _ _ _ (given_size words m _ told.0 rows w.get_one-in-Some-2.ensures.value) w.unwrap-in-Some-2.ensures refl in
          w.generated-is ∙ generated_is _ (rows_of (found_of m)) _ _ rows seed size
      | in-None w ↦ w.generated-is ∙ none_generated _ (w.in-None.ensures.rows ∙ ap (option_map (λ (p : Text × List Row). p.1)) told.1)
    ]

pub returns-clause-size : goal.returns-clause-size
returns-clause-size c =
    let words = map string_bytes c.args.words.now.items in
    let told = parsed_subcommand c.in_ok-command.command c.in_ok-matches.matches _ words c.in_ok-command.ensures (ap (map string_bytes) c.as_slice.ensures.value)
    c.in_ok-matches.ensures.matches c.in_ok-matches.ensures.kinds in
    elim c.match-subcommand.branch [
      | in-Some w ↦
          let m = w.in-Some.given.now in
          let rows = w.in-Some.ensures.rows ∙ ap (option_map (λ (p : Text × List Row). p.1)) told.1 in
          rw w.generated-is (in_bounds m (codes "size") 1 2000 _ _ (given_size words m _ told.0 rows w.get_one-in-Some-2.ensures.value) w.unwrap-in-Some-2.ensures)
      | in-None w ↦ rw w.generated-is tt
    ]

pub unwrap-requires-4 : goal.unwrap-requires-4
unwrap-requires-4 c = some_number _ (codes "seed") 0 18446744073709551615 _ (seed_number c.in_ok-command.command c.in_ok-matches.matches c.in_ok-command.ensures c.in_ok-matches.ensures.parsed _ c.get_one-4.ensures.value)

pub returns-in_err-matches-clause-cause : goal.returns-in_err-matches-clause-cause
returns-in_err-matches-clause-cause c =
    let words : map string_bytes c.as_slice.result.now ≡ map string_bytes c.args.words.now.items = ap (map string_bytes) c.as_slice.ensures.value in
    caused_by (map string_bytes c.args.words.now.items) _ c.from_residual-in_err-matches.result c.from_residual-in_err-matches.ensures.1
    (λ taken. c.in_err-matches.ensures.passes (ap₂ takes c.in_ok-command.ensures words ∙ taken))

pub returns-clause-taken : goal.returns-clause-taken
returns-clause-taken c =
    let words : map string_bytes c.as_slice.result.now ≡ map string_bytes c.args.words.now.items = ap (map string_bytes) c.as_slice.ensures.value in
    taken_without_fault (map string_bytes c.args.words.now.items)
    (sym (ap₂ fault_of c.in_ok-command.ensures words) ∙ c.in_ok-matches.ensures.kinds (ap is_simple_and_free c.in_ok-command.ensures))

settings_are : (words : List Text) (workers : ℕ) (units : ℤ) (share seed : ℕ) → workers ≡ number_in (matches_of program words) (codes "workers")
    → units ≡ pos (number_in (matches_of program words) (codes "units")) → share ≡ number_in (matches_of program words) (codes "share") → seed ≡ number_in (matches_of program words) (codes "seed")
    → ◌≡◌ {A = Settings} (record { workers = workers; units = units; share = share; seed = seed }) (settings_of words)
settings_are words workers units share seed a b c d = λ i. record { workers = a i; units = b i; share = c i; seed = d i }

pub returns-clause-settings : goal.returns-clause-settings
returns-clause-settings c =
    let command = c.in_ok-command.command in
    let m = c.in_ok-matches.matches in
    let is = c.in_ok-command.ensures in
    let parsed = c.in_ok-matches.ensures.parsed in
    let words : map string_bytes c.as_slice.result.now ≡ map string_bytes c.args.words.now.items = ap (map string_bytes) c.as_slice.ensures.value in
    let rows : rows_of (found_of m) ≡ matches_of program (map string_bytes c.args.words.now.items) =
    (c.in_ok-matches.ensures.matches (ap is_simple is)).0 ∙ ap₂ matches_of is words in
    let units_are : c.unwrap-2.result ≡ number_in (matches_of program (map string_bytes c.args.words.now.items)) (codes "units") =
    value_is m (codes "units") 0 18446744073709551615 _ _ _ (units_number command m is parsed _ c.get_one-2.ensures.value) c.unwrap-2.ensures rows in
    settings_are (map string_bytes c.args.words.now.items) c.unwrap.result _ c.unwrap-3.result c.unwrap-4.result
    (value_is m (codes "workers") 1 16 _ _ _ (workers_number command m is parsed _ c.get_one.ensures.value) c.unwrap.ensures rows)
    (ap (λ z. to_z w128 (of_z w128 z)) c.from.ensures ∙ to_z_pos w128 c.unwrap-2.result (omega (arith, c.unwrap-2.type_inv)) ∙ ap pos units_are)
    (value_is m (codes "share") 0 64 _ _ _ (share_number command m is parsed _ c.get_one-3.ensures.value) c.unwrap-3.ensures rows)
    (value_is m (codes "seed") 0 18446744073709551615 _ _ _ (seed_number command m is parsed _ c.get_one-4.ensures.value) c.unwrap-4.ensures rows)

pub returns-clause-workers : goal.returns-clause-workers
returns-clause-workers c =
    let number = workers_number c.in_ok-command.command c.in_ok-matches.matches c.in_ok-command.ensures c.in_ok-matches.ensures.parsed _ c.get_one.ensures.value in
    in_bounds c.in_ok-matches.matches (codes "workers") 1 16 _ _ number c.unwrap.ensures

pub returns-clause-share : goal.returns-clause-share
returns-clause-share c =
    let number = share_number c.in_ok-command.command c.in_ok-matches.matches c.in_ok-command.ensures c.in_ok-matches.ensures.parsed _ c.get_one-3.ensures.value in
    (in_bounds c.in_ok-matches.matches (codes "share") 0 64 _ _ number c.unwrap-3.ensures).1
