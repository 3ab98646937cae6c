-- Where no step of a parse fails, each step passes.
use Rattle.std.proofs.Common.{◌≡◌, ◌+◌, ◌&&◌, ◌||◌, ◌==◌, ℕ, Bool, cond, codes, true, false, not, zero, suc, refl, List, [], ◌∷◌, length, drop, min, nat_le, nat_lt, Option, Some, None, is_some, arith, eqb-true, le-leb, ltb-false, encode_utf8, slice_get, chars, ap}
use Rattle.std.specs.Option.{option_map_or}
use Rattle.std.specs.Str.{bytes_eq}
use Rattle.clap.specs.Lexer.{long_of, short_of}
use Rattle.clap.specs.ValueTests.{accepts}
use Rattle.clap.specs.Values.{refused_kind}
use Rattle.clap.specs.Matches.{count_text}
use Rattle.clap.specs.Facts.{parser_of_value, unwrap_or_range}
use Rattle.clap.specs.Walk.{Held, Names, Row, Rule, Step, Text, Waiting, Walk, action_of, arg_by_id, arg_by_index, arg_by_long, arg_by_short, attached_value, count_of, has_row, is_pending, most_values, reacted, settled, finished, subcommand_met, takes_several, takes_values, values_or_missing, walk, walk_from, walked, word_met, next, trailing, subcommand, value}
use Rattle.std.specs.List.{list_all, list_any}
use Rattle.clap.specs.Facts.{explicit_source}
use Rattle.clap.specs.Simple.{Shape}
use Rattle.clap.specs.Kinds.{Kinds, or_else, range_kinds, value_kinds}
use Rattle.clap.specs.Takes.{default_passes, is_given, is_valid, level_passes, action_passes, bundle_passes, bundle_step_passes, count_passes, flag_word_passes, flags_pass, long_passes, option_passes, other_passes, positional_passes, react_passes, set_passes, settle_passes, short_passes, step_passes, turn_passes, use_passes, value_passes, values_pass, walk_passes, word_passes}
use Rattle.clap.specs.Faults.{check_fault, defaults_fault, has_free_rules, level_fault, action_fault, bundle_fault, bundle_step_fault, count_fault, flag_word_fault, flags_fault, long_fault, option_fault, other_fault, positional_fault, react_fault, repeat_fault, set_fault, settle_fault, short_fault, step_fault, stray_fault, turn_fault, use_fault, values_fault, walk_fault, word_fault}
use Rattle.clap.specs.declared.error.kind.ErrorKind.{ErrorKind}
use Rattle.clap.specs.declared.error.kind.ErrorKind.TheVariants.{InvalidSubcommand, TooFewValues, TooManyValues, UnknownArgument, WrongNumberOfValues}
use Rattle.clap.specs.declared.builder.action.ArgAction.{ArgAction}
use Rattle.clap.specs.declared.builder.action.ArgAction.TheVariants as action

-- where neither of two steps fails, each doesn't
pub parts : (a b : Kinds) → or_else a b ≡ [] → (a ≡ []) × (b ≡ [])
parts [] b e = (refl, e)
parts (k ∷ ks) b e = cc

pub joined : (a b : Bool) → a ≡ true → b ≡ true → (a && b) ≡ true
joined true b p q = q
joined false b p q = cc

-- where a fault that comes at a test doesn't, the test fails, and what comes otherwise is no fault
unless : (b : Bool) (k : ErrorKind) (ks rest : Kinds) → cond b (k ∷ ks) rest ≡ [] → (b ≡ false) × (rest ≡ [])
unless true k ks rest e = cc
unless false k ks rest e = (refl, e)

excused : (a b : Bool) → (a && not b) ≡ false → (not a || b) ≡ true
excused true true e = refl
excused true false e = cc
excused false b e = refl

-- ---- values

pub value_takes : (a : Rule) (t : Text) → value_kinds a.ignore_case (parser_of_value a.parser) t ≡ [] → value_passes a t ≡ true
value_takes a t e = go (accepts a.ignore_case (parser_of_value a.parser) t) e
  where
    go : (b : Bool) → cond b [] (refused_kind (parser_of_value a.parser) ∷ []) ≡ [] → b ≡ true
    go true e = refl
    go false e = cc

values_take : (a : Rule) (vs : List Text) → values_fault a vs ≡ [] → values_pass a vs ≡ true
values_take a [] e = refl
values_take a (v ∷ vs) e =
    let each = parts (value_kinds a.ignore_case (parser_of_value a.parser) v) (values_fault a vs) e in
    joined _ _ (value_takes a v each.0) (values_take a vs each.1)

-- ---- one use of an argument

count_takes : (a : Rule) (vs : List Text) (rows : List Row) → count_fault a vs rows ≡ [] → count_passes a vs rows ≡ true
count_takes a [] rows e = value_takes a (count_text (min (count_of a.id rows + 1) 255)) e
count_takes a (v ∷ vs) rows e = values_take a (v ∷ vs) e

repeat_takes : (again : Bool) (id : Text) (rows : List Row) → repeat_fault again id rows ≡ [] → (not (has_row id rows) || again) ≡ true
repeat_takes again id rows e = excused (has_row id rows) again (unless (has_row id rows && not again) _ _ _ e).0

set_takes : (again : Bool) (a : Rule) (vs : List Text) (rows : List Row) → set_fault again a vs rows ≡ [] → set_passes again a vs rows ≡ true
set_takes again a vs rows e =
    let each = parts (repeat_fault again a.id rows) (values_fault a vs) e in
    joined _ _ (repeat_takes again a.id rows each.0) (values_take a vs each.1)

action_takes : (x : ArgAction) (again : Bool) (a : Rule) (vs : List Text) (rows : List Row) → action_fault x again a vs rows ≡ [] → action_passes x again a vs rows ≡ true
action_takes action.Set again a vs rows e = set_takes again a vs rows e
action_takes action.SetTrue again a vs rows e = set_takes again a vs rows e
action_takes action.SetFalse again a vs rows e = set_takes again a vs rows e
action_takes action.Append again a vs rows e = values_take a vs e
action_takes action.Count again a vs rows e = count_takes a vs rows e
action_takes action.Help again a vs rows e = cc
action_takes action.HelpShort again a vs rows e = cc
action_takes action.HelpLong again a vs rows e = cc
action_takes action.Version again a vs rows e = cc

pub range_takes : (least most n : ℕ) → range_kinds least most n ≡ [] → (nat_le least n ≡ true) × (nat_le n most ≡ true)
range_takes least most n e = go (least == most) refl (unless (nat_lt 0 least && n == 0) _ _ _ e).1
  where
    one : (b : Bool) → (least == n) ≡ b → least ≡ most → cond b [] (WrongNumberOfValues ∷ []) ≡ [] → (nat_le least n ≡ true) × (nat_le n most ≡ true)
    one true at same e =
        let is : least ≡ n = eqb-true _ _ at in
        (le-leb _ _ (omega arith), le-leb _ _ (omega arith))
    one false at same e = cc

    go : (b : Bool) → (least == most) ≡ b
        → cond b (cond (least == n) [] (WrongNumberOfValues ∷ [])) (cond (nat_lt n least) (TooFewValues ∷ []) (cond (nat_lt most n) (TooManyValues ∷ []) [])) ≡ []
        → (nat_le least n ≡ true) × (nat_le n most ≡ true)
    go true same e = one (least == n) refl (eqb-true _ _ same) e
    go false other e =
        let few = unless (nat_lt n least) _ _ _ e in
        let many = unless (nat_lt most n) _ _ _ few.1 in
        (le-leb _ _ (ltb-false _ _ few.0), le-leb _ _ (ltb-false _ _ many.0))

use_takes : (again : Bool) (a : Rule) (vs : List Text) (rows : List Row) → use_fault again a vs rows ≡ [] → use_passes again a vs rows ≡ true
use_takes again a vs rows e =
    let each = parts (range_kinds (unwrap_or_range a.range).start_inclusive (most_values a) (length vs)) (action_fault (action_of a) again a (values_or_missing a vs) rows) e in
    let range = range_takes (unwrap_or_range a.range).start_inclusive (most_values a) (length vs) each.0 in
    joined _ _ range.0 (joined _ _ range.1 (action_takes (action_of a) again a (values_or_missing a vs) rows each.1))

-- ---- the walk

pub settle_takes : (c : List Rule) (again : Bool) (h : Held) → settle_fault c again h ≡ [] → settle_passes c again h ≡ true
settle_takes c again h e = go h.pending e
  where
    by_rule : (p : Text × List Text) (o : Option Rule) → option_map_or (λ a. use_fault again a p.1 h.rows) o [] ≡ [] → option_map_or (λ a. use_passes again a p.1 h.rows) o true ≡ true
    by_rule p None e = refl
    by_rule p (Some a) e = use_takes again a p.1 h.rows e

    go : (o : Option (Text × List Text)) → option_map_or (λ (p : Text × List Text). option_map_or (λ a. use_fault again a p.1 h.rows) (arg_by_id c p.0) []) o [] ≡ []
        → option_map_or (λ (p : Text × List Text). option_map_or (λ a. use_passes again a p.1 h.rows) (arg_by_id c p.0) true) o true ≡ true
    go None e = refl
    go (Some p) e = by_rule p (arg_by_id c p.0) e

react_takes : (c : List Rule) (again : Bool) (a : Rule) (vs : List Text) (h : Held) → react_fault c again a vs h ≡ [] → react_passes c again a vs h ≡ true
react_takes c again a vs h e =
    let each = parts (settle_fault c again h) (use_fault again a vs (settled c h).rows) e in
    joined _ _ (settle_takes c again h each.0) (use_takes again a vs (settled c h).rows each.1)

option_takes : (c : List Rule) (again : Bool) (a : Rule) (v : Option Text) (h : Held) → option_fault c again a v h ≡ [] → option_passes c again a v h ≡ true
option_takes c again a (Some v) h e = react_takes c again a (v ∷ []) h e
option_takes c again a None h e = settle_takes c again h e

long_takes : (c : List Rule) (again : Bool) (o : Option Rule) (v : Option Text) (h : Held) → long_fault c again o v h ≡ [] → long_passes c again o v h ≡ true
long_takes c again None v h e = cc
long_takes c again (Some a) v h e = go (takes_values a) e
  where
    go : (b : Bool) → cond b (option_fault c again a v h) (cond (is_some v) (TooManyValues ∷ []) (react_fault c again a [] h)) ≡ []
        → cond b (option_passes c again a v h) (not (is_some v) && react_passes c again a [] h) ≡ true
    go true e = option_takes c again a v h e
    go false e =
        let bare = unless (is_some v) _ _ _ e in
        joined _ _ (ap not bare.0) (react_takes c again a [] h bare.1)

short_takes : (c : List Rule) (again : Bool) (o : Option Rule) (rest : Text) (h : Held) (fails : Held → Kinds) (passes : Held → Bool) → ((g : Held) → fails g ≡ [] → passes g ≡ true)
    → short_fault c again o rest h fails ≡ [] → short_passes c again o rest h passes ≡ true
short_takes c again None rest h fails passes then_takes e = cc
short_takes c again (Some a) rest h fails passes then_takes e = go (takes_values a) e
  where
    go : (b : Bool) → cond b (option_fault c again a (attached_value rest) h) (or_else (react_fault c again a [] h) (fails (reacted c a [] h))) ≡ []
        → cond b (option_passes c again a (attached_value rest) h) (react_passes c again a [] h && passes (reacted c a [] h)) ≡ true
    go true e = option_takes c again a (attached_value rest) h e
    go false e =
        let each = parts (react_fault c again a [] h) (fails (reacted c a [] h)) e in
        joined _ _ (react_takes c again a [] h each.0) (then_takes (reacted c a [] h) each.1)

bundle_step_takes : (c : List Rule) (again : Bool) (o : Option ℕ) (flags : Text) (skip : ℕ) (h : Held) (fails : Text → ℕ → Held → Kinds) (passes : Text → ℕ → Held → Bool)
    → ((t : Text) (k : ℕ) (g : Held) → fails t k g ≡ [] → passes t k g ≡ true) → bundle_step_fault c again o flags skip h fails ≡ [] → bundle_step_passes c again o flags skip h passes ≡ true
bundle_step_takes c again None flags skip h fails passes then_takes e = refl
bundle_step_takes c again (Some x) flags zero h fails passes then_takes e =
    let rest = drop (length (encode_utf8 x)) flags in
    short_takes c again (arg_by_short c x) rest h (fails rest 0) (passes rest 0) (then_takes rest 0) e
bundle_step_takes c again (Some x) flags (suc skip) h fails passes then_takes e = then_takes (drop (length (encode_utf8 x)) flags) skip h e

flags_take : (c : List Rule) (again : Bool) (k : ℕ) (flags : Text) (skip : ℕ) (h : Held) → flags_fault c again k flags skip h ≡ [] → flags_pass c again k flags skip h ≡ true
unfolding flags_fault flags_pass
flags_take c again zero flags skip h e = refl
flags_take c again (suc k) flags skip h e =
    bundle_step_takes c again (slice_get (chars flags) 0) flags skip h (flags_fault c again k) (flags_pass c again k) (flags_take c again k) e

flag_word_takes : (c : List Rule) (again : Bool) (o : Option (Text × Option Text)) (word : Text) (h : Held) → flag_word_fault c again o word h ≡ [] → flag_word_passes c again o word h ≡ true
flag_word_takes c again (Some p) word h e = long_takes c again (arg_by_long c p.0) p.1 h e
flag_word_takes c again None word h e = go (short_of word) e
  where
    go : (o : Option Text) → option_map_or (λ flags. bundle_fault c again flags h) o [] ≡ [] → option_map_or (λ flags. bundle_passes c again flags h) o true ≡ true
    go None e = refl
    go (Some flags) e = flags_take c again (length flags) flags h.skip (record h { skip = 0 }) e

other_takes : (s : Shape) (o : Option Text) (word : Text) (h : Held) → other_fault s o word h ≡ [] → other_passes s o word h ≡ true
other_takes s (Some name) word h e =
    excused (bytes_eq name (codes "help")) s.disable_help_subcommand (unless (bytes_eq name (codes "help") && not s.disable_help_subcommand) _ _ _ e).0
other_takes s None word h e = go (bytes_eq word (45 ∷ 45 ∷ [])) e
  where
    go : (b : Bool) → cond b [] (flag_word_fault s.rules s.args_override_self (long_of word) word h) ≡ []
        → (b || flag_word_passes s.rules s.args_override_self (long_of word) word h) ≡ true
    go true e = refl
    go false e = flag_word_takes s.rules s.args_override_self (long_of word) word h e

word_takes : (s : Shape) (names : Names) (is_trailing : Bool) (waiting : Waiting) (word : Text) (h : Held) → word_fault s names is_trailing waiting word h ≡ []
    → word_passes s names is_trailing waiting word h ≡ true
word_takes s names true waiting word h e = refl
word_takes s names false waiting word h e = other_takes s (subcommand_met names waiting word) word h e

positional_takes : (c : List Rule) (again : Bool) (a : Rule) (h : Held) → positional_fault c again a h ≡ [] → positional_passes c again a h ≡ true
positional_takes c again a h e = go (is_pending a h.pending && takes_several a) e
  where
    go : (b : Bool) → cond b [] (settle_fault c again h) ≡ [] → (b || settle_passes c again h) ≡ true
    go true e = refl
    go false e = settle_takes c again h e

stray_fails : (s : Shape) → stray_fault s ≡ [] → ⊥
stray_fails s e = go s.is_leaf e
  where
    go : (b : Bool) → cond b (UnknownArgument ∷ []) (UnknownArgument ∷ InvalidSubcommand ∷ []) ≡ [] → ⊥
    go true e = cc
    go false e = cc

step_takes : (s : Shape) (position : ℕ) (h : Held) (step : Step) → step_fault s position h step ≡ [] → step_passes s position h step ≡ true
step_takes s position h (next waiting) e = refl
step_takes s position h (trailing k) e = refl
step_takes s position h (subcommand name) e = refl
step_takes s position h value e = go (arg_by_index s.rules position) e
  where
    go : (o : Option Rule) → option_map_or (λ a. positional_fault s.rules s.args_override_self a h) o (stray_fault s) ≡ []
        → option_map_or (λ a. positional_passes s.rules s.args_override_self a h) o false ≡ true
    go None e = absurd (stray_fails s e)
    go (Some a) e = positional_takes s.rules s.args_override_self a h e

turn_takes : (s : Shape) (names : Names) (w : Walk) (word : Text) → turn_fault s names w word ≡ [] → turn_passes s names w word ≡ true
turn_takes s names w word e = go (word_met s.rules names w.is_trailing w.waiting w.position word w.held) (is_some w.stopped) e
  where
    go : (met : Held × Step) (b : Bool) → cond b [] (or_else (word_fault s names w.is_trailing w.waiting word w.held) (step_fault s w.position met.0 met.1)) ≡ []
        → (b || (word_passes s names w.is_trailing w.waiting word w.held && step_passes s w.position met.0 met.1)) ≡ true
    go met true e = refl
    go met false e =
        let each = parts (word_fault s names w.is_trailing w.waiting word w.held) (step_fault s w.position met.0 met.1) e in
        joined _ _ (word_takes s names w.is_trailing w.waiting word w.held each.0) (step_takes s w.position met.0 met.1 each.1)

-- a walk in which no word fails passes
pub walk_takes : (s : Shape) (names : Names) (w : Walk) (words : List Text) → walk_fault s names w words ≡ [] → walk_passes s names w words ≡ true
unfolding walk_fault walk_passes
walk_takes s names w [] e = refl
walk_takes s names w (word ∷ rest) e =
    let each = parts (turn_fault s names w word) (walk_fault s names (walked s.rules names w word) rest) e in
    joined _ _ (turn_takes s names w word each.0) (walk_takes s names (walked s.rules names w word) rest each.1)

-- ---- after the walk

either_false : (a b : Bool) → (a || b) ≡ false → (a ≡ false) × (b ≡ false)
either_false true b e = cc
either_false false b e = (refl, e)

help_is_not_due : (a b given : Bool) → (not b && (a && not given)) ≡ false → (not a || (b || given)) ≡ true
help_is_not_due false b given e = refl
help_is_not_due true true given e = refl
help_is_not_due true false true e = refl
help_is_not_due true false false e = cc

has_what_is_due : (a b : Bool) → (not b && a) ≡ false → (not a || b) ≡ true
has_what_is_due true true e = refl
has_what_is_due true false e = cc
has_what_is_due false b e = refl

none_missing : (given : Rule → Bool) (rules : List Rule) → list_any (λ a. a.required && not (given a)) rules ≡ false → list_all (λ a. not a.required || given a) rules ≡ true
none_missing given [] e = refl
none_missing given (a ∷ rules) e =
    let each = either_false (a.required && not (given a)) _ e in
    joined _ _ (excused a.required (given a) each.0) (none_missing given rules each.1)

negated_or : (n missing given : Bool) → (not n && missing) ≡ false → (missing ≡ false → given ≡ true) → (n || given) ≡ true
negated_or true missing given e then_given = refl
negated_or false missing given e then_given = then_given e

valid_takes : (s : Shape) (rows : List Row) (b : Bool) → has_free_rules s ≡ true → check_fault s rows b ≡ [] → is_valid s rows b ≡ true
valid_takes s rows b free e =
    let given = list_any (λ r. explicit_source r.source) rows in
    let missing = list_any (λ a. a.required && not (is_given a.id rows)) s.rules in
    let help = unless (not b && (s.arg_required_else_help && not given)) _ _ _ e in
    let below = unless (not b && s.subcommand_required) _ _ _ help.1 in
    let needed = unless (not (s.subcommand_negates_reqs && b) && missing) _ _ _ below.1 in
    joined _ _ (help_is_not_due s.arg_required_else_help b given help.0)
    (joined _ _ (has_what_is_due s.subcommand_required b below.0)
    (joined _ _ free (negated_or (s.subcommand_negates_reqs && b) missing _ needed.0 (none_missing (λ a. is_given a.id rows) s.rules))))

-- a level at which nothing fails passes, and nothing fails below it
pub level_takes : (s : Shape) (names : Names) (h : Held) (words : List Text) (b : Bool) (below : Kinds) → list_all default_passes s.rules ≡ true → has_free_rules s ≡ true
    → level_fault s names h words b below ≡ [] → (below ≡ []) × (level_passes s names h words b ≡ true)
level_takes s names h words b below defaults free none =
    let end = (walk s.rules names h words).held in
    let walked = parts (walk_fault s names (walk_from h) words) _ none in
    let entered = parts below _ walked.1 in
    let settled_and = parts (settle_fault s.rules s.args_override_self end) _ entered.1 in
    let checked = parts (defaults_fault (settled s.rules end).rows s.rules) _ settled_and.1 in (
      entered.0,
      joined _ _ (walk_takes s names (walk_from h) words walked.0)
          (joined _ _ (settle_takes s.rules s.args_override_self end settled_and.0) (joined _ _ defaults (valid_takes s (finished s.rules end) b free checked.1))),
    )
