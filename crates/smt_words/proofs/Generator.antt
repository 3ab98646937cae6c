-- What a parse gives of `gen`: where nothing fails, both its numbers are there and passed their parsers.
use Rattle.std.proofs.Common.{◌≡◌, ◌≤◌, ℕ, Bool, cond, true, false, zero, suc, refl, ap, List, [], ◌∷◌, ◌++◌, length, drop, fold, find, Option, Some, None, is_some, option_map, unwrap_or, subst, arith, leb-true, slice_get, encode_utf8, chars}
use Rattle.std.specs.Prelude.{⊤}
use Rattle.std.specs.List.{list_all, slice_index_or}
use Rattle.std.specs.Option.{option_map_or, option_and_then}
use Rattle.std.specs.Str.{bytes_eq}
use Rattle.clap.specs.Lexer.{long_of, short_of}
use Rattle.clap.specs.Values.{read_as}
use Rattle.clap.specs.Facts.{explicit_source}
use Rattle.clap.specs.Walk.{bundle, has_long, has_row, long_or_other, option_word, settled_rows, short_or_plain, subcommand_or_other, walked_from, Held, Outcome, Row, Rule, Step, Text, Waiting, Walk, after_flag, after_step, arg_by_id, arg_by_long, bundle_met, bundle_step, long_met, more_values, nothing_held, one_of, option_met, plain_word, reacted, reading_by, row_text, rows_after, settled, used, used_by_id, walk, walk_from, walked, with_default, with_values, without, word_met, next, trailing, subcommand, value, idle, option, positional, done, waits, plain, refused}
use Rattle.clap.specs.Kinds.{or_else, range_kinds}
use Rattle.clap.specs.Simple.{Shape, argument_words, built, names_of, entered, label_of, new_rule, rows_at, subcommand_of}
use Rattle.clap.specs.Takes.{entered_passes, default_passes, is_given, is_valid, level_passes, settle_passes, value_passes, walk_passes}
use Rattle.clap.specs.Faults.{entered_fault, fault_of, other_fault, repeat_fault, level_fault, long_fault, option_fault, react_fault, settle_fault, turn_fault, use_fault, walk_fault, word_fault, flag_word_fault, step_fault}
use Rattle.clap.specs.Walk.{answers_to}
use Rattle.clap.specs.declared.parser.matches.ValueSource.TheVariants.{CommandLine}
use Rattle.clap.proofs.WalkLemmas.{both}
use Rattle.smt_words.specs.Words.{generator, program}
use Rattle.smt_words.proofs.FaultsTake.{level_takes, parts, range_takes, value_takes}

-- the subcommand as it is built, and its two options
abbrev pub shape : Shape
shape = slice_index_or (built program).subs 0 generator.top

abbrev pub needed_rule : Bool → Rule
needed_rule true = slice_index_or shape.rules 0 (new_rule [])
needed_rule false = slice_index_or shape.rules 1 (new_rule [])

pub entered_takes : (stop : Option (Text × List Text)) → entered_fault (built program) stop ≡ [] → entered_passes (built program) stop ≡ true
entered_takes None none = refl
entered_takes (Some p) none = go (answers_to p.0 (label_of shape)) none
  where
    go : (b : Bool) → option_map_or (λ s. level_fault s [] nothing_held p.1 false []) (cond b (Some shape) None) [] ≡ []
        → option_map_or (λ s. level_passes s [] nothing_held p.1 false) (cond b (Some shape) None) true ≡ true
    go false none = refl
    go true none = (level_takes shape [] nothing_held p.1 false [] refl refl none).1

-- ---- rows

-- the first value of the row of this option passed its parser
pub record Passed (w : Bool) (r : Row) : Type 0 where
  pub first : Text
  pub rest : List Text
  pub values : r.values ≡ first ∷ rest
  pub reading : r.reading ≡ reading_by (needed_rule w)
  pub passes : value_passes (needed_rule w) first ≡ true

abbrev Good : Row → Type 0
Good r = (w : Bool) → bytes_eq r.id (needed_rule w).id ≡ true → Passed w r

abbrev AllGood : List Row → Type 0
AllGood [] = ⊤
AllGood (r ∷ rs) = Good r × AllGood rs

without_good : (id : Text) (rows : List Row) → AllGood rows → AllGood (without id rows)
without_good id [] g = g
without_good id (r ∷ rs) g = go (bytes_eq r.id id) (without_good id rs g.1)
  where
    go : (b : Bool) → AllGood (without id rs) → AllGood (cond b rs (r ∷ without id rs))
    go true rest = g.1
    go false rest = (g.0, rest)

abbrev fresh : Bool → Text → Row
fresh w v = record { id = (needed_rule w).id; values = v ∷ []; count = None; source = Some CommandLine; reading = reading_by (needed_rule w) }

fresh_good : (w : Bool) (v : Text) → value_passes (needed_rule w) v ≡ true → Good (fresh w v)
fresh_good true v passes true same = record { first = v; rest = []; values = refl; reading = refl; passes = passes }
fresh_good true v passes false same = cc
fresh_good false v passes true same = cc
fresh_good false v passes false same = record { first = v; rest = []; values = refl; reading = refl; passes = passes }

more_good : (v : Text) (r : Row) → Good r → AllGood (more_values CommandLine (v ∷ []) r)
more_good v r g = (
  (λ u same.
      let p = g u same in
      record {
        first = p.first;
        rest = p.rest ++ v ∷ [];
        values = ap (λ (vs : List Text). vs ++ v ∷ []) p.values;
        reading = p.reading;
        passes = p.passes;
      }),
  tt,
)

with_good : (w : Bool) (v : Text) → value_passes (needed_rule w) v ≡ true → (rows : List Row) → AllGood rows → AllGood (with_values (needed_rule w).id (reading_by (needed_rule w)) CommandLine (v ∷ []) rows)
with_good w v passes [] g = (fresh_good w v passes, tt)
with_good w v passes (r ∷ rs) g = go (bytes_eq r.id (needed_rule w).id) (with_good w v passes rs g.1)
  where
    go : (b : Bool) → AllGood (with_values (needed_rule w).id (reading_by (needed_rule w)) CommandLine (v ∷ []) rs)
        → AllGood (cond b (more_values CommandLine (v ∷ []) r ++ rs) (r ∷ with_values (needed_rule w).id (reading_by (needed_rule w)) CommandLine (v ∷ []) rs))
    go true rest = ((more_good v r g.0).0, g.1)
    go false rest = (g.0, rest)

-- ---- one use

too_many : (again : Bool) (w : Bool) (n : ℕ) → range_kinds 1 1 (suc (suc n)) ≡ [] → ⊥
too_many again w n none =
    let most : suc (suc n) ≤ 1 = leb-true _ _ (range_takes 1 1 (suc (suc n)) none).1 in
    omega arith

used_good : (w again : Bool) (vs : List Text) (rows : List Row) → AllGood rows → use_fault again (needed_rule w) vs rows ≡ [] → AllGood (used (needed_rule w) vs rows)
used_good true again [] rows g none = cc
used_good true again (v ∷ []) rows g none =
    let values = parts (repeat_fault again (needed_rule true).id rows) _ none in
    with_good true v (value_takes (needed_rule true) v (parts _ _ values.1).0) (without (needed_rule true).id rows) (without_good (needed_rule true).id rows g)
used_good true again (v ∷ x ∷ vs) rows g none = absurd (too_many again true (length vs) (parts (range_kinds 1 1 (suc (suc (length vs)))) _ none).0)
used_good false again [] rows g none = cc
used_good false again (v ∷ []) rows g none =
    let values = parts (repeat_fault again (needed_rule false).id rows) _ none in
    with_good false v (value_takes (needed_rule false) v (parts _ _ values.1).0) (without (needed_rule false).id rows) (without_good (needed_rule false).id rows g)
used_good false again (v ∷ x ∷ vs) rows g none = absurd (too_many again false (length vs) (parts (range_kinds 1 1 (suc (suc (length vs)))) _ none).0)

settle_good : (again : Bool) (h : Held) → AllGood h.rows → settle_fault shape.rules again h ≡ [] → AllGood (settled shape.rules h).rows
settle_good again h g none = go h.pending none
  where
    by_rule : (vs : List Text) (b c : Bool) → option_map_or (λ a. use_fault again a vs h.rows) (cond b (Some (needed_rule true)) (cond c (Some (needed_rule false)) None)) [] ≡ []
        → AllGood (used_by_id (cond b (Some (needed_rule true)) (cond c (Some (needed_rule false)) None)) vs h.rows)
    by_rule vs true c e = used_good true again vs h.rows g e
    by_rule vs false true e = used_good false again vs h.rows g e
    by_rule vs false false e = g

    go : (o : Option (Text × List Text)) → option_map_or (λ (p : Text × List Text). option_map_or (λ a. use_fault again a p.1 h.rows) (arg_by_id shape.rules p.0) []) o [] ≡ []
        → AllGood (settled_rows shape.rules o h.rows)
    go None e = g
    go (Some p) e = by_rule p.1 (bytes_eq (needed_rule true).id p.0) (bytes_eq (needed_rule false).id p.0) e

react_good : (w again : Bool) (vs : List Text) (h : Held) → AllGood h.rows → react_fault shape.rules again (needed_rule w) vs h ≡ [] → AllGood (reacted shape.rules (needed_rule w) vs h).rows
react_good w again vs h g none =
    let each = parts (settle_fault shape.rules again h) (use_fault again (needed_rule w) vs (settled shape.rules h).rows) none in
    used_good w again vs (settled shape.rules h).rows (settle_good again h g each.0) each.1

option_good : (w again : Bool) (v : Option Text) (h : Held) → AllGood h.rows → option_fault shape.rules again (needed_rule w) v h ≡ [] → AllGood (option_met shape.rules (needed_rule w) v h).0.rows
option_good w again (Some v) h g none = react_good w again (v ∷ []) h g none
option_good w again None h g none = settle_good again h g none

-- ---- a word

long_good : (again : Bool) (name : Text) (v : Option Text) (h : Held) → AllGood h.rows → long_fault shape.rules again (arg_by_long shape.rules name) v h ≡ []
    → AllGood (long_met shape.rules (arg_by_long shape.rules name) v h).0.rows
long_good again name v h g none = go (has_long (needed_rule true) name) (has_long (needed_rule false) name) none
  where
    go : (b c : Bool) → long_fault shape.rules again (cond b (Some (needed_rule true)) (cond c (Some (needed_rule false)) None)) v h ≡ []
        → AllGood (long_met shape.rules (cond b (Some (needed_rule true)) (cond c (Some (needed_rule false)) None)) v h).0.rows
    go true c e = option_good true again v h g e
    go false true e = option_good false again v h g e
    go false false e = g

bundle_good : (k : ℕ) (flags : Text) (skip : ℕ) (so_far : Outcome) (h : Held) → AllGood h.rows → AllGood (bundle_met shape.rules k flags skip so_far h).0.rows
unfolding bundle_met
bundle_good zero flags skip so_far h g = g
bundle_good (suc k) flags skip so_far h g = step (slice_get (chars flags) 0) skip (λ rest n. bundle_good k rest n so_far h g)
  where
    step : (o : Option ℕ) (n : ℕ) → ((rest : Text) (m : ℕ) → AllGood (bundle_met shape.rules k rest m so_far h).0.rows) → AllGood (bundle_step shape.rules o flags n so_far h (bundle_met shape.rules k)).0.rows
    step None n later = g
    step (Some x) zero later = g
    step (Some x) (suc n) later = later (drop (length (encode_utf8 x)) flags) n

plain_good : (waiting : Waiting) (word : Text) (h : Held) → AllGood h.rows → AllGood (plain_word shape.rules waiting word h).0.rows
plain_good idle word h g = g
plain_good positional word h g = g
plain_good (option id) word h g = go (arg_by_id shape.rules id)
  where
    go : (o : Option Rule) → AllGood (option_word o id word h).0.rows
    go None = g
    go (Some a) = g

after_good : (waiting : Waiting) (word : Text) (h : Held) (met : Outcome) → AllGood h.rows → AllGood (after_flag shape.rules waiting word h met).0.rows
after_good waiting word h done g = g
after_good waiting word h (waits id) g = g
after_good waiting word h plain g = plain_good waiting word h g
after_good waiting word h refused g = plain_good waiting word h g

flag_good : (waiting : Waiting) (word : Text) (h : Held) (o : Option (Text × Option Text)) → AllGood h.rows → flag_word_fault shape.rules shape.args_override_self o word h ≡ []
    → AllGood (long_or_other shape.rules waiting word o h).0.rows
flag_good waiting word h (Some p) g none =
    let met = long_met shape.rules (arg_by_long shape.rules p.0) p.1 h in
    after_good waiting word met.0 met.1 (long_good shape.args_override_self p.0 p.1 h g none)
flag_good waiting word h None g none = go (short_of word)
  where
    go : (o : Option Text) → AllGood (short_or_plain shape.rules waiting word o h).0.rows
    go None = plain_good waiting word h g
    go (Some flags) =
        let met = bundle shape.rules flags h in
        after_good waiting word met.0 met.1 (bundle_good (length flags) flags h.skip plain (record h { skip = 0 }) g)

other_good : (waiting : Waiting) (position : ℕ) (word : Text) (h : Held) → AllGood h.rows → other_fault shape None word h ≡ []
    → AllGood (subcommand_or_other shape.rules None waiting position word h).0.rows
other_good waiting position word h g none = go (bytes_eq word (45 ∷ 45 ∷ [])) none
  where
    go : (b : Bool) → cond b [] (flag_word_fault shape.rules shape.args_override_self (long_of word) word h) ≡ []
        → AllGood (cond b (h, trailing position) (long_or_other shape.rules waiting word (long_of word) h)).0.rows
    go true e = g
    go false e = flag_good waiting word h (long_of word) g e

word_good : (is_trailing : Bool) (waiting : Waiting) (position : ℕ) (word : Text) (h : Held) → AllGood h.rows → word_fault shape [] is_trailing waiting word h ≡ []
    → AllGood (word_met shape.rules [] is_trailing waiting position word h).0.rows
word_good true waiting position word h g none = g
word_good false idle position word h g none = other_good idle position word h g none
word_good false positional position word h g none = other_good positional position word h g none
word_good false (option id) position word h g none = other_good (option id) position word h g none

step_good : (word : Text) (w : Walk) (h : Held) (step : Step) → AllGood h.rows → AllGood (after_step shape.rules word w h step).held.rows
step_good word w h (next waiting) g = g
step_good word w h (trailing position) g = g
step_good word w h (subcommand name) g = g
step_good word w h value g = g

turn_good : (w : Walk) (word : Text) → AllGood w.held.rows → turn_fault shape [] w word ≡ [] → AllGood (walked shape.rules [] w word).held.rows
unfolding walked
turn_good w word g none = go w.stopped none
  where
    go : (o : Option (Text × List Text))
        → cond (is_some o) [] (or_else (word_fault shape [] w.is_trailing w.waiting word w.held)
        (step_fault shape w.position (word_met shape.rules [] w.is_trailing w.waiting w.position word w.held).0 (word_met shape.rules [] w.is_trailing w.waiting w.position word w.held).1)) ≡ []
        → AllGood (walked_from shape.rules [] o w word).held.rows
    go (Some p) e = g
    go None e =
        let met = word_met shape.rules [] w.is_trailing w.waiting w.position word w.held in
        step_good word w met.0 met.1 (word_good w.is_trailing w.waiting w.position word w.held g (parts (word_fault shape [] w.is_trailing w.waiting word w.held) _ e).0)

walk_good : (words : List Text) (w : Walk) → AllGood w.held.rows → walk_fault shape [] w words ≡ [] → AllGood (fold (walked shape.rules []) w words).held.rows
unfolding walk_fault
walk_good [] w g none = g
walk_good (word ∷ words) w g none =
    let each = parts (turn_fault shape [] w word) (walk_fault shape [] (walked shape.rules [] w word) words) none in
    walk_good words (walked shape.rules [] w word) (turn_good w word g each.0) each.1

default_good : (w : Bool) (rows : List Row) → AllGood rows → AllGood (with_default rows (needed_rule w))
default_good true rows g = go (has_row (needed_rule true).id rows)
  where
    go : (b : Bool) → AllGood (cond b rows rows)
    go true = g
    go false = g
default_good false rows g = go (has_row (needed_rule false).id rows)
  where
    go : (b : Bool) → AllGood (cond b rows rows)
    go true = g
    go false = g

-- ---- what is given

-- what is read of an option of `gen`: a text that passed its parser
abbrev pub Given : Bool → List Row → Type 0
Given w rows = (text : Text) × (one_of (needed_rule w).id rows ≡ Some (read_as (reading_by (needed_rule w)) text)) × (value_passes (needed_rule w) text ≡ true)

found_good : (w : Bool) (rows : List Row) → AllGood rows → is_given (needed_rule w).id rows ≡ true → Given w rows
found_good w [] g given = cc
found_good w (r ∷ rs) g given = go (bytes_eq r.id (needed_rule w).id) refl given (found_good w rs g.1)
  where
    go : (b : Bool) → bytes_eq r.id (needed_rule w).id ≡ b → option_map_or (λ (x : Row). explicit_source x.source) (cond b (Some r) (find (λ (x : Row). bytes_eq x.id (needed_rule w).id) rs)) false ≡ true
        → (is_given (needed_rule w).id rs ≡ true → Given w rs)
        → (text : Text) × (option_and_then row_text (cond b (Some r) (find (λ (x : Row). bytes_eq x.id (needed_rule w).id) rs)) ≡ Some (read_as (reading_by (needed_rule w)) text)) × (value_passes (needed_rule w) text ≡ true)
    go true same e later =
        let p = g.0 w same in
        (p.first, rw (p.values, p.reading) refl, p.passes)
    go false same e later = later e

level_given : (words : List Text) → level_fault shape [] nothing_held words false [] ≡ [] → (w : Bool) → Given w (rows_after shape.rules [] words)
level_given words none w =
    let end = (walk shape.rules [] nothing_held words).held in
    let walked_and = parts (walk_fault shape [] (walk_from nothing_held) words) _ none in
    let settled_and = parts (settle_fault shape.rules shape.args_override_self end) _ walked_and.1 in
    let good = settle_good shape.args_override_self end (walk_good words (walk_from nothing_held) tt walked_and.0) settled_and.0 in
    let rows_good = default_good false _ (default_good true (settled shape.rules end).rows good) in
    let passes = (level_takes shape [] nothing_held words false [] refl refl none).1 in
    let valid : is_valid shape (rows_after shape.rules [] words) false ≡ true = (both (list_all default_passes shape.rules) _
    (both (settle_passes shape.rules shape.args_override_self end) _ (both (walk_passes shape [] (walk_from nothing_held) words) _ passes).1).1).1 in
    found_good w (rows_after shape.rules [] words) rows_good (each w valid)
  where
    each : (u : Bool) → is_valid shape (rows_after shape.rules [] words) false ≡ true → is_given (needed_rule u).id (rows_after shape.rules [] words) ≡ true
    each true valid = (both _ _ valid).0
    each false valid = (both _ _ (both _ _ valid).1).0

-- where nothing fails, each of both numbers is given
pub given : (words : List Text) (rows : List Row) → fault_of program words ≡ [] → option_map (λ (p : Text × List Row). p.1) (subcommand_of program words) ≡ Some rows → (w : Bool) → Given w rows
given words rows none is w =
    let a = built program in
    let stop = (walk a.top.rules (names_of a) nothing_held (argument_words program words)).stopped in
    go stop (level_takes a.top (names_of a) nothing_held (argument_words program words) (is_some (entered a stop)) (entered_fault a stop) refl refl none).0 is
  where
    at_shape : (p : Text × List Text) (b : Bool) → option_map_or (λ s. level_fault s [] nothing_held p.1 false []) (cond b (Some shape) None) [] ≡ []
        → option_map (λ (q : Text × List Row). q.1) (option_map (λ s. rows_at s p.1) (cond b (Some shape) None)) ≡ Some rows → Given w rows
    at_shape p false below same = cc
    at_shape p true below same =
        let here : rows_after shape.rules [] p.1 ≡ rows = ap (λ o. unwrap_or o []) same in
        subst (λ rs. Given w rs) here (level_given p.1 below w)

    go : (stop : Option (Text × List Text)) → entered_fault (built program) stop ≡ [] → option_map (λ (q : Text × List Row). q.1) (entered (built program) stop) ≡ Some rows → Given w rows
    go None below same = cc
    go (Some p) below same = at_shape p (answers_to p.0 (label_of shape)) below same
