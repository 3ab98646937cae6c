-- What a parse of the program gives of its options.
use Rattle.std.proofs.Common.{cond, unwrap_or, IsSome, ◌^◌, ◌≡◌, ◌∙◌, ◌<◌, ◌≤◌, ℕ, Bool, zero, suc, true, false, refl, sym, ap, ap₂, subst, inl, inr, codes, List, [], ◌∷◌, map, length, Option, Some, None, is_some, option_map, find, arith, Result, Ok, Err, IfErr, IsErrAnd, pos, true≢false}
use Rattle.std.specs.List.{All, list_all, slice_index_or}
use Rattle.std.specs.Str.{bytes_eq}
use Rattle.std.specs.Borrow.{Bor}
use Rattle.std.proofs.lemmas.Slice.Eq.{bytes_eq-Decides}
use Rattle.std.specs.Str.Parse.{ExplainsUnsignedError, HasUnsignedDigitsIfOk, ParsesUnsigned, digits_value, without_leading_plus}
use Rattle.std.specs.declared.num.ParseIntError.{ParseIntError}
use Rattle.clap.specs.Lexer.{without_minus}
use Rattle.clap.specs.Texts.{items_of}
use Rattle.clap.specs.Values.{Accepts, read_as, reading_of}
use Rattle.clap.specs.Matches.{ReadsOne, found_of, matched_of, one_text}
use Rattle.clap.specs.Facts.{Entry, EntryPasses, WantsDefault, args_of, least_values, unwrap_or_range, groups_of, parser_of, parser_of_value}
use Rattle.clap.specs.Built.{IsAuto, IsParsedFrom, SameRules}
use Rattle.clap.specs.Walk.{Row, Rule, Text, one_of, rows_of, rule_of, texts, nothing_held, walk}
use Rattle.smt_words.specs.declared.Generated.{Generated}
use Rattle.clap.specs.Simple.{HasMatchesOf, subcommand_rows_of, App, IsSimple, is_ready, is_ready_leaf, app_of, argument_words, built, entered, is_simple, names_of, subcommand_of}
use Rattle.clap.specs.Faults.{entered_fault, fault_of, is_simple_and_free}
use Rattle.clap.specs.declared.builder.action.ArgAction.TheVariants.{Set, Count}
use Rattle.clap.specs.declared.error.kind.ErrorKind.{ErrorKind}
use Rattle.clap.specs.declared.error.kind.ErrorKind.TheVariants.{OutOfMemory}
use Rattle.smt_words.specs.Causes.{IsCause, cause_of}
use Rattle.smt_words.specs.declared.error.WordsError.{WordsError}
use Rattle.smt_words.specs.declared.error.WordsError.TheVariants.{Refused, Memory}
use Rattle.clap.specs.declared.builder.arg.Arg.{Arg}
use Rattle.clap.specs.declared.builder.command.Command.{Command}
use Rattle.clap.specs.declared.builder.value_parser.ValueParser.{ValueParser}
use Rattle.clap.specs.declared.builder.value_parser.ValueParser.TheVariants as vp
use Rattle.clap.specs.declared.parser.matches.ArgMatches.{ArgMatches}
use Rattle.clap.specs.declared.parser.matches.MatchedArg.{MatchedArg}
use Rattle.clap.specs.declared.parser.matches.Found.{Found}
use Rattle.clap.specs.declared.builder.value_parser.Reading.{Reading}
use Rattle.clap.proofs.CallerLemmas.{default_present, entry_by_id, same_rules_by_id}
use Rattle.clap.proofs.TakesLemmas.{each_rule}
use Rattle.clap.proofs.ValueTestLemmas.{accepts-Accepts}
use Rattle.clap.proofs.SimpleLemmas.{is_nil, ready_simple}
use Rattle.clap.proofs.WalkLemmas.{both, one_text-rows}
use Rattle.smt_words.specs.Words.{are_taken, natural, number_in, option, program}
use Rattle.smt_words.proofs.Numbers.{Reads, from_signed, from_unsigned}
use Rattle.smt_words.proofs.FaultsTake.{joined, level_takes}
use Rattle.smt_words.proofs.Generator.{Given, entered_takes, given, needed_rule}

-- where nothing fails, the words are taken
pub taken_without_fault : (words : List Text) → fault_of program words ≡ [] → are_taken words ≡ true
taken_without_fault words none =
    let a = built program in
    let rest = argument_words program words in
    let stop = (walk a.top.rules (names_of a) nothing_held rest).stopped in
    let level = level_takes a.top (names_of a) nothing_held rest (is_some (entered a stop)) (entered_fault a stop) refl refl none in
    joined (is_simple program) _ refl (joined _ _ (entered_takes stop level.0) level.1)

-- ---- the arguments of a command by their rules

some_arg : (xs : List Arg) (r : Rule) (rest : List Rule) → map rule_of xs ≡ r ∷ rest → Arg
some_arg [] r rest e = cc
some_arg (x ∷ xs) r rest e = x

rule_at : (xs : List Arg) (j : ℕ) (d : Arg) → rule_of (slice_index_or xs j d) ≡ slice_index_or (map rule_of xs) j (rule_of d)
rule_at [] j d = refl
rule_at (x ∷ xs) zero d = refl
rule_at (x ∷ xs) (suc j) d = rule_at xs j d

length-rules : (xs : List Arg) → length (map rule_of xs) ≡ length xs
length-rules [] = refl
length-rules (x ∷ xs) = ap suc (length-rules xs)

some_text : (vs : List (Bor Text)) (t : Text) → texts vs ≡ t ∷ [] → 0 < length vs
some_text [] t e = cc
some_text (v ∷ vs) t e = omega arith

-- no two options have one id
apart : (j k : ℕ) (r : Rule) → j < 4 → k < 4 → bytes_eq (slice_index_or program.top.rules j r).id (slice_index_or program.top.rules k r).id ≡ true → j ≡ k
apart zero zero r below fits e = refl
apart zero (suc zero) r below fits e = cc
apart zero (suc (suc zero)) r below fits e = cc
apart zero (suc (suc (suc zero))) r below fits e = cc
apart (suc zero) zero r below fits e = cc
apart (suc zero) (suc zero) r below fits e = refl
apart (suc zero) (suc (suc zero)) r below fits e = cc
apart (suc zero) (suc (suc (suc zero))) r below fits e = cc
apart (suc (suc zero)) zero r below fits e = cc
apart (suc (suc zero)) (suc zero) r below fits e = cc
apart (suc (suc zero)) (suc (suc zero)) r below fits e = refl
apart (suc (suc zero)) (suc (suc (suc zero))) r below fits e = cc
apart (suc (suc (suc zero))) zero r below fits e = cc
apart (suc (suc (suc zero))) (suc zero) r below fits e = cc
apart (suc (suc (suc zero))) (suc (suc zero)) r below fits e = cc
apart (suc (suc (suc zero))) (suc (suc (suc zero))) r below fits e = refl
apart j (suc (suc (suc (suc k)))) r below fits e = absurd (omega arith)
apart (suc (suc (suc (suc j)))) k r below fits e = absurd (omega arith)

differs : (a b : Text) → bytes_eq a b ≡ false → a ≡ b → ⊥
differs a b apart same = true≢false (sym ((bytes_eq-Decides a b).1 same) ∙ apart)

-- an entry of an id is found
found_at : (xs : List Entry) (id : Text) (i : ℕ) → i < length xs → ((d : Entry) → bytes_eq (slice_index_or xs i d).0.now id ≡ true)
    → is_some (option_map (λ e. e.1) (find (λ e. bytes_eq e.0.now id) xs)) ≡ true
found_at [] id i lt at = absurd (omega arith)
found_at (x ∷ xs) id zero lt at =
    let here : bytes_eq x.0.now id ≡ true = at x in
    rw here refl
found_at (x ∷ xs) id (suc i) lt at = go (bytes_eq x.0.now id) (found_at xs id i (omega arith) at)
  where
    go : (b : Bool) → is_some (option_map (λ e. e.1) (find (λ e. bytes_eq e.0.now id) xs)) ≡ true
        → is_some (option_map (λ e. e.1) (cond b (Some x) (find (λ e. bytes_eq e.0.now id) xs))) ≡ true
    go true e = refl
    go false e = e

-- the text that is read of an entry which has one
first_read : (f : Found) (id : Text) (x : MatchedArg) (how : Reading) (Q : Text → Type 0) → matched_of f id ≡ Some x → x.reading ≡ how
    → 0 < length x.vals.items → All (λ v. Q v.now) x.vals.items → (t : Text) × (one_text f id ≡ Some (read_as how t)) × Q t
first_read f id x how Q found is lt all = go x.vals.items refl lt all
  where
    go : (vs : List (Bor Text)) → x.vals.items ≡ vs → 0 < length vs → All (λ v. Q v.now) vs → (t : Text) × (one_text f id ≡ Some (read_as how t)) × Q t
    go [] e lt all = absurd (omega arith)
    go (v ∷ vs) e lt all = (v.now, rw (found, is, e) refl, all 0 v (omega arith))

-- what is read of an option: a text that passed its parser
abbrev pub HasText : ArgMatches → Text → ValueParser → Type 0
HasText m name q = (t : Text) × (one_text (found_of m) name ≡ Some (read_as (reading_of q) t)) × Accepts false q t

module _ (c : Command) (m : ArgMatches) (is : app_of c ≡ program) (p : IsParsedFrom c m) where
  rules_are : map rule_of (args_of c) ≡ program.top.rules
  rules_are = ap (λ (a : App). a.top.rules) is

  simple : IsSimple c
  simple = ready_simple c (ap (λ (a : App). is_ready a.top) is) (ap (λ (a : App). list_all is_ready_leaf a.subs) is)

  count : length (args_of c) ≡ 4
  count = sym (length-rules (args_of c)) ∙ ap length rules_are

  rule_here : (j : ℕ) (d : Arg) → rule_of (slice_index_or (args_of c) j d) ≡ slice_index_or program.top.rules j (rule_of d)
  rule_here j d = rule_at (args_of c) j d ∙ ap (λ rs. slice_index_or rs j (rule_of d)) rules_are

  no_groups : groups_of p.built ≡ []
  no_groups = (p.from.same_groups (λ j d lt.
      let each = each_rule (λ a. a.is_simple) (args_of c) (ap (list_all (λ (a : Rule). a.is_simple)) rules_are) j d lt in
      is_nil _ (both _ _ (both _ _ (both _ _ each).1).1).0)).1
      ∙ simple.groups

  module _ (k : ℕ) (name default : Text) (q : ValueParser) (d : Arg) (fits : k < 4) (at : (r : Rule) → slice_index_or program.top.rules k r ≡ option name default q)
      (named : bytes_eq name [] ≡ false) (not_help : bytes_eq name (codes "help") ≡ false) (not_version : bytes_eq name (codes "version") ≡ false) where
    abbrev the_arg : Arg
    the_arg = slice_index_or (args_of c) k d

    rule : rule_of the_arg ≡ option name default q
    rule = rule_here k d ∙ at (rule_of d)

    lt : k < length (args_of c)
    lt = subst (λ n. k < n) (sym count) fits

    id : the_arg.id.now ≡ name
    id = ap (λ (r : Rule). r.id) rule

    unique : (j : ℕ) (e : Arg) → j < length (args_of c) → bytes_eq (slice_index_or (args_of c) j e).id.now the_arg.id.now ≡ true → j ≡ k
    unique j e low same =
        let below : j < 4 = subst (λ n. j < n) count low in
        let left : (slice_index_or (args_of c) j e).id.now ≡ (slice_index_or program.top.rules j (rule_of e)).id = ap (λ (r : Rule). r.id) (rule_here j e) in
        let right : the_arg.id.now ≡ (slice_index_or program.top.rules k (rule_of e)).id = id ∙ sym (ap (λ (r : Rule). r.id) (at (rule_of e))) in
        apart j k (rule_of e) below fits (rw (← left, ← right) same)

    own : IsAuto the_arg → ⊥
    own auto = elim auto [ inl h ↦ differs name (codes "help") not_help (sym id ∙ h) | inr h ↦ differs name (codes "version") not_version (sym id ∙ h) ]

    same_rules : (j : ℕ) (x : Arg) → j < length (args_of p.built) → slice_index_or (args_of p.built) j x ≡ x → bytes_eq x.id.now name ≡ true → SameRules the_arg x
    same_rules j x high here same = same_rules_by_id c m p k d lt unique own j x high here (rw id same)

    set : the_arg.action ≡ Some Set
    set = ap (λ (r : Rule). r.action) rule

    least : 1 ≤ least_values the_arg
    least =
        let one : least_values the_arg ≡ 1 = ap (λ (r : Rule). (unwrap_or_range r.range).start_inclusive) rule in
        omega arith

    present : is_some (matched_of (found_of m) name) ≡ true
    present =
        let wants : WantsDefault the_arg = ((simple.args k d lt).default_ifs, some_text (items_of the_arg.default_vals) default (ap (λ (r : Rule). r.defaults) rule)) in
        let has = default_present c m p simple.globals k d lt wants in
        rw (← id) (found_at (found_of m).entries.items the_arg.id.now has.0 has.1 has.2)

    passes : (y : Arg) (v : Text) → SameRules the_arg y → Accepts y.ignore_case (parser_of y) v → Accepts false q v
    passes y v s accepted =
        let parser : parser_of y ≡ q = ap parser_of_value (s.parser q (ap (λ (r : Rule). r.parser) rule)) in
        let case : y.ignore_case ≡ false = s.ignore_case ∙ ap (λ (r : Rule). r.ignore_case) rule in
        subst (λ (b : Bool). Accepts b q v) case (subst (λ (w : ValueParser). Accepts y.ignore_case w v) parser accepted)

    read_as_told : (y : Arg) (how : Reading) → SameRules the_arg y → reading_of (parser_of y) ≡ how → how ≡ reading_of q
    read_as_told y how s told = sym told ∙ ap reading_of (ap parser_of_value (s.parser q (ap (λ (r : Rule). r.parser) rule)))

    no_group : (e : Entry) → e.0.now ≡ name → EntryPasses p.built e → e.1.is_group ≡ true → ⊥
    no_group e key pass g = elim (pass.3 g) [
      | inl empty ↦ differs name [] named (sym key ∙ empty)
      | inr lots ↦
          let bad : 0 < 0 = rw no_groups at lots in
          absurd (omega arith)
    ]

    has_value : (e : Entry) → e.0.now ≡ name → EntryPasses p.built e → 0 < length e.1.vals.items
    has_value e key pass = elim pass.1 [
      | inl group ↦ absurd (no_group e key pass group.0)
      | inr (inl some) ↦ some
      | inr (inr (inl counts)) ↦
          let any = counts.1 in
          let s = same_rules any.0 any.1 any.2 any.3 (rw key at any.4.0) in
          let is_set : any.1.action ≡ Some Set = s.action Set set in
          let bad : Set ≡ Count = rw is_set at any.4.1 in
          cc
      | inr (inr (inr any)) ↦
          let s = same_rules any.0 any.1 any.2 any.3 (rw key at any.4.0) in
          elim any.4.1 [
            | inl none ↦
                let one = s.least set least in
                absurd (omega arith)
            | inr has ↦
                let delimiter : the_arg.val_delim ≡ None = (simple.args k d lt).delimiter in
                let bad : false ≡ true = rw (s.val_delim, delimiter) at has in
                cc
          ]
    ]

    entry_has_text : (x : MatchedArg) (e : Entry) → matched_of (found_of m) name ≡ Some x → e.1 ≡ x → e.0.now ≡ name → EntryPasses p.built e → HasText m name q
    entry_has_text x e found same key pass =
        let how : e.1.reading ≡ reading_of q = elim pass.4 [
          | inl g ↦ absurd (no_group e key pass g)
          | inr any ↦ read_as_told any.1 e.1.reading (same_rules any.0 any.1 any.2 any.3 (rw key at any.4.0)) any.4.1
        ] in
        let all : All (λ v. Accepts false q v.now) e.1.vals.items = elim pass.0 [
          | inl g ↦ absurd (no_group e key pass g)
          | inr vals ↦ (λ j v low.
              let any = vals j v low in
              passes any.1 _ (same_rules any.0 any.1 any.2 any.3 (rw key at any.4.0)) any.4.1)
        ] in
        first_read (found_of m) name e.1 (reading_of q) (λ t. Accepts false q t) (found ∙ ap Some (sym same)) how (has_value e key pass) all

    pub has_text : HasText m name q
    has_text = go (matched_of (found_of m) name) refl present
      where
        go : (o : Option MatchedArg) → matched_of (found_of m) name ≡ o → is_some (matched_of (found_of m) name) ≡ true → HasText m name q
        go None e some =
            let bad : false ≡ true = rw e at some in
            cc
        go (Some x) e some =
            let parsed = p.parsed (p.from.globals ∙ simple.globals) in
            let got = entry_by_id (EntryPasses p.built) (found_of m).entries.items name x parsed.values e in
            entry_has_text x got.0 e got.1 ((bytes_eq-Decides got.0.0.now name).0 got.2) got.3

-- the number that a getter read of an option, within these bounds
pub record IsNumber (m : ArgMatches) (name : Text) (low high : ℕ) (r : Option ℕ) : Type 0 where
  pub number : ℕ
  pub is : r ≡ Some number
  pub value : number ≡ number_in (rows_of (found_of m)) name
  pub least : low ≤ number
  pub most : number ≤ high

-- what `from_str` of an unsigned type of k bits gives
abbrev pub Gives : ℕ → Text → Result ℕ ParseIntError → Type 0
Gives k text r = ParsesUnsigned k 10 text r × ExplainsUnsignedError 10 text r × HasUnsignedDigitsIfOk text r

-- what `get_one` says of a type of k bits
abbrev pub GetsOne : ArgMatches → Text → ℕ → Option ℕ → Type 0
GetsOne m name k r = (t : Text) → one_text (found_of m) name ≡ Some t → ReadsOne (Gives k) t r

as_number : (m : ArgMatches) (name u : Text) (low high : ℕ) (r : Option ℕ) → one_text (found_of m) name ≡ Some u → Reads u low high r → IsNumber m name low high r
as_number m name u low high r text read =
    let here : one_of name (rows_of (found_of m)) ≡ Some u = sym (one_text-rows (found_of m) name) ∙ text in
    record {
      number = read.number;
      is = read.is;
      value = read.value ∙ sym (ap (λ o. digits_value 10 (without_leading_plus (unwrap_or o []))) here);
      least = read.least;
      most = read.most;
    }

-- the number of an option whose parser takes numbers that aren't negative
small_number : (m : ArgMatches) (name : Text) (low high k : ℕ) (r : Option ℕ) → GetsOne m name k r → high < 2 ^ k
    → HasText m name (vp.Signed (pos low) (pos high)) → IsNumber m name low high r
small_number m name low high k r gets fits text =
    as_number m name (without_minus text.0) low high r text.1
    (from_signed ParseIntError (Gives k) k (λ u x g. g.0) low high text.0 r (gets (without_minus text.0) text.1) fits text.2)

large_number : (m : ArgMatches) (name : Text) (low high k : ℕ) (r : Option ℕ) → GetsOne m name k r → high < 2 ^ k
    → HasText m name (vp.Unsigned low high) → IsNumber m name low high r
large_number m name low high k r gets fits text =
    as_number m name text.0 low high r text.1 (from_unsigned ParseIntError (Gives k) k (λ u x g. g.0) low high text.0 r (gets text.0 text.1) fits text.2)

module _ (c : Command) (m : ArgMatches) (is : app_of c ≡ program) (p : IsParsedFrom c m) (r : Option ℕ) where
  first : Arg
  first = some_arg (args_of c) _ _ (ap (λ (a : App). a.top.rules) is)

  pub workers_number : GetsOne m (codes "workers") 8 r → IsNumber m (codes "workers") 1 16 r
  workers_number gets = small_number m (codes "workers") 1 16 8 r gets (omega arith)
      (has_text c m is p 0 (codes "workers") (codes "4") (vp.Signed (pos 1) (pos 16)) first (omega arith) (λ r. refl) refl refl refl)

  pub units_number : GetsOne m (codes "units") 64 r → IsNumber m (codes "units") 0 18446744073709551615 r
  units_number gets = large_number m (codes "units") 0 18446744073709551615 64 r gets (omega arith)
      (has_text c m is p 1 (codes "units") (codes "0") natural first (omega arith) (λ r. refl) refl refl refl)

  pub share_number : GetsOne m (codes "share") 8 r → IsNumber m (codes "share") 0 64 r
  share_number gets = small_number m (codes "share") 0 64 8 r gets (omega arith)
      (has_text c m is p 2 (codes "share") (codes "8") (vp.Signed (pos 0) (pos 64)) first (omega arith) (λ r. refl) refl refl refl)

  pub seed_number : GetsOne m (codes "seed") 64 r → IsNumber m (codes "seed") 0 18446744073709551615 r
  seed_number gets = large_number m (codes "seed") 0 18446744073709551615 64 r gets (omega arith)
      (has_text c m is p 3 (codes "seed") (codes "0") natural first (omega arith) (λ r. refl) refl refl refl)

-- the same of the matches of `gen`
module _ (words : List Text) (m : ArgMatches) (r : Option ℕ) (none : fault_of program words ≡ []) (is : Some (rows_of (found_of m)) ≡ option_map (λ (p : Text × List Row). p.1) (subcommand_of program words)) where
  has_given : (w : Bool) (name : Text) (q : ValueParser) → (needed_rule w).id ≡ name → parser_of_value (needed_rule w).parser ≡ q → (needed_rule w).ignore_case ≡ false → Given w (rows_of (found_of m)) → HasText m name q
  has_given w name q id parser case g =
      (g.0, rw (← id, ← parser) (one_text-rows (found_of m) (needed_rule w).id ∙ g.1), rw (← parser, ← case) (accepts-Accepts (needed_rule w).ignore_case (parser_of_value (needed_rule w).parser) g.0 g.2))

  pub given_seed : GetsOne m (codes "seed") 64 r → IsNumber m (codes "seed") 0 18446744073709551615 r
  given_seed gets = large_number m (codes "seed") 0 18446744073709551615 64 r gets (omega arith)
      (has_given true (codes "seed") natural refl refl refl (given words (rows_of (found_of m)) none (sym is) true))

  pub given_size : GetsOne m (codes "size") 32 r → IsNumber m (codes "size") 1 2000 r
  given_size gets = small_number m (codes "size") 1 2000 32 r gets (omega arith)
      (has_given false (codes "size") (vp.Signed (pos 1) (pos 2000)) refl refl refl (given words (rows_of (found_of m)) none (sym is) false))

-- what a parse tells of the subcommand
pub parsed_subcommand : (c : Command) (m : ArgMatches) (raw words : List Text) → app_of c ≡ program → raw ≡ words → HasMatchesOf (app_of c) raw m
    → (is_simple_and_free (app_of c) ≡ true → fault_of (app_of c) raw ≡ []) → (fault_of program words ≡ []) × (subcommand_rows_of m ≡ subcommand_of program words)
parsed_subcommand c m raw words is same matches none =
    (sym (ap₂ fault_of is same) ∙ none (ap is_simple_and_free is), (matches (ap is_simple is)).1 ∙ ap₂ subcommand_of is same)

abbrev generated_from : Option (Text × List Row) → Option Generated
generated_from = option_map (λ p. record { seed = number_in p.1 (codes "seed"); size = number_in p.1 (codes "size") })

pub generated_is : (o : Option (Text × List Row)) (rows : List Row) (seed size : ℕ) → Some rows ≡ option_map (λ (p : Text × List Row). p.1) o
    → seed ≡ number_in rows (codes "seed") → size ≡ number_in rows (codes "size") → ◌≡◌ {A = Option Generated} (Some (record { seed = seed; size = size })) (generated_from o)
generated_is None rows seed size same a b = cc
generated_is (Some p) rows seed size same a b =
    let here : rows ≡ p.1 = ap (λ x. unwrap_or x []) same in
    ap₂ (λ x y. Some (record { seed = x; size = y })) (a ∙ ap (λ rs. number_in rs (codes "seed")) here) (b ∙ ap (λ rs. number_in rs (codes "size")) here)

pub none_generated : (o : Option (Text × List Row)) → ◌≡◌ {A = Option (List Row)} None (option_map (λ (p : Text × List Row). p.1) o) → ◌≡◌ {A = Option Generated} None (generated_from o)
none_generated None same = refl
none_generated (Some p) same = cc

-- the value that was read is the number in the matches
pub value_is : (m : ArgMatches) (name : Text) (low high : ℕ) (r : Option ℕ) (v : ℕ) (rows : List Row) → IsNumber m name low high r → r ≡ Some v → rows_of (found_of m) ≡ rows
    → v ≡ number_in rows name
value_is m name low high r v rows n read same =
    let one : v ≡ n.number = ap (λ o. unwrap_or o 0) (sym read ∙ n.is) in
    one ∙ (n.value ∙ ap (λ rs. number_in rs name) same)

pub in_bounds : (m : ArgMatches) (name : Text) (low high : ℕ) (r : Option ℕ) (v : ℕ) → IsNumber m name low high r → r ≡ Some v → (low ≤ v) × (v ≤ high)
in_bounds m name low high r v n read =
    let one : v ≡ n.number = ap (λ o. unwrap_or o 0) (sym read ∙ n.is) in
    rw one (n.least, n.most)

pub some_number : (m : ArgMatches) (name : Text) (low high : ℕ) (r : Option ℕ) → IsNumber m name low high r → IsSome r
some_number m name low high r n = rw n.is refl

-- an error is caused as the parse says
caused : (words : List Text) (kind : ErrorKind) (e : WordsError) → e ≡ cause_of kind → (are_taken words ≡ true → kind ≡ OutOfMemory) → IsCause words e
caused words kind e is passes = go (are_taken words) refl
  where
    refused : (x : WordsError) → are_taken words ≡ false → IsCause words x
    refused Refused no_more = no_more
    refused Memory no_more = tt

    go : (b : Bool) → are_taken words ≡ b → IsCause words e
    go true taken =
        let memory : e ≡ Memory = is ∙ ap cause_of (passes taken) in
        rw memory tt
    go false not_taken = refused e not_taken

pub caused_by : {T : Type 0} (words : List Text) (kind : ErrorKind) (r : Result T WordsError) → IsErrAnd r (λ e. e ≡ cause_of kind) → (are_taken words ≡ true → kind ≡ OutOfMemory)
    → IfErr r (IsCause words)
caused_by words kind (Ok x) is passes = tt
caused_by words kind (Err e) is passes = caused words kind e is passes
