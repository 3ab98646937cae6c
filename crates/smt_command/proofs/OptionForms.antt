-- The forms of options, from how their parts are read.
use Rattle.std.proofs.Common.{◌≡◌, ℕ, ℤ, pos, List, [], Bool, true, false, cond, Option, Some, None, Result, Ok, Err, refl, ap, sym, ◌∙◌}
use Rattle.smt_meaning.specs.declared.tokens.Token.{Token}
use Rattle.smt_meaning.specs.declared.tokens.Token.TheVariants.{Numeral, Keyword}
use Rattle.smt_meaning.specs.declared.refusals.Refusal.{Refusal}
use Rattle.smt_meaning.specs.declared.refusals.Refusal.TheVariants.{NumeralTooLarge}
use Rattle.smt_meaning.specs.declared.options.OptionSetting.{OptionSetting}
use Rattle.smt_meaning.specs.declared.options.OptionName.{OptionName}
use Rattle.smt_meaning.specs.declared.options.OptionName.TheVariants as Named
use Rattle.smt_meaning.specs.declared.commands.Command.{Command}
use Rattle.smt_meaning.specs.declared.commands.Command.TheVariants.{SetOption, DeclareSort}
use Rattle.smt_meaning.specs.Sexp.{Sexps, word, group, end, ◌▸◌}
use Rattle.smt_meaning.specs.Signature.{look_up}
use Rattle.smt_meaning.specs.Sorts.{decimal, is_small}
use Rattle.smt_meaning.specs.Command.{with_numeral, levels, numeral_setting, setting, setting_of, option_names, set_option}
use Rattle.smt_command.specs.Arguments.{first_by, keyword, rest_of}
use Rattle.smt_command.specs.Values.{small_number, level_count, only_value, value_sexp, number_in}

-- ---- numerals

abbrev pub map_ok : {A B : Type 0} → (A → B) → Result A Refusal → Result B Refusal
map_ok f (Ok a) = Ok (f a)
map_ok f (Err r) = Err r

chosen : {A B : Type 0} (f : A → B) (b : Bool) (a : A) → cond b (Ok (f a)) (Err NumeralTooLarge) ≡ map_ok f (cond b (Ok a) (Err NumeralTooLarge))
chosen f true a = refl
chosen f false a = refl

with_numeral_is : (c : ℤ → Command) (cs : List ℕ) → with_numeral c cs ≡ map_ok c (small_number cs)
unfolding small_number
with_numeral_is c cs = chosen c (is_small (decimal cs)) (pos (decimal cs))

with_numeral_ok : (c : ℤ → Command) (cs : List ℕ) (n : ℤ) → Ok n ≡ small_number cs → with_numeral c cs ≡ Ok (c n)
with_numeral_ok c cs n h = with_numeral_is c cs ∙ ap (map_ok c) (sym h)

with_numeral_err : (c : ℤ → Command) (cs : List ℕ) (r : Refusal) → Err r ≡ small_number cs → with_numeral c cs ≡ Err r
with_numeral_err c cs r h = with_numeral_is c cs ∙ ap (map_ok c) (sym h)

pub sort_declared : (n : List ℕ) (cs : List ℕ) (z : ℤ) → Ok z ≡ small_number cs → with_numeral (DeclareSort n) cs ≡ Ok (DeclareSort n z)
sort_declared n cs z h = with_numeral_ok (DeclareSort n) cs z h

pub sort_refused : (n : List ℕ) (cs : List ℕ) (r : Refusal) → Err r ≡ small_number cs → with_numeral (DeclareSort n) cs ≡ Err r
sort_refused n cs r h = with_numeral_err (DeclareSort n) cs r h

pub ruleset sort_rules = (sort_declared, sort_refused)

levels_is : (c : ℤ → Command) (ss : Sexps) → levels c ss ≡ map_ok c (level_count ss)
levels_is c end = refl
levels_is c (word (Numeral cs) ▸ end) = with_numeral_is c cs
levels_is c _ = refl

pub levels_ok : (c : ℤ → Command) (ss : Sexps) (n : ℤ) → Ok n ≡ level_count ss → levels c ss ≡ Ok (c n)
levels_ok c ss n h = levels_is c ss ∙ ap (map_ok c) (sym h)

pub levels_err : (c : ℤ → Command) (ss : Sexps) (r : Refusal) → Err r ≡ level_count ss → levels c ss ≡ Err r
levels_err c ss r h = levels_is c ss ∙ ap (map_ok c) (sym h)

pub ruleset level_rules = (levels_ok, levels_err)

numeral_setting_is : (o : ℤ → OptionSetting) (v : Option Token) → numeral_setting o (value_sexp v) ≡ map_ok (λ n. SetOption (o n)) (number_in v)
numeral_setting_is o None = refl
numeral_setting_is o (Some (Numeral cs)) = with_numeral_is (λ n. SetOption (o n)) cs
numeral_setting_is o (Some _) = refl

pub numeral_ok : (o : ℤ → OptionSetting) (v : Option Token) (n : ℤ) → Ok n ≡ number_in v → numeral_setting o (value_sexp v) ≡ Ok (SetOption (o n))
numeral_ok o v n h = numeral_setting_is o v ∙ ap (map_ok (λ n. SetOption (o n))) (sym h)

pub numeral_err : (o : ℤ → OptionSetting) (v : Option Token) (r : Refusal) → Err r ≡ number_in v → numeral_setting o (value_sexp v) ≡ Err r
numeral_err o v r h = numeral_setting_is o v ∙ ap (map_ok (λ n. SetOption (o n))) (sym h)

pub ruleset numerals = (numeral_ok, numeral_err)

-- ---- lists as values

list_is_wrong : (o : OptionName) (ss : Sexps) → setting o (group ss) ≡ setting o (group end)
list_is_wrong Named.PrintSuccess ss = refl
list_is_wrong Named.RegularOutputChannel ss = refl
list_is_wrong Named.DiagnosticOutputChannel ss = refl
list_is_wrong Named.Verbosity ss = refl
list_is_wrong Named.ReproducibleResourceLimit ss = refl
list_is_wrong Named.RandomSeed ss = refl
list_is_wrong Named.ProduceModels ss = refl
list_is_wrong Named.ProduceAssertions ss = refl
list_is_wrong Named.InteractiveMode ss = refl
list_is_wrong Named.ProduceAssignments ss = refl
list_is_wrong Named.GlobalDeclarations ss = refl
list_is_wrong Named.ProduceUnsatCores ss = refl
list_is_wrong Named.ProduceUnsatAssumptions ss = refl

abbrev inside : Option (Option Token) → Option Token
inside (Some w) = w
inside None = None

abbrev name_in : Option (List ℕ) → List ℕ
name_in (Some n) = n
name_in None = []

with_value : (k : List ℕ) (rest : Sexps) (v : Option Token) (o : OptionName) → Some v ≡ only_value rest → Some o ≡ look_up k option_names
    → set_option (word (Keyword k) ▸ rest) ≡ setting o (value_sexp v)
with_value k end v o h e = cc
with_value k (word (Keyword w) ▸ end) v o h e = cc
with_value k (group ss ▸ end) v o h e =
    ap (λ m. setting_of m (group ss)) (sym e) ∙ list_is_wrong o ss ∙ ap (λ m. setting o (value_sexp (inside m))) (sym h)
with_value k (word t ▸ end) v o h e = ap (λ m. setting_of m (word t)) (sym e) ∙ ap (λ m. setting o (value_sexp (inside m))) (sym h)
with_value k _ v o h e = cc

pub set_option_known : (ss : Sexps) (k : List ℕ) (v : Option Token) (o : OptionName) → Some k ≡ first_by keyword ss → Some v ≡ only_value (rest_of ss) → Some o ≡ look_up k option_names
    → set_option ss ≡ setting o (value_sexp v)
set_option_known end k v o g h e = cc
set_option_known (word (Keyword w) ▸ rest) k v o g h e = with_value w rest v o h (e ∙ ap (λ m. look_up (name_in m) option_names) g)
set_option_known _ k v o g h e = cc
