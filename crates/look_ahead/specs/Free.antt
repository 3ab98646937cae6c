-- Whether a name is free in a term, by a list of what is still to be looked through.
use Rattle.std.specs.Prelude.{◌≡◌, ℕ, suc, ◌+◌, ◌<◌, Bool, true, false, ◌||◌, List, [], ◌∷◌, take, length, Option, Some, None}
use Rattle.smt_meaning.specs.declared.tokens.Token.{Token}
use Rattle.smt_meaning.specs.Sexp.{Sexp, Sexps, word, group, end, ◌▸◌}
use Rattle.smt_meaning.specs.Sorts.{bound_names, names_or_none, without, has_free, some_has_free, binding_has_free}
use Rattle.smt_meaning.specs.declared.tokens.Token.TheVariants.{Reserved}
use Rattle.smt_meaning.specs.declared.tokens.Word.TheVariants.{Exclamation, Let as LetWord}
use Rattle.look_ahead.specs.declared.free.Form.{Form}
use Rattle.look_ahead.specs.declared.free.Form.TheVariants.{Let, Annotation, Head, Other}
use Rattle.look_ahead.specs.declared.free.Job.{Job}
use Rattle.look_ahead.specs.declared.free.Job.TheVariants.{Rest, First, Inside, Bindings, Body, Unhide}
use Rattle.look_ahead.specs.Ahead.{ahead, IsList}

abbrev pub first_free : List (List ℕ) → Sexps → Bool
first_free ns end = false
first_free ns (t ▸ rest) = has_free ns t

-- one of the names is free in what is still to be looked through, where some are hidden
abbrev pub todo : List Token → List (List ℕ) → List (List ℕ) → List Job → Bool
todo ts ns hidden [] = false
todo ts ns hidden (Rest p ∷ js) = some_has_free (without hidden ns) (ahead ts p) || todo ts ns hidden js
todo ts ns hidden (First p ∷ js) = first_free (without hidden ns) (ahead ts p) || todo ts ns hidden js
todo ts ns hidden (Inside p ∷ js) = has_free (without hidden ns) (group (ahead ts p)) || todo ts ns hidden js
todo ts ns hidden (Bindings p ∷ js) = binding_has_free (without hidden ns) (ahead ts p) || todo ts ns hidden js
todo ts ns hidden (Body w ∷ js) = first_free (without (names_or_none (bound_names (ahead ts w.bindings))) (without hidden ns)) (ahead ts w.body) || todo ts ns hidden js
todo ts ns hidden (Unhide count ∷ js) = todo ts ns (take count hidden) js

-- ---- how much there is to do

abbrev mutual
  pub weight : Sexp → ℕ
  weight (word t) = 1
  weight (group ss) = suc (suc (weights ss))

  pub weights : Sexps → ℕ
  weights end = 1
  weights (s ▸ ss) = suc (weight s + weights ss)

abbrev pub first_weight : Sexps → ℕ
first_weight end = 1
first_weight (s ▸ ss) = weight s

abbrev pub job_weight : List Token → Job → ℕ
job_weight ts (Rest p) = weights (ahead ts p)
job_weight ts (First p) = first_weight (ahead ts p)
job_weight ts (Inside p) = suc (weights (ahead ts p))
job_weight ts (Bindings p) = weights (ahead ts p)
job_weight ts (Body w) = suc (suc (first_weight (ahead ts w.body)))
job_weight ts (Unhide count) = 1

abbrev pub jobs_weight : List Token → List Job → ℕ
jobs_weight ts [] = 0
jobs_weight ts (j ∷ js) = job_weight ts j + jobs_weight ts js

-- jobs in place of jobs
pub record Replaces (ts : List Token) (old new : List Job) : Type 0 where
  pub same : (ns hidden : List (List ℕ)) → todo ts ns hidden old ≡ todo ts ns hidden new
  pub less : jobs_weight ts new < jobs_weight ts old

-- the same, where other names are hidden then
pub record Follows (ts : List Token) (hidden : List (List ℕ)) (old : List Job) (hidden' : List (List ℕ)) (new : List Job) : Type 0 where
  pub same : (ns : List (List ℕ)) → todo ts ns hidden old ≡ todo ts ns hidden' new
  pub less : jobs_weight ts new < jobs_weight ts old

-- two s-expressions and no more
abbrev pub is_pair : Sexps → Bool
is_pair (x ▸ t ▸ end) = true
is_pair _ = false

pub record HasSecond (ts : List Token) (i j : ℕ) : Type 0 where
  pub first : Sexp
  pub second : Sexp
  pub is : ahead ts i ≡ first ▸ second ▸ end
  pub second_is : ahead ts j ≡ second ▸ end

abbrev pub IsSecond : List Token → ℕ → Option ℕ → Type 0
IsSecond ts i None = is_pair (ahead ts i) ≡ false
IsSecond ts i (Some j) = HasSecond ts i j

-- something free is found, or the rest is looked through then
abbrev pub Looks : List Token → List (List ℕ) → List (List ℕ) → List Job → List (List ℕ) → List Job → Bool → Type 0
Looks ts ns hidden old hidden' new true = todo ts ns hidden old ≡ true
Looks ts ns hidden old hidden' new false = (todo ts ns hidden old ≡ todo ts ns hidden' new) × (jobs_weight ts new < jobs_weight ts old)

-- what a list begins with
abbrev pub form_of : Token → Form
form_of (Reserved LetWord) = Let
form_of (Reserved Exclamation) = Annotation
form_of _ = Other

abbrev pub FormAt : List Token → ℕ → Form → Type 0
FormAt ts i Let = (i < length ts) × (ahead ts i ≡ word (Reserved LetWord) ▸ ahead ts (i + 1))
FormAt ts i Annotation = (i < length ts) × (ahead ts i ≡ word (Reserved Exclamation) ▸ ahead ts (i + 1))
FormAt ts i (Head close) = IsList ts i close
FormAt ts i Other = (ns : List (List ℕ)) → has_free ns (group (ahead ts i)) ≡ some_has_free ns (ahead ts i)
