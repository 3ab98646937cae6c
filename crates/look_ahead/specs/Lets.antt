-- The form of a `let`, in parts.
use Rattle.std.specs.Prelude.{◌≡◌, ℕ, zero, suc, ◌<◌, ◌≤◌, Bool, true, false, List, [], ◌∷◌, ◌++◌, length, Option, Some, None, if◌then◌else◌}
use Rattle.std.specs.Borrow.{Bor}
use Rattle.smt_meaning.specs.declared.tokens.Token.{Token}
use Rattle.smt_meaning.specs.declared.tokens.Token.TheVariants.{Symbol}
use Rattle.smt_meaning.specs.Sexp.{Sexp, Sexps, word, group, end, ◌▸◌}
use Rattle.smt_meaning.specs.Signature.{is_one_of}
use Rattle.smt_meaning.specs.Sorts.{Scope, refused, bound_names, cons_name, check_bindings}
use Rattle.look_ahead.specs.declared.LookError.{LookError}
use Rattle.look_ahead.specs.declared.LookError.TheVariants.{Refused, Memory}
use Rattle.look_ahead.specs.declared.lets.LetPlaces.{LetPlaces}
use Rattle.look_ahead.specs.declared.lets.Binding.{Binding}
use Rattle.look_ahead.specs.declared.lets.Binding.TheVariants.{Last, Malformed, Named}
use Rattle.look_ahead.specs.Ahead.{ahead}

-- a list of bindings and a body
abbrev pub is_let : Sexps → Bool
is_let (group bs ▸ b ▸ end) = true
is_let _ = false

-- a `let`, whose bindings and body begin at these places
pub record HasLet (ts : List Token) (i : ℕ) (w : LetPlaces) : Type 0 where
  pub body : Sexp
  pub is : ahead ts i ≡ group (ahead ts w.bindings) ▸ body ▸ end
  pub body_is : ahead ts w.body ≡ body ▸ end

abbrev pub IsLetAt : List Token → ℕ → Option LetPlaces → Type 0
IsLetAt ts i None = is_let (ahead ts i) ≡ false
IsLetAt ts i (Some w) = HasLet ts i w

-- the name of a binding, from the inside of its list
abbrev pub name_bound : Sexps → Option (List ℕ)
name_bound (word (Symbol n) ▸ t ▸ end) = Some n
name_bound _ = None

abbrev pub BindingAt : List Token → ℕ → Binding → Type 0
BindingAt ts i Last = bound_names (ahead ts i) ≡ Some []
BindingAt ts i Malformed = bound_names (ahead ts i) ≡ None
BindingAt ts i (Named n j) = ((i < j) × (j ≤ length ts)) × (bound_names (ahead ts i) ≡ cons_name n.now (bound_names (ahead ts j)))

-- these names and then those
abbrev pub and_names : List (List ℕ) → Option (List (List ℕ)) → Option (List (List ℕ))
and_names ms None = None
and_names ms (Some ns) = Some (ms ++ ns)

-- the first that stood before
abbrev pub doubled : List (List ℕ) → List (List ℕ) → Option (List ℕ)
doubled old [] = None
doubled old (n ∷ ns) = if is_one_of n old then Some n else doubled (old ++ n ∷ []) ns

-- why the names of bindings are refused
abbrev pub IsWhyNoNames : Option (List (List ℕ)) → LookError → Type 0
IsWhyNoNames o (Refused why) = (s : Scope) → check_bindings o s ≡ refused why
IsWhyNoNames o Memory = Unit {0}

abbrev pub names_of : List (Bor (List ℕ)) → List (List ℕ)
names_of [] = []
names_of (b ∷ bs) = b.now ∷ names_of bs

abbrev pub name_at : List (Bor (List ℕ)) → ℕ → List ℕ
name_at [] i = []
name_at (b ∷ bs) zero = b.now
name_at (b ∷ bs) (suc i) = name_at bs i

abbrev pub IsDouble : List (Bor (List ℕ)) → Option ℕ → Type 0
IsDouble bs None = doubled [] (names_of bs) ≡ None
IsDouble bs (Some i) = (i < length bs) × (doubled [] (names_of bs) ≡ Some (name_at bs i))
