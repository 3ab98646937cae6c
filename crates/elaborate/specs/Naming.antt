-- Names that are given to terms.
use Rattle.std.specs.Prelude.{◌≡◌, ℕ, Bool, true, false, List, ◌++◌, map, Option, Some, None, Result, Ok, Err}
use Rattle.smt_meaning.specs.Declaration.{Declaration}
use Rattle.smt_meaning.specs.declared.refusals.Refusal.{Refusal}
use Rattle.smt_meaning.specs.declared.refusals.Refusal.TheVariants.{AlreadyDeclared, ReservedName}
use Rattle.smt_meaning.specs.Sorts.{Scope, Judging, Typed, done, refused}
use Rattle.elaborate.specs.declared.value.Value.{Value}
use Rattle.elaborate.specs.declared.frame.Binding.{Binding}
use Rattle.elaborate.specs.declared.error.JudgeError.{JudgeError}
use Rattle.elaborate.specs.declared.error.JudgeError.TheVariants.{Refused, Memory}
use Rattle.elaborate.specs.Values.{typed, IsValue}

abbrev pub names_bound : List Binding → List (List ℕ)
names_bound bs = map (λ (b : Binding). b.name) bs

-- why no function may be declared under a name, where it is reserved or not, and something is found under it
abbrev pub why_not_new : List ℕ → Bool → Option Declaration → Option Refusal
why_not_new n true d = Some (ReservedName n)
why_not_new n false (Some d) = Some (AlreadyDeclared n)
why_not_new n false None = None

abbrev pub IsWhyNotNew : Option Refusal → JudgeError → Type 0
IsWhyNotNew o (Refused r) = o ≡ Some r
IsWhyNotNew o Memory = Unit {0}

-- a declaration gives this result, and what joins the signature
abbrev pub NameComes : Judging (Unit {0}) → Scope → Scope → Result (Unit {0}) JudgeError → Type 0
NameComes m s u (Ok a) = (m s ≡ done tt u) × ((added : List Declaration) × (u.signature ≡ s.signature ++ added))
NameComes m s u (Err (Refused r)) = m s ≡ refused r
NameComes m s u (Err Memory) = Unit {0}

-- a judgement gives this result and this scope
abbrev pub TermComes : Judging Typed → Scope → Scope → Result Value JudgeError → Type 0
TermComes m s u (Ok v) = (m s ≡ done (typed u.trees v) u) × IsValue u.trees v
TermComes m s u (Err (Refused r)) = m s ≡ refused r
TermComes m s u (Err Memory) = Unit {0}
