-- A stack of which some assertions are left out, and what a check sees of it.
use Rattle.std.specs.Prelude.{◌≡◌, ◌≤◌, ℕ, zero, suc, ◌+◌, Bool, false, List, [], ◌∷◌, length, All, slice_index, slice_index_or, if◌then◌else◌}
use Rattle.std.specs.Coded.{Coded, code_by, coded×, coded_bool, coded_list}
use Rattle.std.proofs.Common.{refl}
use Rattle.smt_meaning.specs.Keeping.{kept_from, keeping}
use Rattle.smt_meaning.specs.Stack.{assertions_of}
use Rattle.smt_meaning.specs.StackCommand.{Stack}
use Rattle.scope_stack.specs.declared.answers.Assertion.{Assertion}
use Rattle.scope_stack.specs.Pieces.{all_of}
use Rattle.scope_stack.specs.Inside.{frames_by, stack_by, IsWithin}
use Rattle.scope_stack.specs.Seen.{names_of}
use Rattle.scope_stack.specs.Shown.{IsLawful}
use Rattle.scope_stack.specs.StackCode.{coded_stack}

-- the whole stack, and of each of its assertions, by their places, whether it is kept
pub record Trial : Type 0 where
  pub stack : Stack
  pub kept : List Bool

abbrev pub coded_trial : Coded Trial
coded_trial = code_by (Stack × List Bool) (coded× coded_stack (coded_list coded_bool)) (λ (t : Trial). (t.stack, t.kept)) (λ p. record { stack = p.0; kept = p.1 }) (λ t. refl)

abbrev pub marks : List Bool → ℕ → Bool
marks kept p = slice_index_or kept p false

-- each assertion has its mark
abbrev pub AreMarks : Stack → List Bool → Type 0
AreMarks s kept = length kept ≡ length (assertions_of s.frames)

-- how many of the first n are kept
abbrev pub counted : (ℕ → Bool) → ℕ → ℕ
counted keeps zero = 0
counted keeps (suc n) = counted keeps n + (if keeps n then 1 else 0)

-- for each number up to that of the marks, how many of the first ones are kept
pub record AreCounts (kept : List Bool) (counts : List ℕ) : Type 0 where
  pub size : length counts ≡ length kept + 1
  pub each : (n : ℕ) → n ≤ length kept → slice_index counts n ≡ counted (marks kept) n

-- by levels, where the first assertion has this place
abbrev pub kept_levels : {A : Type 0} → (ℕ → Bool) → ℕ → List (List A) → List (List A)
kept_levels keeps place [] = []
kept_levels keeps place (xs ∷ xss) = kept_from keeps place xs ∷ kept_levels keeps (place + length xs) xss

-- what is left of this whole: the same terms and levels, with the assertions that are kept
pub record IsThinned (s : Stack) (xss : List (List Assertion)) (kept : List Bool) : Type 0 where
  pub as_many : length xss ≡ length s.frames
  pub within : All (IsWithin s.trees) (all_of xss)
  pub lawful : IsLawful (stack_by s.global (names_of s) s.trees xss)
  pub marked : length kept ≡ length (all_of xss)
  pub frames : s.frames ≡ keeping (marks kept) (frames_by s.trees (names_of s).levels xss)
