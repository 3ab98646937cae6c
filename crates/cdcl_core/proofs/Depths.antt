-- Steps of a trail by their places and depths.
use Rattle.std.proofs.Common.{◌≡◌, ℕ, List, subst, sym, ap, ◌∙◌, inl, inr, ◌⊎◌}
use Rattle.std.proofs.lemmas.List.{get_or_default}
use Rattle.std.proofs.lemmas.List.Elements.{All-contains}
use Rattle.literals.specs.Signed.{Signed, opposite}
use Rattle.clause_store.specs.declared.trail.Step.{Step}
use Rattle.clause_store.specs.Each.{EachAfter}
use Rattle.clause_store.specs.TrailInvariant.{IsFresh}
use Rattle.clause_store.specs.Trail.{Assigns, up_to}
use Rattle.clause_store.specs.Stored.{IsFalseOn, IsQuiet}
use Rattle.conflict_learn.specs.Learning.{IsFalseAt, IsFalseUpTo}
use Rattle.clause_store.specs.From.{IsFrom}
use Rattle.cdcl_core.specs.Quiet.{HasTrue, HasTwo}
use Rattle.clause_store.proofs.Froms.{assigns_at, step_up_to, on_up_to, is-from, step_at, no_step}

-- what is on the trail up to a depth is on it
pub on-all : (steps : List Step) (d : ℕ) (l : Signed) → Assigns (up_to d steps) l → Assigns steps l
on-all steps d l on =
    let p = step_up_to steps d l on in
    subst (Assigns steps) p.literal (assigns_at steps p.place p.within)

-- the step of a literal that is false
pub false-from : (steps : List Step) (at : ℕ) (l : Signed) → EachAfter IsFresh steps → IsFalseAt steps at l → IsFrom steps (opposite l) at
false-from steps at l fresh h =
    let c = h.on in
    let same : step_at steps c.0 ≡ h.step = get_or_default steps c.0 no_step h.step c.1 ∙ c.2 in
    let f : IsFrom steps (opposite l) (step_at steps c.0).depth = is-from steps c.0 (opposite l) fresh c.1 (ap (λ (s : Step). s.literal) same ∙ h.literal) in
    subst (IsFrom steps (opposite l)) (ap (λ (s : Step). s.depth) same ∙ h.depth) f

pub false-up-to : (steps : List Step) (most : ℕ) (l : Signed) → IsFalseUpTo steps most l → IsFalseOn (up_to most steps) l
false-up-to steps most l h = subst (Assigns (up_to most steps)) h.literal (on_up_to steps most h.step h.on h.depth)

-- ---- quiet clauses

pub quiet-two : (steps : List Step) (ls : List Signed) → HasTwo steps ls → IsQuiet steps ls
quiet-two steps ls h = record {
  not_false = λ all. h.one_lasts (All-contains (IsFalseOn steps) ls h.one all h.one_in);
  not_unit = λ l o u. elim (All-contains (λ m. (m ≡ l) ⊎ IsFalseOn steps m) ls h.one u.1 h.one_in) [
    | inr f ↦ h.one_lasts f
    | inl e ↦ elim (All-contains (λ m. (m ≡ l) ⊎ IsFalseOn steps m) ls h.other u.1 h.other_in) [
      | inr f ↦ h.other_lasts f
      | inl e2 ↦ h.differ (e ∙ sym e2)
    ]
  ];
}

pub quiet-true : (steps : List Step) (ls : List Signed) → ((l : Signed) → Assigns steps l → Assigns steps (opposite l) → ⊥) → HasTrue steps ls → IsQuiet steps ls
quiet-true steps ls apart h = record {
  not_false = λ all. apart h.one h.is_true (All-contains (IsFalseOn steps) ls h.one all h.one_in);
  not_unit = λ l o u. elim (All-contains (λ m. (m ≡ l) ⊎ IsFalseOn steps m) ls h.one u.1 h.one_in) [
    | inr f ↦ apart h.one h.is_true f
    | inl e ↦ o.0 (subst (Assigns steps) e h.is_true)
  ];
}
