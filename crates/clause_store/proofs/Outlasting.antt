-- The literals of a clause that become false last.
use Rattle.std.proofs.Common.{◌≡◌, ℕ, ◌<◌, ◌≤◌, List, All, Contains, subst, sym, inl, inr, ◌⊎◌, arith, nat_le, false}
use Rattle.std.proofs.lemmas.Bool.Decides.{nat_tests}
use Rattle.std.proofs.lemmas.List.Elements.{All-weaker, All-contains}
use Rattle.literals.specs.Signed.{Signed, opposite}
use Rattle.clause_store.specs.Trail.{up_to}
use Rattle.clause_store.specs.declared.trail.Step.{Step}
use Rattle.clause_store.specs.Stored.{IsFalseOn}
use Rattle.clause_store.specs.From.{IsFrom}
use Rattle.clause_store.specs.Choosing.{IsChoice, Outlasts}
use Rattle.clause_store.specs.declared.choose.Standing.TheVariants.{Awake, Waits}
use Rattle.clause_store.proofs.Sweeping.{equal_or_apart}
use Rattle.clause_store.proofs.Filters.{up_to-assigns}
use Rattle.clause_store.proofs.Depths.{up_to-all}

below_or_past : (a b : ℕ) → (a < b) ⊎ (b ≤ a)
below_or_past a b = grind arith

pub not_le : (a b : ℕ) → nat_le a b ≡ false → b ≤ a
not_le a b h = grind (arith, nat_tests)

pub outlasts-open : (steps : List Step) (a b : Signed) → (IsFalseOn steps a → ⊥) → Outlasts steps a b
outlasts-open steps a b never d f = absurd (never (up_to-assigns d steps (opposite a) f))

pub outlasts-from : (steps : List Step) (a b l m : Signed) (from to : ℕ) → l ≡ opposite a → m ≡ opposite b → IsFrom steps l from → IsFrom steps m to → to ≤ from → Outlasts steps a b
outlasts-from steps a b l m from to la mb h k le d f =
    elim (below_or_past d from) [
      | inl below ↦ absurd ((subst (λ x. IsFrom steps x from) la h).before d below f)
      | inr past ↦ (subst (λ x. IsFrom steps x to) mb k).after d (omega arith)
    ]

pub choice-awake : (steps : List Step) (ls : List Signed) (depth : ℕ) (a b : Signed) → All (λ (s : Step). s.depth ≤ depth) steps → Contains ls a → All (Outlasts steps a) ls → Contains ls b → (b ≡ a → ⊥) → (IsFalseOn steps b → ⊥)
    → IsChoice steps ls (record { first = a; second = b; standing = Awake })
choice-awake steps ls depth a b deep in' last contained apart never =
    let whole : up_to depth steps ≡ steps = up_to-all depth steps deep in
    let outlasts : Outlasts steps a b = All-contains (Outlasts steps a) ls b last contained in
    record {
      first = in';
      second = contained;
      single = λ e. absurd (apart (sym e));
      stands = record {
        apart = λ e. apart (sym e);
        first = λ f. never (subst (λ xs. IsFalseOn xs b) whole (outlasts depth (subst (λ xs. IsFalseOn xs a) (sym whole) f)));
        second = never;
      };
    }

pub choice-waits : (steps : List Step) (ls : List Signed) (a b : Signed) (from : ℕ) → Contains ls a → All (Outlasts steps a) ls → Contains ls b → (a ≡ b → All (λ m. m ≡ a) ls) → All (λ m. (m ≡ a) ⊎ Outlasts steps b m) ls
    → (b ≡ a → from ≡ 0) → ((b ≡ a → ⊥) → IsFrom steps (opposite b) from) → IsChoice steps ls (record { first = a; second = b; standing = Waits from })
choice-waits steps ls a b from in' last contained single others zero at = record {
  first = in';
  second = contained;
  single = single;
  stands = elim (equal_or_apart b a) [
    | inl same ↦ (
      All-weaker (λ m. m ≡ a) (λ m. (m ≡ a) ⊎ IsFalseOn (up_to from steps) m) (λ m e. inl e) ls (single (sym same)),
      λ d lt. absurd (let z : from ≡ 0 = zero same in omega arith),
    )
    | inr apart ↦
        let is : IsFrom steps (opposite b) from = at apart in (
          All-weaker (λ m. (m ≡ a) ⊎ Outlasts steps b m) (λ m. (m ≡ a) ⊎ IsFalseOn (up_to from steps) m) (λ m p. elim p [ inl e ↦ inl e | inr o ↦ inr (o from (is.after from (omega arith))) ]) ls others,
          λ d lt. record {
            apart = λ e. apart (sym e);
            first = λ f. is.before d lt (All-contains (Outlasts steps a) ls b last contained d f);
            second = λ f. is.before d lt f;
          },
        )
  ];
}
