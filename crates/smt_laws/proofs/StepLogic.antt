-- What holds after each step of a judgement, where it isn't refused.
use Rattle.std.proofs.Common.{◌≡◌, ℕ, List, [], ◌∷◌, Bool, true, false, Option, Some, None, refl}
use Rattle.std.specs.Prelude.{if◌then◌else◌}
use Rattle.smt_meaning.specs.declared.values.Sort.{Sort}
use Rattle.smt_meaning.specs.declared.refusals.Refusal.{Refusal}
use Rattle.smt_meaning.specs.declared.tokens.Token.{Token}
use Rattle.smt_meaning.specs.declared.commands.WrittenSort.{WrittenSort}
use Rattle.smt_meaning.specs.declared.commands.WrittenSort.TheVariants.{Name, Applied}
use Rattle.smt_meaning.specs.declared.commands.Parameter.{Parameter}
use Rattle.smt_meaning.specs.Signature.{sort_eq}
use Rattle.smt_meaning.specs.Sorts.{Scope, Outcome, done, refused, Judging, go_on, ◌>>=◌, ◌>>◌, return, refuse, require, required, the_scope, declare, Variable}
use Rattle.smt_meaning.specs.StackCommand.{Change, Bodied, declares, judge_sort, judge_sorts, new_sort_name, new_function_name, judge_parameters, judge_body, define_function, function_declaration, sorts_of_variables, require_room}

-- what judgements keep true of a scope, and how a later scope stands to it
pub record Logic : Type 1 where
  pub Good : Scope → Type 0
  pub After : Scope → Scope → Type 0
  pub self : (s : Scope) → After s s
  pub still : (s t u : Scope) → After s t → After t u → After s u

abbrev pub Ends : {A : Type 0} → Logic → Scope → (A → Scope → Type 0) → Outcome A → Type 0
Ends l s P (done a t) = (l.Good t × l.After s t) × P a t
Ends l s P (refused r) = Unit {0}

pub record Gives {A : Type 0} (l : Logic) (s : Scope) (m : Judging A) (P : A → Scope → Type 0) : Type 0 where
  pub gives : l.Good s → Ends l s P (m s)

abbrev pub Nothing : {A : Type 0} → A → Scope → Type 0
Nothing a t = Unit {0}

module _ (l : Logic) where
  further : {B : Type 0} (s t : Scope) (Q : B → Scope → Type 0) → l.After s t → (y : Outcome B) → Ends l t Q y → Ends l s Q y
  further s t Q e (done a u) w = ((w.0.0, l.still s t u e w.0.1), w.1)
  further s t Q e (refused r) w = tt

  after_go_on : {A B : Type 0} (s : Scope) (P : A → Scope → Type 0) (Q : B → Scope → Type 0) (x : Outcome A) (k : A → Judging B) → Ends l s P x
      → ((a : A) (t : Scope) → l.Good t → l.After s t → P a t → Gives l t (k a) Q) → Ends l s Q (go_on x k)
  after_go_on s P Q (done a t) k h g = further s t Q h.0.1 (k a t) ((g a t h.0.0 h.0.1 h.1).gives h.0.0)
  after_go_on s P Q (refused r) k h g = tt

  pub bind_gives : {A B : Type 0} (s : Scope) (m : Judging A) (k : A → Judging B) (P : A → Scope → Type 0) (Q : B → Scope → Type 0)
      → Gives l s m P → ((a : A) (t : Scope) → l.Good t → l.After s t → P a t → Gives l t (k a) Q) → Gives l s (m >>= k) Q
  unfolding ◌>>=◌
  bind_gives s m k P Q h g = record { gives = λ f. after_go_on s P Q (m s) k (h.gives f) g }

  pub next_gives : {A B : Type 0} (s : Scope) (m : Judging A) (n : Judging B) (P : A → Scope → Type 0) (Q : B → Scope → Type 0)
      → Gives l s m P → ((a : A) (t : Scope) → l.Good t → l.After s t → P a t → Gives l t n Q) → Gives l s (m >> n) Q
  unfolding ◌>>◌
  next_gives s m n P Q h g = record { gives = λ f. after_go_on s P Q (m s) (λ a. n) (h.gives f) g }

  pub return_gives : {A : Type 0} (s : Scope) (a : A) (P : A → Scope → Type 0) → P a s → Gives l s (return a) P
  unfolding return
  return_gives s a P h = record { gives = λ f. ((f, l.self s), h) }

  pub refuse_gives : {A : Type 0} (s : Scope) (r : Refusal) (P : A → Scope → Type 0) → Gives l s (refuse r) P
  unfolding refuse
  refuse_gives s r P = record { gives = λ f. tt }

  pub require_gives : (s : Scope) (c : Bool) (r : Refusal) → Gives l s (require c r) (λ a t. c ≡ true)
  unfolding require return refuse
  require_gives s c r = by_cases c
    where
      by_cases : (d : Bool) → Gives l s (require d r) (λ a t. d ≡ true)
      by_cases true = record { gives = λ f. ((f, l.self s), refl) }
      by_cases false = record { gives = λ f. tt }

  pub required_gives : {A : Type 0} (s : Scope) (o : Option A) (r : Refusal) → Gives l s (required o r) (λ a t. o ≡ Some a)
  unfolding required return refuse
  required_gives s None r = record { gives = λ f. tt }
  required_gives s (Some a) r = record { gives = λ f. ((f, l.self s), refl) }

  pub scope_then : {A : Type 0} (s : Scope) (k : Scope → Judging A) (P : A → Scope → Type 0) → Gives l s (k s) P → Gives l s (the_scope >>= k) P
  unfolding ◌>>=◌ the_scope
  scope_then s k P h = record { gives = h.gives }

  pub if_gives : {A : Type 0} (s : Scope) (c : Bool) (m n : Judging A) (P : A → Scope → Type 0) → Gives l s m P → Gives l s n P → Gives l s (if c then m else n) P
  if_gives s true m n P h g = h
  if_gives s false m n P h g = g

  -- less is known of the value
  pub weaken : {A : Type 0} (s : Scope) (m : Judging A) (P Q : A → Scope → Type 0) → ((a : A) (t : Scope) → P a t → Q a t) → Gives l s m P → Gives l s m Q
  weaken {A} s m P Q w h = record { gives = λ g. go (m s) (h.gives g) }
    where
      go : (x : Outcome A) → Ends l s P x → Ends l s Q x
      go (done a t) k = (k.0, w a t k.1)
      go (refused r) k = tt

  -- nothing is known of the value any more
  pub forget : {A : Type 0} (s : Scope) (m : Judging A) (P : A → Scope → Type 0) → Gives l s m P → Gives l s m Nothing
  forget s m P h = weaken s m P Nothing (λ a t k. tt) h

  -- ---- sorts and names

  pub sort_gives : (x : WrittenSort) (s : Scope) → Gives l s (judge_sort x) Nothing
  sort_gives (Name n) s = scope_then s _ Nothing (forget s _ _ (required_gives s _ _))
  sort_gives (Applied n) s = refuse_gives s _ _

  pub sorts_give : (xs : List WrittenSort) (s : Scope) → Gives l s (judge_sorts xs) Nothing
  sorts_give [] s = return_gives s [] Nothing tt
  sorts_give (x ∷ xs) s =
      bind_gives s _ _ Nothing Nothing (sort_gives x s) (λ a t f e k. bind_gives t _ _ Nothing Nothing (sorts_give xs t) (λ rs u d m h. return_gives u (a ∷ rs) Nothing tt))

  pub sort_name_gives : (n : List ℕ) (s : Scope) → Gives l s (new_sort_name n) Nothing
  sort_name_gives n s = next_gives s _ _ _ Nothing (require_gives s _ _) (λ a t f e k. scope_then t _ Nothing (forget t _ _ (require_gives t _ _)))

  pub function_name_gives : (n : List ℕ) (s : Scope) → Gives l s (new_function_name n) Nothing
  function_name_gives n s = next_gives s _ _ _ Nothing (require_gives s _ _) (λ a t f e k. scope_then t _ Nothing (forget t _ _ (require_gives t _ _)))

  pub room_gives : (s : Scope) → Gives l s require_room Nothing
  room_gives s = scope_then s _ Nothing (forget s _ _ (require_gives s _ _))

  -- ---- definitions

  -- where the parameters, the body and the declaration give these
  pub define_gives : (n : List ℕ) (ps : List Parameter) (x : WrittenSort) (y : List Token) (P : List Variable → Type 0) (B : List Variable → Bodied → Scope → Type 0) (Q : Change → Scope → Type 0)
      → ((u : Scope) → Gives l u (judge_parameters 0 [] ps) (λ vs t. P vs))
      → ((vs : List Variable) (w : Scope) → P vs → Gives l w (judge_body vs y) (B vs))
      → ((vs : List Variable) (r : Sort) (b : Bodied) (z t : Scope) → l.After z t → B vs b z → sort_eq b.sort r ≡ true
      → Gives l t (declare (λ id. function_declaration id n (sorts_of_variables vs) r (Some b.body)) >> return declares) Q)
      → (s : Scope) → Gives l s (define_function n ps x y) Q
  define_gives n ps x y P B Q parameters body declared s =
      next_gives s _ _ Nothing Q (function_name_gives n s)
      (λ b u d m k. bind_gives u _ _ (λ vs t. P vs) Q (parameters u)
      (λ vs v g i p. bind_gives v _ _ Nothing Q (sort_gives x v)
      (λ r w h j q. bind_gives w _ _ (B vs) Q (body vs w p)
      (λ bodied z c o fine. next_gives z _ _ _ Q (require_gives z _ _) (λ unit t good after same. declared vs r bodied z t after fine same)))))
