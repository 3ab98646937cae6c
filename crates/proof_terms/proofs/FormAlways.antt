-- When some literal of a clause is true wherever a term's own atom has the value of its parts.
use Rattle.std.proofs.Common.{◌≡◌, ◌≢◌, ℕ, suc, ◌+◌, ◌*◌, Bool, true, false, not, nat_eq, List, [], ◌∷◌, map, None, Contains, refl, sym, ap, ◌∙◌, subst, arith}
use Rattle.std.specs.Prelude.{if◌then◌else◌}
use Rattle.std.proofs.lemmas.Bool.{false≢true, ne_eqb}
use Rattle.proof_terms.specs.declared.form_values.Connective.{Connective}
use Rattle.proof_terms.specs.Kept.{sign_code}
use Rattle.proof_terms.specs.FormValues.{connective_value, chosen, is_in, AreFalse, HasNoClash, IsClash, IsFree, IsForced, IsOpen, IsAlways, IsSometimesFalse}
use Rattle.proof_terms.proofs.FormChosen.{chosen_given, chosen_makes_false, eqb_refl, free_by_tests}

apart : (b : Bool) → b ≡ not b → ⊥
apart true h = false≢true (sym h)
apart false h = false≢true h

zero_more : (n : ℕ) → n * 2 ≡ n * 2 + 0
zero_more n = omega arith

pub always_clash : (codes : List ℕ) (u : ℕ → Bool) → IsClash codes → AreFalse u codes → ⊥
always_clash codes u c f = false≢true (sym (f c.atom true c.positive) ∙ f c.atom false (subst (Contains codes) (zero_more c.atom) c.negative))

pub always_forced : (o : Connective) (codes : List ℕ) (own : ℕ) (parts : List ℕ) (b : Bool) → Contains codes (own * 2 + sign_code b) → IsForced o codes parts b → IsAlways o codes own parts
always_forced o codes own parts b k forced u value f = apart b (sym (forced u f) ∙ sym value ∙ f own b k)

pub sometimes_open : (o : Connective) (codes : List ℕ) (own : ℕ) (parts : List ℕ) (b : Bool) → HasNoClash codes → Contains codes (own * 2 + sign_code b) → IsOpen o codes parts b
    → IsSometimesFalse o codes own parts
sometimes_open o codes own parts b clear k h =
    (chosen codes h.0 h.1, chosen_given codes h.0 h.1 own b clear k ∙ sym h.2, chosen_makes_false codes h.0 h.1 clear)

pub free_by : (codes : List ℕ) (n : ℕ) → is_in codes (n * 2 + 1) ≡ false → is_in codes (n * 2) ≡ false → IsFree codes n
free_by codes n h g = free_by_tests codes n g h

abbrev pub with_own : ℕ → Bool → (ℕ → Bool) → ℕ → Bool
with_own own b u n = if nat_eq own n then b else u n

pub at_own : (own : ℕ) (b : Bool) (u : ℕ → Bool) → with_own own b u own ≡ b
at_own own b u = ap (λ t. if t then b else u own) (eqb_refl own)

pub elsewhere : (own : ℕ) (b : Bool) (u : ℕ → Bool) (n : ℕ) → own ≢ n → with_own own b u n ≡ u n
elsewhere own b u n h = ap (λ t. if t then b else u n) (ne_eqb own n h)

same_values : (own : ℕ) (b : Bool) (u : ℕ → Bool) (ps : List ℕ) → (Contains ps own → ⊥) → map (with_own own b u) ps ≡ map u ps
same_values own b u [] h = refl
same_values own b u (p ∷ ps) h =
    ap (λ t. t ∷ map (with_own own b u) ps) (elsewhere own b u p (λ e. h (0, omega arith, sym e)))
    ∙ ap (λ ts. u p ∷ ts) (same_values own b u ps (λ k. h (suc k.0, omega (arith, k.1), k.2)))

pub sometimes_free : (o : Connective) (codes : List ℕ) (own : ℕ) (parts : List ℕ) → HasNoClash codes → IsFree codes own → (Contains parts own → ⊥) → IsSometimesFalse o codes own parts
sometimes_free o codes own parts clear free other = (
  with_own own value (chosen codes true None),
  at_own own value (chosen codes true None) ∙ ap (connective_value o) (sym (same_values own value (chosen codes true None) parts other)),
  λ n b k. elsewhere own value (chosen codes true None) n (λ e. free b (subst (λ m. Contains codes (m * 2 + sign_code b)) (sym e) k)) ∙ chosen_given codes true None n b clear k,
)
  where
    value : Bool
    value = connective_value o (map (chosen codes true None) parts)
