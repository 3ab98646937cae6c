-- Cores of the last check: the candidates, and what of them is listed.
use Rattle.std.proofs.Common.{◌+◌, ◌≤◌, ◌<◌, ℕ, zero, suc, ℤ, Bool, true, false, List, [], ◌∷◌, length, subst, arith, All, if◌then◌else◌}
use Rattle.std.specs.Prelude.{filter}
use Rattle.std.specs.List.{range_with_len}
use Rattle.std.proofs.lemmas.List.Elements.{All-nil, All-cons, All-head, All-tail}
use Rattle.smt_meaning.specs.declared.tokens.Token.{Token}
use Rattle.smt_meaning.specs.declared.replies.Held.{Held}
use Rattle.smt_meaning.specs.Sexp.{sexp}
use Rattle.smt_meaning.specs.Signature.{is_some}
use Rattle.smt_meaning.specs.Core.{IsReduced, name_of, named_places, places}
use Rattle.smt_meaning.specs.Keeping.{is_in}
use Rattle.smt_meaning.specs.Term.{Tree}
use Rattle.smt_meaning.specs.Stack.{Frame}
use Rattle.goal_search.specs.Tries.{AreCandidates}

-- ---- candidates

later_first : (first first' end : ℕ) (ps : List ℕ) → first ≤ first' → AreCandidates first' end ps → AreCandidates first end ps
later_first first first' end [] le h = tt
later_first first first' end (p ∷ ps) le h = (omega (arith, le, h.0), h.1, h.2)

pub names_are_candidates : (k : ℕ) (ts : List (List Token)) (end : ℕ) → k + length ts ≤ end → AreCandidates k end (named_places k ts)
names_are_candidates k [] end le = tt
names_are_candidates k (t ∷ ts) end le =
    elim (is_some (name_of (sexp t))) as (λ b. AreCandidates k end (if b then k ∷ named_places (k + 1) ts else named_places (k + 1) ts)) [
      | true ↦ (omega arith, omega (arith, le), names_are_candidates (k + 1) ts end (omega (arith, le)))
      | false ↦ later_first k (k + 1) end (named_places (k + 1) ts) (omega arith) (names_are_candidates (k + 1) ts end (omega (arith, le)))
    ]

pub ranges_are_candidates : (k n end : ℕ) → k + n ≤ end → AreCandidates k end (range_with_len k n)
ranges_are_candidates k zero end le = tt
ranges_are_candidates k (suc n) end le = (omega arith, omega (arith, le), ranges_are_candidates (k + 1) n end (omega (arith, le)))

pub from_first : (k end : ℕ) (ps : List ℕ) → AreCandidates k end ps → AreCandidates 0 end ps
from_first k end ps h = later_first 0 k end ps (omega arith) h

candidates_within : (first end : ℕ) (ps : List ℕ) → AreCandidates first end ps → All (λ p. (first ≤ p) × (p < end)) ps
candidates_within first end [] h = All-nil (λ p. (first ≤ p) × (p < end))
candidates_within first end (p ∷ ps) h =
    All-cons (λ q. (first ≤ q) × (q < end)) p ps (h.0, h.1) (widen ps (candidates_within (p + 1) end ps h.2))
  where
    widen : (qs : List ℕ) → All (λ q. (p + 1 ≤ q) × (q < end)) qs → All (λ q. (first ≤ q) × (q < end)) qs
    widen [] a = All-nil (λ q. (first ≤ q) × (q < end))
    widen (q ∷ qs) a =
        let g = All-head (λ r. (p + 1 ≤ r) × (r < end)) q qs a in
        All-cons (λ r. (first ≤ r) × (r < end)) q qs (omega (arith, h.0, g.0), g.1) (widen qs (All-tail (λ r. (p + 1 ≤ r) × (r < end)) q qs a))

filtered : (P : ℕ → Type 0) (f : ℕ → Bool) (ps : List ℕ) → All P ps → All P (filter f ps)
filtered P f [] h = All-nil P
filtered P f (p ∷ ps) h =
    elim (f p) as (λ b. All P (if b then p ∷ filter f ps else filter f ps)) [
      | true ↦ All-cons P p (filter f ps) (All-head P p ps h) (filtered P f ps (All-tail P p ps h))
      | false ↦ filtered P f ps (All-tail P p ps h)
    ]

of_places : (P : ℕ → Type 0) (hs : List Held) → All P (places hs) → All (λ (h : Held). P h.place) hs
of_places P [] a = All-nil (λ (h : Held). P h.place)
of_places P (h ∷ hs) a = All-cons (λ (x : Held). P x.place) h hs (All-head P h.place (places hs) a) (of_places P hs (All-tail P h.place (places hs) a))

-- what is listed lies where the candidates do
pub held_within : (first end : ℕ) (ts : List Tree) (frames : List Frame) (workers : ℕ) (limit : ℤ) (cs : List ℕ) (hs : List Held) → AreCandidates first end cs → IsReduced workers ts frames limit cs hs
    → All (λ (h : Held). (first ≤ h.place) × (h.place < end)) hs
held_within first end ts frames workers limit cs hs c r =
    of_places (λ p. (first ≤ p) × (p < end)) hs (subst (All (λ p. (first ≤ p) × (p < end))) r.listed (filtered (λ p. (first ≤ p) × (p < end)) (is_in (places hs)) cs (candidates_within first end cs c)))
