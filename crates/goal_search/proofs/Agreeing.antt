-- Levels of which the same assertions are kept.
use Rattle.std.proofs.Common.{◌≡◌, ◌∙◌, refl, ap, ap₂, ℕ, ◌+◌, ◌<◌, ◌≤◌, Bool, true, List, [], ◌∷◌, ◌++◌, length, arith}
use Rattle.std.specs.Prelude.{if◌then◌else◌}
use Rattle.std.proofs.lemmas.List.{length-append, length-map}
use Rattle.smt_meaning.specs.Stack.{Assertion, Frame, assertions_of, terms_of}
use Rattle.smt_meaning.specs.Keeping.{kept_from, keeping_from, keeping}

kept_same : (k l : ℕ → Bool) (at : ℕ) (xs : List Assertion) → ((q : ℕ) → at ≤ q → q < at + length xs → k q ≡ l q) → kept_from k at xs ≡ kept_from l at xs
kept_same k l at [] h = refl
kept_same k l at (x ∷ xs) h =
    ap₂ (λ b r. if b then x ∷ r else r) (h at (omega arith) (omega arith)) (kept_same k l (at + 1) xs (λ q a b. h q (omega (arith, a)) (omega (arith, b))))

sizes : (f : Frame) (frames : List Frame) → length (assertions_of (f ∷ frames)) ≡ length f.asserted + length (assertions_of frames)
sizes f frames =
    let e : length (terms_of f ++ assertions_of frames) ≡ length (terms_of f) + length (assertions_of frames) = length-append (terms_of f) (assertions_of frames) in
    let m : length (terms_of f) ≡ length f.asserted = length-map f.asserted (λ (a : Assertion). a.term) in
    e ∙ ap (λ n. n + length (assertions_of frames)) m

same_from : (k l : ℕ → Bool) (at : ℕ) (frames : List Frame) → ((q : ℕ) → at ≤ q → q < at + length (assertions_of frames) → k q ≡ l q) → keeping_from k at frames ≡ keeping_from l at frames
same_from k l at [] h = refl
same_from k l at (f ∷ frames) h =
    let n : length (assertions_of (f ∷ frames)) ≡ length f.asserted + length (assertions_of frames) = sizes f frames in
    ap₂ (λ zs r. record { declared = f.declared; asserted = zs } ∷ r) (kept_same k l at f.asserted (λ q a b. h q a (omega (arith, b, n))))
    (same_from k l (at + length f.asserted) frames (λ q a b. h q (omega (arith, a)) (omega (arith, b, n))))

-- where the same places are kept of those that there are
pub keeping_same : (k l : ℕ → Bool) (frames : List Frame) → ((q : ℕ) → q < length (assertions_of frames) → k q ≡ l q) → keeping k frames ≡ keeping l frames
keeping_same k l frames h = same_from k l 0 frames (λ q a b. h q (omega (arith, b)))

kept_all : (k : ℕ → Bool) (at : ℕ) (xs : List Assertion) → ((q : ℕ) → at ≤ q → q < at + length xs → k q ≡ true) → kept_from k at xs ≡ xs
kept_all k at [] h = refl
kept_all k at (x ∷ xs) h =
    ap (λ b. if b then x ∷ kept_from k (at + 1) xs else kept_from k (at + 1) xs) (h at (omega arith) (omega arith))
    ∙ ap (λ r. x ∷ r) (kept_all k (at + 1) xs (λ q a b. h q (omega (arith, a)) (omega (arith, b))))

all_from : (k : ℕ → Bool) (at : ℕ) (frames : List Frame) → ((q : ℕ) → at ≤ q → q < at + length (assertions_of frames) → k q ≡ true) → keeping_from k at frames ≡ frames
all_from k at [] h = refl
all_from k at (f ∷ frames) h =
    let n : length (assertions_of (f ∷ frames)) ≡ length f.asserted + length (assertions_of frames) = sizes f frames in
    ap₂ (λ zs r. record { declared = f.declared; asserted = zs } ∷ r) (kept_all k at f.asserted (λ q a b. h q a (omega (arith, b, n))))
    (all_from k (at + length f.asserted) frames (λ q a b. h q (omega (arith, a)) (omega (arith, b, n))))

-- where each is kept
pub keeping_all : (k : ℕ → Bool) (frames : List Frame) → ((q : ℕ) → q < length (assertions_of frames) → k q ≡ true) → keeping k frames ≡ frames
keeping_all k frames h = all_from k 0 frames (λ q a b. h q (omega (arith, b)))
