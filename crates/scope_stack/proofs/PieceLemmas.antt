-- What becomes of the pieces of a list that grows, is cut further, or ends sooner, and what is true of them.
use Rattle.std.proofs.Common.{◌≡◌, ◌∙◌, sym, refl, ap, ap₂, ℕ, zero, suc, ◌+◌, ◌-◌, ◌<◌, ◌≤◌, List, [], ◌∷◌, ◌++◌, take, drop, length, replicate, arith, get_or, All}
use Rattle.std.proofs.lemmas.List.{length-drop, take-append-drop, take-append-le, drop-append-le, append-nil, take_all, drop_all, take-take, drop-take}
use Rattle.std.proofs.lemmas.List.Elements.{All-nil, All-cons, All-head, All-tail}
use Rattle.scope_stack.specs.Pieces.{pieces, AreCuts, all_of, on_last}

-- what is true of all items is true of the first ones, and of the last ones
pub All-left : {A : Type 0} (P : A → Type 0) (xs ys : List A) → All P (xs ++ ys) → All P xs
All-left P [] ys h = All-nil P
All-left P (x ∷ xs) ys h = All-cons P x xs (All-head P x (xs ++ ys) h) (All-left P xs ys (All-tail P x (xs ++ ys) h))

pub All-right : {A : Type 0} (P : A → Type 0) (xs ys : List A) → All P (xs ++ ys) → All P ys
All-right P [] ys h = h
All-right P (x ∷ xs) ys h = All-right P xs ys (All-tail P x (xs ++ ys) h)

pub end_after : (at end : ℕ) (ss : List ℕ) → AreCuts at end ss → at ≤ end
end_after at end [] h = h
end_after at end (s ∷ ss) h = let le : s ≤ end = end_after s end ss h.1 in let first : at ≤ s = h.0 in omega (arith, le, first)

pub all-pieces : {A : Type 0} (at : ℕ) (xs : List A) (ss : List ℕ) → all_of (pieces at xs ss) ≡ xs
all-pieces at xs [] = append-nil xs
all-pieces at xs (s ∷ ss) = ap (λ ys. take (s - at) xs ++ ys) (all-pieces s (drop (s - at) xs) ss) ∙ take-append-drop (s - at) xs

pub length-pieces : {A : Type 0} (at : ℕ) (xs : List A) (ss : List ℕ) → length (pieces at xs ss) ≡ length ss + 1
length-pieces at xs [] = omega arith
length-pieces at xs (s ∷ ss) = let e : length (pieces s (drop (s - at) xs) ss) ≡ length ss + 1 = length-pieces s (drop (s - at) xs) ss in omega (arith, e)

-- the length of what is left stays with the end
left : {A : Type 0} (at s : ℕ) (xs : List A) (end : ℕ) → at ≤ s → s ≤ end → at + length xs ≡ end → s + length (drop (s - at) xs) ≡ end
left at s xs end p q e = let d : length (drop (s - at) xs) ≡ length xs - (s - at) = length-drop (s - at) xs in omega (arith, d, e, p, q)

within : {A : Type 0} (at s : ℕ) (xs : List A) (end : ℕ) → s ≤ end → at + length xs ≡ end → s - at ≤ length xs
within at s xs end q e = omega (arith, e, q)

pub pieces-more : {A : Type 0} (at : ℕ) (xs ys : List A) (ss : List ℕ) (end : ℕ) → at + length xs ≡ end → AreCuts at end ss → pieces at (xs ++ ys) ss ≡ on_last ys (pieces at xs ss)
pieces-more at xs ys [] end e h = refl
pieces-more at xs ys (s ∷ ss) end e h =
    let q : s ≤ end = end_after s end ss h.1 in
    let n : s - at ≤ length xs = within at s xs end q e in
    ap₂ (λ a b. a ∷ b) (take-append-le (s - at) xs ys n) (ap (λ zs. pieces s zs ss) (drop-append-le (s - at) xs ys n) ∙ pieces-more s (drop (s - at) xs) ys ss end (left at s xs end h.0 q e) h.1)
    ∙ sym (past ys (take (s - at) xs) s (drop (s - at) xs) ss)
  where
    past : {A : Type 0} (ys zs : List A) (s : ℕ) (xs : List A) (ss : List ℕ) → on_last ys (zs ∷ pieces s xs ss) ≡ zs ∷ on_last ys (pieces s xs ss)
    past ys zs s xs [] = refl
    past ys zs s xs (t ∷ ts) = refl

-- cut further at the end
take_none : {A : Type 0} (k : ℕ) → take {A = A} k [] ≡ []
take_none zero = refl
take_none (suc k) = refl

drop_none : {A : Type 0} (k : ℕ) → drop {A = A} k [] ≡ []
drop_none zero = refl
drop_none (suc k) = refl

at_end : {A : Type 0} (end n : ℕ) → pieces {A = A} end [] (replicate n end) ≡ [] ∷ replicate n []
at_end end zero = refl
at_end {A} end (suc n) = ap₂ (λ a b. a ∷ b) (take_none {A = A} (end - end)) (ap (λ zs. pieces end zs (replicate n end)) (drop_none {A = A} (end - end)) ∙ at_end {A = A} end n)

pub pieces-cut : {A : Type 0} (at : ℕ) (xs : List A) (ss : List ℕ) (end n : ℕ) → at + length xs ≡ end → AreCuts at end ss → pieces at xs (ss ++ replicate n end) ≡ pieces at xs ss ++ replicate n []
pieces-cut at xs [] end zero e h = refl
pieces-cut {A} at xs [] end (suc n) e h =
    let le : length xs ≤ end - at = omega (arith, e, h) in
    ap₂ (λ a b. a ∷ b) (take_all (end - at) xs le) (ap (λ zs. pieces end zs (replicate n end)) (drop_all (end - at) xs le) ∙ at_end {A = A} end n)
pieces-cut at xs (s ∷ ss) end n e h =
    let q : s ≤ end = end_after s end ss h.1 in
    ap (λ b. take (s - at) xs ∷ b) (pieces-cut s (drop (s - at) xs) ss end n (left at s xs end h.0 q e) h.1)

-- a cut is neither before the first nor past the last
pub cut_after : (at end : ℕ) (ss : List ℕ) (k d : ℕ) → AreCuts at end ss → k < length ss → at ≤ get_or ss k d
cut_after at end [] k d h lt = absurd (omega (arith, lt))
cut_after at end (s ∷ ss) zero d h lt = h.0
cut_after at end (s ∷ ss) (suc k) d h lt = let r : s ≤ get_or ss k d = cut_after s end ss k d h.1 (omega (arith, lt)) in let q : at ≤ s = h.0 in omega (arith, r, q)

pub cut_before : (at end : ℕ) (ss : List ℕ) (k d : ℕ) → AreCuts at end ss → k < length ss → get_or ss k d ≤ end
cut_before at end [] k d h lt = absurd (omega (arith, lt))
cut_before at end (s ∷ ss) zero d h lt = end_after s end ss h.1
cut_before at end (s ∷ ss) (suc k) d h lt = cut_before s end ss k d h.1 (omega (arith, lt))

-- what ends at a cut
shorter : {A : Type 0} (at s t : ℕ) (xs : List A) → at ≤ s → s ≤ t → drop (s - at) (take (t - at) xs) ≡ take (t - s) (drop (s - at) xs)
shorter at s t xs p q = let e : t - at ≡ (s - at) + (t - s) = omega (arith, p, q) in ap (λ n. drop (s - at) (take n xs)) e ∙ drop-take (s - at) (t - s) xs

pub pieces-take : {A : Type 0} (at : ℕ) (xs : List A) (ss : List ℕ) (end k d : ℕ) → AreCuts at end ss → k < length ss
    → pieces at (take (get_or ss k d - at) xs) (take k ss) ≡ take (suc k) (pieces at xs ss)
pieces-take at xs [] end k d h lt = absurd (omega (arith, lt))
pieces-take at xs (s ∷ ss) end zero d h lt = refl
pieces-take at xs (s ∷ ss) end (suc k) d h lt =
    let l : k < length ss = omega (arith, lt) in
    let q : s ≤ get_or ss k d = cut_after s end ss k d h.1 l in
    ap₂ (λ a b. a ∷ b) (take-take (s - at) (get_or ss k d - at) xs (omega (arith, q)))
    (ap (λ zs. pieces s zs (take k ss)) (shorter at s (get_or ss k d) xs h.0 q) ∙ pieces-take s (drop (s - at) xs) ss end k d h.1 l)

pub cuts-take : (at end : ℕ) (ss : List ℕ) (k d : ℕ) → AreCuts at end ss → k < length ss → AreCuts at (get_or ss k d) (take k ss)
cuts-take at end [] k d h lt = absurd (omega (arith, lt))
cuts-take at end (s ∷ ss) zero d h lt = h.0
cuts-take at end (s ∷ ss) (suc k) d h lt = (h.0, cuts-take s end ss k d h.1 (omega (arith, lt)))

pub cuts-more : (at end more : ℕ) (ss : List ℕ) → AreCuts at end ss → end ≤ more → AreCuts at more ss
cuts-more at end more [] h le = omega (arith, h, le)
cuts-more at end more (s ∷ ss) h le = (h.0, cuts-more s end more ss h.1 le)

cuts_at_end : (end n : ℕ) → AreCuts end end (replicate n end)
cuts_at_end end zero = omega arith
cuts_at_end end (suc n) = (omega arith, cuts_at_end end n)

pub cuts-cut : (at end n : ℕ) (ss : List ℕ) → AreCuts at end ss → AreCuts at end (ss ++ replicate n end)
cuts-cut at end zero [] h = h
cuts-cut at end (suc n) [] h = (h, cuts_at_end end n)
cuts-cut at end n (s ∷ ss) h = (h.0, cuts-cut s end n ss h.1)

-- one more piece

on_last_new : {A : Type 0} (ys : List A) (xss : List (List A)) → on_last ys (xss ++ [] ∷ []) ≡ xss ++ ys ∷ []
on_last_new ys [] = refl
on_last_new ys (xs ∷ []) = refl
on_last_new ys (xs ∷ zs ∷ rest) = ap (λ r. xs ∷ r) (on_last_new ys (zs ∷ rest))

pub pieces-above : {A : Type 0} (at : ℕ) (xs ys : List A) (ss : List ℕ) (end : ℕ) → at + length xs ≡ end → AreCuts at end ss → pieces at (xs ++ ys) (ss ++ end ∷ []) ≡ pieces at xs ss ++ ys ∷ []
pieces-above at xs ys ss end e h =
    pieces-more at xs ys (ss ++ end ∷ []) end e (cuts-cut at end 1 ss h) ∙ ap (on_last ys) (pieces-cut at xs ss end 1 e h) ∙ on_last_new ys (pieces at xs ss)
