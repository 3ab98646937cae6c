-- A stack's newest items.
use Rattle.std.proofs.Common.{◌≡◌, ℕ, ◌-◌, ◌≤◌, List, length, take, drop, ap, sym, ◌∙◌, arith, inl, inr}
use Rattle.std.specs.Prelude.{reverse}
use Rattle.std.proofs.lemmas.Bool.{cases_lt}
use Rattle.std.proofs.lemmas.List.{reverse-append, length-reverse, take-append-drop, drop_at, drop_all, length-drop}

pub cut_top : {X : Type 0} (xs ys : List X) (k m : ℕ) → m ≡ length xs - k → ys ≡ take m xs → reverse ys ≡ drop k (reverse xs)
cut_top xs ys k m e h =
    ap reverse h
    ∙ elim (cases_lt (length xs) k) [
      | inl below ↦
          (let zero_m : m ≡ 0 = omega arith in
          let short : length (reverse xs) ≤ k = omega (arith, length-reverse xs) in
          ap (λ n. reverse (take n xs)) zero_m ∙ sym (drop_all k (reverse xs) short))
      | inr above ↦
          (let size : length (reverse (drop m xs)) ≡ k = omega (arith, length-reverse (drop m xs), length-drop m xs) in
          sym (drop_at (reverse (drop m xs)) (reverse (take m xs)) k size) ∙ ap (drop k) (sym (reverse-append (take m xs) (drop m xs)) ∙ ap reverse (take-append-drop m xs)))
    ]
