-- One text appended after another.
use Rattle.std.proofs.Common.{◌≡◌, ℕ, List, ◌++◌, ap, ◌∙◌, Result, Ok, Err, append_assoc}
use Rattle.std.specs.Result.{OnOk}

pub appended : {A E : Type 0} (r : Result A E) (start mid new a b : List ℕ) → mid ≡ start ++ a
    → OnOk r (new ≡ mid ++ b) → OnOk r (new ≡ start ++ (a ++ b))
appended (Ok x) start mid new a b e h = h ∙ ap (λ s. s ++ b) e ∙ append_assoc start a b
appended (Err x) start mid new a b e h = h
