-- By cases on a result.
use Rattle.std.specs.Prelude.{Result, Ok, Err, IfOk, OnErr}

pub by_result : {T E : Type 0} (r : Result T E) (P : T → Type 0) (Q G : Type 0) → IfOk r P → OnErr r Q → ((n : T) → P n → G) → (Q → G) → G
by_result (Ok n) P Q G p q f g = f n p
by_result (Err e) P Q G p q f g = g q
