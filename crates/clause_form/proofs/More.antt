-- More clauses force what fewer force.
use Rattle.std.proofs.Common.{List, ◌∷◌, ◌++◌, map, Contains, inl, inr}
use Rattle.smt_meaning.specs.Forced.{Reaches, start, unit, Forces}

reaches_more : {L : Type 0} (neg : L → L) (cs ds : List (List L)) (given : List L) → ((c : List L) → Contains cs c → Contains ds c) → (l : L) → Reaches neg cs given l → Reaches neg ds given l
reaches_more neg cs ds given inc l (start h) = start h
reaches_more neg cs ds given inc l (unit before after kept others) =
    unit before after (inc (before ++ l ∷ after) kept) (λ m h. reaches_more neg cs ds given inc (neg m) (others m h))

pub forces_more : {L : Type 0} (neg : L → L) (cs ds : List (List L)) (c : List L) → ((d : List L) → Contains cs d → Contains ds d) → Forces neg cs c → Forces neg ds c
forces_more neg cs ds c inc f before after l e =
    elim (f before after l e) [
      | inl r ↦ inl (reaches_more neg cs ds (map neg (before ++ after)) inc l r)
      | inr k ↦
          inr (record {
            clause = k.clause;
            kept = inc k.clause k.kept;
            all_false = λ m h. reaches_more neg cs ds (map neg (before ++ after)) inc (neg m) (k.all_false m h);
          })
    ]
