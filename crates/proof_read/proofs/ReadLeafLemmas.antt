-- The leaves of summands that are read.
use Rattle.std.proofs.Common.{◌≡◌, ℕ, ℤ, ◌+◌, ◌<◌, List, [], ◌∷◌, ◌++◌, ap, sym, ◌∙◌, refl, arith, length, append_assoc, append-nil, Bool, true, false, Option, Some, None}
use Rattle.std.specs.Prelude.{if◌then◌else◌}
use Rattle.std.specs.Borrow.{Bor}
use Rattle.std.proofs.lemmas.List.{map-append}
use Rattle.smt_meaning.specs.declared.tokens.Token.{Token}
use Rattle.smt_meaning.specs.declared.tokens.Token.TheVariants.{Numeral}
use Rattle.smt_meaning.specs.declared.clauses.Summand.{Summand}
use Rattle.smt_meaning.specs.Sexp.{Sexp, Sexps, word, group, end, ◌▸◌}
use Rattle.smt_meaning.specs.Sorts.{decimal}
use Rattle.smt_meaning.specs.Command.{each, cons_some}
use Rattle.smt_meaning.specs.Linear.{is_zero, summand}
use Rattle.proof_meaning.specs.Reading.{with, integer}
use Rattle.look_ahead.specs.Ahead.{ahead, IsList, IsNext}
use Rattle.proof_read.specs.declared.read_parts.Progress.{Progress}
use Rattle.proof_read.specs.ReadParts.{Passes, stepped, first_by}
use Rattle.proof_read.specs.ReadSums.{summand_in, terms_of}
use Rattle.proof_read.specs.ReadApart.{IsLeaf, numbers_of}

leaf_is : (x : Sexp) (cs : List ℕ) (rest : Sexps) (p : Summand) → summand_in (group (x ▸ word (Numeral cs) ▸ rest)) ≡ Some p → p.term ≡ decimal cs
leaf_is x cs (y ▸ rest) p h = absurd (cc)
leaf_is x cs end p h = go (integer x) h
  where
    go : (o : Option ℤ) → with (with o (λ k. Some (summand (decimal cs) k))) (λ (s : Summand). if is_zero s.coefficient then None else Some s) ≡ Some p → p.term ≡ decimal cs
    go None e = absurd (cc)
    go (Some k) e = inner (is_zero k) e
      where
        inner : (b : Bool) → (if b then None else Some (summand (decimal cs) k)) ≡ Some p → p.term ≡ decimal cs
        inner true f = absurd (cc)
        inner false f = let same : summand (decimal cs) k ≡ p = cc in ap (λ (s : Summand). s.term) (sym same)

pub has_leaf : (ts : List Token) (old mid next last : Progress) (close j : ℕ) (cs : List ℕ) → IsList ts old.place close → mid ≡ stepped old → IsNext ts mid.place j → next.place ≡ j → Passes ts next last (Numeral cs)
    → IsLeaf ts old (record last { place = close + 1 }) cs
has_leaf ts old mid next last close j cs h s k e n =
    let before : old.place < close = h.order in
    let inside : close < length ts = h.within in record {
      next = record { order = omega arith; within = omega arith; part = group (ahead ts (old.place + 1)); is = h.is };
      leaf =
          λ p f.
          leaf_is k.part cs (ahead ts (next.place + 1)) p
          (ap (λ ss. summand_in (group ss))
          (sym (ap (λ (q : Progress). ahead ts q.place) (sym s) ∙ k.is ∙ ap (λ i. k.part ▸ ahead ts i) (sym e) ∙ ap (λ ss. k.part ▸ ss) n.is))
          ∙ f);
    }

-- the leaves up to a place
pub LeavesSoFar : List Token → ℕ → ℕ → List (Bor (List ℕ)) → Type 0
LeavesSoFar ts start i bs = (ps : List Summand) → each summand_in (ahead ts start) ≡ Some ps → (qs : List Summand) × (each summand_in (ahead ts i) ≡ Some qs) × (numbers_of bs ++ terms_of qs ≡ terms_of ps)

pub no_leaves : (ts : List Token) (start i : ℕ) (bs : List (Bor (List ℕ))) → start ≡ i → bs ≡ [] → LeavesSoFar ts start i bs
unfolding LeavesSoFar
no_leaves ts start i bs e f ps h = (ps, ap (λ j. each summand_in (ahead ts j)) (sym e) ∙ h, ap (λ xs. numbers_of xs ++ terms_of ps) f)

first_of_each : (x : Sexp) (ss : Sexps) (ps : List Summand) → each summand_in (x ▸ ss) ≡ Some ps → (p : Summand) × (qs : List Summand) × (summand_in x ≡ Some p) × (each summand_in ss ≡ Some qs) × (p ∷ qs ≡ ps)
first_of_each x ss ps h = go (summand_in x) (each summand_in ss) refl refl h
  where
    go : (o : Option Summand) (r : Option (List Summand)) → summand_in x ≡ o → each summand_in ss ≡ r → cons_some o r ≡ Some ps
        → (p : Summand) × (qs : List Summand) × (summand_in x ≡ Some p) × (each summand_in ss ≡ Some qs) × (p ∷ qs ≡ ps)
    go None r e f g = absurd (cc)
    go (Some p) None e f g = absurd (cc)
    go (Some p) (Some qs) e f g = (p, qs, e, f, let same : p ∷ qs ≡ ps = cc in same)

pub one_leaf_more : (ts : List Token) (start : ℕ) (at new : Progress) (bs more : List (Bor (List ℕ))) (b : Bor (List ℕ)) → LeavesSoFar ts start at.place bs → IsLeaf ts at new b.now → more ≡ bs ++ b ∷ []
    → LeavesSoFar ts start new.place more
unfolding LeavesSoFar
one_leaf_more ts start at new bs more b h k e ps f =
    let w = h ps f in
    let u = first_of_each k.next.part (ahead ts new.place) w.0 (ap (each summand_in) (sym k.next.is) ∙ w.1) in
    let leaf : u.0.term ≡ decimal b.now = k.leaf u.0 u.2 in (
      u.1,
      u.3,
      ap (λ xs. numbers_of xs ++ terms_of u.1) e ∙ ap (λ ns. ns ++ terms_of u.1) (map-append (λ (x : Bor (List ℕ)). decimal x.now) bs (b ∷ []))
          ∙ append_assoc (numbers_of bs) (decimal b.now ∷ []) (terms_of u.1) ∙ ap (λ n. numbers_of bs ++ n ∷ terms_of u.1) (sym leaf) ∙ ap (λ qs. numbers_of bs ++ terms_of qs) u.4 ∙ w.2,
    )

pub all_leaves : (ts : List Token) (start i : ℕ) (bs : List (Bor (List ℕ))) → LeavesSoFar ts start i bs → ((p : Summand) → first_by summand_in (ahead ts i) ≡ Some p → ⊥)
    → (ps : List Summand) → each summand_in (ahead ts start) ≡ Some ps → numbers_of bs ≡ terms_of ps
unfolding LeavesSoFar
all_leaves ts start i bs h k ps f = go (ahead ts i) k (h ps f)
  where
    go : (ss : Sexps) → ((p : Summand) → first_by summand_in ss ≡ Some p → ⊥) → (qs : List Summand) × (each summand_in ss ≡ Some qs) × (numbers_of bs ++ terms_of qs ≡ terms_of ps) → numbers_of bs ≡ terms_of ps
    go end g w = let none : [] ≡ w.0 = cc in sym (append-nil (numbers_of bs)) ∙ ap (λ qs. numbers_of bs ++ terms_of qs) none ∙ w.2
    go (x ▸ ss) g w = let u = first_of_each x ss w.0 w.1 in absurd (g u.0 u.2)
