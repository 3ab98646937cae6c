-- Terms of a part read one after another.
use Rattle.std.proofs.Common.{◌≡◌, ℕ, ◌<◌, inl, inr, Bool, true, false, not, List, [], ◌∷◌, ◌++◌, ◌+◌, take, length, Contains, Option, Some, None, subst, sym, ap, ◌∙◌, refl, arith, slice_index_or}
use Rattle.std.specs.Prelude.{IfSome}
use Rattle.std.specs.List.{AllZip}
use Rattle.std.proofs.lemmas.Bool.{cases_lt}
use Rattle.std.proofs.lemmas.List.{take_more, take_all}
use Rattle.std.proofs.lemmas.List.Elements.{All-nil, All-push, Contains-append_left, Contains-append_right, Contains-append_cases, Contains-push}
use Rattle.literals.specs.Signed.{Signed, opposite}
use Rattle.smt_meaning.specs.declared.clauses.Atom.{Atom}
use Rattle.smt_meaning.specs.declared.clauses.Atom.TheVariants.{Truth}
use Rattle.smt_meaning.specs.Term.{xor}
use Rattle.atom_form.specs.AtomTableNumbers.{IsAt, AreApart}
use Rattle.search_port.specs.State.{IsFalseIn, IsOpenIn}
use Rattle.congruence.proofs.Reasoning.{twice}
use Rattle.closure_log.specs.Odd.{is_odd, HasAgainst}
use Rattle.closure_log.specs.Read.{IsUntold, IsOpenTruth, IsToldTruth, assumed, counted, AreAgainst, HasOpen, IsRead}
use Rattle.closure_log.proofs.Odd.{xor_twice}

-- ---- untold terms

pub no_number : (table : List Atom) (log : List Signed) (p : ℕ) → (Contains table (Truth p) → ⊥) → IsUntold table log p
no_number table log p none b t = none (t.literal.atom, t.at.0, t.at.1 (Truth p))

pub one_place : (table : List Atom) (m n : ℕ) (a : Atom) → AreApart table → IsAt table m a → IsAt table n a → m ≡ n
one_place table m n a apart h k = elim (cases_lt m n) [
  | inl less ↦ absurd (apart m n (Truth 0) less k.0 (h.1 (Truth 0) ∙ sym (k.1 (Truth 0))))
  | inr past ↦ elim (cases_lt n m) [
    | inl less ↦ absurd (apart n m (Truth 0) less h.0 (k.1 (Truth 0) ∙ sym (h.1 (Truth 0))))
    | inr other ↦ omega arith
  ]
]

pub open_untold : (table : List Atom) (log : List Signed) (p : ℕ) (l : Signed) → AreApart table → IsOpenTruth table log p l → IsUntold table log p
open_untold table log p l apart h b t = (h.is_open t.literal (one_place table t.literal.atom l.atom (Truth p) apart t.at h.at)).0 t.told

-- ---- counts

odd-push : (bs : List Bool) (c : Bool) → is_odd (bs ++ c ∷ []) ≡ xor (is_odd bs) c
odd-push [] true = refl
odd-push [] false = refl
odd-push (b ∷ bs) c = ap (λ d. xor b d) (odd-push bs c) ∙ sym (xor_twice b (is_odd bs) c)

exchanged : (a b c : Bool) → xor (xor a b) c ≡ xor (xor a c) b
exchanged true true true = refl
exchanged true true false = refl
exchanged true false true = refl
exchanged true false false = refl
exchanged false true true = refl
exchanged false true false = refl
exchanged false false true = refl
exchanged false false false = refl

counted-told : (o : Option Signed) (b odd c : Bool) → xor (counted o b odd) c ≡ counted o b (xor odd c)
counted-told None b odd c = refl
counted-told (Some l) b odd c = exchanged odd b c

-- ---- lists

pub zip_weaker : {X Y : Type 0} (R S : X → Y → Type 0) → ((x : X) (y : Y) → R x y → S x y) → (xs : List X) (ys : List Y) → AllZip R xs ys → AllZip S xs ys
zip_weaker R S f [] [] h = tt
zip_weaker R S f [] (y ∷ ys) h = absurd h
zip_weaker R S f (x ∷ xs) [] h = absurd h
zip_weaker R S f (x ∷ xs) (y ∷ ys) h = (f x y h.0, zip_weaker R S f xs ys h.1)

pub zip_push : {X Y : Type 0} (R : X → Y → Type 0) (xs : List X) (ys : List Y) (x : X) (y : Y) → AllZip R xs ys → R x y → AllZip R (xs ++ x ∷ []) (ys ++ y ∷ [])
zip_push R [] [] x y h k = (k, tt)
zip_push R [] (z ∷ zs) x y h k = absurd h
zip_push R (w ∷ ws) [] x y h k = absurd h
zip_push R (w ∷ ws) (z ∷ zs) x y h k = (h.0, zip_push R ws zs x y h.1 k)

more_against : (table : List Atom) (ls ms : List Signed) (qs : List ℕ) (bs : List Bool) → ((l : Signed) → Contains ls l → Contains ms l) → AllZip (HasAgainst table ls) qs bs → AllZip (HasAgainst table ms) qs bs
more_against table ls ms qs bs more h =
    zip_weaker (HasAgainst table ls) (HasAgainst table ms) (λ q b (a : HasAgainst table ls q b). record { literal = a.literal; among = more a.literal a.among; against = a.against }) qs bs h

-- a literal more before the last ones
with_one : (ls ms : List Signed) (x l : Signed) → Contains (ls ++ ms) l → Contains ((ls ++ x ∷ []) ++ ms) l
with_one ls ms x l c = elim (Contains-append_cases ls ms l c) [
  | inl here ↦ Contains-append_left (ls ++ x ∷ []) ms l (Contains-append_left ls (x ∷ []) l here)
  | inr there ↦ Contains-append_right (ls ++ x ∷ []) ms l there
]

none_there : (l : Signed) → Contains [] l → ⊥
none_there l c = omega arith

from_none : (ls ms : List Signed) (l : Signed) → Contains (ls ++ []) l → Contains (ls ++ ms) l
from_none ls ms l c = elim (Contains-append_cases ls [] l c) [
  | inl here ↦ Contains-append_left ls ms l here
  | inr there ↦ absurd (none_there l there)
]

-- ---- what was read

module _ (table : List Atom) (log : List Signed) where
  pub none_read : IsRead table log [] [] None false
  none_read = record {
    is_false = All-nil (IsFalseIn log);
    has_open = tt;
    against = λ b. record { truths = []; against = tt; count = refl };
  }

  still_open : (o : Option Signed) (ps : List ℕ) (q : ℕ) → IfSome o (HasOpen table log ps) → IfSome o (HasOpen table log (ps ++ q ∷ []))
  still_open None ps q h = tt
  still_open (Some l) ps q h = record { place = h.place; among = Contains-append_left ps (q ∷ []) h.place h.among; is = h.is }

  with_told : (ps : List ℕ) (ls : List Signed) (o : Option Signed) (odd : Bool) (q : ℕ) (l : Signed) (b : Bool) → IsToldTruth table log q l → AreAgainst table (ls ++ assumed o b) ps (counted o b odd)
      → AreAgainst table ((ls ++ opposite l ∷ []) ++ assumed o b) (ps ++ q ∷ []) (counted o b (xor odd l.positive))
  with_told ps ls o odd q l b told h =
      let all : List Signed = (ls ++ opposite l ∷ []) ++ assumed o b in
      record {
        truths = h.truths ++ l.positive ∷ [];
        against = zip_push (HasAgainst table all) ps h.truths q l.positive
            (more_against table (ls ++ assumed o b) all ps h.truths (λ m c. with_one ls (assumed o b) (opposite l) m c) h.against)
            (record { literal = opposite l; among = Contains-append_left (ls ++ opposite l ∷ []) (assumed o b) (opposite l) (Contains-push ls (opposite l)); against = record { at = told.at; sign = refl } });
        count = odd-push h.truths l.positive ∙ (ap (λ d. xor d l.positive) h.count ∙ counted-told o b odd l.positive);
      }

  pub told_read : (ps : List ℕ) (ls : List Signed) (o : Option Signed) (odd : Bool) (q : ℕ) (l : Signed) → IsToldTruth table log q l → IsRead table log ps ls o odd
      → IsRead table log (ps ++ q ∷ []) (ls ++ opposite l ∷ []) o (xor odd l.positive)
  told_read ps ls o odd q l told h = record {
    is_false = All-push (IsFalseIn log) ls (opposite l) h.is_false (subst (Contains log) (sym (twice l)) told.told);
    has_open = still_open o ps q h.has_open;
    against = λ b. with_told ps ls o odd q l b told (h.against b);
  }

  with_open : (ps : List ℕ) (ls : List Signed) (odd : Bool) (q : ℕ) (l : Signed) (b : Bool) → IsOpenTruth table log q l → AreAgainst table (ls ++ []) ps odd
      → AreAgainst table (ls ++ assumed (Some l) b) (ps ++ q ∷ []) (xor odd b)
  with_open ps ls odd q l b is_open h =
      let m : Signed = record { atom = l.atom; positive = not b } in
      let all : List Signed = ls ++ m ∷ [] in
      record {
        truths = h.truths ++ b ∷ [];
        against = zip_push (HasAgainst table all) ps h.truths q b
            (more_against table (ls ++ []) all ps h.truths (λ n c. from_none ls (m ∷ []) n c) h.against)
            (record { literal = m; among = Contains-push ls m; against = record { at = is_open.at; sign = refl } });
        count = odd-push h.truths b ∙ ap (λ d. xor d b) h.count;
      }

  pub open_read : (ps : List ℕ) (ls : List Signed) (o : Option Signed) (odd : Bool) (q : ℕ) (l : Signed) → o ≡ None → IsOpenTruth table log q l → IsRead table log ps ls o odd
      → IsRead table log (ps ++ q ∷ []) ls (Some l) odd
  open_read ps ls (Some m) odd q l none is_open h = absurd cc
  open_read ps ls None odd q l none is_open h = record {
    is_false = h.is_false;
    has_open = record { place = q; among = Contains-push ps q; is = is_open };
    against = λ b. with_open ps ls odd q l b is_open (h.against b);
  }

pub read_same : (table : List Atom) (log : List Signed) (ps : List ℕ) (ls ms : List Signed) (o u : Option Signed) (odd other : Bool) → ls ≡ ms → o ≡ u → odd ≡ other → IsRead table log ps ls o odd → IsRead table log ps ms u other
read_same table log ps ls ms o u odd other e f g h =
    subst (λ (d : Bool). IsRead table log ps ms u d) g (subst (λ (v : Option Signed). IsRead table log ps ms v odd) f (subst (λ (ns : List Signed). IsRead table log ps ns o odd) e h))

pub open_truth : (table : List Atom) (log : List Signed) (p n : ℕ) (l : Signed) → IsAt table n (Truth p) → ((m : Signed) → m.atom ≡ n → IsOpenIn log m) → l ≡ record { atom = n; positive = true } → IsOpenTruth table log p l
open_truth table log p n l at is_open e = record {
  at = subst (λ (k : ℕ). IsAt table k (Truth p)) (sym (ap (λ (m : Signed). m.atom) e)) at;
  positive = ap (λ (m : Signed). m.positive) e;
  is_open = λ m f. is_open m (f ∙ ap (λ (x : Signed). x.atom) e);
}

pub one_more : (p : ℕ) (is : List ℕ) (k d : ℕ) → k < length is → p ∷ take (k + 1) is ≡ (p ∷ take k is) ++ slice_index_or is k d ∷ []
one_more p is k d less = ap (λ js. p ∷ js) (take_more is k d less)

pub later : (p : ℕ) (is : List ℕ) (q : ℕ) → Contains is q → Contains (p ∷ is) q
later p is q c = Contains-append_right (p ∷ []) is q c

pub whole_read : (table : List Atom) (log : List Signed) (p : ℕ) (is : List ℕ) (k : ℕ) (ls : List Signed) (o : Option Signed) (odd : Bool) → length is ≡ k → IsRead table log (p ∷ take k is) ls o odd
    → IsRead table log (p ∷ is) ls o odd
whole_read table log p is k ls o odd e h = subst (λ (js : List ℕ). IsRead table log (p ∷ js) ls o odd) (take_all k is (omega arith)) h
