-- Clauses without repeats.
use Rattle.std.proofs.Common.{◌≡◌, ◌≢◌, ℕ, ◌+◌, ◌<◌, Bool, true, false, not, ◌||◌, List, [], ◌∷◌, ◌++◌, take, drop, length, get_or, Contains, refl, inl, inr, ◌⊎◌, sym, subst, ap, ◌∙◌, arith}
use Rattle.std.proofs.lemmas.List.{take_more, take-append-drop}
use Rattle.std.proofs.lemmas.List.Elements.{All-contains, All-nil, All-push, Contains-append_left, Contains-get_or, Contains-push, Contains-push_cases}
use Rattle.literals.specs.Signed.{Signed, opposite, some_true, literal_true}
use Rattle.smt_meaning.specs.Stack.{up_to as levels_to}
use Rattle.search_port.specs.State.{Reading, atom_at, truth}
use Rattle.search_port.specs.Valid.{IsOf, FollowsAt}
use Rattle.search_port.specs.declared.budget.Lemma.{Lemma}
use Rattle.search_port.specs.Forcing.{HasNoPair}
use Rattle.conflict_learn.specs.Learning.{HaveOwnAtoms}
use Rattle.clause_store.proofs.Filters.{in_head, in_tail, in_cases}
use Rattle.cdcl_core.specs.Search.{HasSameLiterals}
use Rattle.cdcl_core.specs.Turns.{GainsNew, IsDistinct}

signs : (l m : Signed) → m.atom ≡ l.atom → (m ≡ l) ⊎ (m ≡ opposite l)
signs l m e = by_sign m.positive l.positive refl refl
  where
    at : (p : Bool) → m.positive ≡ p → m ≡ record { atom = l.atom; positive = p }
    at p f = ap (λ (a : ℕ). record { atom = a; positive = m.positive }) e ∙ ap (λ (q : Bool). record { atom = l.atom; positive = q }) f

    by_sign : (p q : Bool) → m.positive ≡ p → l.positive ≡ q → (m ≡ l) ⊎ (m ≡ opposite l)
    by_sign true true f g = inl (at l.positive (f ∙ sym g))
    by_sign false false f g = inl (at l.positive (f ∙ sym g))
    by_sign true false f g = inr (at (not l.positive) (f ∙ sym (ap not g)))
    by_sign false true f g = inr (at (not l.positive) (f ∙ sym (ap not g)))

own-push : (xs : List Signed) (l : Signed) → HaveOwnAtoms xs → ((m : Signed) → Contains xs m → m.atom ≡ l.atom → ⊥) → HaveOwnAtoms (xs ++ l ∷ [])
own-push [] l h apart = (All-nil (λ (m : Signed). m.atom ≢ l.atom), tt)
own-push (x ∷ xs) l h apart = (
  All-push (λ (m : Signed). m.atom ≢ x.atom) xs l h.0 (λ e. apart x (in_head x xs) (sym e)),
  own-push xs l h.1 (λ m c e. apart m (in_tail x m xs c) e),
)

in-front : (xs : List Signed) (i : ℕ) (m : Signed) → Contains (take i xs) m → Contains xs m
in-front xs i m c = subst (λ (ys : List Signed). Contains ys m) (take-append-drop i xs) (Contains-append_left (take i xs) (drop i xs) m c)

-- what was looked at so far, without repeats
pub record Distinct (own : List Signed) (seen : List Signed) : Type 0 where
  pub same : HasSameLiterals own seen
  pub own_atoms : HaveOwnAtoms own

pub distinct-none : (own : List Signed) → own ≡ [] → Distinct own []
distinct-none own e = subst (λ (xs : List Signed). Distinct xs []) (sym e) record { same = record { there = λ l c. c; back = λ l c. c }; own_atoms = tt }

pub distinct-more : (ls old new : List Signed) (i : ℕ) (l : Signed) → HasNoPair ls → i < length ls → l ≡ get_or ls i l → Distinct old (take i ls) → GainsNew old new l → Distinct new (take (i + 1) ls)
distinct-more ls old new i l none lt is h gains = subst (Distinct new) (sym more) (by_cases gains)
  where
    more : take (i + 1) ls ≡ take i ls ++ l ∷ []
    more = take_more ls i l lt ∙ ap (λ (x : Signed). take i ls ++ x ∷ []) (sym is)

    here : Contains ls l
    here = subst (Contains ls) (sym is) (Contains-get_or ls i l lt)

    by_cases : GainsNew old new l → Distinct new (take i ls ++ l ∷ [])
    by_cases (inl g) = subst (λ (xs : List Signed). Distinct xs (take i ls ++ l ∷ [])) (sym g.1) record {
      same = record {
        there = λ m c. Contains-append_left (take i ls) (l ∷ []) m (h.same.there m c);
        back = λ m c. elim (Contains-push_cases (take i ls) l m c) [
          | inl before ↦ h.same.back m before
          | inr at ↦ subst (Contains old) at g.0
        ];
      };
      own_atoms = h.own_atoms;
    }
    by_cases (inr g) = subst (λ (xs : List Signed). Distinct xs (take i ls ++ l ∷ [])) (sym g.1) record {
      same = record {
        there = λ m c. elim (Contains-push_cases old l m c) [
          | inl before ↦ Contains-append_left (take i ls) (l ∷ []) m (h.same.there m before)
          | inr at ↦ subst (Contains (take i ls ++ l ∷ [])) at (Contains-push (take i ls) l)
        ];
        back = λ m c. elim (Contains-push_cases (take i ls) l m c) [
          | inl before ↦ Contains-append_left old (l ∷ []) m (h.same.back m before)
          | inr at ↦ subst (Contains (old ++ l ∷ [])) at (Contains-push old l)
        ];
      };
      own_atoms = own-push old l h.own_atoms (λ m c e. elim (signs l m e) [
        | inl same ↦ g.0 (subst (Contains old) same c)
        | inr other ↦ none l here (subst (Contains ls) other (in-front ls i m (h.same.there m c)))
      ]);
    }

-- ---- the same literals

or-left : (b c : Bool) → b ≡ true → (b || c) ≡ true
or-left true c h = refl
or-left false c h = cc

or-right : (b c : Bool) → c ≡ true → (b || c) ≡ true
or-right true c h = refl
or-right false c h = h

one-true : (v : ℕ → Bool) (ls : List Signed) (l : Signed) → Contains ls l → literal_true v l ≡ true → some_true v ls ≡ true
one-true v [] l c e = absurd (omega (arith, c.1))
one-true v (m ∷ ls) l c e = elim (in_cases m l ls c) [
  | inl same ↦ or-left (literal_true v m) (some_true v ls) (subst (λ (x : Signed). literal_true v x ≡ true) (sym same) e)
  | inr later ↦ or-right (literal_true v m) (some_true v ls) (one-true v ls l later e)
]

some-same : (v : ℕ → Bool) (ls ms : List Signed) → ((l : Signed) → Contains ls l → Contains ms l) → some_true v ls ≡ true → some_true v ms ≡ true
some-same v [] ms there e = cc
some-same v (l ∷ ls) ms there e = by_head (literal_true v l) refl e (λ f. some-same v ls ms (λ m c. there m (in_tail l m ls c)) f)
  where
    by_head : (b : Bool) → literal_true v l ≡ b → (b || some_true v ls) ≡ true → (some_true v ls ≡ true → some_true v ms ≡ true) → some_true v ms ≡ true
    by_head true is f later = one-true v ms l (there l (in_head l ls)) is
    by_head false is f later = later f

pub follows-same : (r : Reading) (c d : Lemma) → IsDistinct c d → FollowsAt r c.level c.literals → FollowsAt r d.level d.literals
follows-same r c d h f = subst (λ (n : ℕ). FollowsAt r n d.literals) (sym h.level) record {
  true_wherever = λ I interprets holds. some-same (truth r I) c.literals d.literals h.literals.back (f.true_wherever I interprets holds);
  at_level = λ k x lt. All-contains (λ (l : Signed). IsOf r.trees (levels_to c.level r.frames) (atom_at r.table l.atom)) c.literals (get_or d.literals k x) f.at_level (h.literals.there (get_or d.literals k x) (Contains-get_or d.literals k x lt));
}
