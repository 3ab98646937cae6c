-- What is forced by clauses with what negations negate.
use Rattle.std.proofs.Common.{◌≡◌, inl, inr, ℕ, ◌≤◌, Bool, true, false, not, ◌||◌, List, [], ◌∷◌, ◌++◌, map, length, All, Contains, subst, sym, ap, ◌∙◌, arith, refl}
use Rattle.std.proofs.lemmas.List.Elements.{All-contains, Contains-append_left, Contains-append_right, Contains-append_cases, Contains-push, Contains-push_cases}
use Rattle.literals.specs.Signed.{Signed, opposite, sign, literal_true, some_true}
use Rattle.clause_store.specs.Stored.{Kept}
use Rattle.smt_meaning.specs.declared.terms.Operator.TheVariants.{Not}
use Rattle.smt_meaning.specs.declared.clauses.Atom.{Atom}
use Rattle.smt_meaning.specs.declared.clauses.Atom.TheVariants.{Truth}
use Rattle.smt_meaning.specs.Term.{Tree}
use Rattle.smt_meaning.specs.Forced.{Reaches, Conflicts, Forces}
use Rattle.smt_meaning.specs.Forced.Reaches.{start, unit}
use Rattle.clause_form.specs.Node.{literals_of_node}
use Rattle.search_port.specs.State.{truth_atoms}
use Rattle.atom_form.specs.AtomTableNumbers.{IsAt, AreApart}
use Rattle.first_clauses.specs.PartClausesFirst.{HasClause}
use Rattle.first_clauses.specs.Turned.{Negates, IsTurned, AreTurned, IsKeptTurned}
use Rattle.first_clauses.specs.Numbers.{AreNumbers}
use Rattle.first_clauses.proofs.Numbering.{one_place}

abbrev yes : ℕ → Signed
yes n = record { atom = n; positive = true }

abbrev no : ℕ → Signed
no n = record { atom = n; positive = false }

pub in_first : {X : Type 0} (x : X) (xs : List X) → Contains (x ∷ xs) x
in_first x xs = Contains-append_left (x ∷ []) xs x (Contains-push [] x)

pub in_second : {X : Type 0} (x y : X) (xs : List X) → Contains (x ∷ y ∷ xs) y
in_second x y xs = Contains-append_right (x ∷ []) (y ∷ xs) y (in_first y xs)

pub only : {X : Type 0} (x y : X) → Contains (x ∷ []) y → x ≡ y
only x y c = elim (Contains-push_cases [] x y c) [ inl none ↦ absurd (omega (arith, none.1)) | inr e ↦ e ]

-- ---- the two clauses of a negation

pub both_clauses : (n m : ℕ) → (Contains (literals_of_node Not n (m ∷ [])) (yes n ∷ yes m ∷ [])) × (Contains (literals_of_node Not n (m ∷ [])) (no n ∷ no m ∷ []))
unfolding literals_of_node
both_clauses n m = (in_first (yes n ∷ yes m ∷ []) ((no n ∷ no m ∷ []) ∷ []), in_second (yes n ∷ yes m ∷ []) (no n ∷ no m ∷ []) [])

pub one_number : (table : List Atom) (p : ℕ) (ns : List ℕ) (m : ℕ) → AreApart table → AreNumbers table (truth_atoms (p ∷ [])) ns → IsAt table m (Truth p) → ns ≡ m ∷ []
one_number table p [] m apart h at = absurd h
one_number table p (n ∷ []) m apart h at = ap (λ k. k ∷ []) (one_place table n m (Truth p) apart h.0 at)
one_number table p (n ∷ k ∷ ns) m apart h at = absurd h.1

-- ---- a turned clause says the same

turned_sign : (b c p q : Bool) → b ≡ not c → q ≡ not p → sign p b ≡ sign q c
turned_sign true true p q e f = cc
turned_sign true false true true e f = cc
turned_sign true false true false e f = refl
turned_sign true false false true e f = refl
turned_sign true false false false e f = cc
turned_sign false true true true e f = cc
turned_sign false true true false e f = refl
turned_sign false true false true e f = refl
turned_sign false true false false e f = cc
turned_sign false false p q e f = cc

module _ (trees : List Tree) (table : List Atom) (f : ℕ → Bool) (negation : (n m : ℕ) → Negates trees table n m → f n ≡ not (f m)) where
  one_turned : (l m : Signed) → IsTurned trees table l m → literal_true f l ≡ literal_true f m
  one_turned l m (inl e) = ap (literal_true f) e
  one_turned l m (inr h) = turned_sign (f l.atom) (f m.atom) l.positive m.positive (negation l.atom m.atom h.0) h.1

  pub some_turned : (ls ms : List Signed) → AreTurned trees table ls ms → some_true f ls ≡ some_true f ms
  some_turned [] [] h = refl
  some_turned [] (m ∷ ms) h = absurd h
  some_turned (l ∷ ls) [] h = absurd h
  some_turned (l ∷ ls) (m ∷ ms) h = ap (λ b. b || some_true f ls) (one_turned l m h.0) ∙ ap (λ b. literal_true f m || b) (some_turned ls ms h.1)

-- ---- literals of turned clauses

record ComesFrom (trees : List Tree) (table : List Atom) (ls : List Signed) (m : Signed) : Type 0 where
  from : Signed
  among : Contains ls from
  turned : IsTurned trees table from m

from_turned : (trees : List Tree) (table : List Atom) (ls ms : List Signed) → AreTurned trees table ls ms → (m : Signed) → Contains ms m → ComesFrom trees table ls m
from_turned trees table [] [] h m c = absurd (omega (arith, c.1))
from_turned trees table [] (x ∷ ms) h m c = absurd h
from_turned trees table (l ∷ ls) [] h m c = absurd h
from_turned trees table (l ∷ ls) (x ∷ ms) h m c = elim (Contains-append_cases (x ∷ []) ms m c) [
  | inl here ↦ record { from = l; among = in_first l ls; turned = subst (IsTurned trees table l) (only x m here) h.0 }
  | inr later ↦
      let r : ComesFrom trees table ls m = from_turned trees table ls ms h.1 m later in
      record { from = r.from; among = Contains-append_right (l ∷ []) ls r.from r.among; turned = r.turned }
]

-- a turned clause, cut where the clause is
record SplitTurned (trees : List Tree) (table : List Atom) (before after : List Signed) (l : Signed) (ms : List Signed) : Type 0 where
  front : List Signed
  one : Signed
  back : List Signed
  is : ms ≡ front ++ one ∷ back
  front_turned : AreTurned trees table before front
  one_turned : IsTurned trees table l one
  back_turned : AreTurned trees table after back

split_turned : (trees : List Tree) (table : List Atom) (before after : List Signed) (l : Signed) (ms : List Signed) → AreTurned trees table (before ++ l ∷ after) ms → SplitTurned trees table before after l ms
split_turned trees table [] after l [] h = absurd h
split_turned trees table [] after l (m ∷ ms) h = record { front = []; one = m; back = ms; is = refl; front_turned = tt; one_turned = h.0; back_turned = h.1 }
split_turned trees table (b ∷ before) after l [] h = absurd h
split_turned trees table (b ∷ before) after l (m ∷ ms) h =
    let r : SplitTurned trees table before after l ms = split_turned trees table before after l ms h.1 in
    record {
      front = m ∷ r.front;
      one = r.one;
      back = r.back;
      is = ap (λ xs. m ∷ xs) r.is;
      front_turned = (h.0, r.front_turned);
      one_turned = r.one_turned;
      back_turned = r.back_turned;
    }

pub turned_more : (trees : List Tree) (table : List Atom) (ls ms : List Signed) (l m : Signed) → AreTurned trees table ls ms → IsTurned trees table l m → AreTurned trees table (ls ++ l ∷ []) (ms ++ m ∷ [])
turned_more trees table [] [] l m h t = (t, tt)
turned_more trees table [] (x ∷ ms) l m h t = absurd h
turned_more trees table (x ∷ ls) [] l m h t = absurd h
turned_more trees table (x ∷ ls) (y ∷ ms) l m h t = (h.0, turned_more trees table ls ms l m h.1 t)

all_alike : (trees : List Tree) (table : List Atom) (ls : List Signed) → AreTurned trees table ls ls
all_alike trees table [] = tt
all_alike trees table (l ∷ ls) = (inl refl, all_alike trees table ls)

pub kept_so : (trees : List Tree) (table : List Atom) (clauses : List Kept) (ls : List Signed) → HasClause clauses ls → IsKeptTurned trees table clauses ls
kept_so trees table clauses ls h = record { turned = ls; are = all_alike trees table ls; short = λ l. refl; kept = h }

opposite_turned : (trees : List Tree) (table : List Atom) (l m : Signed) → IsTurned trees table l m → IsTurned trees table (opposite l) (opposite m)
opposite_turned trees table l m (inl e) = inl (ap opposite e)
opposite_turned trees table l m (inr h) = inr (h.0, ap not h.1)

signed_is : (l : Signed) (b : Bool) → l.positive ≡ b → l ≡ record { atom = l.atom; positive = b }
signed_is l b e = ap (λ c. record { atom = l.atom; positive = c }) e

-- the clauses of each negation whose argument has a number are kept so
abbrev pub KeepNegations : List Tree → List Atom → List Kept → Type 0
KeepNegations trees table clauses = (n m : ℕ) → Negates trees table n m → All (IsKeptTurned trees table clauses) (literals_of_node Not n (m ∷ []))

module _ (trees : List Tree) (table : List Atom) (clauses : List Kept) (negations : KeepNegations trees table clauses) (known : List (List Signed)) (among : (c : Kept) → Contains clauses c → Contains known c.literals) where
  abbrev Reached : List Signed → Signed → Type 0
  Reached given l = Reaches opposite known given l

  kept_known : (ls : List Signed) → HasClause clauses ls → Contains known ls
  kept_known ls h = subst (Contains known) h.literals (among h.kept h.among)

  short_known : (ls : List Signed) → length ls ≤ 2 → IsKeptTurned trees table clauses ls → Contains known ls
  short_known ls h k = kept_known ls (subst (HasClause clauses) (sym (k.short h)) k.kept)

  -- ---- the clauses of a negation

  either : (n m : ℕ) → Negates trees table n m → Contains known (yes n ∷ yes m ∷ [])
  either n m h =
      short_known (yes n ∷ yes m ∷ []) (omega arith) (All-contains (IsKeptTurned trees table clauses) (literals_of_node Not n (m ∷ [])) (yes n ∷ yes m ∷ []) (negations n m h) (both_clauses n m).0)

  not_both : (n m : ℕ) → Negates trees table n m → Contains known (no n ∷ no m ∷ [])
  not_both n m h =
      short_known (no n ∷ no m ∷ []) (omega arith) (All-contains (IsKeptTurned trees table clauses) (literals_of_node Not n (m ∷ [])) (no n ∷ no m ∷ []) (negations n m h) (both_clauses n m).1)

  -- ---- what is reached with a literal is reached with the other

  -- of a clause of two literals, where one is false
  second_reached : (given : List Signed) (a b : Signed) → Contains known (a ∷ b ∷ []) → Reached given (opposite a) → Reached given b
  second_reached given a b k r = unit (a ∷ []) [] k (λ m c. subst (λ x. Reached given (opposite x)) (only a m c) r)

  first_reached : (given : List Signed) (a b : Signed) → Contains known (a ∷ b ∷ []) → Reached given (opposite b) → Reached given a
  first_reached given a b k r = unit [] (b ∷ []) k (λ m c. subst (λ x. Reached given (opposite x)) (only b m c) r)

  on_by : (given : List Signed) (n m : ℕ) (b c : Bool) → Negates trees table n m → c ≡ not b → Reached given (record { atom = n; positive = b }) → Reached given (record { atom = m; positive = c })
  on_by given n m true true h e r = absurd cc
  on_by given n m true false h e r = second_reached given (no n) (no m) (not_both n m h) r
  on_by given n m false true h e r = second_reached given (yes n) (yes m) (either n m h) r
  on_by given n m false false h e r = absurd cc

  back_by : (given : List Signed) (n m : ℕ) (b c : Bool) → Negates trees table n m → c ≡ not b → Reached given (record { atom = m; positive = c }) → Reached given (record { atom = n; positive = b })
  back_by given n m true true h e r = absurd cc
  back_by given n m true false h e r = first_reached given (yes n) (yes m) (either n m h) r
  back_by given n m false true h e r = first_reached given (no n) (no m) (not_both n m h) r
  back_by given n m false false h e r = absurd cc

  on_reached : (given : List Signed) (l m : Signed) → IsTurned trees table l m → Reached given l → Reached given m
  on_reached given l m (inl e) r = subst (Reached given) e r
  on_reached given l m (inr h) r = on_by given l.atom m.atom l.positive m.positive h.0 h.1 r

  back_reached : (given : List Signed) (l m : Signed) → IsTurned trees table l m → Reached given m → Reached given l
  back_reached given l m (inl e) r = subst (Reached given) (sym e) r
  back_reached given l m (inr h) r = back_by given l.atom m.atom l.positive m.positive h.0 h.1 r

  -- ---- clauses, each kept so

  module _ (cs : List (List Signed)) (held : (c : List Signed) → Contains cs c → IsKeptTurned trees table clauses c) (given : List Signed) where
    -- where the literals of a clause are false, so are those of the turned one
    false_turned : (ls ms : List Signed) → AreTurned trees table ls ms → ((x : Signed) → Contains ls x → Reached given (opposite x)) → (m : Signed) → Contains ms m → Reached given (opposite m)
    false_turned ls ms t false_there m c =
        let r : ComesFrom trees table ls m = from_turned trees table ls ms t m c in
        on_reached given (opposite r.from) (opposite m) (opposite_turned trees table r.from m r.turned) (false_there r.from r.among)

    front_and_back : (before after front back : List Signed) → AreTurned trees table before front → AreTurned trees table after back
        → ((x : Signed) → Contains (before ++ after) x → Reached given (opposite x)) → (m : Signed) → Contains (front ++ back) m → Reached given (opposite m)
    front_and_back before after front back s t h m c = elim (Contains-append_cases front back m c) [
      | inl early ↦ false_turned before front s (λ x k. h x (Contains-append_left before after x k)) m early
      | inr late ↦ false_turned after back t (λ x k. h x (Contains-append_right before after x k)) m late
    ]

    reached : {l : Signed} → Reaches opposite cs given l → Reached given l
    reached (start c) = start c
    reached {l} (unit before after c others) =
        let k : IsKeptTurned trees table clauses (before ++ l ∷ after) = held (before ++ l ∷ after) c in
        let r : SplitTurned trees table before after l k.turned = split_turned trees table before after l k.turned k.are in
        back_reached given l r.one r.one_turned
        (unit r.front r.back (subst (Contains known) r.is (kept_known k.turned k.kept))
        (front_and_back before after r.front r.back r.front_turned r.back_turned (λ x m. reached (others x m))))

    conflicts : Conflicts opposite cs given → Conflicts opposite known given
    conflicts c =
        let k : IsKeptTurned trees table clauses c.clause = held c.clause c.kept in
        record { clause = k.turned; kept = kept_known k.turned k.kept; all_false = false_turned c.clause k.turned k.are (λ x m. reached (c.all_false x m)) }

  -- what clauses force that are kept so is forced
  pub forces_turned : (cs : List (List Signed)) → ((c : List Signed) → Contains cs c → IsKeptTurned trees table clauses c) → (ls : List Signed) → Forces opposite cs ls → Forces opposite known ls
  forces_turned cs held ls f before after l e = elim (f before after l e) [
    | inl r ↦ inl (reached cs held (map opposite (before ++ after)) r)
    | inr c ↦ inr (conflicts cs held (map opposite (before ++ after)) c)
  ]
