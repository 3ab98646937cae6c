-- A full log that makes the first clauses true decides the parts.
use Rattle.std.proofs.Common.{◌≡◌, ◌⊎◌, inl, inr, ℕ, zero, suc, get_or, ◌<◌, ◌+◌, Bool, true, false, not, ◌||◌, ◌&&◌, List, [], ◌∷◌, ◌++◌, map, length, All, Contains, subst, sym, ap, ◌∙◌, arith, refl, nat_eq, eq-eqb, IsTrue, length-append}
use Rattle.std.proofs.lemmas.Bool.{eqb-true}
use Rattle.std.proofs.lemmas.List.Elements.{All-head, All-tail, All-weaker, All-contains, Contains-append_cases, Contains-append_right}
use Rattle.smt_laws.proofs.Both.{and_left, and_right}
use Rattle.literals.specs.Signed.{Signed, opposite, sign, literal_true, some_true}
use Rattle.clause_store.specs.Stored.{Kept}
use Rattle.smt_meaning.specs.declared.values.Sort.{Sort}
use Rattle.smt_meaning.specs.declared.values.Value.TheVariants.{Truth as TruthValue}
use Rattle.smt_meaning.specs.declared.terms.Operator.{Operator}
use Rattle.smt_meaning.specs.declared.terms.Operator.TheVariants.{True, False, Not, And, Or, Xor, Implies, Equal, Distinct, Ite, Add, Subtract, Multiply, AtMost, Less, AtLeast, Greater, Divide, Modulo, Absolute, Divisible}
use Rattle.smt_meaning.specs.declared.clauses.Atom.{Atom}
use Rattle.smt_meaning.specs.declared.clauses.Atom.TheVariants.{Truth}
use Rattle.smt_meaning.specs.Term.{Tree, operate, truth_of}
use Rattle.smt_meaning.specs.Stack.{signature_of, assertions_of}
use Rattle.smt_meaning.specs.StackCommand.{Stack}
use Rattle.scope_stack.specs.Facts.{AreSorts}
use Rattle.scope_stack.specs.Shown.{IsLawful}
use Rattle.search_port.specs.State.{Reading, IsConsistent, IsMadeTrue, truth_atoms}
use Rattle.clause_form.proofs.Signs.{or_left, or_right}
use Rattle.clause_form.specs.Node.{literals_of_node, NodeClausesDecide}
use Rattle.clause_form.specs.ForcedClausesLaws.{fits_clauses}
use Rattle.equality_clauses.specs.Ties.{literal, yes, no}
use Rattle.atom_form.specs.AtomTableNumbers.{IsAt}
use Rattle.check_atoms.specs.Marks.{AreStackParts}
use Rattle.check_atoms.specs.OfStack.{AreCheckAtoms}
use Rattle.order_clauses.specs.Clauses.{truth_number, part_clauses_of}
use Rattle.order_clauses.specs.Decided.{IsGiven}
use Rattle.order_clauses.proofs.Numbering.{found}
use Rattle.first_clauses.specs.Numbers.{AreNumbers}
use Rattle.first_clauses.specs.Turned.{Negates, IsKeptTurned}
use Rattle.first_clauses.specs.PartClausesFirst.{HasClause, IsAsserted, unit}
use Rattle.first_clauses.specs.CheckClausesFirst.{HasTruths, HasPart, HasParts}
use Rattle.first_clauses.specs.Holding.{DecidesNode, HoldsParts, IsAssertionTold}
use Rattle.first_clauses.specs.Laws.{FirstClausesDecideParts}
use Rattle.first_clauses.proofs.Numbering.{one_place, contained}
use Rattle.first_clauses.proofs.Turning.{in_first, only, both_clauses, KeepNegations, some_turned}
use Rattle.first_clauses.proofs.Forcing.{negations}

-- ---- the truth values of a log

-- the atom of this number is asserted to be true
abbrev told : List Signed → ℕ → Bool
told [] n = false
told (l ∷ ls) n = (l.positive && nat_eq l.atom n) || told ls n

told_yes : (log : List Signed) (n : ℕ) → Contains log (yes n) → told log n ≡ true
told_yes [] n c = absurd (omega (arith, c.1))
told_yes (l ∷ ls) n c = elim (Contains-append_cases (l ∷ []) ls (yes n) c) [
  | inl here ↦
      let e : l ≡ yes n = only l (yes n) here in
      or_left (l.positive && nat_eq l.atom n) (told ls n) (ap (λ (m : Signed). m.positive && nat_eq m.atom n) e ∙ eq-eqb n n refl)
  | inr later ↦ or_right (l.positive && nat_eq l.atom n) (told ls n) (told_yes ls n later)
]

told_there : (log : List Signed) (n : ℕ) → told log n ≡ true → Contains log (yes n)
told_there [] n e = absurd cc
told_there (l ∷ ls) n e = by (l.positive && nat_eq l.atom n) refl e (told_there ls n)
  where
    same : (b : Bool) (k : ℕ) → b ≡ true → k ≡ n → record { atom = k; positive = b } ≡ yes n
    same b k p q = ap (λ c. record { atom = k; positive = c }) p ∙ ap yes q

    by : (b : Bool) → (l.positive && nat_eq l.atom n) ≡ b → (b || told ls n) ≡ true → (told ls n ≡ true → Contains ls (yes n)) → Contains (l ∷ ls) (yes n)
    by true h e rest =
        let here : l ≡ yes n = same l.positive l.atom (and_left l.positive (nat_eq l.atom n) h) (eqb-true l.atom n (and_right l.positive (nat_eq l.atom n) h)) in
        subst (Contains (l ∷ ls)) here (in_first l ls)
    by false h e rest = Contains-append_right (l ∷ []) ls (yes n) (rest e)

module _ (log : List Signed) (consistent : IsConsistent log) where
  -- a literal of the log has its truth value
  is_told : (l : Signed) → Contains log l → told log l.atom ≡ l.positive
  is_told l c = by l.positive (told log l.atom) refl refl
    where
      by : (b t : Bool) → l.positive ≡ b → told log l.atom ≡ t → t ≡ b
      by true t p q = sym q ∙ told_yes log l.atom (subst (λ b. Contains log (literal b l.atom)) p c)
      by false false p q = refl
      by false true p q = absurd (consistent (yes l.atom) (told_there log l.atom q) (subst (λ b. Contains log (literal b l.atom)) p c))

  literal_told : (l : Signed) → Contains log l → literal_true (told log) l ≡ true
  literal_told l c = ap (sign l.positive) (is_told l c) ∙ itself l.positive
    where
      itself : (b : Bool) → sign b b ≡ true
      itself true = refl
      itself false = refl

  some_told : (f : ℕ → Bool) (ls : List Signed) (l : Signed) → Contains ls l → literal_true f l ≡ true → some_true f ls ≡ true
  some_told f [] l c t = absurd (omega (arith, c.1))
  some_told f (m ∷ ls) l c t = elim (Contains-append_cases (m ∷ []) ls l c) [
    | inl here ↦ or_left (literal_true f m) (some_true f ls) (ap (literal_true f) (only m l here) ∙ t)
    | inr later ↦ or_right (literal_true f m) (some_true f ls) (some_told f ls l later t)
  ]

  made_told : (ls : List Signed) → IsMadeTrue log ls → some_true (told log) ls ≡ true
  made_told ls h = some_told (told log) ls h.0 h.1 (literal_told h.0 h.2)

-- ---- whether the clauses of a node say all of it

-- is by the number of its arguments
fits_numbered : (g : ℕ → ℕ) (o : Operator) (is : List ℕ) → fits_clauses o (map g is) ≡ fits_clauses o is
fits_numbered g True is = refl
fits_numbered g False is = refl
fits_numbered g Not [] = refl
fits_numbered g Not (x ∷ []) = refl
fits_numbered g Not (x ∷ y ∷ is) = refl
fits_numbered g And [] = refl
fits_numbered g And (x ∷ is) = refl
fits_numbered g Or [] = refl
fits_numbered g Or (x ∷ is) = refl
fits_numbered g Xor [] = refl
fits_numbered g Xor (x ∷ []) = refl
fits_numbered g Xor (x ∷ y ∷ []) = refl
fits_numbered g Xor (x ∷ y ∷ z ∷ []) = refl
fits_numbered g Xor (x ∷ y ∷ z ∷ u ∷ is) = refl
fits_numbered g Implies [] = refl
fits_numbered g Implies (x ∷ []) = refl
fits_numbered g Implies (x ∷ y ∷ []) = refl
fits_numbered g Implies (x ∷ y ∷ z ∷ is) = refl
fits_numbered g Equal [] = refl
fits_numbered g Equal (x ∷ []) = refl
fits_numbered g Equal (x ∷ y ∷ []) = refl
fits_numbered g Equal (x ∷ y ∷ z ∷ is) = refl
fits_numbered g Distinct [] = refl
fits_numbered g Distinct (x ∷ []) = refl
fits_numbered g Distinct (x ∷ y ∷ []) = refl
fits_numbered g Distinct (x ∷ y ∷ z ∷ is) = refl
fits_numbered g Ite [] = refl
fits_numbered g Ite (x ∷ []) = refl
fits_numbered g Ite (x ∷ y ∷ []) = refl
fits_numbered g Ite (x ∷ y ∷ z ∷ []) = refl
fits_numbered g Ite (x ∷ y ∷ z ∷ u ∷ is) = refl
fits_numbered g Add is = refl
fits_numbered g Subtract is = refl
fits_numbered g Multiply is = refl
fits_numbered g AtMost is = refl
fits_numbered g Less is = refl
fits_numbered g AtLeast is = refl
fits_numbered g Greater is = refl
fits_numbered g Divide is = refl
fits_numbered g Modulo is = refl
fits_numbered g Absolute is = refl
fits_numbered g Divisible is = refl

-- ---- a stack

module _ (decide : NodeClausesDecide) (s : Stack) (marks : List Bool) (sorts : List Sort) (table : List Atom) (law : IsLawful s) (parts : AreStackParts s marks) (atoms : AreCheckAtoms s marks table)
    (sorted : AreSorts (signature_of s.frames) s.trees (length s.trees) sorts) (clauses : List Kept) (has : HasParts s marks sorts table clauses) (log : List Signed) (consistent : IsConsistent log)
    (made : (k : Kept) → Contains clauses k → IsMadeTrue log k.literals) (full : (l : Signed) → l.atom < length table → Contains log l ⊎ Contains log (opposite l)) where
  abbrev f : ℕ → Bool
  f = told log

  kept_made : (ls : List Signed) → HasClause clauses ls → IsMadeTrue log ls
  kept_made ls h = subst (IsMadeTrue log) h.literals (made h.kept h.among)

  kept_true : (ls : List Signed) → HasClause clauses ls → some_true f ls ≡ true
  kept_true ls h = made_told log consistent ls (kept_made ls h)

  -- ---- negations

  keep : KeepNegations s.trees table clauses
  keep = negations s marks sorts table law parts atoms sorted clauses has

  differ : (a b : Bool) → (a || (b || false)) ≡ true → (not a || (not b || false)) ≡ true → a ≡ not b
  differ true true p q = cc
  differ true false p q = refl
  differ false true p q = refl
  differ false false p q = cc

  negation : (n m : ℕ) → Negates s.trees table n m → f n ≡ not (f m)
  negation n m h =
      let both = both_clauses n m in
      let first = All-contains (IsKeptTurned s.trees table clauses) (literals_of_node Not n (m ∷ [])) (yes n ∷ yes m ∷ []) (keep n m h) both.0 in
      let second = All-contains (IsKeptTurned s.trees table clauses) (literals_of_node Not n (m ∷ [])) (no n ∷ no m ∷ []) (keep n m h) both.1 in
      differ (f n) (f m) (kept_true (yes n ∷ yes m ∷ []) (subst (HasClause clauses) (sym (first.short (omega arith))) first.kept))
      (kept_true (no n ∷ no m ∷ []) (subst (HasClause clauses) (sym (second.short (omega arith))) second.kept))

  turned_true : (ls : List Signed) → IsKeptTurned s.trees table clauses ls → some_true f ls ≡ true
  turned_true ls k = some_turned s.trees table f negation ls k.turned k.are ∙ kept_true k.turned k.kept

  -- ---- a node of Bools

  number_is : (n p : ℕ) → IsAt table n (Truth p) → n ≡ truth_number table p
  number_is n p at = one_place table n (truth_number table p) (Truth p) atoms.apart at (found table (Truth p) (contained table n (Truth p) at))

  given_told : (n : ℕ) (b : Bool) → IsGiven log n b → f n ≡ b
  given_told n b g = is_told log consistent (literal b n) g

  told_given : (n : ℕ) → n < length table → IsGiven log n (f n)
  told_given n h = elim (full (yes n) h) [
    | inl c ↦ subst (IsGiven log n) (sym (given_told n true c)) c
    | inr c ↦ subst (IsGiven log n) (sym (given_told n false c)) c
  ]

  numbers_are : (is ns : List ℕ) → AreNumbers table (truth_atoms is) ns → ns ≡ map (truth_number table) is
  numbers_are [] [] h = refl
  numbers_are [] (n ∷ ns) h = absurd h
  numbers_are (i ∷ is) [] h = absurd h
  numbers_are (i ∷ is) (n ∷ ns) h = ap (λ k. k ∷ ns) (number_is n i h.0) ∙ ap (λ ks. truth_number table i ∷ ks) (numbers_are is ns h.1)

  values_are : (a : ℕ → Bool) (is : List ℕ) → All (λ i. IsGiven log (truth_number table i) (a i)) is → map (λ n. TruthValue (f n)) (map (truth_number table) is) ≡ map (λ i. TruthValue (a i)) is
  values_are a [] given = refl
  values_are a (i ∷ is) given =
      let here : f (truth_number table i) ≡ a i = given_told (truth_number table i) (a i) (All-head (λ j. IsGiven log (truth_number table j) (a j)) i is given) in
      ap (λ b. TruthValue b ∷ map (λ n. TruthValue (f n)) (map (truth_number table) is)) here
      ∙ ap (λ vs. TruthValue (a i) ∷ vs) (values_are a is (All-tail (λ j. IsGiven log (truth_number table j) (a j)) i is given))

  node_decided : (p : ℕ) (o : Operator) (is : List ℕ) → HasTruths s.trees table clauses p o is → DecidesNode log table o p is
  node_decided p o is truths a fits given =
      let t : ℕ = truth_number table p in
      let xs : List ℕ = map (truth_number table) is in
      let number : truths.number ≡ t = number_is truths.number p truths.here in
      let numbers : truths.numbers ≡ xs = numbers_are is truths.numbers truths.are in
      let kept : All (IsKeptTurned s.trees table clauses) (literals_of_node o t xs) =
      subst (λ ns. All (IsKeptTurned s.trees table clauses) (literals_of_node o t ns)) numbers
      (subst (λ n. All (IsKeptTurned s.trees table clauses) (literals_of_node o n truths.numbers)) number truths.kept) in
      let all_true : All (λ ls. some_true f ls ≡ true) (literals_of_node o t xs) = All-weaker (IsKeptTurned s.trees table clauses) (λ ls. some_true f ls ≡ true) turned_true (literals_of_node o t xs) kept in
      let value : f t ≡ truth_of (operate o (map (λ i. TruthValue (a i)) is)) =
      decide f o t xs (subst IsTrue (sym (fits_numbered (truth_number table) o is)) fits) all_true ∙ ap (λ vs. truth_of (operate o vs)) (values_are a is given) in
      subst (IsGiven log t) value (told_given t (subst (λ n. n < length table) number truths.here.0))

  parts_held : HoldsParts s marks sorts table log
  parts_held p o is m n =
      let part : HasPart s sorts table clauses p o is = has p o is m n in
      record {
        of_bools = λ bools. node_decided p o is (part.of_bools bools);
        of_others = λ others. elim (part.of_others others) [
          | inl distinct ↦ inl distinct
          | inr kept ↦ inr (All-weaker (HasClause clauses) (IsMadeTrue log) kept_made (part_clauses_of sorts s.trees table o p is) kept)
        ];
      }

any_default : (xs : List Atom) (i : ℕ) (d e : Atom) → i < length xs → get_or xs i d ≡ get_or xs i e
any_default [] i d e l = absurd (omega (arith, l))
any_default (x ∷ xs) zero d e l = refl
any_default (x ∷ xs) (suc i) d e l = any_default xs i d e (omega arith)

assertion_told : (trees : List Tree) (table : List Atom) (clauses : List Kept) (log : List Signed) → ((k : Kept) → Contains clauses k → IsMadeTrue log k.literals) → (t : Tree)
    → IsAsserted trees table clauses t → IsAssertionTold trees table log t
assertion_told trees table clauses log made t a =
    let m : IsMadeTrue log (unit a.number) = subst (IsMadeTrue log) a.kept.literals (made a.kept.kept a.kept.among) in
    record { place = a.place; term = a.term; number = a.number; at = (a.within, λ d. any_default table a.number d (Truth 0) a.within ∙ a.atom); told = subst (Contains log) (sym (only (yes a.number) m.0 m.1)) m.2 }

pub parts_decided : NodeClausesDecide → FirstClausesDecideParts
parts_decided decide s marks sorts table first q log law parts atoms sorted is_first has grown full consistent made =
    let grows : q.table ≡ table ++ grown.more = ap (λ (r : Reading). r.table) grown.is in
    record {
      first = table;
      more = grown.more;
      table_is = grows;
      atoms = atoms;
      holds =
          parts_held decide s marks sorts table law parts atoms sorted first.clauses has log consistent made
          (λ l h. full l (subst (λ (xs : List Atom). l.atom < length xs) (sym grows) (longer table grown.more l.atom h)));
      asserted =
          All-weaker (IsAsserted s.trees table first.clauses) (IsAssertionTold s.trees table log) (assertion_told s.trees table first.clauses log made) (assertions_of s.frames) is_first.assertions;
    }
  where
    longer : (xs ys : List Atom) (n : ℕ) → n < length xs → n < length (xs ++ ys)
    longer xs ys n h = let e : length (xs ++ ys) ≡ length xs + length ys = length-append xs ys in omega (arith, h, e)
