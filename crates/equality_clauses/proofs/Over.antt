-- The atoms that the clauses are over, none twice in one.
use Rattle.std.proofs.Common.{◌≡◌, ◌≢◌, ℕ, Bool, true, false, not, nat_eq, List, [], ◌∷◌, ◌++◌, map, All, Contains, refl, sym, subst, ◌∙◌, arith, eq-eqb}
use Rattle.std.specs.Prelude.{if◌then◌else◌}
use Rattle.std.proofs.lemmas.List.{map-append, get_or_default}
use Rattle.std.proofs.lemmas.List.Elements.{All-cons, All-nil, All-head, All-tail, All-push, All-map, All-weaker, All-contains_itself, Contains-append_right}
use Rattle.literals.specs.Signed.{Signed}
use Rattle.smt_meaning.specs.declared.terms.Operator.TheVariants.{True, False, Not, And, Or, Xor, Implies, Equal, Distinct, Ite, Add, Subtract, Multiply, AtMost, Less, AtLeast, Greater, Divide, Modulo, Absolute, Divisible}
use Rattle.clause_form.specs.Node.{HasNoAtomTwice}
use Rattle.equality_clauses.specs.Once.{is_in, once}
use Rattle.equality_clauses.specs.Ties.{literal, yes, no, joined, parity}
use Rattle.equality_clauses.specs.Laws.{IsOver, ComparisonIsOver, ChoiceIsOver, SamenessIsOver}
use Rattle.equality_clauses.proofs.OnceLemmas.{taken_all-keeps, All-once, in_at}

one_atom : (n : ℕ) (b : Bool) → HasNoAtomTwice (literal b n ∷ [])
one_atom n b = (All-nil (λ (m : Signed). n ≢ m.atom), tt)

two_atoms : (m n : ℕ) (b c : Bool) → m ≢ n → HasNoAtomTwice (literal b m ∷ literal c n ∷ [])
two_atoms m n b c h = (All-cons (λ (l : Signed). m ≢ l.atom) (literal c n) [] h (All-nil (λ (l : Signed). m ≢ l.atom)), one_atom n c)

three_atoms : (l m n : ℕ) (a b c : Bool) → l ≢ m → l ≢ n → m ≢ n → HasNoAtomTwice (literal a l ∷ literal b m ∷ literal c n ∷ [])
three_atoms l m n a b c lm ln mn = (
  All-cons (λ (k : Signed). l ≢ k.atom) (literal b m) (literal c n ∷ []) lm (All-cons (λ (k : Signed). l ≢ k.atom) (literal c n) [] ln (All-nil (λ (k : Signed). l ≢ k.atom))),
  two_atoms m n b c mn,
)

twice_push : (ls : List Signed) (m : Signed) → HasNoAtomTwice ls → All (λ (l : Signed). l.atom ≢ m.atom) ls → HasNoAtomTwice (ls ++ m ∷ [])
twice_push [] m h other = (All-nil (λ (k : Signed). m.atom ≢ k.atom), tt)
twice_push (l ∷ ls) m h other = (
  All-push (λ (k : Signed). l.atom ≢ k.atom) ls m h.0 (All-head (λ (k : Signed). k.atom ≢ m.atom) l ls other),
  twice_push ls m h.1 (All-tail (λ (k : Signed). k.atom ≢ m.atom) l ls other),
)

not_in : (ns : List ℕ) (n : ℕ) → is_in n ns ≡ false → All (λ m. m ≢ n) ns
not_in ns n out k d h e = let x : true ≡ false = sym (in_at ns k n h (get_or_default ns k 0 d h ∙ e)) ∙ out in cc

once_apart : (b : Bool) (ns : List ℕ) → HasNoAtomTwice (map (literal b) (once ns))
once_apart b ns =
    taken_all-keeps (λ xs. HasNoAtomTwice (map (literal b) xs)) [] ns
    (λ xs n c out h. subst HasNoAtomTwice (sym (map-append (literal b) xs (n ∷ [])))
    (twice_push (map (literal b) xs) (literal b n) h (All-map (λ (l : Signed). l.atom ≢ n) (literal b) xs (not_in xs n out)))) tt

module _ (t : ℕ) (s : Bool) (pairs : List ℕ) (new : Contains pairs t → ⊥) where
  other_than : (n : ℕ) → Contains pairs n → t ≢ n
  other_than n c e = new (subst (Contains pairs) (sym e) c)

  kept : All (Contains pairs) (once pairs)
  kept = All-once (Contains pairs) pairs (All-contains_itself pairs)

  joined_over : All (IsOver (t ∷ pairs)) (joined t s (once pairs))
  joined_over =
      All-cons (IsOver (t ∷ pairs)) (yes t ∷ map (literal (not s)) (once pairs)) (map (λ n. no t ∷ literal s n ∷ []) (once pairs))
      (record {
        over = All-cons (λ (l : Signed). Contains (t ∷ pairs) l.atom) (yes t) (map (literal (not s)) (once pairs)) here
            (All-map (λ (l : Signed). Contains (t ∷ pairs) l.atom) (literal (not s)) (once pairs) (All-weaker (Contains pairs) (Contains (t ∷ pairs)) later (once pairs) kept));
        once = (All-map (λ (l : Signed). t ≢ l.atom) (literal (not s)) (once pairs) (All-weaker (Contains pairs) (λ n. t ≢ n) other_than (once pairs) kept), once_apart (not s) pairs);
      })
      (All-map (IsOver (t ∷ pairs)) (λ n. no t ∷ literal s n ∷ []) (once pairs) (All-weaker (Contains pairs) (λ n. IsOver (t ∷ pairs) (no t ∷ literal s n ∷ [])) binary (once pairs) kept))
    where
      here : Contains (t ∷ pairs) t
      here = (0, omega arith, refl)

      later : (n : ℕ) → Contains pairs n → Contains (t ∷ pairs) n
      later n c = Contains-append_right (t ∷ []) pairs n c

      binary : (n : ℕ) → Contains pairs n → IsOver (t ∷ pairs) (no t ∷ literal s n ∷ [])
      binary n c = record {
        over = All-cons (λ (l : Signed). Contains (t ∷ pairs) l.atom) (no t) (literal s n ∷ []) (0, omega arith, refl)
            (All-cons (λ (l : Signed). Contains (t ∷ pairs) l.atom) (literal s n) [] (Contains-append_right (t ∷ []) pairs n c) (All-nil (λ (l : Signed). Contains (t ∷ pairs) l.atom)));
        once = two_atoms t n false s (other_than n c);
      }

pub comparison_over : ComparisonIsOver
comparison_over Equal t pairs new = joined_over t true pairs new
comparison_over Distinct t pairs new = joined_over t false pairs new
comparison_over True t pairs new = All-nil (IsOver (t ∷ pairs))
comparison_over False t pairs new = All-nil (IsOver (t ∷ pairs))
comparison_over Not t pairs new = All-nil (IsOver (t ∷ pairs))
comparison_over And t pairs new = All-nil (IsOver (t ∷ pairs))
comparison_over Or t pairs new = All-nil (IsOver (t ∷ pairs))
comparison_over Xor t pairs new = All-nil (IsOver (t ∷ pairs))
comparison_over Implies t pairs new = All-nil (IsOver (t ∷ pairs))
comparison_over Ite t pairs new = All-nil (IsOver (t ∷ pairs))
comparison_over Add t pairs new = All-nil (IsOver (t ∷ pairs))
comparison_over Subtract t pairs new = All-nil (IsOver (t ∷ pairs))
comparison_over Multiply t pairs new = All-nil (IsOver (t ∷ pairs))
comparison_over AtMost t pairs new = All-nil (IsOver (t ∷ pairs))
comparison_over Less t pairs new = All-nil (IsOver (t ∷ pairs))
comparison_over AtLeast t pairs new = All-nil (IsOver (t ∷ pairs))
comparison_over Greater t pairs new = All-nil (IsOver (t ∷ pairs))
comparison_over Divide t pairs new = All-nil (IsOver (t ∷ pairs))
comparison_over Modulo t pairs new = All-nil (IsOver (t ∷ pairs))
comparison_over Absolute t pairs new = All-nil (IsOver (t ∷ pairs))
comparison_over Divisible t pairs new = All-nil (IsOver (t ∷ pairs))

-- ---- lists of two and of three atoms

over_one : (atoms : List ℕ) (n : ℕ) (b : Bool) → Contains atoms n → All (λ (l : Signed). Contains atoms l.atom) (literal b n ∷ [])
over_one atoms n b c = All-cons (λ (l : Signed). Contains atoms l.atom) (literal b n) [] c (All-nil (λ (l : Signed). Contains atoms l.atom))

over_two : (atoms : List ℕ) (m n : ℕ) (b c : Bool) → Contains atoms m → Contains atoms n → All (λ (l : Signed). Contains atoms l.atom) (literal b m ∷ literal c n ∷ [])
over_two atoms m n b c cm cn = All-cons (λ (l : Signed). Contains atoms l.atom) (literal b m) (literal c n ∷ []) cm (over_one atoms n c cn)

module _ (x y z : ℕ) where
  in_0 : Contains (x ∷ y ∷ z ∷ []) x
  in_0 = (0, omega arith, refl)

  in_1 : Contains (x ∷ y ∷ z ∷ []) y
  in_1 = (1, omega arith, refl)

  in_2 : Contains (x ∷ y ∷ z ∷ []) z
  in_2 = (2, omega arith, refl)

pub choice_over : ChoiceIsOver
choice_over c f s cf cs =
    All-cons (IsOver (c ∷ f ∷ s ∷ [])) (no c ∷ yes f ∷ []) ((yes c ∷ yes s ∷ []) ∷ [])
    (record { over = over_two (c ∷ f ∷ s ∷ []) c f false true (in_0 c f s) (in_1 c f s); once = two_atoms c f false true cf })
    (All-cons (IsOver (c ∷ f ∷ s ∷ [])) (yes c ∷ yes s ∷ []) []
    (record { over = over_two (c ∷ f ∷ s ∷ []) c s true true (in_0 c f s) (in_2 c f s); once = two_atoms c s true true cs })
    (All-nil (IsOver (c ∷ f ∷ s ∷ []))))

module _ (s x y : ℕ) (sx : s ≢ x) (sy : s ≢ y) where
  triple : (a b c : Bool) → x ≢ y → IsOver (s ∷ x ∷ y ∷ []) (literal a s ∷ literal b x ∷ literal c y ∷ [])
  triple a b c xy = record {
    over = All-cons (λ (l : Signed). Contains (s ∷ x ∷ y ∷ []) l.atom) (literal a s) (literal b x ∷ literal c y ∷ []) (in_0 s x y)
        (over_two (s ∷ x ∷ y ∷ []) x y b c (in_1 s x y) (in_2 s x y));
    once = three_atoms s x y a b c sx sy xy;
  }

  sameness_over_by : (b : Bool) → nat_eq x y ≡ b → All (IsOver (s ∷ x ∷ y ∷ [])) (if b then (yes s ∷ []) ∷ [] else parity (yes s) (yes x) (yes y))
  sameness_over_by true e =
      All-cons (IsOver (s ∷ x ∷ y ∷ [])) (yes s ∷ []) [] (record { over = over_one (s ∷ x ∷ y ∷ []) s true (in_0 s x y); once = one_atom s true }) (All-nil (IsOver (s ∷ x ∷ y ∷ [])))
  sameness_over_by false e =
      let xy : x ≢ y = λ same. (let h : true ≡ false = sym (eq-eqb x y same) ∙ e in cc) in
      let All' = IsOver (s ∷ x ∷ y ∷ []) in
      All-cons All' (no s ∷ no x ∷ yes y ∷ []) ((no s ∷ yes x ∷ no y ∷ []) ∷ (yes s ∷ yes x ∷ yes y ∷ []) ∷ (yes s ∷ no x ∷ no y ∷ []) ∷ []) (triple false false true xy)
      (All-cons All' (no s ∷ yes x ∷ no y ∷ []) ((yes s ∷ yes x ∷ yes y ∷ []) ∷ (yes s ∷ no x ∷ no y ∷ []) ∷ []) (triple false true false xy)
      (All-cons All' (yes s ∷ yes x ∷ yes y ∷ []) ((yes s ∷ no x ∷ no y ∷ []) ∷ []) (triple true true true xy)
      (All-cons All' (yes s ∷ no x ∷ no y ∷ []) [] (triple true false false xy) (All-nil All'))))

pub sameness_over : SamenessIsOver
sameness_over s x y sx sy = sameness_over_by s x y sx sy (nat_eq x y) refl
