-- A resolvent is true where both clauses are.
use Rattle.std.proofs.Common.{◌≡◌, Bool, true, false, not, ◌||◌, List, [], ◌∷◌, All, Contains, ◌⊎◌, inl, inr, sym, subst, refl, arith}
use Rattle.std.proofs.lemmas.List.Elements.{All-head, All-tail, Contains-append_cases, Contains-push_cases}
use Rattle.smt_meaning.specs.Term.{Tree, Interpretation}
use Rattle.smt_meaning.specs.declared.clauses.Literal.{Literal}
use Rattle.smt_meaning.specs.Clause.{some_true, literal_true, signed, atom_true}
use Rattle.proof_meaning.specs.Proof.{negated}
use Rattle.proof_meaning.specs.Rules.{IsResolution}

pub or_left : (a b : Bool) → a ≡ true → (a || b) ≡ true
or_left true b h = refl
or_left false b h = let e : false ≡ true = h in cc

pub or_right : (a b : Bool) → b ≡ true → (a || b) ≡ true
or_right true b h = refl
or_right false b h = h

true-in : (ts : List Tree) (I : Interpretation) (ls : List Literal) (l : Literal) → Contains ls l → literal_true ts I l ≡ true → some_true ts I ls ≡ true
true-in ts I [] l c h = absurd (omega (arith, c.1))
true-in ts I (m ∷ ls) l c h = elim (Contains-append_cases (m ∷ []) ls l c) [
  | inl one ↦ elim (Contains-push_cases [] m l one) [
    | inl none ↦ absurd (omega (arith, none.1))
    | inr e ↦ or_left (literal_true ts I m) (some_true ts I ls) (subst (λ x. literal_true ts I x ≡ true) (sym e) h)
  ]
  | inr later ↦ or_right (literal_true ts I m) (some_true ts I ls) (true-in ts I ls l later h)
]

one_of : (a b : Bool) → (a || b) ≡ true → (a ≡ true) ⊎ (b ≡ true)
one_of true b h = inl refl
one_of false b h = inr h

side : (ts : List Tree) (I : Interpretation) (p : List Literal) (l : Literal) (ls : List Literal)
    → All (λ (m : Literal). (m ≡ l) ⊎ Contains ls m) p → some_true ts I p ≡ true → (literal_true ts I l ≡ true) ⊎ (some_true ts I ls ≡ true)
side ts I [] l ls all h = let e : false ≡ true = h in cc
side ts I (m ∷ p) l ls all h = elim (one_of (literal_true ts I m) (some_true ts I p) h) [
  | inl here ↦ elim (All-head (λ (x : Literal). (x ≡ l) ⊎ Contains ls x) m p all) [
    | inl e ↦ inl (subst (λ x. literal_true ts I x ≡ true) e here)
    | inr c ↦ inr (true-in ts I ls m c here)
  ]
  | inr later ↦ side ts I p l ls (All-tail (λ (x : Literal). (x ≡ l) ⊎ Contains ls x) m p all) later
]

not_both : (s a : Bool) → signed s a ≡ true → signed (not s) a ≡ true → ⊥
not_both true true h k = let e : false ≡ true = k in cc
not_both true false h k = let e : false ≡ true = h in cc
not_both false true h k = let e : false ≡ true = h in cc
not_both false false h k = let e : false ≡ true = k in cc

pub resolvent_true : (ts : List Tree) (I : Interpretation) (p q : List Literal) (l : Literal) (ls : List Literal)
    → IsResolution p q l ls → some_true ts I p ≡ true → some_true ts I q ≡ true → some_true ts I ls ≡ true
resolvent_true ts I p q l ls r tp tq = elim (side ts I p l ls r.from_left tp) [
  | inl yes_l ↦ elim (side ts I q (negated l) ls r.from_right tq) [
    | inl no_l ↦ absurd (not_both l.positive (atom_true ts I l.atom) yes_l no_l)
    | inr ok ↦ ok
  ]
  | inr ok ↦ ok
]
