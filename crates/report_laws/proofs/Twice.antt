-- No clause is learnt twice.
use Rattle.std.proofs.Common.{◌≡◌, ◌≢◌, ◌⊎◌, inl, inr, ℕ, ◌<◌, sym, ap, ◌∙◌, subst, refl, arith, pos, List, [], ◌∷◌, ◌++◌, length, true, false, All, Contains}
use Rattle.std.specs.Prelude.{AllPairs, IsTrue}
use Rattle.std.proofs.lemmas.List.{append_assoc}
use Rattle.std.proofs.lemmas.List.Elements.{All-nil, All-from_recursion}
use Rattle.smt_meaning.specs.declared.terms.Head.TheVariants.{Numeral, Theory, Symbol as Function, Place}
use Rattle.smt_meaning.specs.declared.clauses.Atom.{Atom}
use Rattle.smt_meaning.specs.declared.clauses.Atom.TheVariants.{Truth, AtMost, Same}
use Rattle.smt_meaning.specs.declared.clauses.Literal.{Literal}
use Rattle.smt_meaning.specs.declared.reports.Unit.{Unit as Spent}
use Rattle.smt_meaning.specs.declared.reports.Unit.TheVariants.{Learnt}
use Rattle.smt_meaning.specs.Term.{Tree, node}
use Rattle.smt_meaning.specs.TreeShape.{place_of}
use Rattle.smt_meaning.specs.Clause.{places, clause_symbols}
use Rattle.smt_meaning.specs.Stack.{signature_of}
use Rattle.smt_meaning.specs.Follows.{declared_ids, Follows, follows}
use Rattle.smt_meaning.specs.Forced.{Reaches, Forces, has_node_clauses}
use Rattle.smt_meaning.specs.CheckAtoms.{IsPartOfStack, IsCheckAtom, IsKnownSum}
use Rattle.smt_meaning.specs.Report.{negated, IsGiven, IsLearnt, no_units, one_more_unit}
use Rattle.report_laws.specs.BoxOfOne.{nought, chain, trees, frames}
use Rattle.report_laws.specs.Twice.{reflexive, NothingIsLearntTwice, OnceIsLawful, TwiceIsRefused}
use Rattle.report_laws.proofs.Listed.{in_cons, in_none}
use Rattle.report_laws.proofs.Counted.{first_in, middle_in}
use Rattle.report_laws.proofs.BoxOfOne.{IsNumber, part_is}
use Rattle.report_laws.proofs.Limited.{stands_once}

pub nothing_twice : NothingIsLearntTwice
nothing_twice ts frames limit branches before between after c d same spent =
    let us : List Spent = before ++ Learnt c ∷ (between ++ Learnt d ∷ after) in
    let front : List Spent = before ++ Learnt c ∷ between in
    let cut : us ≡ front ++ Learnt d ∷ after = sym (append_assoc before (Learnt c ∷ between) (Learnt d ∷ after)) in
    stands_once ts frames branches limit us spent.units front after (Learnt d) cut (Learnt c) (middle_in before between (Learnt c)) (inr d.literals) same (λ l m. m, λ l m. m)

-- ---- the clause that 0 is 0

abbrev said : Literal
said = record { atom = Same 0 0; positive = true }

abbrev Is : Literal → Type 0
Is l = IsCheckAtom trees frames [] l.atom

nought_part : IsPartOfStack frames nought
nought_part = record { assertion = chain; asserted = (0, omega arith, refl); part = inr (inl (inl refl)) }

of_check : All Is reflexive.literals
of_check =
    All-from_recursion Is reflexive.literals
    (inr (inl (record { left = nought; right = nought; left_part = nought_part; right_part = nought_part; one_sort = refl; among = (0, omega arith, refl) })), tt)

no_two : AllPairs (λ (l m : Literal). l.atom ≢ m.atom) reflexive.literals
no_two i j d less lt = absurd (omega (arith, less, lt))

abbrev IsWithin : ℕ → Type 0
IsWithin i = i < length trees

abbrev IsDeclared : ℕ → Type 0
IsDeclared i = Contains (declared_ids frames) i

follows_here : Follows trees frames 0 reflexive
follows_here = follows trees frames 0 reflexive (record {
  true_wherever = λ I interprets holds. refl;
  declared = All-from_recursion IsDeclared (clause_symbols trees reflexive) tt;
  within = All-from_recursion IsWithin (places reflexive.literals) (zero_in, (zero_in, tt));
})
  where
    zero_in : IsWithin 0
    zero_in = omega arith

-- ---- nothing forces it

abbrev asserted_literal : Literal
asserted_literal = record { atom = Truth 3; positive = true }

-- a term with clauses of its own
abbrev HasClauses : Tree → Type 0
HasClauses (node (Theory o) us) = IsTrue (has_node_clauses (signature_of frames) o us)
HasClauses (node (Numeral n) us) = ⊥
HasClauses (node (Function f) us) = ⊥
HasClauses (node (Place p) us) = ⊥

no_clauses : (t : Tree) → (t ≡ chain) ⊎ IsNumber t → HasClauses t → ⊥
no_clauses t (inl e) has = let z : false ≡ true = subst HasClauses e has in cc
no_clauses t (inr (inl e)) has = subst HasClauses e has
no_clauses t (inr (inr (inl e))) has = subst HasClauses e has
no_clauses t (inr (inr (inr e))) has = subst HasClauses e has

only_asserted : (ls : List Literal) → IsGiven trees frames [] ls → ls ≡ asserted_literal ∷ []
only_asserted ls (inl h) = absurd (no_clauses (node (Theory h.operator) h.arguments) (part_is (node (Theory h.operator) h.arguments) h.part) h.clause.has)
only_asserted ls (inr (inl h)) = elim (in_cons chain h.assertion [] h.asserted) [
  | inl e ↦ h.same ∙ ap (λ t. record { atom = Truth (place_of t trees); positive = true } ∷ []) e
  | inr past ↦ absurd (in_none h.assertion past)
]
only_asserted ls (inr (inr h)) = absurd (in_none (Learnt h.clause) h.learnt)

abbrev SaysSame : Atom → Type 0
SaysSame (Same i j) = Unit {0}
SaysSame (Truth i) = ⊥
SaysSame (AtMost s k) = ⊥

last_is : (before after : List Literal) (l m : Literal) → before ++ l ∷ after ≡ m ∷ [] → l ≡ m
last_is [] after l m e = cc
last_is (b ∷ []) after l m e = cc
last_is (b ∷ d ∷ before) after l m e = cc

true_false : {X : Type 0} → true ≡ false → X
true_false e = cc

module _ (clauses : List (List Literal)) (known : (c : List Literal) → Contains clauses c → c ≡ asserted_literal ∷ []) where
  -- the assertion is all that is reached
  reached : (l : Literal) → Reaches negated clauses [] l → l ≡ asserted_literal
  reached l (Reaches.start c) = absurd (in_none l c)
  reached l (Reaches.unit before after c rest) = last_is before after l asserted_literal (known (before ++ l ∷ after) c)

  not_forced : Forces negated clauses reflexive.literals → ⊥
  not_forced forces = elim (forces [] [] said refl) [
    | inl r ↦ subst SaysSame (ap (λ (l : Literal). l.atom) (reached said r)) tt
    | inr conflict ↦
        let here : Contains conflict.clause asserted_literal = subst (λ ls. Contains ls asserted_literal) (sym (known conflict.clause conflict.kept)) (first_in asserted_literal []) in
        true_false (sym (ap (λ (l : Literal). l.positive) (reached (negated asserted_literal) (conflict.all_false asserted_literal here))))
  ]

-- ---- reports

is_learnt : IsLearnt trees frames [] (pos 1) [] reflexive
is_learnt = record {
  costs = refl;
  follows = follows_here;
  of_check = of_check;
  no_two = no_two;
  unforced = λ clauses given forces. not_forced clauses (λ c h. only_asserted c (subst (IsGiven trees frames []) h.2 (given h.0 c h.1))) forces;
}

pub once : OnceIsLawful
once = record {
  count = refl;
  sums = [];
  known = record { apart = λ i j d less lt. absurd (omega (arith, lt)); filled = All-nil _; known = All-nil (IsKnownSum trees frames) };
  are_branches = tt;
  units = one_more_unit trees frames [] (pos 1) [] (Learnt reflexive) (no_units trees frames [] (pos 1)) is_learnt;
  chained = tt;
}

pub twice : TwiceIsRefused
twice branches spent = nothing_twice trees frames (pos 2) branches [] [] [] reflexive reflexive (λ l m. m, λ l m. m) spent
