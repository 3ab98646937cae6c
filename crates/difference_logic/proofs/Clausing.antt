-- Clauses of literals that don't all hold.
use Rattle.std.proofs.Common.{◌≡◌, ℕ, Bool, true, false, List, [], ◌∷◌, ◌++◌, map, ℤ, sym, ap, ◌∙◌, subst}
use Rattle.std.specs.Prelude.{All, Contains}
use Rattle.std.proofs.lemmas.List.Elements.{All-append, All-map, All-weaker, All-cons, All-nil}
use Rattle.literals.specs.Signed.{Signed, opposite, literal_true, some_true}
use Rattle.smt_meaning.specs.declared.clauses.Atom.{Atom}
use Rattle.smt_meaning.specs.Declaration.{Declaration}
use Rattle.smt_meaning.specs.Term.{Tree}
use Rattle.search_port.specs.State.{IsFalseIn, AllFalseIn}
use Rattle.search_port.specs.declared.budget.Lemma.{Lemma}
use Rattle.congruence.specs.Reasons.{HaveTheSame}
use Rattle.congruence.specs.Justified.{truth_by}
use Rattle.congruence.specs.Clauses.{IsTrueEverywhere, IsFalseClause}
use Rattle.congruence.specs.Implied.{IsPressingLemma}
use Rattle.congruence.proofs.Reasoning.{left_false, right_false, true_unless, true_where, twice, same_valid}
use Rattle.congruence.proofs.Clausing.{all_true_where}
use Rattle.congruence.proofs.Implying.{press}
use Rattle.difference_logic.specs.declared.difference.Difference.{Difference}
use Rattle.difference_logic.specs.Differences.{numbers_by, Holds, Follows}
use Rattle.difference_logic.specs.Clauses.{IsTrueAnywhere, IsImpliedBy}

pub not_all : (table : List Atom) (ls : List Signed) (d : Difference) → Follows table ls d → ((f : ℕ → ℤ) → Holds f d → ⊥) → IsTrueAnywhere table (map opposite ls)
not_all table ls d follows never ds ts I interprets =
    true_unless (some_true (truth_by ts table I) (map opposite ls)) (λ none. never (numbers_by ts I) (follows ts I (all_true_where (truth_by ts table I) ls none)))

pub one_or_not_all : (table : List Atom) (l : Signed) (ls : List Signed) (d : Difference) → Follows table (opposite l ∷ ls) d → ((f : ℕ → ℤ) → Holds f d → ⊥)
    → IsTrueAnywhere table (l ∷ map opposite ls)
one_or_not_all table l ls d follows never ds ts I interprets =
    let f : ℕ → Bool = truth_by ts table I in
    true_unless (some_true f (l ∷ map opposite ls))
    (λ none.
    let l_false : literal_true f l ≡ false = left_false (literal_true f l) (some_true f (map opposite ls)) none in
    let other_true : literal_true f (opposite l) ≡ true = true_where f (opposite l) (ap (literal_true f) (twice l) ∙ l_false) in
    never (numbers_by ts I)
    (follows ts I (All-cons (λ (m : Signed). literal_true f m ≡ true) (opposite l) ls other_true (all_true_where f ls (right_false (literal_true f l) (some_true f (map opposite ls)) none)))))

pub negations_false : (log ls : List Signed) → All (Contains log) ls → AllFalseIn log (map opposite ls)
negations_false log ls all =
    All-map (IsFalseIn log) opposite ls (All-weaker (Contains log) (λ (l : Signed). IsFalseIn log (opposite l)) (λ l c. subst (Contains log) (sym (twice l)) c) ls all)

pub implied_by : (table : List Atom) (l : Signed) (ls : List Signed) (c : Lemma) → IsTrueAnywhere table (l ∷ map opposite ls) → HaveTheSame (l ∷ map opposite ls) c.literals → c.level ≡ 0
    → IsImpliedBy table l ls c
implied_by table l ls c valid same level ds t known told number is_open all =
    subst (λ (n : ℕ). IsPressingLemma t (record { literals = c.literals; level = n })) (sym level)
    (press ds t l (map opposite ls) c.literals told number is_open (negations_false t.log ls all) same
    (same_valid ds t.reading.trees t.reading.table (l ∷ map opposite ls) c.literals same
    (subst (λ (atoms : List Atom). IsTrueEverywhere ds t.reading.trees atoms (l ∷ map opposite ls)) (sym known) (valid ds t.reading.trees))))

pub all_more : (log ls : List Signed) (l : Signed) → Contains log l → All (Contains log) ls → All (Contains log) (ls ++ l ∷ [])
all_more log ls l c all = All-append (Contains log) ls (l ∷ []) all (All-cons (Contains log) l [] c (All-nil (Contains log)))

pub false_clause : (ds : List Declaration) (ts : List Tree) (table known : List Atom) (log ls ms : List Signed) → ms ≡ map opposite ls → known ≡ table → IsTrueAnywhere table (map opposite ls)
    → All (Contains log) ls → IsFalseClause ds ts known log ms
false_clause ds ts table known log ls ms is same valid all = record {
  is_false = subst (AllFalseIn log) (sym is) (negations_false log ls all);
  valid =
      subst (λ (atoms : List Atom). IsTrueEverywhere ds ts atoms ms) (sym same) (subst (λ (ns : List Signed). IsTrueEverywhere ds ts table ns) (sym is) (valid ds ts));
}
