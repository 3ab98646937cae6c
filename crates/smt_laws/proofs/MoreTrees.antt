-- A list of trees that goes on reads a clause as its prefix does.
use Rattle.std.proofs.Common.{◌≡◌, ℕ, ◌<◌, List, [], ◌∷◌, ◌++◌, Contains, All, subst, sym, ◌∙◌, ap, refl, length, ◌||◌}
use Rattle.std.specs.Prelude.{◌+ℤ◌, ◌*ℤ◌, int_le}
use Rattle.std.proofs.Math.ListN.{get_or-append}
use Rattle.std.proofs.lemmas.List.{length-append}
use Rattle.std.proofs.lemmas.List.Elements.{All-head, All-tail, All-weaker}
use Rattle.smt_meaning.specs.declared.clauses.Summand.{Summand}
use Rattle.smt_meaning.specs.declared.clauses.Literal.{Literal}
use Rattle.smt_meaning.specs.declared.clauses.Atom.{Atom}
use Rattle.smt_meaning.specs.declared.clauses.Atom.TheVariants.{Truth, AtMost, Same}
use Rattle.smt_meaning.specs.declared.clauses.Clause.{Clause}
use Rattle.smt_meaning.specs.Term.{Tree, Interpretation, tree_at, value, truth_of, number_of, same_value}
use Rattle.smt_meaning.specs.Stack.{Frame, up_to}
use Rattle.smt_meaning.specs.Clause.{value_at, sum_value, signed, literal_true, some_true, atom_true, places, atom_places, sum_places, symbols, symbols_at}
use Rattle.smt_meaning.specs.Follows.{FollowsFrom, Follows, declared_ids}
use Rattle.smt_laws.proofs.Included.{All-included, included_left, included_right}
use Rattle.std.proofs.Common.{arith}

abbrev Within : List Tree → List ℕ → Type 0
Within ts is = All (λ i. i < length ts) is

same_tree : (ts us : List Tree) (i : ℕ) → i < length ts → tree_at (ts ++ us) i ≡ tree_at ts i
same_tree ts us i h = get_or-append ts us _ i h

same_at : (ts us : List Tree) (I : Interpretation) (i : ℕ) → i < length ts → value_at (ts ++ us) I i ≡ value_at ts I i
same_at ts us I i h = ap (value I) (same_tree ts us i h)

first_within : (ts : List Tree) (i : ℕ) (is : List ℕ) → Within ts (i ∷ is) → i < length ts
first_within ts i is h = All-head (λ j. j < length ts) i is h

rest_within : (ts : List Tree) (i : ℕ) (is : List ℕ) → Within ts (i ∷ is) → Within ts is
rest_within ts i is h = All-tail (λ j. j < length ts) i is h

same_sum : (ts us : List Tree) (I : Interpretation) (ps : List Summand) → Within ts (sum_places ps) → sum_value (ts ++ us) I ps ≡ sum_value ts I ps
same_sum ts us I [] h = refl
same_sum ts us I (p ∷ ps) h =
    ap (λ v. p.coefficient *ℤ number_of v +ℤ sum_value (ts ++ us) I ps) (same_at ts us I p.term (first_within ts p.term (sum_places ps) h))
    ∙ ap (λ z. p.coefficient *ℤ number_of (value_at ts I p.term) +ℤ z) (same_sum ts us I ps (rest_within ts p.term (sum_places ps) h))

same_atom : (ts us : List Tree) (I : Interpretation) (a : Atom) → Within ts (atom_places a) → atom_true (ts ++ us) I a ≡ atom_true ts I a
same_atom ts us I (Truth t) h = ap truth_of (same_at ts us I t (first_within ts t [] h))
same_atom ts us I (AtMost ps k) h = ap (λ z. int_le z k) (same_sum ts us I ps h)
same_atom ts us I (Same s t) h =
    ap (λ v. same_value v (value_at (ts ++ us) I t)) (same_at ts us I s (first_within ts s (t ∷ []) h))
    ∙ ap (same_value (value_at ts I s)) (same_at ts us I t (first_within ts t [] (rest_within ts s (t ∷ []) h)))

same_some : (ts us : List Tree) (I : Interpretation) (ls : List Literal) → Within ts (places ls) → some_true (ts ++ us) I ls ≡ some_true ts I ls
same_some ts us I [] h = refl
same_some ts us I (l ∷ ls) h =
    ap (λ b. signed l.positive b || some_true (ts ++ us) I ls) (same_atom ts us I l.atom (All-included (λ i. i < length ts) _ _ (included_left (atom_places l.atom) (places ls)) h))
    ∙ ap (λ b. literal_true ts I l || b) (same_some ts us I ls (All-included (λ i. i < length ts) _ _ (included_right (atom_places l.atom) (places ls)) h))

same_symbols : (ts us : List Tree) (is : List ℕ) → Within ts is → symbols_at (ts ++ us) is ≡ symbols_at ts is
same_symbols ts us [] h = refl
same_symbols ts us (i ∷ is) h =
    ap (λ t. symbols t ++ symbols_at (ts ++ us) is) (same_tree ts us i (first_within ts i is h))
    ∙ ap (λ fs. symbols (tree_at ts i) ++ fs) (same_symbols ts us is (rest_within ts i is h))

pub read_by_more : (ts us : List Tree) (frames : List Frame) (c : Clause) → FollowsFrom ts frames c → FollowsFrom (ts ++ us) frames c
read_by_more ts us frames c f = record {
  true_wherever = λ I interprets holds. same_some ts us I c.literals f.within ∙ f.true_wherever I interprets holds;
  declared = subst (All (Contains (declared_ids frames))) (sym (same_symbols ts us (places c.literals) f.within)) f.declared;
  within = All-weaker (λ i. i < length ts) (λ i. i < length (ts ++ us)) (λ i h. omega (arith, length-append ts us)) (places c.literals) f.within;
}

pub with_trees : (ts us : List Tree) (frames : List Frame) (l : ℕ) (c : Clause) → Follows ts frames l c → Follows (ts ++ us) frames l c
unfolding Follows
with_trees ts us frames l c f = read_by_more ts us (up_to l frames) c f
