-- The clause of a bound of the empty sum.
use Rattle.std.proofs.Common.{◌≡◌, ◌∙◌, ℕ, ◌<◌, Bool, true, false, not, List, [], ◌∷◌, ◌++◌, ℤ, pos, length, refl, sym, ap, subst, arith}
use Rattle.std.specs.Prelude.{Contains, int_le}
use Rattle.std.proofs.lemmas.List.{length_push, get_or_push}
use Rattle.std.proofs.lemmas.List.Elements.{All-nil, All-cons, All-contains}
use Rattle.literals.specs.Signed.{Signed, opposite}
use Rattle.smt_meaning.specs.declared.clauses.Atom.{Atom}
use Rattle.smt_meaning.specs.declared.clauses.Atom.TheVariants.{Truth, AtMost}
use Rattle.smt_meaning.specs.Follows.{declared_ids}
use Rattle.smt_meaning.specs.Stack.{Frame, up_to}
use Rattle.atom_form.specs.AtomTableNumbers.{IsAt}
use Rattle.search_port.specs.State.{Reading, atom_at}
use Rattle.search_port.specs.Valid.{IsOf}
use Rattle.search_port.specs.Calls.{IsLemma}
use Rattle.equality_clauses.specs.Ties.{literal}
use Rattle.bound_clauses.specs.Laws.{ConstantHasValue}
use Rattle.theory_combine.specs.Steps.{AreLemmasOf, constant_clause}

not_own : (b : Bool) → b ≡ not b → ⊥
not_own true e = cc
not_own false e = cc

is_only : (l m : Signed) → Contains (l ∷ []) m → m ≡ l
is_only l m c = All-contains (λ (x : Signed). x ≡ l) (l ∷ []) m (All-cons (λ (x : Signed). x ≡ l) l [] refl (All-nil (λ (x : Signed). x ≡ l))) c

-- an atom of no term is of every stack
of_none : (r : Reading) (fs : List Frame) (k : ℤ) → IsOf r.trees fs (AtMost [] k)
of_none r fs k = record { declared = All-nil (Contains (declared_ids fs)); within = All-nil (λ i. i < length r.trees) }

pub constant_is_lemma : ConstantHasValue → (n : ℕ) (k : ℤ) (r : Reading) → IsAt r.table n (AtMost [] k) → IsLemma r (constant_clause n k)
constant_is_lemma law n k r at =
    let l : Signed = literal (int_le (pos 0) k) n in
    record {
      over = record {
        within = λ m c. subst (λ i. i < length r.table) (sym (ap (λ (x : Signed). x.atom) (is_only l m c))) at.0;
        no_pair = λ m c d. not_own m.positive (ap (λ (x : Signed). x.positive) (is_only l m c) ∙ sym (ap (λ (x : Signed). x.positive) (is_only l (opposite m) d)));
      };
      valid = λ I interprets. law r.trees I (atom_at r.table) n k (at.1 (Truth 0)) 0 [] (omega arith);
      at_level =
          All-cons (λ (m : Signed). IsOf r.trees (up_to 0 r.frames) (atom_at r.table m.atom)) l []
          (subst (IsOf r.trees (up_to 0 r.frames)) (sym (at.1 (Truth 0))) (of_none r (up_to 0 r.frames) k))
          (All-nil (λ (m : Signed). IsOf r.trees (up_to 0 r.frames) (atom_at r.table m.atom)));
      lowest = λ m below. omega arith;
    }

pub constant_is_said : ConstantHasValue → (n : ℕ) (k : ℤ) → AreLemmasOf n (AtMost [] k) (constant_clause n k ∷ [])
constant_is_said law n k r at = All-cons (IsLemma r) (constant_clause n k) [] (constant_is_lemma law n k r at) (All-nil (IsLemma r))

-- a list with one more has it at its end
pub pushed_at : (old new : List Atom) (a : Atom) (n : ℕ) → new ≡ old ++ a ∷ [] → n ≡ length old → IsAt new n a
pushed_at old new a n added count =
    subst (λ (table : List Atom). IsAt table n a) (sym added) (omega (arith, count, length_push old a), λ d. get_or_push old a d n (sym count))
