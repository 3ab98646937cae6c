-- Atoms numbered one after another.
use Rattle.std.proofs.Common.{◌≡◌, inl, inr, ℕ, zero, suc, ◌<◌, ◌+◌, List, [], ◌∷◌, ◌++◌, map, length, take, get_or, Contains, subst, sym, arith}
use Rattle.std.specs.Prelude.{ℤ, ◌⊎◌}
use Rattle.std.proofs.lemmas.List.{map_more}
use Rattle.std.proofs.lemmas.List.Elements.{All-nil, All-cons, All-append, All-weaker, Contains-append_left, Contains-append_right, Contains-append_cases}
use Rattle.smt_meaning.specs.declared.clauses.Atom.{Atom}
use Rattle.smt_meaning.specs.Term.{Tree}
use Rattle.smt_meaning.specs.declared.clauses.Summand.{Summand}
use Rattle.atom_form.specs.Compact.{atom_of as core_atom}
use Rattle.atom_form.specs.declared.compact.CompactAtom.{CompactAtom}
use Rattle.atom_form.specs.declared.compact.CompactAtom.TheVariants.{Truth, Same}
use Rattle.linear_forms.specs.Sums.{IsSum}
use Rattle.pair_bounds.specs.Pairs.{IsBound}
use Rattle.atom_form.specs.AtomNumbersAtoms.{Numbers}
use Rattle.bound_clauses.specs.declared.orders.Order.{Order}
use Rattle.pair_bounds.specs.declared.rows.RowLimit.{RowLimit}
use Rattle.check_atoms.specs.declared.refusal.Refusal.{Refusal}
use Rattle.check_atoms.specs.declared.refusal.Refusal.TheVariants.{Memory}
use Rattle.check_atoms.specs.declared.part.PartAtom.{PartAtom}
use Rattle.check_atoms.specs.declared.part.PartAtom.TheVariants.{Bound, Limit}
use Rattle.check_atoms.specs.PartAtoms.{atom_of}
use Rattle.check_atoms.specs.Numbering.{IsNormal, Adds, RefusesOne, RefusesOrder, RefusesRow}

pub adds_none : (count : ℕ) (old : List Atom) → Adds count old [] old
adds_none count old = record { normal = All-nil (IsNormal count); these = All-nil (Contains old); stay = λ a c. c; only = λ a c. inl c }

pub adds_one : (count : ℕ) (old new : List Atom) (a : Atom) (k : ℕ) → IsNormal count a → Numbers old new a k → Adds count old (a ∷ []) new
adds_one count old new a k normal n = record {
  normal = All-cons (IsNormal count) a [] normal (All-nil (IsNormal count));
  these = All-cons (Contains new) a [] (k, n.at.0, n.at.1 a) (All-nil (Contains new));
  stay = λ b c. elim n.others [ inl e ↦ subst (λ xs. Contains xs b) (sym e) c | inr e ↦ subst (λ xs. Contains xs b) (sym e.0) (Contains-append_left old (a ∷ []) b c) ];
  only = λ b c. elim n.others [ inl e ↦ inl (subst (λ xs. Contains xs b) e c) | inr e ↦ Contains-append_cases old (a ∷ []) b (subst (λ xs. Contains xs b) e.0 c) ];
}

pub adds_more : (count : ℕ) (first second third xs ys : List Atom) → Adds count first xs second → Adds count second ys third → Adds count first (xs ++ ys) third
adds_more count first second third xs ys a b = record {
  normal = All-append (IsNormal count) xs ys a.normal b.normal;
  these = All-append (Contains third) xs ys (All-weaker (Contains second) (Contains third) b.stay xs a.these) b.these;
  stay = λ x c. b.stay x (a.stay x c);
  only = λ x c. elim (b.only x c) [
    | inl before ↦ elim (a.only x before) [ inl old ↦ inl old | inr one ↦ inr (Contains-append_left xs ys x one) ]
    | inr here ↦ inr (Contains-append_right xs ys x here)
  ];
}

pub adds_next : (count : ℕ) (trees : List Tree) (atoms : List PartAtom) (i : ℕ) (d : PartAtom) (first second third : List Atom) → i < length atoms
    → Adds count first (map (atom_of trees) (take i atoms)) second → Adds count second (atom_of trees (get_or atoms i d) ∷ []) third → Adds count first (map (atom_of trees) (take (i + 1) atoms)) third
adds_next count trees atoms i d first second third h a b =
    subst (λ xs. Adds count first xs third) (sym (map_more (atom_of trees) atoms i d h)) (adds_more count first second third (map (atom_of trees) (take i atoms)) (atom_of trees (get_or atoms i d) ∷ []) a b)

only_one : (x y : PartAtom) → Contains (x ∷ []) y → x ≡ y
only_one x y (k, h, e) = at k h e
  where
    at : (k : ℕ) → k < length (x ∷ []) → get_or (x ∷ []) k y ≡ y → x ≡ y
    at zero h e = e
    at (suc k) h e = absurd (omega (arith, h))

-- what refuses an atom of a list refuses the list
pub refuses_more : (trees : List Tree) (place : ℕ) (atoms : List PartAtom) (x : PartAtom) (e : Refusal) → Contains atoms x → RefusesOne trees place (x ∷ []) e → RefusesOne trees place atoms e
refuses_more trees place atoms x e c (inl m) = inl m
refuses_more trees place atoms x e c (inr (inl r)) = inr (inl (record { order = r.order; among = subst (Contains atoms) (only_one x (Bound r.order) r.among) c; refuses = r.refuses }))
refuses_more trees place atoms x e c (inr (inr r)) = inr (inr (record { limit = r.limit; among = subst (Contains atoms) (only_one x (Limit r.limit) r.among) c; refuses = r.refuses }))

-- what refuses an order or a limit refuses its atom
pub refuses_order : (trees : List Tree) (place : ℕ) (x : PartAtom) (order : Order) (e : Refusal) → x ≡ Bound order → (e ≡ Memory) ⊎ RefusesOrder trees place order e → RefusesOne trees place (x ∷ []) e
refuses_order trees place x order e is (inl m) = inl m
refuses_order trees place x order e is (inr r) = inr (inl (record { order = order; among = (0, omega arith, is); refuses = r }))

pub refuses_row : (trees : List Tree) (place : ℕ) (x : PartAtom) (limit : RowLimit) (e : Refusal) → x ≡ Limit limit → (e ≡ Memory) ⊎ RefusesRow trees place limit e → RefusesOne trees place (x ∷ []) e
refuses_row trees place x limit e is (inl m) = inl m
refuses_row trees place x limit e is (inr r) = inr (inr (record { limit = limit; among = (0, omega arith, is); refuses = r }))

pub core_is_normal : (count : ℕ) (a : CompactAtom) → IsNormal count (core_atom a)
core_is_normal count (Truth p) = tt
core_is_normal count (Same i j) = tt

pub normal_bound : (count : ℕ) (trees : List Tree) (a : Atom) (sum : List Summand) (threshold : ℤ) → count ≡ length trees → IsBound trees a sum threshold → IsNormal count a
normal_bound count trees a sum threshold e b = subst (IsNormal count) b.atom (record { is_sum = subst (λ n. IsSum n sum) (sym e) b.is_sum; coefficients = b.coefficients; in_range = b.in_range })
