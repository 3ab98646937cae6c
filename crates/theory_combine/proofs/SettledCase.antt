-- The listed values of a settled check as those that fit a full log, and elements among them.
use Rattle.std.proofs.Common.{◌≡◌, ◌⊎◌, inl, inr, ℕ, ◌<◌, ◌≤◌, Bool, true, false, List, [], ◌∷◌, ◌++◌, length, Contains, Some, refl, sym, ap, ◌∙◌}
use Rattle.std.specs.Prelude.{ℤ, Option, None, if◌then◌else◌}
use Rattle.std.proofs.lemmas.Bool.{cases_lt}
use Rattle.std.proofs.lemmas.List.{get_or_past, get_or_append_left}
use Rattle.literals.specs.Signed.{Signed}
use Rattle.smt_meaning.specs.declared.values.Value.{Value}
use Rattle.smt_meaning.specs.declared.values.Sort.{Sort}
use Rattle.smt_meaning.specs.declared.values.Sort.TheVariants.{Bool as Truths, Int as Ints, Free}
use Rattle.smt_meaning.specs.declared.terms.Operator.TheVariants.{Add, Subtract, Multiply}
use Rattle.smt_meaning.specs.declared.terms.Head.{Head}
use Rattle.smt_meaning.specs.declared.terms.Head.TheVariants.{Numeral, Theory, Symbol, Place}
use Rattle.smt_meaning.specs.declared.clauses.Summand.{Summand}
use Rattle.smt_meaning.specs.declared.clauses.Atom.{Atom}
use Rattle.smt_meaning.specs.declared.clauses.Atom.TheVariants.{Truth, AtMost}
use Rattle.smt_meaning.specs.Declaration.{Declaration}
use Rattle.smt_meaning.specs.Term.{tree_at}
use Rattle.smt_meaning.specs.Signature.{tree_sort, tree_sorts, with_sorts, stands_with, all_of, if_so}
use Rattle.smt_meaning.specs.Nodes.{pick}
use Rattle.smt_meaning.specs.CheckAtoms.{is_leaf_head}
use Rattle.smt_meaning.specs.Stack.{signature_of}
use Rattle.smt_meaning.specs.StackCommand.{Stack}
use Rattle.search_port.specs.State.{atom_at}
use Rattle.atom_form.specs.AtomTableNumbers.{IsAt}
use Rattle.scope_stack.specs.Shown.{IsLawful}
use Rattle.linear_forms.specs.Table.{Known, IsLinked}
use Rattle.congruence.specs.declared.congruence.Congruence.{Congruence}
use Rattle.check_atoms.specs.Parts.{IsMarked}
use Rattle.check_atoms.specs.Laws.{PartsHaveNumbers}
use Rattle.order_clauses.specs.Clauses.{sort_at, truth_number}
use Rattle.order_clauses.specs.Decided.{NumbersAreFound}
use Rattle.first_clauses.proofs.Parts as parts_of
use Rattle.bound_log.specs.Values.{AreMet}
use Rattle.closure_log.specs.ByClass.{IsItsClass, IsWholeOver}
use Rattle.closure_log.proofs.ByClasses.{still_at}
use Rattle.exact_model.specs.Exact.{AreListed, exact_at, listed}
use Rattle.exact_model.specs.Fitting.{FitTruths, AreFitting, IsFullCheck}
use Rattle.exact_model.proofs.Heads.{leaf_value}
use Rattle.exact_model.proofs.FullLogs.{Case, atoms, within, sort_there}
use Rattle.theory_combine.specs.declared.parts.Parts.{Parts}
use Rattle.theory_combine.specs.declared.parts.Progress.{Progress}
use Rattle.theory_combine.specs.Progress.{AreParts}
use Rattle.theory_combine.specs.Settling.{IsSettledCheck}

-- ---- the first atoms of a table

pub truths_of_first : (first more table : List Atom) (log : List Signed) (vs : List Value) → table ≡ first ++ more → FitTruths table log vs → FitTruths first log vs
truths_of_first first more table log vs e h l p told at = h l p told (still_at first table more l.atom (Truth p) e at)

bound_there : (first more table : List Atom) (n : ℕ) (sum : List Summand) (k : ℤ) → table ≡ first ++ more → atom_at first n ≡ AtMost sum k → atom_at table n ≡ AtMost sum k
bound_there first more table n sum k e h = by (cases_lt n (length first))
  where
    by : (n < length first) ⊎ (length first ≤ n) → atom_at table n ≡ AtMost sum k
    by (inl less) = ap (λ (t : List Atom). atom_at t n) e ∙ get_or_append_left first more (Truth 0) n less ∙ h
    by (inr past) = let none : Truth 0 ≡ AtMost sum k = sym (get_or_past first n (Truth 0) past) ∙ h in absurd cc

pub bounds_of_first : (first more table : List Atom) (f : ℕ → ℤ) (log : List Signed) → table ≡ first ++ more → AreMet table f log → AreMet first f log
bounds_of_first first more table f log e h l sum k told at some = h l sum k told (bound_there first more table l.atom sum k e at) some

-- ---- elements are no sums

no_sum : (a b : Bool) (q : ℕ) → (if a then if_so b Ints else None) ≡ Some (Free q) → ⊥
no_sum true true q h = cc
no_sum true false q h = cc
no_sum false b q h = cc

element_leaf : (ds : List Declaration) (h : Head) (r : Option (List Sort)) (q : ℕ) → with_sorts ds h r ≡ Some (Free q) → is_leaf_head h ≡ true
element_leaf ds h None q s = absurd cc
element_leaf ds (Numeral n) (Some []) q s = absurd cc
element_leaf ds (Numeral n) (Some (x ∷ xs)) q s = absurd cc
element_leaf ds (Theory Add) (Some ss) q s = absurd (no_sum (stands_with Add (length ss)) (all_of Ints ss) q s)
element_leaf ds (Theory Subtract) (Some ss) q s = absurd (no_sum (stands_with Subtract (length ss)) (all_of Ints ss) q s)
element_leaf ds (Theory Multiply) (Some ss) q s = absurd (no_sum (stands_with Multiply (length ss)) (all_of Ints ss) q s)
element_leaf ds (Theory o) (Some ss) q s = refl
element_leaf ds (Symbol f) (Some ss) q s = refl
element_leaf ds (Place k) (Some ss) q s = refl

-- ---- a settled check

pub record SettledCase : Type 0 where
  pub parts : Parts
  pub progress : Progress
  pub closure : Congruence
  pub values : List Value
  pub known : List Known
  pub are_parts : AreParts parts
  pub settled : IsSettledCheck parts progress closure values
  pub listed : AreListed parts.stack.now.trees known values
  pub lawful : IsLawful parts.stack.now
  pub numbers : PartsHaveNumbers
  pub found : NumbersAreFound

module _ (k : SettledCase) where
  abbrev pub stack : Stack
  stack = k.parts.stack.now

  abbrev pub marks : List Bool
  marks = k.parts.marks.items

  abbrev pub table : List Atom
  table = k.progress.atoms.atoms

  abbrev pub log : List Signed
  log = k.progress.held.closure.log.items

  abbrev pub check : IsFullCheck stack marks table log
  check = k.settled.values.check

  abbrev pub first : List Atom
  first = check.decided.first

  abbrev pub fitting : AreFitting stack marks k.values
  fitting = record {
    table = table;
    log = log;
    check = check;
    sorted = k.settled.values.sorted;
    truths = truths_of_first first check.decided.more table log k.values check.decided.table_is k.settled.values.truths;
    bounds = λ l sum. bounds_of_first first check.decided.more table _ log check.decided.table_is k.settled.values.bounds l sum;
  }

  abbrev pub full : Case
  full = record { stack = stack; marks = marks; known = k.known; values = k.values; lawful = k.lawful; listed = k.listed; fitting = fitting; numbers = k.numbers; found = k.found }

  -- the exact value of the term at a place
  abbrev pub v : ℕ → Value
  v p = exact_at stack.trees k.values p

  -- the sort that is listed for a place
  abbrev pub sort : ℕ → Sort
  sort p = sort_at check.sorts p

  pub over : IsWholeOver stack first table log k.closure
  over = record { more = check.decided.more; table_is = check.decided.table_is; full = check.full; consistent = check.consistent; whole = k.settled.values.closure }

  -- ---- truths

  pub is_numbered : (p : ℕ) → IsMarked marks p → sort p ≡ Truths → Contains first (Truth p)
  is_numbered p m e =
      parts_of.truth_numbered stack marks k.lawful check.parts (atoms full).size first k.known (atoms full) k.listed.forms p m (sort_there full p m ∙ ap Some e)

  pub numbered_at : (p : ℕ) → IsMarked marks p → sort p ≡ Truths → IsAt table (truth_number first p) (Truth p)
  numbered_at p m e = still_at first table check.decided.more (truth_number first p) (Truth p) check.decided.table_is (k.found first (Truth p) (is_numbered p m e))

  -- ---- elements

  pub element_exact : (p q : ℕ) → IsMarked marks p → sort p ≡ Free q → IsItsClass k.closure v p
  element_exact p q m e = value ∙ k.settled.values.elements p (record { marked = m; sort = q; has = has })
    where
      link : IsLinked stack.trees p
      link = k.listed.forms.forms.linked p (within full p m)

      has : tree_sort (signature_of stack.frames) (tree_at stack.trees p) ≡ Some (Free q)
      has = sort_there full p m ∙ ap Some e

      leaf : is_leaf_head link.head ≡ true
      leaf = element_leaf (signature_of stack.frames) link.head (tree_sorts (signature_of stack.frames) (pick stack.trees link.arguments)) q (sym (ap (tree_sort (signature_of stack.frames)) link.tree) ∙ has)

      value : v p ≡ listed k.values p
      value = leaf_value stack.trees k.values p link.head link.arguments k.listed.forms.different (within full p m) link.tree leaf
