-- Terms that are given settled values: those of one class have one value, and terms of one value are in one class, or are two Ints whose equality has no number.
use Rattle.std.proofs.Common.{◌≡◌, ◌≢◌, ◌∙◌, ℕ, ◌+◌, ◌<◌, Bool, true, false, not, List, length, length-append, Contains, Some, refl, sym, ap, subst, inl, inr, arith}
use Rattle.std.specs.Prelude.{ℤ, pos, negsuc, Option, None, nat_eq, slice_index_or, if◌then◌else◌}
use Rattle.std.proofs.lemmas.Bool.{eqb-true}
use Rattle.std.proofs.lemmas.Bool.Decides.{nat_tests}
use Rattle.std.proofs.lemmas.List.{get_or_default, get_or_append_left}
use Rattle.literals.specs.Signed.{Signed}
use Rattle.smt_meaning.specs.declared.values.Value.{Value}
use Rattle.smt_meaning.specs.declared.values.Value.TheVariants.{Truth, Whole, Element}
use Rattle.smt_meaning.specs.declared.values.Sort.{Sort}
use Rattle.smt_meaning.specs.declared.values.Sort.TheVariants.{Bool as Truths, Int as Ints, Free}
use Rattle.smt_meaning.specs.declared.terms.Head.TheVariants.{Symbol}
use Rattle.smt_meaning.specs.declared.clauses.Atom.{Atom}
use Rattle.smt_meaning.specs.declared.clauses.Atom.TheVariants.{Truth as TruthAtom, Same}
use Rattle.smt_meaning.specs.Declaration.{Declaration}
use Rattle.smt_meaning.specs.Term.{Tree, tree_at, int_eq, in_range, number_of}
use Rattle.smt_meaning.specs.Interpretation.{has_sort}
use Rattle.smt_meaning.specs.CheckAtoms.{is_leaf_head}
use Rattle.smt_meaning.specs.Nodes.{pick}
use Rattle.smt_meaning.specs.Signature.{tree_sort, tree_sorts, with_sorts, symbol_sort, function_with_id}
use Rattle.term_store.specs.Terms.{tree_with}
use Rattle.smt_meaning.specs.Stack.{signature_of}
use Rattle.smt_meaning.specs.StackCommand.{Stack}
use Rattle.smt_laws.proofs.Both.{and_left}
use Rattle.atom_form.specs.AtomTableNumbers.{IsAt}
use Rattle.equality_clauses.specs.Ties.{literal}
use Rattle.scope_stack.specs.Shown.{IsLawful}
use Rattle.linear_forms.specs.Table.{IsLinked}
use Rattle.point_closure.specs.Closure.{Equal}
use Rattle.point_closure.specs.Unions.{root_of}
use Rattle.congruence.specs.declared.congruence.Congruence.{Congruence}
use Rattle.congruence.specs.Recorded.{AreEqualTerms}
use Rattle.model_eval.specs.Walk.{is_marked}
use Rattle.model_build.specs.declared.given.Given.{Given}
use Rattle.model_build.specs.declared.given.Given.TheVariants.{Unmarked, InRange, PastRange}
use Rattle.model_build.specs.Given.{given_at, is_past}
use Rattle.model_build.specs.Building.{is_given_of}
use Rattle.closure_log.specs.Whole.{Gives, AreInOneClass}
use Rattle.first_clauses.proofs.Parts as parts_of
use Rattle.exact_model.specs.Exact.{exact_at, listed, given_of}
use Rattle.exact_model.specs.Sums.{number_of_place}
use Rattle.exact_model.proofs.Heads.{leaf_value, sum_value}
use Rattle.exact_model.proofs.Forms.{number_is}
use Rattle.theory_combine.specs.declared.parts.Parts.{Parts}
use Rattle.theory_combine.specs.declared.parts.Progress.{Progress}
use Rattle.theory_combine.specs.Clashing.{HasSettledGiven}
use Rattle.theory_combine.specs.Pairs.{IsFit, IsWanted}
use Rattle.theory_combine.specs.Settled.{number_there}
use Rattle.theory_combine.specs.Settling.{IsMarkedElement}
use Rattle.theory_combine.proofs.Fitting.{fit}

-- ---- values

not_other : (b : Bool) → b ≡ not b → ⊥
not_other true e = cc
not_other false e = cc

same : (n : ℕ) → nat_eq n n ≡ true
same n = grind (arith, nat_tests)

eq_same : (a : ℤ) → int_eq a a ≡ true
eq_same (pos n) = same n
eq_same (negsuc n) = same n

eq_other : (a b : ℤ) → a ≢ b → int_eq a b ≡ false
eq_other a b n = by (int_eq a b) refl
  where
    so : (x y : ℤ) → int_eq x y ≡ true → x ≡ y
    so (pos i) (pos j) e = ap pos (eqb-true i j e)
    so (negsuc i) (negsuc j) e = ap negsuc (eqb-true i j e)
    so (pos i) (negsuc j) e = absurd cc
    so (negsuc i) (pos j) e = absurd cc

    by : (c : Bool) → int_eq a b ≡ c → int_eq a b ≡ false
    by true e = absurd (n (so a b e))
    by false e = e

-- what is given, and isn't past the range, is one value
one_value : (v w : Value) (g : Given) → g ≡ given_of v → g ≡ given_of w → is_past g ≡ false → v ≡ w
one_value v w g e f n = by (in_range v) (in_range w) e f
  where
    not_past : g ≡ PastRange → ⊥
    not_past e = let k : is_past g ≡ true = ap is_past e in cc

    by : (a b : Bool) → g ≡ (if a then InRange v else PastRange) → g ≡ (if b then InRange w else PastRange) → v ≡ w
    by true true e f = let k : InRange v ≡ InRange w = sym e ∙ f in cc
    by false b e f = absurd (not_past e)
    by true false e f = absurd (not_past f)

given_whole : (n : ℤ) (s : Sort) (b : Bool) → is_given_of (if b then InRange (Whole n) else PastRange) s ≡ true → b ≡ in_range (Whole n) → has_sort (Whole n) s ≡ true
given_whole n s true h e = and_left (has_sort (Whole n) s) (in_range (Whole n)) h
given_whole n Ints false h e = refl
given_whole n Truths false h e = absurd cc
given_whole n (Free a) false h e = absurd cc

given_sort : (v : Value) (s : Sort) → is_given_of (given_of v) s ≡ true → has_sort v s ≡ true
given_sort (Truth b) s h = and_left (has_sort (Truth b) s) true h
given_sort (Element e) s h = and_left (has_sort (Element e) s) true h
given_sort (Whole n) s h = given_whole n s (in_range (Whole n)) h refl

truth_sort : (b : Bool) (s : Sort) → has_sort (Truth b) s ≡ true → s ≡ Truths
truth_sort b Truths h = refl
truth_sort b Ints h = absurd cc
truth_sort b (Free a) h = absurd cc

number_sort : (n : ℤ) (s : Sort) → has_sort (Whole n) s ≡ true → s ≡ Ints
number_sort n Truths h = absurd cc
number_sort n Ints h = refl
number_sort n (Free a) h = absurd cc

element_sort : (e : ℕ) (s : Sort) → has_sort (Element e) s ≡ true → (a : ℕ) × (s ≡ Free a)
element_sort e Truths h = absurd cc
element_sort e Ints h = absurd cc
element_sort e (Free a) h = (a, refl)

abbrev is_whole : Value → Bool
is_whole (Whole n) = true
is_whole v = false

-- ---- sorts of applications

abbrev rank_of : Option Declaration → Option Sort
rank_of None = None
rank_of (Some d) = Some d.rank.result

made : (d : Declaration) (b : Bool) (s : Sort) → (if b then Some d.rank.result else None) ≡ Some s → Some d.rank.result ≡ Some s
made d true s e = e
made d false s e = absurd cc

by_rank : (o : Option Declaration) (ss : List Sort) (s : Sort) → symbol_sort o ss ≡ Some s → rank_of o ≡ Some s
by_rank None ss s e = absurd cc
by_rank (Some d) ss s e = made d _ s e

by_symbol : (ds : List Declaration) (f : ℕ) (r : Option (List Sort)) (s : Sort) → with_sorts ds (Symbol f) r ≡ Some s → rank_of (function_with_id f ds) ≡ Some s
by_symbol ds f None s e = absurd cc
by_symbol ds f (Some ss) s e = by_rank (function_with_id f ds) ss s e

pub one_sort : (ds : List Declaration) (f : ℕ) (r q : Option (List Sort)) (s t : Sort) → with_sorts ds (Symbol f) r ≡ Some s → with_sorts ds (Symbol f) q ≡ Some t → s ≡ t
one_sort ds f r q s t e g = let k : Some s ≡ Some t = sym (by_symbol ds f r s e) ∙ by_symbol ds f q t g in cc

-- ---- a check with settled values

module _ (p : Parts) (w : Progress) (c : Congruence) (gs : List Given) (law : IsLawful p.stack.now) (h : HasSettledGiven p w c gs) where
  abbrev s : Stack
  s = p.stack.now

  abbrev ts : List Tree
  ts = p.stack.now.trees

  abbrev ds : List Declaration
  ds = signature_of p.stack.now.frames

  abbrev marks : List Bool
  marks = p.marks.items

  abbrev table : List Atom
  table = w.atoms.atoms

  abbrev log : List Signed
  log = w.held.closure.log.items

  abbrev vs : List Value
  vs = h.given.values

  abbrev sorts : List Sort
  sorts = h.given.settled.check.sorts

  abbrev sort_of : ℕ → Sort
  sort_of i = slice_index_or sorts i Truths

  size : length marks ≡ length ts
  size = h.at_last.ready.parts.0.size

  pub within : (i : ℕ) → is_marked marks i ≡ true → i < length ts
  within i m = parts_of.within s marks law h.at_last.ready.parts.2 size i m

  sort_there : (i : ℕ) → is_marked marks i ≡ true → tree_sort ds (tree_at ts i) ≡ Some (sort_of i)
  sort_there i m = parts_of.has_sort s marks law h.at_last.ready.parts.2 size sorts h.given.settled.check.sorted i m

  -- ---- what is given

  pub given_is : (i : ℕ) → is_marked marks i ≡ true → given_at gs i ≡ given_of (exact_at ts vs i)
  given_is i m = (h.given.exact.each i (within i m)).exact ∙ ap (λ (b : Bool). if b then given_of (exact_at ts vs i) else Unmarked) m

  pub marked_of : (i : ℕ) → i < length ts → (given_at gs i ≡ Unmarked → ⊥) → is_marked marks i ≡ true
  marked_of i less not = by (is_marked marks i) refl
    where
      by : (b : Bool) → is_marked marks i ≡ b → is_marked marks i ≡ true
      by true e = e
      by false e = absurd (not ((h.given.exact.each i less).exact ∙ ap (λ (b : Bool). if b then given_of (exact_at ts vs i) else Unmarked) e))

  sort_fits : (i : ℕ) → is_marked marks i ≡ true → has_sort (exact_at ts vs i) (sort_of i) ≡ true
  sort_fits i m = given_sort (exact_at ts vs i) (sort_of i) (subst (λ g. is_given_of g (sort_of i) ≡ true) (given_is i m) ((h.given.exact.each i (within i m)).sorted m))

  same_exact : (i j : ℕ) → is_marked marks i ≡ true → is_marked marks j ≡ true → given_at gs i ≡ given_at gs j → is_past (given_at gs i) ≡ false → exact_at ts vs i ≡ exact_at ts vs j
  same_exact i j m n e past = one_value (exact_at ts vs i) (exact_at ts vs j) (given_at gs i) (given_is i m) (e ∙ given_is j n) past

  other_exact : (i j : ℕ) → is_marked marks i ≡ true → is_marked marks j ≡ true → given_at gs i ≢ given_at gs j → exact_at ts vs i ≢ exact_at ts vs j
  other_exact i j m n d e = d (given_is i m ∙ ap given_of e ∙ sym (given_is j n))

  -- the value of a term that is no number is the one that is listed
  listed_is : (i : ℕ) (v : Value) → is_marked marks i ≡ true → is_whole v ≡ false → exact_at ts vs i ≡ v → listed vs i ≡ v
  listed_is i v m other e = by (is_leaf_head link.head) refl
    where
      link : IsLinked ts i
      link = h.at_last.ready.under_way.0.forms.linked i (within i m)

      by : (b : Bool) → is_leaf_head link.head ≡ b → listed vs i ≡ v
      by true leaf = sym (leaf_value ts vs i link.head link.arguments h.at_last.ready.under_way.0.different (within i m) link.tree leaf) ∙ e
      by false sum =
          let k : is_whole v ≡ true = ap is_whole (sym e ∙ sum_value ts vs i link.head link.arguments link.tree sum) in
          absurd cc

  -- ---- Bools

  is_bool : (i : ℕ) (b : Bool) → is_marked marks i ≡ true → exact_at ts vs i ≡ Truth b → tree_sort ds (tree_at ts i) ≡ Some Truths
  is_bool i b m e = sort_there i m ∙ ap Some (truth_sort b (sort_of i) (subst (λ v. has_sort v (sort_of i) ≡ true) e (sort_fits i m)))

  stands : (a : Atom) → Contains h.given.settled.check.decided.first a → (n : ℕ) × IsAt table n a
  stands a (n, less, e) =
      let first = h.given.settled.check.decided.first in
      let more = h.given.settled.check.decided.more in
      let is = h.given.settled.check.decided.table_is in (
        n,
        (
          subst (λ (t : List Atom). n < length t) (sym is) (let k = length-append first more in omega (arith, less, k)),
          λ d. ap (λ (t : List Atom). slice_index_or t n d) is ∙ get_or_append_left first more d n less ∙ get_or_default first n d a less ∙ e,
        ),
      )

  -- the log tells the truth of a Bool as its value has it
  truth_gives : (i : ℕ) (b : Bool) → is_marked marks i ≡ true → exact_at ts vs i ≡ Truth b → Gives table log (TruthAtom i) b
  truth_gives i b m e =
      let fitting = h.given.settled.check in
      let numbered : Contains fitting.decided.first (TruthAtom i) =
      parts_of.truth_numbered s marks law h.at_last.ready.parts.2 size fitting.decided.first w.forms fitting.decided.atoms h.at_last.ready.under_way.0 i m (is_bool i b m e)
      in
      let at : (n : ℕ) × IsAt table n (TruthAtom i) = stands (TruthAtom i) numbered in
      elim (fitting.full (literal b at.0) at.1.0) [
        | inl told ↦ record { number = at.0; at = at.1; told = told }
        | inr told ↦
            absurd (not_other b (
            let k : Truth b ≡ Truth (not b) = sym (listed_is i (Truth b) m refl e) ∙ h.given.settled.truths (literal (not b) at.0) i told at.1 in
            cc
            ))
      ]

  truths_equal : (i j : ℕ) (b : Bool) → is_marked marks i ≡ true → is_marked marks j ≡ true → exact_at ts vs i ≡ Truth b → exact_at ts vs j ≡ Truth b → AreEqualTerms c i j
  truths_equal i j b m n e f =
      let equalities = h.given.settled.closure.equalities in
      Equal.joined (equalities.truths i b (truth_gives i b m e)) (Equal.turned (equalities.truths j b (truth_gives j b n f)))

  truths_apart : (i j : ℕ) (a b : Bool) → is_marked marks i ≡ true → is_marked marks j ≡ true → exact_at ts vs i ≡ Truth a → exact_at ts vs j ≡ Truth b → a ≢ b → AreEqualTerms c i j → ⊥
  truths_apart i j true true m n e f d g = d refl
  truths_apart i j false false m n e f d g = d refl
  truths_apart i j true false m n e f d g =
      let equalities = h.given.settled.closure.equalities in
      h.given.settled.closure.apart.truths (Equal.joined (Equal.turned (equalities.truths i true (truth_gives i true m e))) (Equal.joined g (equalities.truths j false (truth_gives j false n f))))
  truths_apart i j false true m n e f d g =
      let equalities = h.given.settled.closure.equalities in
      h.given.settled.closure.apart.truths (Equal.joined (Equal.turned (equalities.truths j true (truth_gives j true n f))) (Equal.joined (Equal.turned g) (equalities.truths i false (truth_gives i false m e))))

  -- ---- elements

  class_is : (i e : ℕ) → is_marked marks i ≡ true → exact_at ts vs i ≡ Element e → root_of c.closure.classes.unions (i + 2) ≡ e
  class_is i e m k =
      let sort = element_sort e (sort_of i) (subst (λ v. has_sort v (sort_of i) ≡ true) k (sort_fits i m)) in
      let is : IsMarkedElement s marks i = record { marked = m; sort = sort.0; has = sort_there i m ∙ ap Some sort.1 } in
      let same : Element (root_of c.closure.classes.unions (i + 2)) ≡ Element e = sym (h.given.settled.elements i is) ∙ listed_is i (Element e) m refl k in
      cc

  -- ---- Ints

  pub fits_there : (i : ℕ) (a : ℤ) → is_marked marks i ≡ true → exact_at ts vs i ≡ Whole a → IsFit s marks i
  fits_there i a m e =
      fit s marks sorts i h.at_last.ready.parts.0 h.at_last.ready.parts.1 h.given.settled.check.sorted m (number_sort a (sort_of i) (subst (λ v. has_sort v (sort_of i) ≡ true) e (sort_fits i m)))

  place_number : (i : ℕ) → number_of (exact_at ts vs i) ≡ number_of_place ts vs i
  unfolding exact_at number_of_place
  place_number i = number_is ts vs (tree_at ts i)

  pub its_number : (i : ℕ) → IsFit s marks i → number_of (exact_at ts vs i) ≡ number_there ts w.held.bounds.bounds i
  its_number i k = place_number i ∙ h.given.settled.numbers i k

  contained : (a : Atom) → Contains table a → (n : ℕ) × IsAt table n a
  contained a (n, less, e) = (n, (less, λ d. get_or_default table n d a less ∙ e))

  -- an equality of two Ints that has a number is told as their values have it
  told_as : (i j : ℕ) (a b : ℤ) → is_marked marks i ≡ true → is_marked marks j ≡ true → exact_at ts vs i ≡ Whole a → exact_at ts vs j ≡ Whole b → Contains table (Same i j) → Gives table log (Same i j) (int_eq a b)
  told_as i j a b m n e f has =
      let left = fits_there i a m e in
      let right = fits_there j b n f in
      let at = contained (Same i j) has in
      let x : number_there ts w.held.bounds.bounds i ≡ a = sym (its_number i left) ∙ ap number_of e in
      let y : number_there ts w.held.bounds.bounds j ≡ b = sym (its_number j right) ∙ ap number_of f in
      record {
        number = at.0;
        at = at.1;
        told = subst (λ z. Contains log (literal (int_eq z b) at.0)) x (subst (λ z. Contains log (literal (int_eq (number_there ts w.held.bounds.bounds i) z) at.0)) y (h.given.settled.ints i j left right at.0 at.1));
      }

  wanted : (i j : ℕ) (a b : ℤ) → is_marked marks i ≡ true → is_marked marks j ≡ true → exact_at ts vs i ≡ Whole a → exact_at ts vs j ≡ Whole b → (Gives table log (Same i j) (int_eq a b) → ⊥)
      → IsWanted s marks table (record { left = i; right = j })
  wanted i j a b m n e f other = record { left = fits_there i a m e; right = fits_there j b n f; new = λ has. other (told_as i j a b m n e f has) }

  -- ---- both

  -- two terms of one value in two classes are Ints whose equality has no number
  by_value : (i j : ℕ) (v : Value) → is_marked marks i ≡ true → is_marked marks j ≡ true → exact_at ts vs i ≡ v → exact_at ts vs j ≡ v → (AreInOneClass c i j → ⊥) → IsWanted s marks table (record { left = i; right = j })
  by_value i j (Truth b) m n e f apart = absurd (apart ((h.given.settled.closure.classes.classes i j).1 (truths_equal i j b m n e f)))
  by_value i j (Element k) m n e f apart = absurd (apart (class_is i k m e ∙ sym (class_is j k n f)))
  by_value i j (Whole a) m n e f apart =
      wanted i j a a m n e f
      (λ g. apart ((h.given.settled.closure.classes.classes i j).1 (h.given.settled.closure.equalities.same i j (subst (Gives table log (Same i j)) (eq_same a) g))))

  pub wanted_apart : (i j : ℕ) → is_marked marks i ≡ true → is_marked marks j ≡ true → given_at gs i ≡ given_at gs j → is_past (given_at gs i) ≡ false → (AreInOneClass c i j → ⊥)
      → IsWanted s marks table (record { left = i; right = j })
  wanted_apart i j m n same past apart = by_value i j (exact_at ts vs i) m n refl (sym (same_exact i j m n same past)) apart

  -- two terms of one sort and one class with two values are Ints whose equality has no number
  by_values : (i j : ℕ) (x y : Value) (r : Sort) → is_marked marks i ≡ true → is_marked marks j ≡ true → exact_at ts vs i ≡ x → exact_at ts vs j ≡ y → has_sort x r ≡ true → has_sort y r ≡ true → x ≢ y
      → AreEqualTerms c i j → IsWanted s marks table (record { left = i; right = j })
  by_values i j (Truth a) (Truth b) r m n e f k l d g = absurd (truths_apart i j a b m n e f (λ q. d (ap Truth q)) g)
  by_values i j (Element a) (Element b) r m n e f k l d g =
      absurd (d (ap Element (sym (class_is i a m e) ∙ (h.given.settled.closure.classes.classes i j).1 g ∙ class_is j b n f)))
  by_values i j (Whole a) (Whole b) r m n e f k l d g =
      wanted i j a b m n e f (λ t. h.given.settled.closure.apart.same i j (subst (Gives table log (Same i j)) (eq_other a b (λ q. d (ap Whole q))) t) g)
  by_values i j (Truth a) (Whole b) r m n e f k l d g = absurd (let q : Truths ≡ Ints = sym (truth_sort a r k) ∙ number_sort b r l in cc)
  by_values i j (Whole a) (Truth b) r m n e f k l d g = absurd (let q : Truths ≡ Ints = sym (truth_sort b r l) ∙ number_sort a r k in cc)
  by_values i j (Truth a) (Element b) r m n e f k l d g = absurd (let t = element_sort b r l in let q : Truths ≡ Free t.0 = sym (truth_sort a r k) ∙ t.1 in cc)
  by_values i j (Element a) (Truth b) r m n e f k l d g = absurd (let t = element_sort a r k in let q : Truths ≡ Free t.0 = sym (truth_sort b r l) ∙ t.1 in cc)
  by_values i j (Whole a) (Element b) r m n e f k l d g = absurd (let t = element_sort b r l in let q : Ints ≡ Free t.0 = sym (number_sort a r k) ∙ t.1 in cc)
  by_values i j (Element a) (Whole b) r m n e f k l d g = absurd (let t = element_sort a r k in let q : Ints ≡ Free t.0 = sym (number_sort b r l) ∙ t.1 in cc)

  pub wanted_equal : (i j : ℕ) → is_marked marks i ≡ true → is_marked marks j ≡ true → tree_sort ds (tree_at ts i) ≡ tree_sort ds (tree_at ts j) → given_at gs i ≢ given_at gs j → AreEqualTerms c i j
      → IsWanted s marks table (record { left = i; right = j })
  wanted_equal i j m n sort d g =
      let one : sort_of i ≡ sort_of j = (let k : Some (sort_of i) ≡ Some (sort_of j) = sym (sort_there i m) ∙ sort ∙ sort_there j n in cc) in
      by_values i j (exact_at ts vs i) (exact_at ts vs j) (sort_of i) m n refl refl (sort_fits i m) (subst (λ r. has_sort (exact_at ts vs j) r ≡ true) (sym one) (sort_fits j n)) (other_exact i j m n d) g

  -- two applications of one symbol have one sort
  pub same_sort : (i j f : ℕ) (is js : List ℕ) → is_marked marks i ≡ true → is_marked marks j ≡ true → tree_at ts i ≡ tree_with ts (Symbol f) is → tree_at ts j ≡ tree_with ts (Symbol f) js
      → tree_sort ds (tree_at ts i) ≡ tree_sort ds (tree_at ts j)
  same_sort i j f is js m n e g =
      let left : with_sorts ds (Symbol f) (tree_sorts ds (pick ts is)) ≡ Some (sort_of i) = ap (tree_sort ds) (sym e) ∙ sort_there i m in
      let right : with_sorts ds (Symbol f) (tree_sorts ds (pick ts js)) ≡ Some (sort_of j) = ap (tree_sort ds) (sym g) ∙ sort_there j n in
      sort_there i m ∙ ap Some (one_sort ds f (tree_sorts ds (pick ts is)) (tree_sorts ds (pick ts js)) (sort_of i) (sort_of j) left right) ∙ sym (sort_there j n)
