-- The sort of a term by those of its arguments, and where it stays.
use Rattle.std.proofs.Common.{◌≡◌, ◌≢◌, ◌⊎◌, inl, inr, ℕ, zero, suc, ◌<◌, ◌+◌, Bool, true, false, not, ◌&&◌, nat_eq, List, [], ◌∷◌, ◌++◌, Option, Some, None, filter, length, All, slice_index, slice_index_or, subst, sym, ap, ◌∙◌, arith, refl}
use Rattle.std.specs.Prelude.{if◌then◌else◌}
use Rattle.std.proofs.lemmas.Bool.{ne_eqb, eqb-true}
use Rattle.std.proofs.lemmas.List.Elements.{All-head, All-tail}
use Rattle.std.proofs.lemmas.List.{get_or_append_left, get_or_push, length_push}
use Rattle.smt_meaning.specs.declared.values.Sort.{Sort}
use Rattle.smt_meaning.specs.declared.values.Sort.TheVariants.{Bool as Truths, Int as Ints}
use Rattle.smt_meaning.specs.declared.terms.Operator.{Operator}
use Rattle.smt_meaning.specs.declared.terms.Operator.TheVariants.{True, False, Not, And, Or, Xor, Implies, Equal, Distinct, Ite, Add, Subtract, Multiply, AtMost, Less, AtLeast, Greater, Divide, Modulo, Absolute, Divisible}
use Rattle.smt_meaning.specs.declared.terms.Head.{Head}
use Rattle.smt_meaning.specs.declared.terms.Head.TheVariants.{Numeral, Theory, Symbol, Place}
use Rattle.smt_meaning.specs.Declaration.{Declaration}
use Rattle.smt_meaning.specs.Term.{Tree, Trees, node, none, more, tree_at}
use Rattle.smt_meaning.specs.Nodes.{pick}
use Rattle.smt_meaning.specs.Signature.{tree_sort, tree_sorts, head_sort, with_sorts, cons_sort, operator_sort, ite_sort, if_so, all_of, all_the_same, sort_eq, stands_with, function_with_id, symbol_sort, HasNoIdTwice}
use Rattle.smt_laws.proofs.Both.{and_left}
use Rattle.term_store.specs.Terms.{tree_with}
use Rattle.scope_stack.specs.Facts.{AreSorts, made_sort}

-- ---- arguments

pub record HasArguments (ds : List Declaration) (h : Head) (us : Trees) (s : Sort) : Type 0 where
  pub sorts : List Sort
  pub are : tree_sorts ds us ≡ Some sorts
  pub made : head_sort ds h sorts ≡ Some s

by_sorts : (ds : List Declaration) (h : Head) (us : Trees) (s : Sort) (o : Option (List Sort)) → tree_sorts ds us ≡ o → with_sorts ds h o ≡ Some s → HasArguments ds h us s
by_sorts ds h us s None e p = absurd cc
by_sorts ds h us s (Some ss) e p = record { sorts = ss; are = e; made = p }

pub arguments_of : (ds : List Declaration) (h : Head) (us : Trees) (s : Sort) → tree_sort ds (node h us) ≡ Some s → HasArguments ds h us s
arguments_of ds h us s e = by_sorts ds h us s (tree_sorts ds us) refl e

pub record HasFirst (ds : List Declaration) (u : Tree) (us : Trees) (ss : List Sort) : Type 0 where
  pub first : Sort
  pub rest : List Sort
  pub here : tree_sort ds u ≡ Some first
  pub later : tree_sorts ds us ≡ Some rest
  pub are : ss ≡ first ∷ rest

by_first : (ds : List Declaration) (u : Tree) (us : Trees) (ss : List Sort) (o : Option Sort) (r : Option (List Sort)) → tree_sort ds u ≡ o → tree_sorts ds us ≡ r → cons_sort o r ≡ Some ss → HasFirst ds u us ss
by_first ds u us ss None r e f p = absurd cc
by_first ds u us ss (Some s) None e f p = absurd cc
by_first ds u us ss (Some s) (Some rest) e f p = record { first = s; rest = rest; here = e; later = f; are = cc }

pub first_of : (ds : List Declaration) (u : Tree) (us : Trees) (ss : List Sort) → tree_sorts ds (more u us) ≡ Some ss → HasFirst ds u us ss
first_of ds u us ss e = by_first ds u us ss (tree_sort ds u) (tree_sorts ds us) refl refl e

-- ---- operators

pub stands_so : (b : Bool) (x : Option Sort) (s : Sort) → (if b then x else None) ≡ Some s → x ≡ Some s
stands_so true x s h = h
stands_so false x s h = absurd cc

pub if_so_is : (b : Bool) (r s : Sort) → if_so b r ≡ Some s → r ≡ s
if_so_is true r s h = cc
if_so_is false r s h = absurd cc

pub the_some : (r s : Sort) → Some r ≡ Some s → r ≡ s
the_some r s h = cc

made_is : (o : Operator) (branch : Sort) (ss : List Sort) (s : Sort) → operator_sort o ss ≡ Some s → (ite_sort ss ≡ Some s → branch ≡ s) → made_sort o branch ≡ s
made_is True branch ss s h b = the_some Truths s h
made_is False branch ss s h b = the_some Truths s h
made_is Not branch ss s h b = if_so_is (all_of Truths ss) Truths s h
made_is And branch ss s h b = if_so_is (all_of Truths ss) Truths s h
made_is Or branch ss s h b = if_so_is (all_of Truths ss) Truths s h
made_is Xor branch ss s h b = if_so_is (all_of Truths ss) Truths s h
made_is Implies branch ss s h b = if_so_is (all_of Truths ss) Truths s h
made_is Equal branch ss s h b = if_so_is (all_the_same ss) Truths s h
made_is Distinct branch ss s h b = if_so_is (all_the_same ss) Truths s h
made_is Ite branch ss s h b = b h
made_is Add branch ss s h b = if_so_is (all_of Ints ss) Ints s h
made_is Subtract branch ss s h b = if_so_is (all_of Ints ss) Ints s h
made_is Multiply branch ss s h b = if_so_is (all_of Ints ss) Ints s h
made_is AtMost branch ss s h b = if_so_is (all_of Ints ss) Truths s h
made_is Less branch ss s h b = if_so_is (all_of Ints ss) Truths s h
made_is AtLeast branch ss s h b = if_so_is (all_of Ints ss) Truths s h
made_is Greater branch ss s h b = if_so_is (all_of Ints ss) Truths s h
made_is Divide branch ss s h b = if_so_is (all_of Ints ss) Ints s h
made_is Modulo branch ss s h b = if_so_is (all_of Ints ss) Ints s h
made_is Absolute branch ss s h b = if_so_is (all_of Ints ss) Ints s h
made_is Divisible branch ss s h b = if_so_is (all_of Ints ss) Truths s h

pub last_or_before : (n k : ℕ) → k < n + 1 → (k < n) ⊎ (n ≡ k)
last_or_before zero zero h = inr refl
last_or_before zero (suc k) h = absurd (omega arith)
last_or_before (suc n) zero h = inl (omega arith)
last_or_before (suc n) (suc k) h = elim (last_or_before n k (omega arith)) [ inl l ↦ inl (omega arith) | inr e ↦ inr (ap suc e) ]

-- ---- the sort of a term by those of its arguments

module _ (ds : List Declaration) (trees : List Tree) where
  -- the three sorts of an `ite` are those of three terms
  second_is : (is : List ℕ) (c r t : Sort) → tree_sorts ds (pick trees is) ≡ Some (c ∷ r ∷ t ∷ []) → (1 < length is) × (tree_sort ds (tree_at trees (slice_index is 1)) ≡ Some r)
  second_is [] c r t e = absurd cc
  second_is (i ∷ []) c r t e =
      let f : HasFirst ds (tree_at trees i) none (c ∷ r ∷ t ∷ []) = first_of ds (tree_at trees i) none (c ∷ r ∷ t ∷ []) e in
      let a : Some [] ≡ Some f.rest = f.later in
      let b : c ∷ r ∷ t ∷ [] ≡ f.first ∷ f.rest = f.are in
      absurd cc
  second_is (i ∷ j ∷ is) c r t e =
      let f : HasFirst ds (tree_at trees i) (pick trees (j ∷ is)) (c ∷ r ∷ t ∷ []) = first_of ds (tree_at trees i) (pick trees (j ∷ is)) (c ∷ r ∷ t ∷ []) e in
      let g : HasFirst ds (tree_at trees j) (pick trees is) f.rest = first_of ds (tree_at trees j) (pick trees is) f.rest f.later in
      let a : c ∷ r ∷ t ∷ [] ≡ f.first ∷ f.rest = f.are in
      let b : f.rest ≡ g.first ∷ g.rest = g.are in
      let same : g.first ≡ r = cc in
      (omega arith, g.here ∙ ap Some same)

  branch_is : (count : ℕ) (sorts : List Sort) (is : List ℕ) (ss : List Sort) (s branch : Sort) → AreSorts ds trees count sorts → All (λ i. i < count) is → tree_sorts ds (pick trees is) ≡ Some ss
      → (1 < length is → branch ≡ slice_index_or sorts (slice_index is 1) Truths) → ite_sort ss ≡ Some s → branch ≡ s
  branch_is count sorts is [] s branch a w e b p = absurd cc
  branch_is count sorts is (c ∷ []) s branch a w e b p = absurd cc
  branch_is count sorts is (c ∷ r ∷ []) s branch a w e b p = absurd cc
  branch_is count sorts is (c ∷ r ∷ t ∷ []) s branch a w e b p =
      let same : r ≡ s = if_so_is (sort_eq c Truths && sort_eq r t) r s p in
      let second : (1 < length is) × (tree_sort ds (tree_at trees (slice_index is 1)) ≡ Some r) = second_is is c r t e in
      b second.0 ∙ a.each (slice_index is 1) s (w 1 0 second.0) (second.1 ∙ ap Some same)
  branch_is count sorts is (c ∷ r ∷ t ∷ u ∷ ss) s branch a w e b p = absurd cc

  pub theory_sort : (count : ℕ) (sorts : List Sort) (o : Operator) (is : List ℕ) (s branch : Sort) → AreSorts ds trees count sorts → All (λ i. i < count) is
      → (1 < length is → branch ≡ slice_index_or sorts (slice_index is 1) Truths) → tree_sort ds (tree_with trees (Theory o) is) ≡ Some s → made_sort o branch ≡ s
  theory_sort count sorts o is s branch a w b e =
      let args : HasArguments ds (Theory o) (pick trees is) s = arguments_of ds (Theory o) (pick trees is) s e in
      made_is o branch args.sorts s (stands_so (stands_with o (length args.sorts)) (operator_sort o args.sorts) s args.made) (branch_is count sorts is args.sorts s branch a w args.are b)

  -- ---- one term more

  pub no_sorts : AreSorts ds trees 0 []
  no_sorts = record { size = refl; each = λ p s h e. absurd (omega arith) }

  pub sorts_more : (n : ℕ) (sorts : List Sort) (r : Sort) → AreSorts ds trees n sorts → ((s : Sort) → tree_sort ds (tree_at trees n) ≡ Some s → r ≡ s) → AreSorts ds trees (n + 1) (sorts ++ r ∷ [])
  sorts_more n sorts r a h = record {
    size = length_push sorts r ∙ ap (λ k. k + 1) a.size;
    each = λ p s l e. elim (last_or_before n p l) [
      | inl before ↦ get_or_append_left sorts (r ∷ []) Truths p (subst (λ k. p < k) (sym a.size) before) ∙ a.each p s before e
      | inr last ↦ get_or_push sorts r Truths p (a.size ∙ last) ∙ h s (subst (λ q. tree_sort ds (tree_at trees q) ≡ Some s) (sym last) e)
    ];
  }

-- ---- more declarations

-- what is found by its id among the ones is found again among the others
abbrev pub StillFound : List Declaration → List Declaration → Type 0
StillFound us ds = (f : ℕ) (ss : List Sort) (s : Sort) → symbol_sort (function_with_id f us) ss ≡ Some s → symbol_sort (function_with_id f ds) ss ≡ Some s

symbol_step : (d : Declaration) (o p : Option Declaration) (ss : List Sort) (s : Sort) (b : Bool) → (symbol_sort o ss ≡ Some s → symbol_sort p ss ≡ Some s)
    → symbol_sort (if b then Some d else o) ss ≡ Some s → symbol_sort (if b then Some d else p) ss ≡ Some s
symbol_step d o p ss s true h e = e
symbol_step d o p ss s false h e = h e

pub found_longer : (ds es : List Declaration) → StillFound ds (ds ++ es)
found_longer [] es f ss s e = absurd cc
found_longer (d ∷ ds) es f ss s e =
    symbol_step d (function_with_id f ds) (function_with_id f (ds ++ es)) ss s (nat_eq f d.id && not d.is_sort) (found_longer ds es f ss s) e

-- nothing is found by an id that none has
none_found : (f : ℕ) (ds : List Declaration) → All (λ (e : Declaration). f ≢ e.id) ds → function_with_id f ds ≡ None
none_found f [] h = refl
none_found f (d ∷ ds) h =
    ap (λ b. if b && not d.is_sort then Some d else function_with_id f ds) (ne_eqb f d.id (All-head (λ (e : Declaration). f ≢ e.id) d ds h))
    ∙ none_found f ds (All-tail (λ (e : Declaration). f ≢ e.id) d ds h)

not_here : (f : ℕ) (d : Declaration) (ds : List Declaration) (ss : List Sort) (s : Sort) (b : Bool) → (nat_eq f d.id && not d.is_sort) ≡ b → All (λ (e : Declaration). d.id ≢ e.id) ds
    → symbol_sort (function_with_id f ds) ss ≡ Some s → symbol_sort (if b then Some d else function_with_id f ds) ss ≡ Some s
not_here f d ds ss s false p h e = e
not_here f d ds ss s true p h e =
    let same : f ≡ d.id = eqb-true f d.id (and_left (nat_eq f d.id) (not d.is_sort) p) in
    let none' : function_with_id f ds ≡ None = none_found f ds (subst (λ n. All (λ (e : Declaration). n ≢ e.id) ds) (sym same) h) in
    let bad : symbol_sort None ss ≡ Some s = subst (λ o. symbol_sort o ss ≡ Some s) none' e in
    absurd cc

kept_found : (p : Declaration → Bool) (d : Declaration) (ds : List Declaration) (b : Bool) → All (λ (e : Declaration). d.id ≢ e.id) ds → StillFound (filter p ds) ds
    → StillFound (if b then d ∷ filter p ds else filter p ds) (d ∷ ds)
kept_found p d ds true h g f ss s e = symbol_step d (function_with_id f (filter p ds)) (function_with_id f ds) ss s (nat_eq f d.id && not d.is_sort) (g f ss s) e
kept_found p d ds false h g f ss s e = not_here f d ds ss s (nat_eq f d.id && not d.is_sort) refl h (g f ss s e)

pub found_filtered : (p : Declaration → Bool) (ds : List Declaration) → HasNoIdTwice ds → StillFound (filter p ds) ds
found_filtered p [] h = λ f ss s e. e
found_filtered p (d ∷ ds) h = kept_found p d ds (p d) h.0 (found_filtered p ds h.1)

head_still : (us ds : List Declaration) → StillFound us ds → (h : Head) (ss : List Sort) (s : Sort) → head_sort us h ss ≡ Some s → head_sort ds h ss ≡ Some s
head_still us ds g (Numeral n) [] s e = e
head_still us ds g (Numeral n) (r ∷ rs) s e = e
head_still us ds g (Theory o) ss s e = e
head_still us ds g (Symbol f) ss s e = g f ss s e
head_still us ds g (Place k) ss s e = e

module _ (us ds : List Declaration) (g : StillFound us ds) where
  mutual
    -- a term that has a sort has it where its symbols are found again
    pub sort_still : (t : Tree) (s : Sort) → tree_sort us t ≡ Some s → tree_sort ds t ≡ Some s
    sort_still (node h ts) s e =
        let a : HasArguments us h ts s = arguments_of us h ts s e in
        ap (with_sorts ds h) (sorts_still ts a.sorts a.are) ∙ head_still us ds g h a.sorts s a.made

    sorts_still : (ts : Trees) (ss : List Sort) → tree_sorts us ts ≡ Some ss → tree_sorts ds ts ≡ Some ss
    sorts_still none ss e = e
    sorts_still (more t ts) ss e =
        let f : HasFirst us t ts ss = first_of us t ts ss e in
        ap (λ o. cons_sort o (tree_sorts ds ts)) (sort_still t f.first f.here) ∙ ap (cons_sort (Some f.first)) (sorts_still ts f.rest f.later) ∙ ap Some (sym f.are)
