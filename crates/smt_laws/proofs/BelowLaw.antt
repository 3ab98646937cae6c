-- The sort of a term whose symbols are declared at a level is the same there and above.
use Rattle.std.proofs.Common.{◌≡◌, ℕ, ◌+◌, List, [], ◌∷◌, ◌++◌, All, Contains, map, take, drop, ap, sym, subst, ◌∙◌, refl, Bool, true, false, ◌&&◌, not, Option, Some, None, nat_eq, eq-eqb, inl, inr, arith}
use Rattle.std.specs.Prelude.{◌≢◌, if◌then◌else◌}
use Rattle.std.proofs.lemmas.Bool.{eqb-true}
use Rattle.std.proofs.lemmas.Grind.{flat_map-append}
use Rattle.std.proofs.lemmas.List.{take-append-drop}
use Rattle.std.proofs.lemmas.List.Elements.{All-nil, All-cons, All-head, All-tail, All-append, All-contains, Contains-append_cases, Contains-append_right}
use Rattle.smt_meaning.specs.declared.values.Sort.{Sort}
use Rattle.smt_meaning.specs.declared.terms.Head.{Head}
use Rattle.smt_meaning.specs.declared.terms.Head.TheVariants.{Numeral, Theory, Symbol, Place}
use Rattle.smt_meaning.specs.Declaration.{Declaration}
use Rattle.smt_meaning.specs.Term.{Tree, Trees, node, none, more}
use Rattle.smt_meaning.specs.Signature.{function_with_id, symbol_sort, head_sort, cons_sort, with_sorts, tree_sort, tree_sorts, HasNoIdTwice}
use Rattle.smt_meaning.specs.Clause.{symbols, symbols_of, head_symbols}
use Rattle.smt_meaning.specs.Stack.{Frame, signature_of, up_to}
use Rattle.smt_laws.proofs.FrontAndBack.{all_front, all_back}
use Rattle.smt_laws.proofs.Both.{and_left}
use Rattle.smt_laws.specs.SortLaws.{SortsAreTheSameBelow, SymbolsAreDeclared}

abbrev ids : List Declaration → List ℕ
ids ds = map (λ (d : Declaration). d.id) ds

-- no other has the id
other : (f : ℕ) (ds : List Declaration) → All (λ (d : Declaration). f ≢ d.id) ds → function_with_id f ds ≡ None
other f [] h = refl
other f (d ∷ ds) h = go (other f ds (All-tail (λ (x : Declaration). f ≢ x.id) d ds h)) (nat_eq f d.id) refl
  where
    go : function_with_id f ds ≡ None → (b : Bool) → nat_eq f d.id ≡ b → (if b && not d.is_sort then Some d else function_with_id f ds) ≡ None
    go k true e = absurd (All-head (λ (x : Declaration). f ≢ x.id) d ds h (eqb-true f d.id e))
    go k false e = k

-- it is the first, or one of the others
not_first : (f g : ℕ) (gs : List ℕ) → nat_eq f g ≡ false → Contains (g ∷ gs) f → Contains gs f
not_first f g gs e c =
    elim (Contains-append_cases (g ∷ []) gs f c) [
      | inl a ↦
          let same : f ≡ g = All-contains (λ x. x ≡ g) (g ∷ []) f (All-cons (λ x. x ≡ g) g [] refl (All-nil (λ x. x ≡ g))) a in
          let equal : nat_eq f g ≡ true = eq-eqb f g same in
          absurd (cc)
      | inr b ↦ b
    ]

-- the function with the id of an earlier declaration is found among the earlier ones, if at all
kept_below : (f : ℕ) (ds es : List Declaration) → HasNoIdTwice (ds ++ es) → Contains (ids ds) f → function_with_id f (ds ++ es) ≡ function_with_id f ds
kept_below f [] es h c = absurd (omega (arith, c.1))
kept_below f (d ∷ ds) es h c = go (λ k. kept_below f ds es h.1 k) (nat_eq f d.id) refl
  where
    at_own : (b : Bool) → f ≡ d.id → (if b then Some d else function_with_id f (ds ++ es)) ≡ (if b then Some d else function_with_id f ds)
    at_own true e = refl
    at_own false e =
        let none_above : All (λ (x : Declaration). f ≢ x.id) (ds ++ es) = subst (λ g. All (λ (x : Declaration). g ≢ x.id) (ds ++ es)) (sym e) h.0 in
        other f (ds ++ es) none_above ∙ sym (other f ds (all_front (λ (x : Declaration). f ≢ x.id) ds es none_above))

    go : (Contains (ids ds) f → function_with_id f (ds ++ es) ≡ function_with_id f ds)
        → (b : Bool) → nat_eq f d.id ≡ b → (if b && not d.is_sort then Some d else function_with_id f (ds ++ es)) ≡ (if b && not d.is_sort then Some d else function_with_id f ds)
    go k true e = at_own (not d.is_sort) (eqb-true f d.id e)
    go k false e = k (not_first f d.id (ids ds) e c)

-- ---- terms

same_head : (ds es : List Declaration) (h : Head) (o : Option (List Sort)) → HasNoIdTwice (ds ++ es) → All (Contains (ids ds)) (head_symbols h) → with_sorts ds h o ≡ with_sorts (ds ++ es) h o
same_head ds es h None u a = refl
same_head ds es (Numeral n) (Some []) u a = refl
same_head ds es (Numeral n) (Some (s ∷ ss)) u a = refl
same_head ds es (Theory o) (Some ss) u a = refl
same_head ds es (Symbol f) (Some ss) u a = ap (λ d. symbol_sort d ss) (sym (kept_below f ds es u (All-head (Contains (ids ds)) f [] a)))
same_head ds es (Place k) (Some ss) u a = refl

mutual
  same_below : (ds es : List Declaration) (t : Tree) → HasNoIdTwice (ds ++ es) → All (Contains (ids ds)) (symbols t) → tree_sort ds t ≡ tree_sort (ds ++ es) t
  same_below ds es (node h us) u a =
      ap (with_sorts ds h) (all_same_below ds es us u (all_back (Contains (ids ds)) (head_symbols h) (symbols_of us) a))
      ∙ same_head ds es h (tree_sorts (ds ++ es) us) u (all_front (Contains (ids ds)) (head_symbols h) (symbols_of us) a)

  all_same_below : (ds es : List Declaration) (us : Trees) → HasNoIdTwice (ds ++ es) → All (Contains (ids ds)) (symbols_of us) → tree_sorts ds us ≡ tree_sorts (ds ++ es) us
  all_same_below ds es none u a = refl
  all_same_below ds es (more t us) u a =
      ap (λ o. cons_sort o (tree_sorts ds us)) (same_below ds es t u (all_front (Contains (ids ds)) (symbols t) (symbols_of us) a))
      ∙ ap (cons_sort (tree_sort (ds ++ es) t)) (all_same_below ds es us u (all_back (Contains (ids ds)) (symbols t) (symbols_of us) a))

levels_apart : (k : ℕ) (frames : List Frame) → signature_of frames ≡ signature_of (take k frames) ++ signature_of (drop k frames)
levels_apart k frames = ap signature_of (sym (take-append-drop k frames)) ∙ flat_map-append (λ (f : Frame). f.declared) (take k frames) (drop k frames)

pub sorts_below : SortsAreTheSameBelow
sorts_below frames l t u a =
    same_below (signature_of (up_to l frames)) (signature_of (drop (l + 1) frames)) t (subst HasNoIdTwice (levels_apart (l + 1) frames) u) a
    ∙ ap (λ ds. tree_sort ds t) (sym (levels_apart (l + 1) frames))

-- ---- the symbols of a term that has a sort

declared_symbol : (f : ℕ) (ds : List Declaration) (ss : List Sort) (s : Sort) → symbol_sort (function_with_id f ds) ss ≡ Some s → Contains (ids ds) f
declared_symbol f [] ss s e = absurd (cc)
declared_symbol f (d ∷ ds) ss s e = go (λ k. declared_symbol f ds ss s k) (nat_eq f d.id && not d.is_sort) refl e
  where
    go : (symbol_sort (function_with_id f ds) ss ≡ Some s → Contains (ids ds) f)
        → (b : Bool) → (nat_eq f d.id && not d.is_sort) ≡ b → symbol_sort (if b then Some d else function_with_id f ds) ss ≡ Some s → Contains (ids (d ∷ ds)) f
    go k true p q = let here : Contains (ids (d ∷ ds)) d.id = (0, omega arith, refl) in subst (Contains (ids (d ∷ ds))) (sym (eqb-true f d.id (and_left (nat_eq f d.id) (not d.is_sort) p))) here
    go k false p q = Contains-append_right (d.id ∷ []) (ids ds) f (k q)

head_declared : (ds : List Declaration) (h : Head) (ss : List Sort) (s : Sort) → head_sort ds h ss ≡ Some s → All (Contains (ids ds)) (head_symbols h)
head_declared ds (Numeral n) ss s e = All-nil (Contains (ids ds))
head_declared ds (Theory o) ss s e = All-nil (Contains (ids ds))
head_declared ds (Symbol f) ss s e = All-cons (Contains (ids ds)) f [] (declared_symbol f ds ss s e) (All-nil (Contains (ids ds)))
head_declared ds (Place k) ss s e = All-nil (Contains (ids ds))

sorted_arguments : (ds : List Declaration) (h : Head) (o : Option (List Sort)) (s : Sort) → with_sorts ds h o ≡ Some s → (ss : List Sort) × (o ≡ Some ss) × (head_sort ds h ss ≡ Some s)
sorted_arguments ds h None s e = absurd (cc)
sorted_arguments ds h (Some ss) s e = (ss, refl, e)

sorted_first : (o : Option Sort) (r : Option (List Sort)) (ss : List Sort) → cons_sort o r ≡ Some ss → (s : Sort) × (rs : List Sort) × (o ≡ Some s) × (r ≡ Some rs)
sorted_first None r ss e = absurd (cc)
sorted_first (Some s) None ss e = absurd (cc)
sorted_first (Some s) (Some rs) ss e = (s, rs, refl, refl)

mutual
  symbols_declared : (ds : List Declaration) (t : Tree) (s : Sort) → tree_sort ds t ≡ Some s → All (Contains (ids ds)) (symbols t)
  symbols_declared ds (node h us) s e =
      let w : (ss : List Sort) × (tree_sorts ds us ≡ Some ss) × (head_sort ds h ss ≡ Some s) = sorted_arguments ds h (tree_sorts ds us) s e in
      All-append (Contains (ids ds)) (head_symbols h) (symbols_of us) (head_declared ds h w.0 s w.2) (all_symbols_declared ds us w.0 w.1)

  all_symbols_declared : (ds : List Declaration) (us : Trees) (ss : List Sort) → tree_sorts ds us ≡ Some ss → All (Contains (ids ds)) (symbols_of us)
  all_symbols_declared ds none ss e = All-nil (Contains (ids ds))
  all_symbols_declared ds (more t us) ss e =
      let w : (s : Sort) × (rs : List Sort) × (tree_sort ds t ≡ Some s) × (tree_sorts ds us ≡ Some rs) = sorted_first (tree_sort ds t) (tree_sorts ds us) ss e in
      All-append (Contains (ids ds)) (symbols t) (symbols_of us) (symbols_declared ds t w.0 w.2) (all_symbols_declared ds us w.1 w.3)

pub symbols_are_declared : SymbolsAreDeclared
symbols_are_declared = symbols_declared
