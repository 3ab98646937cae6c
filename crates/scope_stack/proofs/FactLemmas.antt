-- What is kept beside the terms stays right as terms and declarations come and go.
use Rattle.std.proofs.Common.{◌≡◌, ◌≢◌, ◌∙◌, append_assoc, filter, ◌⊎◌, inl, inr, sym, refl, ap, subst, ℕ, zero, suc, ◌+◌, ◌-◌, ◌<◌, ◌≤◌, List, [], ◌∷◌, ◌++◌, All, take, drop, length, replicate, arith, not, ◌&&◌, Option, Some, None, nat_eq, Result, Ok, Err, Bool, true, false, append-nil, slice_index, slice_index_or}
use Rattle.std.specs.Prelude.{ℤ, if◌then◌else◌}
use Rattle.std.proofs.lemmas.Bool.{ne_eqb}
use Rattle.std.proofs.lemmas.Grind.{flat_map-append}
use Rattle.std.proofs.lemmas.List.{take-append-drop, length-take, get_or-take}
use Rattle.std.proofs.lemmas.List.Elements.{All-head, All-tail, All-weaker}
use Rattle.smt_meaning.specs.declared.values.Sort.{Sort}
use Rattle.smt_meaning.specs.declared.values.Sort.TheVariants.{Bool as Truths, Int as Ints}
use Rattle.smt_meaning.specs.declared.terms.Operator.{Operator}
use Rattle.smt_meaning.specs.declared.terms.Head.{Head}
use Rattle.smt_meaning.specs.declared.terms.Head.TheVariants.{Numeral, Theory, Symbol, Place}
use Rattle.smt_meaning.specs.Declaration.{Declaration}
use Rattle.smt_meaning.specs.Term.{Tree, Trees, node, none, more, tree_at}
use Rattle.smt_meaning.specs.Nodes.{pick}
use Rattle.smt_meaning.specs.Stack.{stays}
use Rattle.smt_meaning.specs.Signature.{HasNoIdTwice, function_with_id, is_symbol, sorts_eq, symbol_sort, head_sort, cons_sort, with_sorts, tree_sort, tree_sorts}
use Rattle.smt_meaning.specs.Clause.{symbols, symbols_of, head_symbols}
use Rattle.smt_meaning.specs.StackCommand.{Change}
use Rattle.smt_meaning.specs.Sorts.{Judging}
use Rattle.smt_sorts.specs.Names.{Names, all_of_levels, signature, gaining, with_declaration, with_levels, without_levels, cleared, base_of, based, HasGained}
use Rattle.term_store.specs.Terms.{Terms, tree_with}
use Rattle.elaborate.specs.Values.{IsLonger}
use Rattle.scope_stack.specs.declared.answers.Assertion.{Assertion}
use Rattle.scope_stack.specs.declared.answers.Carried.{Carried}
use Rattle.scope_stack.specs.declared.answers.Carried.TheVariants.{Done, Unsupported}
use Rattle.scope_stack.specs.declared.answers.StackError.{StackError}
use Rattle.scope_stack.specs.Judged.{Declares}
use Rattle.scope_stack.specs.Facts.{HasGivenSymbols, IsResult, IsFact, AreFacts, IsKept, made_sort}
use Rattle.scope_stack.proofs.PieceLemmas.{All-left, All-right}
use Rattle.scope_stack.proofs.FrameLemmas.{tree_at-longer}
use Rattle.scope_stack.proofs.SortLemmas.{HasArguments, arguments_of, the_some, theory_sort, last_or_before, sorts_more, sort_still, StillFound, found_longer, found_filtered}

-- ---- declarations with later ids

abbrev pub AreLater : ℕ → List Declaration → Type 0
AreLater n es = All (λ (d : Declaration). n ≤ d.id) es

none_later : (f n : ℕ) (es : List Declaration) → AreLater n es → f < n → function_with_id f es ≡ None
none_later f n [] h lt = refl
none_later f n (e ∷ es) h lt =
    let first : n ≤ e.id = All-head (λ (d : Declaration). n ≤ d.id) e es h in
    ap (λ b. if b && not e.is_sort then Some e else function_with_id f es) (ne_eqb f e.id (λ q. omega arith)) ∙ none_later f n es (All-tail (λ (d : Declaration). n ≤ d.id) e es h) lt

same_symbol : (f n : ℕ) (ds es : List Declaration) → AreLater n es → f < n → function_with_id f (ds ++ es) ≡ function_with_id f ds
same_symbol f n [] es h lt = none_later f n es h lt
same_symbol f n (d ∷ ds) es h lt = ap (λ o. if nat_eq f d.id && not d.is_sort then Some d else o) (same_symbol f n ds es h lt)

same_behind : (f : ℕ) (ds es fs : List Declaration) → function_with_id f es ≡ function_with_id f fs → function_with_id f (ds ++ es) ≡ function_with_id f (ds ++ fs)
same_behind f [] es fs h = h
same_behind f (d ∷ ds) es fs h = ap (λ o. if nat_eq f d.id && not d.is_sort then Some d else o) (same_behind f ds es fs h)

same_before_all : (f n : ℕ) (d : Declaration) (ds : List Declaration) → n ≤ d.id → f < n → function_with_id f (d ∷ ds) ≡ function_with_id f ds
same_before_all f n d ds h lt = ap (λ b. if b && not d.is_sort then Some d else function_with_id f ds) (ne_eqb f d.id (λ q. omega arith))

-- a later declaration, wherever it joins
same_joined : (f n : ℕ) (d : Declaration) (ds es : List Declaration) → n ≤ d.id → f < n → function_with_id f ((ds ++ d ∷ []) ++ es) ≡ function_with_id f (ds ++ es)
same_joined f n d ds es h lt = ap (function_with_id f) (append_assoc ds (d ∷ []) es) ∙ same_behind f ds (d ∷ es) es (same_before_all f n d es h lt)

same_gaining : (f n : ℕ) (global : Bool) (d : Declaration) (dss : List (List Declaration)) → n ≤ d.id → f < n
    → function_with_id f (all_of_levels (gaining global (d ∷ []) dss)) ≡ function_with_id f (all_of_levels dss)
same_gaining f n true d [] h lt = refl
same_gaining f n true d (ds ∷ dss) h lt = same_joined f n d ds (all_of_levels dss) h lt
same_gaining f n false d [] h lt = refl
same_gaining f n false d (ds ∷ []) h lt = same_joined f n d ds [] h lt
same_gaining f n false d (ds ∷ es ∷ dss) h lt =
    same_behind f ds (all_of_levels (gaining false (d ∷ []) (es ∷ dss))) (all_of_levels (es ∷ dss)) (same_gaining f n false d (es ∷ dss) h lt)

module _ (n : ℕ) (us ds : List Declaration) (same : (f : ℕ) → f < n → function_with_id f us ≡ function_with_id f ds) where
  same_head : (h : Head) (o : Option (List Sort)) → All (λ f. f < n) (head_symbols h) → with_sorts us h o ≡ with_sorts ds h o
  same_head h None a = refl
  same_head (Numeral k) (Some []) a = refl
  same_head (Numeral k) (Some (s ∷ ss)) a = refl
  same_head (Theory o) (Some ss) a = refl
  same_head (Symbol f) (Some ss) a = ap (λ d. symbol_sort d ss) (same f (All-head (λ f. f < n) f [] a))
  same_head (Place k) (Some ss) a = refl

  mutual
    same_sort : (t : Tree) → HasGivenSymbols n t → tree_sort us t ≡ tree_sort ds t
    same_sort (node h ts) a =
        ap (with_sorts us h) (same_sorts ts (All-right (λ f. f < n) (head_symbols h) (symbols_of ts) a))
        ∙ same_head h (tree_sorts ds ts) (All-left (λ f. f < n) (head_symbols h) (symbols_of ts) a)

    same_sorts : (ts : Trees) → All (λ f. f < n) (symbols_of ts) → tree_sorts us ts ≡ tree_sorts ds ts
    same_sorts none a = refl
    same_sorts (more t ts) a =
        ap (λ o. cons_sort o (tree_sorts us ts)) (same_sort t (All-left (λ f. f < n) (symbols t) (symbols_of ts) a))
        ∙ ap (cons_sort (tree_sort ds t)) (same_sorts ts (All-right (λ f. f < n) (symbols t) (symbols_of ts) a))

found_sort : (o : Option Declaration) (d : Declaration) (ss : List Sort) (s : Sort) → o ≡ Some d → symbol_sort o ss ≡ Some s → d.rank.result ≡ s
found_sort o d ss s e h = by_test (is_symbol d && sorts_eq ss d.rank.arguments) (subst (λ p. symbol_sort p ss ≡ Some s) e h)
  where
    by_test : (b : Bool) → (if b then Some d.rank.result else None) ≡ Some s → d.rank.result ≡ s
    by_test true k = the_some d.rank.result s k
    by_test false k = absurd cc

pub found_result : (t : Names) (f : ℕ) (d : Declaration) → function_with_id f (signature t) ≡ Some d → IsResult t f d.rank.result
found_result t f d e = record { sort = λ ss s k. found_sort (function_with_id f (signature t)) d ss s e k }

-- what isn't declared has no results
pub unfound_result : (t : Names) (f : ℕ) (r : Sort) → function_with_id f (signature t) ≡ None → IsResult t f r
unfound_result t f r e = record { sort = λ ss s k. let none : symbol_sort None ss ≡ Some s = subst (λ o. symbol_sort o ss ≡ Some s) e k in absurd cc }

-- ---- one term more

-- the fact of a term by its node
fact_of : (t : Names) (trees : List Tree) (u : Tree) (h : Head) (is : List ℕ) (r : Sort) → HasGivenSymbols t.given u → u ≡ tree_with trees h is
    → ((s : Sort) → tree_sort (signature t) (tree_with trees h is) ≡ Some s → r ≡ s) → IsFact t u r
fact_of t trees u h is r g e k = record { given = g; sort = λ s q. k s (subst (λ v. tree_sort (signature t) v ≡ Some s) e q) }

numeral_sort : (ds : List Declaration) (n : ℤ) (us : Trees) (s : Sort) → tree_sort ds (node (Numeral n) us) ≡ Some s → Ints ≡ s
numeral_sort ds n us s e = let a : HasArguments ds (Numeral n) us s = arguments_of ds (Numeral n) us s e in by_sorts a.sorts a.made
  where
    by_sorts : (ss : List Sort) → head_sort ds (Numeral n) ss ≡ Some s → Ints ≡ s
    by_sorts [] k = the_some Ints s k
    by_sorts (x ∷ xs) k = absurd cc

place_sort : (ds : List Declaration) (k : ℕ) (us : Trees) (s : Sort) → tree_sort ds (node (Place k) us) ≡ Some s → Ints ≡ s
place_sort ds k us s e =
    let a : HasArguments ds (Place k) us s = arguments_of ds (Place k) us s e in
    let made : None ≡ Some s = a.made in
    absurd cc

module _ (t : Names) (trees : List Tree) (u : Tree) (is : List ℕ) (g : HasGivenSymbols t.given u) where
  pub theory_fact : (count : ℕ) (rs : List Sort) → AreFacts t trees count rs → All (λ i. i < count) is → (o : Operator) (branch : Sort) → u ≡ tree_with trees (Theory o) is
      → (1 < length is → branch ≡ slice_index_or rs (slice_index is 1) Truths) → IsFact t u (made_sort o branch)
  theory_fact count rs a w o branch e b = fact_of t trees u (Theory o) is (made_sort o branch) g e (λ s k. theory_sort (signature t) trees count rs o is s branch a.sorts w b k)

  pub symbol_fact : (f : ℕ) (r : Sort) → u ≡ tree_with trees (Symbol f) is → IsResult t f r → IsFact t u r
  symbol_fact f r e h =
      fact_of t trees u (Symbol f) is r g e
      (λ s k. let b : HasArguments (signature t) (Symbol f) (pick trees is) s = arguments_of (signature t) (Symbol f) (pick trees is) s k in h.sort b.sorts s b.made)

  pub numeral_fact : (n : ℤ) → u ≡ tree_with trees (Numeral n) is → IsFact t u Ints
  numeral_fact n e = fact_of t trees u (Numeral n) is Ints g e (λ s k. numeral_sort (signature t) n (pick trees is) s k)

  pub place_fact : (k : ℕ) → u ≡ tree_with trees (Place k) is → IsFact t u Ints
  place_fact k e = fact_of t trees u (Place k) is Ints g e (λ s q. place_sort (signature t) k (pick trees is) s q)

pub no_facts : (t : Names) (trees : List Tree) → AreFacts t trees 0 []
no_facts t trees = record { given = λ p lt. absurd (omega arith); sorts = record { size = refl; each = λ p s lt e. absurd (omega arith) } }

pub facts_more : (t : Names) (trees : List Tree) (n : ℕ) (rs : List Sort) (r : Sort) → AreFacts t trees n rs → IsFact t (tree_at trees n) r → AreFacts t trees (n + 1) (rs ++ r ∷ [])
facts_more t trees n rs r a h = record {
  given = λ p lt. given_more p (last_or_before n p lt);
  sorts = sorts_more (signature t) trees n rs r a.sorts h.sort;
}
  where
    given_more : (p : ℕ) → (p < n) ⊎ (n ≡ p) → HasGivenSymbols t.given (tree_at trees p)
    given_more p (inl lt) = a.given p lt
    given_more p (inr e) = subst (λ q. HasGivenSymbols t.given (tree_at trees q)) e h.given

-- ---- more terms, and fewer

pub facts_longer : (t : Names) (ts us : List Tree) (n : ℕ) (rs : List Sort) → n ≤ length ts → AreFacts t ts n rs → AreFacts t (ts ++ us) n rs
facts_longer t ts us n rs le h = record {
  given = λ p lt. subst (HasGivenSymbols t.given) (sym (tree_at-longer ts us p (omega (arith, lt, le)))) (h.given p lt);
  sorts = record {
    size = h.sorts.size;
    each = λ p s lt e. h.sorts.each p s lt (subst (λ (u : Tree). tree_sort (signature t) u ≡ Some s) (tree_at-longer ts us p (omega (arith, lt, le))) e);
  };
}

pub same_before : (m p : ℕ) (ts : List Tree) → p < length (take m ts) → tree_at (take m ts) p ≡ tree_at ts p
same_before m p ts lt = sym (tree_at-longer (take m ts) (drop m ts) p lt) ∙ ap (λ us. tree_at us p) (take-append-drop m ts)

pub facts_taken : (t : Names) (ts : List Tree) (m : ℕ) (rs : List Sort) → AreFacts t ts (length ts) rs → AreFacts t (take m ts) (length (take m ts)) (take m rs)
facts_taken t ts m rs h =
    let size : length rs ≡ length ts = h.sorts.size in
    record {
      given = λ p lt. subst (HasGivenSymbols t.given) (sym (same_before m p ts lt)) (h.given p (omega (arith, lt, length-take m ts)));
      sorts = record {
        size = omega (arith, size, length-take m ts, length-take m rs);
        each = λ p s lt e.
            get_or-take m rs p Truths (omega (arith, lt, length-take m ts))
            ∙ h.sorts.each p s (omega (arith, lt, length-take m ts)) (subst (λ (u : Tree). tree_sort (signature t) u ≡ Some s) (same_before m p ts lt) e);
      };
    }

-- ---- more declarations, and fewer

-- where what was declared before is found as before
facts_same : (t u : Names) (ts : List Tree) (n : ℕ) (rs : List Sort) → ((f : ℕ) → f < t.given → function_with_id f (signature u) ≡ function_with_id f (signature t)) → t.given ≤ u.given
    → AreFacts t ts n rs → AreFacts u ts n rs
facts_same t u ts n rs same le h = record {
  given = λ p lt. All-weaker (λ f. f < t.given) (λ f. f < u.given) (λ f l. omega (arith, le)) (symbols (tree_at ts p)) (h.given p lt);
  sorts = record {
    size = h.sorts.size;
    each = λ p s lt e. h.sorts.each p s lt (sym (same_sort t.given (signature u) (signature t) same (tree_at ts p) (h.given p lt)) ∙ e);
  };
}

pub facts_gained : (t u : Names) (ts : List Tree) (n : ℕ) (rs : List Sort) → HasGained t u → AreFacts t ts n rs → AreFacts u ts n rs
facts_gained t u ts n rs g h = facts_same t u ts n rs (λ f lt. ap (function_with_id f) g.all ∙ same_symbol f t.given (signature t) g.gained g.later lt) g.given h

facts_declared : (t : Names) (global : Bool) (d : Declaration) (ts : List Tree) (n : ℕ) (rs : List Sort) → d.id ≡ t.given → AreFacts t ts n rs → AreFacts (with_declaration global d t) ts n rs
facts_declared t global d ts n rs e h = facts_same t (with_declaration global d t) ts n rs (λ f lt. same_gaining f t.given global d t.levels (omega (arith, e)) lt) (omega arith) h

-- where what is found now was found before
facts_found : (t u : Names) (ts : List Tree) (n : ℕ) (rs : List Sort) → u.given ≡ t.given → StillFound (signature u) (signature t) → AreFacts t ts n rs → AreFacts u ts n rs
facts_found t u ts n rs g e h = record {
  given = λ p lt. subst (λ k. HasGivenSymbols k (tree_at ts p)) (sym g) (h.given p lt);
  sorts = record {
    size = h.sorts.size;
    each = λ p s lt k. h.sorts.each p s lt (sort_still (signature u) (signature t) e (tree_at ts p) s k);
  };
}

facts_fewer : (t u : Names) (es : List Declaration) (ts : List Tree) (n : ℕ) (rs : List Sort) → u.given ≡ t.given → signature t ≡ signature u ++ es → AreFacts t ts n rs → AreFacts u ts n rs
facts_fewer t u es ts n rs g e h = facts_found t u ts n rs g (subst (StillFound (signature u)) (sym e) (found_longer (signature u) es)) h

no_declarations : (n : ℕ) → all_of_levels (replicate n []) ≡ []
no_declarations zero = refl
no_declarations (suc n) = no_declarations n

pub facts_pushed : (t : Names) (k : ℕ) (ts : List Tree) (n : ℕ) (rs : List Sort) → AreFacts t ts n rs → AreFacts (with_levels k t) ts n rs
facts_pushed t k ts n rs h =
    let same : all_of_levels (t.levels ++ replicate k []) ≡ signature t =
    flat_map-append (λ (ds : List Declaration). ds) t.levels (replicate k []) ∙ ap (λ ds. signature t ++ ds) (no_declarations k) ∙ append-nil (signature t) in
    facts_fewer t (with_levels k t) [] ts n rs refl (sym same ∙ sym (append-nil (all_of_levels (t.levels ++ replicate k [])))) h

pub facts_popped : (t : Names) (k : ℕ) (ts : List Tree) (n : ℕ) (rs : List Sort) → AreFacts t ts n rs → AreFacts (without_levels k t) ts n rs
facts_popped t k ts n rs h =
    let m = length t.levels - k in
    facts_fewer t (without_levels k t) (all_of_levels (drop m t.levels)) ts n rs refl
    (ap all_of_levels (sym (take-append-drop m t.levels)) ∙ flat_map-append (λ (ds : List Declaration). ds) (take m t.levels) (drop m t.levels)) h

pub facts_cleared : (t : Names) (ts : List Tree) (n : ℕ) (rs : List Sort) → AreFacts t ts n rs → AreFacts (cleared t) ts n rs
facts_cleared t ts n rs h = facts_fewer t (cleared t) (signature t) ts n rs refl refl h

no_id_before : (ds es : List Declaration) → HasNoIdTwice (ds ++ es) → HasNoIdTwice ds
no_id_before [] es h = tt
no_id_before (d ∷ ds) es h = (All-left (λ (e : Declaration). d.id ≢ e.id) ds es h.0, no_id_before ds es h.1)

found_at_base : (dss : List (List Declaration)) → HasNoIdTwice (all_of_levels dss) → StillFound (all_of_levels (base_of dss)) (all_of_levels dss)
found_at_base [] h f ss s e = e
found_at_base (ds ∷ dss) h f ss s e =
    found_longer ds (all_of_levels dss) f ss s
    (found_filtered stays ds (no_id_before ds (all_of_levels dss) h) f ss s
    (subst (λ fs. symbol_sort (function_with_id f fs) ss ≡ Some s) (append-nil (filter stays ds)) e))

pub facts_based : (t : Names) (ts : List Tree) (n : ℕ) (rs : List Sort) → HasNoIdTwice (signature t) → AreFacts t ts n rs → AreFacts (based t) ts n rs
facts_based t ts n rs apart h = facts_found t (based t) ts n rs refl (found_at_base t.levels apart) h

-- ---- commands

pub declared_facts : (c : Judging Change) (global : Bool) (t u : Names) (r : Result Carried StackError) (ts : List Tree) (n : ℕ) (rs : List Sort) → Declares c global t r u → AreFacts t ts n rs → AreFacts u ts n rs
declared_facts c global t u (Ok Done) ts n rs d h = subst (λ v. AreFacts v ts n rs) (sym d.new_is) (facts_declared t global d.declaration ts n rs d.id h)
declared_facts c global t u (Ok Unsupported) ts n rs d h = subst (λ v. AreFacts v ts n rs) (sym d.same) h
declared_facts c global t u (Err e) ts n rs d h = subst (λ v. AreFacts v ts n rs) (sym d.same) h

-- what is kept of the terms before, where terms joined
pub joined_before : {X : Type 0} (P : Names → List Tree → ℕ → List X → Type 0) (t u : Names) (old now : Terms) (n : ℕ) (xs : List X) → n ≡ length old.trees → (l : IsLonger old.trees now.trees) → u ≡ t
    → P t (old.trees ++ l.0) (length old.trees) xs → P u now.trees n xs
joined_before P t u old now n xs e l g h =
    subst (λ ws. P u ws n xs) (sym l.1) (subst (λ k. P u (old.trees ++ l.0) k xs) (sym e) (subst (λ v. P v (old.trees ++ l.0) (length old.trees) xs) (sym g) h))

-- declarations too
pub facts_before : (t u : Names) (old now : Terms) (n : ℕ) (rs : List Sort) → n ≡ length old.trees → HasGained t u → IsLonger old.trees now.trees → AreFacts t old.trees (length old.trees) rs
    → AreFacts u now.trees n rs
facts_before t u old now n rs e g l h =
    joined_before AreFacts u u old now n rs e l refl (facts_longer u old.trees l.0 (length old.trees) rs (omega arith) (facts_gained t u old.trees (length old.trees) rs g h))

-- terms alone
pub asked_before : (t u : Names) (old now : Terms) (n : ℕ) (rs : List Sort) → n ≡ length old.trees → u ≡ t → IsLonger old.trees now.trees → AreFacts t old.trees (length old.trees) rs
    → AreFacts u now.trees n rs
asked_before t u old now n rs e g l h = joined_before AreFacts t u old now n rs e l g (facts_longer t old.trees l.0 (length old.trees) rs (omega arith) h)

-- what a command that failed leaves is as before
pub kept_again : {b : Bool} (t u : Names) (old now : Terms) (xss yss : List (List Assertion)) (rs ss : List Sort) (ls ks : List ℕ) → IsKept b t old xss rs ls → u ≡ t → now ≡ old → yss ≡ xss → ss ≡ rs → ks ≡ ls
    → IsKept b u now yss ss ks
kept_again {b = b} t u old now xss yss rs ss ls ks h e f g k l =
    subst (λ v. IsKept b v now yss ss ks) (sym e)
    (subst (λ (store : Terms). IsKept b t store yss ss ks) (sym f)
    (subst (λ zss. IsKept b t old zss ss ks) (sym g) (subst (λ qs. IsKept b t old xss qs ks) (sym k) (subst (λ js. IsKept b t old xss rs js) (sym l) h))))
