-- The sort of a tree whose parameters have sorts: it stays under a later signature, and when arguments are put in.
use Rattle.std.proofs.Common.{◌≡◌, ℕ, zero, suc, List, [], ◌∷◌, ◌++◌, ap, sym, subst, ◌∙◌, refl, Bool, true, false, ◌&&◌, not, Option, Some, None, nat_eq, append-nil}
use Rattle.std.specs.Prelude.{if◌then◌else◌}
use Rattle.smt_meaning.specs.declared.values.Sort.{Sort}
use Rattle.smt_meaning.specs.declared.terms.Head.{Head}
use Rattle.smt_meaning.specs.declared.terms.Head.TheVariants.{Numeral, Theory, Symbol, Place}
use Rattle.smt_meaning.specs.Declaration.{Declaration}
use Rattle.smt_meaning.specs.Term.{Tree, Trees, node, none, more}
use Rattle.smt_meaning.specs.TreeShape.{argument, put, put_all, put_at}
use Rattle.smt_meaning.specs.Signature.{function_with_id, is_symbol, sorts_eq, symbol_sort, head_sort, cons_sort, with_sorts, tree_sort, tree_sorts}
use Rattle.smt_laws.proofs.Both.{and_left}

abbrev pub place_sort : List Sort → ℕ → Option Sort
place_sort [] k = None
place_sort (s ∷ ss) zero = Some s
place_sort (s ∷ ss) (suc k) = place_sort ss k

abbrev pub head_at : List Declaration → List Sort → Head → List Sort → Option Sort
head_at ds ps (Numeral n) ss = head_sort ds (Numeral n) ss
head_at ds ps (Theory o) ss = head_sort ds (Theory o) ss
head_at ds ps (Symbol f) ss = head_sort ds (Symbol f) ss
head_at ds ps (Place k) ss = place_sort ps k

abbrev mutual
  -- under a signature, where the parameters have these sorts
  pub HasSort : List Declaration → List Sort → Tree → Sort → Type 0
  HasSort ds ps (node h us) s = (ss : List Sort) × (HaveSorts ds ps us ss × (head_at ds ps h ss ≡ Some s))

  pub HaveSorts : List Declaration → List Sort → Trees → List Sort → Type 0
  HaveSorts ds ps none [] = Unit {0}
  HaveSorts ds ps none (s ∷ ss) = ⊥
  HaveSorts ds ps (more u us) [] = ⊥
  HaveSorts ds ps (more u us) (s ∷ ss) = HasSort ds ps u s × HaveSorts ds ps us ss

-- ---- without parameters

closed_head : (ds : List Declaration) (h : Head) (ss : List Sort) (s : Sort) → head_at ds [] h ss ≡ Some s → head_sort ds h ss ≡ Some s
closed_head ds (Numeral n) ss s e = e
closed_head ds (Theory o) ss s e = e
closed_head ds (Symbol f) ss s e = e
closed_head ds (Place k) ss s e = e

mutual
  pub closed_sort : (ds : List Declaration) (t : Tree) (s : Sort) → HasSort ds [] t s → tree_sort ds t ≡ Some s
  closed_sort ds (node h us) s w = ap (with_sorts ds h) (closed_sorts ds us w.0 w.1.0) ∙ closed_head ds h w.0 s w.1.1

  closed_sorts : (ds : List Declaration) (us : Trees) (ss : List Sort) → HaveSorts ds [] us ss → tree_sorts ds us ≡ Some ss
  closed_sorts ds none [] w = refl
  closed_sorts ds none (s ∷ ss) w = absurd w
  closed_sorts ds (more u us) [] w = absurd w
  closed_sorts ds (more u us) (s ∷ ss) w = ap (λ o. cons_sort o (tree_sorts ds us)) (closed_sort ds u s w.0) ∙ ap (cons_sort (Some s)) (closed_sorts ds us ss w.1)

-- ---- later signatures

-- each declared function of the one is found again, by its id, in the other
abbrev pub LaterThan : List Declaration → List Declaration → Type 0
LaterThan ds es = (f : ℕ) (d : Declaration) → function_with_id f ds ≡ Some d → is_symbol d ≡ true → function_with_id f es ≡ Some d

pub later_self : (ds : List Declaration) → LaterThan ds ds
later_self ds f d e s = e

pub later_still : (ds es fs : List Declaration) → LaterThan ds es → LaterThan es fs → LaterThan ds fs
later_still ds es fs h k f d e s = k f d (h f d e s) s

found_step : (x d : Declaration) (o p : Option Declaration) (b : Bool) → (o ≡ Some d → p ≡ Some d) → (if b then Some x else o) ≡ Some d → (if b then Some x else p) ≡ Some d
found_step x d o p true h e = e
found_step x d o p false h e = h e

-- behind others
pub later_front : (ys ds es : List Declaration) → LaterThan ds es → LaterThan (ys ++ ds) (ys ++ es)
later_front [] ds es l f d e s = l f d e s
later_front (y ∷ ys) ds es l f d e s =
    found_step y d (function_with_id f (ys ++ ds)) (function_with_id f (ys ++ es)) (nat_eq f y.id && not y.is_sort) (λ k. later_front ys ds es l f d k s) e

nothing_later : (es : List Declaration) → LaterThan [] es
nothing_later es f d e s = absurd (cc)

-- more stand behind
pub later_more : (ds es : List Declaration) → LaterThan ds (ds ++ es)
later_more ds es = subst (λ xs. LaterThan xs (ds ++ es)) (append-nil ds) (later_front ds [] es (nothing_later es))

true_if : (b : Bool) (r s : Sort) → (if b then Some r else None) ≡ Some s → b ≡ true
true_if true r s e = refl
true_if false r s e = absurd (cc)

has_symbol : (d : Declaration) (ss : List Sort) (s : Sort) → symbol_sort (Some d) ss ≡ Some s → is_symbol d ≡ true
has_symbol d ss s e = and_left (is_symbol d) (sorts_eq ss d.rank.arguments) (true_if (is_symbol d && sorts_eq ss d.rank.arguments) d.rank.result s e)

symbol_later : (f : ℕ) (ds es : List Declaration) (ss : List Sort) (s : Sort) → LaterThan ds es → symbol_sort (function_with_id f ds) ss ≡ Some s → symbol_sort (function_with_id f es) ss ≡ Some s
symbol_later f ds es ss s l e = go (function_with_id f ds) refl e
  where
    go : (o : Option Declaration) → function_with_id f ds ≡ o → symbol_sort o ss ≡ Some s → symbol_sort (function_with_id f es) ss ≡ Some s
    go None p q = absurd (cc)
    go (Some d) p q = subst (λ o. symbol_sort o ss ≡ Some s) (sym (l f d p (has_symbol d ss s q))) q

head_later : (ds es : List Declaration) (ps : List Sort) (h : Head) (ss : List Sort) (s : Sort) → LaterThan ds es → head_at ds ps h ss ≡ Some s → head_at es ps h ss ≡ Some s
head_later ds es ps (Numeral n) [] s l e = e
head_later ds es ps (Numeral n) (x ∷ xs) s l e = e
head_later ds es ps (Theory o) ss s l e = e
head_later ds es ps (Symbol f) ss s l e = symbol_later f ds es ss s l e
head_later ds es ps (Place k) ss s l e = e

mutual
  pub sort_later : (ds es : List Declaration) (ps : List Sort) (t : Tree) (s : Sort) → LaterThan ds es → HasSort ds ps t s → HasSort es ps t s
  sort_later ds es ps (node h us) s l w = (w.0, (sorts_later ds es ps us w.0 l w.1.0, head_later ds es ps h w.0 s l w.1.1))

  pub sorts_later : (ds es : List Declaration) (ps : List Sort) (us : Trees) (ss : List Sort) → LaterThan ds es → HaveSorts ds ps us ss → HaveSorts es ps us ss
  sorts_later ds es ps none [] l w = tt
  sorts_later ds es ps none (s ∷ ss) l w = w
  sorts_later ds es ps (more u us) [] l w = w
  sorts_later ds es ps (more u us) (s ∷ ss) l w = (sort_later ds es ps u s l w.0, sorts_later ds es ps us ss l w.1)

-- ---- arguments put in

some_is : (r s : Sort) → Some r ≡ Some s → r ≡ s
some_is r s h = cc

argument_sort : (ds : List Declaration) (ps : List Sort) (ts : Trees) (qs : List Sort) (k : ℕ) (s : Sort) → HaveSorts ds ps ts qs → place_sort qs k ≡ Some s → HasSort ds ps (argument ts k) s
argument_sort ds ps none [] k s w e = absurd (cc)
argument_sort ds ps none (q ∷ qs) k s w e = absurd w
argument_sort ds ps (more t ts) [] k s w e = absurd w
argument_sort ds ps (more t ts) (q ∷ qs) zero s w e = subst (HasSort ds ps t) (some_is q s e) w.0
argument_sort ds ps (more t ts) (q ∷ qs) (suc k) s w e = argument_sort ds ps ts qs k s w.1 e

put_at_sort : (ds : List Declaration) (ps qs : List Sort) (ts : Trees) (h : Head) (us : Trees) (ss : List Sort) (s : Sort) → HaveSorts ds ps ts qs
    → HaveSorts ds ps us ss → head_at ds qs h ss ≡ Some s → HasSort ds ps (put_at ts h us) s
put_at_sort ds ps qs ts (Numeral n) us ss s a w e = (ss, (w, e))
put_at_sort ds ps qs ts (Theory o) us ss s a w e = (ss, (w, e))
put_at_sort ds ps qs ts (Symbol f) us ss s a w e = (ss, (w, e))
put_at_sort ds ps qs ts (Place k) us ss s a w e = argument_sort ds ps ts qs k s a e

mutual
  pub put_sort : (ds : List Declaration) (ps qs : List Sort) (ts : Trees) (t : Tree) (s : Sort) → HaveSorts ds ps ts qs → HasSort ds qs t s → HasSort ds ps (put ts t) s
  put_sort ds ps qs ts (node h us) s a w = put_at_sort ds ps qs ts h (put_all ts us) w.0 s a (put_sorts ds ps qs ts us w.0 a w.1.0) w.1.1

  put_sorts : (ds : List Declaration) (ps qs : List Sort) (ts us : Trees) (ss : List Sort) → HaveSorts ds ps ts qs → HaveSorts ds qs us ss → HaveSorts ds ps (put_all ts us) ss
  put_sorts ds ps qs ts none [] a w = tt
  put_sorts ds ps qs ts none (s ∷ ss) a w = absurd w
  put_sorts ds ps qs ts (more u us) [] a w = absurd w
  put_sorts ds ps qs ts (more u us) (s ∷ ss) a w = (put_sort ds ps qs ts u s a w.0, put_sorts ds ps qs ts us ss a w.1)
