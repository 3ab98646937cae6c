-- What a signature keeps: each function in it can be applied, and has the sort of its result.
use Rattle.std.proofs.Common.{◌≡◌, ℕ, ◌+◌, ◌<◌, eq-eqb, List, [], ◌∷◌, ◌++◌, All, ap, sym, subst, ◌∙◌, refl, Bool, true, false, ◌&&◌, not, Option, Some, None, nat_eq, arith}
use Rattle.std.specs.Prelude.{if◌then◌else◌, bytes_eq}
use Rattle.std.proofs.lemmas.Bool.{eqb-true}
use Rattle.std.proofs.lemmas.List.Elements.{All-nil, All-cons, All-head, All-tail, All-append, All-weaker}
use Rattle.smt_meaning.specs.declared.values.Sort.{Sort}
use Rattle.smt_meaning.specs.declared.values.Sort.TheVariants.{Bool as Truths, Int as Ints, Free}
use Rattle.smt_meaning.specs.declared.terms.Head.TheVariants.{Symbol}
use Rattle.smt_meaning.specs.Declaration.{Declaration, Body}
use Rattle.smt_meaning.specs.Term.{Trees, node}
use Rattle.smt_meaning.specs.TreeShape.{put}
use Rattle.smt_meaning.specs.Signature.{find_function, function_with_id, sort_eq, sorts_eq, symbol_sort}
use Rattle.smt_meaning.specs.Sorts.{applied, applied_trees}
use Rattle.smt_meaning.specs.StackCommand.{function_declaration}
use Rattle.smt_laws.proofs.Both.{and_left, and_right, and_both}
use Rattle.smt_laws.proofs.Among.{Among, among_one, among_map}
use Rattle.smt_laws.proofs.PlacesLaw.{HasSort, HaveSorts, LaterThan, later_still, later_more, sort_later, put_sort}

-- ---- sorts

pub sort_eq-sound : (a b : Sort) → sort_eq a b ≡ true → a ≡ b
sort_eq-sound Truths Truths h = refl
sort_eq-sound Ints Ints h = refl
sort_eq-sound (Free a) (Free b) h = ap Free (eqb-true a b h)
sort_eq-sound Truths Ints h = cc
sort_eq-sound Truths (Free b) h = cc
sort_eq-sound Ints Truths h = cc
sort_eq-sound Ints (Free b) h = cc
sort_eq-sound (Free a) Truths h = cc
sort_eq-sound (Free a) Ints h = cc

pub sorts_eq-sound : (rs ss : List Sort) → sorts_eq rs ss ≡ true → rs ≡ ss
sorts_eq-sound [] [] h = refl
sorts_eq-sound [] (b ∷ bs) h = cc
sorts_eq-sound (a ∷ rs) [] h = cc
sorts_eq-sound (a ∷ rs) (b ∷ bs) h =
    ap (λ x. x ∷ rs) (sort_eq-sound a b (and_left (sort_eq a b) (sorts_eq rs bs) h)) ∙ ap (λ xs. b ∷ xs) (sorts_eq-sound rs bs (and_right (sort_eq a b) (sorts_eq rs bs) h))

sort_eq-self : (a : Sort) → sort_eq a a ≡ true
sort_eq-self Truths = refl
sort_eq-self Ints = refl
sort_eq-self (Free a) = eq-eqb a a refl

sorts_eq-self : (ss : List Sort) → sorts_eq ss ss ≡ true
sorts_eq-self [] = refl
sorts_eq-self (s ∷ ss) = and_both (sort_eq s s) (sorts_eq ss ss) (sort_eq-self s) (sorts_eq-self ss)

-- ---- a function that can be applied under every later signature

abbrev pub Usable : List Declaration → Declaration → Type 0
Usable ds d =
    (es : List Declaration) (ps : List Sort) (ts : Trees) → LaterThan ds es → HaveSorts es ps ts d.rank.arguments
    → HasSort es ps (applied d ts) d.rank.result × Among (applied d ts) (applied_trees d ts)

pub usable_later : (ds es : List Declaration) (d : Declaration) → LaterThan ds es → Usable ds d → Usable es d
usable_later ds es d l u = λ fs ps ts m w. u fs ps ts (later_still ds es fs l m) w

-- each function of a list can be applied under a signature
abbrev pub AllUsable : List Declaration → List Declaration → Type 0
AllUsable es [] = Unit {0}
AllUsable es (d ∷ ds) = (d.is_sort ≡ false → Usable es d) × AllUsable es ds

pub all_usable_later : (ds es fs : List Declaration) → LaterThan es fs → AllUsable es ds → AllUsable fs ds
all_usable_later [] es fs l h = tt
all_usable_later (d ∷ ds) es fs l h = ((λ e. usable_later es fs d l (h.0 e)), all_usable_later ds es fs l h.1)

pub usable_append : (es xs ys : List Declaration) → AllUsable es xs → AllUsable es ys → AllUsable es (xs ++ ys)
usable_append es [] ys h k = k
usable_append es (d ∷ xs) ys h k = (h.0, usable_append es xs ys h.1 k)

-- those behind others
pub usable_back : (es xs ys : List Declaration) → AllUsable es (xs ++ ys) → AllUsable es ys
usable_back es [] ys h = h
usable_back es (d ∷ xs) ys h = usable_back es xs ys h.1

pub record Good (next : ℕ) (ds : List Declaration) : Type 0 where
  pub below : All (λ (d : Declaration). d.id < next) ds
  pub sound : AllUsable ds ds

not_sort : (b : Bool) → not b ≡ true → b ≡ false
not_sort true h = cc
not_sort false h = refl

found_step : (n : List ℕ) (es ds : List Declaration) (e d : Declaration) → (e.is_sort ≡ false → Usable es e) → (find_function n ds ≡ Some d → Usable es d)
    → (b : Bool) → (bytes_eq n e.name && not e.is_sort) ≡ b → (if b then Some e else find_function n ds) ≡ Some d → Usable es d
found_step n es ds e d h k true p q = subst (Usable es) (some_is e d q) (h (not_sort e.is_sort (and_right (bytes_eq n e.name) (not e.is_sort) p)))
  where
    some_is : (x y : Declaration) → Some x ≡ Some y → x ≡ y
    some_is x y r = cc
found_step n es ds e d h k false p q = k q

found_from : (n : List ℕ) (es ds : List Declaration) (d : Declaration) → AllUsable es ds → find_function n ds ≡ Some d → Usable es d
found_from n es [] d h e = absurd (cc)
found_from n es (x ∷ ds) d h e = found_step n es ds x d h.0 (found_from n es ds d h.1) (bytes_eq n x.name && not x.is_sort) refl e

pub found_usable : (n : List ℕ) (next : ℕ) (ds : List Declaration) (d : Declaration) → Good next ds → find_function n ds ≡ Some d → Usable ds d
found_usable n next ds d g e = found_from n ds ds d g.sound e

-- ---- more declarations

pub good_more : (n : ℕ) (ds : List Declaration) (e : Declaration) → e.id ≡ n → Good n ds → (e.is_sort ≡ false → Usable (ds ++ e ∷ []) e) → Good (n + 1) (ds ++ e ∷ [])
good_more n ds e same g u = record {
  below =
      All-append (λ (d : Declaration). d.id < n + 1) ds (e ∷ []) (All-weaker (λ (d : Declaration). d.id < n) (λ (d : Declaration). d.id < n + 1) (λ d l. omega arith) ds g.below)
      (All-cons (λ (d : Declaration). d.id < n + 1) e [] (omega arith) (All-nil (λ (d : Declaration). d.id < n + 1)));
  sound = usable_append (ds ++ e ∷ []) ds (e ∷ []) (all_usable_later ds ds (ds ++ e ∷ []) (later_more ds (e ∷ [])) g.sound) (u, tt);
}

-- ---- a declared function

abbrev symbol : ℕ → List ℕ → List Sort → Sort → Declaration
symbol id n ss s = function_declaration id n ss s None

other_id : (f g : ℕ) → g < f → nat_eq f g ≡ false
other_id f g l = go (nat_eq f g) refl
  where
    go : (b : Bool) → nat_eq f g ≡ b → b ≡ false
    go true e = let same : f ≡ g = eqb-true f g e in absurd (omega arith)
    go false e = refl

with_own_id : (d : Declaration) (ds : List Declaration) → d.is_sort ≡ false → All (λ (e : Declaration). e.id < d.id) ds → function_with_id d.id (ds ++ d ∷ []) ≡ Some d
with_own_id d [] h b = ap (λ c. if c then Some d else None) (and_both (nat_eq d.id d.id) (not d.is_sort) (eq-eqb d.id d.id refl) (ap not h))
with_own_id d (e ∷ ds) h b =
    ap (λ c. if c && not e.is_sort then Some e else function_with_id d.id (ds ++ d ∷ [])) (other_id d.id e.id (All-head (λ (x : Declaration). x.id < d.id) e ds b))
    ∙ with_own_id d ds h (All-tail (λ (x : Declaration). x.id < d.id) e ds b)

own_sort : (id : ℕ) (n : List ℕ) (ss : List Sort) (s : Sort) → symbol_sort (Some (symbol id n ss s)) ss ≡ Some s
own_sort id n ss s = ap (λ b. if b then Some s else None) (sorts_eq-self ss)

pub symbol_usable : (id : ℕ) (n : List ℕ) (ss : List Sort) (s : Sort) (ds : List Declaration) → All (λ (e : Declaration). e.id < id) ds
    → Usable (ds ++ symbol id n ss s ∷ []) (symbol id n ss s)
symbol_usable id n ss s ds b = λ es ps ts l w. (
  (ss, (w, ap (λ o. symbol_sort o ss) (l id (symbol id n ss s) (with_own_id (symbol id n ss s) ds refl b) refl) ∙ own_sort id n ss s)),
  among_one (node (Symbol id) ts),
)

-- ---- a definition

-- also of a name that a term is given
pub defined_usable : (d : Declaration) (b : Body) (ds : List Declaration) → d.body ≡ Some b → HasSort ds d.rank.arguments b.term d.rank.result → Among b.term b.terms → Usable (ds ++ d ∷ []) d
defined_usable d b ds same h m = λ es ps ts l w.
    subst (λ (o : Option Body). HasSort es ps (applied (record d { body = o }) ts) d.rank.result × Among (applied (record d { body = o }) ts) (applied_trees (record d { body = o }) ts)) (sym same) (
      put_sort es ps d.rank.arguments ts b.term d.rank.result w
          (sort_later ds es d.rank.arguments b.term d.rank.result (later_still ds (ds ++ d ∷ []) es (later_more ds (d ∷ [])) l) h),
      among_map (put ts) b.term b.terms m,
    )
