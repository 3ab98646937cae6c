-- The levels of terms stay right as terms and declarations come and go.
use Rattle.std.proofs.Common.{Result, Ok, Err, ◌≡◌, ◌∙◌, ◌⊎◌, inl, inr, sym, refl, ap, subst, ℕ, zero, suc, ◌+◌, ◌-◌, ◌<◌, ◌≤◌, max, Bool, true, false, if◌then◌else◌, filter, List, [], ◌∷◌, ◌++◌, map, take, length, replicate, All, Contains, Some, None, arith, slice_index}
use Rattle.std.specs.Prelude.{nat_eq}
use Rattle.std.proofs.lemmas.Bool.{eq-eqb}
use Rattle.std.proofs.lemmas.List.{map-append, length-take, get_or_append_left, get_or_push, get_or-take, length_push}
use Rattle.std.proofs.lemmas.List.Elements.{All-nil, All-cons, All-head, All-tail, All-append, All-weaker, All-contains, Contains-append_cases, Contains-append_left, Contains-append_right, Contains-push_cases}
use Rattle.smt_meaning.specs.declared.terms.Head.{Head}
use Rattle.smt_meaning.specs.declared.terms.Head.TheVariants.{Symbol}
use Rattle.smt_meaning.specs.Declaration.{Declaration}
use Rattle.smt_meaning.specs.Term.{Tree, tree_at}
use Rattle.smt_meaning.specs.Nodes.{pick}
use Rattle.smt_meaning.specs.Clause.{symbols, symbols_of, head_symbols}
use Rattle.smt_meaning.specs.Follows.{declared_ids}
use Rattle.smt_meaning.specs.Sorts.{Judging}
use Rattle.smt_meaning.specs.Stack.{up_to, stays}
use Rattle.smt_meaning.specs.StackCommand.{Change}
use Rattle.smt_sorts.specs.Names.{Names, all_of_levels, signature, on_newest, on_base, gaining, with_declaration, base_of, based, with_levels, without_levels, cleared, ids_up_to, HasGained, IsLevelOf}
use Rattle.smt_sorts.specs.Listed.{first_that, has_id}
use Rattle.term_store.specs.Terms.{Terms, tree_with}
use Rattle.elaborate.specs.Values.{IsLonger}
use Rattle.scope_stack.specs.declared.answers.Assertion.{Assertion}
use Rattle.scope_stack.specs.declared.answers.Carried.{Carried}
use Rattle.scope_stack.specs.declared.answers.Carried.TheVariants.{Done, Unsupported}
use Rattle.scope_stack.specs.declared.answers.StackError.{StackError}
use Rattle.scope_stack.specs.Inside.{frames_by}
use Rattle.scope_stack.specs.Judged.{Declares}
use Rattle.scope_stack.specs.Facts.{HasGivenSymbols, IsHeadLevel, IsLeast, AreLevels, greatest_of, IsTermLevel, HaveLevels}
use Rattle.scope_stack.proofs.SortLemmas.{last_or_before}
use Rattle.scope_stack.proofs.PieceLemmas.{All-left, All-right}
use Rattle.scope_stack.proofs.FrameLemmas.{tree_at-longer, signature-frames, frames-taken}
use Rattle.scope_stack.proofs.FactLemmas.{AreLater, same_before, joined_before}

abbrev ids : List Declaration → List ℕ
ids ds = map (λ (d : Declaration). d.id) ds

-- the ids of the first n levels
abbrev ids_in : ℕ → List (List Declaration) → List ℕ
ids_in n dss = ids (all_of_levels (take n dss))

in_left : (ds es : List Declaration) (f : ℕ) → Contains (ids ds) f → Contains (ids (ds ++ es)) f
in_left ds es f c = subst (λ xs. Contains xs f) (sym (map-append (λ (d : Declaration). d.id) ds es)) (Contains-append_left (ids ds) (ids es) f c)

in_right : (ds es : List Declaration) (f : ℕ) → Contains (ids es) f → Contains (ids (ds ++ es)) f
in_right ds es f c = subst (λ xs. Contains xs f) (sym (map-append (λ (d : Declaration). d.id) ds es)) (Contains-append_right (ids ds) (ids es) f c)

in_either : (ds es : List Declaration) (f : ℕ) → Contains (ids (ds ++ es)) f → Contains (ids ds) f ⊎ Contains (ids es) f
in_either ds es f c = Contains-append_cases (ids ds) (ids es) f (subst (λ xs. Contains xs f) (map-append (λ (d : Declaration). d.id) ds es) c)

in_none : {A : Type 0} (f : ℕ) → Contains [] f → A
in_none f c = absurd (omega (arith, c.1))

only : (f g : ℕ) → Contains (g ∷ []) f → g ≡ f
only f g c = elim (Contains-push_cases [] g f c) [ inl nothing ↦ in_none f nothing | inr e ↦ e ]

-- ---- fewer levels, and more

sub_more : (m n : ℕ) (dss : List (List Declaration)) (f : ℕ) → m ≤ n → Contains (ids_in m dss) f → Contains (ids_in n dss) f
sub_more zero n dss f le c = in_none f c
sub_more (suc m) zero dss f le c = absurd (omega arith)
sub_more (suc m) (suc n) [] f le c = in_none f c
sub_more (suc m) (suc n) (ds ∷ dss) f le c =
    elim (in_either ds (all_of_levels (take m dss)) f c) [
      | inl a ↦ in_left ds (all_of_levels (take n dss)) f a
      | inr b ↦ in_right ds (all_of_levels (take n dss)) f (sub_more m n dss f (omega arith) b)
    ]

sub_all : (n : ℕ) (dss : List (List Declaration)) (f : ℕ) → Contains (ids_in n dss) f → Contains (ids (all_of_levels dss)) f
sub_all zero dss f c = in_none f c
sub_all (suc n) [] f c = in_none f c
sub_all (suc n) (ds ∷ dss) f c =
    elim (in_either ds (all_of_levels (take n dss)) f c) [ inl a ↦ in_left ds (all_of_levels dss) f a | inr b ↦ in_right ds (all_of_levels dss) f (sub_all n dss f b) ]

sub_taken : (n j : ℕ) (dss : List (List Declaration)) (f : ℕ) → Contains (ids_in n (take j dss)) f → Contains (ids_in n dss) f
sub_taken zero j dss f c = in_none f c
sub_taken (suc n) zero dss f c = in_none f c
sub_taken (suc n) (suc j) [] f c = in_none f c
sub_taken (suc n) (suc j) (ds ∷ dss) f c =
    elim (in_either ds (all_of_levels (take n (take j dss))) f c) [
      | inl a ↦ in_left ds (all_of_levels (take n dss)) f a
      | inr b ↦ in_right ds (all_of_levels (take n dss)) f (sub_taken n j dss f b)
    ]

still_taken : (n j : ℕ) (dss : List (List Declaration)) → n ≤ j → take n (take j dss) ≡ take n dss
still_taken zero j dss le = refl
still_taken (suc n) zero dss le = absurd (omega arith)
still_taken (suc n) (suc j) [] le = refl
still_taken (suc n) (suc j) (ds ∷ dss) le = ap (λ es. ds ∷ es) (still_taken n j dss (omega arith))

none_pushed : (n k : ℕ) → all_of_levels (take n (replicate k [])) ≡ []
none_pushed zero k = refl
none_pushed (suc n) zero = refl
none_pushed (suc n) (suc k) = none_pushed n k

same_pushed : (n k : ℕ) (dss : List (List Declaration)) → all_of_levels (take n (dss ++ replicate k [])) ≡ all_of_levels (take n dss)
same_pushed zero k dss = refl
same_pushed (suc n) k [] = none_pushed (suc n) k
same_pushed (suc n) k (ds ∷ dss) = ap (λ es. ds ++ es) (same_pushed n k dss)

all_pushed : (k : ℕ) (dss : List (List Declaration)) → all_of_levels (dss ++ replicate k []) ≡ all_of_levels dss
all_pushed zero [] = refl
all_pushed (suc k) [] = all_pushed k []
all_pushed k (ds ∷ dss) = ap (λ es. ds ++ es) (all_pushed k dss)

-- ---- what the newest level gains

sub_newest : (es : List Declaration) (n : ℕ) (dss : List (List Declaration)) (f : ℕ) → Contains (ids_in n dss) f → Contains (ids_in n (on_newest es dss)) f
sub_newest es zero dss f c = in_none f c
sub_newest es (suc n) [] f c = c
sub_newest es (suc n) (ds ∷ []) f c =
    elim (in_either ds (all_of_levels (take n [])) f c) [
      | inl a ↦ in_left (ds ++ es) (all_of_levels (take n [])) f (in_left ds es f a)
      | inr b ↦ in_right (ds ++ es) (all_of_levels (take n [])) f b
    ]
sub_newest es (suc n) (ds ∷ gs ∷ rest) f c =
    elim (in_either ds (all_of_levels (take n (gs ∷ rest))) f c) [
      | inl a ↦ in_left ds (all_of_levels (take n (on_newest es (gs ∷ rest)))) f a
      | inr b ↦ in_right ds (all_of_levels (take n (on_newest es (gs ∷ rest)))) f (sub_newest es n (gs ∷ rest) f b)
    ]

-- ---- what level 0 gains

sub_base : (es : List Declaration) (n : ℕ) (dss : List (List Declaration)) (f : ℕ) → Contains (ids_in n dss) f → Contains (ids_in n (on_base es dss)) f
sub_base es zero dss f c = in_none f c
sub_base es (suc n) [] f c = c
sub_base es (suc n) (ds ∷ rest) f c =
    elim (in_either ds (all_of_levels (take n rest)) f c) [
      | inl a ↦ in_left (ds ++ es) (all_of_levels (take n rest)) f (in_left ds es f a)
      | inr b ↦ in_right (ds ++ es) (all_of_levels (take n rest)) f b
    ]

module _ (given : ℕ) (es : List Declaration) (later : AreLater given es) where
  not_later : {A : Type 0} (f : ℕ) → f < given → Contains (ids es) f → A
  not_later f lt c = absurd (let h : given ≤ f = All-contains (λ k. given ≤ k) (ids es) f (later_ids es later) c in omega (arith, h, lt))
    where
      later_ids : (ds : List Declaration) → AreLater given ds → All (λ k. given ≤ k) (ids ds)
      later_ids [] h = All-nil (λ k. given ≤ k)
      later_ids (d ∷ ds) h = All-cons (λ k. given ≤ k) d.id (ids ds) (All-head (λ (e : Declaration). given ≤ e.id) d ds h) (later_ids ds (All-tail (λ (e : Declaration). given ≤ e.id) d ds h))

  before_newest : (n : ℕ) (dss : List (List Declaration)) (f : ℕ) → f < given → Contains (ids_in n (on_newest es dss)) f → Contains (ids_in n dss) f
  before_newest zero dss f lt c = in_none f c
  before_newest (suc n) [] f lt c = c
  before_newest (suc n) (ds ∷ []) f lt c =
      elim (in_either (ds ++ es) (all_of_levels (take n [])) f c) [
        | inl a ↦ elim (in_either ds es f a) [ inl b ↦ in_left ds (all_of_levels (take n [])) f b | inr b ↦ not_later f lt b ]
        | inr b ↦ in_right ds (all_of_levels (take n [])) f b
      ]
  before_newest (suc n) (ds ∷ gs ∷ rest) f lt c =
      elim (in_either ds (all_of_levels (take n (on_newest es (gs ∷ rest)))) f c) [
        | inl a ↦ in_left ds (all_of_levels (take n (gs ∷ rest))) f a
        | inr b ↦ in_right ds (all_of_levels (take n (gs ∷ rest))) f (before_newest n (gs ∷ rest) f lt b)
      ]

  either_before : (ds fs : List Declaration) (f : ℕ) → f < given → Contains (ids ((ds ++ es) ++ fs)) f → Contains (ids (ds ++ fs)) f
  either_before ds fs f lt c =
      elim (in_either (ds ++ es) fs f c) [
        | inl a ↦ elim (in_either ds es f a) [ inl b ↦ in_left ds fs f b | inr b ↦ not_later f lt b ]
        | inr b ↦ in_right ds fs f b
      ]

  before_base : (n : ℕ) (dss : List (List Declaration)) (f : ℕ) → f < given → Contains (ids_in n (on_base es dss)) f → Contains (ids_in n dss) f
  before_base zero dss f lt c = in_none f c
  before_base (suc n) [] f lt c = c
  before_base (suc n) (ds ∷ rest) f lt c = either_before ds (all_of_levels (take n rest)) f lt c

  before_gaining : (global : Bool) (dss : List (List Declaration)) (f : ℕ) → f < given → Contains (ids (all_of_levels (gaining global es dss))) f → Contains (ids (all_of_levels dss)) f
  before_gaining true [] f lt c = c
  before_gaining true (ds ∷ rest) f lt c = either_before ds (all_of_levels rest) f lt c
  before_gaining false [] f lt c = c
  before_gaining false (ds ∷ []) f lt c = either_before ds [] f lt c
  before_gaining false (ds ∷ gs ∷ rest) f lt c =
      elim (in_either ds (all_of_levels (gaining false es (gs ∷ rest))) f c) [
        | inl a ↦ in_left ds (all_of_levels (gs ∷ rest)) f a
        | inr b ↦ in_right ds (all_of_levels (gs ∷ rest)) f (before_gaining false (gs ∷ rest) f lt b)
      ]

  before_all : (ds : List Declaration) (f : ℕ) → f < given → Contains (ids (ds ++ es)) f → Contains (ids ds) f
  before_all ds f lt c = elim (in_either ds es f c) [ inl a ↦ a | inr b ↦ not_later f lt b ]

-- ---- the least level of some symbols

-- of symbols of which this is true
all_with : (P Q R : ℕ → Type 0) (fs : List ℕ) → ((f : ℕ) → P f → Q f → R f) → All P fs → All Q fs → All R fs
all_with P Q R [] h p q = All-nil R
all_with P Q R (f ∷ fs) h p q = All-cons R f fs (h f (All-head P f fs p) (All-head Q f fs q)) (all_with P Q R fs h (All-tail P f fs p) (All-tail Q f fs q))

abbrev known : Names → ℕ → List ℕ
known t k = ids_up_to k t.levels

abbrev known_at_all : Names → List ℕ
known_at_all t = ids (signature t)

-- what was declared keeps its level
record KeepLevels (t u : Names) : Type 0 where
  known_still : (k f : ℕ) → Contains (known t k) f → Contains (known u k) f
  known_before : (k f : ℕ) → f < t.given → Contains (known u k) f → Contains (known t k) f
  all_before : (f : ℕ) → f < t.given → Contains (known_at_all u) f → Contains (known_at_all t) f

level_stays : (t u : Names) (v : Tree) (l : ℕ) → KeepLevels t u → HasGivenSymbols t.given v → IsTermLevel t v l → IsTermLevel u v l
level_stays t u v l g given h declared =
    let at : IsLeast (known t) (symbols v) l = h (all_with (λ f. f < t.given) (Contains (known_at_all u)) (Contains (known_at_all t)) (symbols v) g.all_before given declared) in
    record {
      declared = All-weaker (Contains (known t l)) (Contains (known u l)) (g.known_still l) (symbols v) at.declared;
      least = λ k all. at.least k (all_with (λ f. f < t.given) (Contains (known u k)) (Contains (known t k)) (symbols v) (g.known_before k) given all);
    }

gained_keep : (t u : Names) → HasGained t u → KeepLevels t u
gained_keep t u g = record {
  known_still = λ k f c. subst (λ dss. Contains (ids_in (k + 1) dss) f) (sym g.levels) (sub_newest g.gained (k + 1) t.levels f c);
  known_before = λ k f lt c. before_newest t.given g.gained g.later (k + 1) t.levels f lt (subst (λ dss. Contains (ids_in (k + 1) dss) f) g.levels c);
  all_before = λ f lt c. before_all t.given g.gained g.later (signature t) f lt (subst (λ ds. Contains (ids ds) f) g.all c);
}

one_later : (n : ℕ) (d : Declaration) → d.id ≡ n → AreLater n (d ∷ [])
one_later n d e = All-cons (λ (e : Declaration). n ≤ e.id) d [] (omega (arith, e)) (All-nil (λ (e : Declaration). n ≤ e.id))

declared_keep : (t : Names) (global : Bool) (d : Declaration) → d.id ≡ t.given → KeepLevels t (with_declaration global d t)
declared_keep t true d e = record {
  known_still = λ k f c. sub_base (d ∷ []) (k + 1) t.levels f c;
  known_before = λ k f lt c. before_base t.given (d ∷ []) (one_later t.given d e) (k + 1) t.levels f lt c;
  all_before = λ f lt c. before_gaining t.given (d ∷ []) (one_later t.given d e) true t.levels f lt c;
}
declared_keep t false d e = record {
  known_still = λ k f c. sub_newest (d ∷ []) (k + 1) t.levels f c;
  known_before = λ k f lt c. before_newest t.given (d ∷ []) (one_later t.given d e) (k + 1) t.levels f lt c;
  all_before = λ f lt c. before_gaining t.given (d ∷ []) (one_later t.given d e) false t.levels f lt c;
}

level_pushed : (t : Names) (k : ℕ) (v : Tree) (l : ℕ) → IsTermLevel t v l → IsTermLevel (with_levels k t) v l
level_pushed t k v l h declared =
    let at : IsLeast (known t) (symbols v) l = h (subst (λ ds. All (Contains (ids ds)) (symbols v)) (all_pushed k t.levels) declared) in
    record {
      declared = subst (λ ds. All (Contains (ids ds)) (symbols v)) (sym (same_pushed (l + 1) k t.levels)) at.declared;
      least = λ j all. at.least j (subst (λ ds. All (Contains (ids ds)) (symbols v)) (same_pushed (j + 1) k t.levels) all);
    }

declared_taken : (t : Names) (j : ℕ) (fs : List ℕ) (l : ℕ) → IsLeast (known t) fs l → All (Contains (ids_in j t.levels)) fs → All (Contains (ids_in (l + 1) (take j t.levels))) fs
declared_taken t zero fs l at declared = All-weaker (Contains (ids_in 0 t.levels)) (Contains (ids_in (l + 1) [])) (λ f c. in_none f c) fs declared
declared_taken t (suc i) fs l at declared =
    let up : i + 1 ≡ suc i = omega arith in
    let le : l ≤ i = at.least i (subst (λ n. All (Contains (ids_in n t.levels)) fs) (sym up) declared) in
    subst (λ dss. All (Contains (ids (all_of_levels dss))) fs) (sym (still_taken (l + 1) (suc i) t.levels (omega arith))) at.declared

level_taken : (t : Names) (j : ℕ) (v : Tree) (l : ℕ) → IsTermLevel t v l → IsTermLevel (record { levels = take j t.levels; given = t.given }) v l
level_taken t j v l h declared =
    let at : IsLeast (known t) (symbols v) l = h (All-weaker (Contains (ids_in j t.levels)) (Contains (known_at_all t)) (λ f c. sub_all j t.levels f c) (symbols v) declared) in
    record {
      declared = declared_taken t j (symbols v) l at declared;
      least = λ k all. at.least k (All-weaker (Contains (ids_in (k + 1) (take j t.levels))) (Contains (known t k)) (λ f c. sub_taken (k + 1) j t.levels f c) (symbols v) all);
    }

level_cleared : (t : Names) (v : Tree) (l : ℕ) → IsTermLevel t v l → IsTermLevel (cleared t) v l
level_cleared t v l h declared =
    let at : IsLeast (known t) (symbols v) l = h (All-weaker (Contains []) (Contains (known_at_all t)) (λ f c. in_none f c) (symbols v) declared) in
    record {
      declared = All-weaker (Contains []) (Contains (known (cleared t) l)) (λ f c. in_none f c) (symbols v) declared;
      least = λ k all. at.least k (All-weaker (Contains []) (Contains (known t k)) (λ f c. in_none f c) (symbols v) declared);
    }

-- ---- level 0 alone, without names

none_taken : {A : Type 0} (n f : ℕ) → Contains (ids_in n []) f → A
none_taken zero f c = in_none f c
none_taken (suc n) f c = in_none f c

in_filter_by : (p : Declaration → Bool) (d : Declaration) (ds : List Declaration) (f : ℕ) (b : Bool) → (Contains (ids (filter p ds)) f → Contains (ids ds) f)
    → Contains (ids (if b then d ∷ filter p ds else filter p ds)) f → Contains (ids (d ∷ ds)) f
in_filter_by p d ds f true h c = elim (in_either (d ∷ []) (filter p ds) f c) [ inl a ↦ in_left (d ∷ []) ds f a | inr b ↦ in_right (d ∷ []) ds f (h b) ]
in_filter_by p d ds f false h c = in_right (d ∷ []) ds f (h c)

in_filter : (p : Declaration → Bool) (ds : List Declaration) (f : ℕ) → Contains (ids (filter p ds)) f → Contains (ids ds) f
in_filter p [] f c = c
in_filter p (d ∷ ds) f c = in_filter_by p d ds f (p d) (in_filter p ds f) c

sub_base_of : (n : ℕ) (dss : List (List Declaration)) (f : ℕ) → Contains (ids_in n (base_of dss)) f → Contains (ids_in n dss) f
sub_base_of zero dss f c = in_none f c
sub_base_of (suc n) [] f c = elim (in_either [] (all_of_levels (take n [])) f c) [ inl a ↦ in_none f a | inr b ↦ none_taken n f b ]
sub_base_of (suc n) (ds ∷ rest) f c =
    elim (in_either (filter stays ds) (all_of_levels (take n [])) f c) [
      | inl a ↦ in_left ds (all_of_levels (take n rest)) f (in_filter stays ds f a)
      | inr b ↦ none_taken n f b
    ]

all_base_of : (dss : List (List Declaration)) (f : ℕ) → Contains (ids (all_of_levels (base_of dss))) f → Contains (ids (all_of_levels dss)) f
all_base_of [] f c = c
all_base_of (ds ∷ rest) f c =
    elim (in_either (filter stays ds) [] f c) [ inl a ↦ in_left ds (all_of_levels rest) f (in_filter stays ds f a) | inr b ↦ in_none f b ]

at_base_of : (n : ℕ) (dss : List (List Declaration)) (f : ℕ) → Contains (ids (all_of_levels (base_of dss))) f → Contains (ids_in (suc n) (base_of dss)) f
at_base_of n [] f c = in_none f c
at_base_of n (ds ∷ rest) f c =
    elim (in_either (filter stays ds) [] f c) [ inl a ↦ in_left (filter stays ds) (all_of_levels (take n [])) f a | inr b ↦ in_none f b ]

level_based : (t : Names) (v : Tree) (l : ℕ) → IsTermLevel t v l → IsTermLevel (based t) v l
level_based t v l h declared =
    let at : IsLeast (known t) (symbols v) l = h (All-weaker (Contains (known_at_all (based t))) (Contains (known_at_all t)) (λ f c. all_base_of t.levels f c) (symbols v) declared) in
    let up : suc l ≡ l + 1 = omega arith in
    record {
      declared = All-weaker (Contains (known_at_all (based t))) (Contains (known (based t) l))
          (λ f c. subst (λ n. Contains (ids_in n (base_of t.levels)) f) up (at_base_of l t.levels f c)) (symbols v) declared;
      least = λ k all. at.least k (All-weaker (Contains (known (based t) k)) (Contains (known t k)) (λ f c. sub_base_of (k + 1) t.levels f c) (symbols v) all);
    }

-- ---- the levels of terms

pub no_levels : (t : Names) (trees : List Tree) → HaveLevels t trees 0 []
no_levels t trees = record { size = refl; each = λ p lt. absurd (omega arith) }

pub levels_more : (t : Names) (trees : List Tree) (n : ℕ) (ls : List ℕ) (l : ℕ) → HaveLevels t trees n ls → IsTermLevel t (tree_at trees n) l → HaveLevels t trees (n + 1) (ls ++ l ∷ [])
levels_more t trees n ls l a h = record { size = length_push ls l ∙ ap (λ k. k + 1) a.size; each = λ p lt. one_more p (last_or_before n p lt) }
  where
    one_more : (p : ℕ) → (p < n) ⊎ (n ≡ p) → IsTermLevel t (tree_at trees p) (slice_index (ls ++ l ∷ []) p)
    one_more p (inl lt) = subst (IsTermLevel t (tree_at trees p)) (sym (get_or_append_left ls (l ∷ []) 0 p (subst (λ k. p < k) (sym a.size) lt))) (a.each p lt)
    one_more p (inr e) =
        subst (IsTermLevel t (tree_at trees p)) (sym (get_or_push ls l 0 p (a.size ∙ e))) (subst (λ q. IsTermLevel t (tree_at trees q) l) e h)

pub levels_longer : (t : Names) (ts us : List Tree) (n : ℕ) (ls : List ℕ) → n ≤ length ts → HaveLevels t ts n ls → HaveLevels t (ts ++ us) n ls
levels_longer t ts us n ls le h = record {
  size = h.size;
  each = λ p lt. subst (λ v. IsTermLevel t v (slice_index ls p)) (sym (tree_at-longer ts us p (omega (arith, lt, le)))) (h.each p lt);
}

pub levels_taken : (t : Names) (ts : List Tree) (m : ℕ) (ls : List ℕ) → HaveLevels t ts (length ts) ls → HaveLevels t (take m ts) (length (take m ts)) (take m ls)
levels_taken t ts m ls h =
    let size : length ls ≡ length ts = h.size in
    record {
      size = omega (arith, size, length-take m ts, length-take m ls);
      each = λ p lt.
          subst (IsTermLevel t (tree_at (take m ts) p)) (sym (get_or-take m ls p 0 (omega (arith, lt, length-take m ts))))
          (subst (λ v. IsTermLevel t v (slice_index ls p)) (sym (same_before m p ts lt)) (h.each p (omega (arith, lt, length-take m ts))));
    }

pub levels_gained : (t u : Names) (ts : List Tree) (n : ℕ) (ls : List ℕ) → HasGained t u → ((p : ℕ) → p < n → HasGivenSymbols t.given (tree_at ts p)) → HaveLevels t ts n ls → HaveLevels u ts n ls
levels_gained t u ts n ls g given h = record { size = h.size; each = λ p lt. level_stays t u (tree_at ts p) (slice_index ls p) (gained_keep t u g) (given p lt) (h.each p lt) }

levels_declared : (t : Names) (global : Bool) (d : Declaration) (ts : List Tree) (n : ℕ) (ls : List ℕ) → d.id ≡ t.given → ((p : ℕ) → p < n → HasGivenSymbols t.given (tree_at ts p))
    → HaveLevels t ts n ls → HaveLevels (with_declaration global d t) ts n ls
levels_declared t global d ts n ls e given h = record {
  size = h.size;
  each = λ p lt. level_stays t (with_declaration global d t) (tree_at ts p) (slice_index ls p) (declared_keep t global d e) (given p lt) (h.each p lt);
}

pub levels_pushed : (t : Names) (k : ℕ) (ts : List Tree) (n : ℕ) (ls : List ℕ) → HaveLevels t ts n ls → HaveLevels (with_levels k t) ts n ls
levels_pushed t k ts n ls h = record { size = h.size; each = λ p lt. level_pushed t k (tree_at ts p) (slice_index ls p) (h.each p lt) }

pub levels_popped : (t : Names) (k : ℕ) (ts : List Tree) (n : ℕ) (ls : List ℕ) → HaveLevels t ts n ls → HaveLevels (without_levels k t) ts n ls
levels_popped t k ts n ls h = record { size = h.size; each = λ p lt. level_taken t (length t.levels - k) (tree_at ts p) (slice_index ls p) (h.each p lt) }

pub levels_cleared : (t : Names) (ts : List Tree) (n : ℕ) (ls : List ℕ) → HaveLevels t ts n ls → HaveLevels (cleared t) ts n ls
levels_cleared t ts n ls h = record { size = h.size; each = λ p lt. level_cleared t (tree_at ts p) (slice_index ls p) (h.each p lt) }

pub levels_based : (t : Names) (ts : List Tree) (n : ℕ) (ls : List ℕ) → HaveLevels t ts n ls → HaveLevels (based t) ts n ls
levels_based t ts n ls h = record { size = h.size; each = λ p lt. level_based t (tree_at ts p) (slice_index ls p) (h.each p lt) }

-- ---- the level of a term by those of its arguments

levels_at : (P : ℕ → Type 0) (trees : List Tree) (is : List ℕ) → All P (symbols_of (pick trees is)) → All (λ i. All P (symbols (tree_at trees i))) is
levels_at P trees [] h = All-nil (λ i. All P (symbols (tree_at trees i)))
levels_at P trees (i ∷ is) h =
    All-cons (λ j. All P (symbols (tree_at trees j))) i is (All-left P (symbols (tree_at trees i)) (symbols_of (pick trees is)) h)
    (levels_at P trees is (All-right P (symbols (tree_at trees i)) (symbols_of (pick trees is)) h))

at_levels : (P : ℕ → Type 0) (trees : List Tree) (is : List ℕ) → All (λ i. All P (symbols (tree_at trees i))) is → All P (symbols_of (pick trees is))
at_levels P trees [] h = All-nil P
at_levels P trees (i ∷ is) h =
    All-append P (symbols (tree_at trees i)) (symbols_of (pick trees is)) (All-head (λ j. All P (symbols (tree_at trees j))) i is h) (at_levels P trees is (All-tail (λ j. All P (symbols (tree_at trees j))) i is h))

greatest_above : (ls is : List ℕ) (m : ℕ) → (m ≤ greatest_of ls is m) × All (λ i. slice_index ls i ≤ greatest_of ls is m) is
greatest_above ls [] m = (omega arith, All-nil (λ i. slice_index ls i ≤ m))
greatest_above ls (i ∷ is) m =
    let r = greatest_above ls is (max m (slice_index ls i)) in
    let le : max m (slice_index ls i) ≤ greatest_of ls is (max m (slice_index ls i)) = r.0 in
    (omega (arith, le), All-cons (λ j. slice_index ls j ≤ greatest_of ls is (max m (slice_index ls i))) i is (omega (arith, le)) r.1)

greatest_within : (ls is : List ℕ) (m k : ℕ) → m ≤ k → All (λ i. slice_index ls i ≤ k) is → greatest_of ls is m ≤ k
greatest_within ls [] m k le h = le
greatest_within ls (i ∷ is) m k le h =
    let first : slice_index ls i ≤ k = All-head (λ j. slice_index ls j ≤ k) i is h in
    greatest_within ls is (max m (slice_index ls i)) k (omega (arith, le, first)) (All-tail (λ j. slice_index ls j ≤ k) i is h)

module _ (t : Names) (trees : List Tree) (count : ℕ) (ls : List ℕ) (is : List ℕ) (a : HaveLevels t trees count ls) (w : All (λ i. i < count) is) where
  abbrev HasLevel : ℕ → Type 0
  HasLevel i = IsLeast (known t) (symbols (tree_at trees i)) (slice_index ls i)

  abbrev IsKnownAt : ℕ → ℕ → Type 0
  IsKnownAt k i = All (Contains (known t k)) (symbols (tree_at trees i))

  each_level : All (Contains (known_at_all t)) (symbols_of (pick trees is)) → All HasLevel is
  each_level declared =
      all_with (λ i. i < count) (λ i. All (Contains (known_at_all t)) (symbols (tree_at trees i))) HasLevel is (λ i lt d. a.each i lt d) w (levels_at (Contains (known_at_all t)) trees is declared)

  known_by : (r i : ℕ) → HasLevel i → slice_index ls i ≤ r → IsKnownAt r i
  known_by r i d le =
      All-weaker (Contains (known t (slice_index ls i))) (Contains (known t r)) (λ f c. sub_more (slice_index ls i + 1) (r + 1) t.levels f (omega (arith, le)) c) (symbols (tree_at trees i)) d.declared

  pub level_of : (h : Head) (m : ℕ) → IsHeadLevel t h m → IsTermLevel t (tree_with trees h is) (greatest_of ls is m)
  level_of h m level declared =
      let top = level (All-left (Contains (known_at_all t)) (head_symbols h) (symbols_of (pick trees is)) declared) in
      let r = greatest_of ls is m in
      let above = greatest_above ls is m in
      let le : m ≤ r = above.0 in
      let each : All HasLevel is = each_level (All-right (Contains (known_at_all t)) (head_symbols h) (symbols_of (pick trees is)) declared) in
      record {
        declared =
            All-append (Contains (known t r)) (head_symbols h) (symbols_of (pick trees is))
            (All-weaker (Contains (known t m)) (Contains (known t r)) (λ f c. sub_more (m + 1) (r + 1) t.levels f (omega (arith, le)) c) (head_symbols h) top.declared)
            (at_levels (Contains (known t r)) trees is (all_with HasLevel (λ i. slice_index ls i ≤ r) (IsKnownAt r) is (λ i d l. known_by r i d l) each above.1));
        least = λ k all.
            greatest_within ls is m k (top.least k (All-left (Contains (known t k)) (head_symbols h) (symbols_of (pick trees is)) all))
            (all_with HasLevel (IsKnownAt k) (λ i. slice_index ls i ≤ k) is (λ i d c. d.least k c) each
            (levels_at (Contains (known t k)) trees is (All-right (Contains (known t k)) (head_symbols h) (symbols_of (pick trees is)) all)));
      }

pub no_symbol : (t : Names) → IsLeast (known t) [] 0
no_symbol t = record { declared = All-nil (Contains (known t 0)); least = λ k all. omega arith }

one_symbol : (t : Names) (f l : ℕ) → IsLevelOf t.levels f l → IsLeast (known t) (f ∷ []) l
one_symbol t f l h = record { declared = All-cons (Contains (known t l)) f [] h.declared (All-nil (Contains (known t l))); least = λ k all. h.least k (All-head (Contains (known t k)) f [] all) }

pub declared_head : (t : Names) (f l : ℕ) → IsLevelOf t.levels f l → IsHeadLevel t (Symbol f) l
declared_head t f l h declared = one_symbol t f l h

-- a symbol of which no declaration is found isn't declared
not_at : (f : ℕ) (d : Declaration) (ds : List Declaration) (b : Bool) → nat_eq f d.id ≡ b → (if b then Some d else first_that (has_id f) ds) ≡ None
    → (first_that (has_id f) ds ≡ None → Contains (ids ds) f → ⊥) → Contains (ids (d ∷ ds)) f → ⊥
not_at f d ds true e none rest c = cc
not_at f d ds false e none rest c = elim (Contains-append_cases (d.id ∷ []) (ids ds) f c) [
  | inl one ↦
      let same : f ≡ d.id = sym (only f d.id one) in
      let yes_it_is : true ≡ false = sym (eq-eqb f d.id same) ∙ e in
      cc
  | inr later ↦ rest none later
]

not_declared : (f : ℕ) (ds : List Declaration) → first_that (has_id f) ds ≡ None → Contains (ids ds) f → ⊥
not_declared f [] none c = absurd (omega (arith, c.1))
not_declared f (d ∷ ds) none c = not_at f d ds (nat_eq f d.id) refl none (not_declared f ds) c

pub other_head : (t : Names) (f : ℕ) → first_that (has_id f) (signature t) ≡ None → IsHeadLevel t (Symbol f) 0
other_head t f none declared = absurd (not_declared f (signature t) none (All-head (Contains (known_at_all t)) f [] declared))

-- ---- commands

pub declared_levels : (c : Judging Change) (global : Bool) (t u : Names) (r : Result Carried StackError) (ts : List Tree) (n : ℕ) (ls : List ℕ) → Declares c global t r u
    → ((p : ℕ) → p < n → HasGivenSymbols t.given (tree_at ts p)) → HaveLevels t ts n ls → HaveLevels u ts n ls
declared_levels c global t u (Ok Done) ts n ls d given h = subst (λ v. HaveLevels v ts n ls) (sym d.new_is) (levels_declared t global d.declaration ts n ls d.id given h)
declared_levels c global t u (Ok Unsupported) ts n ls d given h = subst (λ v. HaveLevels v ts n ls) (sym d.same) h
declared_levels c global t u (Err e) ts n ls d given h = subst (λ v. HaveLevels v ts n ls) (sym d.same) h

pub levels_before : (t u : Names) (old now : Terms) (n : ℕ) (ls : List ℕ) → n ≡ length old.trees → HasGained t u → IsLonger old.trees now.trees
    → ((p : ℕ) → p < length old.trees → HasGivenSymbols t.given (tree_at old.trees p)) → HaveLevels t old.trees (length old.trees) ls → HaveLevels u now.trees n ls
levels_before t u old now n ls e g l given h =
    joined_before HaveLevels u u old now n ls e l refl (levels_longer u old.trees l.0 (length old.trees) ls (omega arith) (levels_gained t u old.trees (length old.trees) ls g given h))

pub asked_levels : (t u : Names) (old now : Terms) (n : ℕ) (ls : List ℕ) → n ≡ length old.trees → u ≡ t → IsLonger old.trees now.trees → HaveLevels t old.trees (length old.trees) ls
    → HaveLevels u now.trees n ls
asked_levels t u old now n ls e g l h = joined_before HaveLevels t u old now n ls e l g (levels_longer t old.trees l.0 (length old.trees) ls (omega arith) h)

-- ---- as a stack shows them

shown_ids : (ts : List Tree) (k : ℕ) (dss : List (List Declaration)) (xss : List (List Assertion)) → length xss ≡ length dss → declared_ids (up_to k (frames_by ts dss xss)) ≡ ids_up_to k dss
shown_ids ts k dss xss e =
    ap declared_ids (sym (frames-taken ts (k + 1) dss xss e)) ∙ ap ids (signature-frames ts (take (k + 1) dss) (take (k + 1) xss))

pub levels_shown : (t : Names) (ts : List Tree) (xss : List (List Assertion)) (n : ℕ) (ls : List ℕ) → length xss ≡ length t.levels → HaveLevels t ts n ls → AreLevels (frames_by ts t.levels xss) ts n ls
levels_shown t ts xss n ls e h = record {
  size = h.size;
  each = λ p lt declared.
      let fs = symbols (tree_at ts p) in
      let at : IsLeast (known t) fs (slice_index ls p) = h.each p lt (subst (λ ds. All (Contains (ids ds)) fs) (signature-frames ts t.levels xss) declared) in
      record {
        declared = subst (λ ks. All (Contains ks) fs) (sym (shown_ids ts (slice_index ls p) t.levels xss e)) at.declared;
        least = λ k all. at.least k (subst (λ ks. All (Contains ks) fs) (shown_ids ts k t.levels xss e) all);
      };
}
