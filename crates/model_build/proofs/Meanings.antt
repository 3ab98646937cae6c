-- The tables that are made, and the values of terms under them.
use Rattle.std.proofs.Common.{◌≡◌, ◌≢◌, ℕ, ◌<◌, Bool, true, false, not, nat_eq, List, [], ◌∷◌, length, get_or, map, All, refl, sym, ap, subst, ◌∙◌, inl, inr, arith, eq-eqb}
use Rattle.std.specs.Prelude.{◌&&◌, ◌||◌, ◌⊎◌, Contains, IsTrue, MatchBool, Some, if◌then◌else◌}
use Rattle.std.proofs.lemmas.Bool.{cond-false, cond-true, eqb-true, ne_eqb}
use Rattle.std.proofs.lemmas.List.Elements.{All-head, All-tail, All-contains, All-weaker, Contains-get_or}
use Rattle.std.proofs.Math.Bool.{and-false}
use Rattle.smt_meaning.specs.declared.values.Value.{Value}
use Rattle.smt_meaning.specs.declared.values.Sort.{Sort}
use Rattle.smt_meaning.specs.declared.values.Sort.TheVariants.{Bool as Truths, Int as Ints, Free}
use Rattle.smt_meaning.specs.declared.values.Row.{Row}
use Rattle.smt_meaning.specs.declared.values.Table.{Table}
use Rattle.smt_meaning.specs.declared.terms.Head.{Head}
use Rattle.smt_meaning.specs.declared.terms.Head.TheVariants.{Numeral, Theory, Symbol, Place}
use Rattle.smt_meaning.specs.Declaration.{Declaration}
use Rattle.smt_meaning.specs.Term.{Tree, Trees, node, none, more, tree_at, value, values, operate, in_range, all_in_range}
use Rattle.smt_meaning.specs.TreeShape.{place_of}
use Rattle.smt_meaning.specs.Signature.{HasNoIdTwice, function_with_id, is_symbol, is_some}
use Rattle.smt_meaning.specs.Interpretation.{has_sort, have_sorts, look, meaning, IsTableFor, AreTablesFor}
use Rattle.term_store.specs.Terms.{AreDifferent}
use Rattle.term_store.proofs.PlaceLemmas.{place_of-is}
use Rattle.model_build.specs.declared.given.Given.{Given}
use Rattle.model_build.specs.declared.given.Given.TheVariants.{Unmarked, InRange, PastRange}
use Rattle.model_build.specs.Given.{given_at, is_marked, is_past, has_past, givens, head_of, arguments_of, arguments_given, IsApplication, AreAlike}
use Rattle.model_build.specs.Building.{AreGiven, each, HasOperatorsValue, AreValues, GiveValues}
use Rattle.model_build.specs.Keys.{symbol_at, HaveOneKey, AreFirst}
use Rattle.model_build.specs.Filling.{value_of, has_row, row_at, filled, default_of, empty_table, table_of, tables_of}
use Rattle.model_build.proofs.Alike.{past_alike, same_alike, from_past, from_same}
use Rattle.model_build.proofs.Kept.{symbol_is, one_of, key_back, key_along}
use Rattle.model_build.proofs.Looking.{same_from_values, row_in_range, row_not_empty, rowless, in_range_is, look_found, look_none, left_true, or_left, or_right}
use Rattle.model_build.proofs.Fills.{IsRowOf, IsDefaultOf, IsUntouched, AreApart, filled_symbol, rows_of, has_its_row, default_is, rows_apart, in_first, in_rest, member_cases}
use Rattle.model_build.proofs.Sorting.{IsSortedAt, sorted_at, have_given_sorts, have_values_sorts, have_values_in_range, value_sort, no_sorts, some_sorts, stands_there, within, both_true}

-- ---- declarations

is_function : (d : Declaration) → is_symbol d ≡ true → not d.is_sort ≡ true
is_function d h = left_true (not d.is_sort) (not (is_some d.body)) h

-- the declaration of an id that no other has
the_function : (ds : List Declaration) (d : Declaration) → HasNoIdTwice ds → Contains ds d → is_symbol d ≡ true → function_with_id d.id ds ≡ Some d
the_function [] d once (k, h, e) symbol = absurd (omega arith)
the_function (e ∷ es) d once member symbol = by (member_cases e d es member) (λ rest. the_function es d once.1 rest symbol)
  where
    by : (e ≡ d) ⊎ Contains es d → (Contains es d → function_with_id d.id es ≡ Some d) → (if nat_eq d.id e.id && not e.is_sort then Some e else function_with_id d.id es) ≡ Some d
    by (inl same) next =
        cond-true (nat_eq d.id e.id && not e.is_sort) (Some e) (function_with_id d.id es)
        (both_true (nat_eq d.id e.id) (not e.is_sort) (eq-eqb d.id e.id (ap (λ (x : Declaration). x.id) (sym same))) (ap (λ (x : Declaration). not x.is_sort) same ∙ is_function d symbol))
        ∙ ap Some same
    by (inr rest) next =
        let other : d.id ≢ e.id = λ x. All-contains (λ (y : Declaration). e.id ≢ y.id) es d once.0 rest (sym x) in
        cond-false (nat_eq d.id e.id && not e.is_sort) (Some e) (function_with_id d.id es) (ap (λ b. b && not e.is_sort) (ne_eqb d.id e.id other)) ∙ next rest

found_id : (ds : List Declaration) (f : ℕ) (d : Declaration) → function_with_id f ds ≡ Some d → d.id ≡ f
found_id [] f d e = absurd cc
found_id (x ∷ xs) f d e = by (nat_eq f x.id && not x.is_sort) refl e (λ rest. found_id xs f d rest)
  where
    by : (b : Bool) → (nat_eq f x.id && not x.is_sort) ≡ b → (if b then Some x else function_with_id f xs) ≡ Some d → (function_with_id f xs ≡ Some d → d.id ≡ f) → d.id ≡ f
    by true h e next = let same : x ≡ d = cc in ap (λ (y : Declaration). y.id) (sym same) ∙ sym (eqb-true f x.id (left_true (nat_eq f x.id) (not x.is_sort) h))
    by false h e next = next e

table_symbol : (ts : List Tree) (gs : List Given) (ps : List ℕ) (d : Declaration) → (table_of ts gs ps d).symbol ≡ d.id
unfolding table_of
table_symbol ts gs ps d = filled_symbol ts gs (empty_table d) ps

and_false : (a b : Bool) → a && b ≡ false → b ≡ true → a ≡ false
and_false true b h k = absurd (let x : true ≡ false = sym k ∙ h in cc)
and_false false b h k = refl

-- the first table of a symbol is that of its declaration
meaning_of : (ts : List Tree) (gs : List Given) (ps : List ℕ) (ds : List Declaration) (f : ℕ) (d : Declaration) (vs : List Value) → function_with_id f ds ≡ Some d → is_symbol d ≡ true
    → meaning (tables_of ts gs ps ds) f vs ≡ look (table_of ts gs ps d).rows (table_of ts gs ps d).default vs
meaning_of ts gs ps [] f d vs found symbol = absurd cc
meaning_of ts gs ps (e ∷ es) f d vs found symbol = by (nat_eq f e.id && not e.is_sort) refl found (λ rest. meaning_of ts gs ps es f d vs rest symbol)
  where
    value_in : Declaration → Value
    value_in x = look (table_of ts gs ps x).rows (table_of ts gs ps x).default vs

    skipped : (s : Bool) → is_symbol e ≡ s → (nat_eq f e.id && not e.is_sort) ≡ false
        → meaning (if s then table_of ts gs ps e ∷ tables_of ts gs ps es else tables_of ts gs ps es) f vs ≡ meaning (tables_of ts gs ps es) f vs
    skipped true s h =
        cond-false (nat_eq f (table_of ts gs ps e).symbol) (value_in e) (meaning (tables_of ts gs ps es) f vs)
        (ap (nat_eq f) (table_symbol ts gs ps e) ∙ and_false (nat_eq f e.id) (not e.is_sort) h (is_function e s))
    skipped false s h = refl

    by : (b : Bool) → (nat_eq f e.id && not e.is_sort) ≡ b → (if b then Some e else function_with_id f es) ≡ Some d
        → (function_with_id f es ≡ Some d → meaning (tables_of ts gs ps es) f vs ≡ value_in d) → meaning (tables_of ts gs ps (e ∷ es)) f vs ≡ value_in d
    by true h q next =
        let same : e ≡ d = cc in
        ap (λ (xs : List Table). meaning xs f vs)
        (cond-true (is_symbol e) (table_of ts gs ps e ∷ tables_of ts gs ps es) (tables_of ts gs ps es) (ap is_symbol same ∙ symbol))
        ∙ cond-true (nat_eq f (table_of ts gs ps e).symbol) (value_in e) (meaning (tables_of ts gs ps es) f vs) (ap (nat_eq f) (table_symbol ts gs ps e) ∙ left_true (nat_eq f e.id) (not e.is_sort) h)
        ∙ ap value_in same
    by false h q next = skipped (is_symbol e) refl h ∙ next q

default_sort : (s : Sort) → has_sort (default_of s) s ≡ true
default_sort Truths = refl
default_sort Ints = refl
default_sort (Free a) = refl

-- ---- arguments without a row

past_is : (g : Given) → is_past g ≡ true → g ≡ PastRange
past_is Unmarked h = cc
past_is (InRange v) h = cc
past_is PastRange h = refl

empty_and_past : (as' bs : List Given) (ss : List Sort) → have_given_sorts as' ss ≡ true → have_given_sorts bs ss ≡ true → as' ≡ [] → has_past bs ≡ true → ⊥
empty_and_past as' [] ss ha hb a b = cc
empty_and_past as' (g ∷ bs) ss ha hb a b = some_sorts ss g bs as' hb ha a

rowless_alike : (as' bs : List Given) (ss : List Sort) → have_given_sorts as' ss ≡ true → have_given_sorts bs ss ≡ true → (as' ≡ []) ⊎ (has_past as' ≡ true) → (bs ≡ []) ⊎ (has_past bs ≡ true)
    → AreAlike as' bs
rowless_alike as' bs ss ha hb (inl a) (inl b) = same_alike as' bs (ap has_past a) (a ∙ sym b)
rowless_alike as' bs ss ha hb (inl a) (inr b) = absurd (empty_and_past as' bs ss ha hb a b)
rowless_alike as' bs ss ha hb (inr a) (inl b) = absurd (empty_and_past bs as' ss hb ha b a)
rowless_alike as' bs ss ha hb (inr a) (inr b) = past_alike as' bs a b

plain_not_alike : (as' bs : List Given) → (as' ≡ []) ⊎ (has_past as' ≡ true) → AreAlike as' bs → has_row bs ≡ true → ⊥
plain_not_alike as' bs (inl a) alike plain = row_not_empty bs plain (sym (from_same as' bs (ap has_past a) alike) ∙ a)
plain_not_alike as' bs (inr a) alike plain = let x : true ≡ false = sym (from_past as' bs a alike) ∙ row_in_range bs plain in cc

-- ---- one table for each declared function

skip_table : (e : Declaration) (es : List Declaration) (tables : List Table) → is_symbol e ≡ false → AreTablesFor es tables → AreTablesFor (e ∷ es) tables
skip_table e es [] s h = (λ t. (let x : true ≡ false = sym t ∙ s in cc), h)
skip_table e es (t ∷ tables) s h = subst (λ b. MatchBool b (IsTableFor t e × AreTablesFor es tables) (AreTablesFor es (t ∷ tables))) (sym s) h

are_tables : (ts : List Tree) (gs : List Given) (ps : List ℕ) (es : List Declaration) → ((d : Declaration) → Contains es d → is_symbol d ≡ true → IsTableFor (table_of ts gs ps d) d)
    → AreTablesFor es (tables_of ts gs ps es)
are_tables ts gs ps [] each' = tt
are_tables ts gs ps (e ∷ es) each' = by (is_symbol e) refl (are_tables ts gs ps es (λ d m s. each' d (in_rest e d es m) s))
  where
    by : (b : Bool) → is_symbol e ≡ b → AreTablesFor es (tables_of ts gs ps es) → AreTablesFor (e ∷ es) (if b then table_of ts gs ps e ∷ tables_of ts gs ps es else tables_of ts gs ps es)
    by true s h =
        subst (λ b. MatchBool b (IsTableFor (table_of ts gs ps e) e × AreTablesFor es (tables_of ts gs ps es)) (AreTablesFor es (table_of ts gs ps e ∷ tables_of ts gs ps es))) (sym s)
        (each' e (in_first e es) s, h)
    by false s h = skip_table e es (tables_of ts gs ps es) s h

no_rows : (rs : List Row) → All (λ (r : Row). ⊥) rs → rs ≡ []
no_rows [] h = refl
no_rows (r ∷ rs) h = absurd (All-head (λ (x : Row). ⊥) r rs h)

not_empty_map : (gs : List Given) → gs ≢ [] → map value_of gs ≢ []
not_empty_map [] h e = h refl
not_empty_map (g ∷ gs) h e = cc

module _ (ds : List Declaration) (ts : List Tree) (gs : List Given) (ps : List ℕ) (given : AreGiven ds ts gs) (first : AreFirst ts gs (length ts) ps) where
  application_of : (p : ℕ) → Contains ps p → IsApplication ts gs (symbol_at ts p) p
  application_of p m = All-contains (λ q. IsApplication ts gs (symbol_at ts q) q) ps p first.applications m

  sorted_of : (f p : ℕ) → Contains ps p → symbol_at ts p ≡ f → IsSortedAt ds ts gs given f p
  sorted_of f p m e = subst (λ g. IsSortedAt ds ts gs given g p) e (sorted_at ds ts gs given (symbol_at ts p) p (application_of p m))

  one_declaration : (f : ℕ) (d : Declaration) (p : ℕ) (s : IsSortedAt ds ts gs given f p) → function_with_id f ds ≡ Some d → s.declaration ≡ d
  one_declaration f d p s e = let x : Some s.declaration ≡ Some d = sym s.found ∙ e in cc

  arguments_sorts : (f : ℕ) (d : Declaration) (p : ℕ) → IsSortedAt ds ts gs given f p → function_with_id f ds ≡ Some d → have_given_sorts (arguments_given ts gs p) d.rank.arguments ≡ true
  arguments_sorts f d p s e = subst (λ (x : Declaration). have_given_sorts (arguments_given ts gs p) x.rank.arguments ≡ true) (one_declaration f d p s e) s.arguments

  result_sort : (f : ℕ) (d : Declaration) (p : ℕ) → IsSortedAt ds ts gs given f p → function_with_id f ds ≡ Some d → has_sort (value_of (given_at gs p)) d.rank.result ≡ true
  result_sort f d p s e =
      subst (λ (x : Declaration). has_sort (value_of (given_at gs p)) x.rank.result ≡ true) (one_declaration f d p s e) (value_sort (given_at gs p) s.declaration.rank.result s.result s.within)

  apart : AreApart ts gs ps
  apart i j d h g same symbol pi pj =
      let p = get_or ps i d in
      let q = get_or ps j d in
      let ap' = application_of p (Contains-get_or ps i d (omega arith)) in
      let aq = application_of q (Contains-get_or ps j d g) in
      let equal : arguments_given ts gs p ≡ arguments_given ts gs q =
      same_from_values (arguments_given ts gs p) (arguments_given ts gs q) (given.closed p ap'.within ap'.marked) (given.closed q aq.within aq.marked)
      (row_in_range (arguments_given ts gs p) pi) (row_in_range (arguments_given ts gs q) pj) same in
      first.apart i j d h g (record { symbol = sym symbol; alike = same_alike (arguments_given ts gs p) (arguments_given ts gs q) (row_in_range (arguments_given ts gs p) pi) equal })

  -- ---- the tables are tables of the signature

  row_sorts : (d : Declaration) → function_with_id d.id ds ≡ Some d → (r : Row) → IsRowOf ts gs d.id ps r
      → IsTrue (have_sorts r.arguments d.rank.arguments) × IsTrue (has_sort r.value d.rank.result)
  row_sorts d found r o =
      let s = sorted_of d.id o.place o.member o.symbol in
      let a = arguments_given ts gs o.place in (
        ap (λ (x : Row). have_sorts x.arguments d.rank.arguments) o.same ∙ have_values_sorts a d.rank.arguments (arguments_sorts d.id d o.place s found) (row_in_range a o.plain),
        ap (λ (x : Row). has_sort x.value d.rank.result) o.same ∙ result_sort d.id d o.place s found,
      )

  default_has_sort : (d : Declaration) (v : Value) → function_with_id d.id ds ≡ Some d → IsDefaultOf ts gs d.id ps v ⊎ IsUntouched ts gs (empty_table d) ps v → has_sort v d.rank.result ≡ true
  default_has_sort d v found (inl o) = ap (λ x. has_sort x d.rank.result) o.same ∙ result_sort d.id d o.place (sorted_of d.id o.place o.member o.symbol) found
  default_has_sort d v found (inr u) = ap (λ x. has_sort x d.rank.result) u.same ∙ default_sort d.rank.result

  no_constant_row : (d : Declaration) → function_with_id d.id ds ≡ Some d → d.rank.arguments ≡ [] → (r : Row) → IsRowOf ts gs d.id ps r → ⊥
  no_constant_row d found none' r o =
      let a = arguments_given ts gs o.place in
      row_not_empty a o.plain (no_sorts a (subst (λ ss. have_given_sorts a ss ≡ true) none' (arguments_sorts d.id d o.place (sorted_of d.id o.place o.member o.symbol) found)))

  table_is : (d : Declaration) → function_with_id d.id ds ≡ Some d → IsTableFor (table_of ts gs ps d) d
  unfolding table_of
  table_is d found = record {
    symbol = filled_symbol ts gs (empty_table d) ps;
    rows = All-weaker (IsRowOf ts gs d.id ps) (λ (r : Row). IsTrue (have_sorts r.arguments d.rank.arguments) × IsTrue (has_sort r.value d.rank.result)) (row_sorts d found)
        (filled ts gs (empty_table d) ps).rows (rows_of ts gs (empty_table d) ps refl);
    default = default_has_sort d (filled ts gs (empty_table d) ps).default found (default_is ts gs (empty_table d) ps);
    no_two = rows_apart ts gs (empty_table d) ps refl apart;
    constants = λ e. no_rows (filled ts gs (empty_table d) ps).rows
        (All-weaker (IsRowOf ts gs d.id ps) (λ (r : Row). ⊥) (no_constant_row d found e) (filled ts gs (empty_table d) ps).rows (rows_of ts gs (empty_table d) ps refl));
  }

  -- ---- what a table gives

  -- an application that is kept, and has the key of another, is given the same
  same_given : (f p q : ℕ) → IsApplication ts gs f p → Contains ps q → HaveOneKey ts gs p q → given_at gs q ≡ given_at gs p
  same_given f p q a m key =
      let k = first.all f p a.within a in
      ap (given_at gs) (one_of ts gs ps q k.kept first.apart m k.member (key_along ts gs q p k.kept (key_back ts gs p q key) k.key)) ∙ sym k.same

  -- in a row
  module _ (f p : ℕ) (d : Declaration) (found : function_with_id f ds ≡ Some d) (a : IsApplication ts gs f p) (vs : List Value) where
    own_id : d.id ≡ f
    own_id = found_id ds f d found

    of_symbol : (q : ℕ) → symbol_at ts q ≡ d.id → symbol_at ts q ≡ symbol_at ts p
    of_symbol q e = e ∙ own_id ∙ sym (symbol_is ts gs f p a)

    marked_of : (q : ℕ) → Contains ps q → All (λ g. is_marked g ≡ true) (arguments_given ts gs q)
    marked_of q m = let b = application_of q m in given.closed q b.within b.marked

    row_value : has_past (arguments_given ts gs p) ≡ false → vs ≡ map value_of (arguments_given ts gs p) → (r : Row) → IsRowOf ts gs d.id ps r → r.arguments ≡ vs → r.value ≡ value_of (given_at gs p)
    row_value np inside r o e =
        let equal : arguments_given ts gs p ≡ arguments_given ts gs o.place =
        same_from_values (arguments_given ts gs p) (arguments_given ts gs o.place) (given.closed p a.within a.marked) (marked_of o.place o.member) np
        (row_in_range (arguments_given ts gs o.place) o.plain) (sym inside ∙ sym e ∙ ap (λ (x : Row). x.arguments) o.same) in
        ap (λ (x : Row). x.value) o.same
        ∙ ap value_of (same_given f p o.place a o.member
        (record { symbol = of_symbol o.place o.symbol; alike = same_alike (arguments_given ts gs p) (arguments_given ts gs o.place) np equal }))

    looked_row : has_row (arguments_given ts gs p) ≡ true → vs ≡ map value_of (arguments_given ts gs p)
        → look (filled ts gs (empty_table d) ps).rows (filled ts gs (empty_table d) ps).default vs ≡ value_of (given_at gs p)
    looked_row plain inside =
        let np = row_in_range (arguments_given ts gs p) plain in
        let k = first.all f p a.within a in
        let equal : arguments_given ts gs p ≡ arguments_given ts gs k.kept = from_same (arguments_given ts gs p) (arguments_given ts gs k.kept) np k.key.alike in
        look_found (filled ts gs (empty_table d) ps).rows (filled ts gs (empty_table d) ps).default (value_of (given_at gs p)) vs (row_at ts gs k.kept)
        (All-weaker (IsRowOf ts gs d.id ps) (λ (x : Row). x.arguments ≡ vs → x.value ≡ value_of (given_at gs p)) (row_value np inside) (filled ts gs (empty_table d) ps).rows
        (rows_of ts gs (empty_table d) ps refl))
        (has_its_row ts gs (empty_table d) ps k.kept k.member (k.key.symbol ∙ symbol_is ts gs f p a ∙ sym own_id) (ap has_row (sym equal) ∙ plain))
        (ap (map value_of) (sym equal) ∙ sym inside)

    -- by the default
    other_row : (arguments_given ts gs p ≡ []) ⊎ (has_past (arguments_given ts gs p) ≡ true) → (has_past (arguments_given ts gs p) ≡ false → vs ≡ map value_of (arguments_given ts gs p))
        → (has_past (arguments_given ts gs p) ≡ true → all_in_range vs ≡ false) → (r : Row) → IsRowOf ts gs d.id ps r → r.arguments ≢ vs
    other_row (inl empty) inside outside r o e =
        not_empty_map (arguments_given ts gs o.place) (row_not_empty (arguments_given ts gs o.place) o.plain)
        (ap (λ (x : Row). x.arguments) (sym o.same) ∙ e ∙ inside (ap has_past empty) ∙ ap (map value_of) empty)
    other_row (inr past) inside outside r o e =
        let b = arguments_given ts gs o.place in
        let within' : all_in_range r.arguments ≡ true =
        ap (λ (x : Row). all_in_range x.arguments) o.same
        ∙ have_values_in_range b d.rank.arguments (arguments_sorts f d o.place (sorted_of f o.place o.member (o.symbol ∙ own_id)) found) (row_in_range b o.plain) in
        let x : true ≡ false = sym within' ∙ ap all_in_range e ∙ outside past in
        cc

    same_length : (q : ℕ) → Contains ps q → symbol_at ts q ≡ d.id → has_row (arguments_given ts gs q) ≡ false → (arguments_given ts gs p ≡ []) ⊎ (has_past (arguments_given ts gs p) ≡ true)
        → AreAlike (arguments_given ts gs p) (arguments_given ts gs q)
    same_length q m symbol none' r =
        rowless_alike (arguments_given ts gs p) (arguments_given ts gs q) d.rank.arguments (arguments_sorts f d p (sorted_at ds ts gs given f p a) found)
        (arguments_sorts f d q (sorted_of f q m (symbol ∙ own_id)) found) r (rowless (arguments_given ts gs q) none')

    default_value : (v : Value) → (arguments_given ts gs p ≡ []) ⊎ (has_past (arguments_given ts gs p) ≡ true) → IsDefaultOf ts gs d.id ps v ⊎ IsUntouched ts gs (empty_table d) ps v
        → v ≡ value_of (given_at gs p)
    default_value v r (inl o) =
        o.same ∙ ap value_of (same_given f p o.place a o.member (record { symbol = of_symbol o.place o.symbol; alike = same_length o.place o.member o.symbol o.rowless r }))
    default_value v r (inr u) =
        let k = first.all f p a.within a in
        absurd (plain_not_alike (arguments_given ts gs p) (arguments_given ts gs k.kept) r k.key.alike (u.plain k.kept k.member (k.key.symbol ∙ symbol_is ts gs f p a ∙ sym own_id)))

    looked_default : has_row (arguments_given ts gs p) ≡ false → (has_past (arguments_given ts gs p) ≡ false → vs ≡ map value_of (arguments_given ts gs p))
        → (has_past (arguments_given ts gs p) ≡ true → all_in_range vs ≡ false)
        → look (filled ts gs (empty_table d) ps).rows (filled ts gs (empty_table d) ps).default vs ≡ value_of (given_at gs p)
    looked_default none' inside outside =
        let r = rowless (arguments_given ts gs p) none' in
        look_none (filled ts gs (empty_table d) ps).rows (filled ts gs (empty_table d) ps).default vs
        (All-weaker (IsRowOf ts gs d.id ps) (λ (x : Row). x.arguments ≢ vs) (other_row r inside outside) (filled ts gs (empty_table d) ps).rows (rows_of ts gs (empty_table d) ps refl))
        ∙ default_value (filled ts gs (empty_table d) ps).default r (default_is ts gs (empty_table d) ps)

    -- an application has its value
    looked : (has_past (arguments_given ts gs p) ≡ false → vs ≡ map value_of (arguments_given ts gs p)) → (has_past (arguments_given ts gs p) ≡ true → all_in_range vs ≡ false)
        → look (table_of ts gs ps d).rows (table_of ts gs ps d).default vs ≡ value_of (given_at gs p)
    unfolding table_of
    looked inside outside = by (has_row (arguments_given ts gs p)) refl
      where
        by : (b : Bool) → has_row (arguments_given ts gs p) ≡ b → look (filled ts gs (empty_table d) ps).rows (filled ts gs (empty_table d) ps).default vs ≡ value_of (given_at gs p)
        by true plain = looked_row plain (inside (row_in_range (arguments_given ts gs p) plain))
        by false none' = looked_default none' inside outside

  -- ---- the values of terms

  module _ (w : Tree → Value) (are : AreValues ts gs w) where
    inside_value : (u : Tree) → is_marked (given_at gs (place_of u ts)) ≡ true → is_past (given_at gs (place_of u ts)) ≡ false → w u ≡ value_of (given_at gs (place_of u ts))
    inside_value u m np =
        let h = within ds ts gs given (place_of u ts) m in
        ap w (sym (stands_there u ts h)) ∙ are.within (place_of u ts) (value_of (given_at gs (place_of u ts))) h (in_range_is (given_at gs (place_of u ts)) m np)

    arguments_inside : (us : Trees) → All (λ g. is_marked g ≡ true) (givens ts gs us) → has_past (givens ts gs us) ≡ false → each w us ≡ map value_of (givens ts gs us)
    arguments_inside none marked np = refl
    arguments_inside (more u us) marked np =
        ap (λ x. x ∷ each w us)
        (inside_value u (All-head (λ g. is_marked g ≡ true) (given_at gs (place_of u ts)) (givens ts gs us) marked) (or_left (is_past (given_at gs (place_of u ts))) (has_past (givens ts gs us)) np))
        ∙ ap (λ xs. value_of (given_at gs (place_of u ts)) ∷ xs)
        (arguments_inside us (All-tail (λ g. is_marked g ≡ true) (given_at gs (place_of u ts)) (givens ts gs us) marked)
        (or_right (is_past (given_at gs (place_of u ts))) (has_past (givens ts gs us)) np))

    outside_value : (u : Tree) → is_marked (given_at gs (place_of u ts)) ≡ true → is_past (given_at gs (place_of u ts)) ≡ true → in_range (w u) ≡ false
    outside_value u m past =
        let h = within ds ts gs given (place_of u ts) m in
        ap (λ t. in_range (w t)) (sym (stands_there u ts h)) ∙ are.past (place_of u ts) h (past_is (given_at gs (place_of u ts)) past)

    arguments_outside : (us : Trees) → All (λ g. is_marked g ≡ true) (givens ts gs us) → has_past (givens ts gs us) ≡ true → all_in_range (each w us) ≡ false
    arguments_outside none marked past = cc
    arguments_outside (more u us) marked past =
        by (is_past (given_at gs (place_of u ts))) refl past (λ p. arguments_outside us (All-tail (λ g. is_marked g ≡ true) (given_at gs (place_of u ts)) (givens ts gs us) marked) p)
      where
        by : (b : Bool) → is_past (given_at gs (place_of u ts)) ≡ b → (b || has_past (givens ts gs us)) ≡ true → (has_past (givens ts gs us) ≡ true → all_in_range (each w us) ≡ false)
            → (in_range (w u) && all_in_range (each w us)) ≡ false
        by true e h next = ap (λ x. x && all_in_range (each w us)) (outside_value u (All-head (λ g. is_marked g ≡ true) (given_at gs (place_of u ts)) (givens ts gs us) marked) e)
        by false e h next = rw (next h) (and-false (in_range (w u)))

    there : (h : Head) (us : Trees) → is_marked (given_at gs (place_of (node h us) ts)) ≡ true → tree_at ts (place_of (node h us) ts) ≡ node h us
    there h us m = stands_there (node h us) ts (within ds ts gs given (place_of (node h us) ts) m)

    marked_arguments : (h : Head) (us : Trees) → is_marked (given_at gs (place_of (node h us) ts)) ≡ true → All (λ g. is_marked g ≡ true) (givens ts gs us)
    marked_arguments h us m =
        let p = place_of (node h us) ts in
        subst (λ t. All (λ g. is_marked g ≡ true) (givens ts gs (arguments_of t))) (there h us m) (given.closed p (within ds ts gs given p m) m)

    operator : (h : Head) (us : Trees) → is_marked (given_at gs (place_of (node h us) ts)) ≡ true → HasOperatorsValue w (node h us)
    operator h us m = let p = place_of (node h us) ts in subst (HasOperatorsValue w) (there h us m) (are.operators p (within ds ts gs given p m) m)

    application_valued : (f : ℕ) (us : Trees) (m : is_marked (given_at gs (place_of (node (Symbol f) us) ts)) ≡ true) → meaning (tables_of ts gs ps ds) f (each w us) ≡ w (node (Symbol f) us)
    application_valued f us m =
        let p = place_of (node (Symbol f) us) ts in
        let here = there (Symbol f) us m in
        let within' : p < length ts = within ds ts gs given p m in
        let a : IsApplication ts gs f p = record { within = within'; marked = m; symbol = ap head_of here } in
        let s = sorted_at ds ts gs given f p a in
        let same : arguments_given ts gs p ≡ givens ts gs us = ap (λ t. givens ts gs (arguments_of t)) here in
        let marked = marked_arguments (Symbol f) us m in
        meaning_of ts gs ps ds f s.declaration (each w us) s.found s.symbol
        ∙ looked f p s.declaration s.found a (each w us) (λ np. arguments_inside us marked (ap has_past (sym same) ∙ np) ∙ ap (map value_of) (sym same))
        (λ past. arguments_outside us marked (ap has_past (sym same) ∙ past))
        ∙ sym (inside_value (node (Symbol f) us) m s.within)

    valued_at : (h : Head) (us : Trees) → is_marked (given_at gs (place_of (node h us) ts)) ≡ true
        → (All (λ g. is_marked g ≡ true) (givens ts gs us) → values (meaning (tables_of ts gs ps ds)) us ≡ each w us) → value (meaning (tables_of ts gs ps ds)) (node h us) ≡ w (node h us)
    valued_at (Numeral n) us m next = sym (operator (Numeral n) us m)
    valued_at (Theory o) us m next = ap (operate o) (next (marked_arguments (Theory o) us m)) ∙ sym (operator (Theory o) us m)
    valued_at (Symbol f) us m next = ap (meaning (tables_of ts gs ps ds) f) (next (marked_arguments (Symbol f) us m)) ∙ application_valued f us m
    valued_at (Place k) us m next = sym (operator (Place k) us m)

    mutual
      valued : (t : Tree) → is_marked (given_at gs (place_of t ts)) ≡ true → value (meaning (tables_of ts gs ps ds)) t ≡ w t
      valued (node h us) m = valued_at h us m (λ marked. each_valued us marked)

      each_valued : (us : Trees) → All (λ g. is_marked g ≡ true) (givens ts gs us) → values (meaning (tables_of ts gs ps ds)) us ≡ each w us
      each_valued none marked = refl
      each_valued (more u us) marked =
          ap (λ x. x ∷ values (meaning (tables_of ts gs ps ds)) us) (valued u (All-head (λ g. is_marked g ≡ true) (given_at gs (place_of u ts)) (givens ts gs us) marked))
          ∙ ap (λ xs. w u ∷ xs) (each_valued us (All-tail (λ g. is_marked g ≡ true) (given_at gs (place_of u ts)) (givens ts gs us) marked))

  pub give_values : AreDifferent ts → GiveValues ts gs (tables_of ts gs ps ds)
  give_values different w are p h m =
      valued w are (tree_at ts p) (ap (λ n. is_marked (given_at gs n)) (place_of-is (tree_at ts p) ts p different h refl) ∙ m)

  pub tables_are : HasNoIdTwice ds → AreTablesFor ds (tables_of ts gs ps ds)
  tables_are once = are_tables ts gs ps ds (λ d m s. table_is d (the_function ds d once m s))
