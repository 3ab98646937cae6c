-- How a table is filled.
use Rattle.std.proofs.Common.{◌≡◌, ◌≢◌, ℕ, zero, suc, ◌+◌, ◌-◌, ◌<◌, ◌≤◌, nat_eq, Bool, true, false, List, [], ◌∷◌, ◌++◌, length, get_or, take, drop, map, All, refl, sym, ap, subst, ◌∙◌, inl, inr, arith, eq-eqb}
use Rattle.std.specs.Prelude.{AllPairs, Contains, ◌⊎◌, if◌then◌else◌}
use Rattle.std.proofs.lemmas.Bool.{cond-false, cond-true, eqb-true, ne_eqb}
use Rattle.std.proofs.lemmas.List.{get_or-map, length-map, take_more}
use Rattle.std.proofs.lemmas.List.Elements.{All-push, All-nil, All-weaker, Contains-append_left, Contains-append_right, Contains-push}
use Rattle.std.proofs.lemmas.List.Quantifiers.{all_pairs_push}
use Rattle.smt_meaning.specs.declared.values.Value.{Value}
use Rattle.smt_meaning.specs.declared.values.Row.{Row}
use Rattle.smt_meaning.specs.declared.values.Table.{Table}
use Rattle.smt_meaning.specs.Declaration.{Declaration}
use Rattle.smt_meaning.specs.Term.{Tree}
use Rattle.smt_meaning.specs.Signature.{is_symbol}
use Rattle.model_build.specs.declared.given.Given.{Given}
use Rattle.model_build.specs.Given.{given_at, arguments_given}
use Rattle.model_build.specs.Keys.{symbol_at}
use Rattle.model_build.specs.Filling.{value_of, has_row, row_at, with_place, filled, table_of, tables_of}
use Rattle.term_store.specs.Latest.{last_place}
use Rattle.term_store.proofs.Links.{IsLink, Goes, goes, goes_on, hash_there}

-- ---- tests

pub on_bool : {A : Type 0} (P : A → Type 0) (b : Bool) (x y : A) → (b ≡ true → P x) → (b ≡ false → P y) → P (if b then x else y)
on_bool P true x y t f = t refl
on_bool P false x y t f = f refl

-- ---- members

pub in_first : {A : Type 0} (x : A) (xs : List A) → Contains (x ∷ xs) x
in_first x xs = (0, omega arith, refl)

pub in_rest : {A : Type 0} (x y : A) (xs : List A) → Contains xs y → Contains (x ∷ xs) y
in_rest x y xs m = Contains-append_right (x ∷ []) xs y m

pub member_cases : {A : Type 0} (x y : A) (xs : List A) → Contains (x ∷ xs) y → (x ≡ y) ⊎ Contains xs y
member_cases x y xs (zero, h, e) = inl e
member_cases x y xs (suc k, h, e) = inr (k, omega arith, e)

-- ---- a place at a time

module _ (ts : List Tree) (gs : List Given) where
  with_place_symbol : (p : ℕ) (t : Table) → (with_place ts gs p t).symbol ≡ t.symbol
  with_place_symbol p t =
      on_bool (λ (u : Table). u.symbol ≡ t.symbol) (has_row (arguments_given ts gs p)) (record t { rows = t.rows ++ row_at ts gs p ∷ [] }) (record t { default = value_of (given_at gs p) })
      (λ h. refl) (λ h. refl)

  pub filled_symbol : (t : Table) (ps : List ℕ) → (filled ts gs t ps).symbol ≡ t.symbol
  filled_symbol t [] = refl
  filled_symbol t (p ∷ ps) =
      on_bool (λ (u : Table). u.symbol ≡ t.symbol) (nat_eq (symbol_at ts p) t.symbol) (with_place ts gs p (filled ts gs t ps)) (filled ts gs t ps)
      (λ h. with_place_symbol p (filled ts gs t ps) ∙ filled_symbol t ps) (λ h. filled_symbol t ps)

  pub filled_own : (t : Table) (p : ℕ) (ps : List ℕ) → symbol_at ts p ≡ t.symbol → filled ts gs t (p ∷ ps) ≡ with_place ts gs p (filled ts gs t ps)
  filled_own t p ps h = cond-true (nat_eq (symbol_at ts p) t.symbol) (with_place ts gs p (filled ts gs t ps)) (filled ts gs t ps) (eq-eqb (symbol_at ts p) t.symbol h)

  pub filled_other : (t : Table) (p : ℕ) (ps : List ℕ) → symbol_at ts p ≢ t.symbol → filled ts gs t (p ∷ ps) ≡ filled ts gs t ps
  filled_other t p ps h = cond-false (nat_eq (symbol_at ts p) t.symbol) (with_place ts gs p (filled ts gs t ps)) (filled ts gs t ps) (ne_eqb (symbol_at ts p) t.symbol h)

  filled_skip : (t : Table) (ps : List ℕ) (link m : ℕ) → link ≤ m → m ≤ length ps → ((k : ℕ) → link ≤ k → k < m → get_or (map (symbol_at ts) ps) k 0 ≢ t.symbol)
      → filled ts gs t (drop link ps) ≡ filled ts gs t (drop m ps)
  filled_skip t [] zero zero order short others = refl
  filled_skip t [] zero (suc m) order short others = absurd (omega arith)
  filled_skip t [] (suc l) zero order short others = absurd (omega arith)
  filled_skip t [] (suc l) (suc m) order short others = absurd (omega arith)
  filled_skip t (p ∷ ps) zero zero order short others = refl
  filled_skip t (p ∷ ps) zero (suc m) order short others =
      filled_other t p ps (others 0 (omega arith) (omega arith)) ∙ filled_skip t ps zero m (omega arith) (omega arith) (λ k above below. others (suc k) (omega arith) (omega arith))
  filled_skip t (p ∷ ps) (suc l) zero order short others = absurd (omega arith)
  filled_skip t (p ∷ ps) (suc l) (suc m) order short others =
      filled_skip t ps l m (omega arith) (omega arith) (λ k above below. others (suc k) (omega arith) (omega arith))

  filled_at : (t : Table) (ps : List ℕ) (j : ℕ) → j < length ps → symbol_at ts (get_or ps j 0) ≡ t.symbol
      → filled ts gs t (drop j ps) ≡ with_place ts gs (get_or ps j 0) (filled ts gs t (drop (suc j) ps))
  filled_at t [] j h e = absurd (omega arith)
  filled_at t (p ∷ ps) zero h e = filled_own t p ps e
  filled_at t (p ∷ ps) (suc j) h e = filled_at t ps j (omega arith) e

  -- ---- the walk over the applications of one symbol, from the last

  pub record IsFilled (t : Table) (ps symbols : List ℕ) (table : Table) (link : ℕ) : Type 0 where
    pub is_link : IsLink symbols t.symbol link
    pub so_far : table ≡ filled ts gs t (drop link ps)

  drop_all : (ps : List ℕ) → drop (length ps) ps ≡ []
  drop_all [] = refl
  drop_all (p ∷ ps) = drop_all ps

  module _ (t : Table) (ps symbols : List ℕ) (named : symbols ≡ map (symbol_at ts) ps) where
    length-symbols : length symbols ≡ length ps
    length-symbols = ap length named ∙ length-map ps (symbol_at ts)

    others_here : (link m : ℕ) → Goes symbols t.symbol m link → (k : ℕ) → link ≤ k → k < m → get_or (map (symbol_at ts) ps) k 0 ≢ t.symbol
    others_here link m g k above below = subst (λ xs. get_or xs k 0 ≢ t.symbol) named (g.others k above below)

    pub filled_start : (link : ℕ) → link ≡ last_place symbols t.symbol (length symbols) → IsFilled t ps symbols t link
    filled_start link e =
        let g = goes symbols t.symbol (length symbols) link (omega arith) e in
        let down = g.down in
        record {
          is_link = g.is_link;
          so_far = sym (
              filled_skip t ps link (length symbols) down (omega (arith, length-symbols)) (others_here link (length symbols) g)
              ∙ ap (λ n. filled ts gs t (drop n ps)) length-symbols ∙ ap (filled ts gs t) (drop_all ps));
        }

    pub filled_on : (table table' : Table) (link next : ℕ) → IsFilled t ps symbols table link → 0 < link → next ≡ last_place symbols (get_or symbols (link - 1) 0) (link - 1)
        → table' ≡ with_place ts gs (get_or ps (link - 1) 0) table → IsFilled t ps symbols table' next × (next < link)
    filled_on table table' link next f some e put =
        let g = goes_on symbols t.symbol link next f.is_link some e in
        let down = g.down in
        let within = f.is_link.within in
        let top : suc (link - 1) ≡ link = omega arith in
        let short : link - 1 < length ps = omega (arith, length-symbols) in
        let own : symbol_at ts (get_or ps (link - 1) 0) ≡ t.symbol =
        sym (get_or-map (symbol_at ts) ps (link - 1) 0 0 short) ∙ ap (λ xs. get_or xs (link - 1) 0) (sym named) ∙ hash_there symbols t.symbol link (link - 1) f.is_link (sym top) in (
          record {
            is_link = g.is_link;
            so_far = put ∙ ap (with_place ts gs (get_or ps (link - 1) 0)) (f.so_far ∙ ap (λ n. filled ts gs t (drop n ps)) (sym top))
                ∙ sym (filled_at t ps (link - 1) short own) ∙ sym (filled_skip t ps next (link - 1) down (omega arith) (others_here next (link - 1) g));
          },
          omega arith,
        )

    pub filled_end : (table : Table) (link : ℕ) → IsFilled t ps symbols table link → link ≤ 0 → table ≡ filled ts gs t ps
    filled_end table link f none = let e : link ≡ 0 = omega arith in f.so_far ∙ ap (λ n. filled ts gs t (drop n ps)) e

  tables_of-push : (ps : List ℕ) (ds : List Declaration) (d : Declaration)
      → tables_of ts gs ps (ds ++ d ∷ []) ≡ (if is_symbol d then tables_of ts gs ps ds ++ table_of ts gs ps d ∷ [] else tables_of ts gs ps ds)
  tables_of-push ps [] d = refl
  tables_of-push ps (e ∷ ds) d = by (is_symbol e) (is_symbol d) (tables_of-push ps ds d)
    where
      by : (b c : Bool) → tables_of ts gs ps (ds ++ d ∷ []) ≡ (if c then tables_of ts gs ps ds ++ table_of ts gs ps d ∷ [] else tables_of ts gs ps ds)
          → (if b then table_of ts gs ps e ∷ tables_of ts gs ps (ds ++ d ∷ []) else tables_of ts gs ps (ds ++ d ∷ []))
          ≡ (if c then (if b then table_of ts gs ps e ∷ tables_of ts gs ps ds else tables_of ts gs ps ds) ++ table_of ts gs ps d ∷ []
          else (if b then table_of ts gs ps e ∷ tables_of ts gs ps ds else tables_of ts gs ps ds))
      by true true h = ap (λ xs. table_of ts gs ps e ∷ xs) h
      by true false h = ap (λ xs. table_of ts gs ps e ∷ xs) h
      by false true h = h
      by false false h = h

  -- one declaration more
  pub tables_more : (ps : List ℕ) (ds : List Declaration) (i : ℕ) (d : Declaration) → i < length ds → d ≡ get_or ds i d
      → tables_of ts gs ps (take (i + 1) ds) ≡ (if is_symbol d then tables_of ts gs ps (take i ds) ++ table_of ts gs ps d ∷ [] else tables_of ts gs ps (take i ds))
  tables_more ps ds i d h e =
      ap (tables_of ts gs ps) (take_more ds i d h ∙ ap (λ (x : Declaration). take i ds ++ x ∷ []) (sym e)) ∙ tables_of-push ps (take i ds) d

  -- ---- what the rows are

  -- a row is that of one of these applications, which is of this symbol and has a row
  pub record IsRowOf (f : ℕ) (ps : List ℕ) (r : Row) : Type 0 where
    pub place : ℕ
    pub member : Contains ps place
    pub symbol : symbol_at ts place ≡ f
    pub plain : has_row (arguments_given ts gs place) ≡ true
    pub same : r ≡ row_at ts gs place

  later : (f p : ℕ) (ps : List ℕ) (r : Row) → IsRowOf f ps r → IsRowOf f (p ∷ ps) r
  later f p ps r o = record { place = o.place; member = in_rest p o.place ps o.member; symbol = o.symbol; plain = o.plain; same = o.same }

  all_later : (f p : ℕ) (ps : List ℕ) (rs : List Row) → All (IsRowOf f ps) rs → All (IsRowOf f (p ∷ ps)) rs
  all_later f p ps rs all = All-weaker (IsRowOf f ps) (IsRowOf f (p ∷ ps)) (later f p ps) rs all

  rows_more : (t : Table) (p : ℕ) (ps : List ℕ) → All (IsRowOf t.symbol (p ∷ ps)) (filled ts gs t ps).rows → All (IsRowOf t.symbol (p ∷ ps)) (filled ts gs t (p ∷ ps)).rows
  rows_more t p ps rest =
      on_bool Goal (nat_eq (symbol_at ts p) t.symbol) (with_place ts gs p (filled ts gs t ps)) (filled ts gs t ps)
      (λ own. on_bool Goal (has_row (arguments_given ts gs p)) (record (filled ts gs t ps) { rows = (filled ts gs t ps).rows ++ row_at ts gs p ∷ [] })
      (record (filled ts gs t ps) { default = value_of (given_at gs p) })
      (λ plain. All-push (IsRowOf t.symbol (p ∷ ps)) (filled ts gs t ps).rows (row_at ts gs p) rest
      (record { place = p; member = in_first p ps; symbol = eqb-true (symbol_at ts p) t.symbol own; plain = plain; same = refl }))
      (λ other. rest))
      (λ other. rest)
    where
      Goal : Table → Type 0
      Goal u = All (IsRowOf t.symbol (p ∷ ps)) u.rows

  pub rows_of : (t : Table) (ps : List ℕ) → t.rows ≡ [] → All (IsRowOf t.symbol ps) (filled ts gs t ps).rows
  rows_of t [] empty = subst (λ rs. All (IsRowOf t.symbol []) rs) (sym empty) (All-nil (IsRowOf t.symbol []))
  rows_of t (p ∷ ps) empty = rows_more t p ps (all_later t.symbol p ps (filled ts gs t ps).rows (rows_of t ps empty))

  -- a row once there stays
  kept_row : (t : Table) (p : ℕ) (ps : List ℕ) (r : Row) → Contains (filled ts gs t ps).rows r → Contains (filled ts gs t (p ∷ ps)).rows r
  kept_row t p ps r m =
      on_bool (λ (u : Table). Contains u.rows r) (nat_eq (symbol_at ts p) t.symbol) (with_place ts gs p (filled ts gs t ps)) (filled ts gs t ps)
      (λ own. on_bool (λ (u : Table). Contains u.rows r) (has_row (arguments_given ts gs p))
      (record (filled ts gs t ps) { rows = (filled ts gs t ps).rows ++ row_at ts gs p ∷ [] }) (record (filled ts gs t ps) { default = value_of (given_at gs p) })
      (λ plain. Contains-append_left (filled ts gs t ps).rows (row_at ts gs p ∷ []) r m) (λ other. m))
      (λ other. m)

  -- each application of the symbol that has a row has it
  pub has_its_row : (t : Table) (ps : List ℕ) (q : ℕ) → Contains ps q → symbol_at ts q ≡ t.symbol → has_row (arguments_given ts gs q) ≡ true → Contains (filled ts gs t ps).rows (row_at ts gs q)
  has_its_row t [] q (k, h, e) symbol plain = absurd (omega arith)
  has_its_row t (p ∷ ps) q m symbol plain = by (member_cases p q ps m) (λ rest. has_its_row t ps q rest symbol plain)
    where
      by : (p ≡ q) ⊎ Contains ps q → (Contains ps q → Contains (filled ts gs t ps).rows (row_at ts gs q)) → Contains (filled ts gs t (p ∷ ps)).rows (row_at ts gs q)
      by (inr rest) later' = kept_row t p ps (row_at ts gs q) (later' rest)
      by (inl e) later' =
          subst (λ (u : Table). Contains u.rows (row_at ts gs q))
          (sym (filled_own t p ps (ap (symbol_at ts) e ∙ symbol)
          ∙ cond-true (has_row (arguments_given ts gs p)) (record (filled ts gs t ps) { rows = (filled ts gs t ps).rows ++ row_at ts gs p ∷ [] })
          (record (filled ts gs t ps) { default = value_of (given_at gs p) }) (ap (λ n. has_row (arguments_given ts gs n)) e ∙ plain)))
          (subst (λ n. Contains ((filled ts gs t ps).rows ++ row_at ts gs n ∷ []) (row_at ts gs q)) (sym e) (Contains-push (filled ts gs t ps).rows (row_at ts gs q)))

  -- ---- what the default is

  -- it is that of an application of the symbol without a row
  pub record IsDefaultOf (f : ℕ) (ps : List ℕ) (v : Value) : Type 0 where
    pub place : ℕ
    pub member : Contains ps place
    pub symbol : symbol_at ts place ≡ f
    pub rowless : has_row (arguments_given ts gs place) ≡ false
    pub same : v ≡ value_of (given_at gs place)

  -- or the one before, where each application of the symbol has a row
  pub record IsUntouched (t : Table) (ps : List ℕ) (v : Value) : Type 0 where
    pub same : v ≡ t.default
    pub plain : (q : ℕ) → Contains ps q → symbol_at ts q ≡ t.symbol → has_row (arguments_given ts gs q) ≡ true

  default_later : (t : Table) (p : ℕ) (ps : List ℕ) (v : Value) → (symbol_at ts p ≡ t.symbol → has_row (arguments_given ts gs p) ≡ true)
      → IsDefaultOf t.symbol ps v ⊎ IsUntouched t ps v → IsDefaultOf t.symbol (p ∷ ps) v ⊎ IsUntouched t (p ∷ ps) v
  default_later t p ps v here (inl d) = inl (record { place = d.place; member = in_rest p d.place ps d.member; symbol = d.symbol; rowless = d.rowless; same = d.same })
  default_later t p ps v here (inr u) = inr (record { same = u.same; plain = λ q m symbol. by q symbol (member_cases p q ps m) })
    where
      by : (q : ℕ) → symbol_at ts q ≡ t.symbol → (p ≡ q) ⊎ Contains ps q → has_row (arguments_given ts gs q) ≡ true
      by q symbol (inl e) = ap (λ n. has_row (arguments_given ts gs n)) (sym e) ∙ here (ap (symbol_at ts) e ∙ symbol)
      by q symbol (inr m) = u.plain q m symbol

  pub default_is : (t : Table) (ps : List ℕ) → IsDefaultOf t.symbol ps (filled ts gs t ps).default ⊎ IsUntouched t ps (filled ts gs t ps).default
  default_is t [] = inr (record { same = refl; plain = λ q m symbol. absurd (let h = m.1 in omega arith) })
  default_is t (p ∷ ps) =
      on_bool Goal (nat_eq (symbol_at ts p) t.symbol) (with_place ts gs p (filled ts gs t ps)) (filled ts gs t ps)
      (λ own. on_bool Goal (has_row (arguments_given ts gs p)) (record (filled ts gs t ps) { rows = (filled ts gs t ps).rows ++ row_at ts gs p ∷ [] })
      (record (filled ts gs t ps) { default = value_of (given_at gs p) })
      (λ plain. default_later t p ps (filled ts gs t ps).default (λ e. plain) (default_is t ps))
      (λ rowless. inl (record { place = p; member = in_first p ps; symbol = eqb-true (symbol_at ts p) t.symbol own; rowless = rowless; same = refl })))
      (λ other. default_later t p ps (filled ts gs t ps).default (λ e. absurd (let h : true ≡ false = sym (eq-eqb (symbol_at ts p) t.symbol e) ∙ other in cc)) (default_is t ps))
    where
      Goal : Table → Type 0
      Goal u = IsDefaultOf t.symbol (p ∷ ps) u.default ⊎ IsUntouched t (p ∷ ps) u.default

  -- ---- no two rows have equal arguments

  abbrev pub AreApart : List ℕ → Type 0
  AreApart ps =
      AllPairs (λ p q. (row_at ts gs p).arguments ≡ (row_at ts gs q).arguments → symbol_at ts p ≡ symbol_at ts q → has_row (arguments_given ts gs p) ≡ true
      → has_row (arguments_given ts gs q) ≡ true → ⊥) ps

  apart_more : (t : Table) (p : ℕ) (ps : List ℕ) → All (IsRowOf t.symbol ps) (filled ts gs t ps).rows → AllPairs (λ (r s : Row). r.arguments ≢ s.arguments) (filled ts gs t ps).rows
      → AreApart (p ∷ ps) → AllPairs (λ (r s : Row). r.arguments ≢ s.arguments) (filled ts gs t (p ∷ ps)).rows
  apart_more t p ps rows rest apart =
      on_bool Goal (nat_eq (symbol_at ts p) t.symbol) (with_place ts gs p (filled ts gs t ps)) (filled ts gs t ps)
      (λ own. on_bool Goal (has_row (arguments_given ts gs p)) (record (filled ts gs t ps) { rows = (filled ts gs t ps).rows ++ row_at ts gs p ∷ [] })
      (record (filled ts gs t ps) { default = value_of (given_at gs p) })
      (λ plain. all_pairs_push (λ (r s : Row). r.arguments ≢ s.arguments) (filled ts gs t ps).rows (row_at ts gs p) rest (λ k d h. new own plain (get_or (filled ts gs t ps).rows k d) (rows k d h)))
      (λ rowless. rest))
      (λ other. rest)
    where
      Goal : Table → Type 0
      Goal u = AllPairs (λ (r s : Row). r.arguments ≢ s.arguments) u.rows

      new : nat_eq (symbol_at ts p) t.symbol ≡ true → has_row (arguments_given ts gs p) ≡ true → (r : Row) → IsRowOf t.symbol ps r → r.arguments ≢ (row_at ts gs p).arguments
      new own plain r o e =
          let short : suc o.member.0 < length (p ∷ ps) = (let h = o.member.1 in omega arith) in
          apart 0 (suc o.member.0) o.place (omega arith) short
          (sym e ∙ ap (λ (x : Row). x.arguments) o.same ∙ ap (λ n. (row_at ts gs n).arguments) (sym o.member.2))
          (eqb-true (symbol_at ts p) t.symbol own ∙ sym o.symbol ∙ ap (symbol_at ts) (sym o.member.2))
          plain (ap (λ n. has_row (arguments_given ts gs n)) o.member.2 ∙ o.plain)

  pub rows_apart : (t : Table) (ps : List ℕ) → t.rows ≡ [] → AreApart ps → AllPairs (λ (r s : Row). r.arguments ≢ s.arguments) (filled ts gs t ps).rows
  rows_apart t [] empty apart = subst (λ rs. AllPairs (λ (r s : Row). r.arguments ≢ s.arguments) rs) (sym empty) (λ i j d h g. absurd (omega arith))
  rows_apart t (p ∷ ps) empty apart = apart_more t p ps (rows_of t ps empty) (rows_apart t ps empty (λ i j d h g. apart (suc i) (suc j) d (omega arith) (omega arith))) apart
