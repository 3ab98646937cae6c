-- The sums that variables stand for, from state to state.
use Rattle.std.proofs.Common.{◌≡◌, ◌≢◌, ℕ, ◌<◌, ◌⊎◌, inl, inr, List, [], ◌∷◌, ◌++◌, length, get_or, ℤ, pos, refl, sym, ap, ◌∙◌, subst, arith}
use Rattle.std.specs.Prelude.{All, Contains}
use Rattle.std.proofs.lemmas.Bool.{cases_lt}
use Rattle.std.proofs.lemmas.List.{length_push, length-map, get_or-map, get_or_default, get_or_append_left, get_or_push}
use Rattle.std.proofs.lemmas.List.Elements.{All-weaker, Contains-get_or, Contains-append_left, Contains-push}
use Rattle.fraction128.specs.declared.Column.{Column}
use Rattle.fraction128.specs.declared.Summand.{Summand as GridSummand}
use Rattle.fraction128.specs.Grid.{leaf, turned}
use Rattle.smt_meaning.specs.declared.clauses.Summand.{Summand}
use Rattle.smt_meaning.specs.declared.clauses.Atom.{Atom}
use Rattle.smt_meaning.specs.declared.clauses.Atom.TheVariants.{AtMost}
use Rattle.smt_meaning.specs.Linear.{summand}
use Rattle.smt_meaning.specs.Boxes.{term_at_most}
use Rattle.simplex_steps.specs.State.{column_in, no_column, KeepsBounds}
use Rattle.simplex.specs.State.{KeepsValues}
use Rattle.sum_bounds.specs.Bounds as Bounds
use Rattle.sum_bounds.specs.Bounds.{sums, with_leaf, with_sum}
use Rattle.sum_bounds.specs.Clauses.{plain}
use Rattle.bound_log.specs.Told.{State}
use Rattle.bound_log.specs.Columns.{IsLeafOf, IsSumOf, IsColumnOf, KeepsColumns, AddsColumns, IsLeafIn, IsPartIn, AddsSums}

-- ---- variables more

pub adds_same : (P : List GridSummand → Type 0) (s u : Bounds.State) → u ≡ s → AddsSums P s u
adds_same P s u e = subst (AddsSums P s) (sym e) (λ i lt. inl (lt, refl))

pub adds_self : (P : List GridSummand → Type 0) (s : Bounds.State) → AddsSums P s s
adds_self P s = adds_same P s s refl

pub adds_weaker : (P Q : List GridSummand → Type 0) (s u : Bounds.State) → ((ps : List GridSummand) → P ps → Q ps) → AddsSums P s u → AddsSums Q s u
adds_weaker P Q s u f h i lt = elim (h i lt) [ inl w ↦ inl w | inr p ↦ inr (f (sums u i) p) ]

pub adds_through : (P : List GridSummand → Type 0) (s t u : Bounds.State) → AddsSums P s t → AddsSums P t u → AddsSums P s u
adds_through P s t u g h i lt = elim (h i lt) [
  | inr p ↦ inr p
  | inl w ↦ elim (g i w.0) [
    | inl v ↦ inl (v.0, w.1 ∙ v.1)
    | inr p ↦ inr (subst P (sym w.1) p)
  ]
]

-- a column more
more : (P : List GridSummand → Type 0) (s u : Bounds.State) (c : Column) → u.columns ≡ s.columns ++ c ∷ [] → P c.sum → AddsSums P s u
more P s u c e p i lt = elim (cases_lt i (length s.columns)) [
  | inl before ↦ inl (before, ap (λ cs. (column_in cs i).sum) e ∙ ap (λ (d : Column). d.sum) (get_or_append_left s.columns (c ∷ []) no_column i before))
  | inr past ↦
      let last : length s.columns ≡ i = omega (arith, lt, ap length e, length_push s.columns c) in
      inr (subst P (sym (ap (λ cs. (column_in cs i).sum) e ∙ ap (λ (d : Column). d.sum) (get_or_push s.columns c no_column i last))) p)
]

pub adds_leaf : (P : List GridSummand → Type 0) (s u : Bounds.State) (term : ℕ) → P (leaf term) → (u ≡ s) ⊎ (u ≡ with_leaf s term) → AddsSums P s u
adds_leaf P s u term p (inl e) = adds_same P s u e
adds_leaf P s u term p (inr e) = more P s u _ (ap (λ (t : Bounds.State). t.columns) e) p

pub adds_sum : (P : List GridSummand → Type 0) (s u : Bounds.State) (ps : List GridSummand) → P ps → (u ≡ s) ⊎ (u ≡ with_sum s ps) → AddsSums P s u
adds_sum P s u ps p (inl e) = adds_same P s u e
adds_sum P s u ps p (inr e) = more P s u _ (ap (λ (t : Bounds.State). t.columns) e) p

-- the term of a sum's summand
pub leaf_added : (ps : List GridSummand) (i : ℕ) (d : GridSummand) (s u : Bounds.State) → i < length ps → AddsSums (λ qs. qs ≡ leaf (get_or ps i d).term) s u → AddsSums (IsLeafIn ps) s u
leaf_added ps i d s u lt = adds_weaker (λ qs. qs ≡ leaf (get_or ps i d).term) (IsLeafIn ps) s u (λ qs e. (get_or ps i d, Contains-get_or ps i d lt, e))

pub adds_leaves : (ps : List GridSummand) (s u : Bounds.State) → AddsSums (IsLeafIn ps) s u → AddsSums (IsPartIn ps) s u
adds_leaves ps s u = adds_weaker (IsLeafIn ps) (IsPartIn ps) s u (λ qs h. inl h)

pub as_part : (ps : List GridSummand) → IsPartIn ps (turned ps)
as_part ps = inr refl

-- ---- the atoms of a table

more_atoms : (table : List Atom) (a : Atom) (c : Column) → IsColumnOf table c → IsColumnOf (table ++ a ∷ []) c
more_atoms table a c (inl h) = inl (record { terms = h.terms; most = h.most; part = h.part; atom = Contains-append_left table (a ∷ []) (AtMost h.terms h.most) h.atom; among = h.among; sum_is = h.sum_is })
more_atoms table a c (inr h) = inr (record { terms = h.terms; most = h.most; atom = Contains-append_left table (a ∷ []) (AtMost h.terms h.most) h.atom; filled = h.filled; sum_is = h.sum_is })

plain_one : Summand → GridSummand
plain_one p = record { coefficient = p.coefficient; term = p.term }

-- a term of the plain sum is one of the sum
of_plain : (ps : List Summand) (q : GridSummand) → Contains (plain ps) q → (p : Summand) × Contains ps p × (q.term ≡ p.term)
of_plain ps q (k, lt, e) =
    let d : Summand = record { coefficient = pos 0; term = 0 } in
    let short : k < length ps = omega (arith, lt, length-map ps (λ (p : Summand). let r : GridSummand = record { coefficient = p.coefficient; term = p.term } in r)) in (
      get_or ps k d,
      Contains-get_or ps k d short,
      ap (λ (x : GridSummand). x.term) (sym e ∙ get_or-map (λ (p : Summand). let r : GridSummand = record { coefficient = p.coefficient; term = p.term } in r) ps k d q short),
    )

pub not_empty : (ps : List Summand) → 0 < length ps → ps ≢ []
not_empty ps lt e = absurd (omega (arith, lt, ap (length {A = Summand}) e))

part_of : (table : List Atom) (ps : List Summand) (k : ℤ) (c : Column) → ps ≢ [] → IsPartIn (plain ps) c.sum → IsColumnOf (table ++ AtMost ps k ∷ []) c
part_of table ps k c some (inl (q, among, e)) =
    let p = of_plain ps q among in
    inl (record { terms = ps; most = k; part = p.0; atom = Contains-push table (AtMost ps k); among = p.1; sum_is = e ∙ ap leaf p.2 })
part_of table ps k c some (inr e) = inr (record { terms = ps; most = k; atom = Contains-push table (AtMost ps k); filled = some; sum_is = e })

-- a column is told by its sum
by_sum : (table : List Atom) (c d : Column) → d.sum ≡ c.sum → IsColumnOf table c → IsColumnOf table d
by_sum table c d e h = subst (λ ps. IsLeafOf table ps ⊎ IsSumOf table ps) (sym e) h

pub columns_more : (s u : State) (ps : List Summand) (k : ℤ) → ps ≢ [] → AddsSums (IsPartIn (plain ps)) s.bounds u.bounds → AddsColumns s (AtMost ps k) u
columns_more s u ps k some adds table h i d lt =
    subst (IsColumnOf (table ++ AtMost ps k ∷ [])) (get_or_default u.bounds.columns i no_column d lt)
    (elim (adds i lt) [
      | inl w ↦
          by_sum (table ++ AtMost ps k ∷ []) (column_in s.bounds.columns i) (column_in u.bounds.columns i) w.1
          (more_atoms table (AtMost ps k) (column_in s.bounds.columns i) (h i no_column w.0))
      | inr p ↦ part_of table ps k (column_in u.bounds.columns i) some p
    ])

-- a term alone more, as an atom on it has
pub columns_leaf : (s u : State) (term : ℕ) (k : ℤ) → AddsSums (λ qs. qs ≡ leaf term) s.bounds u.bounds → AddsColumns s (term_at_most term k) u
columns_leaf s u term k adds =
    columns_more s u (summand term (pos 1) ∷ []) k (λ e. cc) (adds_weaker (λ qs. qs ≡ leaf term) (IsPartIn (plain (summand term (pos 1) ∷ []))) s.bounds u.bounds (λ qs e. inr e) adds)

-- where columns stay, also under an atom more
pub columns_other : (s u : State) (a : Atom) → u.bounds ≡ s.bounds → AddsColumns s a u
columns_other s u a e table h =
    subst (λ (b : Bounds.State). All (IsColumnOf (table ++ a ∷ [])) b.columns) (sym e)
    (All-weaker (IsColumnOf table) (IsColumnOf (table ++ a ∷ [])) (λ c w. more_atoms table a c w) s.bounds.columns h)

-- ---- variables that keep their sums

columns_kept : (s u : State) → length u.bounds.columns ≡ length s.bounds.columns → ((i : ℕ) → sums u.bounds i ≡ sums s.bounds i) → KeepsColumns s u
columns_kept s u count same table h i d lt =
    subst (IsColumnOf table) (get_or_default u.bounds.columns i no_column d lt)
    (by_sum table (column_in s.bounds.columns i) (column_in u.bounds.columns i) (same i) (h i no_column (omega (arith, lt, count))))

pub columns_by_values : (s u : State) → KeepsValues s.bounds.columns u.bounds.columns → KeepsColumns s u
columns_by_values s u keeps = columns_kept s u keeps.count (λ i. (keeps.each i).sum)

pub columns_by_bounds : (s u : State) → KeepsBounds s.bounds.columns u.bounds.columns → KeepsColumns s u
columns_by_bounds s u keeps = columns_kept s u keeps.count (λ i. (keeps.each i).sum)
