-- Rows over whole numbers, and clauses of their fixed variables.
use Rattle.std.proofs.Common.{◌≡◌, ℕ, zero, suc, ◌+◌, ◌*◌, ◌<◌, ◌≤◌, false, List, [], ◌∷◌, ◌++◌, map, take, drop, drop-cons, add-one, length, get_or, ℤ, pos, negsuc, ◌+ℤ◌, ◌*ℤ◌, neg_ℤ, Option, Some, None, sym, ap, ap₂, subst, ◌∙◌, refl, arith}
use Rattle.std.specs.Prelude.{All, Contains, IfSome}
use Rattle.std.proofs.lemmas.Int.{ints}
use Rattle.std.proofs.Math.IntN.{zero-*ℤ}
use Rattle.std.proofs.lemmas.List.{drop_all, take_all}
use Rattle.std.proofs.lemmas.List.Elements.{All-contains, All-more, All-push, All-weaker, Contains-append_left, Contains-push}
use Rattle.fraction128.specs.declared.ratio.Ratio.{Ratio}
use Rattle.fraction128.specs.Number.{whole, is_less, SameNumber, unreduced_sum, unreduced_product}
use Rattle.fraction128.proofs.LowestTerms.{pos_times}
use Rattle.fraction128.proofs.RingEquations.{var, sum, product, minus, unit, solve}
use Rattle.fraction128.proofs.WholeNumbers.{wholes as ring}
use Rattle.fraction128.specs.declared.Entry.{Entry}
use Rattle.fraction128.specs.declared.TableRow.{TableRow}
use Rattle.fraction128.specs.declared.Column.{Column}
use Rattle.fraction128.specs.declared.Bound.{Bound}
use Rattle.fraction128.specs.Grid.{MeetsRow, row_value}
use Rattle.sum_bounds.specs.Progressions.{State as Progression, Has, MayBe}
use Rattle.literals.specs.Signed.{Signed}
use Rattle.tableau.specs.Table.{AreNonzero, row_at, no_row}
use Rattle.simplex_steps.specs.State.{column_in}
use Rattle.simplex_steps.specs.Conflict.{Stands, MeetsBound}
use Rattle.simplex.specs.Sums.{column_values}
use Rattle.simplex.specs.State as Simplex
use Rattle.simplex.specs.State.{FixedAt, tag_in}
use Rattle.sum_bounds.specs.Bounds.{told_of}
use Rattle.sum_bounds.specs.Complements.{IsClauseOf}
use Rattle.sum_bounds.specs.Wholes.{wholes, Keeps, HasSums, HasDifferences, LacksWholes, lower_at, upper_at, HasBoth, AddsBoth, AreBounds, IsWholeConflict}
use Rattle.sum_bounds.proofs.ClauseLaws.{whole_sum, sum_is_whole}
use Rattle.sum_bounds.proofs.Conflicts.{told_in, told_clause, told_met}

-- ---- where the values of entries lie

abbrev pub AddsPart : Ratio → Option ℤ → Progression → Progression → Type 0
AddsPart a o p q = (z : ℤ) (x : Ratio) → MayBe o z → Has p x → Has q (unreduced_sum (unreduced_product a (whole z)) x)

may_be : (cs : List Column) (z : ℕ → ℤ) (i : ℕ) (o : Option ℤ) → IfSome o (FixedAt (column_in cs i)) → Keeps cs z i → MayBe o (z i)
may_be cs z i None h keep = tt
may_be cs z i (Some k) h keep = keep k h

pub sums_none : (cs : List Column) (es : List Entry) (n : ℕ) (p : Progression) → n ≡ length es → Has p (whole (pos 0)) → HasSums cs (drop n es) p
sums_none cs es n p e h = subst (λ xs. HasSums cs xs p) (sym (drop_all n es (omega (arith, e)))) (λ z keep. h)

sums_put : (cs : List Column) (e : Entry) (es : List Entry) (o : Option ℤ) (p q : Progression) → IfSome o (FixedAt (column_in cs e.variable)) → AddsPart e.coefficient o p q → HasSums cs es p → HasSums cs (e ∷ es) q
sums_put cs e es o p q fixed adds has z keep =
    adds (z e.variable) (row_value (wholes z) es) (may_be cs z e.variable o fixed (keep zero e (omega arith))) (has z (λ k d lt. keep (suc k) d (omega (arith, lt))))

drop_entry : (es : List Entry) (k : ℕ) (d : Entry) → k < length es → drop k es ≡ get_or es k d ∷ drop (k + 1) es
drop_entry es k d lt = rw add-one (drop-cons es k d lt)

pub sums_more : (cs : List Column) (es : List Entry) (n m : ℕ) (d : Entry) (o : Option ℤ) (p q : Progression) → m < length es → n ≡ m + 1 → IfSome o (FixedAt (column_in cs (get_or es m d).variable))
    → AddsPart (get_or es m d).coefficient o p q → HasSums cs (drop n es) p → HasSums cs (drop m es) q
sums_more cs es n m d o p q lt e fixed adds has =
    subst (λ xs. HasSums cs xs q) (sym (drop_entry es m d lt))
    (sums_put cs (get_or es m d) (drop (m + 1) es) o p q fixed adds (subst (λ k. HasSums cs (drop k es) p) e has))

pub sums_all : (cs : List Column) (es : List Entry) (n : ℕ) (p : Progression) → n ≡ 0 → HasSums cs (drop n es) p → HasSums cs es p
sums_all cs es n p e h = subst (λ k. HasSums cs (drop k es) p) e h

pub differences : (cs : List Column) (r : TableRow) (b : ℕ) (es : List Entry) (a : Ratio) (o : Option ℤ) (p : Progression) → b ≡ r.basic → es ≡ r.entries → a ≡ whole (negsuc 0)
    → IfSome o (FixedAt (column_in cs b)) → HasSums cs es p → (q : Option Progression) → IfSome q (AddsPart a o p) → IfSome q (HasDifferences cs r)
differences cs r b es a o p eb ee ea fixed has None h = tt
differences cs r b es a o p eb ee ea fixed has (Some q) h =
    λ z keep each.
    subst (λ (x : Ratio). AddsPart x o p q) ea h (z r.basic) (row_value (wholes z) r.entries)
    (may_be cs z r.basic o (subst (λ i. IfSome o (FixedAt (column_in cs i))) eb fixed) keep)
    (subst (λ xs. HasSums cs xs p) ee has z each)

-- ---- rows that no whole numbers meet

row_positive : (v : ℕ → Ratio) (es : List Entry) → AreNonzero es → ((i : ℕ) → 0 < (v i).denominator) → 0 < (row_value v es).denominator
row_positive v [] h f = omega arith
row_positive v (e ∷ es) h f =
    pos_times (e.coefficient.denominator * (v e.variable).denominator) (row_value v es).denominator (pos_times e.coefficient.denominator (v e.variable).denominator h.0.0 (f e.variable)) (row_positive v es h.1 f)

pub lacks : (cs : List Column) (r : TableRow) (p : Progression) → AreNonzero r.entries → HasDifferences cs r p
    → ((x : Ratio) → 0 < x.denominator → SameNumber x (whole (pos 0)) → Has p x → ⊥) → LacksWholes cs r
lacks cs r p nonzero has none z keep each meets =
    let x = row_value (wholes z) r.entries in
    let above : 0 < x.denominator = row_positive (wholes z) r.entries nonzero (λ i. omega arith) in
    let met : z r.basic *ℤ pos x.denominator ≡ x.numerator *ℤ pos 1 = meets in
    none (unreduced_sum (unreduced_product (whole (negsuc 0)) (wholes z r.basic)) x) (pos_times (1 * 1) x.denominator (omega arith) above)
    (solve ring (z r.basic ∷ pos x.denominator ∷ x.numerator ∷ []) (product (sum (product (product (minus unit) (var 0)) (var 1)) (product (var 2) unit)) unit) (sum (minus (product (var 0) (var 1))) (product (var 2) unit)) refl
    ∙ ap (λ y. neg_ℤ y +ℤ x.numerator *ℤ pos 1) met
    ∙ opposite (x.numerator *ℤ pos 1)
    ∙ sym (zero-*ℤ (pos (1 * 1 * x.denominator))))
    (has z keep each)
  where
    opposite : (a : ℤ) → neg_ℤ a +ℤ a ≡ pos 0
    opposite a = omega (arith, ints)

-- ---- bounds of fixed variables

pub bounds_put : (cs : List Column) (i : ℕ) (k : ℤ) (before now : List Bound) → i < length cs → FixedAt (column_in cs i) k → now ≡ (before ++ lower_at i k ∷ []) ++ upper_at i k ∷ [] → AddsBoth cs i before now
bounds_put cs i k before now lt fixed e =
    subst (AddsBoth cs i before) (sym e) (record {
      keeps = λ b h. Contains-append_left (before ++ lower_at i k ∷ []) (upper_at i k ∷ []) b (Contains-append_left before (lower_at i k ∷ []) b h);
      stand = λ h. All-push (Stands cs) (before ++ lower_at i k ∷ []) (upper_at i k) (All-push (Stands cs) before (lower_at i k) h (lt, fixed.0)) (lt, fixed.1);
      has = λ n f.
          let same : k ≡ n = some_is k n (sym fixed.0 ∙ f.0) in
          subst (λ m. Contains ((before ++ lower_at i k ∷ []) ++ upper_at i k ∷ []) (lower_at i m) × Contains ((before ++ lower_at i k ∷ []) ++ upper_at i k ∷ []) (upper_at i m)) same
          (Contains-append_left (before ++ lower_at i k ∷ []) (upper_at i k ∷ []) (lower_at i k) (Contains-push before (lower_at i k)), Contains-push (before ++ lower_at i k ∷ []) (upper_at i k));
    })
  where
    some_is : (a b : ℤ) → Some a ≡ Some b → a ≡ b
    some_is a b e = cc

pub bounds_kept : (cs : List Column) (i : ℕ) (before now : List Bound) → ((k : ℤ) → FixedAt (column_in cs i) k → ⊥) → now ≡ before → AddsBoth cs i before now
bounds_kept cs i before now free e = subst (AddsBoth cs i before) (sym e) (record { keeps = λ b h. h; stand = λ h. h; has = λ k f. absurd (free k f) })

-- with both of each fixed variable of the first entries
pub record AreBoundsTo (cs : List Column) (b : ℕ) (es : List Entry) (n : ℕ) (bs : List Bound) : Type 0 where
  pub stand : All (Stands cs) bs
  pub basic : HasBoth cs bs b
  pub entries : All (λ (e : Entry). HasBoth cs bs e.variable) (take n es)

both_kept : (cs : List Column) (before now : List Bound) (i : ℕ) → ((b : Bound) → Contains before b → Contains now b) → HasBoth cs before i → HasBoth cs now i
both_kept cs before now i keeps h k f = let r = h k f in (keeps (lower_at i k) r.0, keeps (upper_at i k) r.1)

pub bounds_first : (cs : List Column) (b : ℕ) (es : List Entry) (before now : List Bound) → before ≡ [] → AddsBoth cs b before now → AreBoundsTo cs b es 0 now
bounds_first cs b es before now e a =
    record { stand = a.stand (subst (All (Stands cs)) (sym e) (λ k d lt. absurd (omega (arith, lt)))); basic = a.has; entries = λ k d lt. absurd (omega (arith, lt)) }

pub bounds_more : (cs : List Column) (b : ℕ) (es : List Entry) (n : ℕ) (d : Entry) (before now : List Bound) → n < length es → AreBoundsTo cs b es n before → AddsBoth cs (get_or es n d).variable before now
    → AreBoundsTo cs b es (n + 1) now
bounds_more cs b es n d before now lt t a = record {
  stand = a.stand t.stand;
  basic = both_kept cs before now b a.keeps t.basic;
  entries = All-more (λ (e : Entry). HasBoth cs now e.variable) es n d lt
      (All-weaker (λ (e : Entry). HasBoth cs before e.variable) (λ (e : Entry). HasBoth cs now e.variable) (λ e h. both_kept cs before now e.variable a.keeps h) (take n es) t.entries) a.has;
}

pub bounds_all : (cs : List Column) (r : TableRow) (b : ℕ) (es : List Entry) (n : ℕ) (bs : List Bound) → b ≡ r.basic → es ≡ r.entries → length es ≤ n → AreBoundsTo cs b es n bs → AreBounds cs r bs
bounds_all cs r b es n bs eb ee en t =
    record {
      stand = t.stand;
      basic = subst (HasBoth cs bs) eb t.basic;
      entries = subst (All (λ (e : Entry). HasBoth cs bs e.variable)) ee (subst (All (λ (e : Entry). HasBoth cs bs e.variable)) (take_all n es en) t.entries);
    }

-- ---- clauses

row_same : (v w : ℕ → Ratio) (es : List Entry) → ((i : ℕ) → v i ≡ w i) → row_value v es ≡ row_value w es
row_same v w [] h = refl
row_same v w (e ∷ es) h = ap₂ (λ x y. unreduced_sum (unreduced_product e.coefficient x) y) (h e.variable) (row_same v w es h)

met_same : (v w : ℕ → Ratio) (r : TableRow) → ((i : ℕ) → v i ≡ w i) → MeetsRow v r → MeetsRow w r
met_same v w r h m = subst (λ x. SameNumber x (row_value w r.entries)) (h r.basic) (subst (SameNumber (v r.basic)) (row_same v w r.entries h) m)

between : (z k : ℤ) → is_less (whole z) (whole k) ≡ false → is_less (whole k) (whole z) ≡ false → z ≡ k
between z k low high = grind (arith, ints)

-- values that meet the bounds keep to them
keeps_to : (cs : List Column) (bs : List Bound) (v : ℕ → Ratio) (z : ℕ → ℤ) (i : ℕ) → ((j : ℕ) → v j ≡ wholes z j) → All (MeetsBound v) bs → HasBoth cs bs i → Keeps cs z i
keeps_to cs bs v z i same met both k f =
    let b = both k f in
    between (z i) k (subst (λ x. is_less x (whole k) ≡ false) (same i) (All-contains (MeetsBound v) bs (lower_at i k) met b.0)) (subst (λ x. is_less (whole k) x ≡ false) (same i) (All-contains (MeetsBound v) bs (upper_at i k) met b.1))

pub whole_conflict_at : (s : Simplex.State) (place : ℕ) (bounds : List Bound) (tags : List ℕ) (ls : List Signed) → Simplex.IsState s → place < length s.table.rows → LacksWholes s.columns (row_at s.table.rows place)
    → AreBounds s.columns (row_at s.table.rows place) bounds → tags ≡ map (tag_in s.bounds) bounds → IsClauseOf tags ls → IsWholeConflict (λ i. (column_in s.columns i).sum) (map told_of s.bounds) ls
whole_conflict_at s place bounds tags ls state lt lacking are exact clause =
    let c = told_clause s bounds tags ls state are.stand exact clause in
    let r = row_at s.table.rows place in
    record {
      bounds = map (told_in s.bounds) bounds;
      stand = c.stand;
      each = c.each;
      only = c.only;
      once = c.once;
      apart = λ f met.
          let w : ℕ → Ratio = λ term. whole (f term) in
          let v = column_values w s.columns in
          let z : ℕ → ℤ = λ i. whole_sum f (column_in s.columns i).sum in
          let same : (i : ℕ) → v i ≡ wholes z i = λ i. sum_is_whole f (column_in s.columns i).sum in
          let all = told_met s bounds w met in
          lacking z (keeps_to s.columns bounds v z r.basic same all are.basic)
          (All-weaker (λ (e : Entry). HasBoth s.columns bounds e.variable) (λ (e : Entry). Keeps s.columns z e.variable) (λ e h. keeps_to s.columns bounds v z e.variable same all h) r.entries are.entries)
          (met_same v (wholes z) r same (state.meant.solved w (λ i. omega arith) place no_row lt));
    }
