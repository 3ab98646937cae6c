-- Pivots to and fro don't hang together: the bound that the first one reached would have to go.
use Rattle.std.proofs.Common.{◌≡◌, ℕ, ℤ, zero, suc, ◌+◌, ◌<◌, ◌⊎◌, inl, inr, sym, ap, ◌∙◌, subst, refl, arith, List, [], ◌∷◌, map, length, Bool, true, false, Option, Some, None}
use Rattle.std.proofs.lemmas.Int.{ints}
use Rattle.fraction128.specs.declared.ratio.Ratio.{Ratio}
use Rattle.fraction128.specs.declared.Summand.{Summand}
use Rattle.fraction128.specs.declared.Entry.{Entry}
use Rattle.fraction128.specs.declared.Column.{Column}
use Rattle.fraction128.specs.declared.Pending.{Pending}
use Rattle.fraction128.specs.declared.Member.{Member}
use Rattle.fraction128.specs.declared.Line.{Line}
use Rattle.fraction128.specs.declared.Grid.{Grid}
use Rattle.fraction128.specs.Grid.{take, pivot, any_crossed, column_at, next_step, after, with_values, moved_value, pivoted_value, entries_of, row_of}
use Rattle.fraction128.specs.Lines.{Bounding, IsPivotIn, first_basis, member_of, basic_member}
use Rattle.fraction128.specs.Chain.{StaysOrRises, ComesFrom, begins, taken, moved, left_by}
use Rattle.simplex_steps.proofs.NextStep.{col, step_facts}
use Rattle.simplex_steps.proofs.Moments.{length_with}
use Rattle.smt_meaning.specs.CheckAtoms.{IsBoundOf, IsCheckAtom}
use Rattle.report_laws.specs.Sum.{trees, frames, greatest, entry, minus_entry, pivoting, back, to_and_fro, ToAndFroIsRefused}
use Rattle.report_laws.proofs.OneLeaf.{plain}
use Rattle.report_laws.proofs.Chained.{neighbours_in}

-- ---- bounds stay

lower_with : (f : ℕ → Ratio) (i : ℕ) (cs : List Column) (j : ℕ) → (col (with_values f i cs) j).lower ≡ (col cs j).lower
lower_with f i [] j = refl
lower_with f i (c ∷ cs) zero = refl
lower_with f i (c ∷ cs) (suc j) = lower_with f (i + 1) cs j

stays : (o : Option ℤ) → StaysOrRises o o
stays None = tt
stays (Some k) = grind (arith, ints)

stays_on : (o p q : Option ℤ) → StaysOrRises o p → StaysOrRises p q → StaysOrRises o q
stays_on None p q h k = tt
stays_on (Some a) (Some b) (Some c) h k = grind (arith, ints, h, k)
stays_on (Some a) (Some b) None h k = k
stays_on (Some a) None q h k = absurd h

-- what is below the count stays so, and no lower bound is loosened
abbrev KeepsLower : Grid → Grid → ℕ → Type 0
KeepsLower g h i = (i < length h.columns) × StaysOrRises (column_at g i).lower (column_at h i).lower

keeps_lower : (g h : Grid) (i : ℕ) → i < length g.columns → ComesFrom g h → KeepsLower g h i
keeps_lower g h i lt begins = (lt, stays (column_at g i).lower)
keeps_lower g l i lt (taken h k c t) =
    let before : KeepsLower g h i = keeps_lower g h i lt c in (
      (let count = t.count in let known = before.0 in omega (arith, count, known)),
      stays_on (column_at g i).lower (column_at h i).lower (column_at k i).lower before.1 (t.each i before.0).lower,
    )
keeps_lower g l i lt (moved h j n c next) =
    let before : KeepsLower g h i = keeps_lower g h i lt c in (
      subst (λ m. i < m) (sym (length_with (moved_value h j n) 0 h.columns)) before.0,
      subst (λ o. StaysOrRises (column_at g i).lower o) (sym (lower_with (moved_value h j n) 0 h.columns i)) before.1,
    )

-- ---- what the two lines show

some_back : (x y : Member) → Some x ≡ Some y → x ≡ y
some_back x y e = cc

-- the variable that a pivot's step leaves is known
leaves_known : (g : Grid) (b : ℕ) (k : ℤ) (c : ℕ) → next_step g ≡ Some (pivot b k c) → b < length g.columns
leaves_known g b k c next = by (plain g (pivot b k c) next)
  where
    by : ((p : Pending) × (g.pending ≡ Some p) × (pivot b k c ≡ take p)) ⊎ ((g.pending ≡ None) × (any_crossed g.columns ≡ false)) → b < length g.columns
    by (inl (p, e, is)) = absurd (cc)
    by (inr h) = (step_facts g (pivot b k c) h.0 h.1 next).leaves

-- the second member of a row shows the column of its variable
second : (h : Grid) (m n : Member) (es : List Entry) → m ∷ n ∷ [] ≡ map (member_of h) es → n.column ≡ column_at h n.variable
second h m n [] e = absurd (let z = ap length e in omega (arith, z))
second h m n (a ∷ []) e = absurd (let z = ap length e in omega (arith, z))
second h m n (a ∷ b ∷ es) e =
    let same : n ≡ member_of h b = seconds (m ∷ n ∷ []) (map (member_of h) (a ∷ b ∷ es)) e in
    ap (λ (x : Member). x.column) same ∙ ap (column_at h) (sym (ap (λ (x : Member). x.variable) same))
  where
    at : List Member → Member
    at [] = m
    at (x ∷ []) = m
    at (x ∷ y ∷ xs) = y

    seconds : (xs ys : List Member) → xs ≡ ys → at xs ≡ at ys
    seconds xs ys w = ap at w

module _ (sums : List (List Summand)) (B : Bounding) (is : ℕ → Bool) where
  -- after the first pivot x + y has its lower bound
  lower_left : (p : IsPivotIn sums B is (to_and_fro true)) → (2 < length (left_by p).columns) × ((column_at (left_by p) 2).lower ≡ Some greatest)
  lower_left p =
      let shown : basic_member pivoting 2 ≡ basic_member p.grid p.leaves = some_back (basic_member pivoting 2) (basic_member p.grid p.leaves) (ap (λ (l : Line). l.basic) p.line) in
      let two : 2 ≡ p.leaves = ap (λ (m : Member). m.variable) shown in
      let known : 2 < length p.grid.columns = subst (λ i. i < length p.grid.columns) (sym two) (leaves_known p.grid p.leaves p.number p.enters p.next) in
      let low : (column_at p.grid 2).lower ≡ Some greatest = ap (λ i. (column_at p.grid i).lower) two ∙ sym (ap (λ (m : Member). m.column.lower) shown) in (
        subst (λ n. 2 < n) (sym (length_with (pivoted_value p.grid p.leaves p.number p.enters) 0 p.grid.columns)) known,
        lower_with (pivoted_value p.grid p.leaves p.number p.enters) 0 p.grid.columns 2 ∙ low,
      )

  -- before the second one it has none
  none_before : (q : IsPivotIn sums B is (to_and_fro false)) → (column_at q.grid 2).lower ≡ None
  none_before q =
      let rows : member_of back (minus_entry 1) ∷ member_of back (entry 2) ∷ [] ≡ map (member_of q.grid) (entries_of (row_of q.grid.rows q.leaves)) = ap (λ (l : Line). l.entries) q.line in
      sym (ap (λ (c : Column). c.lower) (second q.grid (member_of back (minus_entry 1)) (member_of back (entry 2)) (entries_of (row_of q.grid.rows q.leaves)) rows))

pub to_and_fro_is_refused : ToAndFroIsRefused
to_and_fro_is_refused limit branches before after spent =
    let B : Bounding = IsBoundOf (IsCheckAtom trees frames branches) in
    let n = neighbours_in spent.sums B (first_basis spent.sums) None before after (to_and_fro true) (to_and_fro false) spent.chained in
    let low = lower_left spent.sums B n.basis n.first in
    let gone = none_before spent.sums B _ n.second in
    let kept : KeepsLower (left_by n.first) n.second.grid 2 = keeps_lower (left_by n.first) n.second.grid 2 low.0 n.comes in
    subst (λ o. StaysOrRises (Some greatest) o) gone (subst (λ o. StaysOrRises o (column_at n.second.grid 2).lower) low.1 kept.1)
