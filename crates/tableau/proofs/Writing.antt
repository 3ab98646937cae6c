-- Sums of variables, written by variables that aren't basic: what each part makes of the sum so far.
use Rattle.std.proofs.Common.{◌≡◌, ℕ, ℤ, zero, suc, ◌+◌, ◌<◌, ◌≤◌, ◌⊎◌, inl, inr, pos, negsuc, sym, ap, ap₂, ◌∙◌, subst, refl, arith, List, [], ◌∷◌, length, drop, drop-cons, add-one, Bool, true, false, cond, eqb, eqb-true, eq-eqb, ◌&&◌, Option, Some, None, unsigned_abs}
use Rattle.std.proofs.lemmas.List.{drop_all}
use Rattle.std.proofs.lemmas.Bool.{cases_lt}
use Rattle.fraction128.specs.declared.ratio.Ratio.{Ratio}
use Rattle.fraction128.specs.Ratio.{IsFraction}
use Rattle.fraction128.specs.Whole.{InRange}
use Rattle.fraction128.specs.Gcd.{gcd_of}
use Rattle.fraction128.specs.Listed.{fused}
use Rattle.fraction128.specs.Number.{whole, is_zero}
use Rattle.fraction128.specs.declared.Entry.{Entry}
use Rattle.fraction128.specs.declared.TableRow.{TableRow}
use Rattle.fraction128.specs.Grid.{coefficient, row_of, entries_of, is_some, written_variable, no_coefficients, every, fused_fits}
use Rattle.tableau.specs.declared.sum.Part.{Part}
use Rattle.tableau.specs.Rows.{merged}
use Rattle.tableau.specs.Fitting.{merged_fits}
use Rattle.tableau.specs.Table.{Table, IsTable, AreNonzero, AreFractions, row_at}
use Rattle.tableau.specs.Written.{part_at, parts_written, parts_fit, IsPart, AreParts, form_of, IsWritten}
use Rattle.tableau.proofs.Absent.{gcd_zero_left, gcd_one, and_parts, fused_fraction}
use Rattle.tableau.proofs.Coefficients.{Agrees, Below, coefficient_merged, entries_are}
use Rattle.tableau.proofs.Fractions.{fractions_merged, fraction_coefficient}
use Rattle.tableau.proofs.FitTests.{every_same, merged_every}
use Rattle.tableau.proofs.Kept.{free_merged}
use Rattle.tableau.proofs.PivotedRows.{below_all}
use Rattle.tableau.proofs.Places.{row_some, row_lacks}
use Rattle.tableau.proofs.Shape.{From, from_zero, from_merged, ascending, nonzero_merged, Free, places_free, free_places}

-- ---- a variable, written by variables that aren't basic

one_fraction : IsFraction (whole (pos 1))
one_fraction = record { positive = omega arith; lowest = gcd_one 1; numerator_in = omega arith; denominator_in = omega arith }

record IsForm (t : Table) (v : ℕ) (zs : List Entry) : Type 0 where
  from : From 0 zs
  below : Below t.count zs
  nonzero : AreNonzero zs
  fractions : AreFractions zs
  separate : (k : ℕ) → k < length t.rows → Free (row_at t.rows k).basic zs
  is : (j : ℕ) → coefficient zs j ≡ written_variable t.rows v j

written_as : (o : Option TableRow) (v j : ℕ) → coefficient (form_of o v) j ≡ cond (is_some o) (coefficient (entries_of o) j) (cond (eqb j v) (whole (pos 1)) (whole (pos 0)))
written_as (Some r) v j = refl
written_as None v j = by_tests (eqb v j) refl (eqb j v) refl
  where
    by_tests : (s : Bool) → eqb v j ≡ s → (t : Bool) → eqb j v ≡ t → cond s (whole (pos 1)) (whole (pos 0)) ≡ cond t (whole (pos 1)) (whole (pos 0))
    by_tests true d true e = refl
    by_tests true d false e = let z : true ≡ false = sym (eq-eqb j v (sym (eqb-true v j d))) ∙ e in absurd (cc)
    by_tests false d true e = let z : true ≡ false = sym (eq-eqb v j (sym (eqb-true j v e))) ∙ d in absurd (cc)
    by_tests false d false e = refl

form_is : (t : Table) (v : ℕ) → IsTable t → v < t.count → IsForm t v (form_of (row_of t.rows v) v)
form_is t v table lt = by_row (row_of t.rows v) refl
  where
    by_row : (o : Option TableRow) → row_of t.rows v ≡ o → IsForm t v (form_of o v)
    by_row (Some r) e =
        let q = row_some t.rows v r e in
        record {
          from = subst (λ (x : TableRow). From 0 x.entries) q.2 (from_zero (row_at t.rows q.0).entries (table.ascending q.0 q.1));
          below = subst (λ (x : TableRow). Below t.count x.entries) q.2 (below_all t.count (row_at t.rows q.0).entries (λ j le. table.known j q.0 le q.1));
          nonzero = subst (λ (x : TableRow). AreNonzero x.entries) q.2 (table.nonzero q.0 q.1);
          fractions = subst (λ (x : TableRow). AreFractions x.entries) q.2 (table.fractions q.0 q.1);
          separate = λ k lk. subst (λ (x : TableRow). Free (row_at t.rows k).basic x.entries) q.2 (places_free (row_at t.rows k).basic (row_at t.rows q.0).entries (table.separate k q.0 lk q.1));
          is = λ j. written_as (Some r) v j ∙ ap (λ o. cond (is_some o) (coefficient (entries_of o) j) (cond (eqb j v) (whole (pos 1)) (whole (pos 0)))) (sym e);
        }
    by_row None e =
        record {
          from = (omega arith, tt);
          below = (lt, tt);
          nonzero = ((omega arith, λ z. absurd (cc)), tt);
          fractions = (one_fraction, tt);
          separate = λ k lk. ((λ z. row_lacks t.rows v e k lk (sym z)), tt);
          is = λ j. written_as None v j ∙ ap (λ o. cond (is_some o) (coefficient (entries_of o) j) (cond (eqb j v) (whole (pos 1)) (whole (pos 0)))) (sym e);
        }

-- ---- exact coefficients

zero_is : (x : Ratio) → IsFraction x → is_zero x ≡ true → x ≡ whole (pos 0)
zero_is x f z =
    let none : unsigned_abs x.numerator ≡ 0 = eqb-true (unsigned_abs x.numerator) 0 z in
    ap₂ (λ n d. let r : Ratio = record { numerator = n; denominator = d } in r) (numerator_none x.numerator none)
    (sym (gcd_zero_left x.denominator) ∙ ap (λ n. gcd_of n x.denominator) (sym none) ∙ f.lowest)
  where
    numerator_none : (n : ℤ) → unsigned_abs n ≡ 0 → n ≡ pos 0
    numerator_none (pos k) e = ap pos e
    numerator_none (negsuc k) e = absurd (omega (arith, e))

every_at : (n : ℕ) (p : ℕ → Bool) → every n p ≡ true → (j : ℕ) → j < n → p j ≡ true
every_at zero p h j lt = absurd (omega (arith, lt))
every_at (suc n) p h j lt = by_place (every_at n p (and_parts (every n p) (p n) h).0 j) (cases_lt j n)
  where
    by_place : (j < n → p j ≡ true) → (j < n) ⊎ (n ≤ j) → p j ≡ true
    by_place rest (inl l) = rest l
    by_place rest (inr le) = let is : n ≡ j = omega (arith, le, lt) in subst (λ i. p i ≡ true) is (and_parts (every n p) (p n) h).1

below_more : (m n : ℕ) (es : List Entry) → m ≤ n → Below m es → Below n es
below_more m n [] le h = tt
below_more m n (e ∷ es) le h = (omega (arith, le, h.0), below_more m n es le h.1)

merged_exact : (n : ℕ) (a : Ratio) (xs zs : List Entry) → IsFraction a → AreFractions xs → AreFractions zs → From 0 xs → From 0 zs → Below n zs → merged_fits a xs zs ≡ true
    → (j : ℕ) → coefficient (merged a xs zs) j ≡ fused (coefficient xs j) a (coefficient zs j)
merged_exact n a xs zs fa fx fz hx hz b fits j = by_kind (coefficient_merged a xs 0 zs fa.positive hx hz j)
  where
    m : ℕ
    m = n + (j + 1)

    fits_at : fused_fits (coefficient xs j) a (coefficient zs j) ≡ true
    fits_at =
        every_at m (λ i. fused_fits (coefficient xs i) a (coefficient zs i)) (merged_every m a xs zs fa fx fz hx hz (below_more n m zs (omega arith) b) ∙ fits) j (omega arith)

    by_kind : Agrees (coefficient (merged a xs zs) j) (fused (coefficient xs j) a (coefficient zs j)) → coefficient (merged a xs zs) j ≡ fused (coefficient xs j) a (coefficient zs j)
    by_kind (inl e) = e
    by_kind (inr z) =
        zero_is (coefficient (merged a xs zs) j) (fraction_coefficient (merged a xs zs) j (fractions_merged a xs zs fa fx fz fits)) z.0
        ∙ sym (zero_is (fused (coefficient xs j) a (coefficient zs j)) (fused_fraction (coefficient xs j) a (coefficient zs j) (fraction_coefficient xs j fx) fa (fraction_coefficient zs j fz) fits_at) z.1)

-- ---- sums with the same coefficients so far

pub parts_same : (rows : List TableRow) (f g : ℕ → Ratio) → ((i : ℕ) → f i ≡ g i) → (ps : List Part) (j : ℕ) → parts_written rows f ps j ≡ parts_written rows g ps j
parts_same rows f g h [] j = h j
parts_same rows f g h (p ∷ ps) j =
    parts_same rows (λ i. fused (f i) (whole p.coefficient) (written_variable rows p.variable i)) (λ i. fused (g i) (whole p.coefficient) (written_variable rows p.variable i))
    (λ i. ap (λ x. fused x (whole p.coefficient) (written_variable rows p.variable i)) (h i)) ps j

pub fits_same : (n : ℕ) (rows : List TableRow) (f g : ℕ → Ratio) → ((i : ℕ) → f i ≡ g i) → (ps : List Part) → parts_fit n rows f ps ≡ parts_fit n rows g ps
fits_same n rows f g h [] = refl
fits_same n rows f g h (p ∷ ps) =
    ap₂ ◌&&◌
    (every_same n (λ i. fused_fits (f i) (whole p.coefficient) (written_variable rows p.variable i)) (λ i. fused_fits (g i) (whole p.coefficient) (written_variable rows p.variable i))
    (λ i l. ap (λ x. fused_fits x (whole p.coefficient) (written_variable rows p.variable i)) (h i)))
    (fits_same n rows (λ i. fused (f i) (whole p.coefficient) (written_variable rows p.variable i)) (λ i. fused (g i) (whole p.coefficient) (written_variable rows p.variable i))
    (λ i. ap (λ x. fused x (whole p.coefficient) (written_variable rows p.variable i)) (h i)) ps)

-- ---- the sum of the parts before the place k

pub record IsPartial (t : Table) (ps : List Part) (k : ℕ) (es : List Entry) : Type 0 where
  pub from : From 0 es
  pub below : Below t.count es
  pub nonzero : AreNonzero es
  pub fractions : AreFractions es
  pub separate : (i : ℕ) → i < length t.rows → Free (row_at t.rows i).basic es
  pub written : (j : ℕ) → parts_written t.rows no_coefficients ps j ≡ parts_written t.rows (coefficient es) (drop k ps) j
  pub fits : parts_fit t.count t.rows no_coefficients ps ≡ parts_fit t.count t.rows (coefficient es) (drop k ps)

pub partial_start : (t : Table) (ps : List Part) → IsPartial t ps 0 []
partial_start t ps =
    record {
      from = tt;
      below = tt;
      nonzero = tt;
      fractions = tt;
      separate = λ i lt. tt;
      written = λ j. parts_same t.rows no_coefficients (coefficient []) (λ i. refl) ps j;
      fits = fits_same t.count t.rows no_coefficients (coefficient []) (λ i. refl) ps;
    }

drop_part : (ps : List Part) (k : ℕ) → k < length ps → drop k ps ≡ part_at ps k ∷ drop (k + 1) ps
drop_part ps k lt = rw add-one (drop-cons ps k (record { coefficient = pos 0; variable = 0 }) lt)

part_fraction : (z : ℤ) → InRange z → IsFraction (whole z)
part_fraction z r = record { positive = omega arith; lowest = gcd_one (unsigned_abs z); numerator_in = r; denominator_in = omega arith }

below_free : (n : ℕ) (es : List Entry) → ((j : ℕ) → n ≤ j → Free j es) → Below n es
below_free n es h = below_all n es (λ j le. free_places j es (h j le))

free_below : (n : ℕ) (es : List Entry) → Below n es → (j : ℕ) → n ≤ j → Free j es
free_below n [] h j le = tt
free_below n (e ∷ es) h j le = ((λ q. absurd (omega (arith, q, h.0, le))), free_below n es h.1 j le)

-- whether the part's numbers fit, by coefficients
part_every : (t : Table) (ps : List Part) (k : ℕ) (es : List Entry) → IsTable t → AreParts t.count ps → k < length ps → IsPartial t ps k es
    → every t.count (λ i. fused_fits (coefficient es i) (whole (part_at ps k).coefficient) (written_variable t.rows (part_at ps k).variable i))
    ≡ merged_fits (whole (part_at ps k).coefficient) es (form_of (row_of t.rows (part_at ps k).variable) (part_at ps k).variable)
part_every t ps k es table parts lt h =
    let p = part_at ps k in
    let q = parts k lt in
    let f = form_is t p.variable table q.known in
    every_same t.count (λ i. fused_fits (coefficient es i) (whole p.coefficient) (written_variable t.rows p.variable i)) (λ i. fused_fits (coefficient es i) (whole p.coefficient) (coefficient (form_of (row_of t.rows p.variable) p.variable) i))
    (λ i l. ap (fused_fits (coefficient es i) (whole p.coefficient)) (sym (f.is i)))
    ∙ merged_every t.count (whole p.coefficient) es (form_of (row_of t.rows p.variable) p.variable) (part_fraction p.coefficient q.in_range) h.fractions f.fractions h.from f.from f.below

and_true : (p q : Bool) → p ≡ true → (p && q) ≡ q
and_true p q e = ap (λ z. z && q) e

and_false : (p q : Bool) → p ≡ false → (p && q) ≡ false
and_false p q e = ap (λ z. z && q) e

pub partial_more : (t : Table) (ps : List Part) (k : ℕ) (es now : List Entry) → IsTable t → AreParts t.count ps → k < length ps → IsPartial t ps k es
    → now ≡ merged (whole (part_at ps k).coefficient) es (form_of (row_of t.rows (part_at ps k).variable) (part_at ps k).variable)
    → merged_fits (whole (part_at ps k).coefficient) es (form_of (row_of t.rows (part_at ps k).variable) (part_at ps k).variable) ≡ true
    → IsPartial t ps (k + 1) now
partial_more t ps k es now table parts lt h is fits = subst (IsPartial t ps (k + 1)) (sym is)
    (record {
      from = from_merged a es 0 zs h.from f.from;
      below = below_free t.count all (λ j le. free_merged j a es zs (free_below t.count es h.below j le) (free_below t.count zs f.below j le));
      nonzero = nonzero_merged a es zs (omega arith, q.nonzero) h.nonzero f.nonzero;
      fractions = fractions_merged a es zs fa h.fractions f.fractions fits;
      separate = λ i li. free_merged (row_at t.rows i).basic a es zs (h.separate i li) (f.separate i li);
      written = λ j. h.written j ∙ ap (λ l. parts_written t.rows (coefficient es) l j) (drop_part ps k lt) ∙ parts_same t.rows next (coefficient all) same (drop (k + 1) ps) j;
      fits = h.fits ∙ ap (parts_fit t.count t.rows (coefficient es)) (drop_part ps k lt)
          ∙ and_true (every t.count (λ i. fused_fits (coefficient es i) a (written_variable t.rows p.variable i))) (parts_fit t.count t.rows next (drop (k + 1) ps)) (part_every t ps k es table parts lt h ∙ fits)
          ∙ fits_same t.count t.rows next (coefficient all) same (drop (k + 1) ps);
    })
  where
    p : Part
    p = part_at ps k

    a : Ratio
    a = whole p.coefficient

    zs : List Entry
    zs = form_of (row_of t.rows p.variable) p.variable

    all : List Entry
    all = merged a es zs

    q : IsPart t.count p
    q = parts k lt

    f : IsForm t p.variable zs
    f = form_is t p.variable table q.known

    fa : IsFraction a
    fa = part_fraction p.coefficient q.in_range

    next : ℕ → Ratio
    next i = fused (coefficient es i) a (written_variable t.rows p.variable i)

    same : (i : ℕ) → next i ≡ coefficient all i
    same i = ap (fused (coefficient es i) a) (sym (f.is i)) ∙ sym (merged_exact t.count a es zs fa h.fractions f.fractions h.from f.from f.below fits i)

pub partial_fails : (t : Table) (ps : List Part) (k : ℕ) (es : List Entry) → IsTable t → AreParts t.count ps → k < length ps → IsPartial t ps k es
    → merged_fits (whole (part_at ps k).coefficient) es (form_of (row_of t.rows (part_at ps k).variable) (part_at ps k).variable) ≡ false
    → parts_fit t.count t.rows no_coefficients ps ≡ false
partial_fails t ps k es table parts lt h fails =
    let p = part_at ps k in
    h.fits ∙ ap (parts_fit t.count t.rows (coefficient es)) (drop_part ps k lt)
    ∙ and_false (every t.count (λ i. fused_fits (coefficient es i) (whole p.coefficient) (written_variable t.rows p.variable i)))
    (parts_fit t.count t.rows (λ i. fused (coefficient es i) (whole p.coefficient) (written_variable t.rows p.variable i)) (drop (k + 1) ps)) (part_every t ps k es table parts lt h ∙ fails)

pub partial_fits : (t : Table) (ps : List Part) (k : ℕ) (es : List Entry) → length ps ≤ k → IsPartial t ps k es → parts_fit t.count t.rows no_coefficients ps ≡ true
partial_fits t ps k es le h = h.fits ∙ ap (parts_fit t.count t.rows (coefficient es)) (drop_all k ps le)

pub partial_whole : (t : Table) (ps : List Part) (k : ℕ) (es : List Entry) → length ps ≤ k → IsPartial t ps k es → IsWritten t ps es
partial_whole t ps k es le h =
    record {
      exact = sym (entries_are t.count 0 (parts_written t.rows no_coefficients ps) es h.from h.nonzero (below_more t.count (0 + t.count) es (omega arith) h.below) (λ j l. inl (sym (written j))));
      open_row = record {
        ascending = ascending 0 es h.from;
        nonzero = h.nonzero;
        known = λ j l. free_places j es (free_below t.count es h.below j l);
        separate = λ i l. free_places (row_at t.rows i).basic es (h.separate i l);
      };
    }
  where
    written : (j : ℕ) → parts_written t.rows no_coefficients ps j ≡ coefficient es j
    written j = h.written j ∙ ap (λ l. parts_written t.rows (coefficient es) l j) (drop_all k ps le)
