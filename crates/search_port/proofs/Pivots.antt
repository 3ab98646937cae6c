-- Grids, rows and pivots over more atoms and with more variables.
use Rattle.std.proofs.Common.{◌≡◌, ℕ, ◌<◌, ◌==◌, Bool, true, false, not, if◌then◌else◌, inl, inr, List, [], ◌∷◌, ◌++◌, length, length-append, sym, ap, ◌∙◌, refl, arith, Option, Some, None}
use Rattle.std.specs.Prelude.{ℤ}
use Rattle.std.proofs.lemmas.List.{get_or_append_left}
use Rattle.fraction128.specs.declared.Summand.{Summand as GridSummand}
use Rattle.fraction128.specs.declared.Column.{Column}
use Rattle.fraction128.specs.declared.Member.{Member}
use Rattle.fraction128.specs.declared.Line.{Line}
use Rattle.fraction128.specs.declared.Grid.{Grid}
use Rattle.fraction128.specs.declared.Side.{Side}
use Rattle.fraction128.specs.declared.Side.TheVariants.{Lower, Upper}
use Rattle.fraction128.specs.Grid.{column_at}
use Rattle.fraction128.specs.Lines.{Bounding, IsBoundedBy, IsResting, IsSoundGrid, IsRowIn, IsPivotIn, first_basis, exchanged, basis_along, is_leaf_sum}
use Rattle.smt_meaning.specs.declared.clauses.Atom.{Atom}
use Rattle.smt_meaning.specs.declared.clauses.Atom.TheVariants.{AtMost}
use Rattle.smt_meaning.specs.CheckAtoms.{IsBoundOf}
use Rattle.fraction128.specs.Chain.{ComesFrom, begins, taken, moved, GoesOn, left_by, PivotsLead}
use Rattle.search_port.specs.declared.budget.Spent.{Spent}
use Rattle.search_port.specs.declared.budget.Spent.TheVariants.{Learnt, Numbered, Pivot}
use Rattle.search_port.specs.Pivots.{pivot_lines, pivots_of, EndsOtherwise, AreChained}

-- ---- bases after a line

-- what is basic after a line's pivot depends on what was before it, variable by variable
pub exchanged_at : (l : Line) (is js : ℕ → Bool) (i : ℕ) → is i ≡ js i → exchanged l is i ≡ exchanged l js i
exchanged_at l is js i e = by_line l.basic l.moves
  where
    by_line : (b : Option Member) (c : Option ℕ) → exchanged (record { basic = b; entries = l.entries; moves = c }) is i ≡ exchanged (record { basic = b; entries = l.entries; moves = c }) js i
    by_line (Some b) (Some c) = ap (λ x. if i == c then true else if i == b.variable then false else x) e
    by_line (Some b) None = e
    by_line None c = e

pub along_at : (ls : List Line) (is js : ℕ → Bool) (i : ℕ) → is i ≡ js i → basis_along is ls i ≡ basis_along js ls i
along_at [] is js i e = e
along_at (l ∷ ls) is js i e = along_at ls (exchanged l is) (exchanged l js) i (exchanged_at l is js i e)

pub along_append : (ls ms : List Line) (is : ℕ → Bool) → basis_along is (ls ++ ms) ≡ basis_along (basis_along is ls) ms
along_append [] ms is = refl
along_append (l ∷ ls) ms is = along_append ls ms (exchanged l is)

-- ---- from grid to grid

pub comes_both : (f g h : Grid) → ComesFrom f g → ComesFrom g h → ComesFrom f h
comes_both f g h p begins = p
comes_both f g h p (taken m k q t) = taken m k (comes_both f g m p q) t
comes_both f g h p (moved m i k q n) = moved m i k (comes_both f g m p q) n

pub goes_both : (a b : Option Grid) (g : Grid) → GoesOn a (Some g) → GoesOn (Some g) b → GoesOn a b
goes_both None b g p q = tt
goes_both (Some f) None g p q = tt
goes_both (Some f) (Some h) g p q = comes_both f g h p q

pub goes_nowhere : (a : Option Grid) → GoesOn a None
goes_nowhere None = tt
goes_nowhere (Some f) = tt

-- ---- one list after another

pub lead_after : (sums : List (List GridSummand)) (B : Bounding) (is : ℕ → Bool) (here there : Option Grid) (g : Grid) (ls : List Line) → GoesOn here (Some g) → PivotsLead sums B is (Some g) ls there
    → PivotsLead sums B is here ls there
lead_after sums B is here there g [] p q = goes_both here there g p q
lead_after sums B is here there g (l ∷ ls) p q = (q.0, goes_both here (Some q.0.grid) g p q.1, q.2)

pub leads_both : (sums : List (List GridSummand)) (B : Bounding) (is : ℕ → Bool) (here there : Option Grid) (g : Grid) (ls ms : List Line) → PivotsLead sums B is here ls (Some g)
    → PivotsLead sums B (basis_along is ls) (Some g) ms there → PivotsLead sums B is here (ls ++ ms) there
leads_both sums B is here there g [] ms p q = lead_after sums B is here there g ms p q
leads_both sums B is here there g (l ∷ ls) ms p q = (p.0, p.1, leads_both sums B (exchanged l is) (Some (left_by p.0)) there g ls ms p.2 q)

lead_chained : (sums : List (List GridSummand)) (B : Bounding) (is : ℕ → Bool) (here there : Option Grid) (ls : List Line) → PivotsLead sums B is here ls there → AreChained sums B is here (pivots_of ls) there
lead_chained sums B is here there [] p = p
lead_chained sums B is here there (l ∷ ls) p = (p.0, p.1, lead_chained sums B (exchanged l is) (Some (left_by p.0)) there ls p.2)

-- pivots that go on from where the units led
pub chained_pivots : (sums : List (List GridSummand)) (B : Bounding) (is : ℕ → Bool) (here there : Option Grid) (g : Grid) (us : List Spent) (ls : List Line) → AreChained sums B is here us (Some g)
    → PivotsLead sums B (basis_along is (pivot_lines us)) (Some g) ls there → AreChained sums B is here (us ++ pivots_of ls) there
chained_pivots sums B is here there g [] ls p q = lead_chained sums B is here there ls (lead_after sums B is here there g ls p q)
chained_pivots sums B is here there g (Learnt c ∷ us) ls p q = chained_pivots sums B is None there g us ls p q
chained_pivots sums B is here there g (Numbered n ∷ us) ls p q = chained_pivots sums B is None there g us ls p q
chained_pivots sums B is here there g (Pivot l ∷ us) ls p q = (p.0, p.1, chained_pivots sums B (exchanged l is) (Some (left_by p.0)) there g us ls p.2 q)

-- what is taken in and moved after the last unit
pub chained_on : (sums : List (List GridSummand)) (B : Bounding) (is : ℕ → Bool) (here : Option Grid) (g h : Grid) (us : List Spent) → AreChained sums B is here us (Some g) → ComesFrom g h → AreChained sums B is here us (Some h)
chained_on sums B is here g h [] p q = goes_both here (Some h) g p q
chained_on sums B is here g h (Learnt c ∷ us) p q = chained_on sums B is None g h us p q
chained_on sums B is here g h (Numbered n ∷ us) p q = chained_on sums B is None g h us p q
chained_on sums B is here g h (Pivot l ∷ us) p q = (p.0, p.1, chained_on sums B (exchanged l is) (Some (left_by p.0)) g h us p.2 q)

-- where they led may be forgotten
pub chained_from : (sums : List (List GridSummand)) (B : Bounding) (is : ℕ → Bool) (here there : Option Grid) (us : List Spent) → AreChained sums B is here us there → AreChained sums B is here us None
chained_from sums B is here there [] p = goes_nowhere here
chained_from sums B is here there (Learnt c ∷ us) p = chained_from sums B is None there us p
chained_from sums B is here there (Numbered n ∷ us) p = chained_from sums B is None there us p
chained_from sums B is here there (Pivot l ∷ us) p = (p.0, p.1, chained_from sums B (exchanged l is) (Some (left_by p.0)) there us p.2)

-- after another unit the grid is free
chained_later : (sums : List (List GridSummand)) (B : Bounding) (is : ℕ → Bool) (here there other : Option Grid) (u : Spent) (us : List Spent) → EndsOtherwise (u ∷ us) → AreChained sums B is here (u ∷ us) there
    → AreChained sums B is here (u ∷ us) other
chained_later sums B is here there other (Learnt c) [] e p = tt
chained_later sums B is here there other (Numbered n) [] e p = tt
chained_later sums B is here there other (Pivot l) [] e p = absurd e
chained_later sums B is here there other (Learnt c) (v ∷ us) e p = chained_later sums B is None there other v us e p
chained_later sums B is here there other (Numbered n) (v ∷ us) e p = chained_later sums B is None there other v us e p
chained_later sums B is here there other (Pivot l) (v ∷ us) e p = (p.0, p.1, chained_later sums B (exchanged l is) (Some (left_by p.0)) there other v us e p.2)

pub chained_anew : (sums : List (List GridSummand)) (B : Bounding) (is : ℕ → Bool) (there other : Option Grid) (us : List Spent) → EndsOtherwise us → AreChained sums B is None us there → AreChained sums B is None us other
chained_anew sums B is there other [] e p = tt
chained_anew sums B is there other (u ∷ us) e p = chained_later sums B is None there other u us e p

-- before any pivot the first variables are basic as without those that come later
pub first_longer : (sums later : List (List GridSummand)) (i : ℕ) → i < length sums → first_basis sums i ≡ first_basis (sums ++ later) i
first_longer sums later i lt = ap (λ ps. not (is_leaf_sum ps)) (sym (get_or_append_left sums later [] i lt))

-- ---- under more bounds, with more variables

module _ (B C : Bounding) (more : (sum : List GridSummand) (side : Side) (k : ℤ) → B sum side k → C sum side k) (sums later : List (List GridSummand)) where
  bounded_by : (c : Column) → IsBoundedBy B c → IsBoundedBy C c
  bounded_by c h = record { lower = λ k e. more c.sum Lower k (h.lower k e); upper = λ k e. more c.sum Upper k (h.upper k e) }

  resting_by : (c : Column) → IsResting B c → IsResting C c
  resting_by c (inl e) = inl e
  resting_by c (inr (side, k, e, b)) = inr (side, k, e, more c.sum side k b)

  pub grid_by : (g : Grid) → IsSoundGrid sums B g → IsSoundGrid (sums ++ later) C g
  grid_by g h = record {
    columns = λ i lt. let c = h.columns i lt in (let less = c.0 in omega (arith, less, length-append sums later), c.1 ∙ sym (get_or_append_left sums later [] i c.0));
    rows = h.rows;
    identities = h.identities;
    independent = h.independent;
    fractions = h.fractions;
    meets = h.meets;
    bounded = λ i lt. bounded_by (column_at g i) (h.bounded i lt);
    resting = λ i lt free. resting_by (column_at g i) (h.resting i lt free);
  }

  pub row_by : (l : Line) → IsRowIn sums B l → IsRowIn (sums ++ later) C l
  row_by l h = record { grid = h.grid; sound = grid_by h.grid h.sound; within = h.within; variable = h.variable; basic = h.basic; line = h.line }

  -- the bases agree on the variables that there are
  abbrev Agree : (ℕ → Bool) → (ℕ → Bool) → Type 0
  Agree is js = (i : ℕ) → i < length sums → is i ≡ js i

  abbrev pub pivot_by : (is js : ℕ → Bool) → Agree is js → (l : Line) → IsPivotIn sums B is l → IsPivotIn (sums ++ later) C js l
  pivot_by is js agree l h = record {
    grid = h.grid;
    sound = grid_by h.grid h.sound;
    basis = λ i lt. h.basis i lt ∙ agree i (h.sound.columns i lt).0;
    leaves = h.leaves;
    number = h.number;
    enters = h.enters;
    next = h.next;
    line = h.line;
  }

  pub lead_by : (here there : Option Grid) (ls : List Line) (is js : ℕ → Bool) → Agree is js → PivotsLead sums B is here ls there → PivotsLead (sums ++ later) C js here ls there
  lead_by here there [] is js agree h = h
  lead_by here there (l ∷ ls) is js agree h =
      (pivot_by is js agree l h.0, h.1, lead_by (Some (left_by h.0)) there ls (exchanged l is) (exchanged l js) (λ i lt. exchanged_at l is js i (agree i lt)) h.2)

  pub chained_by : (here there : Option Grid) (us : List Spent) (is js : ℕ → Bool) → Agree is js → AreChained sums B is here us there → AreChained (sums ++ later) C js here us there
  chained_by here there [] is js agree h = h
  chained_by here there (Learnt c ∷ us) is js agree h = chained_by None there us is js agree h
  chained_by here there (Numbered n ∷ us) is js agree h = chained_by None there us is js agree h
  chained_by here there (Pivot l ∷ us) is js agree h =
      (pivot_by is js agree l h.0, h.1, chained_by (Some (left_by h.0)) there us (exchanged l is) (exchanged l js) (λ i lt. exchanged_at l is js i (agree i lt)) h.2)

-- ---- over more atoms

pub bound_by : (Is Js : Atom → Type 0) → ((a : Atom) → Is a → Js a) → (sum : List GridSummand) (side : Side) (k : ℤ) → IsBoundOf Is sum side k → IsBoundOf Js sum side k
bound_by Is Js more sum side k h = record {
  terms = h.terms;
  most = h.most;
  positive = h.positive;
  atom = more (AtMost h.terms h.most) h.atom;
  sum_is = h.sum_is;
  side_is = h.side_is;
  number_is = h.number_is;
}
