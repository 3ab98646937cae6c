-- The pivots among the units where the theory makes none.
use Rattle.std.proofs.Common.{◌≡◌, ℕ, zero, suc, MatchBool, Bool, true, false, List, [], ◌∷◌, ◌++◌, map, get_or, Contains, Option, Some, None, sym, ap, subst, ◌∙◌, refl}
use Rattle.std.specs.Prelude.{ℤ, IfSome}
use Rattle.std.proofs.lemmas.List.Elements.{Contains-append_left}
use Rattle.fraction128.specs.declared.Summand.{Summand}
use Rattle.fraction128.specs.declared.Side.{Side}
use Rattle.fraction128.specs.declared.Side.TheVariants.{Lower, Upper}
use Rattle.fraction128.specs.declared.Column.{Column}
use Rattle.fraction128.specs.declared.Grid.{Grid}
use Rattle.fraction128.specs.declared.Line.{Line}
use Rattle.fraction128.specs.Grid.{column_at}
use Rattle.fraction128.specs.Lines.{Bounding, IsBoundedBy, first_basis, basis_along, exchanged}
use Rattle.fraction128.specs.Chain.{left_by, unbounded, unbounded_column}
use Rattle.literals.specs.Signed.{Signed}
use Rattle.smt_meaning.specs.declared.clauses.Atom.{Atom}
use Rattle.smt_meaning.specs.CheckAtoms.{IsBoundOf}
use Rattle.search_port.specs.State.{Reading, TheoryState, Variables}
use Rattle.search_port.specs.Spending.{Spending}
use Rattle.search_port.specs.Pivots.{pivot_lines, AreBasic, AreChained, ArePivots, EndsOtherwise, IsOfLog, IsSaid}
use Rattle.search_port.specs.declared.budget.Lemma.{Lemma}
use Rattle.search_port.specs.declared.budget.Cause.TheVariants.{Units, Memory, Cancelled}
use Rattle.search_port.specs.declared.budget.Spent.{Spent}
use Rattle.search_port.specs.declared.budget.Spent.TheVariants.{Learnt, Numbered, Pivot}
use Rattle.search_port.proofs.Pivots.{chained_anew}
use Rattle.cdcl_core.specs.declared.turn.Turn.{Turn}
use Rattle.cdcl_core.specs.declared.turn.Turn.TheVariants.{GoOn, Spent as SpentTurn, Full, False, Ended}
use Rattle.cdcl_core.specs.Turns.{ChainsPivots, IsAccounted, IsLonger, PivotsBy}

-- ---- bounds that a log says

said-more : (table : List Atom) (log more : List Signed) (sum : List Summand) (side : Side) (k : ℤ) → IsSaid table log sum side k → IsSaid table (log ++ more) sum side k
said-more table log more sum side k h = record {
  literal = h.literal;
  among = Contains-append_left log more h.literal h.among;
  terms = h.terms;
  most = h.most;
  atom = h.atom;
  sum_is = h.sum_is;
  side_is = h.side_is;
  number_is = h.number_is;
}

bounded-more : (table : List Atom) (log more : List Signed) (c : Column) → IsBoundedBy (IsSaid table log) c → IsBoundedBy (IsSaid table (log ++ more)) c
bounded-more table log more c h = record {
  lower = λ k e. said-more table log more c.sum Lower k (h.lower k e);
  upper = λ k e. said-more table log more c.sum Upper k (h.upper k e);
}

-- ---- grids without bounds

none-some : (k : ℤ) → (o : Option ℤ) → o ≡ None → o ≡ Some k → ⊥
none-some k o e f = let g : None ≡ Some k = sym e ∙ f in cc

no-bounds : (B : Bounding) (cs : List Column) (rest : Column) (i : ℕ) → rest.lower ≡ None → rest.upper ≡ None → IsBoundedBy B (get_or (map unbounded_column cs) i rest)
no-bounds B [] rest i low up = record { lower = λ k e. absurd (none-some k rest.lower low e); upper = λ k e. absurd (none-some k rest.upper up e) }
no-bounds B (c ∷ cs) rest zero low up = record { lower = λ k e. absurd (none-some k None refl e); upper = λ k e. absurd (none-some k None refl e) }
no-bounds B (c ∷ cs) rest (suc i) low up = no-bounds B cs rest i low up

unbounded-twice : (cs : List Column) → map unbounded_column (map unbounded_column cs) ≡ map unbounded_column cs
unbounded-twice [] = refl
unbounded-twice (c ∷ cs) = ap (λ ds. unbounded_column c ∷ ds) (unbounded-twice cs)

still-variables : (o : Option Grid) (g : Grid) → IfSome o (λ h. unbounded g ≡ h) → IfSome o (λ h. unbounded (unbounded g) ≡ h)
still-variables None g h = tt
still-variables (Some x) g h = ap (λ cs. record { columns = cs; rows = g.rows; pending = g.pending }) (unbounded-twice g.columns) ∙ h

-- ---- another log

abbrev at_log : TheoryState → List Signed → TheoryState
at_log t log = record { reading = t.reading; log = log; variables = t.variables }

is-at : (t u : TheoryState) → u.reading ≡ t.reading → u.variables ≡ t.variables → u ≡ at_log t u.log
is-at t u e f = ap (λ (r : Reading). record { reading = r; log = u.log; variables = u.variables }) e ∙ ap (λ (v : Variables). record { reading = t.reading; log = u.log; variables = v }) f

abbrev of-none : (t : TheoryState) (log : List Signed) (g : Grid) → IfSome t.variables.grid (λ h. unbounded g ≡ h) → IsOfLog (at_log t log) (unbounded g)
of-none t log g h = record {
  bounds = λ i lt. no-bounds (IsSaid t.reading.table log) g.columns _ i refl refl;
  variables = still-variables t.variables.grid g h;
}

told-at : (t : TheoryState) (us : List Spent) (more : List Signed) → ArePivots t us → ArePivots (at_log t (t.log ++ more)) us
told-at t us more h = record {
  grid = h.grid;
  of_log = record { bounds = λ i lt. bounded-more t.reading.table t.log more (column_at h.grid i) (h.of_log.bounds i lt); variables = h.of_log.variables };
  lines = h.lines;
  basis = h.basis;
}

back-at : (t : TheoryState) (us : List Spent) (log : List Signed) → EndsOtherwise us → ArePivots t us → ArePivots (at_log t log) us
back-at t us log ends h = record {
  grid = unbounded h.grid;
  of_log = of-none t log h.grid h.of_log.variables;
  lines = chained_anew t.variables.sums (IsBoundOf (Contains t.reading.table)) (first_basis t.variables.sums) (Some h.grid) (Some (unbounded h.grid)) us ends h.lines;
  basis = h.basis;
}

lines-learnt : (us : List Spent) (c : Lemma) → pivot_lines (us ++ Learnt c ∷ []) ≡ pivot_lines us
lines-learnt [] c = refl
lines-learnt (Learnt d ∷ us) c = lines-learnt us c
lines-learnt (Numbered n ∷ us) c = lines-learnt us c
lines-learnt (Pivot l ∷ us) c = ap (λ ls. l ∷ ls) (lines-learnt us c)

chained-learnt : (sums : List (List Summand)) (B : Bounding) (is : ℕ → Bool) (here there other : Option Grid) (us : List Spent) (c : Lemma) → AreChained sums B is here us there → AreChained sums B is here (us ++ Learnt c ∷ []) other
chained-learnt sums B is here there other [] c h = tt
chained-learnt sums B is here there other (Learnt d ∷ us) c h = chained-learnt sums B is None there other us c h
chained-learnt sums B is here there other (Numbered n ∷ us) c h = chained-learnt sums B is None there other us c h
chained-learnt sums B is here there other (Pivot l ∷ us) c h = (h.0, h.1, chained-learnt sums B (exchanged l is) (Some (left_by h.0)) there other us c h.2)

learnt-at : (t : TheoryState) (us : List Spent) (c : Lemma) (log : List Signed) → ArePivots t us → ArePivots (at_log t log) (us ++ Learnt c ∷ [])
learnt-at t us c log h = record {
  grid = unbounded h.grid;
  of_log = of-none t log h.grid h.of_log.variables;
  lines = chained-learnt t.variables.sums (IsBoundOf (Contains t.reading.table)) (first_basis t.variables.sums) None (Some h.grid) (Some (unbounded h.grid)) us c h.lines;
  basis = subst (λ (ls : List Line). AreBasic (basis_along (first_basis t.variables.sums) ls) t.variables) (sym (lines-learnt us c)) h.basis;
}

-- a clause comes last
pub ends-learnt : (us : List Spent) (c : Lemma) → EndsOtherwise (us ++ Learnt c ∷ [])
ends-learnt [] c = tt
ends-learnt (u ∷ []) c = tt
ends-learnt (u ∷ v ∷ us) c = ends-learnt (v ∷ us) c

-- ---- what is done between calls of the theory

pub chains-same : (t u : TheoryState) (b c : Spending) → u ≡ t → c.units ≡ b.units → ChainsPivots t u b c
chains-same t u b c e f counts keeps h = subst (λ (us : List Spent). ArePivots u us) (sym f) (subst (λ (x : TheoryState). ArePivots x b.units) (sym e) h)

-- literals are told
pub chains-told : (t u : TheoryState) (b : Spending) → u.reading ≡ t.reading → u.variables ≡ t.variables → IsLonger t.log u.log → ChainsPivots t u b b
chains-told t u b e f longer counts keeps h =
    let is : u ≡ at_log t (t.log ++ longer.more) = is-at t u e f ∙ ap (at_log t) longer.is in
    subst (λ (x : TheoryState). ArePivots x b.units) (sym is) (told-at t b.units longer.more h)

-- decisions are taken back, not right after a pivot
pub chains-back : (t u : TheoryState) (b c : Spending) → u.reading ≡ t.reading → u.variables ≡ t.variables → c.units ≡ b.units → (b.counts_learnt ≡ true → EndsOtherwise b.units) → ChainsPivots t u b c
chains-back t u b c e f g ends counts keeps h =
    subst (λ (us : List Spent). ArePivots u us) (sym g) (subst (λ (x : TheoryState). ArePivots x b.units) (sym (is-at t u e f)) (back-at t b.units u.log (ends counts) h))

counted : (v : Bool) (b c : Spending) (clause : Lemma) → v ≡ true → MatchBool v (c.units ≡ b.units ++ Learnt clause ∷ []) (c.units ≡ b.units) → c.units ≡ b.units ++ Learnt clause ∷ []
counted true b c clause e h = h
counted false b c clause e h = cc

pub units-learnt : (b c : Spending) (clause : Lemma) → b.counts_learnt ≡ true → IsAccounted b c clause → c.units ≡ b.units ++ Learnt clause ∷ []
units-learnt b c clause counts a = counted b.counts_learnt b c clause counts a.units

-- a clause is put down
pub chains-learnt : (t u : TheoryState) (b c : Spending) (clause : Lemma) → u.reading ≡ t.reading → u.variables ≡ t.variables → IsAccounted b c clause → ChainsPivots t u b c
chains-learnt t u b c clause e f a counts keeps h =
    subst (λ (us : List Spent). ArePivots u us) (sym (units-learnt b c clause counts a)) (subst (λ (x : TheoryState). ArePivots x (b.units ++ Learnt clause ∷ [])) (sym (is-at t u e f)) (learnt-at t b.units clause u.log h))

-- one after the other
pub chains-both : (t u v : TheoryState) (b c d : Spending) → c.counts_learnt ≡ b.counts_learnt → c.keeps_lines ≡ b.keeps_lines → ChainsPivots t u b c → ChainsPivots u v c d → ChainsPivots t v b d
chains-both t u v b c d same lines h k counts keeps x = k (same ∙ counts) (lines ∙ keeps) (h counts keeps x)

pub pivots-after : (t u v : TheoryState) (b c d : Spending) (r : Turn) → c.counts_learnt ≡ b.counts_learnt → c.keeps_lines ≡ b.keeps_lines → ChainsPivots t u b c → PivotsBy u v c d r → PivotsBy t v b d r
pivots-after t u v b c d GoOn same lines h k = chains-both t u v b c d same lines h k
pivots-after t u v b c d SpentTurn same lines h k = chains-both t u v b c d same lines h k
pivots-after t u v b c d (Full tables) same lines h k = tt
pivots-after t u v b c d (False level) same lines h k = tt
pivots-after t u v b c d (Ended Units) same lines h k = chains-both t u v b c d same lines h k
pivots-after t u v b c d (Ended Memory) same lines h k = tt
pivots-after t u v b c d (Ended (Cancelled w)) same lines h k = tt
