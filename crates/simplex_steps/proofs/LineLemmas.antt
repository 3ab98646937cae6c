-- The lines that are kept along a run.
use Rattle.std.proofs.Common.{◌≡◌, ℕ, ℤ, pos, ◌+◌, ◌<◌, sym, ap, ap₂, ◌∙◌, subst, refl, arith, List, [], ◌∷◌, ◌++◌, length, map, append_assoc, Bool, true, false, cond, Some}
use Rattle.fraction128.specs.declared.ratio.Ratio.{Ratio}
use Rattle.fraction128.specs.Number.{whole}
use Rattle.fraction128.specs.declared.Entry.{Entry}
use Rattle.fraction128.specs.declared.Column.{Column}
use Rattle.fraction128.specs.declared.Grid.{Grid}
use Rattle.fraction128.specs.declared.Member.{Member}
use Rattle.fraction128.specs.declared.Line.{Line}
use Rattle.fraction128.specs.Grid.{Step, take, move, pivot, next_step, after, entries_of}
use Rattle.fraction128.specs.Lines.{pivot_line}
use Rattle.simplex_steps.specs.Law.{Runs, pivots, lines_of, IsLawful, KeepsResting}
use Rattle.simplex_steps.proofs.Independent.{runs_exchange}
use Rattle.simplex_steps.proofs.Resting.{runs_rest}
use Rattle.tableau.specs.Table.{Table, IsTable, row_at}
use Rattle.simplex_steps.specs.State.{grid_of, member_in}
use Rattle.simplex_steps.specs.declared.find.Turn.{Turn}
use Rattle.simplex_steps.specs.Run.{Reaches, IsTurn, IsAdvanced, Records, KeepsLines, kept_lines, turn_lines}
use Rattle.simplex_steps.proofs.Columns.{row_of_basic}
use Rattle.simplex_steps.proofs.Sound.{runs_append, fits_append, pivots_append}

pub line_made : (t : Table) (cs : List Column) (place b c : ℕ) (x : Ratio) (m : Member) (es : List Entry) (ms : List Member) → IsTable t → place < length t.rows → b ≡ (row_at t.rows place).basic → x ≡ whole (pos 1)
    → m ≡ member_in cs (record { variable = b; coefficient = x }) → es ≡ (row_at t.rows place).entries → ms ≡ map (member_in cs) es
    → (let l : Line = record { basic = Some m; entries = ms; moves = Some c } in l ≡ pivot_line (grid_of t cs) (row_at t.rows place).basic c)
line_made t cs place b c x m es ms facts lt b_is x_is m_is es_is ms_is =
    ap₂ (λ (n : Member) (ns : List Member). let l : Line = record { basic = Some n; entries = ns; moves = Some c } in l)
    (m_is ∙ ap₂ (λ (i : ℕ) (y : Ratio). member_in cs (record { variable = i; coefficient = y })) b_is x_is)
    (ms_is ∙ ap (map (member_in cs)) (es_is ∙ sym (ap entries_of (row_of_basic t place facts lt))))

-- ---- lines of runs

pub no_lines : (g : Grid) (ss : List Step) → pivots ss ≡ 0 → lines_of g ss ≡ []
no_lines g [] e = refl
no_lines g (take p ∷ ss) e = no_lines (after g (take p)) ss e
no_lines g (move i k ∷ ss) e = no_lines (after g (move i k)) ss e
no_lines g (pivot b k c ∷ ss) e = absurd (omega (arith, e))

one_line : (g h : Grid) (ss : List Step) (b : ℕ) (k : ℤ) (c : ℕ) → Runs g ss h → pivots ss ≡ 1 → next_step g ≡ Some (pivot b k c) → lines_of g ss ≡ pivot_line g b c ∷ []
one_line g h [] b k c runs e next = absurd (omega (arith, e))
one_line g h (s ∷ ss) b k c runs e next =
    let is : pivot b k c ≡ s = some_step (sym next ∙ runs.0) in
    subst (λ z. pivots (z ∷ ss) ≡ 1 → lines_of g (z ∷ ss) ≡ pivot_line g b c ∷ []) is
    (λ one. ap (λ ls. pivot_line g b c ∷ ls) (no_lines (after g (pivot b k c)) ss (omega (arith, one)))) e
  where
    some_step : {x y : Step} → Some x ≡ Some y → x ≡ y
    some_step e = cc

lines_append : (g h : Grid) (ss ts : List Step) → Runs g ss h → lines_of g (ss ++ ts) ≡ lines_of g ss ++ lines_of h ts
lines_append g h [] ts runs = ap (λ x. lines_of x ts) runs
lines_append g h (take p ∷ ss) ts runs = lines_append (after g (take p)) h ss ts runs.1
lines_append g h (move i k ∷ ss) ts runs = lines_append (after g (move i k)) h ss ts runs.1
lines_append g h (pivot b k c ∷ ss) ts runs = ap (λ ls. pivot_line g b c ∷ ls) (lines_append (after g (pivot b k c)) h ss ts runs.1)

nothing_after : (ls : List Line) → ls ++ [] ≡ ls
nothing_after [] = refl
nothing_after (l ∷ ls) = ap (λ xs. l ∷ xs) (nothing_after ls)

none_kept : (keep : Bool) → cond keep [] [] ≡ (let ls : List Line = [] in ls)
none_kept true = refl
none_kept false = refl

-- ---- lines that are kept

pub records_reach : (keep : Bool) (g h : Grid) (ls : List Line) → Reaches 0 g h → Records keep 0 g h ls ls
records_reach keep g h ls r =
    record {
      steps = r.steps;
      runs = r.runs;
      fits = r.fits;
      count = r.count;
      kept = sym (ap (λ xs. ls ++ cond keep xs []) (no_lines g r.steps r.count) ∙ ap (λ xs. ls ++ xs) (none_kept keep) ∙ nothing_after ls);
    }

pub records_none : (keep : Bool) (g : Grid) (ls : List Line) → Records keep 0 g g ls ls
records_none keep g ls = records_reach keep g g ls (record { steps = []; runs = refl; fits = tt; count = refl })

pub records_turn : (keep : Bool) (t u : Table) (cs ds : List Column) (ls ms : List Line) (turn : Turn) → IsTurn t cs turn → IsAdvanced t cs u ds → ms ≡ ls ++ turn_lines keep t cs turn → Records keep 1 (grid_of t cs) (grid_of u ds) ls ms
records_turn keep t u cs ds ls ms turn is made e =
    let r = made.run.reaches in
    record {
      steps = r.steps;
      runs = r.runs;
      fits = r.fits;
      count = r.count;
      kept = e ∙ ap (λ xs. ls ++ cond keep xs []) (sym (one_line (grid_of t cs) (grid_of u ds) r.steps (row_at t.rows turn.place).basic turn.number turn.entering r.runs r.count is.next));
    }

pub records_through : (keep : Bool) (m n : ℕ) (g h k : Grid) (ls ms ns : List Line) → Records keep m g h ls ms → Records keep n h k ms ns → Records keep (m + n) g k ls ns
records_through keep m n g h k ls ms ns p q =
    record {
      steps = p.steps ++ q.steps;
      runs = runs_append g h k p.steps q.steps p.runs q.runs;
      fits = fits_append g h p.steps q.steps p.runs p.fits q.fits;
      count = pivots_append p.steps q.steps ∙ ap₂ ◌+◌ p.count q.count;
      kept = q.kept ∙ ap (λ xs. xs ++ kept_lines keep h q.steps) p.kept ∙ append_assoc ls (kept_lines keep g p.steps) (kept_lines keep h q.steps)
          ∙ ap (λ xs. ls ++ xs) (both keep) ∙ ap (λ xs. ls ++ cond keep xs []) (sym (lines_append g h p.steps q.steps p.runs));
    }
  where
    both : (z : Bool) → cond z (lines_of g p.steps) [] ++ cond z (lines_of h q.steps) [] ≡ cond z (lines_of g p.steps ++ lines_of h q.steps) []
    both true = refl
    both false = refl

pub records_after : (keep : Bool) (n : ℕ) (g h k : Grid) (ls ns : List Line) → Reaches 0 g h → Records keep n h k ls ns → Records keep n g k ls ns
records_after keep n g h k ls ns r q = subst (λ m. Records keep m g k ls ns) (omega arith) (records_through keep 0 n g h k ls ls ns (records_reach keep g h ls r) q)

pub keeps_lines : (keep : Bool) (n : ℕ) (g h : Grid) (ls ms : List Line) → IsLawful g → Records keep n g h ls ms → KeepsLines keep n g h ls ms
keeps_lines keep n g h ls ms law r =
    record {
      steps = r.steps;
      runs = r.runs;
      fits = r.fits;
      count = r.count;
      kept = r.kept;
      basis = λ is b. runs_exchange g h r.steps is law r.runs b;
    }

pub keeps_none : (keep : Bool) (g : Grid) (ls : List Line) → KeepsLines keep 0 g g ls ls
keeps_none keep g ls =
    record {
      steps = [];
      runs = refl;
      fits = tt;
      count = refl;
      kept = sym (ap (λ xs. ls ++ xs) (none_kept keep) ∙ nothing_after ls);
      basis = λ is b. b;
    }

pub rests : (keep : Bool) (n : ℕ) (g h : Grid) (ls ms : List Line) → IsLawful g → Records keep n g h ls ms → KeepsResting g h
rests keep n g h ls ms law r = runs_rest g h r.steps law r.runs

-- an end that changes nothing
pub records_same : (keep : Bool) (n : ℕ) (g : Grid) (u w : Table) (ds es : List Column) (ls ms ns : List Line) → Records keep n g (grid_of u ds) ls ms → w ≡ u → es ≡ ds → ns ≡ ms → Records keep n g (grid_of w es) ls ns
records_same keep n g u w ds es ls ms ns r a b e =
    subst (λ x. Records keep n g (grid_of x es) ls ns) (sym a) (subst (λ x. Records keep n g (grid_of u x) ls ns) (sym b) (subst (λ x. Records keep n g (grid_of u ds) ls x) (sym e) r))

-- one more pivot
pub records_more : (keep keep' : Bool) (n : ℕ) (g h k : Grid) (ls ms ns : List Line) → keep' ≡ keep → Records keep n g h ls ms → Records keep' 1 h k ms ns → Records keep (n + 1) g k ls ns
records_more keep keep' n g h k ls ms ns e r q = records_through keep n 1 g h k ls ms ns r (subst (λ z. Records z 1 h k ms ns) e q)
