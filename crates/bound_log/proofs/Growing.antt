-- Variables more.
use Rattle.std.proofs.Common.{◌≡◌, ◌≢◌, ℕ, ◌<◌, ◌≤◌, ◌⊎◌, pos, List, [], ◌++◌, length, refl, sym, ap, ◌∙◌, subst, inl, inr, arith}
use Rattle.std.specs.Prelude.{All, Result, Ok, Err, OnErr}
use Rattle.std.proofs.lemmas.List.{append_assoc, length-append, get_or_append_left}
use Rattle.std.proofs.lemmas.List.Elements.{All-weaker, All-map}
use Rattle.fraction128.specs.Whole.{InRange}
use Rattle.fraction128.specs.declared.Summand.{Summand}
use Rattle.fraction128.specs.declared.Column.{Column}
use Rattle.simplex_steps.specs.State.{column_in, no_column}
use Rattle.sum_bounds.specs.Bounds.{State, sums, with_leaf}
use Rattle.sum_bounds.specs.Written.{HasLeaf}
use Rattle.smt_meaning.specs.declared.clauses.Summand as Places
use Rattle.sum_bounds.specs.Clauses.{plain}
use Rattle.bound_log.specs.Growth.{IsGrown, IsProper}
use Rattle.bound_log.proofs.Telling.{no_more}

pub grown_self : (s : State) → IsGrown s s
grown_self s = record { more = []; columns = sym (no_more s.columns); more_rows = []; rows = sym (no_more s.table.rows); told = refl }

pub grown_same : (s u : State) → u ≡ s → IsGrown s u
grown_same s u e = subst (IsGrown s) (sym e) (grown_self s)

pub grown_through : (s t u : State) → IsGrown s t → IsGrown t u → IsGrown s u
grown_through s t u g h = record {
  more = g.more ++ h.more;
  columns = h.columns ∙ ap (λ cs. cs ++ h.more) g.columns ∙ append_assoc s.columns g.more h.more;
  more_rows = g.more_rows ++ h.more_rows;
  rows = h.rows ∙ ap (λ rs. rs ++ h.more_rows) g.rows ∙ append_assoc s.table.rows g.more_rows h.more_rows;
  told = h.told ∙ g.told;
}

pub grown_by_leaf : (s u : State) (term : ℕ) → (u ≡ s) ⊎ (u ≡ with_leaf s term) → IsGrown s u
grown_by_leaf s u term (inl e) = grown_same s u e
grown_by_leaf s u term (inr e) = subst (IsGrown s) (sym e) (record { more = _; columns = refl; more_rows = []; rows = sym (no_more s.table.rows); told = refl })

pub fewer : (s u : State) → IsGrown s u → length s.columns ≤ length u.columns
fewer s u g = omega (arith, ap length g.columns, length-append s.columns g.more)

pub same_column : (s u : State) (i : ℕ) → IsGrown s u → i < length s.columns → column_in u.columns i ≡ column_in s.columns i
same_column s u i g less = ap (λ cs. column_in cs i) g.columns ∙ get_or_append_left s.columns g.more no_column i less

pub leaf_kept : (s u : State) (term : ℕ) → IsGrown s u → HasLeaf s.columns term → HasLeaf u.columns term
leaf_kept s u term g h = (h.0, (let le = fewer s u g in let less = h.1 in omega arith), ap (λ (c : Column). c.sum) (same_column s u h.0 g h.1) ∙ h.2)

pub leaves_kept : (s u : State) (ps : List Summand) → IsGrown s u → All (λ (p : Summand). HasLeaf s.columns p.term) ps → All (λ (p : Summand). HasLeaf u.columns p.term) ps
leaves_kept s u ps g h = All-weaker (λ (p : Summand). HasLeaf s.columns p.term) (λ (p : Summand). HasLeaf u.columns p.term) (λ p l. leaf_kept s u p.term g l) ps h

-- variables keep their sums
pub record KeepsSums (s u : State) : Type 0 where
  pub fewer : length s.columns ≤ length u.columns
  pub each : (i : ℕ) → i < length s.columns → sums u i ≡ sums s i

pub keeps_where_grown : (s u : State) → IsGrown s u → KeepsSums s u
keeps_where_grown s u g = record { fewer = fewer s u g; each = λ i less. ap (λ (c : Column). c.sum) (same_column s u i g less) }

pub keeps_self : (s : State) → KeepsSums s s
keeps_self s = record { fewer = omega arith; each = λ i less. refl }

-- the summands of a sum over terms have numbers of the range other than 0
pub proper_plain : (ps : List Places.Summand) → All IsProper ps → All (λ (p : Summand). InRange p.coefficient × (p.coefficient ≢ pos 0)) (plain ps)
proper_plain ps h =
    All-map (λ (p : Summand). InRange p.coefficient × (p.coefficient ≢ pos 0)) (λ (p : Places.Summand). record { coefficient = p.coefficient; term = p.term }) ps
    (All-weaker IsProper (λ (p : Places.Summand). InRange p.coefficient × (p.coefficient ≢ pos 0)) (λ p proper. (proper.in_range, proper.nonzero)) ps h)

pub in_err : {T E : Type 0} (r : Result T E) (P : Type 0) → P → OnErr r P
in_err (Ok x) P h = tt
in_err (Err e) P h = h
