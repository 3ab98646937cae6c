-- How what is known is kept: one list of summands, and for each term where its sum stands in it. No public contract speaks of it.
use Rattle.std.specs.Prelude.{◌≡◌, ℕ, ◌<◌, ◌≤◌, List, length, map, All, slice_index, slice_index_or, slice_range, [], Some, MatchOption, false, ◌++◌, ◌∷◌}
use Rattle.smt_meaning.specs.declared.clauses.Summand.{Summand}
use Rattle.smt_meaning.specs.declared.terms.Head.{Head}
use Rattle.smt_meaning.specs.Linear.{Form, head_folding_fits}
use Rattle.linear_forms.specs.declared.entries.Entry.{Entry}
use Rattle.linear_forms.specs.declared.nodes.Work.{Work}
use Rattle.linear_forms.specs.Scratch.{AreZero}
use Rattle.linear_forms.specs.Sums.{IsSum}
use Rattle.linear_forms.specs.Folding.{form_of, IsFolded}
use Rattle.smt_meaning.specs.Term.{Tree}
use Rattle.linear_forms.specs.Table.{Known, known_at, AreFormsTo}

abbrev pub known_of : List Summand → Entry → Known
known_of all e = record { form = form_of (slice_range all e.start e.end) e.constant; outside = e.outside }

abbrev pub knowns : List Summand → List Entry → List Known
knowns all es = map (known_of all) es

-- each sum is a part of the list
pub record AreLaid (size : ℕ) (es : List Entry) : Type 0 where
  pub starts : (k : ℕ) (d : Entry) → k < length es → (slice_index_or es k d).start ≤ (slice_index_or es k d).end
  pub ends : (k : ℕ) (d : Entry) → k < length es → (slice_index_or es k d).end ≤ size

-- the forms at these places
abbrev pub forms_at : List Known → List ℕ → List Form
forms_at known is = map (λ i. (known_at known i).form) is

-- the forms at these places have places below a bound
abbrev pub AreSums : ℕ → List Known → List ℕ → Type 0
AreSums bound known is = All (λ i. IsSum bound (known_at known i).form.sum) is

-- between two foldings no coefficient and no place is noted
pub record IsReady (w : Work) : Type 0 where
  pub zero_values : AreZero w.values.items
  pub no_places : w.touched.items ≡ []

-- at one of these places a folding leaves the range at this part
pub record HasOutside (known : List Known) (is : List ℕ) (part : ℕ) : Type 0 where
  pub index : ℕ
  pub within : index < length is
  pub here : (known_at known (slice_index is index)).outside ≡ Some part

-- what is known of the next term, whose arguments' foldings stay in the range: its form, or that folding it leaves the range
pub record IsFoldedNext (old new : List Known) (head : Head) (is : List ℕ) (place : ℕ) : Type 0 where
  pub next : Known
  pub added : new ≡ old ++ next ∷ []
  pub folded : MatchOption next.outside (IsFolded head (forms_at old is) place next.form) (λ p. (p ≡ place) × (head_folding_fits head (forms_at old is) ≡ false))

pub record IsTable (es : List Entry) (all : List Summand) (w : Work) : Type 0 where
  pub laid : AreLaid (length all) es
  pub ready : IsReady w

-- while the terms of a list are folded, from a place on
pub record IsCovering (ts : List Tree) (from place : ℕ) (es : List Entry) (all : List Summand) (w : Work) : Type 0 where
  pub laid : AreLaid (length all) es
  pub ready : IsReady w
  pub size : length es ≡ place
  pub more : from ≤ place
  pub within : place ≤ length ts
  pub forms : AreFormsTo ts place (knowns all es)
