-- The terms of a proof as they are kept: the different trees that they have are filed once, in the order of their first terms.
use Rattle.std.specs.Prelude.{◌≡◌, ◌⊎◌, ◌<◌, ◌+◌, ◌^◌, All, ◌++◌, ◌∷◌, [], ℕ, List, length, take, slice_index, Option, Some, None, true, false, ℤ, Bool}
use Rattle.fraction128.specs.Whole.{InRange}
use Rattle.smt_meaning.specs.declared.terms.Head.{Head}
use Rattle.smt_meaning.specs.declared.nodes.Node.{Node}
use Rattle.smt_meaning.specs.declared.clauses.Summand.{Summand}
use Rattle.smt_meaning.specs.declared.clauses.Atom.{Atom}
use Rattle.smt_meaning.specs.declared.clauses.Atom.TheVariants.{AtMost}
use Rattle.smt_meaning.specs.declared.values.Sort.{Sort}
use Rattle.smt_meaning.specs.Declaration.{Declaration}
use Rattle.smt_meaning.specs.Term.{Tree, tree_at}
use Rattle.smt_meaning.specs.Linear.{sum_fits}
use Rattle.smt_meaning.specs.Nodes.{pick, trees_of}
use Rattle.proof_meaning.specs.Proof.{AreTerms, written_sort, meant_at}
use Rattle.term_store.specs.Terms.{tree_with, IsPlace, IsNew, AreDifferent, AreComplete}
use Rattle.linear_forms.specs.Table.{AreForms}
use Rattle.proof_terms.specs.declared.terms_facts.Fact.{Fact}
use Rattle.proof_terms.specs.declared.terms_table.TermTable.{TermTable}
use Rattle.proof_terms.specs.TermFacts.{fact_at, facts_at, places_at, sorts_of, is_linear_here, divides_at, IsHeldAt, IsFact}
use Rattle.proof_terms.specs.TermRenaming.{first_at, renamed_bound}

-- the place among these of the tree that a term stands for, if it is one of them, where those for which its arguments stand have these places, or one of them has none
abbrev pub IsHeldPlace : List Tree → Head → Option (List ℕ) → Option ℕ → Type 0
IsHeldPlace hs h None o = o ≡ None
IsHeldPlace hs h (Some is) o = IsHeldAt hs (meant_at h (pick hs is)) o

-- each term is at the place of its tree, and a fact is kept of each tree
pub record AreFiled (ds : List Declaration) (hs : List Tree) (ns : List Node) (places : List ℕ) (us : List Tree) (facts : List Fact) : Type 0 where
  pub terms : AreTerms ds ns (trees_of ns)
  pub few : length ns < 2 ^ 32
  pub places_count : length places ≡ length ns
  pub placed : (i : ℕ) → i < length ns → IsPlace us (slice_index places i) (tree_at (trees_of ns) i)
  pub different : AreDifferent us
  pub facts_count : length facts ≡ length us
  pub each : (p : ℕ) → p < length us → IsFact ds hs (trees_of ns) (tree_at us p) (fact_at facts p)
  pub ascending : (p q : ℕ) → p < q → q < length us → (fact_at facts p).first < (fact_at facts q).first

-- and beside them stand the stack's terms, and the linear forms of the first trees
pub record IsTable (ds : List Declaration) (hs : List Tree) (t : TermTable) : Type 0 where
  pub filed : AreFiled ds hs t.nodes t.places.items t.distinct.store.trees t.distinct.facts.items
  pub held : t.held.trees ≡ hs
  pub complete : AreComplete hs
  pub held_different : AreDifferent hs
  pub forms : AreForms (take (length t.forms) t.distinct.store.trees) t.forms

-- a tree that was there, or that joined the trees with its fact
abbrev pub IsInterned : List Tree → List Fact → List Tree → List Fact → Tree → Fact → ℕ → Type 0
IsInterned us facts vs new t f p =
    (IsPlace us p t × (vs ≡ us) × (new ≡ facts)) ⊎ (IsNew us t × (p ≡ length us) × (vs ≡ us ++ t ∷ []) × (new ≡ facts ++ f ∷ []))

-- a term with this head and these arguments joined the terms, with a fact of its tree
pub record IsEntered (ns : List Node) (places : List ℕ) (us : List Tree) (facts : List Fact) (head : Head) (arguments seen : List ℕ) (f : Fact) (ms : List Node) (more' : List ℕ) (vs : List Tree) (new : List Fact) : Type 0 where
  pub place : ℕ
  pub interned : IsInterned us facts vs new (tree_with us head seen) f place
  pub nodes : ms ≡ ns ++ record { head = head; arguments = arguments } ∷ []
  pub places_are : more' ≡ places ++ place ∷ []

-- a term with this head, and arguments at these places of which this is kept, has this sort, and it is linear, as a product and as a division
pub record MayBeTerm (ds : List Declaration) (us : List Tree) (head : Head) (places : List ℕ) (facts : List Fact) (sort : Sort) : Type 0 where
  pub sort_is : written_sort ds head (sorts_of facts) ≡ Some sort
  pub linear : is_linear_here head facts ≡ true
  pub divides : divides_at head (pick us places) ≡ true

-- it isn't so
abbrev pub IsNoTerm : List Declaration → List Tree → Head → List ℕ → List Fact → Type 0
IsNoTerm ds us head places facts = (written_sort ds head (sorts_of facts) ≡ None) ⊎ (is_linear_here head facts ≡ false) ⊎ (divides_at head (pick us places) ≡ false)

-- a term with this head and these arguments may join the terms, by what was gathered of its arguments
pub record CanEnter (ds : List Declaration) (hs : List Tree) (t : TermTable) (head : Head) (arguments : List ℕ) (sort : Sort) : Type 0 where
  pub table : IsTable ds hs t
  pub room : length t.nodes + 1 < 2 ^ 32
  pub below : All (λ i. i < length t.nodes) arguments
  pub places : t.arguments.places.items ≡ places_at t.places.items arguments
  pub facts : t.arguments.facts.items ≡ facts_at t.distinct.facts.items (places_at t.places.items arguments)
  pub may : MayBeTerm ds t.distinct.store.trees head t.arguments.places.items t.arguments.facts.items sort

-- by some signature, beside the terms of some stack
pub record MayEnter (t : TermTable) (head : Head) (arguments : List ℕ) (sort : Sort) : Type 0 where
  pub declared : List Declaration
  pub held : List Tree
  pub can : CanEnter declared held t head arguments sort

-- a bound over the places of trees, each of which is named by the first term that has it; folding it stays in the range
pub record IsRenamedBound (facts : List Fact) (fit : Bool) (a : Atom) (sum : List Summand) (limit : ℤ) : Type 0 where
  pub fits : fit ≡ true
  pub atom : AtMost sum limit ≡ renamed_bound (first_at facts) a
  pub coefficients : sum_fits sum ≡ true
  pub in_range : InRange limit
