-- What is kept of the judgement of a definition: its terms, in which its parameters can be put in for themselves.
use Rattle.std.specs.Prelude.{◌≡◌, ℕ, zero, suc, ◌+◌, ◌<◌, List, [], ◌∷◌, ◌++◌, map, Option, Some, None}
use Rattle.smt_meaning.specs.declared.terms.Head.TheVariants.{Place}
use Rattle.smt_meaning.specs.Term.{Tree, Trees, node, none}
use Rattle.smt_meaning.specs.TreeShape.{argument, put, is_constant, is_linear}
use Rattle.smt_meaning.specs.Declaration.{Declaration, Body}
use Rattle.smt_meaning.specs.Sorts.{with_all}
use Rattle.smt_sorts.specs.declared.workshop.Workshop.{Workshop}
use Rattle.smt_sorts.specs.declared.workshop.Kept.{Kept}

-- so many places, from this one on
abbrev pub places_from : ℕ → ℕ → List Tree
places_from k zero = []
places_from k (suc n) = node (Place k) none ∷ places_from (k + 1) n

-- the arguments are so many parameters themselves
abbrev pub AreOwn : ℕ → Trees → Type 0
AreOwn n xs = (k : ℕ) → k < n → argument xs k ≡ node (Place k) none

-- it is that of a definition with this body
pub record IsWorkshop (b : Body) (w : Workshop) : Type 0 where
  pub store : w.store.trees ≡ b.terms
  pub terms : w.terms ≡ b.terms
  pub constant : w.constant ≡ is_constant b.term
  pub linear : w.linear ≡ is_linear b.term
  -- the parameters come first
  pub rest : List Tree
  pub first : b.terms ≡ places_from 0 w.parameters ++ rest
  -- with the parameters put in for themselves the terms stay, and join the parameters in this order
  pub own : (xs : Trees) → AreOwn w.parameters xs → map (put xs) b.terms ≡ b.terms
  pub again : with_all (places_from 0 w.parameters) b.terms ≡ b.terms

abbrev pub IsWorkshopOf : Option Body → Workshop → Type 0
IsWorkshopOf None w = ⊥
IsWorkshopOf (Some b) w = IsWorkshop b w

-- a declaration with this id is a definition of which this is kept
abbrev pub IsOf : List Declaration → Kept → Type 0
IsOf [] k = Unit {0}
IsOf (d ∷ ds) k = (d.id ≡ k.id → IsWorkshopOf d.body k.workshop) × IsOf ds k

abbrev pub IsOfAny : List Declaration → Option Kept → Type 0
IsOfAny ds None = Unit {0}
IsOfAny ds (Some k) = IsOf ds k

-- so does a table keep it, where so many ids were given
abbrev pub IsKept : ℕ → List Declaration → Option Kept → Type 0
IsKept given ds None = Unit {0}
IsKept given ds (Some k) = (k.id < given) × IsOf ds k
