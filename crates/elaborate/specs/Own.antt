-- The terms of an earlier definition, in a body that stored none before its use but the first of them.
use Rattle.std.specs.Prelude.{◌≡◌, ℕ, ◌+◌, ◌<◌, Bool, true, false, ◌&&◌, nat_eq, nat_lt, nat_le, List, [], ◌∷◌, map, length, Option, Some, None}
use Rattle.smt_meaning.specs.declared.nodes.Node.{Node}
use Rattle.smt_meaning.specs.declared.terms.Head.{Head}
use Rattle.smt_meaning.specs.declared.terms.Head.TheVariants.{Place}
use Rattle.smt_meaning.specs.declared.terms.Operator.{Operator}
use Rattle.smt_meaning.specs.Declaration.{Declaration, Body}
use Rattle.smt_meaning.specs.Signature.{look_up, operators, find_function, sorts_eq}
use Rattle.smt_meaning.specs.Sorts.{Rules}
use Rattle.smt_meaning.specs.Term.{Tree, Trees, tree_at}
use Rattle.smt_meaning.specs.TreeShape.{put, is_constant, is_linear}
use Rattle.term_store.specs.Terms.{Terms}
use Rattle.smt_sorts.specs.declared.workshop.Workshop.{Workshop}
use Rattle.smt_sorts.specs.declared.workshop.Kept.{Kept}
use Rattle.smt_sorts.specs.Workshop.{places_from, AreOwn, IsWorkshop, IsWorkshopOf, IsOf, IsOfAny}
use Rattle.elaborate.specs.declared.frame.Binding.{Binding}
use Rattle.elaborate.specs.declared.own.Apart.{Apart}
use Rattle.elaborate.specs.declared.own.Taken.{Taken}
use Rattle.elaborate.specs.declared.value.Value.{Value}
use Rattle.elaborate.specs.Frames.{find_value}
use Rattle.elaborate.specs.Values.{sort_of, IsLonger}

-- a list of terms begins with the parameters, and with the terms that were taken
pub record IsTaken (ts : List Tree) (a : Apart) : Type 0 where
  pub first : IsLonger (places_from 0 a.parameters) ts
  pub taken : IsLonger a.terms ts
  pub count : a.count ≡ length a.terms
  pub own : (xs : Trees) → AreOwn a.parameters xs → map (put xs) a.terms ≡ a.terms

-- it is one of these declarations
abbrev pub IsDeclared : List Declaration → Declaration → Type 0
IsDeclared ds d = (k : Kept) → IsOf ds k → d.id ≡ k.id → IsWorkshopOf d.body k.workshop

-- a body has these terms, and its term is as the definition that was taken says
pub record IsTakenBody (t : Taken) (ts : List Tree) (b : Body) : Type 0 where
  pub terms : ts ≡ b.terms
  pub constant : t.constant ≡ is_constant b.term
  pub linear : t.linear ≡ is_linear b.term

abbrev pub IsTakenBodyOf : Taken → List Tree → Option Body → Type 0
IsTakenBodyOf t ts None = ⊥
IsTakenBodyOf t ts (Some b) = IsTakenBody t ts b

-- a declaration with the id of the definition that was taken has these terms
abbrev pub IsTakenOf : List Declaration → List Tree → Option Taken → Type 0
IsTakenOf ds ts None = Unit {0}
IsTakenOf ds ts (Some t) = (d : Declaration) → IsDeclared ds d → d.id ≡ t.id → IsTakenBodyOf t ts d.body

pub record IsApart (ds : List Declaration) (ts : List Tree) (a : Apart) : Type 0 where
  pub all : IsTaken ts a
  pub kept : IsOfAny ds a.kept
  pub from : IsTakenOf ds a.terms a.taken

-- each is the parameter at its place
abbrev pub are_own : ℕ → List Value → Bool
are_own k [] = true
are_own k (v ∷ vs) = nat_eq v.id k && are_own (k + 1) vs

-- the first so many trees of two lists are the same
abbrev pub AreAlike : ℕ → List Tree → List Tree → Type 0
AreAlike k ts us = (i : ℕ) → i < k → tree_at ts i ≡ tree_at us i

-- the terms that are kept are those of this declaration, put in for whose parameters are the parameters, and begin with all that is stored
pub record IsFit (k : Kept) (d : Declaration) (vs : List Value) (s : Terms) (n : ℕ) : Type 0 where
  pub id : k.id ≡ d.id
  pub parameters : k.workshop.parameters ≡ n
  pub stored : IsLonger s.trees k.workshop.store.trees
  pub limit : k.workshop.store.limit ≡ s.limit
  pub given : length vs ≡ n
  pub own : are_own 0 vs ≡ true

pub record CanTake (r : Rules) (d : Declaration) (vs : List Value) (s : Terms) (a : Apart) : Type 0 where
  pub unclosed : r.closed ≡ false
  pub kept : Kept
  pub is_kept : a.kept ≡ Some kept
  pub fit : IsFit kept d vs s a.parameters

-- the terms that were taken are those of this declaration, put in for whose parameters are the parameters
pub record IsFitAgain (t : Taken) (d : Declaration) (vs : List Value) (n : ℕ) : Type 0 where
  pub id : t.id ≡ d.id
  pub given : length vs ≡ n
  pub own : are_own 0 vs ≡ true

pub record WasTaken (r : Rules) (d : Declaration) (vs : List Value) (a : Apart) : Type 0 where
  pub unclosed : r.closed ≡ false
  pub taken : Taken
  pub is_taken : a.taken ≡ Some taken
  pub fit : IsFitAgain taken d vs a.parameters

-- once terms were taken they are those of this declaration, and before that they can be taken
abbrev pub IsThere : Rules → Declaration → List Value → Terms → Apart → Option Taken → Type 0
IsThere r d vs s a None = CanTake r d vs s a
IsThere r d vs s a (Some t) = WasTaken r d vs a

pub record IsBareOwn (r : Rules) (n : List ℕ) (bs : List Binding) (ds : List Declaration) (s : Terms) (a : Apart) (d : Declaration) : Type 0 where
  pub unbound : find_value n bs ≡ None
  pub no_operator : look_up n operators ≡ None
  pub found : find_function n ds ≡ Some d
  pub count : nat_eq (length d.rank.arguments) 0 ≡ true
  pub there : IsThere r d [] s a a.taken

pub record IsAppliedOwn (r : Rules) (n : List ℕ) (o : Option Operator) (vs : List Value) (ds : List Declaration) (s : Terms) (a : Apart) (d : Declaration) : Type 0 where
  pub no_operator : o ≡ None
  pub found : find_function n ds ≡ Some d
  pub count : (nat_eq (length vs) (length d.rank.arguments) && nat_le 1 (length vs)) ≡ true
  pub sorts : sorts_eq (map sort_of vs) d.rank.arguments ≡ true
  pub there : IsThere r d vs s a a.taken

-- what is left of the judgement of a body
abbrev pub IsLeft : Body → Option Workshop → Type 0
IsLeft b None = Unit {0}
IsLeft b (Some w) = IsWorkshop b w

-- the node is no parameter but one of so many
abbrev pub is_own_head : ℕ → Head → List ℕ → Bool
is_own_head n (Place k) is = nat_lt k n && nat_eq (length is) 0
is_own_head n h is = true

abbrev pub is_own_node : ℕ → Node → Bool
is_own_node n m = is_own_head n m.head m.arguments

abbrev pub are_own_nodes : ℕ → List Node → Bool
are_own_nodes n [] = true
are_own_nodes n (m ∷ ms) = is_own_node n m && are_own_nodes n ms
