-- One clause more in a store.
use Rattle.std.proofs.Common.{◌≡◌, ℕ, ◌+◌, ◌<◌, ◌≤◌, List, [], ◌∷◌, ◌++◌, map, length, take, get_or, All, Contains, slice_index_or, subst, sym}
use Rattle.std.specs.Prelude.{Result, Ok, Err, OnOk, ⊤}
use Rattle.std.specs.declared.alloc.AllocError.{AllocError}
use Rattle.std.proofs.lemmas.List.{take_all}
use Rattle.std.proofs.lemmas.List.Elements.{All-push, All-more, All-weaker, All-same, All-map, Contains-append_left, Contains-push, Contains-get_or}
use Rattle.literals.specs.Signed.{Signed}
use Rattle.clause_store.specs.Stored.{Kept, Stored}
use Rattle.smt_meaning.specs.declared.clauses.Atom.{Atom}
use Rattle.smt_meaning.specs.Term.{Tree, tree_at}
use Rattle.first_clauses.specs.Turned.{IsKeptTurned}
use Rattle.smt_meaning.specs.Stack.{assertions_of}
use Rattle.smt_meaning.specs.StackCommand.{Stack}
use Rattle.scope_stack.specs.declared.answers.Assertion.{Assertion}
use Rattle.scope_stack.specs.Shown.{AreAsserted}
use Rattle.search_port.specs.State.{Reading}
use Rattle.first_clauses.specs.PartClausesFirst.{IsClause, IsBegun, HasClause, IsAsserted}

abbrev pub with_clause : Stored → Kept → Stored
with_clause s k = record s { clauses = s.clauses ++ k ∷ [] }

pub begun_more : (q : Reading) (s new : Stored) (k : Kept) → new ≡ with_clause s k → IsBegun q s → IsClause q k.level k.literals → IsBegun q new
begun_more q s new k e b c =
    subst (IsBegun q) (sym e)
    (record {
      steps = b.steps;
      depth = b.depth;
      atoms = b.atoms;
      clauses = All-push (λ (x : Kept). IsClause q x.level x.literals) s.clauses k b.clauses c;
    })

pub stays : (s new : Stored) (k c : Kept) → new ≡ with_clause s k → Contains s.clauses c → Contains new.clauses c
stays s new k c e h = subst (λ (x : Stored). Contains x.clauses c) (sym e) (Contains-append_left s.clauses (k ∷ []) c h)

pub has : (s new : Stored) (k : Kept) (ls : List Signed) → new ≡ with_clause s k → k.literals ≡ ls → HasClause new.clauses ls
has s new k ls e l = record { kept = k; among = subst (λ (x : Stored). Contains x.clauses k) (sym e) (Contains-push s.clauses k); literals = l }

pub known_clause : (q : Reading) (s : Stored) (ls : List Signed) → IsBegun q s → IsClause q 0 ls → All (λ (l : Signed). l.atom < s.trail.atoms) ls
known_clause q s ls b h = λ j e m. subst (λ n. (slice_index_or ls j e).atom < n) (sym b.atoms) (h.over.within (slice_index_or ls j e) (Contains-get_or ls j e m))

pub known : (q : Reading) (s : Stored) (cs : List (List Signed)) → IsBegun q s → All (IsClause q 0) cs → All (All (λ (l : Signed). l.atom < s.trail.atoms)) cs
known q s cs b h = λ k d l. known_clause q s (slice_index_or cs k d) b (h k d l)

pub asserted_stays : (trees : List Tree) (table : List Atom) (old new : List Kept) (t : Tree) → ((c : Kept) → Contains old c → Contains new c) → IsAsserted trees table old t → IsAsserted trees table new t
asserted_stays trees table old new t h a = record {
  number = a.number;
  place = a.place;
  within = a.within;
  atom = a.atom;
  term = a.term;
  kept = record { kept = a.kept.kept; among = h a.kept.kept a.kept.among; literals = a.kept.literals };
}

-- ---- the assertions

abbrev term_of : List Tree → Assertion → Tree
term_of trees a = tree_at trees a.term

pub all_asserted : (s : Stack) (xs : List Assertion) (table : List Atom) (clauses : List Kept) → AreAsserted s xs → All (λ (a : Assertion). IsAsserted s.trees table clauses (tree_at s.trees a.term)) xs
    → All (IsAsserted s.trees table clauses) (assertions_of s.frames)
all_asserted s xs table clauses h a =
    All-same (IsAsserted s.trees table clauses) (assertions_of s.frames) (map (term_of s.trees) xs) (sym h.terms) (All-map (IsAsserted s.trees table clauses) (term_of s.trees) xs a)

pub assertions_more : (trees : List Tree) (table : List Atom) (old new : List Kept) (xs : List Assertion) (i : ℕ) (item : Assertion) → i < length xs → item ≡ get_or xs i item
    → ((c : Kept) → Contains old c → Contains new c) → All (λ (a : Assertion). IsAsserted trees table old (tree_at trees a.term)) (take i xs) → IsAsserted trees table new (tree_at trees item.term)
    → All (λ (a : Assertion). IsAsserted trees table new (tree_at trees a.term)) (take (i + 1) xs)
assertions_more trees table old new xs i item h e stay before here =
    All-more (λ (a : Assertion). IsAsserted trees table new (tree_at trees a.term)) xs i item h
    (All-weaker (λ (a : Assertion). IsAsserted trees table old (tree_at trees a.term)) (λ (a : Assertion). IsAsserted trees table new (tree_at trees a.term))
    (λ a k. asserted_stays trees table old new (tree_at trees a.term) stay k) (take i xs) before)
    (subst (λ (a : Assertion). IsAsserted trees table new (tree_at trees a.term)) e here)

pub all_of_take : (P : Assertion → Type 0) (xs : List Assertion) (n : ℕ) → length xs ≤ n → All P (take n xs) → All P xs
all_of_take P xs n h a = subst (All P) (take_all n xs h) a

pub at_item : (P : Assertion → Type 0) (xs : List Assertion) (i : ℕ) (item : Assertion) → i < length xs → item ≡ get_or xs i item → All P xs → P item
at_item P xs i item h e a = subst P (sym e) (a i item h)

pub on_ok : (r : Result ⊤ AllocError) (P Q : Type 0) → OnOk r P → (P → Q) → OnOk r Q
on_ok (Ok u) P Q h f = f h
on_ok (Err e) P Q h f = h

-- ---- clauses that stay

pub clause_stays : (old new : List Kept) → ((c : Kept) → Contains old c → Contains new c) → (ls : List Signed) → HasClause old ls → HasClause new ls
clause_stays old new stay ls h = record { kept = h.kept; among = stay h.kept h.among; literals = h.literals }

turned_stays : (trees : List Tree) (table : List Atom) (old new : List Kept) → ((c : Kept) → Contains old c → Contains new c) → (ls : List Signed) → IsKeptTurned trees table old ls → IsKeptTurned trees table new ls
turned_stays trees table old new stay ls h = record { turned = h.turned; are = h.are; short = h.short; kept = clause_stays old new stay h.turned h.kept }

pub all_turned_stay : (trees : List Tree) (table : List Atom) (old new : List Kept) (cs : List (List Signed)) → ((c : Kept) → Contains old c → Contains new c) → All (IsKeptTurned trees table old) cs → All (IsKeptTurned trees table new) cs
all_turned_stay trees table old new cs stay h = All-weaker (IsKeptTurned trees table old) (IsKeptTurned trees table new) (turned_stays trees table old new stay) cs h
