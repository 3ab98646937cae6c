-- A small race on the definitions: a clause of a level that is popped goes with it.
use Rattle.std.proofs.Common.{◌≡◌, Bool, true, false, [], ◌∷◌, refl, arith, All}
use Rattle.std.specs.Prelude.{codes, not, IsTrue, None, Some}
use Rattle.std.proofs.lemmas.List.Elements.{All-nil, All-cons}
use Rattle.smt_meaning.specs.declared.clauses.Clause.{Clause}
use Rattle.smt_meaning.specs.declared.clauses.Atom.TheVariants.{Truth}
use Rattle.smt_meaning.specs.declared.tokens.Token.TheVariants.{Enter, Leave, Symbol}
use Rattle.smt_meaning.specs.declared.terms.Head.TheVariants.{Theory, Symbol as Function}
use Rattle.smt_meaning.specs.declared.terms.Operator.TheVariants.{Not}
use Rattle.smt_meaning.specs.declared.values.Sort.TheVariants.{Bool as Truths}
use Rattle.smt_meaning.specs.Declaration.{Declaration}
use Rattle.smt_meaning.specs.Term.{Tree, node, none, more, Interpretation, value, truth_of}
use Rattle.smt_meaning.specs.Sorts.{◌>>=◌, ◌>>◌, return, refuse, require, required, the_scope, note, found}
use Rattle.race_model.specs.declared.event.Premise.TheVariants.{Asserted}
use Rattle.race_model.specs.declared.event.Event.{Event}
use Rattle.race_model.specs.declared.event.Event.TheVariants.{Learn, Share, TakeBatch, Pop, Push, Assert}
use Rattle.race_model.specs.Race.{State, IsBoolTerm, Supports, IsShown, Passes, IsRace, after, fresh_worker, worker_at}

abbrev p : Declaration
p = record { id = 0; name = codes "p"; rank = record { arguments = []; result = Truths }; body = None; is_sort = false; is_name = false }

abbrev p_tree : Tree
p_tree = node (Function 0) none

abbrev not_p : Tree
not_p = node (Theory Not) (more p_tree none)

-- two workers, where p is declared
abbrev first : State
first = record {
  base = record { trees = p_tree ∷ not_p ∷ []; frames = record { declared = p ∷ []; asserted = [] } ∷ [] };
  entries = [];
  workers = fresh_worker ∷ fresh_worker ∷ [];
  winner = None;
  global = false;
}

abbrev states : Event
states = Assert (record { declared = []; formula = Some (record { text = Symbol (codes "p") ∷ []; term = 0 }); named = [] })

abbrev denies : Event
denies = Assert (record { declared = []; formula = Some (record { text = Enter ∷ Symbol (codes "not") ∷ Symbol (codes "p") ∷ Leave ∷ []; term = 1 }); named = [] })

-- the clause without literals, at level 1
abbrev refutation : Clause
refutation = record { literals = []; level = 1 }

abbrev derives : Event
derives = Learn 0 (Asserted 0 0 ∷ Asserted 1 0 ∷ []) refutation

is_stated : IsBoolTerm (p ∷ []) (Symbol (codes "p") ∷ []) p_tree []
unfolding ◌>>=◌ ◌>>◌ return refuse require required the_scope note found
is_stated = record { given = 1; after = record { signature = p ∷ []; given = 1; trees = p_tree ∷ [] }; judged = refl; names_are = refl }

is_denied : IsBoolTerm (p ∷ []) (Enter ∷ Symbol (codes "not") ∷ Symbol (codes "p") ∷ Leave ∷ []) not_p []
unfolding ◌>>=◌ ◌>>◌ return refuse require required the_scope note found
is_denied = record { given = 1; after = record { signature = p ∷ []; given = 1; trees = p_tree ∷ not_p ∷ [] }; judged = refl; names_are = refl }

both : (b : Bool) → IsTrue b → IsTrue (not b) → ⊥
both true h k = cc
both false h k = cc

no_premise_holds : (I : Interpretation) → IsTrue (truth_of (value I p_tree)) → IsTrue (truth_of (value I not_p)) → ⊥
no_premise_holds I h k = both (truth_of (value I p_tree)) h k

-- the states one after another
abbrev s1 : State
s1 = after first states

abbrev s2 : State
s2 = after s1 (Push 1)

abbrev s3 : State
s3 = after s2 denies

abbrev s4 : State
s4 = after s3 derives

abbrev s5 : State
s5 = after s4 (Share 0 refutation)

abbrev s6 : State
s6 = after s5 (TakeBatch 1)

abbrev s7 : State
s7 = after s6 (Pop 1)

is_shown : IsShown s3 (Asserted 0 0 ∷ Asserted 1 0 ∷ []) refutation
is_shown = record {
  true_wherever = λ I i h. absurd (no_premise_holds I (h 0 (Asserted 0 0) (omega arith)) (h 1 (Asserted 0 0) (omega arith)));
  declared = All-nil _;
  within = All-nil _;
}

supports_both : All (Supports s3 0 1) (Asserted 0 0 ∷ Asserted 1 0 ∷ [])
supports_both =
    All-cons (Supports s3 0 1) (Asserted 0 0) (Asserted 1 0 ∷ []) (omega arith, omega arith)
    (All-cons (Supports s3 0 1) (Asserted 1 0) [] (omega arith, omega arith) (All-nil (Supports s3 0 1)))

-- each is a step
is_race : IsRace first (states ∷ Push 1 ∷ denies ∷ derives ∷ Share 0 refutation ∷ TakeBatch 1 ∷ Pop 1 ∷ []) s7
is_race = (
  ((omega arith, refl), is_stated),
  (
    (omega arith, tt),
    (
      ((omega arith, refl), is_denied),
      (
        (((omega arith, refl), omega arith, supports_both), is_shown),
        ((((omega arith, refl), omega arith, (0, omega arith, refl)), tt), (((omega arith, refl), tt), ((omega arith, tt), refl))),
      ),
    ),
  ),
)

-- the entries are then empty, and the mark of worker 1 is 0
nothing_left : (s7.entries ≡ []) × ((worker_at s7 1).mark ≡ 0) × ((worker_at s6 1).mark ≡ 1)
nothing_left = (refl, refl, refl)

-- the clause is shared no more, and at depth 0 nothing is learnt at level 1
not_shared : Passes s7 (Share 0 refutation) → ⊥
not_shared h = let t = h.2 in let lt = t.1 in absurd (omega arith)

not_learnt : Passes s7 (Learn 0 (Asserted 0 0 ∷ []) (record { literals = record { atom = Truth 0; positive = true } ∷ []; level = 1 })) → ⊥
not_learnt h = let lt = h.1 in absurd (omega arith)
