-- What may be shown with an answer by unknown, and what may not.
use Rattle.std.proofs.Common.{◌≡◌, ℕ, Bool, true, false, List, [], ◌∷◌, refl, sym, ap, ◌∙◌, subst, inl, inr, ◌⊎◌, arith, ℤ, pos, All, map, None, Some}
use Rattle.std.proofs.lemmas.List.Elements.{All-nil, All-cons, All-head, Contains-push, Contains-append_left, Contains-append_right, Contains-append_cases, Contains-push_cases}
use Rattle.std.specs.Prelude.{codes, Contains, length}
use Rattle.fraction128.specs.declared.Summand.{Summand}
use Rattle.fraction128.specs.Lines.{AreSums}
use Rattle.smt_meaning.specs.declared.values.Sort.{Sort}
use Rattle.smt_meaning.specs.declared.values.Sort.TheVariants.{Bool as Truths, Int as Ints}
use Rattle.smt_meaning.specs.declared.options.UnknownReason.TheVariants.{Memout, Incomplete}
use Rattle.smt_meaning.specs.declared.terms.Head.TheVariants.{Symbol as Function}
use Rattle.smt_meaning.specs.declared.tokens.Token.TheVariants.{Symbol}
use Rattle.smt_meaning.specs.declared.clauses.Atom.{Atom}
use Rattle.smt_meaning.specs.declared.clauses.Atom.TheVariants.{Truth, Same}
use Rattle.smt_meaning.specs.declared.commands.Command.TheVariants.{CheckSat}
use Rattle.smt_meaning.specs.declared.answers.Mode.TheVariants as In
use Rattle.smt_meaning.specs.declared.answers.Reply.TheVariants.{Unknown}
use Rattle.smt_meaning.specs.declared.reports.Unit.{Unit as Spent}
use Rattle.smt_meaning.specs.declared.reports.Unit.TheVariants.{Numbered}
use Rattle.smt_meaning.specs.declared.reports.Cause.TheVariants.{Units, Memory}
use Rattle.smt_meaning.specs.declared.reports.Report.{Report}
use Rattle.smt_meaning.specs.declared.replies.Kept.{Kept}
use Rattle.smt_meaning.specs.declared.replies.Kept.TheVariants.{Reports}
use Rattle.smt_meaning.specs.Term.{Tree, node, none, more, tree_at}
use Rattle.smt_meaning.specs.Signature.{tree_sort}
use Rattle.smt_meaning.specs.Stack.{signature_of}
use Rattle.smt_meaning.specs.Atoms.{at_most_atom, stack_atoms}
use Rattle.smt_meaning.specs.Report.{AreUnits, Shows, no_units, one_more_unit}
use Rattle.smt_meaning.specs.State.{State, effect, start}
use Rattle.smt_meaning.specs.MayReply.{MayReply}
use Rattle.smt_laws.proofs.Constants.{every, constant, truth_constant, first_tree, second_tree}
use Rattle.smt_laws.proofs.Told.{false_true}
use Rattle.smt_laws.proofs.Script.{settings}

-- ---- two constants that are asserted, under a limit of one unit

-- with so many workers
abbrev both_asserted_by : ℕ → State
both_asserted_by workers =
    record (start (record settings { workers = workers })) {
      logic = Some (codes "QF_UFLIA");
      mode = In.Assert;
      options = record (start settings).options { reproducible_resource_limit = pos 1 };
      stack = record {
        frames = record {
          declared = truth_constant 0 (codes "p") ∷ truth_constant 1 (codes "q") ∷ [];
          asserted = record { text = Symbol (codes "p") ∷ []; term = first_tree } ∷ record { text = Symbol (codes "q") ∷ []; term = second_tree } ∷ [];
        } ∷ [];
        given = 2;
        trees = first_tree ∷ second_tree ∷ [];
        global = false;
      };
    }

abbrev both_asserted : State
both_asserted = both_asserted_by 1

abbrev ShownHere : Report → Type 0
ShownHere r = Shows both_asserted.stack.trees both_asserted.stack.frames (pos 1) r.branches r.cause

-- ---- memory

abbrev without_memory : ℕ → Report
without_memory w = record { worker = w; cause = Memory; branches = [] }

-- the end of memory is free
memory_may_end : MayReply every both_asserted CheckSat Unknown (Reports (without_memory 0 ∷ [])) (record both_asserted { mode = In.Unknown Memout })
unfolding MayReply effect
memory_may_end = (
  without_memory 0 ∷ [],
  refl,
  record { one_each = refl; shown = All-cons ShownHere (without_memory 0) [] tt (All-nil _) },
  refl,
)

abbrev kept_reports : Kept → List Report
kept_reports (Reports rs) = rs
kept_reports _ = []

abbrev first_worker : List Report → ℕ
first_worker [] = 0
first_worker (r ∷ rs) = r.worker

abbrev first_or_0 : List ℕ → ℕ
first_or_0 [] = 0
first_or_0 (n ∷ ns) = n

-- the worker 1 alone shows nothing, nor do no workers
others_show_nothing : (new : State) → MayReply every both_asserted CheckSat Unknown (Reports (without_memory 1 ∷ [])) new → ⊥
unfolding MayReply effect
others_show_nothing new h =
    let same : without_memory 1 ∷ [] ≡ h.0 = ap kept_reports h.1 in
    let numbers : map (λ (r : Report). r.worker) (without_memory 1 ∷ []) ≡ 0 ∷ [] = ap (map (λ (r : Report). r.worker)) same ∙ h.2.one_each in
    absurd (omega (arith, ap first_or_0 numbers))

none_show_nothing : (new : State) → MayReply every both_asserted CheckSat Unknown (Reports []) new → ⊥
unfolding MayReply effect
none_show_nothing new h =
    let numbers : [] ≡ 0 ∷ [] = ap (map (λ (r : Report). r.worker)) (ap kept_reports h.1) ∙ h.2.one_each in
    absurd (omega (arith, ap (length {A = ℕ}) numbers))

-- each worker of the words shows something, in order
both_may_end : MayReply every (both_asserted_by 2) CheckSat Unknown (Reports (without_memory 0 ∷ without_memory 1 ∷ [])) (record (both_asserted_by 2) { mode = In.Unknown Memout })
unfolding MayReply effect
both_may_end = (
  without_memory 0 ∷ without_memory 1 ∷ [],
  refl,
  record { one_each = refl; shown = All-cons ShownHere (without_memory 0) (without_memory 1 ∷ []) tt (All-cons ShownHere (without_memory 1) [] tt (All-nil _)) },
  refl,
)

one_of_two_shows_nothing : (new : State) → MayReply every (both_asserted_by 2) CheckSat Unknown (Reports (without_memory 0 ∷ [])) new → ⊥
unfolding MayReply effect
one_of_two_shows_nothing new h =
    let numbers : map (λ (r : Report). r.worker) (without_memory 0 ∷ []) ≡ 0 ∷ 1 ∷ [] = ap (map (λ (r : Report). r.worker)) (ap kept_reports h.1) ∙ h.2.one_each in
    absurd (omega (arith, ap (length {A = ℕ}) numbers))

-- ---- units

abbrev p_is_q : Atom
p_is_q = Same 0 1

abbrev without_units : List Spent → Report
without_units us = record { worker = 0; cause = Units us; branches = [] }

atoms_are : stack_atoms both_asserted.stack.trees both_asserted.stack.frames ≡ Truth 0 ∷ Truth 1 ∷ []
unfolding stack_atoms
atoms_are = refl

abbrev is_same : Atom → Bool
is_same (Same s t) = true
is_same _ = false

pub in_head : {X : Type 0} (x : X) (xs : List X) → Contains (x ∷ xs) x
in_head x xs = Contains-append_left (x ∷ []) xs x (Contains-push [] x)

pub none_in : {X : Type 0} (x : X) → Contains [] x → ⊥
none_in x (k, lt, is) = absurd (omega (arith, lt))

pub in_cases : {X : Type 0} (x y : X) (xs : List X) → Contains (x ∷ xs) y → (x ≡ y) ⊎ Contains xs y
in_cases x y xs c = elim (Contains-append_cases (x ∷ []) xs y c) [
  | inl here ↦ elim (Contains-push_cases [] x y here) [ inl gone ↦ absurd (none_in y gone) | inr e ↦ inl e ]
  | inr later ↦ inr later
]

-- the atoms of the stack are truths alone
no_equality : Contains (Truth 0 ∷ Truth 1 ∷ []) p_is_q → ⊥
no_equality c = elim (in_cases (Truth 0) p_is_q (Truth 1 ∷ []) c) [
  | inl e ↦ false_true (ap is_same e)
  | inr d ↦ elim (in_cases (Truth 1) p_is_q [] d) [ inl e ↦ false_true (ap is_same e) | inr f ↦ none_in p_is_q f ]
]

-- where there are no variables
pub no_sums : (Known : List Summand → Type 0) → AreSums Known []
no_sums Known = record { apart = λ i j d l m. absurd (omega (arith, m)); filled = All-nil _; known = All-nil _ }

-- that two Bools are one is no unit, though it is an atom of the check
equality_of_bools : (limit : ℤ) → AreUnits both_asserted.stack.trees both_asserted.stack.frames [] limit (Numbered p_is_q ∷ []) → ⊥
equality_of_bools limit u = int_false ((u [] [] (Numbered p_is_q) refl).of_integers 0 1 Truths refl refl)
  where
    int_false : Truths ≡ Ints → ⊥
    int_false e = cc

-- ---- two integers of which one function is asserted, under a limit of one unit

abbrev holds_of : Tree → Tree
holds_of t = node (Function 2) (more t none)

abbrev holds_of_both : State
holds_of_both = record both_asserted {
  stack = record {
    frames = record {
      declared = constant Ints 0 (codes "x") ∷ constant Ints 1 (codes "y")
          ∷ record { id = 2; name = codes "p"; rank = record { arguments = Ints ∷ []; result = Truths }; body = None; is_sort = false; is_name = false } ∷ [];
      asserted = record { text = Symbol (codes "p") ∷ []; term = holds_of first_tree } ∷ record { text = Symbol (codes "p") ∷ []; term = holds_of second_tree } ∷ [];
    } ∷ [];
    given = 3;
    trees = first_tree ∷ second_tree ∷ holds_of first_tree ∷ holds_of second_tree ∷ [];
    global = false;
  };
}

abbrev x_is_y : Atom
x_is_y = Same 0 1

abbrev left_of : Atom → ℕ
left_of (Same i j) = i
left_of _ = 0

truths_alone : stack_atoms holds_of_both.stack.trees holds_of_both.stack.frames ≡ Truth 2 ∷ Truth 3 ∷ []
unfolding stack_atoms
truths_alone = refl

no_equality_of_both : Contains (Truth 2 ∷ Truth 3 ∷ []) x_is_y → ⊥
no_equality_of_both c = elim (in_cases (Truth 2) x_is_y (Truth 3 ∷ []) c) [
  | inl e ↦ false_true (ap is_same e)
  | inr d ↦ elim (in_cases (Truth 3) x_is_y [] d) [ inl e ↦ false_true (ap is_same e) | inr f ↦ none_in x_is_y f ]
]

-- that x is y is an atom of the check, which wasn't numbered at its start
one_unit : AreUnits holds_of_both.stack.trees holds_of_both.stack.frames [] (pos 1) (Numbered x_is_y ∷ [])
one_unit =
    one_more_unit holds_of_both.stack.trees holds_of_both.stack.frames [] (pos 1) [] (Numbered x_is_y) (no_units holds_of_both.stack.trees holds_of_both.stack.frames [] (pos 1))
    (
    record {
      of_check = inr (inl (
          record {
            left = first_tree;
            right = second_tree;
            left_part = record { assertion = holds_of first_tree; asserted = in_head (holds_of first_tree) (holds_of second_tree ∷ []); part = inr (inl (inl refl)) };
            right_part = record { assertion = holds_of second_tree; asserted = Contains-append_right (holds_of first_tree ∷ []) (holds_of second_tree ∷ []) (holds_of second_tree) (in_head (holds_of second_tree) []); part = inr (inl (inl refl)) };
            one_sort = refl;
            among = in_head x_is_y (at_most_atom holds_of_both.stack.trees first_tree second_tree ∷ at_most_atom holds_of_both.stack.trees second_tree first_tree ∷ []);
          }
          ));
      not_of_stack = λ c. no_equality_of_both (subst (λ xs. Contains xs x_is_y) truths_alone c);
      of_integers = λ i j s e t. integers i j s e t;
      new = λ c. none_in (Numbered x_is_y) c;
    }
    )
  where
    integers : (i j : ℕ) (s : Sort) → x_is_y ≡ Same i j → tree_sort (signature_of holds_of_both.stack.frames) (tree_at holds_of_both.stack.trees i) ≡ Some s → s ≡ Ints
    integers i j s e t =
        let first : 0 ≡ i = ap left_of e in
        let int : Some Ints ≡ Some s = ap (λ n. tree_sort (signature_of holds_of_both.stack.frames) (tree_at holds_of_both.stack.trees n)) first ∙ t in
        cc

abbrev ShownOfBoth : Report → Type 0
ShownOfBoth r = Shows holds_of_both.stack.trees holds_of_both.stack.frames (pos 1) r.branches r.cause

units_may_end : MayReply every holds_of_both CheckSat Unknown (Reports (without_units (Numbered x_is_y ∷ []) ∷ [])) (record holds_of_both { mode = In.Unknown Incomplete })
unfolding MayReply effect
units_may_end = (
  without_units (Numbered x_is_y ∷ []) ∷ [],
  refl,
  record {
    one_each = refl;
    shown =
        All-cons ShownOfBoth (without_units (Numbered x_is_y ∷ [])) [] (record { count = refl; sums = []; known = no_sums _; are_branches = tt; units = one_unit; chained = tt }) (All-nil _);
  },
  refl,
)

-- fewer units than the limit show nothing
fewer_show_nothing : (new : State) → MayReply every both_asserted CheckSat Unknown (Reports (without_units [] ∷ [])) new → ⊥
unfolding MayReply effect
fewer_show_nothing new h =
    let shown : All ShownHere (without_units [] ∷ []) = subst (All ShownHere) (sym (ap kept_reports h.1)) h.2.shown in
    absurd (omega (arith, (All-head ShownHere (without_units []) [] shown).count))
