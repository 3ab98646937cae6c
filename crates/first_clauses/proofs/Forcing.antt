-- The kept clauses of the parts force each clause of a part.
use Rattle.std.proofs.Common.{◌≡◌, ℕ, ◌<◌, Bool, true, List, [], ◌∷◌, map, length, get_or, All, Contains, subst, sym, ap, ◌∙◌, arith, refl}
use Rattle.std.proofs.lemmas.List.Elements.{All-nil, All-cons, All-head, All-contains}
use Rattle.literals.specs.Signed.{Signed, opposite}
use Rattle.clause_store.specs.Stored.{Kept}
use Rattle.smt_meaning.specs.declared.values.Sort.{Sort}
use Rattle.smt_meaning.specs.declared.values.Sort.TheVariants.{Bool as Truths}
use Rattle.smt_meaning.specs.declared.terms.Operator.{Operator}
use Rattle.smt_meaning.specs.declared.terms.Operator.TheVariants.{Not}
use Rattle.smt_meaning.specs.declared.terms.Head.{Head}
use Rattle.smt_meaning.specs.declared.terms.Head.TheVariants.{Theory}
use Rattle.smt_meaning.specs.declared.clauses.Atom.{Atom}
use Rattle.smt_meaning.specs.declared.clauses.Atom.TheVariants.{Truth}
use Rattle.smt_meaning.specs.Declaration.{Declaration}
use Rattle.smt_meaning.specs.Term.{Tree, Trees, node, tree_at}
use Rattle.smt_meaning.specs.Nodes.{pick}
use Rattle.smt_meaning.specs.Parts.{IsOneOf, IsArgument, AreInOrder}
use Rattle.smt_meaning.specs.Signature.{tree_sort, is_bool}
use Rattle.smt_meaning.specs.Clause.{atom_places}
use Rattle.smt_meaning.specs.Forced.{Sign, IsClauseOf}
use Rattle.smt_meaning.specs.Stack.{signature_of}
use Rattle.smt_meaning.specs.StackCommand.{Stack}
use Rattle.term_store.specs.Terms.{tree_with}
use Rattle.scope_stack.specs.Facts.{AreSorts}
use Rattle.scope_stack.specs.Shown.{IsLawful}
use Rattle.search_port.specs.State.{truth_atoms}
use Rattle.clause_form.specs.NodeClauses.{node_clauses}
use Rattle.clause_form.specs.NodeClausesLaws.{NodeClausesForce}
use Rattle.clause_form.proofs.More.{forces_more}
use Rattle.clause_form.specs.Renamed.{NodeClausesRenamed}
use Rattle.clause_form.specs.Node.{literals_of_node}
use Rattle.atom_form.specs.AtomTableNumbers.{IsAt}
use Rattle.check_atoms.specs.Parts.{IsMarked}
use Rattle.check_atoms.specs.Atoms.{is_bool_at}
use Rattle.check_atoms.specs.Marks.{AreStackParts}
use Rattle.check_atoms.proofs.StackAtomsPlaces.{Picked}
use Rattle.check_atoms.specs.OfStack.{AreCheckAtoms}
use Rattle.order_clauses.specs.Clauses.{sort_at}
use Rattle.order_clauses.specs.Sound.{HasSort}
use Rattle.first_clauses.specs.Numbers.{AreNumbers}
use Rattle.first_clauses.specs.PartClausesFirst.{IsForced, ForcesParts}
use Rattle.first_clauses.specs.Turned.{IsKeptTurned}
use Rattle.first_clauses.proofs.Numbering.{number_of, found, one_place, contained, number_is, numbers_are}
use Rattle.first_clauses.proofs.Turning.{one_number, KeepNegations, forces_turned}
use Rattle.first_clauses.proofs.NodeForcing.{fits_of, is_bool_sort, IsBoolNode, is_node, arguments_at, HasClauseAt, clause_at, HasNumber, numbered, each_numbered, forces_numbered, is_forced}
use Rattle.first_clauses.specs.CheckClausesFirst.{AreBools, HasTruths, HasParts}
use Rattle.first_clauses.specs.Laws.{KeptPartsAreForced, MoreForceParts}
use Rattle.first_clauses.proofs.Parts.{picked_is, within, arguments_marked, has_sort}

-- no term is its own argument
not_own : (trees : List Tree) → AreInOrder trees → (p : ℕ) (h : Head) (is : List ℕ) → p < length trees → tree_at trees p ≡ tree_with trees h is → Contains is p → ⊥
not_own trees order p h is inside e c =
    let one : IsOneOf (tree_at trees p) (pick trees is) = All-contains (λ i. IsOneOf (tree_at trees i) (pick trees is)) is p (picked_is trees is) c in
    let b = order.after_arguments p (tree_at trees p) inside (subst (IsArgument (tree_at trees p)) (sym e) one) in
    let same : b.0 ≡ p = order.different b.0 p b.2 inside b.3 in
    let less : b.0 < p = b.1 in
    omega (arith, same, less)

numbers_found : (table : List Atom) (is ns : List ℕ) → AreNumbers table (truth_atoms is) ns → All (HasNumber table) is
numbers_found table [] ns h = All-nil (HasNumber table)
numbers_found table (i ∷ is) [] h = absurd h
numbers_found table (i ∷ is) (n ∷ ns) h = All-cons (HasNumber table) i is (found table i (contained table n (Truth i) h.0)) (numbers_found table is ns h.1)

module _ (s : Stack) (marks : List Bool) (sorts : List Sort) (table : List Atom) (law : IsLawful s) (parts : AreStackParts s marks) (atoms : AreCheckAtoms s marks table) (sorted : AreSorts (signature_of s.frames) s.trees (length s.trees) sorts) where
  abbrev ds : List Declaration
  ds = signature_of s.frames

  sort_there : (p : ℕ) → IsMarked marks p → HasSort ds s.trees sorts p
  sort_there p m = has_sort s marks law parts atoms.size sorts sorted p m

  listed_bool : (p : ℕ) → IsMarked marks p → is_bool_at ds s.trees p ≡ true → sort_at sorts p ≡ Truths
  listed_bool p m b = is_bool_sort (sort_at sorts p) (sym (ap is_bool (sort_there p m)) ∙ b)

  module _ (clauses : List Kept) (has : HasParts s marks sorts table clauses) where
    bools_at : (p : ℕ) (is : List ℕ) → IsMarked marks p → All (IsMarked marks) is → is_bool_at ds s.trees p ≡ true → All (λ i. is_bool_at ds s.trees i ≡ true) is → AreBools sorts (p ∷ is)
    bools_at p is m ms b bs = All-cons (λ q. sort_at sorts q ≡ Truths) p is (listed_bool p m b) (λ k d l. listed_bool (get_or is k d) (ms k d l) (bs k d l))

    -- a numbered truth is one of a part
    marked_at : (n p : ℕ) → IsAt table n (Truth p) → IsMarked marks p
    marked_at n p at = All-head (IsMarked marks) p [] (subst (λ (a : Atom). All (IsMarked marks) (atom_places a)) (at.1 (Truth 0)) (atoms.over_parts n (Truth 0) at.0))

    -- the clauses of a negation are kept
    pub negations : KeepNegations s.trees table clauses
    negations n m h =
        let p = h.place in
        let is = h.argument ∷ [] in
        let here : IsMarked marks p = marked_at n p h.atom in
        let marked : All (IsMarked marks) is = All-cons (IsMarked marks) h.argument [] (marked_at m h.argument h.negated) (All-nil (IsMarked marks)) in
        let inside : All (λ i. i < length s.trees) is = λ k d l. within s marks law parts atoms.size (get_or is k d) (marked k d l) in
        let is_so : IsBoolNode ds s.trees Not is = is_node ds s.trees Not is (sort_at sorts p) (sym (ap (tree_sort ds) h.node) ∙ sort_there p here) refl in
        let bool : is_bool_at ds s.trees p ≡ true = ap (λ t. is_bool (tree_sort ds t)) h.node ∙ is_so.bool in
        let part = has p Not is here (record { within = within s marks law parts atoms.size p here; tree = h.node; arguments = inside }) in
        let truths : HasTruths s.trees table clauses p Not is = part.of_bools (bools_at p is here marked bool is_so.bools) in
        let own : truths.number ≡ n = one_place table truths.number n (Truth p) atoms.apart truths.here h.atom in
        let others : truths.numbers ≡ m ∷ [] = one_number table h.argument truths.numbers m atoms.apart truths.are h.negated in
        subst (λ xs. All (IsKeptTurned s.trees table clauses) (literals_of_node Not n xs)) others
        (subst (λ t. All (IsKeptTurned s.trees table clauses) (literals_of_node Not t truths.numbers)) own truths.kept)

    module _ (force : NodeClausesForce) (rename : NodeClausesRenamed) (known : List (List Signed)) (among : (c : Kept) → Contains clauses c → Contains known c.literals) where
      -- the kept clauses of a node of Bools force a clause of it
      truths_force : (p : ℕ) (o : Operator) (is : List ℕ) (ss : List Sign) → p < length s.trees → All (λ i. i < length s.trees) is → tree_at s.trees p ≡ tree_with s.trees (Theory o) is
          → HasTruths s.trees table clauses p o is → IsBoolNode ds s.trees o is → HasClauseAt s.trees law.in_order ds o p is ss → IsForced table known ss
      truths_force p o is ss here inside tree h is_so c =
          let other : Contains is p → ⊥ = not_own s.trees law.in_order p (Theory o) is here tree in
          let own : HasNumber table p = found table p (contained table h.number (Truth p) h.here) in
          let number : h.number ≡ number_of table p = number_is table h.number p atoms.apart h.here in
          let kept : All (IsKeptTurned s.trees table clauses) (literals_of_node o (number_of table p) h.numbers) = subst (λ n. All (IsKeptTurned s.trees table clauses) (literals_of_node o n h.numbers)) number h.kept in
          let each : (d : List Signed) → Contains (map (map (numbered table)) (node_clauses o p is)) d → IsKeptTurned s.trees table clauses d =
          each_numbered table rename (IsKeptTurned s.trees table clauses) (length s.trees) p o is h.numbers inside (numbers_are table is h.numbers atoms.apart h.are) kept in
          is_forced table known p o is ss other c.clause own (numbers_found table is h.numbers h.are)
          (forces_turned s.trees table clauses negations known among (map (map (numbered table)) (node_clauses o p is)) each (map (numbered table) ss)
          (forces_numbered table force p o is ss (fits_of s.trees ds o is is_so.stands c.has) other c.clause))

      part_forced : (p : ℕ) (o : Operator) (us : Trees) (ss : List Sign) (is : List ℕ) → IsMarked marks p → tree_at s.trees p ≡ node (Theory o) us → All (λ i. i < length s.trees) is
          → tree_at s.trees p ≡ tree_with s.trees (Theory o) is → IsClauseOf s.trees ds o us ss → IsForced table known ss
      part_forced p o us ss is m e inside tree c =
          let here : p < length s.trees = within s marks law parts atoms.size p m in
          let clause : HasClauseAt s.trees law.in_order ds o p is ss = clause_at s.trees law.in_order ds p o us is ss here inside e tree c in
          let is_so : IsBoolNode ds s.trees o is = is_node ds s.trees o is (sort_at sorts p) (sym (ap (tree_sort ds) tree) ∙ sort_there p m) clause.has in
          let bool : is_bool_at ds s.trees p ≡ true = ap (λ t. is_bool (tree_sort ds t)) tree ∙ is_so.bool in
          let marked : All (IsMarked marks) is = arguments_marked s marks law parts atoms.size p (Theory o) is m tree inside in
          let bools : AreBools sorts (p ∷ is) = bools_at p is m marked bool is_so.bools in
          let part = has p o is m (record { within = here; tree = tree; arguments = inside }) in
          truths_force p o is ss here inside tree (part.of_bools bools) is_so clause

      forces_parts : ForcesParts s table known
      forces_parts o us ss part c =
          let at = parts.each (node (Theory o) us) part in
          let p : Picked s.trees us = arguments_at s.trees law.in_order at.0 (Theory o) us (within s marks law parts atoms.size at.0 at.1) at.2 in
          part_forced at.0 o us ss p.places at.1 at.2 p.within (at.2 ∙ ap (node (Theory o)) (sym p.are)) c

pub kept_parts_forced : NodeClausesForce → NodeClausesRenamed → KeptPartsAreForced
kept_parts_forced force rename s marks sorts table clauses known law parts atoms sorted has among = forces_parts s marks sorts table law parts atoms sorted clauses has force rename known among

pub more_forced : MoreForceParts
more_forced s table known more stay forces o us ss part c =
    let f : IsForced table known ss = forces o us ss part c in
    record {
      literals = f.literals;
      within = f.within;
      reads = f.reads;
      some = f.some;
      forced = forces_more opposite known more f.literals stay f.forced;
    }
