-- Values that are listed by the closure and the variables of a last check, what is given by them, and what becomes of tables that give them.
use Rattle.std.proofs.Common.{◌≡◌, ℕ, ◌+◌, ◌<◌, Bool, true, List, length, All, refl, sym, ap, subst}
use Rattle.std.specs.Prelude.{Option, Result, Ok, Err, IfOk, slice_index_or}
use Rattle.std.proofs.lemmas.List.Elements.{All-weaker}
use Rattle.smt_meaning.specs.declared.values.Value.{Value}
use Rattle.literals.specs.Signed.{Signed, literal_true}
use Rattle.smt_meaning.specs.declared.values.Sort.{Sort}
use Rattle.smt_meaning.specs.declared.values.Table.{Table}
use Rattle.smt_meaning.specs.Declaration.{Declaration}
use Rattle.smt_meaning.specs.Interpretation.{AreTablesFor}
use Rattle.smt_laws.specs.Flat.{SaysTheSame, FlatSaysTheSame}
use Rattle.search_port.specs.Calls.{IsModelOf}
use Rattle.exact_model.specs.Ends.{AreWithin, GiveExactValues, TablesGiveExactValues, TablesWithinAreModels, truth_exactly}
use Rattle.exact_model.specs.Fitting.{AreFitting, FirstFit, IsFullCheck, OperatorsAreDecided}
use Rattle.exact_model.specs.Places.{AreAtMarks}
use Rattle.exact_model.specs.Verdict.{AreModels}
use Rattle.theory_combine.specs.Numbering.{table_of}
use Rattle.theory_combine.specs.Progress.{IsUnderWay, state}
use Rattle.check_atoms.specs.Laws.{PartsHaveNumbers}
use Rattle.order_clauses.specs.Decided.{NumbersAreFound}
use Rattle.closure_log.specs.ByClass.{ComparisonsAreByClass, ChoicesAreByClass, DistinctsAreByClass}
use Rattle.model_build.specs.declared.given.Given.{Given}
use Rattle.model_build.specs.Building.{GiveValues}
use Rattle.theory_combine.specs.Clashing.{AreSettledGiven, HasSettledGiven}
use Rattle.theory_combine.proofs.Modelling.{told_are_exact}
use Rattle.theory_combine.proofs.Operating.{operators_hold}
use Rattle.smt_meaning.specs.declared.values.Sort.TheVariants.{Free}
use Rattle.smt_meaning.specs.declared.clauses.Atom.{Atom}
use Rattle.smt_meaning.specs.declared.clauses.Atom.TheVariants.{Truth, AtMost, Same}
use Rattle.smt_meaning.specs.Stack.{signature_of}
use Rattle.smt_meaning.specs.StackCommand.{Stack}
use Rattle.scope_stack.specs.Facts.{AreSorts}
use Rattle.scope_stack.specs.Shown.{IsLawful}
use Rattle.point_closure.specs.Unions.{root_of}
use Rattle.congruence.specs.declared.congruence.Congruence.{Congruence}
use Rattle.sum_bounds.specs.Bounds.{AreWhole}
use Rattle.bound_log.specs.Told.{IsState}
use Rattle.bound_log.specs.Pending.{plain_grid}
use Rattle.closure_log.specs.Seen.{IsOfTerms}
use Rattle.closure_log.specs.Whole.{IsWholeAndApart}
use Rattle.first_clauses.specs.Laws.{PartsHoldOfEach}
use Rattle.exact_model.specs.Exact.{MayBeGiven}
use Rattle.exact_model.specs.Leaves.{HaveLeafValues, AreListedBy, IsOfBool, ListedValuesHaveSorts, ListedTruthsFit, ListedBoundsAreMet, ListedNumbersAreOfForms}
use Rattle.theory_combine.specs.declared.parts.Parts.{Parts}
use Rattle.theory_combine.specs.declared.parts.Progress.{Progress}
use Rattle.theory_combine.specs.Held.{AllFit}
use Rattle.theory_combine.specs.Ready.{IsAtLast}
use Rattle.theory_combine.specs.Settling.{AreAtomsTold, AreToldTruths, AreSettledValues, AreValuesBy, HasTellableInts, IsGivenBy, IsSettledCheck, KeepsParts, OperatorsHold}
use Rattle.theory_combine.proofs.SettleSteps.{ints_apart, settled_values, told_by_place}
use Rattle.theory_combine.proofs.Fitting.{in_list}

-- ---- values

of_bool : (s : Stack) (a : Atom) → IsOfTerms s a → IsOfBool s a
of_bool s (Truth p) h = h.1
of_bool s (AtMost sum k) h = tt
of_bool s (Same i j) h = tt

-- what a full log decides, and what holds of listed values
pub record ListingLaws : Type 0 where
  pub of_each : PartsHoldOfEach
  pub have_sorts : ListedValuesHaveSorts
  pub truths_fit : ListedTruthsFit
  pub bounds_met : ListedBoundsAreMet
  pub of_forms : ListedNumbersAreOfForms

module _ (laws : ListingLaws) (p : Parts) (w : Progress) (c : Congruence) (at_last : IsAtLast p w) (fits : AllFit w.held.bounds) (whole : AreWhole w.held.bounds.bounds) (told : AreAtomsTold p w)
    (closure : IsWholeAndApart p.stack.now w.atoms.atoms w.held.closure.log.items c) (lawful : IsLawful p.stack.now) (is_state : IsState w.held.bounds) (sorts : List Sort)
    (sorted : AreSorts (signature_of p.stack.now.frames) p.stack.now.trees (length p.stack.now.trees) sorts) (truths : List Bool) (classes : List ℕ)
    (by_place : AreToldTruths w.atoms.atoms w.held.closure.log.items (length p.stack.now.trees) truths)
    (numbered : (i : ℕ) → i < length p.stack.now.trees → slice_index_or classes i 0 ≡ root_of c.closure.classes.unions (i + 2)) where
  abbrev s : Stack
  s = p.stack.now

  abbrev marks : List Bool
  marks = p.marks.items

  abbrev table : List Atom
  table = w.atoms.atoms

  size : length marks ≡ length s.trees
  size = at_last.ready.parts.0.size

  settled : (vs : List Value) → AreListedBy s marks w.held.bounds truths classes (length s.trees) vs → AreSettledValues p w c vs
  settled vs listed_by =
      settled_values p w at_last laws.of_each lawful c vs sorts classes sorted closure told
      (laws.have_sorts s marks w.held.bounds truths classes vs listed_by sorts at_last.ready.parts.0 sorted)
      (laws.truths_fit s marks w.held.bounds truths classes vs listed_by table w.held.closure.log.items size at_last.ready.under_way.1.marked
      (All-weaker (IsOfTerms s) (IsOfBool s) (of_bool s) table at_last.ready.under_way.1.setting.of_terms) (told_by_place p w at_last truths by_place))
      (laws.bounds_met s marks w.held.bounds truths classes vs listed_by table lawful size at_last.ready.under_way.1.marked at_last.ready.under_way.3.leaves is_state at_last.ready.under_way.1.held.knows whole fits.1)
      numbered
      (λ i element. listed_by i (Free element.sort) (in_list s marks i at_last.ready.parts.0 element.marked) element.marked element.has)
      (λ i fit. laws.of_forms s marks w.held.bounds truths classes vs listed_by lawful at_last.ready.parts.2 size i fit.marked fit.is_int)

  -- so are the values of a result that were listed by lists equal to these
  pub values_of : {T E : Type 0} (r : Result T E) (items : T → List Value) (ms bs : List Bool) (cs : List ℕ) → ms ≡ marks → bs ≡ truths → cs ≡ classes → IfOk r (λ x. length (items x) ≡ length s.trees)
      → IfOk r (λ x. AreListedBy s ms w.held.bounds bs cs (length s.trees) (items x)) → IfOk r (λ x. MayBeGiven (signature_of s.frames) s.trees ms (items x))
      → IfOk r (λ x. HaveLeafValues s ms (plain_grid w.held.bounds) (length s.trees) (items x)) → IfOk r (λ x. AreValuesBy p w c (items x))
  values_of (Err e) items ms bs cs m t k count listed_by may_be have = tt
  values_of (Ok x) items ms bs cs m t k count listed_by may_be have =
      let by_truths : AreListedBy s marks w.held.bounds bs cs (length s.trees) (items x) = subst (λ (l : List Bool). AreListedBy s l w.held.bounds bs cs (length s.trees) (items x)) m listed_by in
      let by_classes : AreListedBy s marks w.held.bounds truths cs (length s.trees) (items x) = subst (λ (l : List Bool). AreListedBy s marks w.held.bounds l cs (length s.trees) (items x)) t by_truths in
      record {
        settled = settled (items x) (subst (λ (l : List ℕ). AreListedBy s marks w.held.bounds truths l (length s.trees) (items x)) k by_classes);
        size = count;
        may_be = subst (λ (l : List Bool). MayBeGiven (signature_of s.frames) s.trees l (items x)) m may_be;
        have = subst (λ (l : List Bool). HaveLeafValues s l (plain_grid w.held.bounds) (length s.trees) (items x)) m have;
      }

-- ---- tables

pub fitting_by : FirstFit → (p : Parts) (w : Progress) (c : Congruence) (vs : List Value) (ms : List Bool) → ms ≡ p.marks.items → AreSettledValues p w c vs → AreFitting p.stack.now ms vs
fitting_by first_fit p w c vs ms same settled =
    let fit = first_fit p.stack.now p.marks.items w.atoms.atoms w.held.closure.log.items vs settled.check settled.truths settled.bounds in
    subst (λ (l : List Bool). AreFitting p.stack.now l vs) (sym same) (record {
      table = w.atoms.atoms;
      log = w.held.closure.log.items;
      check = settled.check;
      sorted = settled.sorted;
      truths = fit.0;
      bounds = fit.1;
    })

-- tables that give exact values, all in the range, are a model
pub is_model : FlatSaysTheSame → TablesWithinAreModels → (p : Parts) (w : Progress) (c : Congruence) (vs : List Value) (ms : List Bool) (tables : List Table) → ms ≡ p.marks.items → IsLawful p.stack.now → IsAtLast p w → AreAtomsTold p w
    → AreSettledValues p w c vs → AreWithin p.stack.now ms vs tables → IsModelOf (state p w) tables
is_model flat_law law p w c vs ms tables same lawful at_last told settled within =
    let s : Stack = p.stack.now in
    let table : List Atom = w.atoms.atoms in
    let log : List Signed = w.held.closure.log.items in
    let inside : AreWithin s p.marks.items vs tables = subst (λ (l : List Bool). AreWithin s l vs tables) same within in
    let flat_is : SaysTheSame s.frames = flat_law s.frames in
    let way : IsUnderWay p w = at_last.ready.under_way in
    let exact : All (λ (l : Signed). literal_true (truth_exactly s.trees vs table) l ≡ true) log =
    told_are_exact flat_law p w c vs at_last.ready.parts way lawful settled (λ n less. (told n less).bound) in
    let models : AreModels s.trees p.marks.items table log tables =
    law s p.marks.items vs tables table log lawful at_last.ready.parts.0.size inside way.1.marked way.3.leaves way.1.held.told.numbered exact in
    models (state p w) (record { trees_are = refl; table_is = ap (λ (o : Option ℕ). table_of o table) way.2; log_is = refl })
    (subst (λ (ds : List Declaration). AreTablesFor ds tables) (sym flat_is.signature) inside.tables_for)
    (subst (AreAtMarks s.trees p.marks.items) (sym flat_is.assertions) at_last.ready.parts.4)

-- ---- what is given

module _ (p : Parts) (w : Progress) (c : Congruence) (vs : List Value) (gs : List Given) (at_last : IsAtLast p w) (keeps : KeepsParts p w c) (values : AreValuesBy p w c vs) (given : IsGivenBy p vs gs) where
  settled_given : AreSettledGiven p w c gs
  settled_given = record { values = vs; settled = values.settled; exact = given.exact values.settled.check.sorts values.settled.check.sorted }

  pub settled_to_clash : AllFit w.held.bounds → AreWhole w.held.bounds.bounds → HasSettledGiven p w c gs
  settled_to_clash fits whole = record { at_last = at_last; fits = fits; whole = whole; given = settled_given }

  -- where each equality that lacks a number is of Ints that are given different values, the check is settled
  settled_check : All (HasTellableInts p w gs) p.wide_distincts.items → IsSettledCheck p w c vs
  settled_check tellable =
      let check : IsFullCheck p.stack.now p.marks.items w.atoms.atoms w.held.closure.log.items = values.settled.check in
      record {
        values = values.settled;
        parts = keeps;
        ints_apart = ints_apart p vs check.sorts gs check.sorted (given.exact check.sorts check.sorted) w c values.settled keeps.apart tellable;
        listed = at_last.ready.parts.5;
      }

  -- so tables that give what is given give exact values
  pub give_exactly : NumbersAreFound → PartsHaveNumbers → OperatorsAreDecided → ComparisonsAreByClass → ChoicesAreByClass → DistinctsAreByClass → TablesGiveExactValues → IsLawful p.stack.now
      → All (HasTellableInts p w gs) p.wide_distincts.items → (tables : List Table) → GiveValues p.stack.now.trees gs tables → GiveExactValues p.stack.now.trees p.marks.items vs tables
  give_exactly found numbers decided comparisons choices distincts law lawful tellable tables give =
      let check : IsFullCheck p.stack.now p.marks.items w.atoms.atoms w.held.closure.log.items = values.settled.check in
      let hold : OperatorsHold p vs =
      operators_hold found numbers decided comparisons choices distincts p w c vs w.forms at_last.ready.parts (settled_check tellable) (record { forms = at_last.ready.under_way.0; size = values.size }) lawful in
      law p.stack.now.trees p.marks.items check.sorts vs gs tables at_last.ready.parts.0.size (given.exact check.sorts check.sorted) (given.values hold) give
