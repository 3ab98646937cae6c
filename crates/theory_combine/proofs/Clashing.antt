-- Two applications that clash where values are settled.
use Rattle.std.proofs.Common.{◌≡◌, ◌≢◌, ◌∙◌, ℕ, zero, suc, ◌<◌, Bool, true, false, List, [], ◌∷◌, length, map, All, Contains, Some, refl, sym, ap, ap₂, subst, arith}
use Rattle.std.specs.Prelude.{Option, None, IfSome, IfNone, ◌||◌, slice_index_or, IsTrue, MatchBool, if◌then◌else◌}
use Rattle.std.specs.List.{AllZip}
use Rattle.std.proofs.lemmas.List.{get_or_default, length-map}
use Rattle.std.proofs.lemmas.List.Elements.{All-head, All-tail}
use Rattle.fraction128.specs.declared.Column.{Column}
use Rattle.fraction128.specs.Grid.{WithinBounds}
use Rattle.fraction128.specs.Whole.{is_in_range}
use Rattle.smt_meaning.specs.declared.values.Value.{Value}
use Rattle.smt_meaning.specs.declared.values.Value.TheVariants.{Truth, Whole, Element}
use Rattle.smt_meaning.specs.declared.terms.Head.TheVariants.{Symbol}
use Rattle.smt_meaning.specs.Declaration.{Declaration}
use Rattle.smt_meaning.specs.Term.{Tree, number_of}
use Rattle.smt_meaning.specs.Stack.{signature_of}
use Rattle.smt_laws.specs.Flat.{FlatSaysTheSame}
use Rattle.scope_stack.specs.Shown.{IsLawful}
use Rattle.check_atoms.specs.OfStack.{IsNode}
use Rattle.congruence.specs.declared.congruence.Congruence.{Congruence}
use Rattle.congruence.specs.Recorded.{AreEqualTerms}
use Rattle.model_eval.specs.Walk.{is_marked}
use Rattle.model_build.specs.declared.given.Given.{Given}
use Rattle.model_build.specs.declared.given.Given.TheVariants.{Unmarked, InRange, PastRange}
use Rattle.model_build.specs.Given as given
use Rattle.model_build.specs.Given.{given_at, is_past, has_past, arguments_of, arguments_given, AreAlike, IsApplication}
use Rattle.model_build.proofs.Reading.{givens-pick}
use Rattle.closure_log.specs.Whole.{AreInOneClass}
use Rattle.simplex_steps.specs.Run.{AreWithin}
use Rattle.simplex_steps.specs.State.{no_column}
use Rattle.simplex.specs.Sums.{HaveOwnSums}
use Rattle.exact_model.specs.Exact.{exact_at, given_of}
use Rattle.theory_combine.specs.declared.parts.Parts.{Parts}
use Rattle.theory_combine.specs.declared.parts.Progress.{Progress}
use Rattle.theory_combine.specs.declared.parts.Pair.{Pair}
use Rattle.theory_combine.specs.Argument.{IsPastInt, IsPastArgument}
use Rattle.theory_combine.specs.Clashing.{AreApartAt, IsMarkedApplication, HasSettledGiven}
use Rattle.theory_combine.specs.Pairs.{IsFit, IsWanted}
use Rattle.theory_combine.proofs.ClassValues as of
use Rattle.theory_combine.proofs.Leaving.{past_argument}
use Rattle.theory_combine.proofs.WholeLeaves.{whole_leaves}

-- ---- lists

pub zipped : (R : ℕ → ℕ → Type 0) (is js : List ℕ) → length js ≡ length is → ((k : ℕ) → k < length is → R (slice_index_or is k 0) (slice_index_or js k 0)) → AllZip R is js
zipped R [] [] size each = tt
zipped R [] (j ∷ js) size each = absurd cc
zipped R (i ∷ is) [] size each = absurd cc
zipped R (i ∷ is) (j ∷ js) size each = (each 0 (omega arith), zipped R is js (omega arith) (λ k less. each (suc k) (omega arith)))

zip_weaker : (R Q : ℕ → ℕ → Type 0) → ((i j : ℕ) → R i j → Q i j) → (is js : List ℕ) → AllZip R is js → AllZip Q is js
zip_weaker R Q f [] [] h = tt
zip_weaker R Q f [] (j ∷ js) h = absurd h
zip_weaker R Q f (i ∷ is) [] h = absurd h
zip_weaker R Q f (i ∷ is) (j ∷ js) h = (f i j h.0, zip_weaker R Q f is js h.1)

pub none_past : (gs : List Given) (is : List ℕ) → All (λ i. is_past (given_at gs i) ≡ false) is → has_past (map (given_at gs) is) ≡ false
none_past gs [] h = refl
none_past gs (i ∷ is) h =
    ap₂ (λ (a b : Bool). a || b) (All-head (λ j. is_past (given_at gs j) ≡ false) i is h) (none_past gs is (All-tail (λ j. is_past (given_at gs j) ≡ false) i is h))

or_left : (a b : Bool) → (a || b) ≡ false → a ≡ false
or_left true b h = h
or_left false b h = refl

or_right : (a b : Bool) → (a || b) ≡ false → b ≡ false
or_right true b h = absurd cc
or_right false b h = h

not_past_at : (gs : List Given) (is : List ℕ) (k : ℕ) → has_past (map (given_at gs) is) ≡ false → k < length is → is_past (given_at gs (slice_index_or is k 0)) ≡ false
not_past_at gs [] k h less = absurd (omega arith)
not_past_at gs (i ∷ is) zero h less = or_left (is_past (given_at gs i)) (has_past (map (given_at gs) is)) h
not_past_at gs (i ∷ is) (suc k) h less = not_past_at gs is k (or_right (is_past (given_at gs i)) (has_past (map (given_at gs) is)) h) (omega arith)

same_at : (gs : List Given) (is js : List ℕ) (k : ℕ) → map (given_at gs) is ≡ map (given_at gs) js → k < length is → given_at gs (slice_index_or is k 0) ≡ given_at gs (slice_index_or js k 0)
same_at gs [] js k e less = absurd (omega arith)
same_at gs (i ∷ is) [] k e less = absurd cc
same_at gs (i ∷ is) (j ∷ js) zero e less = cc
same_at gs (i ∷ is) (j ∷ js) (suc k) e less = let rest : map (given_at gs) is ≡ map (given_at gs) js = cc in same_at gs is js k rest (omega arith)

-- ---- options

pub some_so : (o : Option ℕ) (P Q : ℕ → Type 0) → ((i : ℕ) → P i → Q i) → IfSome o P → IfSome o Q
some_so None P Q f h = tt
some_so (Some i) P Q f h = f i h

pub none_so : (o : Option ℕ) (P Q : Type 0) → (P → Q) → IfNone o P → IfNone o Q
none_so None P Q f h = f h
none_so (Some i) P Q f h = tt

-- ---- grids

pub all_within : (cs : List Column) → AreWithin cs → All WithinBounds cs
all_within cs h k d less = subst WithinBounds (get_or_default cs k no_column d less) (h k less)

-- ---- a check with settled values

module _ (p : Parts) (w : Progress) (c : Congruence) (gs : List Given) (law : IsLawful p.stack.now) (h : HasSettledGiven p w c gs) where
  abbrev ts : List Tree
  ts = p.stack.now.trees

  abbrev ds : List Declaration
  ds = signature_of p.stack.now.frames

  abbrev marks : List Bool
  marks = p.marks.items

  abbrev IsApplied : ℕ → ℕ → List ℕ → Type 0
  IsApplied = IsMarkedApplication p.stack.now marks gs

  given_there : (g : Given) → given.is_marked g ≡ true → g ≡ Unmarked → ⊥
  given_there g m e = let k : given.is_marked g ≡ false = ap given.is_marked e in cc

  pub application_is : (i f : ℕ) (is : List ℕ) → IsApplication ts gs f i → IsNode ts i (Symbol f) is → IsApplied i f is
  application_is i f is a node =
      let marked : is_marked marks i ≡ true = of.marked_of p w c gs law h i a.within (given_there (given_at gs i) a.marked) in
      record {
        node = node;
        marked = marked;
        arguments = h.at_last.ready.parts.0.closed i (Symbol f) is marked node.tree node.arguments;
        given = ap (λ t. given.givens ts gs (arguments_of t)) node.tree ∙ givens-pick ts gs is h.at_last.ready.under_way.0.different node.arguments;
      }

  -- ---- an argument that is past the range

  past_number : (v : Value) → given_of v ≡ PastRange → is_in_range (number_of v) ≡ false
  past_number (Truth b) e = absurd cc
  past_number (Element k) e = absurd cc
  past_number (Whole n) e = by (is_in_range n) e
    where
      by : (b : Bool) → (if b then InRange (Whole n) else PastRange) ≡ PastRange → b ≡ false
      by false k = refl
      by true k = absurd cc

  is_past_range : (g : Given) → is_past g ≡ true → g ≡ PastRange
  is_past_range Unmarked e = absurd cc
  is_past_range (InRange v) e = absurd cc
  is_past_range PastRange e = refl

  past_sort : (v : Value) → given_of v ≡ PastRange → v ≡ Whole (number_of v)
  past_sort (Truth b) e = absurd cc
  past_sort (Element k) e = absurd cc
  past_sort (Whole n) e = refl

  pub is_past_int : HaveOwnSums w.held.bounds.bounds.columns → (i : ℕ) → is_marked marks i ≡ true → is_past (given_at gs i) ≡ true → IsPastInt p.stack.now marks w.held.bounds.bounds i
  is_past_int apart i m past =
      let b = w.held.bounds.bounds in
      let v : Value = exact_at ts h.given.values i in
      let e : given_of v ≡ PastRange = sym (of.given_is p w c gs law h i m) ∙ is_past_range (given_at gs i) past in
      let fits : IsFit p.stack.now marks i = of.fits_there p w c gs law h i (number_of v) m (past_sort v e) in
      record {
        within = fits.within;
        marked = m;
        is_int = fits.is_int;
        whole = whole_leaves p.stack.now marks h.at_last.ready.parts.0 h.at_last.ready.parts.2 h.at_last.ready.under_way.0.different b apart h.whole h.at_last.ready.under_way.1.variables i m fits.is_int;
        past = sym (ap is_in_range (of.its_number p w c gs law h i fits)) ∙ past_number v e;
      }

  -- so is one of the arguments of the application that is given a number past the range
  pub past_of : FlatSaysTheSame → HaveOwnSums w.held.bounds.bounds.columns → (i f j : ℕ) (is : List ℕ) → IsApplied i f is → Contains is j → is_past (given_at gs j) ≡ true
      → IsPastArgument p.stack.now w.held.bounds.bounds j
  past_of flat_law apart i f j is a (k, less, e) past =
      let marked : is_marked marks (slice_index_or is k j) ≡ true = a.arguments k j less in
      let there : is_past (given_at gs (slice_index_or is k j)) ≡ true = subst (λ n. is_past (given_at gs n) ≡ true) (sym e) past in
      subst (IsPastArgument p.stack.now w.held.bounds.bounds) e
      (past_argument flat_law p.stack.now marks h.at_last.ready.parts.2.only h.at_last.ready.under_way.0.different w.held.bounds.bounds i f is (Symbol f) k j a.marked a.node.tree refl less
      (is_past_int apart (slice_index_or is k j) marked there))

  -- ---- applications whose arguments are in the range

  module _ (i j f : ℕ) (is js : List ℕ) (a : IsApplied i f is) (b : IsApplied j f js) (alike : AreAlike (arguments_given ts gs i) (arguments_given ts gs j))
      (inside : has_past (arguments_given ts gs i) ≡ false) where
    all_alike : (b : Bool) (gs hs : List Given) → has_past gs ≡ b → b ≡ false → MatchBool b (IsTrue (has_past hs)) (gs ≡ hs) → gs ≡ hs
    all_alike true gs hs e k m = absurd cc
    all_alike false gs hs e k m = m

    pub same : map (given_at gs) is ≡ map (given_at gs) js
    same = sym a.given ∙ all_alike (has_past (arguments_given ts gs i)) (arguments_given ts gs i) (arguments_given ts gs j) refl inside alike ∙ b.given

    pub same_size : length js ≡ length is
    same_size = sym (length-map js (given_at gs)) ∙ ap (λ (xs : List Given). length xs) (sym same) ∙ length-map is (given_at gs)

    -- two arguments in two classes
    pub wanted_arguments : (q : Pair) → AreApartAt c is js q → IsWanted p.stack.now marks w.atoms.atoms q
    wanted_arguments q x =
        let less = x.within in
        let left : is_marked marks q.left ≡ true = subst (λ n. is_marked marks n ≡ true) (sym x.left) (a.arguments x.place 0 less) in
        let right : is_marked marks q.right ≡ true = subst (λ n. is_marked marks n ≡ true) (sym x.right) (b.arguments x.place 0 (let k = same_size in omega (arith, less, k))) in
        let one : given_at gs q.left ≡ given_at gs q.right = ap (given_at gs) x.left ∙ same_at gs is js x.place same less ∙ ap (given_at gs) (sym x.right) in
        let past : is_past (given_at gs q.left) ≡ false = ap (λ n. is_past (given_at gs n)) x.left ∙ not_past_at gs is x.place (ap has_past (sym a.given) ∙ inside) less in
        of.wanted_apart p w c gs law h q.left q.right left right one past x.apart

    -- the applications, where all arguments are in one class
    pub wanted_applications : given_at gs i ≢ given_at gs j → AllZip (AreInOneClass c) is js → IsWanted p.stack.now marks w.atoms.atoms (record { left = i; right = j })
    wanted_applications differ classes =
        let holds = h.given.settled.closure.classes in
        let equal : AreEqualTerms c i j = holds.applied i j f is js a.node b.node (zip_weaker (AreInOneClass c) (AreEqualTerms c) (λ x y k. (holds.classes x y).0 k) is js classes) in
        of.wanted_equal p w c gs law h i j a.marked b.marked (of.same_sort p w c gs law h i j f is js a.marked b.marked a.node.tree b.node.tree) differ equal
