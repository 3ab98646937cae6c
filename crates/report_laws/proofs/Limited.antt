-- Clauses over few atoms are few.
use Rattle.std.proofs.Common.{◌≡◌, ◌≢◌, ◌⊎◌, inl, inr, suc, ◌+◌, ◌*◌, ◌≤◌, ◌^◌, sym, ap, ap₂, ◌∙◌, subst, refl, arith, List, [], ◌∷◌, ◌++◌, map, length, Contains, Bool, true, false, ℤ}
use Rattle.std.specs.Prelude.{AllPairs}
use Rattle.std.proofs.Math.Nat.{pow-suc}
use Rattle.std.proofs.lemmas.List.{length-map, length-append, append_assoc}
use Rattle.std.proofs.lemmas.List.Elements.{All-nil, All-cons, Contains-append_left, Contains-append_right, Contains-append_cases}
use Rattle.fraction128.specs.declared.Line.{Line}
use Rattle.smt_meaning.specs.declared.clauses.Atom.{Atom}
use Rattle.smt_meaning.specs.declared.clauses.Literal.{Literal}
use Rattle.smt_meaning.specs.declared.clauses.Clause.{Clause}
use Rattle.smt_meaning.specs.declared.reports.Unit.{Unit as Spent}
use Rattle.smt_meaning.specs.declared.reports.Unit.TheVariants.{Numbered, Learnt, Pivot}
use Rattle.smt_meaning.specs.Term.{Tree}
use Rattle.smt_meaning.specs.Stack.{Frame}
use Rattle.smt_meaning.specs.Forced.{Reaches, Forces}
use Rattle.smt_meaning.specs.CheckAtoms.{IsCheckAtom}
use Rattle.smt_meaning.specs.Report.{negated, IsGiven, most_units, IsLearnt, IsUnit, AreUnits}
use Rattle.report_laws.proofs.Listed.{in_cons, in_none}
use Rattle.report_laws.proofs.Counted.{AreApart, no_longer, apart_by, split_at, first_in, later_in, middle_in, without, with_middle, in_list, from_list}
use Rattle.report_laws.proofs.OneLeaf.{no_branches, no_pivots}
use Rattle.report_laws.specs.Limited.{FewUnitsAreNotSpent, OneLeafIsNotSpent}

-- ---- literals over different atoms

abbrev Differ : Literal → Literal → Type 0
Differ l m = l.atom ≢ m.atom

abbrev AreDifferent : List Literal → Type 0
AreDifferent [] = Unit {0}
AreDifferent (l ∷ ls) = ((m : Literal) → Contains ls m → l.atom ≢ m.atom) × AreDifferent ls

different : (ls : List Literal) → AllPairs Differ ls → AreDifferent ls
different [] pairs = tt
different (l ∷ ls) pairs = (
  λ m c. subst (λ n. l.atom ≢ n.atom) c.2 (pairs 0 (suc c.0) m (omega arith) (let lt = c.1 in omega (arith, lt))),
  different ls (λ i j d less lt. pairs (suc i) (suc j) d (omega (arith, less)) (omega (arith, lt))),
)

-- no other literal has the atom of the one in the middle
middle_differs : (front back : List Literal) (l m : Literal) → AreDifferent (front ++ l ∷ back) → Contains (front ++ back) m → m ≡ l → ⊥
middle_differs [] back l m d c e = d.0 m c (ap (λ (n : Literal). n.atom) (sym e))
middle_differs (k ∷ front) back l m d c e = elim (in_cons k m (front ++ back) c) [
  | inl same ↦ d.0 l (middle_in front back l) (ap (λ (n : Literal). n.atom) (sym same ∙ e))
  | inr later ↦ middle_differs front back l m d.1 later e
]

-- ---- sets of literals

-- all sets of literals that have each atom at most once
abbrev sets : List Atom → List (List Literal)
sets [] = [] ∷ []
sets (a ∷ atoms) = sets atoms ++ (map (λ s. record { atom = a; positive = true } ∷ s) (sets atoms) ++ map (λ s. record { atom = a; positive = false } ∷ s) (sets atoms))

abbrev pub AreSame : List Literal → List Literal → Type 0
AreSame ls s = ((l : Literal) → Contains ls l → Contains s l) × ((l : Literal) → Contains s l → Contains ls l)

set_count : (atoms : List Atom) → length (sets atoms) ≡ 3 ^ length atoms
set_count [] = refl
set_count (a ∷ atoms) =
    let yes : List (List Literal) = map (λ s. record { atom = a; positive = true } ∷ s) (sets atoms) in
    let no' : List (List Literal) = map (λ s. record { atom = a; positive = false } ∷ s) (sets atoms) in
    let rest : length (sets atoms) ≡ 3 ^ length atoms = set_count atoms in
    let one : length yes ≡ length (sets atoms) = length-map (sets atoms) (λ s. record { atom = a; positive = true } ∷ s) in
    let two : length no' ≡ length (sets atoms) = length-map (sets atoms) (λ s. record { atom = a; positive = false } ∷ s) in
    let both : length (sets atoms ++ (yes ++ no')) ≡ length (sets atoms) + length (yes ++ no') = length-append (sets atoms) (yes ++ no') in
    let last : length (yes ++ no') ≡ length yes + length no' = length-append yes no' in
    let power : 3 ^ suc (length atoms) ≡ 3 ^ length atoms * 3 = pow-suc 3 (length atoms) in
    omega (arith, both, rest, one, two, last, power)

without_sign : (a : Atom) (atoms : List Atom) (s : List Literal) → Contains (sets atoms) s → Contains (sets (a ∷ atoms)) s
without_sign a atoms s c =
    Contains-append_left (sets atoms) (map (λ z. record { atom = a; positive = true } ∷ z) (sets atoms) ++ map (λ z. record { atom = a; positive = false } ∷ z) (sets atoms)) s c

empty_in : (atoms : List Atom) → Contains (sets atoms) []
empty_in [] = first_in [] []
empty_in (a ∷ atoms) = without_sign a atoms [] (empty_in atoms)

with_true : (a : Atom) (atoms : List Atom) (s : List Literal) → Contains (sets atoms) s → Contains (sets (a ∷ atoms)) (record { atom = a; positive = true } ∷ s)
with_true a atoms s c =
    let all : List (List Literal) = map (λ z. record { atom = a; positive = true } ∷ z) (sets atoms) in
    let rest : List (List Literal) = map (λ z. record { atom = a; positive = false } ∷ z) (sets atoms) in
    let t : List Literal = record { atom = a; positive = true } ∷ s in
    Contains-append_right (sets atoms) (all ++ rest) t (Contains-append_left all rest t (in_list (λ z. record { atom = a; positive = true } ∷ z) (sets atoms) s c))

with_false : (a : Atom) (atoms : List Atom) (s : List Literal) → Contains (sets atoms) s → Contains (sets (a ∷ atoms)) (record { atom = a; positive = false } ∷ s)
with_false a atoms s c =
    let all : List (List Literal) = map (λ z. record { atom = a; positive = true } ∷ z) (sets atoms) in
    let rest : List (List Literal) = map (λ z. record { atom = a; positive = false } ∷ z) (sets atoms) in
    let t : List Literal = record { atom = a; positive = false } ∷ s in
    Contains-append_right (sets atoms) (all ++ rest) t (Contains-append_right all rest t (in_list (λ z. record { atom = a; positive = false } ∷ z) (sets atoms) s c))

with_sign : (a : Atom) (atoms : List Atom) (l : Literal) (s : List Literal) → l.atom ≡ a → Contains (sets atoms) s → Contains (sets (a ∷ atoms)) (l ∷ s)
with_sign a atoms l s e c = by l.positive refl
  where
    by : (b : Bool) → l.positive ≡ b → Contains (sets (a ∷ atoms)) (l ∷ s)
    by true f = let same : l ≡ record { atom = a; positive = true } = ap₂ (λ x p. record { atom = x; positive = p }) e f in subst (λ m. Contains (sets (a ∷ atoms)) (m ∷ s)) (sym same) (with_true a atoms s c)
    by false f = let same : l ≡ record { atom = a; positive = false } = ap₂ (λ x p. record { atom = x; positive = p }) e f in subst (λ m. Contains (sets (a ∷ atoms)) (m ∷ s)) (sym same) (with_false a atoms s c)

-- a set over a first atom has it not, or with a sign
first_sign : (a : Atom) (atoms : List Atom) (s : List Literal) → Contains (sets (a ∷ atoms)) s → Contains (sets atoms) s ⊎ ((l : Literal) × (r : List Literal) × (l.atom ≡ a) × Contains (sets atoms) r × (s ≡ l ∷ r))
first_sign a atoms s c =
    let all : List (List Literal) = map (λ z. record { atom = a; positive = true } ∷ z) (sets atoms) in
    let rest : List (List Literal) = map (λ z. record { atom = a; positive = false } ∷ z) (sets atoms) in
    elim (Contains-append_cases (sets atoms) (all ++ rest) s c) [
      | inl early ↦ inl early
      | inr late ↦ elim (Contains-append_cases all rest s late) [
        | inl told ↦ let h = from_list (λ z. record { atom = a; positive = true } ∷ z) (sets atoms) s told in inr (record { atom = a; positive = true }, h.0, refl, h.1, h.2)
        | inr denied ↦ let h = from_list (λ z. record { atom = a; positive = false } ∷ z) (sets atoms) s denied in inr (record { atom = a; positive = false }, h.0, refl, h.1, h.2)
      ]
    ]

-- a set, and one more literal
record IsWith (atoms : List Atom) (l : Literal) (s : List Literal) : Type 0 where
  set : List Literal
  is : Contains (sets atoms) set
  same : AreSame (l ∷ s) set

swapped : (k l : Literal) (r s : List Literal) → AreSame (l ∷ r) s → AreSame (l ∷ (k ∷ r)) (k ∷ s)
swapped k l r s h = (
  λ m c. elim (in_cons l m (k ∷ r) c) [
    | inl e ↦ later_in k m s (h.0 m (subst (Contains (l ∷ r)) (sym e) (first_in l r)))
    | inr later ↦ elim (in_cons k m r later) [
      | inl e ↦ subst (Contains (k ∷ s)) (sym e) (first_in k s)
      | inr last ↦ later_in k m s (h.0 m (later_in l m r last))
    ]
  ],
  λ m c. elim (in_cons k m s c) [
    | inl e ↦ later_in l m (k ∷ r) (subst (Contains (k ∷ r)) (sym e) (first_in k r))
    | inr later ↦ elim (in_cons l m r (h.1 m later)) [
      | inl e ↦ subst (Contains (l ∷ (k ∷ r))) (sym e) (first_in l (k ∷ r))
      | inr last ↦ later_in l m (k ∷ r) (later_in k m r last)
    ]
  ],
)

one_more : (atoms : List Atom) (l : Literal) (s : List Literal) → Contains atoms l.atom → Contains (sets atoms) s → ((m : Literal) → Contains s m → l.atom ≢ m.atom) → IsWith atoms l s
one_more [] l s here c other = absurd (in_none l.atom here)
one_more (a ∷ atoms) l s here c other = elim (in_cons a l.atom atoms here) [
  | inl e ↦ elim (first_sign a atoms s c) [
    | inl plain ↦ record { set = l ∷ s; is = with_sign a atoms l s e plain; same = (λ m h. h, λ m h. h) }
    | inr (k, r, at, h, is) ↦ absurd (other k (subst (λ z. Contains z k) (sym is) (first_in k r)) (e ∙ sym at))
  ]
  | inr later ↦ elim (first_sign a atoms s c) [
    | inl plain ↦
        let w = one_more atoms l s later plain other in
        record { set = w.set; is = without_sign a atoms w.set w.is; same = w.same }
    | inr (k, r, at, h, is) ↦
        let w = one_more atoms l r later h (λ m d. other m (subst (λ z. Contains z m) (sym is) (later_in k m r d))) in
        record { set = k ∷ w.set; is = with_sign a atoms k w.set at w.is; same = subst (λ z. AreSame (l ∷ z) (k ∷ w.set)) (sym is) (swapped k l r w.set w.same) }
  ]
]

-- each clause over the atoms has one of the sets
set_of : (atoms : List Atom) (ls : List Literal) → AreDifferent ls → ((l : Literal) → Contains ls l → Contains atoms l.atom) → (s : List Literal) × Contains (sets atoms) s × AreSame ls s
set_of atoms [] d over = ([], empty_in atoms, (λ l c. c, λ l c. c))
set_of atoms (l ∷ ls) d over =
    let rest = set_of atoms ls d.1 (λ m c. over m (later_in l m ls c)) in
    let w = one_more atoms l rest.0 (over l (first_in l ls)) rest.1 (λ m c. d.0 m (rest.2.1 m c)) in (
      w.set,
      w.is,
      (
        λ m c. elim (in_cons l m ls c) [
          | inl e ↦ w.same.0 m (subst (Contains (l ∷ rest.0)) (sym e) (first_in l rest.0))
          | inr later ↦ w.same.0 m (later_in l m rest.0 (rest.2.0 m later))
        ],
        λ m c. elim (in_cons l m rest.0 (w.same.1 m c)) [
          | inl e ↦ subst (Contains (l ∷ ls)) (sym e) (first_in l ls)
          | inr later ↦ later_in l m ls (rest.2.1 m later)
        ],
      ),
    )

-- ---- what an equal clause forces

-- the last literal of one clause is forced where the other has the same literals
forces_same : (c d : List Literal) → AreDifferent d → ((l : Literal) → Contains c l → Contains d l) → ((l : Literal) → Contains d l → Contains c l) → Forces negated (d ∷ []) c
forces_same c d apart there back before after l e =
    let s = split_at d l (there l (subst (λ z. Contains z l) (sym e) (middle_in before after l))) in
    inl (Reaches.unit s.front s.back (subst (Contains (d ∷ [])) s.is (first_in d []))
    (λ m k. Reaches.start (in_list negated (before ++ after) m
    (without before after l m (middle_differs s.front s.back l m (subst AreDifferent s.is apart) k)
    (subst (λ z. Contains z m) e (back m (subst (λ z. Contains z m) (sym s.is) (with_middle s.front s.back l m k))))))))

-- ---- units

-- what stands for a unit: the atom that it numbers, or the set of the literals that it learns
abbrev pub StandsFor : Spent → Atom ⊎ List Literal → Type 0
StandsFor (Numbered a) (inl b) = a ≡ b
StandsFor (Numbered a) (inr s) = ⊥
StandsFor (Learnt c) (inl b) = ⊥
StandsFor (Learnt c) (inr s) = AreSame c.literals s
StandsFor (Pivot l) y = ⊥

abbrev standing : List Atom → List (Atom ⊎ List Literal)
standing atoms = map (λ a. inl a) atoms ++ map (λ s. inr s) (sets atoms)

standing_count : (atoms : List Atom) → length (standing atoms) ≡ length atoms + 3 ^ length atoms
standing_count atoms =
    let numbered : List (Atom ⊎ List Literal) = map (λ a. inl a) atoms in
    let learnt : List (Atom ⊎ List Literal) = map (λ s. inr s) (sets atoms) in
    let one : length numbered ≡ length atoms = length-map atoms (λ a. inl a) in
    let two : length learnt ≡ length (sets atoms) = length-map (sets atoms) (λ s. inr s) in
    let both : length (numbered ++ learnt) ≡ length numbered + length learnt = length-append numbered learnt in
    let power : length (sets atoms) ≡ 3 ^ length atoms = set_count atoms in
    omega (arith, both, one, two, power)

-- what stands for a clause stands for none after it: the earlier one would force it
module _ (ts : List Tree) (frames : List Frame) (branches : List Line) (limit : ℤ) where
  all_different : (before : List Spent) (c : Clause) → IsLearnt ts frames branches limit before c → AreDifferent c.literals
  all_different before c h = different c.literals h.no_two

  not_again : (before : List Spent) (d c : Clause) (f : List Spent) → IsLearnt ts frames branches limit f d → Contains before (Learnt d) → IsLearnt ts frames branches limit before c
      → (s : List Literal) → AreSame d.literals s → AreSame c.literals s → ⊥
  not_again before d c f was learnt unit s k h =
      let given : IsGiven ts frames before d.literals = inr (inr (record { clause = d; learnt = learnt; same = refl })) in
      unit.unforced (d.literals ∷ []) (All-cons (IsGiven ts frames before) d.literals [] given (All-nil (IsGiven ts frames before)))
      (forces_same c.literals d.literals (all_different f d was) (λ l m. k.1 l (h.0 l m)) (λ l m. h.1 l (k.0 l m)))

  pub stands_once : (us : List Spent) → AreUnits ts frames branches limit us → (before after : List Spent) (u : Spent) → us ≡ before ++ u ∷ after
      → (z : Spent) → Contains before z → (y : Atom ⊎ List Literal) → StandsFor z y → StandsFor u y → ⊥
  stands_once us units before after u e z c y k h = by z u c (units before after u e) y k h
    where
      earlier_learnt : (d : Clause) → Contains before (Learnt d) → (f : List Spent) × IsLearnt ts frames branches limit f d
      earlier_learnt d i =
          let s = split_at before (Learnt d) i in
          (s.front, units s.front (s.back ++ u ∷ after) (Learnt d) (e ∙ (ap (λ xs. xs ++ u ∷ after) s.is ∙ append_assoc s.front (Learnt d ∷ s.back) (u ∷ after))))

      by : (z u : Spent) → Contains before z → IsUnit ts frames branches limit before u → (y : Atom ⊎ List Literal) → StandsFor z y → StandsFor u y → ⊥
      by (Numbered a) (Numbered b) i unit (inl x) k h = unit.new (subst (λ w. Contains before (Numbered w)) (k ∙ sym h) i)
      by (Numbered a) (Numbered b) i unit (inr s) k h = k
      by (Learnt d) (Learnt c) i unit (inl x) k h = k
      by (Learnt d) (Learnt c) i unit (inr s) k h = let was = earlier_learnt d i in not_again before d c was.0 was.1 i unit s k h
      by (Numbered a) (Learnt c) i unit (inl x) k h = h
      by (Numbered a) (Learnt c) i unit (inr s) k h = k
      by (Learnt d) (Numbered a) i unit (inl x) k h = k
      by (Learnt d) (Numbered a) i unit (inr s) k h = h
      by (Pivot l) u i unit y k h = k
      by (Numbered a) (Pivot l) i unit y k h = h
      by (Learnt d) (Pivot l) i unit y k h = h

module _ (ts : List Tree) (frames : List Frame) (branches : List Line) (limit : ℤ) (atoms : List Atom) (each : (a : Atom) → IsCheckAtom ts frames branches a → Contains atoms a) where
  over_atoms : (before : List Spent) (c : Clause) → IsLearnt ts frames branches limit before c → (l : Literal) → Contains c.literals l → Contains atoms l.atom
  over_atoms before c h l k = each l.atom (subst (λ (m : Literal). IsCheckAtom ts frames branches m.atom) k.2 (h.of_check k.0 l k.1))

  has_standing : (before : List Spent) (u : Spent) → ((l : Line) → u ≡ Pivot l → ⊥) → IsUnit ts frames branches limit before u → (y : Atom ⊎ List Literal) × Contains (standing atoms) y × StandsFor u y
  has_standing before (Numbered a) no_pivot h =
      (inl a, Contains-append_left (map (λ b. inl b) atoms) (map (λ s. inr s) (sets atoms)) (inl a) (in_list (λ b. inl b) atoms a (each a h.of_check)), refl)
  has_standing before (Learnt c) no_pivot h =
      let s = set_of atoms c.literals (all_different ts frames branches limit before c h) (over_atoms before c h) in
      (inr s.0, Contains-append_right (map (λ b. inl b) atoms) (map (λ z. inr z) (sets atoms)) (inr s.0) (in_list (λ z. inr z) (sets atoms) s.0 s.1), s.2)
  has_standing before (Pivot l) no_pivot h = absurd (no_pivot l refl)

-- ---- the units that aren't pivots

abbrev pub others : List Spent → List Spent
others [] = []
others (Learnt c ∷ us) = Learnt c ∷ others us
others (Numbered a ∷ us) = Numbered a ∷ others us
others (Pivot l ∷ us) = others us

abbrev IsOther : Spent → Type 0
IsOther u = (l : Line) → u ≡ Pivot l → ⊥

among_others : (us : List Spent) (u : Spent) → Contains (others us) u → Contains us u × IsOther u
among_others [] u c = absurd (in_none u c)
among_others (Learnt d ∷ us) u c = elim (in_cons (Learnt d) u (others us) c) [
  | inl e ↦ (subst (Contains (Learnt d ∷ us)) (sym e) (first_in (Learnt d) us), λ l f. let z : Learnt d ≡ Pivot l = sym e ∙ f in absurd (cc))
  | inr later ↦ let h = among_others us u later in (later_in (Learnt d) u us h.0, h.1)
]
among_others (Numbered a ∷ us) u c = elim (in_cons (Numbered a) u (others us) c) [
  | inl e ↦ (subst (Contains (Numbered a ∷ us)) (sym e) (first_in (Numbered a) us), λ l f. let z : Numbered a ≡ Pivot l = sym e ∙ f in absurd (cc))
  | inr later ↦ let h = among_others us u later in (later_in (Numbered a) u us h.0, h.1)
]
among_others (Pivot m ∷ us) u c = let h = among_others us u c in (later_in (Pivot m) u us h.0, h.1)

others_apart : (us : List Spent) → AreApart StandsFor us → AreApart StandsFor (others us)
others_apart [] h = tt
others_apart (Learnt d ∷ us) h = (λ z c y k j. h.0 z (among_others us z c).0 y k j, others_apart us h.1)
others_apart (Numbered a ∷ us) h = (λ z c y k j. h.0 z (among_others us z c).0 y k j, others_apart us h.1)
others_apart (Pivot m ∷ us) h = others_apart us h.1

pub few_others : (ts : List Tree) (frames : List Frame) (branches : List Line) (limit : ℤ) (us : List Spent) (atoms : List Atom) → ((a : Atom) → IsCheckAtom ts frames branches a → Contains atoms a)
    → AreUnits ts frames branches limit us → length (others us) ≤ length atoms + 3 ^ length atoms
few_others ts frames branches limit us atoms each units =
    let apart : AreApart StandsFor us = apart_by StandsFor us (stands_once ts frames branches limit us units) in
    let short : length (others us) ≤ length (standing atoms) = no_longer StandsFor (others us) (standing atoms) (others_apart us apart) (λ u c. (
    let k = among_others us u c in
    let s = split_at us u k.0 in
    has_standing ts frames branches limit atoms each s.front u k.1 (units s.front s.back u s.is)
    )) in
    let size : length (standing atoms) ≡ length atoms + 3 ^ length atoms = standing_count atoms in
    omega (arith, short, size)

-- ---- reports

pub few_units : FewUnitsAreNotSpent
few_units ts frames limit branches us atoms each few unpivoted spent =
    let apart : AreApart StandsFor us = apart_by StandsFor us (stands_once ts frames branches limit us spent.units) in
    let short : length us ≤ length (standing atoms) = no_longer StandsFor us (standing atoms) apart (λ u c. (
    let s = split_at us u c in
    has_standing ts frames branches limit atoms each s.front u (λ l e. unpivoted s.front s.back l (s.is ∙ ap (λ v. s.front ++ v ∷ s.back) e)) (spent.units s.front s.back u s.is)
    )) in
    let size : length (standing atoms) ≡ length atoms + 3 ^ length atoms = standing_count atoms in
    let count : length us ≡ most_units limit = spent.count in
    omega (arith, short, size, count, few)

pub one_leaf : OneLeafIsNotSpent
one_leaf ts frames t over limit branches us atoms each few spent =
    let none : branches ≡ [] = no_branches ts frames t over spent.sums branches spent.known spent.are_branches in
    few_units ts frames limit branches us atoms (λ a h. each a (subst (λ ls. IsCheckAtom ts frames ls a) none h)) few (no_pivots ts frames t over limit branches us spent) spent
