-- A state that grows, the marks in it, and what is cut from it.
use Rattle.std.proofs.Common.{◌≡◌, ℕ, ◌+◌, ◌<◌, ◌≤◌, List, [], ◌∷◌, ◌++◌, length, take, get_or, sym, ap, ◌∙◌, subst, inl, inr, arith}
use Rattle.std.proofs.lemmas.Bool.{cases_lt}
use Rattle.std.proofs.lemmas.List.{get_or_append_left, get_or_push, length_push, length-take-le, take_all, take-take, take-append-le, get_or-take, get_or_default}
use Rattle.std.proofs.Math.Seq.{take-append_seam}
use Rattle.point_closure.specs.declared.classes.Union.{Union}
use Rattle.point_closure.specs.declared.step.Step.{Step}
use Rattle.point_closure.specs.Closure.{Point}
use Rattle.point_closure.specs.Explained.{StepsAreMerges}
use Rattle.point_closure.specs.declared.pending.Mark.{Mark}
use Rattle.point_closure.specs.declared.watch.Watch.{Watch}
use Rattle.point_closure.specs.declared.lists.Change.{Change}
use Rattle.point_closure.specs.Rest.{Begins}
use Rattle.point_closure.specs.State.{State, cut, Fits, IsBelow, Grows, IsAtRest, IsMark, AreMarks, IsFull}
use Rattle.point_closure.proofs.RestLemmas.{begins_itself, begins_length, begins_take, begins_on}

abbrev pub state_with : List Union → List ℕ → List ℕ → List Change → List Change → List Watch → List ℕ → State
state_with a b c d e f g = record { unions = a; hashes = b; points = c; uses = d; watches = e; pairs = f; met = g }

pub same_state : (a a' : List Union) (b b' c c' : List ℕ) (d d' e e' : List Change) (f f' : List Watch) (g g' : List ℕ) → a ≡ a' → b ≡ b' → c ≡ c' → d ≡ d' → e ≡ e' → f ≡ f' → g ≡ g'
    → state_with a b c d e f g ≡ state_with a' b' c' d' e' f' g'
same_state a a' b b' c c' d d' e e' f f' g g' p q r s t u v =
    ap (λ x. state_with x b c d e f g) p ∙ ap (λ x. state_with a' x c d e f g) q ∙ ap (λ x. state_with a' b' x d e f g) r ∙ ap (λ x. state_with a' b' c' x e f g) s
    ∙ ap (λ x. state_with a' b' c' d' x f g) t ∙ ap (λ x. state_with a' b' c' d' e' x g) u ∙ ap (λ x. state_with a' b' c' d' e' f' x) v

pub cut_grows : (m : Mark) (s s' : State) → Fits m s → Grows s s' → cut m s' ≡ cut m s
cut_grows m s s' fits g = same_state (take m.unions s'.unions) (take m.unions s.unions) (take m.filed s'.hashes) (take m.filed s.hashes) (take m.filed s'.points) (take m.filed s.points)
    (take m.uses s'.uses) (take m.uses s.uses) (take m.watches s'.watches) (take m.watches s.watches) (take m.pairs s'.pairs) (take m.pairs s.pairs) (take m.met s'.met) (take m.met s.met)
    (begins_take s.unions s'.unions m.unions g.unions fits.unions) (begins_take s.hashes s'.hashes m.filed g.hashes fits.hashes) (begins_take s.points s'.points m.filed g.points fits.points)
    (begins_take s.uses s'.uses m.uses g.uses fits.uses) (begins_take s.watches s'.watches m.watches g.watches fits.watches) (begins_take s.pairs s'.pairs m.pairs g.pairs fits.pairs)
    (begins_take s.met s'.met m.met g.met fits.met)

cut_cut : (m n : Mark) (s : State) → IsBelow m n → cut m (cut n s) ≡ cut m s
cut_cut m n s below = same_state (take m.unions (take n.unions s.unions)) (take m.unions s.unions) (take m.filed (take n.filed s.hashes)) (take m.filed s.hashes) (take m.filed (take n.filed s.points)) (take m.filed s.points)
    (take m.uses (take n.uses s.uses)) (take m.uses s.uses) (take m.watches (take n.watches s.watches)) (take m.watches s.watches) (take m.pairs (take n.pairs s.pairs)) (take m.pairs s.pairs)
    (take m.met (take n.met s.met)) (take m.met s.met)
    (take-take m.unions n.unions s.unions below.unions) (take-take m.filed n.filed s.hashes below.filed) (take-take m.filed n.filed s.points below.filed) (take-take m.uses n.uses s.uses below.uses)
    (take-take m.watches n.watches s.watches below.watches) (take-take m.pairs n.pairs s.pairs below.pairs) (take-take m.met n.met s.met below.met)

take_full : {X : Type 0} (n : ℕ) (xs : List X) → n ≡ length xs → take n xs ≡ xs
take_full n xs e = take_all n xs (omega arith)

pub cut_full : (m : Mark) (s : State) → IsFull m s → cut m s ≡ s
cut_full m s full = same_state (take m.unions s.unions) s.unions (take m.filed s.hashes) s.hashes (take m.filed s.points) s.points (take m.uses s.uses) s.uses (take m.watches s.watches) s.watches
    (take m.pairs s.pairs) s.pairs (take m.met s.met) s.met
    (take_full m.unions s.unions full.unions) (take_full m.filed s.hashes full.hashes) (take_full m.filed s.points full.points) (take_full m.uses s.uses full.uses) (take_full m.watches s.watches full.watches)
    (take_full m.pairs s.pairs full.pairs) (take_full m.met s.met full.met)

pub fits_full : (m : Mark) (s : State) → IsFull m s → Fits m s
fits_full m s full = record {
  unions = (let e : m.unions ≡ length s.unions = full.unions in omega arith);
  hashes = (let e : m.filed ≡ length s.hashes = full.hashes in omega arith);
  points = (let e : m.filed ≡ length s.points = full.points in omega arith);
  uses = (let e : m.uses ≡ length s.uses = full.uses in omega arith);
  watches = (let e : m.watches ≡ length s.watches = full.watches in omega arith);
  pairs = (let e : m.pairs ≡ length s.pairs = full.pairs in omega arith);
  met = (let e : m.met ≡ length s.met = full.met in omega arith);
}

pub grows_itself : (s : State) → Grows s s
grows_itself s = record {
  unions = begins_itself s.unions;
  hashes = begins_itself s.hashes;
  points = begins_itself s.points;
  uses = begins_itself s.uses;
  watches = begins_itself s.watches;
  pairs = begins_itself s.pairs;
  met = begins_itself s.met;
}

pub grows_more : (s t u : State) → Grows s t → Grows t u → Grows s u
grows_more s t u a b = record {
  unions = begins_on s.unions t.unions u.unions a.unions b.unions;
  hashes = begins_on s.hashes t.hashes u.hashes a.hashes b.hashes;
  points = begins_on s.points t.points u.points a.points b.points;
  uses = begins_on s.uses t.uses u.uses a.uses b.uses;
  watches = begins_on s.watches t.watches u.watches a.watches b.watches;
  pairs = begins_on s.pairs t.pairs u.pairs a.pairs b.pairs;
  met = begins_on s.met t.met u.met a.met b.met;
}

longer : {X : Type 0} (n : ℕ) (xs ys : List X) → n ≤ length xs → Begins xs ys → n ≤ length ys
longer n xs ys le b = let h : length xs ≤ length ys = begins_length xs ys b in omega arith

fits_grows : (m : Mark) (s s' : State) → Fits m s → Grows s s' → Fits m s'
fits_grows m s s' f g = record {
  unions = longer m.unions s.unions s'.unions f.unions g.unions;
  hashes = longer m.filed s.hashes s'.hashes f.hashes g.hashes;
  points = longer m.filed s.points s'.points f.points g.points;
  uses = longer m.uses s.uses s'.uses f.uses g.uses;
  watches = longer m.watches s.watches s'.watches f.watches g.watches;
  pairs = longer m.pairs s.pairs s'.pairs f.pairs g.pairs;
  met = longer m.met s.met s'.met f.met g.met;
}

pub marks_grow : (ps : List Point) (log : List Step) (s s' : State) (ms : List Mark) → Grows s s' → AreMarks ps log s ms → AreMarks ps log s' ms
marks_grow ps log s s' ms g marks = record {
  count = marks.count;
  at = λ d m less.
      let i : IsMark ps log s d (get_or ms d m) = marks.at d m less in
      record {
        fits = fits_grows (get_or ms d m) s s' i.fits g;
        rest = subst (λ (x : State). IsAtRest ps (take d log) x) (sym (cut_grows (get_or ms d m) s s' i.fits g)) i.rest;
        merges = subst (λ us. StepsAreMerges (take d log) us) (sym (begins_take s.unions s'.unions (get_or ms d m).unions g.unions i.fits.unions)) i.merges;
      };
  ordered = marks.ordered;
}

full_above : (m n : Mark) (s : State) → Fits m s → IsFull n s → IsBelow m n
full_above m n s f full = record {
  unions = (let a : m.unions ≤ length s.unions = f.unions in let b : n.unions ≡ length s.unions = full.unions in omega arith);
  filed = (let a : m.filed ≤ length s.points = f.points in let b : n.filed ≡ length s.points = full.points in omega arith);
  uses = (let a : m.uses ≤ length s.uses = f.uses in let b : n.uses ≡ length s.uses = full.uses in omega arith);
  watches = (let a : m.watches ≤ length s.watches = f.watches in let b : n.watches ≡ length s.watches = full.watches in omega arith);
  pairs = (let a : m.pairs ≤ length s.pairs = f.pairs in let b : n.pairs ≡ length s.pairs = full.pairs in omega arith);
  met = (let a : m.met ≤ length s.met = f.met in let b : n.met ≡ length s.met = full.met in omega arith);
}

below_itself : (m : Mark) → IsBelow m m
below_itself m = record { unions = omega arith; filed = omega arith; uses = omega arith; watches = omega arith; pairs = omega arith; met = omega arith }

pub marks_push : (ps : List Point) (log : List Step) (t : Step) (s : State) (ms : List Mark) (m : Mark) → IsFull m s → IsAtRest ps log s → StepsAreMerges log s.unions
    → AreMarks ps log s ms → AreMarks ps (log ++ t ∷ []) s (ms ++ m ∷ [])
marks_push ps log t s ms m full rest merges marks =
    let more : length (ms ++ m ∷ []) ≡ length ms + 1 = length_push ms m in
    let count : length ms ≡ length log = marks.count in
    record {
      count = omega (arith, length_push log t);
      at = λ d x less. elim (cases_lt d (length ms)) [
        | inl before ↦ subst (IsMark ps (log ++ t ∷ []) s d) (sym (get_or_append_left ms (m ∷ []) x d before))
            (let i : IsMark ps log s d (get_or ms d x) = marks.at d x before in
            let same : take d (log ++ t ∷ []) ≡ take d log = take-append-le d log (t ∷ []) (omega arith) in
            record {
              fits = i.fits;
              rest = subst (λ l. IsAtRest ps l (cut (get_or ms d x) s)) (sym same) i.rest;
              merges = subst (λ l. StepsAreMerges l (take (get_or ms d x).unions s.unions)) (sym same) i.merges;
            })
        | inr above ↦
            let last : d ≡ length log = omega arith in
            subst (IsMark ps (log ++ t ∷ []) s d) (sym (get_or_push ms m x d (omega arith)))
            (let same : take d (log ++ t ∷ []) ≡ log = ap (λ n. take n (log ++ t ∷ [])) last ∙ take-append_seam log (t ∷ []) in
            record {
              fits = fits_full m s full;
              rest = subst (λ l. IsAtRest ps l (cut m s)) (sym same) (subst (λ (x : State). IsAtRest ps log x) (sym (cut_full m s full)) rest);
              merges = subst (λ l. StepsAreMerges l (take m.unions s.unions)) (sym same) (subst (λ us. StepsAreMerges log us) (sym (take_full m.unions s.unions full.unions)) merges);
            })
      ];
      ordered = λ i d x le less. elim (cases_lt d (length ms)) [
        | inl before ↦
            subst (λ (y : Mark). IsBelow y (get_or (ms ++ m ∷ []) d x)) (sym (get_or_append_left ms (m ∷ []) x i (omega arith)))
            (subst (λ (y : Mark). IsBelow (get_or ms i x) y) (sym (get_or_append_left ms (m ∷ []) x d before)) (marks.ordered i d x le before))
        | inr above ↦
            subst (λ (y : Mark). IsBelow (get_or (ms ++ m ∷ []) i x) y) (sym (get_or_push ms m x d (omega arith)))
            (elim (cases_lt i (length ms)) [
              | inl early ↦ subst (λ (y : Mark). IsBelow y m) (sym (get_or_append_left ms (m ∷ []) x i early)) (full_above (get_or ms i x) m s (marks.at i x early).fits full)
              | inr late ↦ subst (λ (y : Mark). IsBelow y m) (sym (get_or_push ms m x i (omega arith))) (below_itself m)
            ])
      ];
    }

taken : {X : Type 0} (m n : ℕ) (xs : List X) → n ≤ length xs → m ≤ n → m ≤ length (take n xs)
taken m n xs within le = let e : length (take n xs) ≡ n = length-take-le n xs within in omega arith

fits_cut : (m n : Mark) (s : State) → Fits n s → IsBelow m n → Fits m (cut n s)
fits_cut m n s f b = record {
  unions = taken m.unions n.unions s.unions f.unions b.unions;
  hashes = taken m.filed n.filed s.hashes f.hashes b.filed;
  points = taken m.filed n.filed s.points f.points b.filed;
  uses = taken m.uses n.uses s.uses f.uses b.uses;
  watches = taken m.watches n.watches s.watches f.watches b.watches;
  pairs = taken m.pairs n.pairs s.pairs f.pairs b.pairs;
  met = taken m.met n.met s.met f.met b.met;
}

pub marks_cut : (ps : List Point) (log : List Step) (s : State) (ms : List Mark) (d : ℕ) (m : Mark) → d < length ms → get_or ms d m ≡ m → AreMarks ps log s ms → AreMarks ps (take d log) (cut m s) (take d ms)
marks_cut ps log s ms d m less is marks =
    let count : length ms ≡ length log = marks.count in
    let size : length (take d ms) ≡ d = length-take-le d ms (omega arith) in
    let size_log : length (take d log) ≡ d = length-take-le d log (omega arith) in
    let fits : Fits m s = subst (λ (x : Mark). Fits x s) is (marks.at d m less).fits in
    let below : (i : ℕ) (x : Mark) → i < d → IsBelow (get_or ms i x) m = λ i x early.
    subst (λ (y : Mark). IsBelow (get_or ms i x) y) (get_or_default ms d x m less ∙ is) (marks.ordered i d x (omega arith) less) in
    record {
      count = omega arith;
      at = λ i x few. let early : i < d = omega arith in
          subst (IsMark ps (take d log) (cut m s) i) (sym (get_or-take d ms i x early))
          (let mi : Mark = get_or ms i x in
          let old : IsMark ps log s i mi = marks.at i x (omega arith) in
          let same : take i (take d log) ≡ take i log = take-take i d log (omega arith) in
          record {
            fits = fits_cut mi m s fits (below i x early);
            rest = subst (λ l. IsAtRest ps l (cut mi (cut m s))) (sym same) (subst (λ (y : State). IsAtRest ps (take i log) y) (sym (cut_cut mi m s (below i x early))) old.rest);
            merges = subst (λ l. StepsAreMerges l (take mi.unions (take m.unions s.unions))) (sym same)
                (subst (λ us. StepsAreMerges (take i log) us) (sym (take-take mi.unions m.unions s.unions (below i x early).unions)) old.merges);
          });
      ordered = λ i j x le few. let early : j < d = omega arith in
          subst (λ (y : Mark). IsBelow y (get_or (take d ms) j x)) (sym (get_or-take d ms i x (omega arith)))
          (subst (λ (y : Mark). IsBelow (get_or ms i x) y) (sym (get_or-take d ms j x early)) (marks.ordered i j x le (omega arith)));
    }
