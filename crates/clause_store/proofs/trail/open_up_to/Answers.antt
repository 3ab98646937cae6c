use Rattle.std.proofs.Common.{◌≡◌, ◌+◌, ◌++◌, ◌∷◌, [], length, vec_len, subst, sym, ap, arith, All, ◌<◌}
use Rattle.std.proofs.lemmas.List.{length_push}
use Rattle.clause_store.specs.Trail.{Step}
use Rattle.clause_store.specs.TrailInvariant.{Agrees, IsPlaced}
use Rattle.clause_store.specs.declared.trail.Mark.TheVariants.{Open}
use Rattle.clause_store.proofs.TrailLemmas.{Agrees-more, IsPlaced-more}
use Rattle.clause_store.proofs.trail.open_up_to.Goals as goal

pub loop-marks-preserved : goal.loop-marks-preserved
loop-marks-preserved c =
    let l = c.loop-marks in
    let marks : vec_len c.push_open.new.marks ≡ vec_len l.marks + 1 = omega (arith, length_push l.marks.items Open, l.marks.ok, c.push_open.new.marks.ok, ap length c.push_open.ensures.marks) in
    let places : vec_len c.push_open.new.places ≡ vec_len l.places + 1 = omega (arith, length_push l.places.items 0, l.places.ok, c.push_open.new.places.ok, ap length c.push_open.ensures.places) in
    record {
      few = omega arith;
      even = omega arith;
      marks = omega arith;
      places = omega arith;
      agrees = λ steps depth h. rw c.push_open.ensures.marks (Agrees-more steps l.marks.items depth (l.invariant.agrees steps depth h));
      placed = λ steps depth h k.
          let was : Agrees steps l.marks.items depth = l.invariant.agrees steps depth h in
          let count : length l.marks.items ≡ vec_len l.marks = omega (arith, l.marks.ok) in
          rw c.push_open.ensures.places (subst (λ n. IsPlaced steps (l.places.items ++ 0 ∷ []) n) (sym marks)
          (IsPlaced-more steps l.places.items (vec_len l.marks) (subst (λ n. All (λ (s : Step). s.literal.atom < n) steps) count was.within) (l.invariant.placed steps depth h k)));
    }

pub returns-clause-placed : goal.returns-clause-placed
returns-clause-placed c =
    let l = c.loop-marks in
    let e : vec_len l.marks ≡ c.args.atoms = omega arith in
    λ steps depth h k. subst (λ n. IsPlaced steps l.places.items n) e (l.invariant.placed steps depth h k)
