-- The parts of a closure after each change.
use Rattle.std.proofs.Common.{◌≡◌, ℕ, List, [], ◌∷◌, ◌++◌, length, All}
use Rattle.std.proofs.lemmas.List.Elements.{All-push}
use Rattle.point_closure.specs.declared.classes.Union.{Union}
use Rattle.point_closure.specs.declared.step.Step.{Step}
use Rattle.point_closure.specs.Closure.{Point}
use Rattle.point_closure.specs.declared.pending.Mark.{Mark}
use Rattle.point_closure.specs.declared.watch.Watch.{Watch}
use Rattle.point_closure.specs.declared.lists.Change.{Change}
use Rattle.point_closure.specs.declared.lists.Change.TheVariants.{Join}
use Rattle.point_closure.specs.Signature.{Filed}
use Rattle.point_closure.specs.Sound.{IsJustified}
use Rattle.point_closure.specs.Rest.{Begins, PutsBelow, TakesPart, FiledGrows}
use Rattle.point_closure.specs.State.{State, Grows, IsFull, IsAtRest}
use Rattle.point_closure.specs.Whole.{AreParts}
use Rattle.point_closure.proofs.RestLemmas.{begins_itself, begins_append}
use Rattle.point_closure.proofs.StateLemmas.{state_with, same_state, marks_grow, marks_push}
use Rattle.point_closure.proofs.SoundLemmas.{alike_push, merges_push, merges_more}

pub state_is : {a a' : List Union} {b b' c c' : List ℕ} {d d' e e' : List Change} {f f' : List Watch} {g g' : List ℕ} → a ≡ a' → b ≡ b' → c ≡ c' → d ≡ d' → e ≡ e' → f ≡ f' → g ≡ g'
    → state_with a b c d e f g ≡ state_with a' b' c' d' e' f' g'
state_is {a = a} {a' = a'} {b = b} {b' = b'} {c = c} {c' = c'} {d = d} {d' = d'} {e = e} {e' = e'} {f = f} {f' = f'} {g = g} {g' = g'} p q r s t u v =
    same_state a a' b b' c c' d d' e e' f f' g g' p q r s t u v

-- ---- one more union, with the pairs that it meets

abbrev pub joined : State → Union → List ℕ → State
joined s u met' = record { unions = s.unions ++ u ∷ []; hashes = s.hashes; points = s.points; uses = s.uses ++ Join u.kept u.gone ∷ []; watches = s.watches ++ Join u.kept u.gone ∷ []; pairs = s.pairs; met = met' }

pub joined_grows : (s : State) (u : Union) (met' : List ℕ) → Begins s.met met' → Grows s (joined s u met')
joined_grows s u met' b = record {
  unions = begins_append s.unions (u ∷ []);
  hashes = begins_itself s.hashes;
  points = begins_itself s.points;
  uses = begins_append s.uses (Join u.kept u.gone ∷ []);
  watches = begins_append s.watches (Join u.kept u.gone ∷ []);
  pairs = begins_itself s.pairs;
  met = b;
}

pub parts_joined : (ps : List Point) (log : List Step) (s : State) (ms : List Mark) (u : Union) (met' : List ℕ) → IsJustified ps s.unions log u → Begins s.met met' → AreParts ps log s ms → AreParts ps log (joined s u met') ms
parts_joined ps log s ms u met' is b w = record {
  owners = All-push (PutsBelow (length ps)) s.uses (Join u.kept u.gone) w.owners tt;
  slots = All-push (PutsBelow (length s.pairs)) s.watches (Join u.kept u.gone) w.slots tt;
  ends = w.ends;
  filed = w.filed;
  alike = alike_push ps s.unions log u w.alike is;
  merges = merges_push ps s.unions log u w.merges is;
  marks = marks_grow ps log s (joined s u met') ms (joined_grows s u met' b) w.marks;
}

abbrev pub with_met : State → List ℕ → State
with_met s met' = record { unions = s.unions; hashes = s.hashes; points = s.points; uses = s.uses; watches = s.watches; pairs = s.pairs; met = met' }

pub met_grows : (s : State) (met' : List ℕ) → Begins s.met met' → Grows s (with_met s met')
met_grows s met' b = record {
  unions = begins_itself s.unions;
  hashes = begins_itself s.hashes;
  points = begins_itself s.points;
  uses = begins_itself s.uses;
  watches = begins_itself s.watches;
  pairs = begins_itself s.pairs;
  met = b;
}

pub parts_met : (ps : List Point) (log : List Step) (s : State) (ms : List Mark) (met' : List ℕ) → Begins s.met met' → AreParts ps log s ms → AreParts ps log (with_met s met') ms
parts_met ps log s ms met' b w = record {
  owners = w.owners;
  slots = w.slots;
  ends = w.ends;
  filed = w.filed;
  alike = w.alike;
  merges = w.merges;
  marks = marks_grow ps log s (with_met s met') ms (met_grows s met' b) w.marks;
}

-- ---- more points are filed

abbrev pub refiled : State → Filed → State
refiled s t = record { unions = s.unions; hashes = t.hashes; points = t.points; uses = s.uses; watches = s.watches; pairs = s.pairs; met = s.met }

pub refiled_grows : (s : State) (t : Filed) → FiledGrows (record { hashes = s.hashes; points = s.points }) t → Grows s (refiled s t)
refiled_grows s t g = record {
  unions = begins_itself s.unions;
  hashes = g.hashes;
  points = g.points;
  uses = begins_itself s.uses;
  watches = begins_itself s.watches;
  pairs = begins_itself s.pairs;
  met = begins_itself s.met;
}

pub parts_refiled : (ps : List Point) (log : List Step) (s : State) (ms : List Mark) (t : Filed) → FiledGrows (record { hashes = s.hashes; points = s.points }) t → All (TakesPart ps) t.points → AreParts ps log s ms → AreParts ps log (refiled s t) ms
parts_refiled ps log s ms t g filed w = record {
  owners = w.owners;
  slots = w.slots;
  ends = w.ends;
  filed = filed;
  alike = w.alike;
  merges = w.merges;
  marks = marks_grow ps log s (refiled s t) ms (refiled_grows s t g) w.marks;
}

-- ---- one more step, and fewer

pub parts_step : (ps : List Point) (log : List Step) (t : Step) (s : State) (ms : List Mark) (m : Mark) → IsFull m s → IsAtRest ps log s → AreParts ps log s ms → AreParts ps (log ++ t ∷ []) s (ms ++ m ∷ [])
parts_step ps log t s ms m full rest w = record {
  owners = w.owners;
  slots = w.slots;
  ends = w.ends;
  filed = w.filed;
  alike = w.alike;
  merges = merges_more log s.unions t w.merges;
  marks = marks_push ps log t s ms m full rest w.merges w.marks;
}
