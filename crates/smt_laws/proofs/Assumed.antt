-- A check under assumptions: of the stack and one level above it, which is gone after the answer.
use Rattle.std.proofs.Common.{◌≡◌, ℕ, Bool, true, false, not, ◌||◌, List, [], ◌∷◌, refl, subst, sym, Some, suc, ◌-◌, take, length, ◌++◌, ap, ◌∙◌, arith}
use Rattle.std.proofs.lemmas.List.Elements.{All-nil, All-cons, All-head, All-tail}
use Rattle.std.specs.Prelude.{codes, MatchBool}
use Rattle.smt_meaning.specs.declared.values.Value.TheVariants.{Truth}
use Rattle.smt_meaning.specs.declared.values.Table.{Table}
use Rattle.smt_meaning.specs.declared.terms.Operator.TheVariants.{Not, Or}
use Rattle.smt_meaning.specs.declared.terms.Head.TheVariants.{Theory}
use Rattle.smt_meaning.specs.declared.tokens.Token.{Token}
use Rattle.smt_meaning.specs.declared.tokens.Token.TheVariants.{Enter, Leave, Symbol}
use Rattle.smt_meaning.specs.declared.refusals.Refusal.TheVariants.{TooManyLevels}
use Rattle.smt_meaning.specs.declared.commands.Command.TheVariants.{CheckSat, CheckSatAssuming}
use Rattle.smt_meaning.specs.declared.answers.Mode.TheVariants as In
use Rattle.smt_meaning.specs.declared.answers.Reply.{Reply}
use Rattle.smt_meaning.specs.declared.answers.Reply.TheVariants.{Unsupported, Sat, Unsat, Unknown}
use Rattle.smt_meaning.specs.declared.answers.Reply.TheVariants as Given
use Rattle.smt_meaning.specs.declared.replies.Kept.{Kept}
use Rattle.smt_meaning.specs.declared.replies.Kept.TheVariants.{Nothing}
use Rattle.smt_meaning.specs.Term.{Tree, node, none, more, truth_of}
use Rattle.smt_meaning.specs.Reading.{text_rest, mark_rest, quoted_rest, lexeme, comment_rest, is_word_byte, is_symbol_byte, is_printable, word_token}
use Rattle.smt_meaning.specs.Interpretation.{meaning, Interprets, IsFunctionFor}
use Rattle.smt_meaning.specs.Sorts.{Scope, Outcome, done, refused, ◌>>=◌, ◌>>◌, return, refuse, require, required, the_scope, note, found, declare}
use Rattle.smt_meaning.specs.Stack.{Assertion, Frame, Satisfies, HasNoModel, empty_frame, on_top}
use Rattle.smt_meaning.specs.StackCommand.{Change, declares, asserts, pushes, pops, asks, assumes, sets, clears, begins_again, is_unsupported, changed, judge_body, judged, assume_terms}
use Rattle.smt_meaning.specs.Command.{command}
use Rattle.smt_meaning.specs.State.{State, checked_frames, assuming, frame_of, effect, start, with_logic}
use Rattle.smt_meaning.specs.Text.{symbol_text, text}
use Rattle.smt_meaning.specs.MayReply.{Decided, IsExactly, MayCome, MayDecide, MayReply}
use Rattle.smt_laws.specs.LanguageLaws.{AssumptionsGo, AssumptionsAreALevel}
use Rattle.smt_laws.proofs.Constants.{every, truth_constant, first_tree, second_tree}
use Rattle.smt_laws.proofs.Told.{false_true}
use Rattle.smt_laws.proofs.Script.{runs, script, settings}

-- ---- (or p q) is asserted, and that neither holds is assumed

abbrev either_tree : Tree
either_tree = node (Theory Or) (more first_tree (more second_tree none))

abbrev no_tree : Tree → Tree
no_tree t = node (Theory Not) (more t none)

abbrev word : List ℕ → Token
word n = Symbol n

abbrev not_text : List ℕ → List Token
not_text n = Enter ∷ word (codes "not") ∷ word n ∷ Leave ∷ []

abbrev either_text : List Token
either_text = Enter ∷ word (codes "or") ∷ word (codes "p") ∷ word (codes "q") ∷ Leave ∷ []

abbrev assumed : List (List Token)
assumed = not_text (codes "p") ∷ not_text (codes "q") ∷ []

abbrev level_0 : Frame
level_0 = record { declared = truth_constant 0 (codes "p") ∷ truth_constant 1 (codes "q") ∷ []; asserted = record { text = either_text; term = either_tree } ∷ [] }

-- the assumptions' level
abbrev above : Frame
above = record { declared = []; asserted = record { text = not_text (codes "p"); term = no_tree first_tree } ∷ record { text = not_text (codes "q"); term = no_tree second_tree } ∷ [] }

abbrev either_asserted : State
either_asserted =
    record (start settings) {
      logic = Some (codes "QF_UFLIA");
      mode = In.Assert;
      stack = record { frames = level_0 ∷ []; given = 2; trees = first_tree ∷ second_tree ∷ either_tree ∷ []; global = false };
    }

abbrev after_script : List ℕ → State
after_script bytes = (runs (record { state = start settings; found = []; written = [] }) (script bytes)).state

script_asserts : after_script (codes "(declare-const p Bool)(declare-const q Bool)(assert (or p q))") ≡ either_asserted
unfolding text_rest mark_rest quoted_rest lexeme comment_rest is_word_byte is_symbol_byte is_printable word_token ◌>>=◌ ◌>>◌ return refuse require required the_scope note found declare judge_body judged command effect symbol_text text
script_asserts = refl

-- the check's state: the terms of the assumptions were judged, and the levels of the stack are the same
abbrev neither_checked : State
neither_checked = record either_asserted {
  stack = record { frames = level_0 ∷ []; given = 2; trees = first_tree ∷ second_tree ∷ either_tree ∷ no_tree first_tree ∷ no_tree second_tree ∷ []; global = false };
  above = above ∷ [];
}

one_is : (a b : Bool) → (a || b) ≡ true → not a ≡ true → not b ≡ true → ⊥
one_is true b h f g = false_true f
one_is false true h f g = false_true g
one_is false false h f g = false_true h

neither_has_no_model : HasNoModel (level_0 ∷ above ∷ [])
unfolding HasNoModel
neither_has_no_model I i h =
    let rest = All-tail (Satisfies I) either_tree (no_tree first_tree ∷ no_tree second_tree ∷ []) h in
    one_is (truth_of (I 0 [])) (truth_of (I 1 [])) (All-head (Satisfies I) either_tree (no_tree first_tree ∷ no_tree second_tree ∷ []) h)
    (All-head (Satisfies I) (no_tree first_tree) (no_tree second_tree ∷ []) rest)
    (All-head (Satisfies I) (no_tree second_tree) [] (All-tail (Satisfies I) (no_tree first_tree) (no_tree second_tree ∷ []) rest))

unsat_may_come : MayReply every either_asserted (CheckSatAssuming assumed) Unsat Nothing (record neither_checked { mode = In.Unsat })
unfolding MayReply effect ◌>>=◌ ◌>>◌ return refuse require required the_scope note found declare judged
unsat_may_come = (refl, neither_has_no_model, refl)

abbrev both_true : List Table
both_true = record { symbol = 0; rows = []; default = Truth true } ∷ record { symbol = 1; rows = []; default = Truth true } ∷ []

-- without the assumptions a model is there, so the next check can't be answered so
stack_has_a_model : HasNoModel (level_0 ∷ []) → ⊥
unfolding HasNoModel Interprets
stack_has_a_model h =
    h (meaning both_true)
    (All-cons (IsFunctionFor (meaning both_true)) (truth_constant 0 (codes "p")) (truth_constant 1 (codes "q") ∷ []) (λ s vs hs. refl)
    (All-cons (IsFunctionFor (meaning both_true)) (truth_constant 1 (codes "q")) [] (λ s vs hs. refl) (All-nil (IsFunctionFor (meaning both_true)))))
    (All-cons (Satisfies (meaning both_true)) either_tree [] refl (All-nil (Satisfies (meaning both_true))))

unsat_goes : (new : State) → MayReply every (record neither_checked { mode = In.Unsat }) CheckSat Unsat Nothing new → ⊥
unfolding MayReply effect
unsat_goes new h = stack_has_a_model h.1

-- ---- one more level wants room

no_room : assume_terms 65535 [] (record { signature = []; given = 0; trees = [] }) ≡ refused TooManyLevels
unfolding ◌>>=◌ ◌>>◌ return refuse require the_scope
no_room = refl

last_room : assume_terms 65534 [] (record { signature = []; given = 0; trees = [] }) ≡ done (assumes []) (record { signature = []; given = 0; trees = [] })
unfolding ◌>>=◌ ◌>>◌ return refuse require the_scope
last_room = refl

-- ---- whatever is answered, the levels are those before

abbrev SameLevels : State → State → Type 0
SameLevels old new = new.stack.frames ≡ old.stack.frames

as_before : (old new state : State) → new ≡ state → SameLevels old state → SameLevels old new
as_before old new state e h = subst (SameLevels old) (sym e) h

decided_levels : (old s : State) (r : Reply) (kept : Kept) (new : State) → SameLevels old s → MayDecide s r kept new → SameLevels old new
decided_levels old s Given.Sat kept new h d = as_before old new (record s { mode = In.Sat d.0 }) d.3 h
decided_levels old s Given.Unsat kept new h d = as_before old new (record s { mode = In.Unsat }) d.2 h
decided_levels old s Given.Unknown kept new h d = as_before old new _ d.3 h
decided_levels old s Given.Success kept new h d = absurd d
decided_levels old s Given.Silent kept new h d = absurd d
decided_levels old s Given.Unsupported kept new h d = absurd d
decided_levels old s (Given.Echo t) kept new h d = absurd d
decided_levels old s (Given.Option v) kept new h d = absurd d
decided_levels old s (Given.Info i) kept new h d = absurd d
decided_levels old s (Given.Values vs) kept new h d = absurd d
decided_levels old s (Given.Model fs) kept new h d = absurd d
decided_levels old s (Given.Assertions ts) kept new h d = absurd d
decided_levels old s (Given.Assignment vs) kept new h d = absurd d
decided_levels old s (Given.UnsatCore ns) kept new h d = absurd d
decided_levels old s (Given.UnsatAssumptions ts) kept new h d = absurd d
decided_levels old s (Given.Minimum v) kept new h d = absurd d
decided_levels old s (Given.Error e) kept new h d = absurd d

check_levels : (x : Bool) (old s : State) (r : Reply) (kept : Kept) (new : State) → SameLevels old s
    → MatchBool x (MayDecide s r kept new) (IsExactly Unsupported old r kept new) → SameLevels old new
check_levels true old s r kept new h d = decided_levels old s r kept new h d
check_levels false old s r kept new h i = as_before old new old i.new_is refl

abbrev assuming_state : State → List Assertion → Scope → State
assuming_state old xs c = record (with_logic old) { stack = changed old.stack (assumes xs) c; above = frame_of xs ∷ [] }

assuming_levels : (decided : Decided) (old : State) (o : Outcome Change) (r : Reply) (kept : Kept) (new : State) → MayCome decided old (assuming old o) r kept new → SameLevels old new
assuming_levels decided old (refused e) r kept new i = as_before old new old i.new_is refl
assuming_levels decided old (done (assumes xs) c) r kept new i = check_levels (decided (checked_frames (assuming_state old xs c))) old (assuming_state old xs c) r kept new refl i
assuming_levels decided old (done declares c) r kept new i = as_before old new old i.new_is refl
assuming_levels decided old (done (asserts a) c) r kept new i = as_before old new old i.new_is refl
assuming_levels decided old (done (pushes k) c) r kept new i = as_before old new old i.new_is refl
assuming_levels decided old (done (pops k) c) r kept new i = as_before old new old i.new_is refl
assuming_levels decided old (done (asks ts) c) r kept new i = as_before old new old i.new_is refl
assuming_levels decided old (done (sets x) c) r kept new i = as_before old new old i.new_is refl
assuming_levels decided old (done clears c) r kept new i = as_before old new old i.new_is refl
assuming_levels decided old (done begins_again c) r kept new i = as_before old new old i.new_is refl
assuming_levels decided old (done is_unsupported c) r kept new i = as_before old new old i.new_is refl

pub assumptions_go : AssumptionsGo
unfolding MayReply effect
assumptions_go decided old ts r kept new i = assuming_levels decided old (judged (λ level. assume_terms level ts) old.stack) r kept new i

-- ---- as a push, assertions and a pop

on_new_level : (frames : List Frame) (xs : List Assertion) → on_top [] xs (frames ++ empty_frame ∷ []) ≡ frames ++ frame_of xs ∷ []
on_new_level [] xs = refl
on_new_level (f ∷ []) xs = refl
on_new_level (f ∷ g ∷ frames) xs = ap (λ fs. f ∷ fs) (on_new_level (g ∷ frames) xs)

without_last : (frames : List Frame) (f : Frame) → take (length frames) (frames ++ f ∷ []) ≡ frames
without_last [] f = refl
without_last (g ∷ frames) f = ap (λ fs. g ∷ fs) (without_last frames f)

length_more : (frames : List Frame) (f : Frame) → length (frames ++ f ∷ []) ≡ suc (length frames)
length_more [] f = refl
length_more (g ∷ frames) f = ap suc (length_more frames f)

one_less : (frames : List Frame) (f : Frame) → length (frames ++ f ∷ []) - 1 ≡ length frames
one_less frames f = let more : length (frames ++ f ∷ []) ≡ suc (length frames) = length_more frames f in omega (arith, more)

pub assumptions_are_a_level : AssumptionsAreALevel
assumptions_are_a_level frames xs = record {
  there = on_new_level frames xs;
  gone = ap (λ n. take n (frames ++ frame_of xs ∷ [])) (one_less frames (frame_of xs)) ∙ without_last frames (frame_of xs);
}
