-- Which replies to checks may be given, and journals that are legal.
use Rattle.std.proofs.Common.{◌≡◌, inl, inr, ℕ, Bool, true, false, List, [], ◌∷◌, ◌++◌, refl, ap, Some, None, arith}
use Rattle.std.proofs.lemmas.List.Elements.{All-nil, All-cons, All-head}
use Rattle.std.specs.Prelude.{codes, Result, Ok, Err}
use Rattle.std.specs.Fmt.{digits}
use Rattle.smt_meaning.specs.declared.values.Sort.TheVariants.{Bool as Truths}
use Rattle.smt_meaning.specs.declared.values.Value.TheVariants.{Truth}
use Rattle.smt_meaning.specs.declared.values.Table.{Table}
use Rattle.smt_meaning.specs.declared.terms.Head.TheVariants.{Symbol as Function, Theory}
use Rattle.smt_meaning.specs.declared.terms.Operator.TheVariants.{False}
use Rattle.smt_meaning.specs.declared.tokens.Token.{Token}
use Rattle.smt_meaning.specs.declared.tokens.Token.TheVariants.{Enter, Leave, Symbol}
use Rattle.smt_meaning.specs.declared.tokens.FaultKind.TheVariants.{Character, Closing, Unfinished, Nesting}
use Rattle.smt_meaning.specs.declared.options.UnknownReason.TheVariants.{Memout, Incomplete}
use Rattle.smt_meaning.specs.declared.options.Info.TheVariants.{ReasonUnknown}
use Rattle.smt_meaning.specs.declared.refusals.Refusal.TheVariants.{TooManyTerms, TooManySymbols}
use Rattle.smt_meaning.specs.declared.errors.Error.{Error as ErrorReply}
use Rattle.smt_meaning.specs.declared.errors.Error.TheVariants.{Fault, NotCommand, NotUnsat, Refused}
use Rattle.smt_meaning.specs.declared.commands.Command.{Command}
use Rattle.smt_meaning.specs.declared.commands.Command.TheVariants.{CheckSat, DeclareConst}
use Rattle.smt_meaning.specs.declared.commands.WrittenSort.TheVariants.{Name}
use Rattle.smt_meaning.specs.declared.answers.Mode.TheVariants as In
use Rattle.smt_meaning.specs.declared.answers.Reply.TheVariants.{Success, Unsupported, Sat, Unsat, Unknown, Info, Error}
use Rattle.smt_meaning.specs.declared.replies.Kept.TheVariants.{Nothing, Model}
use Rattle.smt_meaning.specs.Declaration.{Declaration}
use Rattle.smt_meaning.specs.Term.{Tree, node, none}
use Rattle.smt_meaning.specs.Reading.{text_rest, mark_rest, quoted_rest, lexeme, comment_rest, is_word_byte, is_symbol_byte, is_printable, word_token, opening, closing, single}
use Rattle.smt_meaning.specs.Interpretation.{meaning, Interprets, IsFunctionFor}
use Rattle.smt_meaning.specs.Sorts.{◌>>=◌, ◌>>◌, return, refuse, require, required, the_scope, note, found, declare}
use Rattle.smt_meaning.specs.Stack.{Satisfies, HasNoModel, start_frames}
use Rattle.smt_meaning.specs.StackCommand.{judge_body, judged}
use Rattle.smt_meaning.specs.Command.{command}
use Rattle.smt_meaning.specs.State.{State, denied, effect, start}
use Rattle.smt_meaning.specs.Text.{symbol_text, text}
use Rattle.smt_meaning.specs.MayReply.{Decided, Fits, IsModel, MayReply, Replies}
use Rattle.smt_meaning.specs.LegalJournal.{IsLegal}
use Rattle.smt_laws.proofs.Told.{false_true}
use Rattle.smt_laws.proofs.Script.{runs, script, settings}

-- ---- texts that no script of a run meets, or only a large one

character_place : text (Error (Fault Character 3)) ≡ codes "(error \"E1 character at byte 3\")\n"
unfolding text digits
character_place = refl

closing_place : text (Error (Fault Closing 17)) ≡ codes "(error \"E2 closing parenthesis at byte 17\")\n"
unfolding text digits
closing_place = refl

unfinished_place : text (Error (Fault Unfinished 11)) ≡ codes "(error \"E3 end inside a command at byte 11\")\n"
unfolding text digits
unfinished_place = refl

nesting_place : text (Error (Fault Nesting 10000)) ≡ codes "(error \"E4 nesting past 10000 at byte 10000\")\n"
unfolding text digits
nesting_place = refl

not_unsat : text (Error NotUnsat) ≡ codes "(error \"E23 not in unsat mode\")\n"
unfolding text
not_unsat = refl

too_many_terms : text (Error (Refused (codes "assert") TooManyTerms)) ≡ codes "(error \"E25 too many terms\")\n"
unfolding text
too_many_terms = refl

too_many_symbols : text (Error (Refused (codes "declare-const") TooManySymbols)) ≡ codes "(error \"E25 too many symbols\")\n"
unfolding text
too_many_symbols = refl

unknown : text Unknown ≡ codes "unknown\n"
unfolding text
unknown = refl

memout : text (Info (ReasonUnknown Memout)) ≡ codes "(:reason-unknown memout)\n"
unfolding text
memout = refl

incomplete : text (Info (ReasonUnknown Incomplete)) ≡ codes "(:reason-unknown incomplete)\n"
unfolding text
incomplete = refl

-- ---- no more ids

abbrev no_ids_left : State
no_ids_left = record (start settings) { stack = record { frames = start_frames; given = 4294967295; trees = []; global = false } }

no_more_symbols : effect no_ids_left (DeclareConst (codes "x") (Name (codes "Bool"))) ≡ denied (Refused (codes "declare-const") TooManySymbols)
unfolding effect judged ◌>>=◌ ◌>>◌ return refuse require required the_scope declare
no_more_symbols = refl

-- ---- checks

abbrev every : Decided
every frames = true

abbrev no_stack : Decided
no_stack frames = false

abbrev p : Declaration
p = record { id = 0; name = codes "p"; rank = record { arguments = []; result = Truths }; body = None; is_sort = false; is_name = false }

abbrev p_tree : Tree
p_tree = node (Function 0) none

abbrev false_tree : Tree
false_tree = node (Theory False) none

abbrev asserting : List Declaration → ℕ → List Token → Tree → State
asserting ds n ts t =
    record (start settings) {
      logic = Some (codes "QF_UFLIA");
      mode = In.Assert;
      stack = record { frames = record { declared = ds; asserted = record { text = ts; term = t } ∷ [] } ∷ []; given = n; trees = t ∷ []; global = false };
    }

abbrev asserting_p : State
asserting_p = asserting (p ∷ []) 1 (Symbol (codes "p") ∷ []) p_tree

abbrev asserting_false : State
asserting_false = asserting [] 0 (Symbol (codes "false") ∷ []) false_tree

abbrev p_is_true : Table
p_is_true = record { symbol = 0; rows = []; default = Truth true }

abbrev after_script : List ℕ → State
after_script bytes = (runs (record { state = start settings; found = []; written = [] }) (script bytes)).state

script_asserts_p : after_script (codes "(declare-const p Bool)(assert p)") ≡ asserting_p
unfolding text_rest mark_rest quoted_rest lexeme comment_rest is_word_byte is_symbol_byte is_printable word_token ◌>>=◌ ◌>>◌ return refuse require required the_scope note found declare judge_body judged command effect symbol_text text
script_asserts_p = refl

script_asserts_false : after_script (codes "(assert false)") ≡ asserting_false
unfolding text_rest mark_rest quoted_rest lexeme comment_rest is_word_byte is_symbol_byte is_printable word_token ◌>>=◌ ◌>>◌ return refuse require required the_scope note found declare judge_body judged command effect symbol_text text
script_asserts_false = refl

p_true_is_a_model : IsModel asserting_p.stack.frames (p_is_true ∷ [])
p_true_is_a_model =
    record {
      tables = (
        record {
          symbol = refl;
          rows = All-nil _;
          default = refl;
          no_two = λ i j d k l. absurd (omega (arith, l));
          constants = λ e. refl;
        },
        tt,
      );
      holds = All-cons (Satisfies (meaning (p_is_true ∷ []))) p_tree [] refl (All-nil (Satisfies (meaning (p_is_true ∷ []))));
      fits = All-cons (Fits (meaning (p_is_true ∷ []))) p_tree [] refl (All-nil (Fits (meaning (p_is_true ∷ []))));
    }

-- p is asserted, and a model makes it true
sat_may_come : MayReply every asserting_p CheckSat Sat (Model (p_is_true ∷ [])) (record asserting_p { mode = In.Sat (p_is_true ∷ []) })
unfolding MayReply effect
sat_may_come = (p_is_true ∷ [], refl, p_true_is_a_model, refl)

-- it can't be answered unsat, nor unsupported
unsat_never_comes : (new : State) → MayReply every asserting_p CheckSat Unsat Nothing new → ⊥
unfolding MayReply effect HasNoModel Interprets
unsat_never_comes new h =
    h.1 (meaning (p_is_true ∷ [])) (All-cons (IsFunctionFor (meaning (p_is_true ∷ []))) p [] (λ s vs hs. refl) (All-nil (IsFunctionFor (meaning (p_is_true ∷ [])))))
    p_true_is_a_model.holds

false_has_no_model : HasNoModel asserting_false.stack.frames
unfolding HasNoModel
false_has_no_model I i h = false_true (All-head (Satisfies I) false_tree [] h)

unsat_may_come : MayReply every asserting_false CheckSat Unsat Nothing (record asserting_false { mode = In.Unsat })
unfolding MayReply effect
unsat_may_come = (refl, false_has_no_model, refl)

-- where checks of the stack aren't decided, nothing changes
unsupported_comes : MayReply no_stack (start settings) CheckSat Unsupported Nothing (start settings)
unfolding MayReply effect
unsupported_comes = record { reply_is = refl; kept_is = refl; new_is = refl }

-- ---- journals

-- nothing answers nothing
empty_is_legal : IsLegal every settings [] []
unfolding IsLegal lexeme
empty_is_legal = refl

abbrev exit_bytes : List ℕ
exit_bytes = codes "(exit)" ++ 255 ∷ 0 ∷ 40 ∷ []

-- bytes after an exit aren't interpreted
exit_is_legal : IsLegal every settings exit_bytes (record { number = 0; reply = Success; kept = Nothing } ∷ [])
unfolding IsLegal Replies MayReply effect command text_rest mark_rest quoted_rest lexeme comment_rest is_word_byte is_symbol_byte is_printable word_token
exit_is_legal =
    inl (
      inl (
        Enter ∷ Symbol (codes "exit") ∷ Leave ∷ [],
        record { place = 6; bytes = 255 ∷ 0 ∷ 40 ∷ []; state = start settings; number = 1 },
        refl,
        record {
          reads =
              record {
                sexpr = (opening ∷ single ∷ [], 1, closing, refl, (omega arith, (omega arith, refl)), refl);
                lexes = (
                  exit_bytes,
                  codes "exit)" ++ 255 ∷ 0 ∷ 40 ∷ [],
                  refl,
                  (
                    codes "exit)" ++ 255 ∷ 0 ∷ 40 ∷ [],
                    41 ∷ 255 ∷ 0 ∷ 40 ∷ [],
                    refl,
                    (41 ∷ 255 ∷ 0 ∷ 40 ∷ [], 255 ∷ 0 ∷ 40 ∷ [], refl, refl),
                  ),
                );
                place = refl;
              };
          number = (refl, refl);
          reply = record { reply_is = refl; kept_is = refl; new_is = refl };
        },
      ),
      refl,
    )

abbrev is_ok : Result Command ErrorReply → Bool
is_ok (Ok c) = true
is_ok (Err e) = false

err_is_no_ok : {e : ErrorReply} {c : Command} → Err e ≡ Ok c → ⊥
err_is_no_ok h = false_true (ap is_ok h)

-- an s-expression that ends is answered before the fault behind it
abbrev fault_bytes : List ℕ
fault_bytes = codes "foo )"

fault_is_legal : IsLegal every settings fault_bytes
    (record { number = 0; reply = Error NotCommand; kept = Nothing } ∷ record { number = 1; reply = Error (Fault Closing 4); kept = Nothing } ∷ [])
unfolding IsLegal Replies MayReply effect command text_rest mark_rest quoted_rest lexeme comment_rest is_word_byte is_symbol_byte is_printable word_token
fault_is_legal =
    inr (
      record { place = 3; bytes = codes " )"; state = start settings; number = 1 },
      (
        Symbol (codes "foo") ∷ [],
        (λ e. err_is_no_ok e),
        record {
          reads = record { sexpr = ([], 0, single, refl, refl, refl); lexes = (fault_bytes, codes " )", refl, refl); place = refl };
          number = (refl, refl);
          reply = record { reply_is = refl; kept_is = refl; new_is = refl };
        },
      ),
      inl (inr (Closing, 4, (codes ")", record { after = []; leave = refl }, refl), refl, refl, refl), refl),
    )
