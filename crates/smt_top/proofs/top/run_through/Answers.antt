use Rattle.std.proofs.Common.{rules, arith, ◌≡◌, true, refl, ap, sym, ◌∙◌, ◌+◌, subst, map, string_bytes, [], length, Option, Some, None}
use Rattle.script_gen.specs.Script.{script}
use Rattle.smt_meaning.specs.State.{State}
use Rattle.smt_words.specs.Words.{are_taken, generated_of, settings_of}
use Rattle.smt_words.specs.declared.Generated.{Generated}
use Rattle.smt_top.specs.Progress.{Stands, between, run_of}
use Rattle.smt_top.specs.Ended.{RanBy, ended_with, made_of}
use Rattle.smt_top.proofs.Turns.{not_true}
use Rattle.smt_top.proofs.Servings.{Gains-none}
use Rattle.smt_top.proofs.Runs.{ran, ran_made, unbegun, begun}
use Rattle.smt_top.proofs.top.run_through.Goals as goal

pub new-server-requires : goal.new-server-requires
new-server-requires g c = omega (arith, c.in-Ok.ensures.workers.0)

pub new-server-requires-in-Some : goal.new-server-requires-in-Some
new-server-requires-in-Some g c = omega (arith, c.in-Ok.ensures.workers.0)

pub drive-end-requires-clause-may : goal.drive-end-requires-clause-may
drive-end-requires-clause-may g c = search rules

pub drive-end-requires-clause-budget : goal.drive-end-requires-clause-budget
drive-end-requires-clause-budget g c = c.requires

pub drive-end-requires-clause-begun : goal.drive-end-requires-clause-begun
drive-end-requires-clause-begun g c = begun c.in-Ok.invocation.settings _ _ (run_of c.new-server.result []) c.new-server.ensures.reader c.new-server.ensures.session refl

pub drive-end-requires-clause-tally : goal.drive-end-requires-clause-tally
drive-end-requires-clause-tally g c = c.new-server.ensures.tally

pub serve_made-end-requires-clause-may : goal.serve_made-end-requires-clause-may
serve_made-end-requires-clause-may g c = search rules

pub serve_made-end-requires-clause-size : goal.serve_made-end-requires-clause-size
serve_made-end-requires-clause-size g c = rw c.in-Some.is at c.in-Ok.ensures.size

pub serve_made-end-requires-clause-reader : goal.serve_made-end-requires-clause-reader
serve_made-end-requires-clause-reader g c = c.new-server-in-Some.ensures.reader

pub serve_made-end-requires-clause-session : goal.serve_made-end-requires-clause-session
serve_made-end-requires-clause-session g c = rw c.new-server-in-Some.ensures.session refl

pub serve_made-end-requires-clause-tally : goal.serve_made-end-requires-clause-tally
serve_made-end-requires-clause-tally g c = c.new-server-in-Some.ensures.tally

pub returns-in-None-clause-ran : goal.returns-in-None-clause-ran
returns-in-None-clause-ran g c =
    let words = map string_bytes c.args.words.now.items in
    let taken : are_taken words ≡ true = c.in-Ok.ensures.taken in
    let exact : c.in-Ok.invocation.settings ≡ settings_of words = c.in-Ok.ensures.settings in
    let none : ◌≡◌ {A = Option Generated} None (generated_of words) = sym c.in-None.is ∙ c.in-Ok.ensures.generated in
    let of_run = ap (λ (s : State). s.settings) c.new-server.ensures.session ∙ exact in
    let e = between (g.S.Source.told c.args.source.now) (g.K.Sink.told c.args.sink.now) (g.S.Source.told c.drive-end.new.source) (g.K.Sink.told c.drive-end.new.sink) in
    let d = c.drive-end.ensures in
    let ended = ended_with c.finish.result d.journal in
    record {
      journal = d.journal;
      ran =
          subst (λ made. RanBy made c.args.budget words e ended) none
          (ran c.args.budget words e (run_of c.drive-end.new.server d.journal) ended taken refl c.finish.ensures.note c.drive-end.result
          (subst (λ t. Stands t c.drive-end.result e c.args.budget (run_of c.drive-end.new.server d.journal)) of_run d.stands) c.finish.ensures.status
          (λ over. let error = c.finish.ensures.error over in ((λ one. d.tally.faulty.0 (error.0 one)), (λ faulty. error.1 (d.tally.faulty.1 faulty)))));
      gained = d.gained;
      silent = d.silent;
      unread = λ no'. absurd (not_true (sym no' ∙ taken));
    }

pub returns-in-None-clause-untouched : goal.returns-in-None-clause-untouched
returns-in-None-clause-untouched g c no' =
    let words = map string_bytes c.args.words.now.items in
    let taken : are_taken words ≡ true = c.in-Ok.ensures.taken in
    absurd (not_true (sym no' ∙ taken))

apart : (made : Generated) → ◌≡◌ {A = Option Generated} None (Some made) → ⊥
apart made e = cc

pub returns-in-None-clause-unasked : goal.returns-in-None-clause-unasked
returns-in-None-clause-unasked g c made is =
    let words = map string_bytes c.args.words.now.items in
    let none : ◌≡◌ {A = Option Generated} None (generated_of words) = sym c.in-None.is ∙ c.in-Ok.ensures.generated in
    absurd (apart made (none ∙ is))

pub returns-in-Some-clause-ran : goal.returns-in-Some-clause-ran
returns-in-Some-clause-ran g c =
    let words = map string_bytes c.args.words.now.items in
    let made = c.in-Some.generated in
    let taken : are_taken words ≡ true = c.in-Ok.ensures.taken in
    let exact : c.in-Ok.invocation.settings ≡ settings_of words = c.in-Ok.ensures.settings in
    let some : ◌≡◌ {A = Option Generated} (Some made) (generated_of words) = sym c.in-Some.is ∙ c.in-Ok.ensures.generated in
    let of_run = ap (λ (s : State). s.settings) c.new-server-in-Some.ensures.session ∙ exact in
    let source = g.S.Source.told c.args.source.now in
    let sink = g.K.Sink.told c.args.sink.now in
    let sink_now = g.K.Sink.told c.serve_made-end.new.sink in
    let bytes = script made.seed made.size in
    let e = made_of bytes sink sink_now in
    let d = c.serve_made-end.ensures in
    let ended = ended_with c.finish-in-Some.result d.journal in
    record {
      journal = d.journal;
      ran =
          subst (λ o. RanBy o c.args.budget words (between source sink source sink_now) ended) some
          (ran_made words bytes (between source sink source sink_now) ended refl
          (ran (length bytes + 1) words e (run_of c.serve_made-end.new.server d.journal) ended taken refl c.finish-in-Some.ensures.note c.serve_made-end.result
          (subst (λ t. Stands t c.serve_made-end.result e (length bytes + 1) (run_of c.serve_made-end.new.server d.journal)) of_run d.stands) c.finish-in-Some.ensures.status
          (λ over. let error = c.finish-in-Some.ensures.error over in ((λ one. d.tally.faulty.0 (error.0 one)), (λ faulty. error.1 (d.tally.faulty.1 faulty))))));
      gained = d.gained;
      silent = d.silent;
      unread = λ no'. absurd (not_true (sym no' ∙ taken));
    }

pub returns-in-Some-clause-untouched : goal.returns-in-Some-clause-untouched
returns-in-Some-clause-untouched g c no' =
    let words = map string_bytes c.args.words.now.items in
    let taken : are_taken words ≡ true = c.in-Ok.ensures.taken in
    absurd (not_true (sym no' ∙ taken))

pub returns-in-Some-clause-unasked : goal.returns-in-Some-clause-unasked
returns-in-Some-clause-unasked g c made is = refl

pub returns-in-Err-clause-ran : goal.returns-in-Err-clause-ran
returns-in-Err-clause-ran g c =
    let words = map string_bytes c.args.words.now.items in
    record {
      journal = [];
      ran = unbegun (generated_of words) c.args.budget words _ _ (ended_with c.unbegun.result []) c.in-Err.error c.unbegun.ensures.status c.in-Err.ensures.cause c.unbegun.ensures.note refl;
      gained = Gains-none _;
      silent = λ none. refl;
      unread = λ no'. refl;
    }

pub returns-in-Err-clause-untouched : goal.returns-in-Err-clause-untouched
returns-in-Err-clause-untouched g c no' = (refl, refl, refl)

pub returns-in-Err-clause-unasked : goal.returns-in-Err-clause-unasked
returns-in-Err-clause-unasked g c made is = refl

pub invariant_of-server : goal.invariant_of-server
invariant_of-server g c = search rules

pub invariant_of-server-in-Some : goal.invariant_of-server-in-Some
invariant_of-server-in-Some g c = search rules
