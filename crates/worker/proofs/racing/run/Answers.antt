use Rattle.std.proofs.Common.{Bor, All, ap, subst, sym, refl, ◌∙◌}
use Rattle.std.proofs.lemmas.List.Elements.{All-nil}
use Rattle.race_cell.specs.Passes.{claim_of}
use Rattle.worker.specs.Endings.{IsFound}
use Rattle.worker.specs.Racing.{first_reading, HasRead, IsWork}
use Rattle.worker.proofs.Steps.{Goes, heard_so, racer_goes, racer_turns}
use Rattle.worker.proofs.racing.run.Goals as goal

pub search-found-requires-clause-may : goal.search-found-requires-clause-may
search-found-requires-clause-may g c = λ x b t heard shorts. ((heard, (shorts, record { shared = c.type_bounds.sync-G.shared })), λ r y h. (ap (λ (s : Bor _). first_reading s.now) h.0, (y.now, (h.0, h.1.0), refl), h.1.1.0, h.1.1.1))

pub end-requires-clause-race : goal.end-requires-clause-race
end-requires-clause-race g c =
    let goes : Goes c.args.pass c.search-found.new.hook.state.pass =
    racer_goes _ c.search-found.new.hook.state c.search-found.ensures.heard.heard.calls c.search-found.ensures.heard.heard.led in
    goes.same.0 ∙ c.requires.race

pub end-requires-clause-work : goal.end-requires-clause-work
end-requires-clause-work g c =
    let goes : Goes c.args.pass c.search-found.new.hook.state.pass =
    racer_goes _ c.search-found.new.hook.state c.search-found.ensures.heard.heard.calls c.search-found.ensures.heard.heard.led in
    goes.works (subst (λ es. All IsWork es) (sym c.requires.unstarted) (All-nil IsWork))

pub end-requires-clause-found : goal.end-requires-clause-found
end-requires-clause-found g c =
    let goes : Goes c.args.pass c.search-found.new.hook.state.pass =
    racer_goes _ c.search-found.new.hook.state c.search-found.ensures.heard.heard.calls c.search-found.ensures.heard.heard.led in
    subst (λ w. IsFound c.args.stack.now c.args.settings.now.units w (HasRead (claim_of c.search-found.new.hook.state.pass)) c.search-found.result) (c.args.pass.number ∙ sym goes.worker)
    c.search-found.ensures.found

pub returns-clause-same : goal.returns-clause-same
returns-clause-same g c =
    let goes : Goes c.args.pass c.search-found.new.hook.state.pass =
    racer_goes _ c.search-found.new.hook.state c.search-found.ensures.heard.heard.calls c.search-found.ensures.heard.heard.led in
    (c.end.ensures.same.0 ∙ goes.same.0, c.end.ensures.same.1 ∙ goes.same.1, c.end.ensures.same.2 ∙ goes.same.2)

pub returns-clause-worker : goal.returns-clause-worker
returns-clause-worker g c =
    let goes : Goes c.args.pass c.search-found.new.hook.state.pass =
    racer_goes _ c.search-found.new.hook.state c.search-found.ensures.heard.heard.calls c.search-found.ensures.heard.heard.led in
    c.end.ensures.worker ∙ goes.worker

pub returns-clause-raced : goal.returns-clause-raced
returns-clause-raced g c =
    record {
      last = c.search-found.new.hook.state.pass;
      sent = c.search-found.new.hook.state.sent;
      turns = heard_so c.args.settings.now.share _ _ (λ calls led. racer_turns _ _ c.search-found.new.hook.state calls refl led) c.search-found.ensures.heard;
      ends = c.end.ensures.ends;
    }
