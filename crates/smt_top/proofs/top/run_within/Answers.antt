use Rattle.std.proofs.Common.{sym, ap, ◌∙◌, subst, map, string_bytes}
use Rattle.smt_meaning.specs.LegalJournal.{journal_text}
use Rattle.smt_top.specs.Progress.{between}
use Rattle.smt_top.specs.Ended.{RanUnder, ended_with}
use Rattle.smt_top.proofs.Servings.{gained_all}
use Rattle.smt_top.proofs.top.run_within.Goals as goal

pub returns-clause-ran : goal.returns-clause-ran
returns-clause-ran g c =
    let r = c.run_through-outcome.ensures.ran in
    let e = between (g.S.Source.told c.args.source.now) (g.K.Sink.told c.args.sink.now) (g.S.Source.told c.run_through-outcome.new.source) (g.K.Sink.told c.run_through-outcome.new.sink) in
    subst (λ j. RanUnder c.args.budget (map string_bytes c.args.words.now.items) e (ended_with c.run_through-outcome.result j)) (gained_all _ _ _ c.new-journal.ensures r.gained) r.ran

pub returns-clause-untouched : goal.returns-clause-untouched
returns-clause-untouched g c no' =
    let r = c.run_through-outcome.ensures.ran in
    let u = c.run_through-outcome.ensures.untouched no' in
    (u.0, u.1, sym (gained_all _ _ _ c.new-journal.ensures r.gained) ∙ r.unread no')

pub returns-clause-silent : goal.returns-clause-silent
returns-clause-silent g c none =
    let r = c.run_through-outcome.ensures.ran in
    r.silent (ap journal_text (gained_all _ _ _ c.new-journal.ensures r.gained) ∙ none)

pub returns-clause-unasked : goal.returns-clause-unasked
returns-clause-unasked g c made is = c.run_through-outcome.ensures.unasked made is
