use Rattle.std.proofs.Common.{arith, ◌≡◌, ◌∙◌, ◌+◌, [], ap, sym, refl, length}
use Rattle.std.proofs.lemmas.Result.{err_from_is_err_and}
use Rattle.script_gen.specs.Script.{script}
use Rattle.smt_meaning.specs.Reading.{Unread}
use Rattle.smt_top.specs.Progress.{run_of}
use Rattle.smt_top.specs.Ended.{made_of}
use Rattle.smt_top.proofs.Servings.{Gains-none, tally_same}
use Rattle.smt_top.proofs.Made.{begun_whole, cut_unfed, fed_reader}
use Rattle.smt_top.proofs.top.serve_made.Goals as goal

pub script-requires : goal.script-requires
script-requires g c = c.requires.size

pub returns-in_err-text : goal.returns-in_err-text
returns-in_err-text g c =
    let p = err_from_is_err_and c.from_residual.result c.from_residual.ensures.1 in
    rw (p.1, p.2) (record {
      journal = [];
      gained = Gains-none _;
      tally = c.requires.tally;
      silent = λ none. refl;
      stands = cut_unfed _ _ _ _ refl;
    })

pub feed-requires-clause-going : goal.feed-requires-clause-going
feed-requires-clause-going g c = ap (λ (u : Unread). u.finished) c.requires.reader

pub feed-requires-clause-room : goal.feed-requires-clause-room
feed-requires-clause-room g c = rw c.requires.reader (omega (arith, c.as_bytes.ensures.len, c.in_ok-text.text.bytes.ok.1, c.in_ok-text.text.bytes.small))

pub returns-in_err-feed : goal.returns-in_err-feed
returns-in_err-feed g c =
    let p = err_from_is_err_and c.from_residual-in_err-feed.result c.from_residual-in_err-feed.ensures.1 in
    rw (p.1, p.2) (record {
      journal = [];
      gained = Gains-none _;
      tally = tally_same c.args.server.now (record c.args.server.now { reader = c.feed.new.self }) refl refl [] c.requires.tally;
      silent = λ none. refl;
      stands = cut_unfed _ _ _ _ refl;
    })

pub advance-requires-clause-may : goal.advance-requires-clause-may
advance-requires-clause-may g c = c.requires.may

pub advance-requires-clause-numbered : goal.advance-requires-clause-numbered
advance-requires-clause-numbered g c = omega (arith, c.requires.tally.count)

pub advance-requires-clause-room : goal.advance-requires-clause-room
advance-requires-clause-room g c =
    let er = fed_reader c.args.server.now.reader c.feed.new.self c.finish.new.self c.as_bytes.result.now (script c.args.generated.seed c.args.generated.size) c.requires.reader c.in_ok-feed.ensures.ok c.finish.ensures
    (c.as_bytes.ensures.value ∙ c.in_ok-text.ensures) in
    let same : length (script c.args.generated.seed c.args.generated.size) ≡ length c.as_bytes.result.now = ap length (sym (c.as_bytes.ensures.value ∙ c.in_ok-text.ensures)) in
    rw er (omega (arith, same, c.as_bytes.ensures.len, c.in_ok-text.text.bytes.ok.1, c.in_ok-text.text.bytes.small))

pub returns : goal.returns
returns g c =
    let er = fed_reader c.args.server.now.reader c.feed.new.self c.finish.new.self c.as_bytes.result.now (script c.args.generated.seed c.args.generated.size) c.requires.reader c.in_ok-feed.ensures.ok c.finish.ensures
    (c.as_bytes.ensures.value ∙ c.in_ok-text.ensures) in
    let bytes = script c.args.generated.seed c.args.generated.size in
    let mid = record c.args.server.now { reader = c.finish.new.self } in
    let told = g.K.Sink.told c.args.sink.now in
    let tally = tally_same c.args.server.now mid refl refl [] c.requires.tally in
    let so = begun_whole c.args.server.now.session.settings (run_of mid []) bytes told er c.requires.session refl in
    let p = c.advance.ensures.advances in
    record {
      journal = p.added;
      gained = p.gained;
      tally = p.tally [] tally;
      silent = p.silent;
      stands = p.stands c.args.server.now.session.settings (made_of bytes told told) (length bytes + 1) [] tally so refl;
    }
