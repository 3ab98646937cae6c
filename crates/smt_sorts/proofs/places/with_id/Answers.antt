use Rattle.std.proofs.Common.{◌≡◌, take, drop, None, sym, ap, ◌∙◌}
use Rattle.std.proofs.lemmas.List.{take-append-drop}
use Rattle.smt_sorts.specs.Listed.{first_that, has_id}
use Rattle.smt_sorts.proofs.FindLemmas.{first_behind}
use Rattle.smt_sorts.proofs.places.with_id.Goals as goal

pub returns-in-None-find-clause-none : goal.returns-in-None-find-clause-none
returns-in-None-find-clause-none c =
    let first : first_that (has_id c.args.id) (take c.args.base c.args.declarations.now) ≡ None = rw c.split_at.ensures.front at c.in-None.ensures.none in
    let rest : first_that (has_id c.args.id) (drop c.args.base c.args.declarations.now) ≡ None = rw c.split_at.ensures.back at c.in-None-find.ensures.none in
    ap (first_that (has_id c.args.id)) (sym (take-append-drop c.args.base c.args.declarations.now))
    ∙ first_behind (has_id c.args.id) (take c.args.base c.args.declarations.now) (drop c.args.base c.args.declarations.now) first ∙ rest
