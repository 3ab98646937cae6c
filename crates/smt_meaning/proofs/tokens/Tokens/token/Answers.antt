use Rattle.std.proofs.Common.{Some, drop, ◌∷◌, length, sym, ap, ◌∙◌, arith, subst, ◌≤◌, ◌+◌}
use Rattle.std.proofs.lemmas.List.{drop_more}
use Rattle.std.proofs.lemmas.Option.{slice_get-get_or}
use Rattle.smt_meaning.specs.declared.tokens.Token.TheVariants.{Enter}
use Rattle.smt_meaning.specs.Flat.{start_from}
use Rattle.smt_meaning.proofs.Flat.{place_within, bounds_at, read_at}
use Rattle.smt_meaning.proofs.tokens.Tokens.token.Goals as goal

pub start_at-start-requires : goal.start_at-start-requires
start_at-start-requires c =
    let t = c.self.inside in
    let w = place_within t.kinds.items t.ends.items t.bytes.items c.args.self.now c.args.place c.self.invariant c.self.view_is (omega (arith, c.requires)) in
    omega (arith, w.1, ap length c.as_slice.ensures.value)

pub index-requires : goal.index-requires
index-requires c =
    let t = c.self.inside in
    let w = place_within t.kinds.items t.ends.items t.bytes.items c.args.self.now (c.args.place + 1) c.self.invariant c.self.view_is (omega (arith, c.requires)) in
    omega (arith, w.1, t.ends.ok.0)

pub index-requires-2 : goal.index-requires-2
index-requires-2 c =
    let t = c.self.inside in
    let w = place_within t.kinds.items t.ends.items t.bytes.items c.args.self.now (c.args.place + 1) c.self.invariant c.self.view_is (omega (arith, c.requires)) in
    omega (arith, w.0, t.kinds.ok.0)

pub slice_bounds-token-count : goal.slice_bounds-token-count
slice_bounds-token-count c =
    let t = c.self.inside in
    let s = c.start_at-start.ensures ∙ ap (λ es. start_from 0 es c.args.place) c.as_slice.ensures.value in
    (bounds_at t.kinds.items t.ends.items t.bytes.items c.args.self.now c.args.place c.self.invariant c.self.view_is c.requires _ _ s c.index.ensures).0

pub slice_bounds-token-start : goal.slice_bounds-token-start
slice_bounds-token-start c =
    let t = c.self.inside in
    let s = c.start_at-start.ensures ∙ ap (λ es. start_from 0 es c.args.place) c.as_slice.ensures.value in
    (bounds_at t.kinds.items t.ends.items t.bytes.items c.args.self.now c.args.place c.self.invariant c.self.view_is c.requires _ _ s c.index.ensures).0

pub slice_bounds-token-end : goal.slice_bounds-token-end
slice_bounds-token-end c =
    let t = c.self.inside in
    let s = c.start_at-start.ensures ∙ ap (λ es. start_from 0 es c.args.place) c.as_slice.ensures.value in
    let b = (bounds_at t.kinds.items t.ends.items t.bytes.items c.args.self.now c.args.place c.self.invariant c.self.view_is c.requires _ _ s c.index.ensures).1 in
    subst (λ n. c.index.result.now ≤ n) (sym (ap length c.deref.ensures.value)) b

pub returns-clause-index : goal.returns-clause-index
returns-clause-index c d =
    let t = c.self.inside in
    let s = c.start_at-start.ensures ∙ ap (λ es. start_from 0 es c.args.place) c.as_slice.ensures.value in
    let r = read_at t.kinds.items t.ends.items t.bytes.items c.args.self.now c.args.place c.self.invariant c.self.view_is c.requires _ _ _ c.index-2.ensures s c.index.ensures d in
    r ∙ sym (rw c.deref.ensures.value at c.token.ensures)

pub returns-clause-at : goal.returns-clause-at
returns-clause-at c =
    let t = c.self.inside in
    let s = c.start_at-start.ensures ∙ ap (λ es. start_from 0 es c.args.place) c.as_slice.ensures.value in
    let r = read_at t.kinds.items t.ends.items t.bytes.items c.args.self.now c.args.place c.self.invariant c.self.view_is c.requires _ _ _ c.index-2.ensures s c.index.ensures Enter in
    slice_get-get_or c.args.self.now c.args.place Enter c.requires ∙ ap Some (r ∙ sym (rw c.deref.ensures.value at c.token.ensures))

pub returns-clause-rest : goal.returns-clause-rest
returns-clause-rest c =
    let t = c.self.inside in
    let place = c.args.place in
    let s = c.start_at-start.ensures ∙ ap (λ es. start_from 0 es place) c.as_slice.ensures.value in
    let r = read_at t.kinds.items t.ends.items t.bytes.items c.args.self.now place c.self.invariant c.self.view_is c.requires _ _ _ c.index-2.ensures s c.index.ensures Enter in
    drop_more c.args.self.now place Enter c.requires ∙ ap (λ x. x ∷ drop (place + 1) c.args.self.now) (r ∙ sym (rw c.deref.ensures.value at c.token.ensures))
