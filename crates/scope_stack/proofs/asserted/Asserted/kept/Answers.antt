use Rattle.std.proofs.Common.{◌≡◌, ◌∙◌, ap, ap₂, sym, List, length, map, slice_index, arith}
use Rattle.smt_meaning.specs.Keeping.{kept_from}
use Rattle.scope_stack.specs.declared.answers.Assertion.{Assertion}
use Rattle.scope_stack.specs.Pieces.{all_of}
use Rattle.scope_stack.specs.Trials.{marks}
use Rattle.scope_stack.proofs.PieceLemmas.{all-pieces}
use Rattle.scope_stack.proofs.ThinLemmas.{cuts_below, cuts_of_kept, pieces_of_kept}
use Rattle.scope_stack.proofs.asserted.Asserted.kept.Goals as goal

pub copy_kept-requires : goal.copy_kept-requires
copy_kept-requires c =
    c.requires ∙ ap (λ (xss : List (List Assertion)). length (all_of xss)) (sym c.self.view_is) ∙ ap length (all-pieces 0 c.self.inside.items.items c.self.inside.starts.items) ∙ ap length (sym c.deref.ensures.value)

pub starts_by-requires : goal.starts_by-requires
starts_by-requires c =
    let size : length c.args.kept.now ≡ length c.self.inside.items.items =
    c.requires ∙ ap (λ (xss : List (List Assertion)). length (all_of xss)) (sym c.self.view_is) ∙ ap length (all-pieces 0 c.self.inside.items.items c.self.inside.starts.items) in
    rw (c.deref-2.ensures.value, c.deref-3.ensures.value)
    (cuts_below 0 (length c.self.inside.items.items) (length c.in_ok-counts.counts.items) c.self.inside.starts.items c.self.invariant (omega (arith, size, c.in_ok-counts.ensures.size)))

pub invariant_of-result : goal.invariant_of-result
invariant_of-result c =
    let size : length c.args.kept.now ≡ length c.self.inside.items.items =
    c.requires ∙ ap (λ (xss : List (List Assertion)). length (all_of xss)) (sym c.self.view_is) ∙ ap length (all-pieces 0 c.self.inside.items.items c.self.inside.starts.items) in
    cuts_of_kept c.args.kept.now c.self.inside.items.items c.in_ok-items.items.items c.self.inside.starts.items c.in_ok-starts.starts.items c.in_ok-counts.counts.items c.self.invariant size
    c.in_ok-counts.ensures (c.in_ok-items.ensures ∙ ap (kept_from (marks c.args.kept.now) 0) c.deref.ensures.value)
    (c.in_ok-starts.ensures ∙ ap₂ (λ counts ss. map (slice_index counts) ss) c.deref-3.ensures.value c.deref-2.ensures.value)

pub returns : goal.returns
returns c =
    let size : length c.args.kept.now ≡ length c.self.inside.items.items =
    c.requires ∙ ap (λ (xss : List (List Assertion)). length (all_of xss)) (sym c.self.view_is) ∙ ap length (all-pieces 0 c.self.inside.items.items c.self.inside.starts.items) in
    pieces_of_kept c.args.kept.now c.self.inside.items.items c.in_ok-items.items.items c.self.inside.starts.items c.in_ok-starts.starts.items c.in_ok-counts.counts.items c.self.invariant size
    c.in_ok-counts.ensures (c.in_ok-items.ensures ∙ ap (kept_from (marks c.args.kept.now) 0) c.deref.ensures.value)
    (c.in_ok-starts.ensures ∙ ap₂ (λ counts ss. map (slice_index counts) ss) c.deref-3.ensures.value c.deref-2.ensures.value)
    c.args.self.now c.self.view_is
