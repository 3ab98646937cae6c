use Rattle.std.proofs.Common.{◌++◌, ◌∷◌, [], ◌+◌, length, ap, ◌∙◌}
use Rattle.smt_meaning.specs.Seen.{seen}
use Rattle.smt_meaning.proofs.Flat.{pushed_ends, pushed_tokens}
use Rattle.smt_meaning.proofs.tokens.Tokens.push.Goals as goal

pub invariant_of-self-2 : goal.invariant_of-self-2
invariant_of-self-2 c =
    let t = c.self.inside in
    let k = c.kind_and_bytes-kind.result.0 in
    let end = c.len.result + length c.kind_and_bytes-kind.result.1.now in
    pushed_ends t.kinds.items _ t.ends.items _ t.bytes.items _ _ k _ c.self.invariant
    (c.push_within.ensures ∙ ap (λ x. x ++ k ∷ []) c.in_ok-reserve.ensures.items)
    (c.push_within-2.ensures ∙ ap (λ x. x ++ end ∷ []) c.in_ok-reserve-2.ensures.items)
    c.in_ok-extend_from_slice.ensures.items
    (ap (λ x. x + length c.kind_and_bytes-kind.result.1.now) (c.len.ensures ∙ t.bytes.ok.0))

pub returns-clause-ok : goal.returns-clause-ok
returns-clause-ok c =
    let t = c.self.inside in
    let k = c.kind_and_bytes-kind.result.0 in
    let end = c.len.result + length c.kind_and_bytes-kind.result.1.now in
    pushed_tokens t.kinds.items _ t.ends.items _ t.bytes.items _ _ k _ c.self.invariant
    (c.push_within.ensures ∙ ap (λ x. x ++ k ∷ []) c.in_ok-reserve.ensures.items)
    (c.push_within-2.ensures ∙ ap (λ x. x ++ end ∷ []) c.in_ok-reserve-2.ensures.items)
    c.in_ok-extend_from_slice.ensures.items
    (ap (λ x. x + length c.kind_and_bytes-kind.result.1.now) (c.len.ensures ∙ t.bytes.ok.0))
    c.args.self.now (seen c.args.token) c.self.view_is c.kind_and_bytes-kind.ensures
