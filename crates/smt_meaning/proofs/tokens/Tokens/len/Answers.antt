use Rattle.std.proofs.Common.{length, sym, ap, ◌∙◌}
use Rattle.smt_meaning.proofs.Flat.{tokens_length}
use Rattle.smt_meaning.proofs.tokens.Tokens.len.Goals as goal

pub returns : goal.returns
returns c =
    let t = c.self.inside in
    c.len.ensures ∙ t.kinds.ok.0 ∙ sym (tokens_length 0 t.kinds.items t.ends.items t.bytes.items (length t.bytes.items) c.self.invariant) ∙ ap length c.self.view_is
