use Rattle.std.proofs.Common.{length, ◌∙◌, ap, arith}
use Rattle.pair_bounds.proofs.PairLemmas.{written_back}
use Rattle.proof_terms.specs.TermRenaming.{renamed, first_at}
use Rattle.proof_terms.proofs.terms_bounds.rename_all.Goals as goal

pub returns : goal.returns
returns c =
    let size = c.rename.auto.sum in
    let seen = ap length c.deref_mut.ensures.value in
    let count = c.deref_mut.ensures.len in
    written_back c.args.sum.now.items c.rename.new.sum c.args.sum.now.len (omega arith) (omega arith)
    ∙ c.rename.ensures ∙ ap (renamed (first_at c.args.facts.now)) c.deref_mut.ensures.value
