use Rattle.std.proofs.Common.{refl, ap, ◌∙◌}
use Rattle.term_store.specs.Newest.{name_hash}
use Rattle.proof_read.proofs.SymbolLemmas.{files_new}
use Rattle.proof_read.proofs.symbols.add.Goals as goal

pub returns : goal.returns
returns c =
    files_new _ _ _ (record { declaration = c.args.declaration }) _ _ _ c.requires.hashed c.requires.function c.requires.none refl c.in_ok-push-2.ensures.items
    (c.hash.ensures ∙ ap name_hash (c.as_slice.ensures ∙ c.name.ensures)) c.in_ok-push.ensures.ok
