use Rattle.std.proofs.Common.{inl, inr, ◌∙◌, sym}
use Rattle.clause_store.proofs.late.other_of.Goals as goal

pub returns-then-is_same : goal.returns-then-is_same
returns-then-is_same c = record { pair = inl (sym c.first-first.ensures ∙ c.is_same.ensures.yes c.if-is_same.true, sym c.second.ensures) }

pub returns : goal.returns
returns c = elim c.requires.own [
  | inl e ↦ absurd (c.is_same.ensures.no c.if-is_same.false (c.first-first.ensures ∙ e))
  | inr e ↦ record { pair = inr (e, sym c.first-first.ensures) }
]
