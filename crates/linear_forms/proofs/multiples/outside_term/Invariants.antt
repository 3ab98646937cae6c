use Rattle.std.proofs.Common.{◌≡◌, ℕ, ◌<◌, None, get_or}
use Rattle.linear_forms.specs.declared.multiples.Multiple.{Multiple}
use Rattle.linear_forms.specs.Table.{known_at}
use Rattle.linear_forms.specs.Entries.{knowns}
use Rattle.linear_forms.proofs.multiples.outside_term.Given as goal

abbrev pub invariant-loop-multiple : goal.invariant-loop-multiple
invariant-loop-multiple l = (k : ℕ) (d : Multiple) → k < l.multiple-index → (known_at (knowns l.all l.entries) (get_or l.multiples k d).term).outside ≡ None
