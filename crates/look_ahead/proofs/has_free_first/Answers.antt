use Rattle.std.proofs.Common.{◌≡◌, List, Bool}
use Rattle.smt_meaning.specs.Sorts.{Variable, variable_names}
use Rattle.smt_laws.specs.Walk.{has_free_first}
use Rattle.look_ahead.specs.Ahead.{ahead}
use Rattle.look_ahead.specs.Free.{first_free}
use Rattle.look_ahead.proofs.LetLemmas.{value_then}
use Rattle.look_ahead.proofs.FreeLemmas.{first_asked}
use Rattle.look_ahead.proofs.has_free_first.Goals as goal

pub returns : goal.returns
returns g c =
    value_then c.first_has_free.result (λ (b : Bool). first_free (g.N.Names.names c.args.names.now) (ahead c.args.term.now c.args.place) ≡ b)
    (λ (b : Bool). (vs : List Variable) → variable_names vs ≡ g.N.Names.names c.args.names.now → has_free_first vs (ahead c.args.term.now c.args.place) ≡ b)
    (λ b h vs e. first_asked vs (ahead c.args.term.now c.args.place) (g.N.Names.names c.args.names.now) b h e) c.first_has_free.ensures
