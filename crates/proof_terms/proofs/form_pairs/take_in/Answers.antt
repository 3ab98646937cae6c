use Rattle.std.proofs.Common.{nat_eq, sym, ◌∙◌}
use Rattle.std.specs.HashMap.{get}
use Rattle.proof_terms.proofs.FormPlaces.{first_again, first_here}
use Rattle.proof_terms.proofs.form_pairs.take_in.Goals as goal

pub returns-in-Some : goal.returns-in-Some
returns-in-Some c =
    first_again c.args.terms.now c.args.place (get nat_eq c.args.found.now.place_of) c.args.found.now.places.items c.in-Some.field-0 c.requires.so_far (sym c.place_in.ensures ∙ c.in-Some.is)

pub returns-in_ok-push-in-None : goal.returns-in_ok-push-in-None
returns-in_ok-push-in-None c =
    first_here c.args.terms.now c.args.place (get nat_eq c.args.found.now.place_of) (get nat_eq c.note.new.place_of) c.args.found.now.places.items c.push.new.self.items c.requires.so_far
    (sym c.place_in.ensures ∙ c.in-None.is) c.in_ok-note-in-None.ensures c.in_ok-push-in-None.ensures.items
