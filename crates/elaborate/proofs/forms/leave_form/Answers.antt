use Rattle.std.proofs.Common.{sym, subst}
use Rattle.smt_laws.specs.Walk.{on_leave}
use Rattle.elaborate.specs.declared.frame.Frame.TheVariants.{Dividing, Bindings, BoundTo, Done, Attributes}
use Rattle.elaborate.specs.Frames.{AreBound}
use Rattle.elaborate.proofs.Moves.{top_is, replaced_push}
use Rattle.elaborate.proofs.Lets.{bound_more, leave_binding, leave_bindings, given_on, leave_done, leave_attributes, leave_value, none_left, one_less, leave_head}
use Rattle.elaborate.proofs.forms.leave_form.Goals as goal

pub returns-in-Ok : goal.returns-in-Ok
returns-in-Ok c = λ tokens s r st.
    leave_bindings r tokens s c.args.walk.now c.push.new.walk c.in-Some-Bindings.bound c.pop.new.self c.in-Ok.count c.bind.new.bindings c.push.result c.requires.none (top_is c.args.walk.now c.in-Some-Bindings.field-0 (Bindings c.in-Some-Bindings.bound) c.pop.new.self c.in-Some-Bindings.ensures.some c.in-Some-Bindings.field-0-is) c.in-Ok.ensures.count c.in-Ok.ensures.bound
    c.push.ensures.ok c.push.ensures.memory st

pub returns-in-Ok-with_binding : goal.returns-in-Ok-with_binding
returns-in-Ok-with_binding c = λ tokens s r st.
    replaced_push (on_leave r) tokens s c.args.walk.now c.push-in-Ok-with_binding.new.walk (BoundTo c.in-Some-BoundTo.bound c.in-Some-BoundTo.name c.in-Some-BoundTo.value) (Bindings c.in-Ok-with_binding.longer) c.pop.new.self c.push-in-Ok-with_binding.result c.requires.none (top_is c.args.walk.now c.in-Some-BoundTo.field-0 (BoundTo c.in-Some-BoundTo.bound c.in-Some-BoundTo.name c.in-Some-BoundTo.value) c.pop.new.self c.in-Some-BoundTo.ensures.some c.in-Some-BoundTo.field-0-is)
    c.push-in-Ok-with_binding.ensures.ok c.push-in-Ok-with_binding.ensures.memory
    (leave_binding r tokens s c.args.walk.now.bindings c.in-Some-BoundTo.bound c.in-Ok-with_binding.longer c.in-Some-BoundTo.name c.in-Some-BoundTo.value c.pop.new.self c.in-Ok-with_binding.ensures)
    (λ h. subst (AreBound s.trees) (sym c.in-Ok-with_binding.ensures) (bound_more s.trees c.in-Some-BoundTo.bound (record { name = c.in-Some-BoundTo.name; value = c.in-Some-BoundTo.value }) h.0 h.1)) st

pub returns-in-Ok-give : goal.returns-in-Ok-give
returns-in-Ok-give c = λ tokens s r st.
    given_on r tokens s c.args.walk.now c.give.new.walk (Done c.in-Some-Done.value) c.pop.new.self c.in-Some-Done.value c.requires.none (top_is c.args.walk.now c.in-Some-Done.field-0 (Done c.in-Some-Done.value) c.pop.new.self c.in-Some-Done.ensures.some c.in-Some-Done.field-0-is) (leave_done r tokens s c.args.walk.now.bindings c.in-Some-Done.value c.pop.new.self) (λ h. h) c.in-Ok-give.ensures st

pub returns-in-Some : goal.returns-in-Some
returns-in-Some c = λ tokens s r st.
    replaced_push (on_leave r) tokens s c.args.walk.now c.push-in-Some.new.walk (Attributes c.in-Some-Attributes.value c.in-Some-Attributes.place c.in-Some-Attributes.depth) (Attributes c.in-Some-Attributes.value c.in-Some-Attributes.place c.in-Some.less) c.pop.new.self c.push-in-Some.result c.requires.none (top_is c.args.walk.now c.in-Some-Attributes.field-0 (Attributes c.in-Some-Attributes.value c.in-Some-Attributes.place c.in-Some-Attributes.depth) c.pop.new.self c.in-Some-Attributes.ensures.some c.in-Some-Attributes.field-0-is)
    c.push-in-Some.ensures.ok c.push-in-Some.ensures.memory
    (leave_value r tokens s c.args.walk.now.bindings c.in-Some-Attributes.value c.in-Some-Attributes.place c.in-Some-Attributes.depth c.in-Some.less c.pop.new.self (one_less c.in-Some-Attributes.depth c.in-Some.less c.in-Some.ensures.0 c.in-Some.ensures.1)) (λ h. h) st

pub returns-in-Ok-give-2 : goal.returns-in-Ok-give-2
returns-in-Ok-give-2 c = λ tokens s r st.
    given_on r tokens s c.args.walk.now c.give-in-None.new.walk (Attributes c.in-Some-Attributes.value c.in-Some-Attributes.place c.in-Some-Attributes.depth) c.pop.new.self c.in-Some-Attributes.value c.requires.none (top_is c.args.walk.now c.in-Some-Attributes.field-0 (Attributes c.in-Some-Attributes.value c.in-Some-Attributes.place c.in-Some-Attributes.depth) c.pop.new.self c.in-Some-Attributes.ensures.some c.in-Some-Attributes.field-0-is)
    (leave_attributes r tokens s c.args.walk.now.bindings c.in-Some-Attributes.value c.in-Some-Attributes.place c.in-Some-Attributes.depth c.pop.new.self (none_left c.in-Some-Attributes.depth c.in-None.ensures)) (λ h. h) c.in-Ok-give-2.ensures st

pub returns-in-Some-Dividing : goal.returns-in-Some-Dividing
returns-in-Some-Dividing c = λ tokens s r st.
    leave_head r tokens s c.args.walk.now c.push-in-Some-Dividing.new.walk c.in-Some-Dividing.number c.in-Some-Dividing.depth c.out_of_head.result c.pop.new.self c.push-in-Some-Dividing.result c.requires.none
    (top_is c.args.walk.now c.in-Some-Dividing.field-0 (Dividing c.in-Some-Dividing.number c.in-Some-Dividing.depth) c.pop.new.self c.in-Some-Dividing.ensures.some c.in-Some-Dividing.field-0-is) c.out_of_head.ensures c.push-in-Some-Dividing.ensures.ok c.push-in-Some-Dividing.ensures.memory st
