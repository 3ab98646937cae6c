use Rattle.std.proofs.Common.{arith}
use Rattle.smt_laws.specs.Walk.{on_enter}
use Rattle.elaborate.specs.declared.frame.Frame.TheVariants.{Dividing, LetOpen, Bindings, BindingOpen, Attributes}
use Rattle.elaborate.proofs.Moves.{replaced_push, top_is, no_bindings, enter_let, enter_binding, enter_value, enter_deeper}
use Rattle.elaborate.proofs.steps.enter_form.Goals as goal

pub returns-in-Some-LetOpen : goal.returns-in-Some-LetOpen
returns-in-Some-LetOpen c = λ tokens s ahead st.
    replaced_push (λ fs. on_enter fs ahead) tokens s c.args.walk.now c.push.new.walk LetOpen (Bindings c.new.result) c.pop.new.self c.push.result c.requires.none
    (top_is c.args.walk.now c.in-Some-LetOpen.field-0 LetOpen c.pop.new.self c.in-Some-LetOpen.ensures.some c.in-Some-LetOpen.field-0-is) c.push.ensures.ok c.push.ensures.memory
    (enter_let ahead tokens s c.args.walk.now.bindings c.new.result c.pop.new.self c.new.ensures) (λ u. no_bindings s c.new.result c.new.ensures) st

pub returns-in-Some-Bindings : goal.returns-in-Some-Bindings
returns-in-Some-Bindings c = λ tokens s ahead st.
    replaced_push (λ fs. on_enter fs ahead) tokens s c.args.walk.now c.push-in-Some-Bindings.new.walk (Bindings c.in-Some-Bindings.bound) (BindingOpen c.in-Some-Bindings.bound) c.pop.new.self c.push-in-Some-Bindings.result c.requires.none
    (top_is c.args.walk.now c.in-Some-Bindings.field-0 (Bindings c.in-Some-Bindings.bound) c.pop.new.self c.in-Some-Bindings.ensures.some c.in-Some-Bindings.field-0-is) c.push-in-Some-Bindings.ensures.ok c.push-in-Some-Bindings.ensures.memory
    (enter_binding ahead tokens s c.args.walk.now.bindings c.in-Some-Bindings.bound c.pop.new.self) (λ u. u) st

pub returns-in-Some : goal.returns-in-Some
returns-in-Some c = λ tokens s ahead st.
    replaced_push (λ fs. on_enter fs ahead) tokens s c.args.walk.now c.push-in-Some.new.walk (Attributes c.in-Some-Attributes.value c.in-Some-Attributes.place c.in-Some-Attributes.depth)
    (Attributes c.in-Some-Attributes.value c.in-Some-Attributes.place c.in-Some.deeper) c.pop.new.self c.push-in-Some.result c.requires.none
    (top_is c.args.walk.now c.in-Some-Attributes.field-0 (Attributes c.in-Some-Attributes.value c.in-Some-Attributes.place c.in-Some-Attributes.depth) c.pop.new.self c.in-Some-Attributes.ensures.some c.in-Some-Attributes.field-0-is)
    c.push-in-Some.ensures.ok c.push-in-Some.ensures.memory
    (enter_value ahead tokens s c.args.walk.now.bindings c.in-Some-Attributes.value c.in-Some-Attributes.place c.in-Some-Attributes.depth c.in-Some.deeper c.pop.new.self (omega (arith, c.in-Some.ensures.1))) (λ u. u) st

pub returns-in-Some-checked_add : goal.returns-in-Some-checked_add
returns-in-Some-checked_add c = λ tokens s ahead st.
    replaced_push (λ fs. on_enter fs ahead) tokens s c.args.walk.now c.push-in-Some-checked_add.new.walk (Dividing c.in-Some-Dividing.number c.in-Some-Dividing.depth) (Dividing c.in-Some-Dividing.number c.in-Some-checked_add.deeper) c.pop.new.self c.push-in-Some-checked_add.result c.requires.none
    (top_is c.args.walk.now c.in-Some-Dividing.field-0 (Dividing c.in-Some-Dividing.number c.in-Some-Dividing.depth) c.pop.new.self c.in-Some-Dividing.ensures.some c.in-Some-Dividing.field-0-is)
    c.push-in-Some-checked_add.ensures.ok c.push-in-Some-checked_add.ensures.memory
    (enter_deeper ahead tokens s c.args.walk.now.bindings c.in-Some-Dividing.number c.in-Some-Dividing.depth c.in-Some-checked_add.deeper c.pop.new.self (omega (arith, c.in-Some-checked_add.ensures.1))) (λ u. u) st
