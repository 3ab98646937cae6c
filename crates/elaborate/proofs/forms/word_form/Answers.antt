use Rattle.std.proofs.Common.{refl, sym, ◌∙◌}
use Rattle.smt_meaning.specs.Seen.{seen}
use Rattle.smt_laws.specs.Walk.{on_words}
use Rattle.elaborate.specs.declared.frame.Frame.TheVariants.{BindingOpen, Bound, Attributes, Naming}
use Rattle.elaborate.specs.Judged.{rules_of}
use Rattle.elaborate.proofs.Moves.{popped, name_comes, top_is, replaced_push}
use Rattle.elaborate.proofs.Lets.{name_bound, no_name_comes, attribute_depth, attribute_stays, attribute_names}
use Rattle.elaborate.proofs.Named.{no_naming}
use Rattle.elaborate.proofs.forms.word_form.Goals as goal

pub returns-in-Ok : goal.returns-in-Ok
returns-in-Ok c = λ tokens s ahead st.
    replaced_push (λ fs. on_words (rules_of c.args.rules) fs (seen c.args.token) ahead) tokens s c.args.walk.now c.push.new.walk (BindingOpen c.in-Some-BindingOpen.bound) (Bound c.in-Some-BindingOpen.bound c.in-Ok.name) c.pop.new.self c.push.result c.requires.none (top_is c.args.walk.now c.in-Some-BindingOpen.field-0 (BindingOpen c.in-Some-BindingOpen.bound) c.pop.new.self c.in-Some-BindingOpen.ensures.some c.in-Some-BindingOpen.field-0-is) c.push.ensures.ok c.push.ensures.memory
    (name_bound (rules_of c.args.rules) tokens s c.args.walk.now.bindings c.in-Some-BindingOpen.bound c.pop.new.self c.in-Ok.name c.in-Ok.name (seen c.args.token) ahead c.in-Ok.ensures.ok refl) (λ h. h) st

pub returns-in-Err : goal.returns-in-Err
returns-in-Err c = λ tokens s ahead st.
    no_name_comes (rules_of c.args.rules) tokens s s c.args.walk.now (popped c.args.walk.now c.pop.new.self) c.in-Some-BindingOpen.bound c.pop.new.self (seen c.args.token) ahead c.in-Err.error c.requires.none (top_is c.args.walk.now c.in-Some-BindingOpen.field-0 (BindingOpen c.in-Some-BindingOpen.bound) c.pop.new.self c.in-Some-BindingOpen.ensures.some c.in-Some-BindingOpen.field-0-is) c.in-Err.ensures.err

pub returns-then-is_named : goal.returns-then-is_named
returns-then-is_named c = λ tokens s ahead st.
    replaced_push (λ fs. on_words (rules_of c.args.rules) fs (seen c.args.token) ahead) tokens s c.args.walk.now c.push-then-is_named.new.walk (Attributes c.in-Some-Attributes.value c.in-Some-Attributes.place c.in-Some-Attributes.field-0-2) (Naming c.in-Some-Attributes.value c.in-Some-Attributes.place) c.pop.new.self c.push-then-is_named.result c.requires.none
    (top_is c.args.walk.now c.in-Some-Attributes.field-0 (Attributes c.in-Some-Attributes.value c.in-Some-Attributes.place c.in-Some-Attributes.field-0-2) c.pop.new.self c.in-Some-Attributes.ensures.some c.in-Some-Attributes.field-0-is) c.push-then-is_named.ensures.ok c.push-then-is_named.ensures.memory
    (attribute_names (rules_of c.args.rules) tokens s c.args.walk.now.bindings c.in-Some-Attributes.value c.in-Some-Attributes.place c.in-Some-Attributes.field-0-2 c.pop.new.self (seen c.args.token) ahead (attribute_depth c.args.walk.now c.in-Some-Attributes.value c.in-Some-Attributes.place c.in-Some-Attributes.field-0-2 c.pop.new.self c.requires.none (top_is c.args.walk.now c.in-Some-Attributes.field-0 (Attributes c.in-Some-Attributes.value c.in-Some-Attributes.place c.in-Some-Attributes.field-0-2) c.pop.new.self c.in-Some-Attributes.ensures.some c.in-Some-Attributes.field-0-is) c.requires.kind) (sym c.is_named.ensures ∙ c.if-is_named.true)) (λ h. h) st

pub returns-else-is_named : goal.returns-else-is_named
returns-else-is_named c = λ tokens s ahead st.
    replaced_push (λ fs. on_words (rules_of c.args.rules) fs (seen c.args.token) ahead) tokens s c.args.walk.now c.push-else-is_named.new.walk (Attributes c.in-Some-Attributes.value c.in-Some-Attributes.place c.in-Some-Attributes.field-0-2) (Attributes c.in-Some-Attributes.value c.in-Some-Attributes.place 0) c.pop.new.self c.push-else-is_named.result c.requires.none
    (top_is c.args.walk.now c.in-Some-Attributes.field-0 (Attributes c.in-Some-Attributes.value c.in-Some-Attributes.place c.in-Some-Attributes.field-0-2) c.pop.new.self c.in-Some-Attributes.ensures.some c.in-Some-Attributes.field-0-is) c.push-else-is_named.ensures.ok c.push-else-is_named.ensures.memory
    (attribute_stays (rules_of c.args.rules) tokens s c.args.walk.now.bindings c.in-Some-Attributes.value c.in-Some-Attributes.place c.in-Some-Attributes.field-0-2 c.pop.new.self (seen c.args.token) ahead (attribute_depth c.args.walk.now c.in-Some-Attributes.value c.in-Some-Attributes.place c.in-Some-Attributes.field-0-2 c.pop.new.self c.requires.none (top_is c.args.walk.now c.in-Some-Attributes.field-0 (Attributes c.in-Some-Attributes.value c.in-Some-Attributes.place c.in-Some-Attributes.field-0-2) c.pop.new.self c.in-Some-Attributes.ensures.some c.in-Some-Attributes.field-0-is) c.requires.kind) (sym c.is_named.ensures ∙ c.if-is_named.false)) (λ h. h) st

pub returns-in-Some-Naming : goal.returns-in-Some-Naming
returns-in-Some-Naming c = λ tokens s ahead st.
    no_naming (rules_of c.args.rules) tokens s c.args.walk.now c.in-Some-Naming.field-0-0 c.in-Some-Naming.field-0-1 c.pop.new.self (seen c.args.token) ahead (c.requires.unnamed (name_comes c.args.walk.now c.in-Some-Naming.field-0 c.in-Some-Naming.field-0-0 c.in-Some-Naming.field-0-1 c.pop.new.self c.requires.none c.in-Some-Naming.ensures.some c.in-Some-Naming.field-0-is)) c.requires.none
    (top_is c.args.walk.now c.in-Some-Naming.field-0 (Naming c.in-Some-Naming.field-0-0 c.in-Some-Naming.field-0-1) c.pop.new.self c.in-Some-Naming.ensures.some c.in-Some-Naming.field-0-is)
