use Rattle.atom_form.proofs.Links.{passed_start, passed_on, passed_all}
use Rattle.atom_form.proofs.atom_table.find.Goals as goal
use Rattle.atom_form.specs.Compact.{atom_hash}

pub loop-link-init : goal.loop-link-init
loop-link-init c = passed_start atom_hash c.args.atoms.now c.args.keys.now c.args.atom c.args.hash c.requires.hashed c.requires.hash c.last-link.result c.last-link.ensures

pub loop-link-smaller : goal.loop-link-smaller
loop-link-smaller c =
    (passed_on atom_hash c.args.atoms.now c.args.keys.now c.args.atom c.args.hash c.requires.hashed c.requires.hash c.loop-link.link c.before-link.result _ c.is_same.result c.loop-link.invariant
    c.loop-link-test.true c.is_same.ensures.1 c.if-is_same.false c.before-link.ensures).1

pub loop-link-preserved : goal.loop-link-preserved
loop-link-preserved c =
    (passed_on atom_hash c.args.atoms.now c.args.keys.now c.args.atom c.args.hash c.requires.hashed c.requires.hash c.loop-link.link c.before-link.result _ c.is_same.result c.loop-link.invariant
    c.loop-link-test.true c.is_same.ensures.1 c.if-is_same.false c.before-link.ensures).0

pub returns-clause-none : goal.returns-clause-none
returns-clause-none c = passed_all atom_hash c.args.atoms.now c.args.keys.now c.args.atom c.args.hash c.requires.hashed c.requires.hash c.loop-link.link c.loop-link.invariant c.loop-link-test.false
