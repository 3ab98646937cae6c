use Rattle.proof_form.proofs.whole.add_term.Goals as goal

pub returns : goal.returns
returns c = λ x rest here. c.add_read.ensures c.args.symbols.now x c.requires.declared (c.in_ok-read.ensures x rest here)
