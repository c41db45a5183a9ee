use Rattle.commands.proofs.performing.perform.Goals as goal

pub returns-in-Text-clause-performed : goal.returns-in-Text-clause-performed
returns-in-Text-clause-performed g c = λ files out err.
    rw c.in-Text.is (c.perform_in_text.ensures.performed files out err)
