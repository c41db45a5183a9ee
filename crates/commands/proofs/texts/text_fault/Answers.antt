use Rattle.std.proofs.Common.{◌≡◌, ◌⊎◌, inl, inr, ℕ, List, Some, refl, subst}
use Rattle.commands.specs.Contents.{Contents}
use Rattle.commands.specs.FileTexts.{NoText, not_read, too_long, not_utf8}
use Rattle.commands.specs.Unread.{unread, out_of_memory}
use Rattle.commands.specs.declared.fault.Fault.TheVariants.{Text}
use Rattle.commands.specs.Below.{IsTooLong, IsWantOfMemory, NotUtf8, Refusal}
use Rattle.input_files.specs.stream_build.Faults as texts
use Rattle.commands.proofs.texts.text_fault.Goals as goal

by_refusal : (files : Contents) (path bytes : List ℕ) (refusal : Refusal) → files path ≡ Some bytes
    → (IsWantOfMemory refusal.rule refusal.place ⊎ IsTooLong bytes refusal) → NoText files path (Text refusal)
by_refusal files path bytes refusal held (inl memory) = not_read (out_of_memory memory)
by_refusal files path bytes refusal held (inr long) = too_long held long

pub returns-in-Read-clause-fault : goal.returns-in-Read-clause-fault
returns-in-Read-clause-fault c = λ files bytes held why. not_read (unread refl)

pub returns-in-NotUtf8-clause-fault : goal.returns-in-NotUtf8-clause-fault
returns-in-NotUtf8-clause-fault c = λ files bytes held why.
    let broken : texts.NoText bytes NotUtf8 = subst (texts.NoText bytes) c.in-NotUtf8.is why in
    not_utf8 held broken.0 broken.1 refl

pub returns-in-Refused-clause-fault : goal.returns-in-Refused-clause-fault
returns-in-Refused-clause-fault c = λ files bytes held why.
    by_refusal files c.args.file.now bytes c.in-Refused.refusal held (subst (texts.NoText bytes) c.in-Refused.is why)

pub returns-in-Read-clause-calm : goal.returns-in-Read-clause-calm
returns-in-Read-clause-calm c = λ before read write. absurd (read c.in-Read.is)

pub returns-in-Write-clause-calm : goal.returns-in-Write-clause-calm
returns-in-Write-clause-calm c = λ before read write. absurd (write c.in-Write.is)
