use Rattle.std.proofs.Common.{◌≡◌, ℕ, List, take, sym, ap, ◌∙◌, subst, OnOk, OnErr, false}
use Rattle.std.proofs.lemmas.Result.{on_ok_weaker}
use Rattle.std.specs.String.{string_bytes}
use Rattle.commands.specs.Below.{Asked, Breaks, IsRefusalOf, IsWrapped}
use Rattle.input_files.specs.wrapping.Wrapped.{IsFaultOf}
use Rattle.commands.specs.Contents.{Contents, Store, BeginsFile, IsWritten, IsCutOff}
use Rattle.commands.specs.FileTexts.{HoldsText}
use Rattle.commands.specs.Judged.{no_text}
use Rattle.commands.specs.Judged as judged
use Rattle.commands.specs.WrappedCode.{begins_as_elf, IsImageOfCode, no_code, not_accepted, broken}
use Rattle.commands.specs.Written.{refused, cut_off}
use Rattle.commands.proofs.CodeLemmas.{wrapped_whole, breaks_whole, elf_whole}
use Rattle.language.proofs.Handed.{handed_on}
use Rattle.commands.proofs.Counting.{counted_by, kept_by, write_failed, if_write_counts}
use Rattle.commands.proofs.Writing.{err_both}
use Rattle.commands.proofs.foreign_code.wrap_code.Goals as goal

-- what was made of the first bytes of the code, for what the string says, is made of all of it for the file's text
image_of_code : (asked : Asked) (files : Contents) (path code text as_str items as_slice bytes : List ℕ)
    → HoldsText files path text → as_str ≡ text → as_slice ≡ items
    → BeginsFile files code 768257 items → begins_as_elf items ≡ false → IsWrapped as_str as_slice asked bytes
    → IsImageOfCode asked files path code bytes
image_of_code asked files path code text as_str items as_slice bytes held same_text same_code begun other wrapped = record {
  text = text;
  words = begun.whole;
  held = held;
  code_held = begun.held;
  no_elf = sym (elf_whole begun.whole items begun.begun) ∙ other;
  wrapped =
      wrapped_whole text begun.whole asked bytes
      (subst (λ (t : List ℕ). IsWrapped t (take 768257 begun.whole) asked bytes) same_text
      (subst (λ (w : List ℕ). IsWrapped as_str w asked bytes) (same_code ∙ begun.begun) wrapped));
}

pub returns-in_err-text-clause-refused : goal.returns-in_err-text-clause-refused
returns-in_err-text-clause-refused g c = λ tells.
    handed_on _ _ c.from_residual.ensures.1
    (refused (not_accepted (no_text (c.in_err-text.ensures.refused tells)))
    (kept_by _ _ _ c.in_err-text.ensures.counted))

pub returns-in_err-text-clause-untouched : goal.returns-in_err-text-clause-untouched
returns-in_err-text-clause-untouched g c =
    handed_on _ _ c.from_residual.ensures.1 (λ other. kept_by _ _ _ c.in_err-text.ensures.counted)

pub returns-in_err-text-clause-counted : goal.returns-in_err-text-clause-counted
returns-in_err-text-clause-counted g c =
    handed_on _ _ c.from_residual.ensures.1 (counted_by _ _ _ c.in_err-text.ensures.counted)

pub returns-in_err-words-clause-refused : goal.returns-in_err-words-clause-refused
returns-in_err-words-clause-refused g c = λ tells.
    handed_on _ _ c.from_residual-in_err-words.ensures.1
    (refused (no_code (rw c.in_ok-text.ensures.calm at (c.in_err-words.ensures.refused tells)))
    (kept_by _ _ _ (rw c.in_ok-text.ensures.calm at c.in_err-words.ensures.counted)))

pub returns-in_err-words-clause-untouched : goal.returns-in_err-words-clause-untouched
returns-in_err-words-clause-untouched g c =
    handed_on _ _ c.from_residual-in_err-words.ensures.1
    (λ other. kept_by _ _ _ (rw c.in_ok-text.ensures.calm at c.in_err-words.ensures.counted))

pub returns-in_err-words-clause-counted : goal.returns-in_err-words-clause-counted
returns-in_err-words-clause-counted g c =
    handed_on _ _ c.from_residual-in_err-words.ensures.1
    (counted_by _ _ _ (rw c.in_ok-text.ensures.calm at c.in_err-words.ensures.counted))

pub returns-in-Ok-clause-said : goal.returns-in-Ok-clause-said
returns-in-Ok-clause-said g c = λ tells.
    let files = (g.F.Files.store c.args.files.now).contents in
    let bytes = c.in-Ok.bytes.items in
    let begun = rw c.in_ok-text.ensures.calm at (c.in_ok-words.ensures.begins tells) in
    let image = image_of_code c.args.asked files c.args.file.now c.args.code.now (string_bytes c.in_ok-text.text)
    c.as_str.result.now c.in_ok-words.words.items c.as_slice.result.now bytes
    (c.in_ok-text.ensures.said tells) c.as_str.ensures.value c.as_slice.ensures.value begun
    c.in_ok-words.ensures.no_elf c.in-Ok.ensures.wrapped in
    on_ok_weaker c.write_file.result (λ written. record { bytes = bytes; such = image; written = written })
    (subst (λ (s : Store). OnOk c.write_file.result
    (IsWritten c.args.image.now bytes s.contents (g.F.Files.store c.write_file.new.files).contents))
    (c.in_ok-words.ensures.calm ∙ c.in_ok-text.ensures.calm)
    (subst (λ (b : List ℕ). OnOk c.write_file.result
    (IsWritten c.args.image.now b (g.F.Files.store c.code_of.new.files).contents
    (g.F.Files.store c.write_file.new.files).contents))
    c.as_slice-in-Ok.ensures.value (c.write_file.ensures.written tells)))

pub returns-in-Ok-clause-refused : goal.returns-in-Ok-clause-refused
returns-in-Ok-clause-refused g c = λ tells.
    let files = (g.F.Files.store c.args.files.now).contents in
    let bytes = c.in-Ok.bytes.items in
    let begun = rw c.in_ok-text.ensures.calm at (c.in_ok-words.ensures.begins tells) in
    let image = image_of_code c.args.asked files c.args.file.now c.args.code.now (string_bytes c.in_ok-text.text)
    c.as_str.result.now c.in_ok-words.words.items c.as_slice.result.now bytes
    (c.in_ok-text.ensures.said tells) c.as_str.ensures.value c.as_slice.ensures.value begun
    c.in_ok-words.ensures.no_elf c.in-Ok.ensures.wrapped in
    err_both _ _ _ c.write_file.result
    (subst (λ (s : Store). OnErr c.write_file.result
    (IsCutOff c.args.image.now bytes s.contents (g.F.Files.store c.write_file.new.files).contents))
    (c.in_ok-words.ensures.calm ∙ c.in_ok-text.ensures.calm)
    (subst (λ (b : List ℕ). OnErr c.write_file.result
    (IsCutOff c.args.image.now b (g.F.Files.store c.code_of.new.files).contents
    (g.F.Files.store c.write_file.new.files).contents))
    c.as_slice-in-Ok.ensures.value (c.write_file.ensures.cut_off tells)))
    c.write_file.ensures.fault (λ fault cut why. cut_off image cut why)

pub returns-in-Ok-clause-calm : goal.returns-in-Ok-clause-calm
returns-in-Ok-clause-calm g c =
    on_ok_weaker c.write_file.result
    (λ same. same ∙ ap (λ (s : Store). s.failures) (c.in_ok-words.ensures.calm ∙ c.in_ok-text.ensures.calm))
    c.write_file.ensures.calm

pub returns-in-Ok-clause-counted : goal.returns-in-Ok-clause-counted
returns-in-Ok-clause-counted g c =
    write_failed c.write_file.result _ _
    (if_write_counts c.args.image.now (g.F.Files.store c.args.files.now).failures c.write_file.result
    c.write_file.ensures.fault)
    (rw (c.in_ok-words.ensures.calm ∙ c.in_ok-text.ensures.calm) at c.write_file.ensures.counts)

pub returns-in-Err-Text-clause-refused : goal.returns-in-Err-Text-clause-refused
returns-in-Err-Text-clause-refused g c = λ tells.
    let refusal = c.in-Err-Text.refusal in
    let why : IsRefusalOf c.args.asked.profile (string_bytes c.in_ok-text.text) refusal =
    subst (λ (t : List ℕ). IsRefusalOf c.args.asked.profile t refusal) c.as_str.ensures.value
    (subst (IsFaultOf c.as_str.result.now c.as_slice.result.now c.args.asked) c.in-Err-Text.field-0-is
    c.in-Err-Text.ensures.fault) in
    refused (not_accepted (judged.not_accepted refusal (c.in_ok-text.ensures.said tells) why))
    (ap (λ (s : Store). s.contents) (c.in_ok-words.ensures.calm ∙ c.in_ok-text.ensures.calm))

pub returns-clause-refused : goal.returns-clause-refused
returns-clause-refused g c = λ tells.
    let text = string_bytes c.in_ok-text.text in
    let begun = rw c.in_ok-text.ensures.calm at (c.in_ok-words.ensures.begins tells) in
    let rule = c.in-Err-Code.rule in
    let first : Breaks c.as_str.result.now c.as_slice.result.now c.args.asked rule =
    subst (IsFaultOf c.as_str.result.now c.as_slice.result.now c.args.asked) c.in-Err-Code.field-0-is
    c.in-Err-Code.ensures.fault in
    let breaks : Breaks text (take 768257 begun.whole) c.args.asked rule =
    subst (λ (t : List ℕ). Breaks t (take 768257 begun.whole) c.args.asked rule) c.as_str.ensures.value
    (subst (λ (w : List ℕ). Breaks c.as_str.result.now w c.args.asked rule) (c.as_slice.ensures.value
    ∙ begun.begun) first) in
    refused (broken (c.in_ok-text.ensures.said tells) begun.held
    (sym (elf_whole begun.whole c.in_ok-words.words.items begun.begun) ∙ c.in_ok-words.ensures.no_elf)
    (breaks_whole text begun.whole c.args.asked rule breaks))
    (ap (λ (s : Store). s.contents) (c.in_ok-words.ensures.calm ∙ c.in_ok-text.ensures.calm))
