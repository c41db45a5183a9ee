use Rattle.std.proofs.Common.{◌∙◌, List, ap, map}
use Rattle.std.proofs.lemmas.Result.{IfOk-weaker}
use Rattle.elf_runs.specs.Below.{code_in, no_code, Size}
use Rattle.elf_runs.specs.declared.loaded_code.Code.{Code}
use Rattle.elf_runs.specs.Code.{placed, PlacedCode}
use Rattle.elf_runs.specs.Loading.{alignment_by, code_among}
use Rattle.elf_memory.specs.Memory.{range_of}
use Rattle.elf_runs.proofs.Beginning.{program_is}
use Rattle.elf_runs.proofs.loading.loaded_program.Goals as goal

pub returns : goal.returns
returns c =
    let profile = c.args.profile in
    let alignment = alignment_by c.args.program.now.compressed in
    IfOk-weaker c.new.result _ _ (λ loaded is. program_is c.args.program.now profile _ (map range_of c.args.ranges.now) _ _ is
    (ap (λ (size : Size). code_in (no_code size profile) c.in_ok-segments.segments.items)
    (c.alignment_of-alignment.ensures ∙ ap alignment_by c.compressed.ensures)
    ∙ c.in_ok-segments.ensures alignment
    ∙ ap (λ (codes : List Code). code_among alignment profile (map placed codes)) c.as_slice.ensures.value
    ∙ ap (λ (codes : List PlacedCode). code_among alignment profile codes) c.in_ok-codes.ensures.code)
    c.in_ok-variable.ensures) c.new.ensures
