-- The run is made again, and comes to the step that may differ.
use Rattle.std.proofs.Common.{List, ℕ, Result, Ok, Err}
use Rattle.std.specs.Result.{IfOk}
use Rattle.certified_runs.specs.Parts.{register_masks}
use Rattle.image_reports.specs.Below.{code_of, known_of, paged_bytes, state_of}
use Rattle.image_reports.proofs.certificate_explanations_lemmas.Explaining.{explained, faultless, loads_stand, no_other_end}
use Rattle.run_reports.specs.origins.Origins.{origins_in}
use Rattle.image_reports.proofs.certificate_explanations.explaining.explain_certificate.Goals as goal

pub load_given-requires : goal.load_given-requires
load_given-requires c =
    faultless c.args.image.now c.args.given.now c.args.shifts c.requires.0 c.requires.1 c.requires.2

pub unreachable-requires : goal.unreachable-requires
unreachable-requires c =
    let loaded = c.in_ok-loaded.loaded in
    let none = c.trace.ensures.none c.in_default.is in
    no_other_end c.args.image.now c.args.given.now c.args.shifts (code_of c.in_ok-code.code) loaded.run.steps_left
    (known_of (state_of loaded.run.hart (paged_bytes loaded.run.memory)) loaded.known.registers
    (paged_bytes loaded.known.marks) loaded.known.shifts)
    c.in_ok-code.ensures c.in_ok-loaded.ensures.steps c.in_ok-loaded.ensures.known
    c.requires.0 c.requires.1 none.0 none.1 c.requires.2 none.2

pub lines-requires : goal.lines-requires
lines-requires c =
    let loaded = c.in_ok-loaded.loaded in
    let undecided = c.in-Some.undecided in
    loads_stand c.args.image.now c.args.given.now c.args.shifts (code_of c.in_ok-code.code) loaded.run.steps_left
    (known_of (state_of loaded.run.hart (paged_bytes loaded.run.memory)) loaded.known.registers
    (paged_bytes loaded.known.marks) loaded.known.shifts)
    c.in_ok-code.ensures c.in_ok-loaded.ensures.steps c.in_ok-loaded.ensures.known
    undecided.instr (register_masks undecided.masks) (origins_in undecided.origins.kept) c.in-Some.ensures.found

if_ok : {A E : Type 0} (P Q : A → Type 0) → ((a : A) → P a → Q a) → (answer : Result A E) → IfOk answer P
    → IfOk answer Q
if_ok P Q both (Ok a) is = both a is
if_ok P Q both (Err e) is = tt

pub returns : goal.returns
returns c =
    let loaded = c.in_ok-loaded.loaded in
    let undecided = c.in-Some.undecided in
    if_ok _ _
    (λ text printed. explained c.args.image.now c.args.given.now c.args.shifts (code_of c.in_ok-code.code)
    loaded.run.steps_left
    (known_of (state_of loaded.run.hart (paged_bytes loaded.run.memory)) loaded.known.registers
    (paged_bytes loaded.known.marks) loaded.known.shifts)
    c.in_ok-code.ensures c.in_ok-loaded.ensures.steps c.in_ok-loaded.ensures.known
    undecided.instr (register_masks undecided.masks) (origins_in undecided.origins.kept) text.items
    c.in-Some.ensures.found printed)
    c.lines.result c.lines.ensures
