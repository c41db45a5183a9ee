use Rattle.std.proofs.Common.{rules, ◌≡◌, ℕ, ◌≤◌, List, Option, Some, length, refl, ap, sym, subst, ◌∙◌, arith}
use Rattle.codegen.proofs.Machine.{Allocation, image_of, IsFitting, depth_in_all, IsGenerated, frame_of}
use Rattle.codegen.proofs.Machine.{Frame, Fields, Instr, most_words, program_code}
use Rattle.codegen.proofs.BodyRuns.{is_generated}
use Rattle.codegen.proofs.ImageLemmas.{room_frame, has_room, image_there, laid_words}
use Rattle.codegen.proofs.Machine.{laid_out}
use Rattle.expression_code.specs.Layout.{slotted}
use Rattle.codegen.proofs.Language.{FlatVariable, StraightProgram, declared_words}
use Rattle.codegen.proofs.generator.generate_with.Goals as goal

-- the variables that are laid out are the program's
is_laid : (a : Allocation) (p : StraightProgram) {homes : List (Option ℕ)} {laid declared : List FlatVariable}
    → laid ≡ slotted (length p.parameters) homes p.declared → homes ≡ a.homes → declared ≡ laid
    → declared ≡ laid_out a p
is_laid a p made homes same =
    same ∙ (made ∙ ap (λ (hs : List (Option ℕ)). slotted (length p.parameters) hs p.declared) homes)

pub offsets-requires : goal.offsets-requires
offsets-requires c =
    let p = c.args.straight.now in
    let a = c.args.allocation in
    let few = (has_room p c.program_extent-extent.ensures.kept).declared in
    let is = is_laid a p c.in_ok-laid.ensures c.homes.ensures c.as_slice-declared.ensures.value in
    omega (arith, ap declared_words is, laid_words a p, few)

pub new-layout-requires-clause-room : goal.new-layout-requires-clause-room
new-layout-requires-clause-room c =
    let p = c.args.straight.now in
    let a = c.args.allocation in
    let room = room_frame a p (has_room p c.program_extent-extent.ensures.kept) in
    omega (
      arith,
      ap declared_words (is_laid a p c.in_ok-laid.ensures c.homes.ensures c.as_slice-declared.ensures.value),
      c.controls.ensures,
      c.program_extent-extent.ensures.depth,
      room,
    )

-- the layout is the program's
framed : (a : Allocation) (p : StraightProgram) {declared : List FlatVariable} {controls depths : ℕ} (layout : Frame)
    → layout ≡ record { declared = declared; controls = controls; depths = depths; allocation = a }
    → declared ≡ laid_out a p → controls ≡ p.controls → depths ≡ depth_in_all p.body → IsFitting p a
    → IsFitting p layout.allocation × (layout ≡ frame_of layout.allocation p)
framed a p layout is one two three fits =
    let laid : layout ≡ frame_of a p = is ∙ rw (one, two, three) in
    rw laid (fits, refl)

pub code_within-requires : goal.code_within-requires
code_within-requires c =
    let p = c.args.straight.now in
    let a = c.args.allocation in
    let laid = framed a p c.new-layout.result c.new-layout.ensures
    (is_laid a p c.in_ok-laid.ensures c.homes.ensures c.as_slice-declared.ensures.value) c.controls.ensures
    c.program_extent-extent.ensures.depth c.requires in
    record { room = has_room p c.program_extent-extent.ensures.kept; fitting = laid.0; frame = laid.1 }

pub listed-requires : goal.listed-requires
listed-requires c =
    let p = c.args.straight.now in
    let a = c.args.allocation in
    let laid = framed a p c.new-layout.result c.new-layout.ensures
    (is_laid a p c.in_ok-laid.ensures c.homes.ensures c.as_slice-declared.ensures.value) c.controls.ensures
    c.program_extent-extent.ensures.depth c.requires in
    record {
      room = has_room p c.program_extent-extent.ensures.kept;
      fitting = laid.0;
      frame = laid.1;
      height = c.program_extent-extent.ensures.height;
      few = c.program_extent-extent.ensures.few;
      code = search rules;
      within = search rules;
    }

-- the code in the layout, which is short
short : (a : Allocation) (p : StraightProgram) (layout : Frame) → layout.allocation ≡ a → (code : List Instr)
    → code ≡ program_code layout.allocation p → length code ≤ most_words p.nodes
    → length (program_code a p) ≤ most_words p.nodes
short a p layout given code is few =
    subst (λ (b : Allocation). length (program_code b p) ≤ most_words p.nodes) given
    (subst (λ (code : List Instr). length code ≤ most_words p.nodes) is few)

pub returns-clause-generated : goal.returns-clause-generated
returns-clause-generated c =
    let p = c.args.straight.now in
    let a = c.args.allocation in
    let given : c.new-layout.result.allocation ≡ a = ap (λ (f : Frame). f.allocation) c.new-layout.ensures in
    let few = short a p c.new-layout.result given c.in-Some.code.items
    (rw c.in-Some.is at c.in_ok-code.ensures.code) (rw c.in-Some.is at c.in_ok-code.ensures.within) in
    subst (λ (fields : Fields). IsGenerated p fields)
    (sym (c.new.ensures ∙ (c.in_ok-fields.ensures.exact ∙ ap (λ (b : Allocation). image_of b p) given)))
    (is_generated a p (has_room p c.program_extent-extent.ensures.kept) c.requires few)

pub returns-clause-exact : goal.returns-clause-exact
returns-clause-exact c =
    let p = c.args.straight.now in
    let a = c.args.allocation in
    let given : c.new-layout.result.allocation ≡ a = ap (λ (f : Frame). f.allocation) c.new-layout.ensures in
    let few = short a p c.new-layout.result given c.in-Some.code.items
    (rw c.in-Some.is at c.in_ok-code.ensures.code) (rw c.in-Some.is at c.in_ok-code.ensures.within) in
    ap Some (c.new.ensures ∙ (c.in_ok-fields.ensures.exact ∙ ap (λ (b : Allocation). image_of b p) given))
    ∙ sym (image_there a p few)
