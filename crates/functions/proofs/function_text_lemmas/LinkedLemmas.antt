-- The image of a source's function is the one that the source is compiled to, so it is called as that one is. And the room
-- of a call is as large as its header says.
use Rattle.std.proofs.Common.{◌++◌, refl, ◌∙◌}
use Rattle.std.proofs.lemmas.List.{append_assoc}
use Rattle.functions.specs.function_text.HeaderText.{comment_lines, guard_lines, include_lines, prototype_lines}
use Rattle.functions.specs.function_text.Linked.{FunctionsAreLinked, HeadersStateStacks}
use Rattle.functions.specs.Below.{CallsAreLinked, room_of}

pub functions_are_linked : CallsAreLinked → FunctionsAreLinked
functions_are_linked calls optimisation profile prefix source parts of code site is =
    calls of.program of.before of.export parts.image parts.needs parts.pace of.compilation.compiled of.started
    of.compilation.allowed code site is

pub headers_state_stacks : HeadersStateStacks
headers_state_stacks optimisation profile prefix notation source assembler header texts =
    let f = texts.parts in
    record {
      bytes = room_of f.image;
      before = comment_lines f ++ guard_lines f.name ++ include_lines;
      behind = prototype_lines f;
      stated = texts.declared ∙ simp append_assoc;
      room = λ site. refl;
      free = λ code site is. is.room;
    }
