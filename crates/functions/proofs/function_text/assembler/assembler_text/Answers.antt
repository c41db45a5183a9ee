use Rattle.std.specs.String.{string_bytes}
use Rattle.functions.specs.function_text.Functions.{parts_of}
use Rattle.functions.proofs.function_text_lemmas.AssembledLemmas.{assembled}
use Rattle.functions.proofs.function_text.assembler.assembler_text.Goals as goal

pub returns : goal.returns
returns c =
    assembled c.args.notation (parts_of c.args.function.now) (string_bytes c.new-text.result)
    (string_bytes c.push_head.new.text) (string_bytes c.push_entry.new.text) (string_bytes c.push_body.new.text)
    (string_bytes c.push_exit.new.text) (string_bytes c.push_tail.new.text) c.in_ok-body_start.body_start
    c.in_ok-exit_start.exit_start c.new-text.ensures.bytes c.in_ok-push_head.ensures
    c.in_ok-body_start.ensures.written c.in_ok-body_start.ensures.ends c.in_ok-exit_start.ensures.written
    c.in_ok-exit_start.ensures.ends c.in_ok-push_exit.ensures c.in_ok-push_tail.ensures
