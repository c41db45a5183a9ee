use Rattle.std.proofs.Common.{◌≡◌, codes}
use Rattle.std.specs.String.{string_bytes}
use Rattle.std.proofs.lemmas.Option.{none-some}
use Rattle.std.proofs.lemmas.Result.{IfOk-weaker}
use Rattle.listing.specs.Below.{text_of}
use Rattle.listing.specs.Code.{IsTextOf, of_instruction, of_no_instruction}
use Rattle.listing.proofs.words.text_of.Goals as goal

pub returns-in-Some : goal.returns-in-Some
returns-in-Some c =
    let i = c.in-Some.instruction in
    let found = c.in-Some.ensures.found in
    IfOk-weaker c.format.result (λ s. string_bytes s ≡ text_of i) (λ s. IsTextOf c.args.word (string_bytes s))
    (λ s is. rw is (of_instruction i found.0 found.1)) c.format.ensures.ok

pub returns-in-None : goal.returns-in-None
returns-in-None c =
    IfOk-weaker c.from_str.result (λ s. string_bytes s ≡ codes "illegal")
    (λ s. IsTextOf c.args.word (string_bytes s))
    (λ s is. rw is (of_no_instruction (λ i in_range is. none-some _ (c.in-None.ensures.only i in_range is))))
    c.from_str.ensures.ok
