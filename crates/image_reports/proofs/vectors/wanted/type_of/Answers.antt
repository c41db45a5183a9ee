use Rattle.std.proofs.Common.{◌≤◌, length, refl, arith}
use Rattle.std.proofs.lemmas.List.Elements.{All-from_get_or}
use Rattle.image_reports.specs.Below.{FixedArray, Param, Public, Uint32}
use Rattle.image_reports.proofs.vectors_lemmas.SpellLemmas.{words_unbroken}
use Rattle.image_reports.proofs.vectors.wanted.type_of.Goals as goal

pub returns : goal.returns
returns c =
    let words = c.args.words.now in
    let param : Param = record { kind = Uint32; label = Public; form = FixedArray; length = length words } in
    λ text is. words_unbroken param words text refl refl refl
    (All-from_get_or (λ word. word ≤ 4294967295) words 0 (λ i h. omega (arith, c.type_inv.words i))) is
