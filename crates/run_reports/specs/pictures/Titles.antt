-- What was asked for, as it stands on a page, whatever bytes it has.
use Rattle.std.specs.Prelude.{ℕ, ◌+◌, ◌==◌, nat_lt, if◌then◌else◌, List, [], ◌∷◌, codes}
use Rattle.std.specs.List.{flat_map}

-- a byte: the signs of HTML by their names, and a control character by the picture that Unicode has of it, U+2400 for
-- 0 to U+241F for 31, and U+2421 for 127, which are three bytes of UTF-8
abbrev pub escaped_byte : ℕ → List ℕ
escaped_byte byte =
    if byte == 38 then codes "&amp;" else
    if byte == 60 then codes "&lt;" else
    if byte == 62 then codes "&gt;" else
    if byte == 34 then codes "&quot;" else
    if nat_lt byte 32 then 226 ∷ 144 ∷ (128 + byte) ∷ [] else
    if byte == 127 then 226 ∷ 144 ∷ 161 ∷ [] else byte ∷ []

-- each byte of a text
abbrev pub escaped : List ℕ → List ℕ
escaped text = flat_map escaped_byte text
