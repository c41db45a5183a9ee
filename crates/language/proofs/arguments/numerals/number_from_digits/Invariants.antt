use Rattle.std.proofs.Common.{◌≡◌, ◌-◌, ◌^◌, ◌<◌, min, drop}
use Rattle.std.specs.Option.{option_map}
use Rattle.language.specs.arguments.Texts.{number_after}
use Rattle.language.proofs.arguments.numerals.number_from_digits.Given as goal

-- the number so far, followed by what is left, is what the digits spell
abbrev pub invariant-loop-byte : goal.invariant-loop-byte
invariant-loop-byte l = record {
  fits : l.number < 2 ^ 64;
  goes_on : option_map (λ n. min n (2 ^ 64 - 1)) (number_after l.base l.number (drop l.byte-index l.byte-items))
      ≡ option_map (λ n. min n (2 ^ 64 - 1)) (number_after l.base 0 l.byte-items);
}
