use Rattle.std.proofs.Common.{◌≡◌, ◌^◌, ◌<◌, drop}
use Rattle.std.specs.Option.{option_map}
use Rattle.input_files.specs.Below.{number_after}
use Rattle.input_files.specs.harts_file.private.Reading.{held_number}
use Rattle.input_files.proofs.harts_file.numerals.decimal.Given as goal

-- the number so far, followed by what is left, is what the digits spell
abbrev pub invariant-loop-byte : goal.invariant-loop-byte
invariant-loop-byte l = record {
  fits : l.number < 2 ^ 64;
  goes_on : option_map held_number (number_after 10 l.number (drop l.byte-index l.byte-items))
      ≡ option_map held_number (number_after 10 0 l.byte-items);
}
