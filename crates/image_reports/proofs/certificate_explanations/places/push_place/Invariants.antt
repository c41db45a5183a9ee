-- The address is in no argument so far, and nothing was put at the end.
use Rattle.std.proofs.Common.{◌≡◌, drop}
use Rattle.std.specs.String.{string_bytes}
use Rattle.image_reports.specs.Below.{frame_base}
use Rattle.image_reports.specs.certificate_explanations.Places.{place_text}
use Rattle.image_reports.proofs.certificate_explanations.places.push_place.Given as goal

abbrev pub invariant-loop-index : goal.invariant-loop-index
invariant-loop-index l = record {
  same : string_bytes l.text ≡ string_bytes l.fn.text;
  left : place_text frame_base l.index (drop l.index l.slots) l.address
      ≡ place_text frame_base 0 l.slots l.address;
}
