use Rattle.std.proofs.Common.{◌≡◌, map, take, drop, Some, None}
use Rattle.std.specs.Option.{option_map}
use Rattle.image_reports.specs.Below.{fault_from, words_of}
use Rattle.image_reports.specs.certificates.Given.{fault_of_given}
use Rattle.image_reports.specs.certificates.Texts.{numbers_given, rule_of_given_text}
use Rattle.image_reports.proofs.certificates.reading.read_given.Given as goal

abbrev pub invariant-loop-index : goal.invariant-loop-index
invariant-loop-index l = record {
  found : map (λ one. Some (option_map words_of one)) l.given.items
      ≡ map (λ text. numbers_given text.now) (take l.index l.texts);
  faultless : fault_of_given (take l.index l.params) l.given.items ≡ None;
  left : fault_from (λ param text. rule_of_given_text param text.now) l.index (drop l.index l.params)
      (drop l.index l.texts) ≡ None;
}
