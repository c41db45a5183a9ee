use Rattle.std.proofs.Common.{◌≡◌, map, take, drop, Some, None}
use Rattle.language.specs.arguments.Faults.{fault_from}
use Rattle.language.specs.arguments.Texts.{numbers_of, rule_of_text}
use Rattle.language.specs.arguments.Within.{words_of, AreWithin}
use Rattle.language.proofs.arguments.texts.read.Given as goal

abbrev pub invariant-loop-index : goal.invariant-loop-index
invariant-loop-index l = record {
  spelled : map (λ arg. Some (words_of arg)) l.args.items ≡ map (λ text. numbers_of text.now) (take l.index l.texts);
  within : AreWithin (take l.index l.params) l.args.items;
  left : fault_from (λ param text. rule_of_text param text.now) l.index (drop l.index l.params) (drop l.index l.texts)
      ≡ None;
}
