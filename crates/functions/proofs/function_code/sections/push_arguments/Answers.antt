use Rattle.std.proofs.Common.{refl}
use Rattle.std.proofs.lemmas.List.{drop_more}
use Rattle.functions.specs.Below.{argument_sections}
use Rattle.functions.proofs.Steps.{all_made, one_counted, one_more}
use Rattle.functions.proofs.function_code.sections.push_arguments.Goals as goal

pub loop-slot-preserved : goal.loop-slot-preserved
loop-slot-preserved c =
    let l = c.loop-slot in
    let slots = c.args.slots.now in
    let some = c.loop-slot-test.true in
    record {
      made = one_more (argument_sections c.args.spared.now l.index) slots l.slot-index _ _ _ l.sections.items _ _
          (drop_more slots l.slot-index _ some) refl c.in_ok-push_argument.ensures l.invariant.made;
      count = one_counted slots l.slot-index l.index _ some l.invariant.count;
    }

pub returns : goal.returns
returns c =
    let l = c.loop-slot in
    all_made (argument_sections c.args.spared.now l.index) c.args.slots.now l.slot-index l.sections.items _ refl
    c.loop-slot-test.false l.invariant.made
