use Rattle.explanations.specs.Listed.{reading, names, types, names_and_types, labels, limits, inputs, executables, files}
use Rattle.explanations.specs.Listed.{runs, listed}
use Rattle.explanations.specs.Table.{table, reading_texts, name_texts, type_texts, name_and_type_texts, label_texts}
use Rattle.explanations.specs.Table.{limit_texts, input_texts, executable_texts, file_texts, run_texts}
use Rattle.explanations.proofs.EitherGroup.{either}
use Rattle.explanations.proofs.lookup.explanation.Goals as goal

pub returns : goal.returns
unfolding listed reading names types names_and_types labels limits inputs executables files runs table reading_texts
    name_texts type_texts name_and_type_texts label_texts limit_texts input_texts executable_texts file_texts run_texts
returns c =
    let two = either c.row.ensures c.row-2.ensures c.or.ensures in
    let three = either two c.row-3.ensures c.or-2.ensures in
    let four = either three c.row-4.ensures c.or-3.ensures in
    let five = either four c.row-5.ensures c.or-4.ensures in
    let six = either five c.row-6.ensures c.or-5.ensures in
    let seven = either six c.row-7.ensures c.or-6.ensures in
    let all = either seven c.row-8.ensures c.or-7.ensures in
    record { text = all.text; asked = all.asked; named = all.named; listed = all.known }
