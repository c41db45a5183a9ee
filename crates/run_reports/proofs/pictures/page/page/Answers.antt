use Rattle.std.proofs.Common.{◌≡◌, length, ap, arith}
use Rattle.std.proofs.lemmas.Grind.{common_steps}
use Rattle.run_reports.proofs.pictures_lemmas.Sizes.{page_size}
use Rattle.run_reports.proofs.pictures.page.page.Goals as goal

pub returns-clause-exact : goal.returns-clause-exact
returns-clause-exact c = grind (arith, common_steps)

pub returns-clause-small : goal.returns-clause-small
returns-clause-small c =
    let grid = c.args.grid.now in
    let all : length grid.cells.items ≡ 33024 = omega arith in
    omega (
      arith,
      ap length (returns-clause-exact c),
      page_size grid.axes grid.cells.items c.args.asked.now c.args.said.now c.args.told.now all,
    )
