use Rattle.run_reports.proofs.pictures_lemmas.Filled.{adds_mark}
use Rattle.run_reports.proofs.pictures.grid.Grid.put.Goals as goal

pub returns-clause-put : goal.returns-clause-put
returns-clause-put c =
    let grid = c.args.self.now in
    let number = c.cell_number-number in
    adds_mark grid.axes c.args.mark grid.cells.items number.result c.index.result.now c.joined.result
    number.ensures.exact number.ensures.inside c.index.ensures c.joined.ensures
