-- What a source costs, as lines.
use Rattle.std.specs.Prelude.{◌≡◌, ℕ, List, [], ◌++◌, codes, Option, None, Some}
use Rattle.std.specs.Fmt.{decimal}
use Rattle.image_reports.specs.Below.{accepts, bodies_cost, bytes_cost, extents_of, Fields, flattened, image_for}
use Rattle.image_reports.specs.Below.{Judges, nodes_cost, Optimisation, ProcedureTree, Profile, ProgramTree, ranged}
use Rattle.image_reports.specs.Below.{RangedProgram, work_cost}
use Rattle.language.specs.declared.cost.Cost.{Cost}
use Rattle.language.specs.declared.why.Share.{Share}
use Rattle.image_reports.specs.source_places.Placed.{placed_text}
use Rattle.image_reports.specs.statistics.FieldsText.{fields_text}

-- the nodes of a body, its work, and the fields of an image
abbrev pub costs_text : RangedProgram → Fields → List ℕ
costs_text body fields =
    codes "nodes " ++ decimal body.flat.nodes ++ codes "\nwork " ++ decimal body.work ++ codes "\n"
    ++ fields_text fields

-- the first of the parts that have most of something: how much, and where it stands, by the lines of libraries
abbrev pub most_line : List (List ℕ × ℕ) → List ℕ → Option Share → List ℕ
most_line by_lines name None = []
most_line by_lines name (Some p) =
    codes "most "
    ++ (name ++ (codes " " ++ (decimal p.count ++ (codes " at " ++ (placed_text by_lines p.place ++ codes "\n")))))

-- of an export behind the procedures that it may call: the bodies that are open at once, the declared bytes, and the
-- parts with most nodes, most declared bytes and most work
abbrev pub size_text : List (List ℕ × ℕ) → Cost → Cost → Cost → Cost → List ℕ
size_text by_lines nodes bodies bytes work =
    codes "bodies " ++ (decimal bodies.whole ++ (codes "\ndeclared_bytes " ++ (decimal bytes.whole ++ (codes "\n"
    ++ (most_line by_lines (codes "nodes") nodes.largest
    ++ (most_line by_lines (codes "declared_bytes") bytes.largest
    ++ most_line by_lines (codes "work") work.largest))))))

abbrev pub size_lines : List (List ℕ × ℕ) → List ProcedureTree → ProcedureTree → List ℕ
size_lines by_lines before p = size_text by_lines (nodes_cost (extents_of before) p) (bodies_cost (extents_of before) p)
    (bytes_cost (extents_of before) p) (work_cost before p)

abbrev pub export_lines : List (List ℕ × ℕ) → Option (List ProcedureTree × ProcedureTree) → List ℕ
export_lines by_lines None = []
export_lines by_lines (Some export) = size_lines by_lines export.0 export.1

-- the source is accepted, and the text has what its passes counted, the fields of its image, plain or optimised, and
-- the sizes of its export, with places in libraries of so many lines and in a file
pub record SaysCosts (optimisation : Optimisation) (profile : Profile) (source : List ℕ)
    (by_lines : List (List ℕ × ℕ)) (text : List ℕ) : Type 0 where
  pub program : ProgramTree
  pub before : List ProcedureTree
  pub export : ProcedureTree
  pub judged : Judges profile source (accepts program before export)
  pub printed : text
      ≡ costs_text (ranged (flattened profile before export)) (image_for optimisation profile before export)
      ++ size_lines by_lines before export
