-- The standard bases serve each compiled image, and so do those of several side by side.
use Rattle.std.proofs.Common.{ℕ, ◌+◌, ◌*◌, ◌<◌, ◌≤◌, List, arith}
use Rattle.hepurita.specs.Below.{AreBases, extents_of, Fields, most_nodes, nodes_of, ProcedureTree, Profile}
use Rattle.hepurita.specs.Below.{ProgramTree}
use Rattle.hepurita.specs.Bases.{code_base, frame_base, most_images, code_distance, frame_distance}
use Rattle.hepurita.specs.Compiled.{IsCompiled}
use Rattle.hepurita.specs.Built.{JudgesProgram, accepts}
use Rattle.hepurita.proofs.Below.{few_of}
use Rattle.hepurita.proofs.JudgementLemmas.{of_accepted}

pub standard_bases : (program : ProgramTree) (before : List ProcedureTree) (p : ProcedureTree) (image : Fields)
    (k : ℕ) → IsCompiled program before p image → nodes_of (extents_of before) p ≤ most_nodes → k < most_images
    → AreBases image (code_base + code_distance * k) (frame_base + frame_distance * k)
standard_bases program before p image k is small below = record {
  code_aligned = omega arith;
  frame_aligned = omega arith;
  code_ends = omega (arith, is.word_count);
  frame_ends = omega (arith, is.frame_size);
}

-- so they serve the image of an accepted program's export
pub bases_of : (profile : Profile) (program : ProgramTree) (before : List ProcedureTree) (export : ProcedureTree)
    (image : Fields) → JudgesProgram profile program (accepts program before export)
    → IsCompiled program before export image → (k : ℕ) → k < most_images
    → AreBases image (code_base + code_distance * k) (frame_base + frame_distance * k)
bases_of profile program before export image judged compiled k below =
    let small = (of_accepted profile program program before export judged).0 in
    standard_bases program before export image k compiled (few_of (extents_of before) export small.sized).nodes below
