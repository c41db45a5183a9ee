use Rattle.explanations.proofs.refusal_details.size_lines.excess_line.Goals as goal

pub returns-in-Nodes : goal.returns-in-Nodes
returns-in-Nodes c = rw c.in-Nodes.is c.size_line.ensures

pub returns-in-Bodies : goal.returns-in-Bodies
returns-in-Bodies c = rw c.in-Bodies.is c.size_line-in-Bodies.ensures

pub returns-in-DeclaredBytes : goal.returns-in-DeclaredBytes
returns-in-DeclaredBytes c = rw c.in-DeclaredBytes.is c.size_line-in-DeclaredBytes.ensures

pub returns-in-Work : goal.returns-in-Work
returns-in-Work c = rw c.in-Work.is c.work_line.ensures
