use Rattle.language.proofs.ShareLemmas.{bodies_whole, bytes_whole, nodes_whole}
use Rattle.language.proofs.laws.shares_make_the_whole.Goals as goal

pub returns-clause-nodes : goal.returns-clause-nodes
returns-clause-nodes c = nodes_whole

pub returns-clause-bodies : goal.returns-clause-bodies
returns-clause-bodies c = bodies_whole

pub returns-clause-bytes : goal.returns-clause-bytes
returns-clause-bytes c = bytes_whole
