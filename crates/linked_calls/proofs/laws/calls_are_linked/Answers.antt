use Rattle.linked_calls.proofs.Calling.{calls_are_linked_from}
use Rattle.linked_calls.proofs.EnteringLeads.{enters}
use Rattle.linked_calls.proofs.LeavingEverywhere.{leaves}
use Rattle.linked_calls.proofs.laws.calls_are_linked.Goals as goal

pub returns : goal.returns
returns c = calls_are_linked_from enters leaves
