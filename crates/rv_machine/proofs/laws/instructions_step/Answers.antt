use Rattle.rv_machine.proofs.InstructionSteps as laws
use Rattle.rv_machine.proofs.laws.instructions_step.Goals as goal

pub returns : goal.returns
returns c = record {
  upper = laws.upper_leads;
  immediate = laws.immediate_leads;
  register = laws.register_leads;
  load = laws.load_leads;
  store = laws.store_leads;
  ecall = laws.ecall_halts;
  ebreak = laws.ebreak_halts;
  shift = laws.shift_leads;
  multiply = laws.multiply_leads;
  divide = laws.divide_leads;
  fence = laws.fence_leads;
  jump = laws.jump_leads;
  jump_register = laws.jump_register_leads;
  branch_taken = laws.branch_leads;
  branch_not_taken = laws.branch_passes;
}
