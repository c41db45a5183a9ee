-- The laws of pieces of code, in one place for the proofs above.
pub use Rattle.expression_code.proofs.program_logic_lemmas.Jumps.{branching_at}
pub use Rattle.expression_code.proofs.program_logic_lemmas.Loops.{looping}
pub use Rattle.expression_code.proofs.program_logic_lemmas.Marks.{MarkKind, MarkKnown, by_mark}
pub use Rattle.expression_code.proofs.program_logic_lemmas.Pieces.{All-one, along, along_fit, as_code, beside, by_test}
pub use Rattle.expression_code.proofs.program_logic_lemmas.Pieces.{cheaper}
pub use Rattle.expression_code.proofs.program_logic_lemmas.Pieces.{counting, ends_on, gives, idle, never, no_code}
pub use Rattle.expression_code.proofs.program_logic_lemmas.Pieces.{quiet, quietly, seq, step_ends, weaken}
pub use Rattle.expression_code.proofs.program_logic_lemmas.PlacedLaws.{Placed-left, Placed-right, stands}
pub use Rattle.expression_code.proofs.program_logic_lemmas.StraightRuns.{both_left, both_right, found, one_allowed}
pub use Rattle.expression_code.proofs.program_logic_lemmas.StraightRuns.{straight_code_leads}
pub use Rattle.expression_code.proofs.program_logic_lemmas.StraightRuns.{first_fit, first_met, rest_fit, rest_met}
pub use Rattle.expression_code.proofs.program_logic_lemmas.Symbols.{by_symbols, byte_after, byte_kept, data_kept}
pub use Rattle.expression_code.proofs.program_logic_lemmas.Symbols.{register_after, register_kept}
pub use Rattle.expression_code.proofs.program_logic_lemmas.StepLaws.{all_keep, all_show, both_within, leads_alone}
pub use Rattle.expression_code.proofs.program_logic_lemmas.StepLaws.{LeadsBy-append, LeadsBy-weaken, one_by}
pub use Rattle.expression_code.proofs.program_logic_lemmas.StepLaws.{still_there}
pub use Rattle.expression_code.specs.program_logic.Pieces.{Became, Runs, PieceSetting, Still, RunsAt, Then, always}
pub use Rattle.expression_code.specs.program_logic.Pieces.{none}
pub use Rattle.expression_code.specs.program_logic.Placed.{Placed}
pub use Rattle.expression_code.specs.program_logic.StraightCode.{AreFit, AreMet, Contents, IsFit, IsMet, after}
pub use Rattle.expression_code.specs.program_logic.StraightCode.{after_all}
pub use Rattle.expression_code.specs.program_logic.StraightCode.{are_straight, contents_of, number_or_zero, shown_by}
pub use Rattle.expression_code.specs.program_logic.StraightCode.{with_result}
pub use Rattle.expression_code.specs.program_logic.MachineSteps.{at_most, Bound, exactly, LeadsBy, LeadsWithin}
