-- What this crate takes from the specs of the crates below, in one place.
pub use Rattle.word.specs.Counts.{one_more}
pub use Rattle.word.specs.declared.profile.Profile.{Profile}
pub use Rattle.streams.specs.Streams.{GainsPart, LosesPart, Writes, WritesPart}
pub use Rattle.language.specs.Limits.{most_declared_bytes}
pub use Rattle.language.specs.Rules.{refusal_text}
pub use Rattle.language.specs.Signature.{param_of}
pub use Rattle.language.specs.Tree.{ProcedureTree, program_tree, ProgramTree}
pub use Rattle.language.specs.WantOfMemory.{IsWantOfMemory}
pub use Rattle.language.specs.arguments.Texts.{number_after, number_in}
pub use Rattle.language.specs.declared.refusal.Refusal.{Refusal}
pub use Rattle.language.specs.declared.rule.Rule.TheVariants.{OutOfMemory, TextTooLong}
pub use Rattle.language.specs.declared.signature.Param.{Param}
pub use Rattle.language.specs.declared.typing.WordType.{WordType}
pub use Rattle.inline.specs.Flat.{declaration_of}
pub use Rattle.inline.specs.FlatSize.{declared_words, HasLength}
pub use Rattle.expression_code.specs.Layout.{slots_from}
pub use Rattle.expression_code.specs.image_fields.Fields.{Fields, IsImage, IsResultSlot, result_end, slots_end}
pub use Rattle.expression_code.specs.declared.image_fields.slot.ResultSlot.{ResultSlot}
pub use Rattle.tokens.specs.Limits.{source_limit}
pub use Rattle.image.specs.Reading.{AreBytes, is_frame_size, is_step_limit, is_word_count, layout_end, Spells}
pub use Rattle.hepurita.specs.Bases.{most_images}
pub use Rattle.hepurita.specs.Built.{accepts, fine, IsBuilt, Judges, readable}
pub use Rattle.hepurita.specs.Told.{IsRefusalOf}
pub use Rattle.harts.specs.Refused.{most_turns}
pub use Rattle.harts.specs.declared.fault.HartsRule.{HartsRule}
pub use Rattle.harts.specs.declared.fault.HartsRule.TheVariants.{HartCount, LineForm, NoSuchHart, TooManyTurns}
