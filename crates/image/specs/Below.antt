-- What this crate takes from the specs of the crates below, in one place.
pub use Rattle.word.specs.declared.profile.Profile.{Profile}
pub use Rattle.word.specs.declared.profile.Profile.TheVariants.{P1, P2}
pub use Rattle.language.specs.declared.signature.Form.{Form}
pub use Rattle.language.specs.declared.signature.Form.TheVariants.{FixedArray, MutableArray, SingleWord}
pub use Rattle.language.specs.declared.signature.Kind.{Kind}
pub use Rattle.language.specs.declared.signature.Kind.TheVariants.{Boolean, Uint16, Uint32, Uint8}
pub use Rattle.language.specs.declared.signature.Label.{Label}
pub use Rattle.language.specs.declared.signature.Label.TheVariants.{Public, Secret}
pub use Rattle.expression_code.specs.image_fields.Fields.{AreSlots, Fields, is_length, IsImage, IsResultSlot, IsSlot}
pub use Rattle.expression_code.specs.image_fields.Fields.{result_end, slot_end, slots_end}
pub use Rattle.expression_code.specs.image_fields.Limits.{most_frame_bytes, most_parameters, most_steps, most_words}
pub use Rattle.expression_code.specs.declared.image_fields.slot.ResultSlot.{ResultSlot}
pub use Rattle.expression_code.specs.declared.image_fields.slot.Slot.{Slot}
