-- What this crate takes from the specs of the crates below, in one place.
pub use Rattle.word.specs.Places.{origin}
pub use Rattle.word.specs.declared.place.Place.{Place}
pub use Rattle.language.specs.WantOfMemory.{IsWantOfMemory}
pub use Rattle.language.specs.declared.operators.BinaryOperator.{BinaryOperator}
pub use Rattle.language.specs.declared.operators.PrefixOperator.{PrefixOperator}
pub use Rattle.language.specs.declared.refusal.Refusal.{Refusal}
pub use Rattle.language.specs.declared.rule.Rule.{Rule}
pub use Rattle.language.specs.declared.rule.Rule.TheVariants.{BadNumber, UnexpectedToken, UnknownCharacter}
pub use Rattle.language.specs.declared.signature.Kind.{Kind}
pub use Rattle.language.specs.declared.signature.Kind.TheVariants.{Uint16, Uint32, Uint8}
pub use Rattle.language.specs.declared.why.Why.TheVariants.{Plain}
