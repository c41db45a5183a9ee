pub mod Below
pub mod AssembledLemmas
pub mod SharedTexts
pub mod FunctionLemmas
pub mod TextLaws
pub mod WordLines
pub mod SectionTexts
pub mod LinkedLemmas
