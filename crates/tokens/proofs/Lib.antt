pub mod TokenBytes
pub mod TokenRuns
pub mod TokenShapes
pub mod TokenSigns
pub mod TokenPieces
pub mod TokenNumbers
pub mod TokenLaws
pub mod TokenSteps
