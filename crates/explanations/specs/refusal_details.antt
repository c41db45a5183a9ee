pub mod Details
pub mod ExpectedLines
pub mod SizeLines
pub mod TypeLines
pub mod WhyLines
