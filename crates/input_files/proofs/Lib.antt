pub mod stream_build_lemmas
pub mod wrapping_lemmas
pub mod harts_file_lemmas
