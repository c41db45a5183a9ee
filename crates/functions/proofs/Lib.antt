pub mod function_code_lemmas
pub mod function_text_lemmas
pub mod Steps
