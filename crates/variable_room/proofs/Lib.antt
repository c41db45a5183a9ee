pub mod needed_variables_lemmas
pub mod number_words_lemmas
pub mod set_first_lemmas
pub mod set_whole_lemmas
