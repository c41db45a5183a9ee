pub mod over_lemmas
pub mod element_words_lemmas
pub mod live_words_lemmas
