pub mod run_places_lemmas
pub mod progress_lemmas
pub mod origins_lemmas
pub mod pictures_lemmas
