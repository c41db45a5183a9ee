pub mod ImageText
