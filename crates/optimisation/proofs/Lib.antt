pub mod constants_lemmas
pub mod high_products_lemmas
pub mod iteration_groups_lemmas
