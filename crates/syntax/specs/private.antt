-- Words that the contracts of private functions cite, and no public one: they follow the parser token by token.
pub mod Machine
pub mod ParserViews
