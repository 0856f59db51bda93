pub mod ImageRead
