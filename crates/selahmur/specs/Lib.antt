pub mod StoredAnswer
