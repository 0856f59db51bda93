pub mod Page
pub mod PageCall
