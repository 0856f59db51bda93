mod AskedLaws
mod ReaderLaws
mod JobLaws
