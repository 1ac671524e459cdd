pub mod JournalFile
pub mod Waiting
