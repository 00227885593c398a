pub mod Saved
pub mod SavedLaws
pub mod Entries
pub mod EntryLaws
pub mod LibraryCalls
pub mod LibraryCallLaws
