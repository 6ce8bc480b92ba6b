-- What plans are asked with, and walks that they read and note.
pub mod Asking
pub mod Walked
