-- The laws of the calls on the holdings: inside the room, where a record goes, and the questions.
pub mod AskLaws
pub mod ChangesSteps
