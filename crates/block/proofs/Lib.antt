-- The laws of the crate. Callers cite `WordLaws`, that what was written decodes to what it means, `TellingLaws`, which words it is told with, and `AnswerLaws`, that a number
-- tells its answer.
pub mod WordLaws
pub mod TellingLaws
pub mod TimeLaws
pub mod HeaderLaws
pub mod AnswerLaws
