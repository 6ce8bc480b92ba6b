-- What the plain types mean in document 01's terms, and what a lent memory keeps of them.
-- "Taken from the repository": the record
pub mod Records
-- "Numbers given back": numbers and values of answers; "Comparing two chains": its sides and outcomes
pub mod Answers
-- "Forms that change": words of a memory as records, and the words that stand for one, of the types and of the model
pub mod Words
pub mod Writing
pub mod Telling
