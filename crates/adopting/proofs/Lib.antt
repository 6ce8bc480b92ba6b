-- Laws of Adopt; each function's own proof stands in a folder of its name.
pub mod ListLaws
pub mod RankLaws
pub mod SearchLaws
pub mod AdoptLaws
