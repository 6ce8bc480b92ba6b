-- Steps at one place: what its effective copy says, how the counts follow, and what each step moves.
pub mod Status
pub mod Steps
pub mod Admits
