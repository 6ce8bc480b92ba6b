-- Laws of what both plans ask of the tree; each function's own proof stands in a folder of its name.
pub mod PlaceLaws
