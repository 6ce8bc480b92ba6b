-- Laws; each function's own proof stands in a folder of its name.
pub mod BlockLaws
pub mod GatherLaws
pub mod OurLaws
pub mod OursLaws
pub mod PeerLaws
pub mod ProvenLaws
pub mod SideLaws
pub mod ScanLaws
