pub mod Causes
pub mod Disk
pub mod Failing
pub mod Painting
pub mod Replay
pub mod ReplayLaws
pub mod Streams
