pub mod Taking
pub mod Stops
pub mod Cursors
pub mod Left
