pub mod Decayed
