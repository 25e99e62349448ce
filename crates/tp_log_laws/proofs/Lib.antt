pub mod TreesOn
pub mod Told
pub mod Lawful
pub mod Back
pub mod Asides
pub mod Freed
pub mod Still
pub mod Places
pub mod Names
pub mod OneAnswer
pub mod AlongAsks
pub mod AlongLoop
pub mod AlongTurn
mod OnTrust
