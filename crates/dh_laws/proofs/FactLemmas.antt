-- What a command or a question looks at decides what it is answered.
pub mod Narrowed
pub mod Fit
pub mod Judged
pub mod Last
pub mod Asked
