pub mod Ends
pub mod Alone
pub mod Numbered
pub mod Places
pub mod Timed
pub mod Spans
pub mod Named
pub mod MpusOf
