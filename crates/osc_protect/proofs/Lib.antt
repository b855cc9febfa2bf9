mod OrderLaws
pub mod ValuePartialIv
pub mod ValueLaws
pub mod ValueWriting
pub mod LawAad
pub mod LawMessages
mod AadLemmas
mod LengthLemmas
mod OuterLaws
pub mod SealLaws
