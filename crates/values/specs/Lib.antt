pub mod Writing
pub mod Count
pub mod BoxNumber
pub mod Answer
pub mod Examples
pub mod Boxes
pub mod AnswerValueLemmas
