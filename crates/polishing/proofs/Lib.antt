pub mod HeadLaws
pub mod PassLaws
pub mod WindowPassLaws
pub mod Laws
pub mod AnswerLaws
pub mod Promises
