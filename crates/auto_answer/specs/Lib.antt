pub mod AnsweredAt
pub mod Laws
