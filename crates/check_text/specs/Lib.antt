-- The reply of Check as text.
pub mod CheckAnswers
pub mod laws
pub mod replies
