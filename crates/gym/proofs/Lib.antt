-- Laws of the words and of the replies, and that enough is read. Assumes nothing.
pub mod WordLaws
pub mod ReplyLaws
pub mod NumberedLaws
pub mod ReadEnough
