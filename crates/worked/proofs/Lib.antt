pub mod TenLines
pub mod MovedBack
pub mod WorkedPair
pub mod WorkedFormer
pub mod WrongAnswers
pub mod WrongHistories
pub mod WrongTold
pub mod Constants
