pub mod AnsweringSound
