pub mod FreeBitLaws
pub mod NeverStuck
pub mod RefillLaws
pub mod WholeBits
pub mod MarkedSound
pub mod RegatheredSound
pub mod ReleasedSound
pub mod ReleaseCodeLaws
