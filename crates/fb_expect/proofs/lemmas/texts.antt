pub mod TextParts
pub mod Digits
pub mod JoinedTexts
pub mod LinesOfTwo
pub mod Completing
pub mod FedLines
pub mod ShownTexts
