pub mod Grammar
pub mod Parsing
pub mod GrammarLaws
pub mod Tokens
pub mod TokenLaws
pub mod LetterLaws
pub mod Examples
pub mod LineLaws
