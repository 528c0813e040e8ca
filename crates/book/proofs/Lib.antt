pub mod ReaderLaws
pub mod Grammar
pub mod LineGrammar
pub mod LineLaws
pub mod HeadLaws
pub mod StackLaws
