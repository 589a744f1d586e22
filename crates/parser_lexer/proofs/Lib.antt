-- The laws that the lexer's functions go by.
pub mod CharacterLaws
pub mod NameLaws
pub mod CommentLaws
pub mod NumberLaws
pub mod StringLaws
pub mod LexemeLaws
pub mod SizeLaws
pub mod AheadLaws
pub mod SortLaws
