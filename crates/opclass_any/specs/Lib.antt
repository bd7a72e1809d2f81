pub mod AnyClass
pub mod ClassLaws
