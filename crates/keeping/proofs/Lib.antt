pub mod SoughtLaws
pub mod Looking
pub mod ListLaws
pub mod Growing
