pub mod ClassLaws
pub mod KeptLaws
pub mod SiteLaws
