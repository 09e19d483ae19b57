pub mod TenthsLaws
