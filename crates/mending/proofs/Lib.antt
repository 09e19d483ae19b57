pub mod RowsMended
