pub mod SerialColumn
