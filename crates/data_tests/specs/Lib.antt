pub mod FiveColumns
