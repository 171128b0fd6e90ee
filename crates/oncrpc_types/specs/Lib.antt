pub mod TypesEnd
