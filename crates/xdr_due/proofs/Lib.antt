pub mod Inside
pub mod Middle
pub mod Next
