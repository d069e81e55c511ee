pub mod Reading
pub mod Columns
pub mod Placing
pub mod RoundTrip
