pub mod Day
pub mod Page
