pub mod Block
pub mod Containment
pub mod Curve
pub mod Kilowatts
pub mod Period
pub mod Rate
pub mod Table
