pub mod Bytes
pub mod Reading
pub mod RoundTrip
pub mod Examples
