pub mod ReadLaws
pub mod PrintLaws
pub mod RoundTrip
