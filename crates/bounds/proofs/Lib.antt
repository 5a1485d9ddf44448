pub mod EqualLaws
pub mod LimitLaws
pub mod EntryTrip
pub mod BoundTrip
pub mod BoundSize
pub mod WriterLaws
