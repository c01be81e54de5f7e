pub mod Acts
pub mod FramingLaw
pub mod States
pub mod Lists
pub mod Rooms
pub mod Fixed
pub mod Replies
