pub mod After
pub mod OneContent
