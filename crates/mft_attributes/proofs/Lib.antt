pub mod FilenameLaws
pub mod LieLaws
pub mod TwoRunLaws
