pub mod Cutting
pub mod Decimals
pub mod Lining
pub mod ReadBack
pub mod Rowing
