pub mod Arguments
pub mod Laws
pub mod Numbers
pub mod Status
