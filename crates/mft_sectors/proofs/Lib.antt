pub mod SectorLaws
pub mod SignatureLaws
pub mod HomeLaws
pub mod ReadLaws
pub mod StoredLaws
