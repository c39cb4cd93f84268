pub mod CapKinds
