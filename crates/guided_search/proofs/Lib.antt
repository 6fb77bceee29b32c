pub mod DecidedKinds
