pub mod NothingLaidOut
