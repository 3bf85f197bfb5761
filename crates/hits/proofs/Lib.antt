pub mod HitLoops
